-- Reaches depend on which edges there are, and not on how often or in which order they are listed, nor on how each is written.
-- Assumes nothing.
use mathlib.Core.Path.{◌≡◌, refl, ap₂, ◌∙◌}
use mathlib.Core.Logic.{by_cases}
use mathlib.Core.Bool.{false, ◌&&◌, ◌||◌}
use mathlib.Core.List.{List, [], ◌∷◌, Memᴰ}
use Prim.Native.Nat.{ℕ, ◌≤◌}
use native.Mathlib.Nat.{min-eq_left, min-eq_right, max-eq_left, max-eq_right}
use native.Mathlib.Decide.{dec_le}
use native.Mathlib.Omega.{arith}
use lib.Dec.{eqb}
use Rattle.game.specs.Edge.{Edge, ◌─◌, lower, upper}
use Rattle.game.specs.Graph.{Same}
use Rattle.game.specs.Table.{one_if, count, some_entry}
use Rattle.game.specs.Tree.{ancestors, under}
use Rattle.game.specs.Net.{enters, reach}
use Rattle.game.proofs.Bools.{bool_iff, or_comm}
use Rattle.game.proofs.Order.{some-order}
use Rattle.reach_slots.specs.InSlots.{upward}
use Rattle.reach_slots.proofs.Counts.{entry-some, some-entry-in, count-ext}

module _ (p : List ℕ) where
  -- which way round an edge is written does not matter
  enters-turn : (x y a b : ℕ) → enters p x y (b ─ a) ≡ enters p x y (a ─ b)
  unfolding enters
  enters-turn x y a b = or_comm (eqb b y && under p x a) (eqb a y && under p x b)

  enters-upward : (x y : ℕ) (e : Edge) → enters p x y (lower e ─ upper e) ≡ enters p x y e
  unfolding lower upper
  enters-upward x y (a ─ b) =
      by_cases (dec_le a b)
      (λ (h : a ≤ b). rw (min-eq_left h, max-eq_right h))
      (λ (h : ¬ (a ≤ b)).
      let l : b ≤ a = omega arith in
      rw (min-eq_right l, max-eq_left l) (enters-turn x y a b))

  some-upward : (x y : ℕ) (es : List Edge) → some_entry (enters p x y) (upward es) ≡ some_entry (enters p x y) es
  unfolding some_entry upward
  some-upward x y [] = refl
  some-upward x y (e ∷ es) = ap₂ (λ a b. a || b) (enters-upward x y e) (some-upward x y es)

  -- lists with the same edges, those of the second written upward, give the same reaches
  pub reach-same : {es : List Edge} (fs : List Edge) → ((e : Edge) → Memᴰ e es → Memᴰ e (upward fs)) → ((e : Edge) → Memᴰ e (upward fs) → Memᴰ e es)
      → (x : ℕ) → reach p es x ≡ reach p fs x
  unfolding reach
  reach-same {es} fs f g x =
      count-ext (λ y. some_entry (enters p x y) es) (λ y. some_entry (enters p x y) fs) (ancestors p x)
      (λ y m.
      bool_iff (some_entry (enters p x y) es) (some_entry (enters p x y) (upward fs))
      (λ t. let (e, i, h) = some-entry-in (enters p x y) es t in entry-some (enters p x y) (f e i) h)
      (λ t. let (e, i, h) = some-entry-in (enters p x y) (upward fs) t in entry-some (enters p x y) (g e i) h)
      ∙ some-upward x y fs)

  -- the same edges, in any order and each either way round
  pub reach-order : {es fs : List Edge} → Same es fs → (x : ℕ) → reach p es x ≡ reach p fs x
  unfolding reach
  reach-order {es} {fs} s x =
      count-ext (λ y. some_entry (enters p x y) es) (λ y. some_entry (enters p x y) fs) (ancestors p x) (λ y m. some-order (enters p x y) (enters-turn x y) s)

count-never : {A : Type 0} (xs : List A) → count (λ (a : A). false) xs ≡ 0
unfolding count one_if
count-never [] = refl
count-never (x ∷ xs) = omega (arith, count-never xs)

-- no edge, no reach
pub reach-none : (p : List ℕ) (x : ℕ) → reach p [] x ≡ 0
unfolding reach some_entry
reach-none p x = count-never (ancestors p x)
