-- One edge more: how the reaches grow when an edge from u up to y is visited after the edges of a list. They grow by 1 on a
-- path from u, that ends where y is met or where the subtree has an edge of y already.
-- Assumes nothing.
use mathlib.Core.Path.{◌≡◌, refl, sym, ◌∙◌}
use mathlib.Core.Logic.{◌≢◌, ◌⊎◌, ⊎_elim, by_cases}
use mathlib.Core.Bool.{Bool, true, false, ◌&&◌, ◌||◌, true≢false}
use mathlib.Core.List.{List, ◌∷◌, Memᴰ}
use Prim.Native.Nat.{ℕ, ◌+◌, ◌≤◌, ◌<◌}
use native.Mathlib.Nat.{add-zero}
use native.Mathlib.Decide.{ℕ_discrete}
use native.Mathlib.Omega.{arith}
use lib.Dec.{eqb}
use lib.ListN.{length}
use borrow.Author.Tests.{eq-eqb, ne_eqb, eqb-true}
use Rattle.game.specs.Edge.{Edge, ◌─◌}
use Rattle.game.specs.Game.{absent}
use Rattle.game.specs.Table.{one_if, some_entry}
use Rattle.game.specs.Tree.{ancestors, under}
use Rattle.game.specs.Net.{enters, reach}
use Rattle.game.proofs.Bools.{or_right, and_both, both-and, bool_false}
use Rattle.game.proofs.Sound.{Sound}
use Rattle.game.proofs.Climbs.{Climbs, climbs-le}
use Rattle.game.proofs.Ancestors.{under-climbs, climbs-under, climbs-ancestor}
use Rattle.game.proofs.Subtree.{under-below, climbs-trans, climbs-chain}
use Rattle.game.proofs.Lists.{rising-over}
use Rattle.game.proofs.Paths.{ancestors-rising}
use Rattle.reach_slots.proofs.Paths.{on_path, lit}
use Rattle.reach_slots.proofs.Counts.{count-ext, count-more, entry-some, some-entry-in}

-- an edge of the list joins y with a vertex of the subtree of x
pub record Met (p : List ℕ) (visited : List Edge) (y x : ℕ) : Type 0 where
  pub lower : ℕ
  pub edge : Memᴰ (lower ─ y) visited
  pub climb : Climbs p x lower

-- the path of the edge from u up to y ends at r: at and above r, y itself or an edge of y has been met, and nowhere below
pub record Ends (p : List ℕ) (visited : List Edge) (u y r : ℕ) : Type 0 where
  pub climb : Climbs p r u
  pub met : (x : ℕ) → Climbs p x r → Climbs p x y ⊎ Met p visited y x
  pub here : Climbs p y r
  pub first : (x : ℕ) → Climbs p x u → Met p visited y x → Climbs p x r

-- every edge of the list is written from its lower end to its upper end
pub record Upward (es : List Edge) : Type 0 where
  pub each : (a b : ℕ) → Memᴰ (a ─ b) es → a < b

module _ {p : List ℕ} (s : Sound p) (n : length p ≤ absent) where
  -- of an edge that is written upward, only the lower end can be under x and the upper end above x
  enters-up : (x y a b : ℕ) → x < y → a < b → enters p x y (a ─ b) ≡ (eqb b y && under p x a)
  unfolding enters
  enters-up x y a b h l =
      by_cases (ℕ_discrete a y)
      (λ (e : a ≡ y). rw (eq-eqb a y e, under-below s n x b (omega arith)))
      (λ (d : a ≢ y). rw (ne_eqb a y d))

  module _ {visited : List Edge} {u y r : ℕ} (upward : Upward visited) (h : u < y) (ends : Ends p visited u y r) (x : ℕ) where
    seen : ℕ → Bool
    seen z = some_entry (enters p x z) visited

    seen_more : ℕ → Bool
    seen_more z = some_entry (enters p x z) ((u ─ y) ∷ visited)

    -- at an ancestor of x the new edge counts if it is the edge's upper end and the lower end is under x
    more : (z : ℕ) → x < z → seen_more z ≡ ((eqb y z && under p x u) || seen z)
    unfolding seen seen_more some_entry
    more z l = rw (enters-up x z u y l h)

    more-other : (z : ℕ) → x < z → z ≢ y → seen_more z ≡ seen z
    more-other z l d = more z l ∙ rw (ne_eqb y z (λ e. d (sym e)))

    met-seen : x < y → Met p visited y x → seen y ≡ true
    unfolding seen
    met-seen l m =
        entry-some (enters p x y) m.edge
        (enters-up x y m.lower y l (upward.each _ _ m.edge) ∙ both-and (eqb y y) (under p x m.lower) (eq-eqb y y refl) (climbs-under s m.climb))

    seen-met : x < y → seen y ≡ true → Met p visited y x
    unfolding seen
    seen-met l e = found (some-entry-in (enters p x y) visited e)
      where
        found : (f : Edge) × Memᴰ f visited × (enters p x y f ≡ true) → Met p visited y x
        found ((a ─ b), m, k) =
            let t = and_both (eqb b y) (under p x a) (sym (enters-up x y a b l (upward.each a b m)) ∙ k) in
            record { lower = a; edge = rw (eqb-true b y t.0) at m; climb = under-climbs n t.1 }

    same : ((z : ℕ) → x < z → seen_more z ≡ seen z) → reach p ((u ─ y) ∷ visited) x ≡ reach p visited x
    unfolding seen seen_more reach
    same f = count-ext seen_more seen (ancestors p x) (λ z m. f z (rising-over (ancestors-rising s n x) m))

    -- u is not under x: nothing is new
    apart : under p x u ≡ false → (z : ℕ) → x < z → seen_more z ≡ seen z
    apart e z l = more z l ∙ rw e (none (eqb y z))
      where
        none : (t : Bool) → ((t && false) || seen z) ≡ seen z
        none true = refl
        none false = refl

    -- r is under x: y is not above x, or has been counted at x
    past : Climbs p x r → (z : ℕ) → x < z → seen_more z ≡ seen z
    past k z l =
        by_cases (ℕ_discrete z y)
        (λ (e : z ≡ y).
        let b : x < y = rw e at l in
        rw e
        (⊎_elim
        (λ j. let le : y ≤ x = climbs-le s j in absurd (omega arith))
        (λ m. more y b ∙ rw (met-seen b m) (or_right (eqb y y && under p x u) true refl))
        (ends.met x k)))
        (more-other z l)

    -- x is on the path: y is above x, and new
    fresh : Climbs p x u → (Climbs p x r → ⊥) → reach p ((u ─ y) ∷ visited) x ≡ reach p visited x + 1
    unfolding seen seen_more reach
    fresh k f =
        let j : Climbs p y x = ⊎_elim (λ a. a) (λ b. absurd (f (climbs-trans ends.here b))) (climbs-chain k (climbs-trans ends.climb ends.here)) in
        let d : x ≢ y = λ e. f (rw e ends.here) in
        let m : Memᴰ y (ancestors p x) = climbs-ancestor s j d in
        let l : x < y = rising-over (ancestors-rising s n x) m in
        let new : seen y ≡ false = bool_false (seen y) (λ e. f (ends.first x k (seen-met l e))) in
        count-more seen seen_more (ancestors-rising s n x) m new
        (more y l ∙ rw (eq-eqb y y refl, climbs-under s k))
        (λ z i. more-other z (rising-over (ancestors-rising s n x) i))

    -- the reaches grow by 1 on the path
    pub reach_step : reach p ((u ─ y) ∷ visited) x ≡ reach p visited x + lit p u r x
    unfolding on_path one_if
    reach_step = go (under p x u) (under p x r) refl refl
      where
        go : (a b : Bool) → under p x u ≡ a → under p x r ≡ b
            → reach p ((u ─ y) ∷ visited) x ≡ reach p visited x + lit p u r x
        go false b ea eb = rw (ea, add-zero) (same (apart ea))
        go true true ea eb = rw (ea, eb, add-zero) (same (past (under-climbs n eb)))
        go true false ea eb = rw (ea, eb) (fresh (under-climbs n ea) (λ k. true≢false (sym (climbs-under s k) ∙ eb)))
