-- The path of a vertex: the vertex and its ancestors, who are all that it climbs to, by rising rank.
-- Assumes nothing.
use mathlib.Core.Path.{◌≡◌, sym, ap, ◌∙◌}
use mathlib.Core.Logic.{◌≢◌, ⊎_elim, by_cases}
use mathlib.Core.List.Memᴰ
use mathlib.Core.List.{List, [], ◌∷◌, Memᴰ}
use Prim.Native.Nat.{ℕ, ◌≤◌, ◌<◌}
use native.Mathlib.Nat.{le_refl}
use native.Mathlib.Decide.{ℕ_discrete, dec_lt}
use native.Mathlib.Omega.{arith}
use lib.ListN.{length, get_or}
use borrow.Author.Tests.{lt-ltb, le-ltb}
use Rattle.game.specs.Game.{absent}
use Rattle.game.specs.Tree.{ancestors}
use Rattle.game.proofs.Sound.{Sound}
use Rattle.game.proofs.Lists.{Rising, done, more}
use Rattle.game.proofs.Climbs.{Climbs, top}
use Rattle.game.proofs.Ancestors.{climbs-ancestor, ancestor-climbs}
use Rattle.game.proofs.Paths.{ancestors-up, ancestors-none, ancestors-rising}
use Rattle.ancestry.specs.Steps.{path}

pub path-in : (p : List ℕ) (x : ℕ) → x < length p → path p x ≡ x ∷ ancestors p x
unfolding path
path-in p x h = rw (lt-ltb x (length p) h)

pub path-out : (p : List ℕ) (x : ℕ) → length p ≤ x → path p x ≡ []
unfolding path
path-out p x h = rw (le-ltb x (length p) h)

module _ {p : List ℕ} (s : Sound p) (u : length p ≤ absent) where
  -- a path goes on by the parent
  pub path-on : {x : ℕ} → x < length p → path p x ≡ x ∷ path p (get_or p x absent)
  path-on {x} h =
      path-in p x h
      ∙ ap (λ (ys : List ℕ). x ∷ ys)
      (by_cases (dec_lt (get_or p x absent) (length p))
      (λ (k : get_or p x absent < length p). ancestors-up s u x k ∙ sym (path-in p (get_or p x absent) k))
      (λ (k : ¬ (get_or p x absent < length p)).
      let l : length p ≤ get_or p x absent = omega arith in
      ancestors-none s u x l ∙ sym (path-out p (get_or p x absent) l)))

  pub path-rising : (x : ℕ) → Rising x (path p x)
  path-rising x =
      by_cases (dec_lt x (length p))
      (λ (h : x < length p). rw (path-in p x h) (more (le_refl x) (ancestors-rising s u x)))
      (λ (h : ¬ (x < length p)). let l : length p ≤ x = omega arith in rw (path-out p x l) done)

  -- what a vertex climbs to is on its path
  pub climbs-path : {x z : ℕ} → x < length p → Climbs p z x → Memᴰ z (path p x)
  climbs-path {x} {z} h k =
      rw (path-in p x h)
      (by_cases (ℕ_discrete x z) (λ (e : x ≡ z). Memᴰ.head (sym e)) (λ (d : x ≢ z). Memᴰ.tail (climbs-ancestor s k d)))

  -- and nothing else is
  pub path-climbs : {x z : ℕ} → Memᴰ z (path p x) → (x < length p) × Climbs p z x
  path-climbs {x} {z} m =
      by_cases (dec_lt x (length p))
      (λ (h : x < length p).
      (h, ⊎_elim (λ (e : z ≡ x). rw e top) (λ t. ancestor-climbs u t) (Memᴰ.cases_cons (rw (path-in p x h) at m))))
      (λ (h : ¬ (x < length p)). let l : length p ≤ x = omega arith in absurd (Memᴰ.not-nil (rw (path-out p x l) at m)))
