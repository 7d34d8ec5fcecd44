-- The root of a tree: each vertex climbs to it, and who climbs to one vertex has one root.
-- Assumes nothing.
use mathlib.Core.Path.{◌≡◌, refl, ap, ◌∙◌}
use mathlib.Core.Logic.{◌⊎◌, inl, inr, ⊎_elim}
use mathlib.Core.List.{List, [], ◌∷◌, Memᴰ}
use Prim.Native.Nat.{ℕ, ◌≤◌}
use lib.ListN.{length}
use Rattle.game.specs.Game.{absent}
use Rattle.game.specs.Tree.{ancestors}
use Rattle.game.proofs.Sound.{Sound}
use Rattle.game.proofs.Links.{link-inv, link_up}
use Rattle.game.proofs.Climbs.{Climbs, top, up}
use Rattle.game.proofs.Ancestors.{ancestor-climbs}
use Rattle.game.proofs.Paths.{ancestors-up}
use Rattle.separate.specs.Separates.{last, root}

-- the last of a list is in it, unless the list is empty
last-in : (x : ℕ) (ys : List ℕ) → (last x ys ≡ x) ⊎ Memᴰ (last x ys) ys
unfolding last
last-in x [] = inl refl
last-in x (y ∷ ys) = ⊎_elim (λ e. inr (Memᴰ.head e)) (λ m. inr (Memᴰ.tail m)) (last-in y ys)

module _ {p : List ℕ} (s : Sound p) (u : length p ≤ absent) where
  pub root-climbs : (x : ℕ) → Climbs p (root p x) x
  unfolding root
  root-climbs x = ⊎_elim (λ e. rw e top) (ancestor-climbs u) (last-in x (ancestors p x))

  pub climbs-one-root : {y x : ℕ} → Climbs p y x → root p x ≡ root p y
  unfolding root last
  climbs-one-root top = refl
  climbs-one-root (up {x = x} {c = c} m k) =
      let e = (link-inv p m).1 in
      let next : ancestors p x ≡ c ∷ ancestors p c = rw e at (ancestors-up s u x (rw e (link_up s m).1)) in
      ap (last x) next ∙ climbs-one-root k
