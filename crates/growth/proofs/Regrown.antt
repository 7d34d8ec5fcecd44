-- A forest grown from what is filed.
-- Assumes nothing.
use mathlib.Core.Path.{◌≡◌, sym, subst, ◌∙◌}
use mathlib.Core.List.{List}
use Prim.Native.Nat.{ℕ, ◌≤◌}
use lib.ListN.{length}
use Rattle.game.specs.Edge.{Edge}
use Rattle.game.specs.Game.{forest}
use Rattle.game.specs.Graph.{Proper}
use Rattle.refusal.specs.Limits.{max_vertices}
use Rattle.bucket.specs.Filed.{Filed}
use Rattle.bucket.proofs.Reading.{filed-consecutive}
use Rattle.growth.specs.Growth.{LinksIn, Grown, Growable}

-- what is filed has room to be grown
pub filed-growable : {n : ℕ} {E : List Edge} {ends lower p jump : List ℕ} → Filed n E ends lower → n ≤ max_vertices → length p ≡ n → length jump ≡ n → Growable ends lower p jump
filed-growable f few e g = record { long = e ∙ sym f.sorted.long; long_jump = g ∙ sym f.sorted.long; buckets = filed-consecutive f few }

-- what was filed is grown
pub grown-filed : {n : ℕ} {E : List Edge} {ends lower p p' : List ℕ} → Filed n E ends lower → LinksIn p E → Grown ends lower p p' → p' ≡ forest n E
grown-filed {n} {E} {ends} {lower} {p' = p'} f i g =
    subst (λ (m : ℕ). Proper m E → Filed m E ends lower → p' ≡ forest m E) f.sorted.long (λ k h. g.parents E k h i) f.proper f
