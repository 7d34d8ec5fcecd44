-- What an accepted save shows of the tables that it was lent, and that such tables are not refused.
-- Assumes nothing.
use mathlib.Core.Path.{◌≡◌, ◌∙◌}
use mathlib.Core.Bool.{false}
use Prim.Native.Nat.{ℕ, ◌*◌}
use lib.ListN.{length}
use Rattle.game.specs.Net.{Net}
use Rattle.refusal.specs.Refusal.{bad_count}
use Rattle.refusal.proofs.First.{pass, first-end, first-none, given-none, length-right, right-length}
use Rattle.net.specs.Damage.{damaged}
use Rattle.save.specs.Save.{save_refusal}

-- a net that was saved into a table of m bytes
pub record Saved (net : Net) (m : ℕ) : Type 0 where
  pub count : bad_count (length net.parents) ≡ false
  pub weights_right : length net.weights ≡ length net.parents
  pub whole : m ≡ 8 * length net.parents
  pub undamaged : damaged net ≡ false

pub save-accepted : (net : Net) (m : ℕ) → save_refusal net m ≡ 0 → Saved net m
unfolding save_refusal
save-accepted net m e =
    let a = first-none _ _ e in
    let b = first-none _ _ a.1 in
    let c = first-none _ _ b.1 in
    let d = first-none _ _ c.1 in
    record {
      count = given-none _ _ a.0;
      weights_right = length-right _ _ (given-none _ _ b.0);
      whole = length-right _ _ (given-none _ _ c.0);
      undamaged = given-none _ _ d.0;
    }

pub save-passes : (net : Net) {m : ℕ} → bad_count (length net.parents) ≡ false → length net.weights ≡ length net.parents
    → m ≡ 8 * length net.parents → damaged net ≡ false → save_refusal net m ≡ 0
unfolding save_refusal
save-passes net c w m d = pass 1 _ c ∙ pass 2 _ (right-length _ _ w) ∙ pass 2 _ (right-length _ _ m) ∙ pass 30 _ d ∙ first-end
