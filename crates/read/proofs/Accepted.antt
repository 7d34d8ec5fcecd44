-- What an accepted reading shows of the file and the tables that it was lent, and that such a file is not refused.
-- Assumes nothing.
use mathlib.Core.Path.{◌≡◌, sym, ◌∙◌}
use mathlib.Core.Bool.{false}
use mathlib.Core.List.{List}
use Prim.Native.Nat.{ℕ, ◌*◌}
use lib.ListN.{length}
use Rattle.refusal.specs.Refusal.{bad_count}
use Rattle.refusal.proofs.First.{pass, first-pass, first-end, first-none, first-last, given-none, length-right, right-length}
use Rattle.records.specs.LinkFile.{file_net}
use Rattle.read.specs.Read.{unfit, read_refusal}

-- a file that was read into tables of n parents and m weights
pub record FileFits (n m : ℕ) (bytes : List ℕ) : Type 0 where
  pub count : bad_count n ≡ false
  pub weights_right : m ≡ n
  pub whole : length bytes ≡ 8 * n
  pub fit : unfit (file_net bytes) ≡ 0

pub read-accepted : (n m : ℕ) (bytes : List ℕ) → read_refusal n m bytes ≡ 0 → FileFits n m bytes
unfolding read_refusal
read-accepted n m bytes e =
    let a = first-none _ _ e in
    let b = first-none _ _ a.1 in
    let c = first-none _ _ b.1 in
    record {
      count = given-none _ _ a.0;
      weights_right = length-right _ _ (given-none _ _ b.0);
      whole = length-right _ _ (given-none _ _ c.0);
      fit = sym (first-last _) ∙ c.1;
    }

pub read-passes : (bytes : List ℕ) {n m : ℕ} → bad_count n ≡ false → m ≡ n → length bytes ≡ 8 * n → unfit (file_net bytes) ≡ 0 → read_refusal n m bytes ≡ 0
unfolding read_refusal
read-passes bytes c w l f = pass 1 _ c ∙ pass 2 _ (right-length _ _ w) ∙ pass 6 _ (right-length _ _ l) ∙ first-pass _ _ f ∙ first-end
