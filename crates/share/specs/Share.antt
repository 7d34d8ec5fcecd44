-- The even share of a total among blocks.
--
-- Document 02, Paper 4: "Report should answer the even share as the total divided by k, with the whole quotient and the remainder. The
-- quotient times k plus the remainder is the total, and the remainder is below k."
-- Assumes nothing.
use Rattle.std.specs.Prelude.{◌≡◌, ℕ, ◌+◌, ◌*◌, ◌/◌, ◌%◌, ◌<◌}
use Rattle.share.specs.declared.Share.{Share}

-- the code's own record of it
abbrev pub share : (quotient remainder blocks : ℕ) → Share
share q r k = record { quotient = q; remainder = r; blocks = k }

-- "the total divided by k, with the whole quotient and the remainder"
unfoldable pub even_share : (total k : ℕ) → Share
even_share total k = share (total / k) (total % k) k

-- the check sum: "The quotient times k plus the remainder"
unfoldable pub check_sum : Share → ℕ
check_sum s = s.quotient * s.blocks + s.remainder

-- that it "is the total, and the remainder is below k"
pub record Even (total k : ℕ) (s : Share) : Type 0 where
  pub among : s.blocks ≡ k
  pub sums : check_sum s ≡ total
  pub below : s.remainder < k
