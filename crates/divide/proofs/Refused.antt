-- Laws of Divide's refusals: each test where it is reached, and what an accepted call knows.
-- Assumes nothing.
use mathlib.Core.Path.{◌≡◌, refl, sym, ap, ◌∙◌}
use mathlib.Core.Bool.{Bool, true, false, not, ◌||◌}
use Rattle.std.proofs.Common.{nat_eq}
use mathlib.Core.List.{List, [], ◌∷◌}
use Prim.Native.Nat.{ℕ}
use native.Mathlib.Omega.{arith}
use lib.ListN.{length}
use Rattle.game.specs.Table.{sum}
use Rattle.refusal.specs.Refusal.{given, bad_count, wrong_length}
use Rattle.refusal.proofs.First.{pass, stop, first-end, first-none, given-none, length-right, good-count}
use Rattle.game.specs.Net.{Net, net}
use Rattle.net.specs.Damage.{damaged_by, damaged}
use Rattle.net.proofs.Scan.{undamaged}
use Rattle.game.proofs.Bools.{or-neither}
use Rattle.game.proofs.Sound.{true-sound}
use Rattle.divide.specs.Steps.{Fitting}
use Rattle.cut.specs.Steps.{Divisible}
use Rattle.refusal.specs.DivisionLimits.{bad_limits, too_heavy}
use Rattle.refusal.proofs.DivisionLimits.{limits-not, heavy-not}
use Rattle.divide.specs.Divide.{DivisionTables, wrong_tables, divide_refusal}

-- right lengths
pub record Sized (net : Net) (k : ℕ) (was : DivisionTables) : Type 0 where
  pub weights : length net.weights ≡ length net.parents
  pub carried : length was.carried ≡ length net.parents
  pub top : length was.top ≡ length net.parents
  pub block : length was.block ≡ length net.parents
  pub loads : length was.block_loads ≡ k

pub tables-not : (net : Net) (k : ℕ) (was : DivisionTables) → wrong_tables net k was ≡ false → Sized net k was
unfolding wrong_tables
tables-not net k was e =
    let a = or-neither (w || c || t || b) (wrong_length (length was.block_loads) k) e in
    let f = or-neither (w || c || t) b a.0 in
    let g = or-neither (w || c) t f.0 in
    let h = or-neither w c g.0 in
    record {
      weights = length-right (length net.weights) n h.0;
      carried = length-right (length was.carried) n h.1;
      top = length-right (length was.top) n g.1;
      block = length-right (length was.block) n f.1;
      loads = length-right (length was.block_loads) k a.1;
    }
  where
    n : ℕ
    n = length net.parents

    w : Bool
    w = wrong_length (length net.weights) n

    c : Bool
    c = wrong_length (length was.carried) n

    t : Bool
    t = wrong_length (length was.top) n

    b : Bool
    b = wrong_length (length was.block) n

-- 2, by the lengths that the code compares: the weights' first, then those of the tables that are lent
pub weights-first : (w c t b l : Bool) {r : Bool} → r ≡ (c || t || b || l) → (w || c || t || b || l) ≡ (w || r)
weights-first true c t b l e = refl
weights-first false c t b l e = sym e

pub tables-as : (net : Net) (k : ℕ) (was : DivisionTables) {r : Bool}
    → r ≡ (wrong_length (length was.carried) (length net.parents) || wrong_length (length was.top) (length net.parents) || wrong_length (length was.block) (length net.parents) || wrong_length (length was.block_loads) k)
    → wrong_tables net k was ≡ (not (nat_eq (length net.weights) (length net.parents)) || r)
unfolding wrong_tables wrong_length
tables-as net k was e = weights-first _ _ _ _ _ e

-- a net's damage, by its summary
pub damaged-as : (p w : List ℕ) {s : ℕ} {r : Bool} → s ≡ sum w → r ≡ damaged_by p s → damaged (net p w) ≡ r
unfolding damaged
damaged-as p w e f = ap (damaged_by p) (sym e) ∙ sym f

-- Divide's refusal, test by test: each is reached if no earlier one applied
module _ (net : Net) (B k : ℕ) (was : DivisionTables) where
  abbrev heavy : List ℕ
  heavy = given (too_heavy B net.weights) 22 ∷ []

  abbrev damage : List ℕ
  damage = given (damaged net) 30 ∷ heavy

  abbrev limits : List ℕ
  limits = given (bad_limits B k) 8 ∷ damage

  abbrev sizes : List ℕ
  sizes = given (wrong_tables net k was) 2 ∷ limits

  pub refused-count : bad_count (length net.parents) ≡ true → divide_refusal net B k was ≡ 1
  unfolding divide_refusal
  refused-count e = stop 0 sizes e

  module _ (e₁ : bad_count (length net.parents) ≡ false) where
    pub refused-tables : wrong_tables net k was ≡ true → divide_refusal net B k was ≡ 2
    unfolding divide_refusal
    refused-tables e = pass 1 sizes e₁ ∙ stop 1 limits e

    module _ (e₂ : wrong_tables net k was ≡ false) where
      pub refused-limits : bad_limits B k ≡ true → divide_refusal net B k was ≡ 8
      unfolding divide_refusal
      refused-limits e = pass 1 sizes e₁ ∙ pass 2 limits e₂ ∙ stop 7 damage e

      module _ (e₃ : bad_limits B k ≡ false) where
        pub refused-damaged : damaged net ≡ true → divide_refusal net B k was ≡ 30
        unfolding divide_refusal
        refused-damaged e = pass 1 sizes e₁ ∙ pass 2 limits e₂ ∙ pass 8 damage e₃ ∙ stop 29 heavy e

        module _ (e₄ : damaged net ≡ false) where
          pub refused-heavy : too_heavy B net.weights ≡ true → divide_refusal net B k was ≡ 22
          unfolding divide_refusal
          refused-heavy e = pass 1 sizes e₁ ∙ pass 2 limits e₂ ∙ pass 8 damage e₃ ∙ pass 30 heavy e₄ ∙ stop 21 [] e

          pub refused-not : too_heavy B net.weights ≡ false → divide_refusal net B k was ≡ 0
          unfolding divide_refusal
          refused-not e = pass 1 sizes e₁ ∙ pass 2 limits e₂ ∙ pass 8 damage e₃ ∙ pass 30 heavy e₄ ∙ pass 22 [] e ∙ first-end

-- what an accepted call knows
pub record Accepted (p w : List ℕ) (B k : ℕ) (was : DivisionTables) : Type 0 where
  pub net : Divisible p w B
  pub tables : Fitting (length p) was
  pub blocks : length was.block_loads ≡ k

pub divide-known : (p w : List ℕ) (B k : ℕ) (was : DivisionTables) → divide_refusal (net p w) B k was ≡ 0 → Accepted p w B k was
unfolding divide_refusal damaged
divide-known p w B k was e =
    let a = first-none (given (bad_count (length p)) 1) (sizes (net p w) B k was) e in
    let b = first-none (given (wrong_tables (net p w) k was) 2) (limits (net p w) B k was) a.1 in
    let c = first-none (given (bad_limits B k) 8) (damage (net p w) B k was) b.1 in
    let d = first-none (given (damaged (net p w)) 30) (heavy (net p w) B k was) c.1 in
    let f = first-none (given (too_heavy B w) 22) [] d.1 in
    let lengths = tables-not (net p w) k was (given-none (wrong_tables (net p w) k was) 1 b.0) in
    let limit = limits-not B k (given-none (bad_limits B k) 7 c.0) in
    let sane = undamaged p (sum w) (given-none (damaged (net p w)) 29 d.0) in
    record {
      net =
          record {
            known = true-sound sane.0;
            few = (good-count (length p) (given-none (bad_count (length p)) 0 a.0)).1;
            sized = lengths.weights;
            small = sane.1;
            some = limit.0;
            light = λ x l. heavy-not B w (given-none (too_heavy B w) 21 f.0) x;
          };
      tables =
          record { carried = lengths.carried; top = lengths.top; block = lengths.block; some = omega (arith, lengths.loads, limit.2); few = omega (arith, lengths.loads, limit.3) };
      blocks = lengths.loads;
    }
