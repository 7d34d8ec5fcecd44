-- What is known of a vertex when its bucket is counted, and an edge that comes to one that waits: each way through, and what it leaves.
-- Assumes nothing.
use mathlib.Core.Path.{◌≡◌, refl, sym, ap, ◌∙◌}
use mathlib.Core.Bool.{Bool, true, false, not}
use mathlib.Core.List.{List}
use Prim.Native.Nat.{ℕ, ◌+◌, ◌-◌, ◌^◌, ◌≤◌, ◌<◌}
use native.Mathlib.Omega.{arith}
use lib.Dec.{eqb}
use lib.ListN.{get_or, set}
use lib.Seq.{set-get_or}
use borrow.Author.Tests.{eq-eqb, ne_eqb, lt-ltb, le-ltb}
use Rattle.game.specs.Table.{one_if}
use Rattle.game.proofs.Bools.{test-cases}
use Rattle.block_count.specs.WaitingSteps.{unmet, next_pending, next_at, waiting, Passes}
use Rattle.block_count.proofs.Coming.{next-none}

-- what is waited for next: the own block was met before, is met now, or is not met yet
module _ (down own : Bool) (p : ℕ) where
  pub next-met : {r : ℕ} → p < unmet → r ≡ p - one_if down → r ≡ next_pending down own p
  unfolding next_pending
  next-met h e = rw (lt-ltb p unmet h) e

  pub next-own : {r : ℕ} → unmet ≤ p → own ≡ true → r ≡ (p - unmet) - one_if down → r ≡ next_pending down own p
  unfolding next_pending
  next-own h o e = rw (le-ltb p unmet h, o) (omega arith)

  pub next-unmet : {r : ℕ} → unmet ≤ p → own ≡ false → r ≡ (p - unmet) - one_if down → r + unmet ≡ next_pending down own p
  unfolding next_pending
  next-unmet h o e = rw (le-ltb p unmet h, o) (omega arith)

-- something is waited for, or nothing
pub waits-not : {p : ℕ} → p ≡ 0 → 0 ≡ waiting p
unfolding waiting
waits-not {p} e = rw (eq-eqb p 0 e) refl

pub waits-so : {p : ℕ} → (p ≡ 0 → ⊥) → 1 ≡ waiting p
unfolding waiting
waits-so {p} d = rw (ne_eqb p 0 d) refl

pub waiting-le : (p : ℕ) → waiting p ≤ 1
unfolding waiting
waiting-le p = test-cases (eqb p 0) (λ e. rw e (omega arith)) (λ e. rw e (omega arith))

-- a vertex that waits can take an edge
pub pass_fits : (x : ℕ) (pending taken : List ℕ) → (get_or pending x 0 ≡ 0 → ⊥) → get_or taken x 0 + waiting (get_or pending x 0) < 2 ^ 32 → get_or taken x 0 + 1 < 2 ^ 32
pass_fits x pending taken n h = omega (arith, waits-so n)

-- an edge comes to an end that does not wait, or does
module _ (x low : ℕ) (block pending taken : List ℕ) where
  pub pass-not : get_or pending x 0 ≡ 0 → Passes x low block pending taken pending taken 0
  pass-not none = record {
    passed = sym (ap (set pending x) (next ∙ sym none) ∙ set-get_or pending x 0);
    took = sym (ap (set taken x) (omega (arith, waits-not none)) ∙ set-get_or taken x 0);
    settled = omega (arith, waits-not none, waits-not next);
  }
    where
      next : next_at block x low (get_or pending x 0) ≡ 0
      next = ap (next_at block x low) none ∙ next-none block x low

  module _ {after : ℕ} (n : get_or pending x 0 ≡ 0 → ⊥) (next : after ≡ next_pending (not (eqb x low)) (eqb (get_or block x 0) (get_or block low 0)) (get_or pending x 0)) where
    pub pass_on : {u : ℕ} → u ≡ waiting after → Passes x low block pending taken (set pending x after) (set taken x (get_or taken x 0 + 1)) (1 - u)
    unfolding next_at
    pass_on {u} q = record {
      passed = ap (set pending x) next;
      took = ap (λ (v : ℕ). set taken x (get_or taken x 0 + v)) (waits-so n);
      settled = omega (arith, q, ap waiting next, waiting-le after, waits-so n);
    }
