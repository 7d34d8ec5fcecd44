-- The two ways in which a call ends as it has to.
-- Assumes nothing.
use mathlib.Core.Path.{◌≡◌, refl, sym, ap, ap₂, ◌∙◌}
use Prim.Native.Nat.{ℕ, zero, suc}
use native.Mathlib.Omega.{arith}
use Rattle.refusal.specs.Verdict.{accepted, refused, judged}
use Rattle.refusal.specs.Outcome.{ended, decided}
use Rattle.refusal.proofs.First.{unless-refused, unless-accepted}

-- the verdict of a number that is 0, and of one that is not
pub judged-accepted : {X : Type 0} (k : ℕ) (values : X) → k ≡ 0 → judged k values ≡ accepted values
unfolding judged
judged-accepted k values e = rw e

pub judged-refused : {X : Type 0} (k : ℕ) (values : X) → (k ≡ 0 → ⊥) → judged k values ≡ refused k
unfolding judged
judged-refused zero values h = absurd (h refl)
judged-refused (suc k) values h = refl

-- and back: an accepted verdict was decided by 0
pub accepted-none : {X : Type 0} (k : ℕ) (values : X) {v : X} → judged k values ≡ accepted v → k ≡ 0
unfolding judged
accepted-none zero values e = refl
accepted-none (suc k) values e = let z : ◌≡◌ {A = ℕ} 0 1 = cc in absurd (omega arith)

-- with the call's own values
pub accepted-values : {X : Type 0} (k : ℕ) (values : X) {v : X} → judged k values ≡ accepted v → values ≡ v
accepted-values {X} k values {v} e = let same : accepted values ≡ accepted v = sym (judged-accepted k values (accepted-none k values e)) ∙ e in cc

module _ {X A : Type 0} (k : ℕ) (values : X) (was new : A) where
  -- refused: the number, and the tables as they were
  pub ends-refused : {m : ℕ} {t : A} → m ≡ k → (k ≡ 0 → ⊥) → t ≡ was → ended (refused m) t ≡ decided k values was new
  unfolding decided
  ends-refused e h s = ap₂ ended (ap refused e ∙ sym (judged-refused k values h)) (s ∙ sym (unless-refused k was new h))

  -- accepted: the values, and the new tables
  pub ends-accepted : {v : X} {t : A} → v ≡ values → k ≡ 0 → t ≡ new → ended (accepted v) t ≡ decided k values was new
  unfolding decided
  ends-accepted e h s = ap₂ ended (ap accepted e ∙ sym (judged-accepted k values h)) (s ∙ sym (unless-accepted k was new h))
