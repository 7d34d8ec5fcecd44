-- The two ways in which listing ends as it has to: refused with 31, or the vertices above both at the front of the table.
-- Assumes nothing.
use mathlib.Core.Path.{◌≡◌, refl, sym, ap, ap₂, ◌∙◌}
use mathlib.Core.Logic.{◌≢◌, by_cases}
use mathlib.Core.Bool.{true, false, ◌||◌}
use mathlib.Core.List.{List}
use Prim.Native.Nat.{ℕ, ◌<◌}
use native.Mathlib.Decide.{ℕ_discrete}
use native.Mathlib.Omega.{arith}
use lib.Dec.{eqb}
use lib.ListN.{length}
use Rattle.game.specs.Game.{absent}
use Rattle.refusal.specs.Verdict.{accepted, refused}
use Rattle.refusal.specs.Outcome.{ended}
use Rattle.refusal.proofs.First.{given-true, given-false, unless-refused, unless-accepted}
use Rattle.refusal.proofs.Ends.{judged-accepted, judged-refused}
use Rattle.ancestry.specs.declared.Separator.{Separator}
use Rattle.ancestry.specs.Common.{related, at_front}
use Rattle.ancestry.specs.Answer.{separator, lowest_of, separator_of}
use Rattle.ancestry.specs.Steps.{Walkable, path, FirstCommon, lowest_at, list_outcome}
use Rattle.ancestry.proofs.Walk.{walkable-few}
use Rattle.ancestry.proofs.Paths.{path-in, path-out}
use Rattle.ancestry.proofs.Common.{related-at, common-path}
use Rattle.ancestry.proofs.Written.{lowest-none, lowest-some}

module _ {p : List ℕ} (w : Walkable p) {a b r : ℕ} (m : FirstCommon p a b r) (ha : a < length p) (hb : b < length p) (was : List ℕ) where
  pub lists-not : (eqb r a || eqb r b) ≡ true → ended (refused 31) was ≡ list_outcome p a b was
  unfolding list_outcome
  lists-not t =
      rw (given-true (related p a b) 31 (related-at w m ha hb ∙ t))
      (ap₂ ended (sym (judged-refused 31 _ (λ e. omega arith))) (sym (unless-refused 31 was _ (λ e. omega arith))))

  -- the lowest is where the two paths meet
  lowest-at : lowest_of (path p r) ≡ lowest_at r
  unfolding lowest_of
  lowest-at =
      by_cases (ℕ_discrete r absent)
      (λ (e : r ≡ absent). rw (path-out p r (omega (arith, walkable-few w)), lowest-none r e))
      (λ (d : r ≢ absent). rw (path-in p r (m.inside d), lowest-some r d))

  pub lists : {is : List ℕ} {count : ℕ} {its : Separator} → (eqb r a || eqb r b) ≡ false
      → is ≡ at_front (path p r) was → count ≡ length (path p r) → its ≡ separator count (lowest_at r)
      → ended (accepted its) is ≡ list_outcome p a b was
  unfolding list_outcome separator_of
  lists f table number answer =
      let apart : related p a b ≡ false = related-at w m ha hb ∙ f in
      rw (given-false (related p a b) 31 apart, common-path w m ha hb apart)
      (ap₂ ended
      (ap accepted (answer ∙ ap₂ separator number (sym lowest-at)) ∙ sym (judged-accepted 0 _ refl))
      (table ∙ sym (unless-accepted 0 was _ refl)))
