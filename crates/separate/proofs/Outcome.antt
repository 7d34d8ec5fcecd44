-- The ways in which the call ends as it has to: refused by reading alone, refused by the comparison, or as listing ends.
-- Assumes nothing.
use mathlib.Core.Path.{◌≡◌, sym, ap, ap₂, ◌∙◌}
use mathlib.Core.Bool.{Bool, true, false}
use mathlib.Core.List.{List, [], ◌∷◌}
use Prim.Native.Nat.{ℕ}
use native.Mathlib.Omega.{arith}
use lib.ListN.{length}
use Rattle.std.specs.Prelude.{Result}
use Rattle.std.specs.Result.{IsErrAnd}
use Rattle.std.proofs.lemmas.Result.{err_from_is_err_and}
use Rattle.game.specs.Edge.{ties}
use Rattle.game.specs.Net.{Net, net_of}
use Rattle.refusal.specs.Numbers.{number_of, verdict}
use Rattle.refusal.specs.declared.kinds.Refusal.{Refusal}
use Rattle.refusal.specs.Refusal.{given, first, unless}
use Rattle.refusal.specs.Verdict.{Verdict, refused, judged}
use Rattle.refusal.specs.Outcome.{Outcome, ended}
use Rattle.refusal.proofs.First.{first-pass, first-stop, first-last, unless-refused, unless-accepted}
use Rattle.refusal.proofs.Ends.{judged-refused}
use Rattle.refusal.proofs.Numbers.{number-positive}
use Rattle.growth.specs.Work.{Work, cleared}
use Rattle.compare.specs.Compare.{unlike}
use Rattle.compare.proofs.Unlike.{same-passes, found-own, found-other}
use Rattle.ancestry.specs.declared.Separator.{Separator}
use Rattle.ancestry.specs.Answer.{separator_of}
use Rattle.ancestry.specs.Common.{common_ancestors, related, at_front}
use Rattle.ancestry.specs.Steps.{list_outcome}
use Rattle.compare.specs.OwnSteps.{Told}
use Rattle.separate.specs.Refused.{separate_early}
use Rattle.separate.specs.Separate.{SeparateTables, separate_tables, wrong_separate, grown_refusal, separate_refusal, separate_outcome}

module _ (of : Net) (a b : ℕ) (xs : List ℕ) (was : SeparateTables) where
  early : ℕ
  early = separate_early of a b xs (wrong_separate of xs was)

  late : ℕ
  late = grown_refusal of a b (ties xs)

  -- refused by reading alone: the number, and every table as it was
  pub ends-early : {code : ℕ} {wrong : Bool} → code ≡ separate_early of a b xs wrong → wrong ≡ wrong_separate of xs was → (code ≡ 0 → ⊥)
      → ended (refused code) was ≡ separate_outcome of a b xs was
  unfolding separate_outcome separate_refusal early late
  ends-early {code} e w h = ap₂ ended (sym number) (sym (unless-refused early was _ some))
    where
      is : code ≡ early
      is = e ∙ ap (separate_early of a b xs) w

      some : early ≡ 0 → ⊥
      some z = h (is ∙ z)

      number : judged (first (early ∷ late ∷ [])) (separator_of (common_ancestors of.parents a b)) ≡ refused code
      number =
          ap (λ (m : ℕ). judged m (separator_of (common_ancestors of.parents a b))) (first-stop early (late ∷ []) some)
          ∙ judged-refused early _ some ∙ ap refused (sym is)

  -- where a `?` hands it on
  pub ends-handed-early : (r : Result Separator Refusal) (e : Refusal) {wrong : Bool} → IsErrAnd r (λ y. y ≡ e) → number_of e ≡ separate_early of a b xs wrong → wrong ≡ wrong_separate of xs was
      → ended (verdict r) was ≡ separate_outcome of a b xs was
  unfolding verdict
  ends-handed-early r e q h w = let p = err_from_is_err_and r q in rw p.1 (ends-early (ap number_of p.2 ∙ h) w (number-positive _))

  module _ (z : separate_early of a b xs (wrong_separate of xs was) ≡ 0) where
    passed : first (early ∷ late ∷ []) ≡ late
    unfolding early late
    passed = first-pass early (late ∷ []) z ∙ first-last late

    -- what is decided once the edges' net is grown ends so
    grown-end : {v : Verdict Separator} {listed : List ℕ} {new : Net} {work : Work}
        → v ≡ judged late (separator_of (common_ancestors of.parents a b))
        → listed ≡ unless late was.listed (at_front (common_ancestors of.parents a b) was.listed)
        → new ≡ net_of (length of.parents) (ties xs) → work ≡ cleared was.work
        → ended v (separate_tables listed new work) ≡ separate_outcome of a b xs was
    unfolding separate_outcome separate_refusal early late
    grown-end v l n k =
        ap₂ ended (v ∙ ap (λ (m : ℕ). judged m (separator_of (common_ancestors of.parents a b))) (sym passed))
        ((λ i. separate_tables (l i) (n i) (k i)) ∙ sym (unless-accepted early was _ z))

    -- refused by the comparison: 23
    pub ends-late : {same : Bool} {new : Net} {work : Work} → Told of (ties xs) was.work same new work → same ≡ false
        → ended (refused 23) (separate_tables was.listed new work) ≡ separate_outcome of a b xs was
    unfolding late grown_refusal
    ends-late c differs =
        grown-end
        (sym (ap (λ (m : ℕ). judged m (separator_of (common_ancestors of.parents a b))) is ∙ judged-refused 23 _ (λ e. omega arith)))
        (sym (unless-refused late was.listed _ (λ e. omega (arith, is))))
        c.net c.clear
      where
        differ : unlike of (ties xs) ≡ 23
        differ = found-other of (ties xs) c.answer differs

        is : late ≡ 23
        is = first-stop (unlike of (ties xs)) _ (λ e. omega (arith, differ)) ∙ differ

    -- not refused by it: as listing ends, 31 among it
    pub ends-listed : {same : Bool} {new : Net} {work : Work} {v : Verdict Separator} {listed : List ℕ} → Told of (ties xs) was.work same new work → same ≡ true
        → ended v listed ≡ list_outcome of.parents a b was.listed
        → ended v (separate_tables listed new work) ≡ separate_outcome of a b xs was
    unfolding list_outcome late grown_refusal
    ends-listed {v = v} {listed = listed} c found e =
        grown-end
        (ap (λ (o : Outcome Separator (List ℕ)). o.verdict) e ∙ ap (λ (m : ℕ). judged m (separator_of (common_ancestors of.parents a b))) (sym is))
        (ap (λ (o : Outcome Separator (List ℕ)). o.tables) e ∙ ap (λ (m : ℕ). unless m was.listed (at_front (common_ancestors of.parents a b) was.listed)) (sym is))
        c.net c.clear
      where
        is : late ≡ given (related of.parents a b) 31
        is = first-pass (unlike of (ties xs)) _ (same-passes of (ties xs) (found-own of (ties xs) c.answer found)) ∙ first-last (given (related of.parents a b) 31)
