-- Document 01's claims on dividing, of every accepted call; and what the forest crate's promise gives to it.
-- Assumes nothing.
use mathlib.Core.Path.{◌≡◌, refl, sym, ap, subst, ◌∙◌}
use mathlib.Core.List.{List}
use Prim.Native.Nat.{ℕ, ◌≤◌, ◌<◌}
use native.Mathlib.Omega.{arith}
use lib.Dec.{eqb}
use lib.ListN.{length, get_or}
use Rattle.game.specs.Table.{tabulate}
use Rattle.game.specs.Net.{Net, net}
use Rattle.game.proofs.Sound.{sound-true}
use Rattle.refusal.specs.Verdict.{accepted, refused}
use Rattle.refusal.specs.Outcome.{decided}
use Rattle.refusal.proofs.First.{unless-accepted}
use Rattle.refusal.proofs.Ends.{accepted-none}
use Rattle.refusal.proofs.Never.{end-not, other-not, false-not, verdict-not}
use Rattle.forest.specs.Promise.{Valid}
use Rattle.forest.proofs.Promise.{valid-undamaged}
use Rattle.cut.specs.Cut.{carried, cut, top, group_weight, group}
use Rattle.divide.specs.Divide.{DivisionTables, divided, divide_refusal, divide_outcome}
use Rattle.divide.specs.Division.{weight_at, Division}
use Rattle.cut.specs.Steps.{Divisible}
use Rattle.cut.proofs.Lists.{stretch, stretch-in, sum-agree}
use Rattle.groups.proofs.Sums.{only, total-filtered}
use Rattle.cut.proofs.Carried.{carried-fits}
use Rattle.divide.proofs.Divided.{tops-entry}
use Rattle.divide.proofs.Laws.{group-carried, block-loads-sum, largest-bound, block-load}
use Rattle.divide.proofs.Refused.{divide-known}

module _ {p w : List ℕ} {B : ℕ} (d : Divisible p w B) (k : ℕ) (some : 1 ≤ k) where
  abbrev its : DivisionTables
  its = divided (net p w) B k

  top-entry : (x : ℕ) → x < length p → get_or (divided (net p w) B k).top x 0 ≡ top p (cut p w B) x
  unfolding divided cut
  top-entry x h = tops-entry d (record { weights = refl; table = refl }) x h

  -- the weight of a group, by the table of tops
  group_at : (t : ℕ) → weight_at (net p w) (divided (net p w) B k).top t ≡ group_weight p w (cut p w B) t
  unfolding weight_at group_weight group tabulate
  group_at t =
      total-filtered (λ x. eqb (get_or (divided (net p w) B k).top x 0) t) (λ x. get_or w x 0) (stretch 0 (length p))
      ∙ sum-agree _ (λ x. only (eqb (top p (cut p w B) x) t) (get_or w x 0)) (stretch 0 (length p))
      (λ x m. ap (λ (v : ℕ). only (eqb v t) (get_or w x 0)) (top-entry x (omega (arith, (stretch-in 0 (length p) m).1))))
      ∙ sym (total-filtered (λ x. eqb (top p (cut p w B) x) t) (λ x. get_or w x 0) (stretch 0 (length p)))

  carried-are : (divided (net p w) B k).carried ≡ carried p w B
  unfolding divided
  carried-are = refl

  division : Division (net p w) B k (divided (net p w) B k)
  unfolding weight_at
  division = record {
    loads_sum = block-loads-sum d k some;
    loads_even = largest-bound d k some;
    load = λ j h. block-load d k some j h;
    group = λ t h e. group_at t ∙ group-carried d t h (sym (top-entry t h) ∙ e) ∙ ap (λ (c : List ℕ). get_or c t 0) (sym carried-are);
    group_fits = λ t h. rw carried-are (carried-fits (sound-true p d.known) (omega (arith, d.few)) w B d.light t h);
  }

-- every accepted division
pub divide-division : (of : Net) (B k : ℕ) (was : DivisionTables) → (divide_outcome of B k was).verdict ≡ accepted tt → Division of B k (divide_outcome of B k was).tables
unfolding divide_outcome decided
divide-division of B k was a =
    let z = accepted-none (divide_refusal of B k was) _ a in
    let known = divide-known of.parents of.weights B k was z in
    let some : 1 ≤ k = omega (arith, known.tables.some, known.blocks) in
    subst (Division of B k) (sym (unless-accepted (divide_refusal of B k was) was (divided of B k) z)) (division known.net k some)

-- The forest crate's promise is all that Divide asks of a net beside its limits: a valid net is not refused with 30.
pub divide-not-30 : (of : Net) (B k : ℕ) (was : DivisionTables) → Valid of → (divide_outcome of B k was).verdict ≡ refused 30 → ⊥
unfolding divide_outcome decided divide_refusal
divide-not-30 of B k was v =
    verdict-not _ _ 30
    (other-not 29 _ 1 _ (omega arith) (other-not 29 _ 2 _ (omega arith) (other-not 29 _ 8 _ (omega arith)
    (false-not 29 _ 30 _ (valid-undamaged v) (other-not 29 _ 22 _ (omega arith) (end-not 29))))))
