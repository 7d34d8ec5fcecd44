-- The promise on parents and weights: whatever start, add and join leave when they are accepted is valid, so that neither they nor any
-- call above them refuses it with 30.
-- Assumes nothing.
use mathlib.Core.Path.{◌≡◌, refl, sym, subst, ◌∙◌}
use mathlib.Core.Bool.{false}
use mathlib.Core.List.{List, [], ◌∷◌, ◌++◌, zip_with}
use Prim.Native.Nat.{ℕ, ◌+◌, ◌≤◌, ◌<◌}
use native.Mathlib.Omega.{arith}
use lib.ListN.{length}
use Rattle.std.specs.Prelude.{Option}
use Rattle.game.specs.Table.{sum}
use Rattle.game.specs.Edge.{Tie, without_rows, ties}
use Rattle.game.specs.Graph.{Proper}
use Rattle.game.specs.Tree.{links}
use Rattle.game.specs.Net.{Net, charges, net_of, weights}
use Rattle.game.proofs.Sound.{sound-true, true-sound}
use Rattle.game.proofs.Links.{links-proper}
use Rattle.game.proofs.Proper.{proper-nil, proper-append}
use Rattle.game.proofs.Forest.{forest-length, forest-sound}
use Rattle.game.proofs.Weights.{weights-length, weights-charges, charges-empty}
use Rattle.refusal.specs.Limits.{max_vertices, max_total}
use Rattle.refusal.specs.Verdict.{accepted, refused}
use Rattle.refusal.specs.Outcome.{decided}
use Rattle.refusal.proofs.First.{unless-accepted}
use Rattle.refusal.proofs.Ends.{accepted-none}
use Rattle.refusal.proofs.Never.{end-not, first-not, other-not, false-not, list-not, verdict-not}
use Rattle.refusal.proofs.Fault.{faultless-proper}
use Rattle.net.specs.Damage.{damaged}
use Rattle.table.proofs.Zipped.{zip_length}
use Rattle.growth.specs.Work.{NetWithWork}
use Rattle.start.specs.Start.{start_refusal, start_outcome}
use Rattle.add_refusal.specs.Refused.{add_refusal}
use Rattle.add.specs.Add.{grown, add_outcome}
use Rattle.join_refusal.specs.Refused.{join_refusal}
use Rattle.join.specs.Join.{joined, join_outcome}
use Rattle.forest.specs.Promise.{Valid}
use Rattle.join_refusal.proofs.Accepted.{joinable}
use Rattle.add_refusal.proofs.Accepted.{addable}
use Rattle.start.proofs.Accepted.{startable}
use Rattle.growth.proofs.Whole.{Whole}
use Rattle.forest.proofs.Passes.{whole-undamaged}

pub valid-whole : {of : Net} → Valid of → Whole of
valid-whole {of} v = record { some = v.some; few = v.few; long = v.sized; sound = sound-true of.parents v.sound; light = v.light }

pub valid-undamaged : {of : Net} → Valid of → damaged of ≡ false
valid-undamaged v = whole-undamaged (valid-whole v)

-- the net of ties that are charged no more than the limit
pub net-valid : {n : ℕ} (ts : List Tie) → 0 < n → n ≤ max_vertices → Proper n (without_rows ts) → charges ts ≤ max_total → Valid (net_of n ts)
unfolding net_of
net-valid {n} ts some few proper light = record {
  some = omega (arith, forest-length n (without_rows ts));
  few = omega (arith, forest-length n (without_rows ts));
  sized = weights-length n ts ∙ sym (forest-length n (without_rows ts));
  sound = true-sound (forest-sound proper);
  light = omega (arith, weights-charges ts proper);
}

sum-zip : (xs ys : List ℕ) → length xs ≡ length ys → sum (zip_with ◌+◌ xs ys) ≡ sum xs + sum ys
unfolding sum zip_with
sum-zip [] [] e = refl
sum-zip [] (y ∷ ys) e = absurd (omega arith)
sum-zip (x ∷ xs) [] e = absurd (omega arith)
sum-zip (x ∷ xs) (y ∷ ys) e = omega (arith, sum-zip xs ys (omega arith))

pub start-valid : (of : Net) → (start_outcome of).verdict ≡ accepted tt → Valid (start_outcome of).tables
unfolding start_outcome decided
start-valid of a =
    let z = accepted-none (start_refusal of) _ a in
    let s = startable of z in
    subst Valid (sym (unless-accepted (start_refusal of) of _ z)) (net-valid [] s.some s.few (proper-nil (length of.parents)) (omega (arith, charges-empty)))

pub add-valid : (g : NetWithWork) (xs : List ℕ) {m : Option ℕ} → (add_outcome g xs).verdict ≡ accepted m → Valid (add_outcome g xs).tables.net
unfolding add_outcome decided grown
add-valid g xs a =
    let z = accepted-none (add_refusal g xs) _ a in
    let k = addable g xs z in
    let n = length g.net.parents in
    let proper = faultless-proper n (ties xs) k.faultless in
    let same : length g.net.weights ≡ length (weights n (ties xs)) = k.net.long ∙ sym (weights-length n (ties xs)) in
    subst (λ (t : NetWithWork). Valid t.net) (sym (unless-accepted (add_refusal g xs) g _ z))
    (record {
      some = omega (arith, forest-length n (links g.net.parents ++ without_rows (ties xs)), k.net.some);
      few = omega (arith, forest-length n (links g.net.parents ++ without_rows (ties xs)), k.net.few);
      sized = zip_length ◌+◌ g.net.weights (weights n (ties xs)) same ∙ k.net.long ∙ sym (forest-length n (links g.net.parents ++ without_rows (ties xs)));
      sound = true-sound (forest-sound (proper-append (links-proper k.net.sound) proper));
      light = omega (arith, sum-zip g.net.weights (weights n (ties xs)) same, weights-charges (ties xs) proper, k.light);
    })

pub join-valid : (g : NetWithWork) (other : Net) {m : Option ℕ} → (join_outcome g other).verdict ≡ accepted m → Valid (join_outcome g other).tables.net
unfolding join_outcome decided joined
join-valid g other a =
    let z = accepted-none (join_refusal g other) _ a in
    let k = joinable g other z in
    let n = length g.net.parents in
    let same : length g.net.weights ≡ length other.weights = k.net.long ∙ sym k.same ∙ sym k.second.long in
    subst (λ (t : NetWithWork). Valid t.net) (sym (unless-accepted (join_refusal g other) g _ z))
    (record {
      some = omega (arith, forest-length n (links g.net.parents ++ links other.parents), k.net.some);
      few = omega (arith, forest-length n (links g.net.parents ++ links other.parents), k.net.few);
      sized = zip_length ◌+◌ g.net.weights other.weights same ∙ k.net.long ∙ sym (forest-length n (links g.net.parents ++ links other.parents));
      sound = true-sound (forest-sound (proper-append (links-proper k.net.sound) (subst (λ (m : ℕ). Proper m (links other.parents)) k.same (links-proper k.second.sound))));
      light = omega (arith, sum-zip g.net.weights other.weights same, k.light);
    })

-- a valid net is not refused with 30
pub add-not-30 : (g : NetWithWork) (xs : List ℕ) → Valid g.net → (add_outcome g xs).verdict ≡ refused 30 → ⊥
unfolding add_outcome decided add_refusal
add-not-30 g xs v =
    verdict-not _ _ 30
    (other-not 29 _ 1 _ (omega arith) (other-not 29 _ 2 _ (omega arith) (other-not 29 _ 2 _ (omega arith) (other-not 29 _ 2 _ (omega arith)
    (false-not 29 _ 30 _ (valid-undamaged v) (first-not 29 _ _ (list-not 29 _ xs (omega arith) (omega arith) (omega arith)) (other-not 29 _ 20 _ (omega arith) (end-not 29))))))))

pub join-not-30 : (g : NetWithWork) (other : Net) → Valid g.net → Valid other → (join_outcome g other).verdict ≡ refused 30 → ⊥
unfolding join_outcome decided join_refusal
join-not-30 g other v u =
    verdict-not _ _ 30
    (other-not 29 _ 1 _ (omega arith) (other-not 29 _ 1 _ (omega arith) (other-not 29 _ 2 _ (omega arith) (other-not 29 _ 2 _ (omega arith) (other-not 29 _ 2 _ (omega arith)
    (other-not 29 _ 21 _ (omega arith) (false-not 29 _ 30 _ (valid-undamaged v) (false-not 29 _ 30 _ (valid-undamaged u) (other-not 29 _ 20 _ (omega arith) (end-not 29))))))))))
