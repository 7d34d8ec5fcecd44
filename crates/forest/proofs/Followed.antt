-- What adding and joining answer is what a viewer may go by: parents only fall, those below the answer are as before, and a table that is
-- reread from there on is the new one.
-- Assumes nothing.
use mathlib.Core.Path.{◌≡◌, sym, subst₂}
use mathlib.Core.List.{List, ◌++◌}
use Prim.Native.Nat.{ℕ}
use native.Mathlib.Omega.{arith}
use lib.ListN.{length}
use Rattle.std.specs.Prelude.{Option}
use Rattle.game.specs.Edge.{Edge, without_rows, ties}
use Rattle.game.specs.Game.{forest}
use Rattle.game.specs.Tree.{links}
use Rattle.game.specs.Net.{Net}
use Rattle.game.proofs.Forest.{forest-length, links-fall}
use Rattle.refusal.specs.Verdict.{accepted}
use Rattle.refusal.specs.Outcome.{decided}
use Rattle.refusal.proofs.First.{unless-accepted}
use Rattle.refusal.proofs.Ends.{accepted-none, accepted-values}
use Rattle.moved.specs.Moved.{moved_from, moved}
use Rattle.moved.specs.Followed.{Followed}
use Rattle.moved.proofs.Followed.{followed}
use Rattle.growth.specs.Work.{NetWithWork}
use Rattle.growth.proofs.Whole.{Whole}
use Rattle.add_refusal.specs.Refused.{add_refusal}
use Rattle.add.specs.Add.{grown, add_outcome}
use Rattle.add_refusal.proofs.Accepted.{addable}
use Rattle.join_refusal.specs.Refused.{join_refusal}
use Rattle.join.specs.Join.{joined, join_outcome}
use Rattle.join_refusal.proofs.Accepted.{joinable}

-- of a net that is whole, with further edges
forest-followed : {of : Net} → Whole of → (es : List Edge) → let p : List ℕ = of.parents in let q : List ℕ = forest (length p) (links p ++ es) in Followed (moved_from 0 p q) p q
forest-followed {of} w es = followed (forest-length _ _) (links-fall w.sound (omega (arith, w.few)) es) (omega (arith, w.few))

module _ {m : Option ℕ} where
  pub add-followed : (g : NetWithWork) (xs : List ℕ) → (add_outcome g xs).verdict ≡ accepted m → Followed m g.net.parents (add_outcome g xs).tables.net.parents
  unfolding add_outcome decided moved grown
  add-followed g xs a =
      let z = accepted-none (add_refusal g xs) _ a in
      subst₂ (λ (k : Option ℕ) (t : NetWithWork). Followed k g.net.parents t.net.parents) (accepted-values (add_refusal g xs) _ a) (sym (unless-accepted (add_refusal g xs) g _ z))
      (forest-followed (addable g xs z).net (without_rows (ties xs)))

  pub join-followed : (g : NetWithWork) (other : Net) → (join_outcome g other).verdict ≡ accepted m → Followed m g.net.parents (join_outcome g other).tables.net.parents
  unfolding join_outcome decided moved joined
  join-followed g other a =
      let z = accepted-none (join_refusal g other) _ a in
      subst₂ (λ (k : Option ℕ) (t : NetWithWork). Followed k g.net.parents t.net.parents) (accepted-values (join_refusal g other) _ a) (sym (unless-accepted (join_refusal g other) g _ z))
      (forest-followed (joinable g other z).net (links other.parents))
