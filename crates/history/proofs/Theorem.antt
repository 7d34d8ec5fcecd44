-- No history of calls can bend the result: the theorem, for any world at first and any list of calls.
-- Assumes nothing.
use mathlib.Core.Path.{◌≡◌, sym, ap, subst, ◌∙◌}
use mathlib.Core.List.{List, [], ◌∷◌}
use Prim.Native.Nat.{ℕ, ◌*◌}
use lib.ListN.{length}
use Rattle.game.specs.Edge.{Tie, without_rows, ties, edges}
use Rattle.game.specs.Net.{Net, net_of}
use Rattle.game.proofs.Order.{net-order}
use Rattle.linkfile.proofs.RoundTrip.{link-file-length}
use Rattle.report.specs.Report.{Lent, report_outcome}
use Rattle.separate.specs.Separate.{SeparateTables, separate_outcome}
use Rattle.cost.proofs.VolumeBound.{volume-bound}
use Rattle.report.proofs.Own.{own-not-23, accepted-totals}
use Rattle.separate.proofs.Own.{own-not-23 as separate-not-23}
use Rattle.separate.proofs.Separation.{separate-separates}
use Rattle.history.specs.World.{World, Call, step}
use Rattle.history.specs.Book.{Book, blank}
use Rattle.history.specs.History.{world_after, book_after, Reports, Separated, NetHolds, FileHolds, Holds}
use Rattle.history.proofs.Steps.{NetOf, FileOf, Kept, net-unrecorded, file-unrecorded, net-lengths, parents-length, net-parents, step_keeps}

-- a report that is lent the list of a net
reports : (net : Net) (ts : List Tie) (B k : ℕ) (xs : List ℕ) (tables : Lent) → net ≡ net_of (length net.parents) ts → ties xs ≡ ts → Reports net (without_rows ts) B k (report_outcome net B k xs tables).verdict
unfolding edges
reports net ts B k xs tables is e =
    subst (λ (us : List Tie). Reports net (without_rows us) B k (report_outcome net B k xs tables).verdict) e
    (record {
      never_23 = own-not-23 net B k xs tables (is ∙ ap (net_of (length net.parents)) (sym e));
      answers = accepted-totals net B k xs tables;
    })

-- two vertices separated by a call that is lent the list of a net
separated : (net : Net) (ts : List Tie) (a b : ℕ) (xs : List ℕ) (tables : SeparateTables) → net ≡ net_of (length net.parents) ts → ties xs ≡ ts → Separated net (without_rows ts) a b (separate_outcome net a b xs tables)
unfolding edges
separated net ts a b xs tables is e =
    subst (λ (us : List Tie). Separated net (without_rows us) a b (separate_outcome net a b xs tables)) e
    (record {
      never_23 = separate-not-23 net a b xs tables (is ∙ ap (net_of (length net.parents)) (sym e));
      separates = separate-separates net a b xs tables;
    })

-- what is kept is what is claimed
net-holds : {net : Net} {ts : List Tie} → NetOf net ts → NetHolds net ts
net-holds {net} {ts} g = record {
  is = of ts g.is;
  any_order = λ us s. of us (g.is ∙ net-order g.vertices s);
  volume_bound = volume-bound net g.count.few g.proper (net-parents g);
  reports = λ B k xs tables e. reports net ts B k xs tables (of ts g.is) e;
  separates = λ a b xs tables e. separated net ts a b xs tables (of ts g.is) e;
}
  where
    of : (us : List Tie) → net ≡ net_of g.vertices us → net ≡ net_of (length net.parents) us
    of us e = e ∙ ap (λ (n : ℕ). net_of n us) (sym (parents-length g))

file-holds : {bytes : List ℕ} {ts : List Tie} → FileOf bytes ts → FileHolds bytes ts
file-holds {bytes} {ts} g =
    let n = g.vertices in
    let l = net-lengths n ts in
    record {
      vertices = n;
      whole = ap length g.is ∙ link-file-length (net_of n ts) (l.1 ∙ sym l.0) ∙ ap (λ (m : ℕ). 8 * m) l.0;
      is = g.is;
    }

-- nothing is claimed at first
blank-kept : (w : World) → Kept w blank
unfolding blank
blank-kept w = record { nets = λ i. net-unrecorded; files = λ f. file-unrecorded }

kept-after : {w : World} {b : Book} (cs : List Call) → Kept w b → Kept (world_after w cs) (book_after w b cs)
unfolding world_after book_after
kept-after [] v = v
kept-after {w = w} {b = b} (c ∷ cs) v = kept-after {w = (step w c).world} cs (step_keeps c v)

-- After every list of calls, whatever the tables held at first.
pub history : (w : World) (cs : List Call) → Holds (world_after w cs) (book_after w blank cs)
history w cs =
    let v = kept-after cs (blank-kept w) in
    record { nets = λ i r e. net-holds ((v.nets i).kept r e); files = λ f r e. file-holds ((v.files f).kept r e) }
