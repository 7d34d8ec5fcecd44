-- Relabelling the edges and growing their net: none of the calls is refused, and what they leave is the net of the edges by rank.
-- Assumes nothing.
use mathlib.Core.Path.{◌≡◌, sym, ap, ap₂, ◌∙◌}
use mathlib.Core.Bool.{false}
use mathlib.Core.List.{List}
use Prim.Native.Nat.{ℕ, ◌+◌, ◌/◌, ◌%◌, ◌≤◌, ◌<◌}
use native.Mathlib.Omega.{arith}
use lib.ListN.{length}
use Rattle.std.specs.Prelude.{Option}
use borrow.Author.Tests.{ne_eqb, le-ltb}
use Rattle.game.specs.Edge.{ties, edges}
use Rattle.game.specs.Net.{net, net_of}
use Rattle.game.proofs.Edges.{edges-length}
use Rattle.refusal.specs.Limits.{max_vertices}
use Rattle.refusal.specs.Refusal.{bad_count, not_whole, first_fault}
use Rattle.refusal.specs.Verdict.{Verdict}
use Rattle.refusal.specs.Outcome.{Outcome, ended, decided}
use Rattle.refusal.proofs.First.{pass, first-last, right-length, whole-list, list-whole, unless-accepted}
use Rattle.growth.specs.Work.{Work, work_of, NetWithWork, with_work}
use Rattle.start.specs.Start.{start_outcome}
use Rattle.add.specs.Add.{add_outcome}
use Rattle.order.specs.Order.{inverse_of}
use Rattle.relabel.specs.Relabel.{relabelled, RelabelTables, relabel_tables, relabel_refusal, relabel_outcome}
use Rattle.relabel.proofs.Relabelled.{relabelled-length, relabelled-faultless}
use Rattle.forest.proofs.FirstList.{FirstList, first-net}
use Rattle.files.specs.Files.{vertex_capacity}
use Rattle.run_report.specs.Steps.{Runnable, GrowRoom, RankedNet}

pub few-vertices : (n : ℕ) → 0 < n → n ≤ vertex_capacity → bad_count n ≡ false
unfolding bad_count
few-vertices n some few = rw (ne_eqb n 0 (omega arith), le-ltb max_vertices n (omega arith))

-- the edges by rank are as many, and none is at fault
module _ {o xs ranks : List ℕ} (r : Runnable o xs) (e : ranks ≡ relabelled o xs) where
  ranked-length : length ranks ≡ length xs
  ranked-length = ap length e ∙ relabelled-length o xs

  pub ranked-count : length (edges ranks) ≡ length (edges xs)
  ranked-count = edges-length ranks ∙ ap (λ (n : ℕ). n / 3) ranked-length ∙ sym (edges-length xs)

  pub ranked-whole : not_whole ranks ≡ false
  ranked-whole = whole-list ranks (ap (λ (n : ℕ). n % 3) ranked-length ∙ list-whole xs r.all)

  pub ranked-faultless : first_fault (length o) (ties ranks) ≡ 0
  ranked-faultless = ap (λ (ys : List ℕ). first_fault (length o) (ties ys)) e ∙ relabelled-faultless o r.good xs r.faultless

-- the tables of growing's own
pub record GrowWork (o xs inverse : List ℕ) (work : Work) : Type 0 where
  pub inverted : length inverse ≡ length o
  pub ends : length work.ends ≡ length o
  pub jump : length work.jump ≡ length o
  pub lower : length work.lower ≡ length o + length (edges xs)

module _ {o xs ranks p w v e j l : List ℕ} (r : Runnable o xs) (room : GrowRoom o xs ranks (net p w)) (own : GrowWork o xs v (work_of e j l)) where
  passes : relabel_refusal o xs (length ranks) (length v) ≡ 0
  unfolding relabel_refusal
  passes =
      pass 1 _ (few-vertices (length o) r.some r.vertices)
      ∙ pass 2 _ r.all
      ∙ pass 2 _ (right-length (length ranks) (length xs) room.ranked)
      ∙ pass 2 _ (right-length (length v) (length o) own.inverted)
      ∙ pass 3 _ r.good
      ∙ first-last _
      ∙ r.faultless

  -- the edges by rank
  module _ {m : Verdict (Unit {0})} {ranks' v' : List ℕ} (relabels : ended m (relabel_tables ranks' v') ≡ relabel_outcome o xs (relabel_tables ranks v)) where
    by_rank : ranks' ≡ relabelled o xs
    unfolding relabel_outcome decided
    by_rank =
        ap (λ (t : Outcome (Unit {0}) RelabelTables). t.tables.out) relabels
        ∙ ap (λ (t : RelabelTables). t.out) (unless-accepted (relabel_refusal o xs (length ranks) (length v)) (relabel_tables ranks v) (relabel_tables (relabelled o xs) (inverse_of o)) passes)

    as_many : length (edges ranks') ≡ length (edges xs)
    as_many = ranked-count r by_rank

    first-list : FirstList ranks' (net p w) (work_of e j l)
    first-list =
        record {
          fits = record {
            vertices = omega (arith, r.vertices, room.parents);
            few = omega (arith, r.few, as_many);
            faultless = ap (λ (n : ℕ). first_fault n (ties ranks')) room.parents ∙ ranked-faultless r by_rank;
            weights = room.weights ∙ sym room.parents;
            ends = own.ends ∙ sym room.parents;
            jump = own.jump ∙ sym room.parents;
            lower = own.lower ∙ ap₂ (λ (n m : ℕ). n + m) (sym room.parents) (sym as_many);
          };
          some = omega (arith, r.some, room.parents);
          all = ranked-whole r by_rank;
        }

    -- all calls together
    pub all_grown : {m' : Verdict (Unit {0})} {m'' : Verdict (Option ℕ)} {p' w' p'' w'' e'' j'' l'' : List ℕ} → ended m' (net p' w') ≡ start_outcome (net p w)
        → ended m'' (with_work (net p'' w'') (work_of e'' j'' l'')) ≡ add_outcome (with_work (net p' w') (work_of e j l)) ranks'
        → RankedNet o xs ranks' (net p'' w'')
    all_grown s a =
        record {
          ranked = by_rank;
          net = ap (λ (g : NetWithWork). g.net) (first-net first-list s a) ∙ ap₂ (λ (n : ℕ) (ys : List ℕ). net_of n (ties ys)) room.parents by_rank;
        }
