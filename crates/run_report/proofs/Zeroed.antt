-- The tables of a step's own: zeroed, at their full length, of which a part is lent and read again.
-- Assumes nothing.
use mathlib.Core.Path.{◌≡◌, sym, ap, ◌∙◌}
use mathlib.Core.Bool.{false}
use mathlib.Core.List.{List, ◌++◌}
use Prim.Native.Nat.{ℕ, ◌+◌, ◌≤◌}
use native.Mathlib.Omega.{arith}
use lib.ListN.{length, take, drop, replicate, length-append, length-replicate}
use lib.Seq.{take_at, length-take-le}
use Rattle.game.specs.Edge.{edges}
use Rattle.game.specs.Net.{Net, net}
use Rattle.game.proofs.Edges.{edges-length}
use Rattle.growth.specs.Work.{work_of}
use Rattle.refusal.specs.DivisionLimits.{max_blocks, bad_limits}
use Rattle.refusal.proofs.First.{list-whole}
use Rattle.refusal.proofs.DivisionLimits.{limits-not}
use Rattle.divide.specs.Divide.{division_of}
use Rattle.report_write.specs.Written.{written}
use Rattle.report.specs.Report.{lent}
use Rattle.files.specs.Files.{vertex_capacity, edge_capacity}
use Rattle.files.specs.Steps.{number_capacity}
use Rattle.run_report.specs.Steps.{Runnable, GrowRoom, Ready}
use Rattle.run_report.proofs.Growing.{GrowWork}
use Rattle.run_report.proofs.Reporting.{ReportRoom}

-- the part that is lent
abbrev pub part : (most n : ℕ) → List ℕ
part most n = take n (replicate most 0)

pub part_length : (most n : ℕ) → n ≤ most → length (part most n) ≡ n
part_length most n h = length-take-le n (replicate most 0) (omega (arith, length-replicate {A = ℕ} most 0))

pub part-counted : (most n : ℕ) → n ≤ most → n ≡ length (part most n)
part-counted most n h = sym (part_length most n h)

-- what a call wrote there, with the rest behind it
module _ (most n : ℕ) (h : n ≤ most) (t : List ℕ) (kept : length t ≡ length (part most n)) where
  as_long : length t ≡ n
  as_long = kept ∙ part_length most n h

  pub front_fits : n ≤ length (t ++ drop n (replicate most 0))
  front_fits = omega (arith, length-append t (drop n (replicate most 0)), as_long)

  pub front-is : take n (t ++ drop n (replicate most 0)) ≡ t
  front-is = take_at t (drop n (replicate most 0)) n as_long

  pub front_length : length (take n (t ++ drop n (replicate most 0))) ≡ n
  front_length = ap length front-is ∙ as_long

  pub front-counted : n ≡ length (take n (t ++ drop n (replicate most 0)))
  front-counted = sym front_length

-- the number of blocks is not refused, so it fits
pub blocks-fit : (B k : ℕ) → bad_limits B k ≡ false → k ≤ max_blocks
blocks-fit B k good = (limits-not B k good).3

-- the tables of growing, by the edges that the code has counted
module _ {o xs : List ℕ} (r : Runnable o xs) where
  pub numbers_fit : length xs ≤ number_capacity
  numbers_fit = omega (arith, r.few, list-whole xs r.all, edges-length xs)

  pub grow-room : GrowRoom o xs (part number_capacity (length xs)) (net (part vertex_capacity (length o)) (part vertex_capacity (length o)))
  grow-room =
      let v = part_length vertex_capacity (length o) r.vertices in
      record { ranked = part_length number_capacity (length xs) numbers_fit; parents = v; weights = v }

  module _ {m : ℕ} (counted : m ≡ length (edges xs)) where
    pub both-fit : length o + m ≤ vertex_capacity + edge_capacity
    both-fit = omega (arith, r.few, r.vertices)

    pub grow-work : GrowWork o xs (part vertex_capacity (length o)) (work_of (part vertex_capacity (length o)) (part vertex_capacity (length o)) (part (vertex_capacity + edge_capacity) (length o + m)))
    grow-work =
        let v = part_length vertex_capacity (length o) r.vertices in
        record { inverted = v; ends = v; jump = v; lower = part_length (vertex_capacity + edge_capacity) (length o + m) both-fit ∙ ap (λ (k : ℕ). length o + k) counted }

-- the tables of reporting
module _ {o ranks : List ℕ} {B k : ℕ} {of : Net} (g : Ready o ranks B k of) {m : ℕ} (counted : m ≡ length (edges ranks)) where
  pub edges_fit : m ≤ edge_capacity
  edges_fit = omega (arith, g.few)

  pub sum_fits : length o + m ≤ vertex_capacity + edge_capacity
  sum_fits = omega (arith, g.vertices, edges_fit)

  pub report-room :
      ReportRoom (length o) (length (edges ranks)) k
      (lent
      (written (division_of (part vertex_capacity (length o)) (part vertex_capacity (length o)) (part vertex_capacity (length o)) (part max_blocks k)) (part edge_capacity m)
      (part vertex_capacity (length o)) (part vertex_capacity (length o)) (part vertex_capacity (length o)))
      (net (part vertex_capacity (length o)) (part vertex_capacity (length o)))
      (work_of (part vertex_capacity (length o)) (part vertex_capacity (length o)) (part (vertex_capacity + edge_capacity) (length o + m))))
  report-room =
      let v = part_length vertex_capacity (length o) g.vertices in
      record {
        carried = v;
        top = v;
        block = v;
        loads = part_length max_blocks k (blocks-fit B k g.limits);
        edge_blocks = part_length edge_capacity m edges_fit ∙ counted;
        reach = v;
        block_count = v;
        edges_taken = v;
        compared_parents = v;
        compared_weights = v;
        ends = v;
        jump = v;
        lower = part_length (vertex_capacity + edge_capacity) (length o + m) sum_fits ∙ ap (λ (j : ℕ). length o + j) counted;
      }
