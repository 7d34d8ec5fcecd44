-- The blocks of a divided net as nets of their own, laid together again by the calls.
--
-- A tie belongs to one block, so the ties of the blocks make the list of ties up between them. A host starts a net for each block and
-- adds the block's own ties to it, starts one net more, and joins the blocks' nets into that, one after the other: every call is accepted,
-- and the net is there again. The load of a block is what its ties are charged, in rows.
-- Assumes nothing.
use Rattle.std.specs.Prelude.{◌≡◌, Bool, true, false, ◌&&◌, ℕ, ◌+◌, ◌<◌, eqb, length, get_or}
use mathlib.Core.List.{List, [], ◌∷◌, map, Permᴰ}
use Rattle.game.specs.Table.{tabulate, filtered}
use Rattle.game.specs.Edge.{Tie, ties}
use Rattle.game.specs.Net.{Net, charges}
use Rattle.refusal.specs.Refusal.{not_whole}
use Rattle.refusal.specs.Verdict.{is_accepted}
use Rattle.refusal.specs.Outcome.{Outcome}
use Rattle.growth.specs.Work.{Work, NetWithWork, with_work, bad_work}
use Rattle.start.specs.Start.{start_outcome}
use Rattle.add.specs.Add.{add_outcome}
use Rattle.join.specs.Join.{join_outcome}
use Rattle.divide.specs.Divide.{DivisionTables}
use Rattle.block_count.specs.BlockCount.{edge_block}

-- the ties of block j
unfoldable pub ties_of : List ℕ → List Tie → ℕ → List Tie
ties_of block ts j = filtered (λ (t : Tie). eqb (edge_block block t.edge) j) ts

-- what is lent for a block: its ties as raw numbers, the tables of its net, holding anything, and work tables for adding and joining
pub record Lot : Type 0 where
  pub list : List ℕ
  pub tables : Net
  pub adding : Work
  pub joining : Work

-- it is lent for these ties among n vertices, with tables of the lengths that the calls need
pub record LotOf (n : ℕ) (ts : List Tie) (lot : Lot) : Type 0 where
  pub reads : ties lot.list ≡ ts
  pub whole : not_whole lot.list ≡ false
  pub parents : length lot.tables.parents ≡ n
  pub weights : length lot.tables.weights ≡ n
  pub adding : bad_work n (n + length ts) lot.adding ≡ false
  pub joining : bad_work n (n + n) lot.joining ≡ false

pub data Lots (n : ℕ) : List (List Tie) → List Lot → Type 0 where
  none : Lots n [] []
  more : {ts : List Tie} {lists : List (List Tie)} {lot : Lot} {lots : List Lot} → LotOf n ts lot → Lots n lists lots → Lots n (ts ∷ lists) (lot ∷ lots)

-- whether every call so far was accepted, and the net that they left
pub record Laid : Type 0 where
  pub accepted : Bool
  pub net : Net

-- a call's outcome after what was laid: it counts as accepted if all before it were too
unfoldable pub after : {X A : Type 0} → (accepted : Bool) → Outcome X A → (A → Net) → Laid
after accepted o net = record { accepted = accepted && is_accepted o.verdict; net = net o.tables }

unfoldable pub started : Net → Laid
started tables = after true (start_outcome tables) (λ (net : Net). net)

-- the net of a block: started, and its ties added
unfoldable pub grown_lot : Lot → Laid
grown_lot lot = let s : Laid = started lot.tables in after s.accepted (add_outcome (with_work s.net lot.adding) lot.list) (λ (g : NetWithWork). g.net)

-- the nets of lots joined into a net that was started, the last lot first
unfoldable pub laid : Net → List Lot → Laid
laid tables [] = started tables
laid tables (lot ∷ lots) =
    let one : Laid = laid tables lots in
    let other : Laid = grown_lot lot in
    after (one.accepted && other.accepted) (join_outcome (with_work one.net lot.joining) other.net) (λ (g : NetWithWork). g.net)

-- The blocks, laid together again in any order, are the net; and each block's load is what its ties are charged.
pub record Together (of : Net) (ts : List Tie) (k : ℕ) (division : DivisionTables) : Type 0 where
  pub net : (js : List ℕ) → Permᴰ js (tabulate k (λ j. j)) → (tables : Net) → length tables.parents ≡ length of.parents → length tables.weights ≡ length of.parents
      → (lots : List Lot) → Lots (length of.parents) (map (ties_of division.block ts) js) lots
      → laid tables lots ≡ record { accepted = true; net = of }
  pub loads : (j : ℕ) → j < k → get_or division.block_loads j 0 ≡ charges (ties_of division.block ts j)
