-- Where the growth of a forest stands: what the private functions below promise each other. No public contract cites this.
--
-- The graph E is taken in edge by edge, by rising upper end y. Two tables: p holds the forest's parents so far, jump holds for each
-- vertex that has a parent a higher one, found by climbing, from which the next climb goes on (path compression).
-- Assumes nothing.
use Rattle.std.specs.Prelude.{◌≡◌, ◌⊎◌, Bool, true, false, cond, ℕ, ◌≤◌, ◌<◌, eqb, length, get_or, take, drop, replicate}
use mathlib.Core.List.{List, [], ◌∷◌, ◌++◌, Memᴰ}
use Rattle.game.specs.Table.{tabulate}
use Rattle.game.specs.Edge.{Edge}
use Rattle.game.specs.Game.{absent, forest}
use Rattle.game.specs.Tree.{links}
use Rattle.game.proofs.Conn.{Conn}
use Rattle.game.specs.Graph.{Linked, Proper}
use Rattle.growth.specs.Work.{work_of, cleared}
use Rattle.sorting.specs.Sorted.{begin}
use Rattle.bucket.specs.Filed.{Consecutive, Filed}

-- neither table has an entry for z
pub record Root (p jump : List ℕ) (z : ℕ) : Type 0 where
  pub no_parent : get_or p z absent ≡ absent
  pub no_jump : get_or jump z absent ≡ absent

-- q stands above z, not above y, and the graph joins the two at q's height
pub record Above (E : List Edge) (y z q : ℕ) : Type 0 where
  pub over : z < q
  pub within : q ≤ y
  pub walk : Conn E q z q

-- the forest joins z to where it jumps; or z was passed by climbs for y, of which one stands at w still. The list ws is where climbs stand.
pub data Known (p : List ℕ) (y : ℕ) (ws : List ℕ) (z q : ℕ) : Type 0 where
  known : Conn (links p) q z q → Known p y ws z q
  passed : q ≡ y → (w : ℕ) → Memᴰ w ws → z < w → Conn (links p) w z w → Known p y ws z q

-- z has a parent and a jump
pub record Child (E : List Edge) (y : ℕ) (ws p jump : List ℕ) (z : ℕ) : Type 0 where
  pub parent : Above E y z (get_or p z absent)
  pub leap : Above E y z (get_or jump z absent)
  pub joined : Known p y ws z (get_or jump z absent)

-- the two tables while y's edges are taken in and climbs stand at ws
pub record Standing (n : ℕ) (E : List Edge) (y : ℕ) (ws p jump : List ℕ) : Type 0 where
  pub small : n ≤ absent
  pub long : length p ≡ n
  pub long_jump : length jump ≡ n
  pub each : (z : ℕ) → z < n → Root p jump z ⊎ Child E y ws p jump z

-- the forest joins z to y, or to where a climb for y stands
pub data Joins (p : List ℕ) (y : ℕ) (ws : List ℕ) (z : ℕ) : Type 0 where
  reaches : Conn (links p) y z y → Joins p y ws z
  waits : (w : ℕ) → Memᴰ w ws → Conn (links p) w z w → Joins p y ws z

-- parents that were there are there still
pub record Kept (was p : List ℕ) : Type 0 where
  pub keeps : (z : ℕ) → (get_or was z absent ≡ absent → ⊥) → get_or p z absent ≡ get_or was z absent

-- a climb from u for y stands at w, others at ws; what waited at u waits there now, or is joined to y
pub record Climbing (n : ℕ) (E : List Edge) (y u w : ℕ) (ws was p jump : List ℕ) : Type 0 where
  pub standing : Standing n E y (w ∷ ws) p jump
  pub top : y < n
  pub walk : Conn E y w y
  pub brings : (z : ℕ) → Joins was y (u ∷ ws) z → Joins p y (w ∷ ws) z
  pub kept : Kept was p

-- climbs from us are done, others stand at ws
pub record Climbed (n : ℕ) (E : List Edge) (y : ℕ) (us ws was p jump : List ℕ) : Type 0 where
  pub standing : Standing n E y ws p jump
  pub brings : (z : ℕ) → Joins was y us z → Joins p y ws z
  pub kept : Kept was p

-- a table of n jumps that lead higher, if anywhere: so a climb keeps within the tables and ends
pub record Upward (n : ℕ) (jump : List ℕ) : Type 0 where
  pub long : length jump ≡ n
  pub up : (z : ℕ) → z < n → (get_or jump z 0 ≡ absent) ⊎ (z < get_or jump z 0)

-- The parents that growing has written: those of the vertices that have a jump. What the table holds for others is left from before, so
-- that a vertex which gets its parent can be told from what it had.
unfoldable pub new_parents : (p jump : List ℕ) → List ℕ
new_parents p jump = tabulate (length p) (λ (z : ℕ). cond (eqb (get_or jump z absent) absent) absent (get_or p z absent))

-- vertices that have no jump had none, and are as they were
pub record Untouched (p jump p' jump' : List ℕ) : Type 0 where
  pub each : (z : ℕ) → get_or jump' z absent ≡ absent → (get_or jump z absent ≡ absent) × (get_or p' z absent ≡ get_or p z absent)

-- what a climb from u for y promises, for whatever graph the tables stand for and wherever other climbs stand
pub record Connects (u y : ℕ) (p jump p' jump' : List ℕ) : Type 0 where
  pub upward : Upward (length p) jump'
  pub untouched : Untouched p jump p' jump'
  pub climbed : (E : List Edge) (ws : List ℕ) → Standing (length p) E y (u ∷ ws) (new_parents p jump) jump → Conn E y u y
      → Climbed (length p) E y (u ∷ ws) ws (new_parents p jump) (new_parents p' jump') jump'

-- what a step of a climb for y from u promises, after which it stands at w
pub record Steps (u y : ℕ) (p jump p' jump' : List ℕ) (w : ℕ) : Type 0 where
  pub higher : u < y → u < w
  pub upward : Upward (length p) jump'
  pub untouched : Untouched p jump p' jump'
  pub stepped : (E : List Edge) (ws : List ℕ) → Standing (length p) E y (u ∷ ws) (new_parents p jump) jump → Conn E y u y
      → Climbing (length p) E y u w ws (new_parents p jump) (new_parents p' jump') jump'

-- the graph joins each vertex of a list to y, at y's height
pub record Offers (E : List Edge) (y : ℕ) (us : List ℕ) : Type 0 where
  pub offer : (i : ℕ) → i < length us → Conn E y (get_or us i 0) y

-- a climb was begun from each of the first k vertices of a bucket; they stand where the table says
pub record Begun (n : ℕ) (E : List Edge) (y k : ℕ) (bucket table was p jump : List ℕ) : Type 0 where
  pub standing : Standing n E y (take k table) p jump
  pub offered : (i : ℕ) → i < k → Conn E y (get_or table i 0) y
  pub joins : (i : ℕ) → i < k → Joins p y (take k table) (get_or bucket i 0)
  pub kept : Kept was p

-- the forest joins all vertices of a bucket to y
pub record Gathered (n : ℕ) (E : List Edge) (y : ℕ) (bucket was p jump : List ℕ) : Type 0 where
  pub standing : Standing n E y [] p jump
  pub joins : (i : ℕ) → i < length bucket → Conn (links p) y (get_or bucket i 0) y
  pub kept : Kept was p

-- what is left of entries that were read: themselves, where they are kept, or zeros
unfoldable pub left_of : Bool → List ℕ → List ℕ
left_of true us = us
left_of false us = replicate (length us) 0

-- a table of which the first i entries were read
pub record ReadUpTo (keep : Bool) (was : List ℕ) (i : ℕ) (table : List ℕ) : Type 0 where
  pub long : length table ≡ length was
  pub inside : i ≤ length was
  pub same : table ≡ left_of keep (take i was) ++ drop i was

-- what beginning a climb for y from each vertex of a bucket promises: the bucket then holds where they stand
pub record Begins (y : ℕ) (bucket p jump bucket' p' jump' : List ℕ) : Type 0 where
  pub upward : Upward (length p) jump'
  pub long : length bucket' ≡ length bucket
  pub untouched : Untouched p jump p' jump'
  pub begun : (E : List Edge) → Standing (length p) E y [] (new_parents p jump) jump → Offers E y bucket
      → Begun (length p) E y (length bucket) bucket bucket' (new_parents p jump) (new_parents p' jump') jump'

-- what climbing for y from each vertex of a list promises
pub record ConnectsAll (y : ℕ) (keep : Bool) (us p jump us' p' jump' : List ℕ) : Type 0 where
  pub upward : Upward (length p) jump'
  pub leaves : us' ≡ left_of keep us
  pub untouched : Untouched p jump p' jump'
  pub climbed : (E : List Edge) → Standing (length p) E y us (new_parents p jump) jump → Offers E y us
      → Climbed (length p) E y us [] (new_parents p jump) (new_parents p' jump') jump'

-- what gathering a bucket for y promises
pub record Gathers (y : ℕ) (keep : Bool) (bucket p jump bucket' p' jump' : List ℕ) : Type 0 where
  pub upward : Upward (length p) jump'
  pub leaves : bucket' ≡ left_of keep bucket
  pub untouched : Untouched p jump p' jump'
  pub gathered : (E : List Edge) → Standing (length p) E y [] (new_parents p jump) jump → Offers E y bucket
      → Gathered (length p) E y bucket (new_parents p jump) (new_parents p' jump') jump'

-- the vertices below y are raised: every edge with an upper end below y is a walk in the forest
pub record Raised (n : ℕ) (E : List Edge) (y : ℕ) (p jump : List ℕ) : Type 0 where
  pub standing : Standing n E y [] p jump
  pub covered : (a b : ℕ) → Linked E a b → a < b → b < y → Conn (links p) b a b

-- the tables before raising: no vertex has a jump
pub record Blank (ends lower p jump : List ℕ) : Type 0 where
  pub long : length p ≡ length ends
  pub blank_jump : jump ≡ replicate (length ends) absent
  pub buckets : Consecutive ends lower

-- what raising promises: the new parents are the elimination forest of whatever graph is filed; the buckets are kept or cleared
pub record Raises (keep : Bool) (ends lower p jump lower' p' jump' : List ℕ) (end : ℕ) : Type 0 where
  pub raised : (E : List Edge) → Proper (length ends) E → Filed (length ends) E ends lower → new_parents p' jump' ≡ forest (length ends) E
  pub untouched : Untouched p jump p' jump'
  pub last : end ≡ begin ends (length ends)
  pub leaves : ReadUpTo keep lower end lower'

-- a forest can be grown from what is filed: the tables' lengths fit
pub record Growable (ends lower p jump : List ℕ) : Type 0 where
  pub long : length p ≡ length ends
  pub long_jump : length jump ≡ length ends
  pub buckets : Consecutive ends lower

-- the links of a table are edges of a graph, upward
pub record LinksIn (p : List ℕ) (E : List Edge) : Type 0 where
  pub each : (z : ℕ) → z < length p → (get_or p z absent ≡ absent → ⊥) → Linked E z (get_or p z absent) × (z < get_or p z absent)

-- a forest is grown: the parents are those of whatever graph was filed, if that has the old links
pub record Grown (ends lower p p' : List ℕ) : Type 0 where
  pub parents : (E : List Edge) → Proper (length ends) E → Filed (length ends) E ends lower → LinksIn p E → p' ≡ forest (length ends) E

-- what growing promises: a grown forest, and cleared work tables
pub record Grows (ends lower p jump p' ends' lower' jump' : List ℕ) : Type 0 where
  pub grown : Grown ends lower p p'
  pub clear : work_of ends' jump' lower' ≡ cleared (work_of ends jump lower)

-- what growing promises where the buckets are kept
pub record GrowsKept (ends lower p p' lower' : List ℕ) : Type 0 where
  pub grown : Grown ends lower p p'
  pub kept : lower' ≡ lower
