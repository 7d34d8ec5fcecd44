-- What the steps of cutting ask of each other and hand on. No public promise speaks of it.
-- Assumes nothing.
use Rattle.std.specs.Prelude.{◌≡◌, ◌≢◌, ◌⊎◌, Bool, true, not, ◌&&◌, cond, ℕ, zero, suc, ◌+◌, ◌-◌, ◌*◌, ◌/◌, ◌≤◌, ◌<◌, eqb, ltb, length, get_or, replicate}
use mathlib.Core.List.{List, [], ◌∷◌, map, Memᴰ}
use Rattle.game.specs.Table.{tabulate, sum, filtered}
use Rattle.game.specs.Game.{absent}
use Rattle.game.specs.Tree.{sound}
use Rattle.game.proofs.Lists.{Rising}
use Rattle.refusal.specs.Limits.{max_vertices, max_total}
use Rattle.cut.specs.Cut.{children_below, carries, trim, carried, cut, top}

-- a net that Divide accepts with limit B
pub record Divisible (p w : List ℕ) (B : ℕ) : Type 0 where
  pub known : sound p ≡ true
  pub few : length p ≤ max_vertices
  pub sized : length w ≡ length p
  pub small : sum w ≤ max_total
  pub some : 1 ≤ B
  pub light : (x : ℕ) → x < length p → get_or w x 0 ≤ B

-- the linked list that starts at h and goes on by `next` holds ys
pub data Chain (next : List ℕ) : ℕ → List ℕ → Type 0 where
  end : {h : ℕ} → h ≡ absent → Chain next h []
  node : {h y : ℕ} {ys : List ℕ} → h ≡ y → Chain next (get_or next y 0) ys → Chain next h (y ∷ ys)

-- by falling rank, below a
pub data Falling : ℕ → List ℕ → Type 0 where
  none : {a : ℕ} → Falling a []
  less : {a y : ℕ} {ys : List ℕ} → y < a → Falling y ys → Falling a (y ∷ ys)

-- what x hangs on: itself if it has no parent or is cut, else its parent
unfoldable pub holder : List ℕ → (ℕ → Bool) → ℕ → ℕ
holder p cuts x = let q : ℕ = get_or p x absent in cond (ltb q (length p) && not (cuts x)) q x

-- every vertex hangs on itself or on a higher one
pub record Hanging (link : List ℕ) : Type 0 where
  pub up : (x : ℕ) → x < length link → (x ≤ get_or link x 0) × (get_or link x 0 < length link)

-- each entry has gone up to the one that hangs on itself
pub record Tops (link tops : List ℕ) : Type 0 where
  pub stays : (x : ℕ) → x < length link → get_or link x 0 ≡ x → get_or tops x 0 ≡ x
  pub climbs : (x : ℕ) → x < length link → get_or link x 0 ≢ x → get_or tops x 0 ≡ get_or tops (get_or link x 0) 0

-- the lower ranks that hang on x
abbrev pub hanging : List ℕ → ℕ → List ℕ
hanging link x = children_below link x x

-- What x carries before it is trimmed: its own weight, and `uncut`, which the children that hang on x carry together. The weight of x
-- alone fits, and so does what any lower rank carries.
pub record Loaded (x weight uncut B : ℕ) (next carried link : List ℕ) : Type 0 where
  pub inside : x < length link
  pub few : length link ≤ max_vertices
  pub tails : length next ≡ length link
  pub told : length carried ≡ length link
  pub together : uncut ≡ sum (map (λ (y : ℕ). get_or carried y 0) (hanging link x))
  pub small : weight + uncut ≤ max_total
  pub alone : weight ≤ B
  pub each : (y : ℕ) → y < x → get_or carried y 0 ≤ B

-- a linked list by rising rank, which has all children of x that carry more than `floor`
pub record Candidates (x floor first : ℕ) (next carried link : List ℕ) : Type 0 where
  pub list : List ℕ
  pub chain : Chain next first list
  pub rising : Rising 0 list
  pub lower : (z : ℕ) → Memᴰ z list → z < x
  pub all : (z : ℕ) → Memᴰ z (hanging link x) → floor < get_or carried z 0 → Memᴰ z list

-- some children of x that carry more than `floor` hang on themselves now, and all else is as it was
pub record Released (x floor : ℕ) (carried was link : List ℕ) : Type 0 where
  pub each : (y : ℕ) → (get_or link y 0 ≡ get_or was y 0) ⊎ (Memᴰ y (hanging was x) × (floor < get_or carried y 0) × (get_or link y 0 ≡ y))

-- The released children had to be cut: to trim what still hangs on x leaves the same as to trim all that did; r is what it carries.
pub record Due (x weight B floor : ℕ) (carried was link : List ℕ) (r : ℕ) : Type 0 where
  pub same : trim (length (hanging link x)) (λ (y : ℕ). get_or carried y 0) B weight (hanging link x)
      ≡ trim (length (hanging was x)) (λ (y : ℕ). get_or carried y 0) B weight (hanging was x)
  pub together : r ≡ sum (map (λ (y : ℕ). get_or carried y 0) (hanging link x))
  pub moved : Released x floor carried was link

-- What trimming x leaves: what its uncut children carry together, which is r, fits, or none of them carries more than `floor`.
pub record Trimmed (x weight B floor : ℕ) (carried was link : List ℕ) (r : ℕ) : Type 0 where
  pub cuts : Due x weight B floor carried was link r
  pub ended : (weight + r ≤ B) ⊎ ((z : ℕ) → Memᴰ z (hanging link x) → get_or carried z 0 ≤ floor)

-- a linked list by falling rank
pub record Listed (first : ℕ) (next : List ℕ) : Type 0 where
  pub few : length next ≤ max_vertices
  pub list : List ℕ
  pub chain : Chain next first list
  pub falling : Falling (length next) list

-- the children of x, which all hang on it yet, as a linked list by falling rank
pub record Children (x first : ℕ) (next link : List ℕ) : Type 0 where
  pub listed : Listed first next
  pub all : (z : ℕ) → Memᴰ z (hanging link x) → Memᴰ z listed.list
  pub only : (z : ℕ) → Memᴰ z listed.list → Memᴰ z (hanging link x)

-- The class of a weight: the weight itself below 64; from there on it has 32 classes more than its half. It is halved 26 times at most,
-- which takes any 32-bit number below 64.
unfoldable pub class_by : ℕ → ℕ → ℕ
class_by zero v = v
class_by (suc s) v = let half : ℕ = class_by s (v / 2) in cond (ltb v 64) v (32 + half)

-- the least weight of a class
unfoldable pub least_by : ℕ → ℕ → ℕ
least_by zero c = c
least_by (suc s) c = let half : ℕ = least_by s (c - 32) in cond (ltb c 64) c (2 * half)

unfoldable pub least_of : ℕ → ℕ
unfolding least_by
least_of c = least_by 26 c

-- the class of v, where there is none above `last`
unfoldable pub class_of : ℕ → ℕ → ℕ
unfolding class_by
class_of last v = let c : ℕ = class_by 26 v in cond (ltb last c) last c

-- the most that a weight of a lower class is
unfoldable pub floor_of : ℕ → ℕ
unfolding least_of
floor_of c = least_of c - 1

-- more than any class of a 32-bit number
abbrev pub max_classes : ℕ
max_classes = 896

-- the heads of empty lists, one for each class
pub record Unfiled (heads : List ℕ) : Type 0 where
  pub some : 0 < length heads
  pub few : length heads ≤ max_classes
  pub empty : heads ≡ replicate (length heads) absent

-- the class of what y carries, where each class has a head
abbrev pub class_in : List ℕ → List ℕ → ℕ → ℕ
class_in heads carried y = class_of (length heads - 1) (get_or carried y 0)

-- What is filed of a linked list, all but `rest`: the ranks by rising rank, each in the list of its class. The links of others are as
-- they were.
pub record InClasses (class : ℕ → ℕ) (rest : List ℕ) (first : ℕ) (was next heads : List ℕ) : Type 0 where
  pub listed : Listed first was
  pub ranks : List ℕ
  pub rising : Rising 0 ranks
  pub all : (z : ℕ) → Memᴰ z listed.list → Memᴰ z rest ⊎ Memᴰ z ranks
  pub only : (z : ℕ) → Memᴰ z ranks → Memᴰ z listed.list
  pub chains : (c : ℕ) → c < length heads → Chain next (get_or heads c 0) (filtered (λ (y : ℕ). eqb (class y) c) ranks)
  pub others : (y : ℕ) → (Memᴰ y listed.list → ⊥) → get_or next y 0 ≡ get_or was y 0

-- What lightening x leaves: those hang on it that it keeps, the others of its children on themselves; r is what it carries. The lists
-- of other vertices are as they were.
pub record Lightened (x weight B : ℕ) (carried was link next_was next : List ℕ) (r : ℕ) : Type 0 where
  pub kept : hanging link x ≡ trim (length (hanging was x)) (λ (y : ℕ). get_or carried y 0) B weight (hanging was x)
  pub carries : r ≡ carries (λ (y : ℕ). get_or carried y 0) weight (hanging link x)
  pub moved : Released x 0 carried was link
  pub others : (y : ℕ) → (Memᴰ y (hanging was x) → ⊥) → get_or next y 0 ≡ get_or next_was y 0

-- what cutting leaves: what each rank carries, and what it hangs on
pub record Cuts (p w : List ℕ) (B : ℕ) (carried_now link : List ℕ) : Type 0 where
  pub table : carried_now ≡ carried p w B
  pub held : (x : ℕ) → x < length p → get_or link x 0 ≡ holder p (cut p w B) x

-- what each rank carries, and the top of its group
pub record Grouped (p w : List ℕ) (B : ℕ) (carried_now tops : List ℕ) : Type 0 where
  pub weights : carried_now ≡ carried p w B
  pub table : tops ≡ tabulate (length p) (top p (cut p w B))
