-- From buckets to the forest: the vertices are raised bucket by bucket, and the table that stands at the end is the elimination forest,
-- because its links and the graph join the same vertices at the same heights.
-- Assumes nothing.
use mathlib.Core.Path.{◌≡◌, sym, subst, ◌∙◌}
use mathlib.Core.Logic.{◌≢◌, inl, inr, ⊎_elim, by_cases}
use mathlib.Core.Bool.{Bool}
use mathlib.Core.List.Memᴰ
use mathlib.Core.List.{List, []}
use Prim.Native.Nat.{ℕ, ◌+◌, ◌≤◌, ◌<◌}
use native.Mathlib.Nat.{le_refl, le_of_lt}
use native.Mathlib.Omega.{arith}
use native.Mathlib.Decide.{ℕ_discrete}
use lib.ListN.{length, get_or, replicate, length-replicate, get_or-replicate}
use Rattle.game.specs.Edge.{Edge}
use Rattle.game.specs.Game.{absent, forest}
use Rattle.game.specs.Tree.{links}
use Rattle.game.proofs.Conn.{Conn, Within, conn-step}
use Rattle.game.specs.Graph.{Linked, forth, back, Proper}
use Rattle.game.proofs.Within.{within-up, conn-below}
use Rattle.game.proofs.Sound.{Sound}
use Rattle.game.proofs.Links.{link-inv, link_up, links-proper}
use Rattle.game.proofs.Forest.{forest-unique}
use Rattle.bucket.specs.Filed.{lower_ends}
use Rattle.bucket.proofs.LowerEnds.{lower-ends-linked, linked-lower-ends}
use Rattle.growth.specs.Growth.{Above, Known, known, passed, Child, Standing, Offers, Gathered, Gathers, Raised, new_parents}
use Rattle.growth.proofs.Gather.{kept-conn}

-- with no climb under way the tables may stand at any greater height
pub standing-up : {n y h : ℕ} {E : List Edge} {p jump : List ℕ} → y ≤ h → Standing n E y [] p jump → Standing n E h [] p jump
standing-up {n} {y} {h} {E} {p} {jump} le s = record { small = s.small; long = s.long; long_jump = s.long_jump; each = λ z h. ⊎_elim (λ r. inl r) (λ k. inr (child k)) (s.each z h) }
  where
    above : {z q : ℕ} → Above E y z q → Above E h z q
    above a = record { over = a.over; within = omega (arith, a.within); walk = a.walk }

    joined : {z q : ℕ} → Known p y [] z q → Known p h [] z q
    joined (known t) = known t
    joined (passed e w m l t) = absurd (Memᴰ.not-nil m)

    child : {z : ℕ} → Child E y [] p jump z → Child E h [] p jump z
    child k = record { parent = above k.parent; leap = above k.leap; joined = joined k.joined }

-- nothing is raised: every vertex is a root
pub raise-start : (n : ℕ) (E : List Edge) → n ≤ absent → Raised n E 0 (replicate n absent) (replicate n absent)
raise-start n E small = record {
  standing = record {
    small = small;
    long = length-replicate n absent;
    long_jump = length-replicate n absent;
    each = λ z h. inl (record { no_parent = get_or-replicate n z absent absent h; no_jump = get_or-replicate n z absent absent h });
  };
  covered = λ a b l low none. absurd (omega arith);
}

-- y's bucket offers y's lower neighbours
offers-own : {n : ℕ} {E : List Edge} → Proper n E → (y : ℕ) → Offers E y (lower_ends E y)
offers-own {E = E} proper y = record {
  offer = λ i h. let (m, l) = lower-ends-linked E y i h in
      let low : get_or (lower_ends E y) i 0 < y = omega (arith, (proper.each (get_or (lower_ends E y) i 0) y l).2) in
      conn-step l (le_of_lt low) (le_refl y);
}

-- with the bucket gathered, y is raised too
raise-step : {n y : ℕ} {E : List Edge} {p jump p' jump' : List ℕ} → Raised n E y p jump → Gathered n E y (lower_ends E y) p p' jump' → Raised n E (y + 1) p' jump'
raise-step {n} {y} {E} {p} {p' = p'} r g = record { standing = standing-up (omega arith) g.standing; covered = covered }
  where
    new : (a : ℕ) → Linked E a y → a < y → Conn (links p') y a y
    new a l low = let (k, h, e) = linked-lower-ends E l low in
        subst (λ (x : ℕ). Conn (links p') y x y) e (g.joins k h)

    covered : (a b : ℕ) → Linked E a b → a < b → b < y + 1 → Conn (links p') b a b
    covered a b l low top = by_cases (ℕ_discrete b y)
        (λ (e : b ≡ y). subst (λ (x : ℕ). Conn (links p') x a x) (sym e) (new a (subst (Linked E a) e l) (omega arith)))
        (λ (d : b ≢ y). kept-conn (r.standing.long ∙ sym g.standing.long) g.kept (r.covered a b l low (omega arith)))

-- the same by what gathering promises of the bucket that is filed
pub raise-gather : {n y : ℕ} {E : List Edge} {keep : Bool} {bucket p jump bucket' p' jump' : List ℕ} → length p ≡ n → bucket ≡ lower_ends E y → Gathers y keep bucket p jump bucket' p' jump' → Proper n E → Raised n E y (new_parents p jump) jump → Raised n E (y + 1) (new_parents p' jump') jump'
raise-gather {n} {y} {E} {bucket} {p = p} {jump = jump} {p' = p'} {jump' = jump'} e b g proper r =
    raise-step r (subst (λ (us : List ℕ). Gathered n E y us (new_parents p jump) (new_parents p' jump') jump') b (gathered e r))
  where
    gathered : {m : ℕ} → length p ≡ m → Raised m E y (new_parents p jump) jump → Gathered m E y bucket (new_parents p jump) (new_parents p' jump') jump'
    gathered e = subst (λ (m : ℕ). Raised m E y (new_parents p jump) jump → Gathered m E y bucket (new_parents p jump) (new_parents p' jump') jump') e
        (λ (q : Raised (length p) E y (new_parents p jump) jump). g.gathered E q.standing (subst (Offers E y) (sym b) (offers-own proper y)))

-- all vertices raised: the table is the elimination forest
module _ {n y : ℕ} {E : List Edge} {p jump : List ℕ} (proper : Proper n E) (done : n ≤ y) (r : Raised n E y p jump) where
  parent_above : (z : ℕ) → z < n → get_or p z absent ≢ absent → (z < get_or p z absent) × Conn E (get_or p z absent) z (get_or p z absent)
  parent_above z h d = ⊎_elim (λ k. absurd (d k.no_parent)) (λ k. (k.parent.over, k.parent.walk)) (r.standing.each z h)

  table-sound : Sound p
  table-sound = record {
    each = λ z h. by_cases (ℕ_discrete (get_or p z absent) absent)
        (λ (e : get_or p z absent ≡ absent). inl e)
        (λ (d : get_or p z absent ≢ absent). let a = parent_above z (omega (arith, r.standing.long)) d in
        inr (a.0, omega (arith, r.standing.long, conn-below proper a.1 (omega (arith, a.0)))));
  }

  links-in : Within (links p) E
  links-in = within-up (links-proper table-sound) up
    where
      turned : {a b : ℕ} → a < b → Linked (links p) a b → (get_or p a absent ≡ b) × (b ≢ absent)
      turned low (forth m) = ((link-inv p m).1, (link-inv p m).2)
      turned low (back m) = absurd (omega (arith, (link_up table-sound m).0))

      up : (a b : ℕ) → a < b → Linked (links p) a b → Conn E b a b
      up a b low l = let t = turned low l in
          subst (λ (x : ℕ). Conn E x a x) t.0 (parent_above a (omega (arith, r.standing.long, ((links-proper table-sound).each a b l).0)) (λ e. t.1 (sym t.0 ∙ e))).1

  pub raise-end : p ≡ forest n E
  raise-end = forest-unique r.standing.small table-sound r.standing.long links-in
      (within-up proper (λ a b low l. r.covered a b l low (omega (arith, (proper.each a b l).1))))
