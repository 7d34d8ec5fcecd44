-- From climbs to a bucket: a climb is begun from each of its vertices, then each is made to its end; or each is made whole.
-- Assumes nothing.
use mathlib.Core.Path.{◌≡◌, refl, sym, ap, subst, ◌∙◌}
use mathlib.Core.Logic.{◌≢◌, ⊎_elim, by_cases}
use mathlib.Core.Bool.{Bool}
use mathlib.Core.List.Memᴰ
use mathlib.Core.List.{List, [], ◌∷◌, Memᴰ}
use Prim.Native.Nat.{ℕ, ◌+◌, ◌≤◌, ◌<◌}
use native.Mathlib.Nat.{le_refl}
use native.Mathlib.Numerals.{add-one}
use native.Mathlib.Omega.{arith}
use native.Mathlib.Decide.{ℕ_discrete}
use lib.ListN.{length, get_or, set, take, drop, take-append-drop, drop_of_length-le}
use lib.Seq.{get_or-set_same, get_or-set_other, take-suc-set, take_all, drop-cons}
use Rattle.game.specs.Edge.{Edge, ◌─◌}
use Rattle.game.specs.Game.{absent}
use Rattle.game.specs.Tree.{links}
use Rattle.game.specs.Graph.{Linked, forth, back}
use Rattle.game.proofs.Conn.{Conn, stay, conn-map}
use Rattle.game.proofs.Links.{link-of, link-inv}
use Rattle.growth.specs.Growth.{Standing, Joins, waits, Kept, Climbing, Climbed, Connects, Steps, Offers, Begun, Begins, Gathered, ConnectsAll, new_parents}
use Rattle.growth.proofs.Climbs.{Carries, joins-on, joins-end, standing_on, carries-among, kept_trans}

-- walks in the forest stay walks while parents are kept
pub kept-conn : {was p : List ℕ} → length was ≡ length p → Kept was p → {t a b : ℕ} → Conn (links was) t a b → Conn (links p) t a b
kept-conn {was} {p} same k = conn-map keep
  where
    link : {a b : ℕ} → (a < length was) × (get_or was a absent ≡ b) × (b ≢ absent) → Memᴰ (a ─ b) (links p)
    link h = link-of p (omega (arith, same, h.0)) (k.keeps _ (λ e. h.2 (sym h.1 ∙ e)) ∙ h.1) h.2

    keep : (a b : ℕ) → Linked (links was) a b → Linked (links p) a b
    keep a b (forth m) = forth (link (link-inv was m))
    keep a b (back m) = back (link (link-inv was m))

-- an entry of a list is one of its members
member-at : (us : List ℕ) (i : ℕ) → i < length us → Memᴰ (get_or us i 0) us
member-at us i h =
    subst (Memᴰ (get_or us i 0)) (take-append-drop i us)
    (Memᴰ.append_right (take i us) (subst (Memᴰ (get_or us i 0)) (sym (drop-cons us i 0 h)) (Memᴰ.head refl)))

-- no climb is begun yet
pub begin-start : {n y : ℕ} {E : List Edge} {bucket table p jump : List ℕ} → Standing n E y [] p jump → Begun n E y 0 bucket table p p jump
begin-start s = record { standing = s; offered = λ i h. absurd (omega arith); joins = λ i h. absurd (omega arith); kept = record { keeps = λ z f. refl } }

-- one climb more is begun, and stands at w
begin-step : {n y k u w : ℕ} {E : List Edge} {bucket table was p jump p' jump' : List ℕ} → k < length table → u ≡ get_or bucket k 0
    → Begun n E y k bucket table was p jump → Climbing n E y u w (take k table) p p' jump' → Begun n E y (k + 1) bucket (set table k w) was p' jump'
begin-step {y = y} {k = k} {u = u} {w = w} {E = E} {bucket = bucket} {table = table} {p = p} {p' = p'} inside q g c = record {
  standing = standing_on listed c.standing;
  offered = λ i h. by_cases (ℕ_discrete i k)
      (λ (e : i ≡ k). subst (λ (x : ℕ). Conn E y x y) (sym (ap (λ (j : ℕ). get_or (set table k w) j 0) e ∙ get_or-set_same table k w 0 inside)) c.walk)
      (λ (d : i ≢ k). subst (λ (x : ℕ). Conn E y x y) (sym (get_or-set_other table k i w 0 d)) (g.offered i (omega arith)));
  joins = λ i h. joins-on listed (c.brings (get_or bucket i 0) (by_cases (ℕ_discrete i k)
      (λ (e : i ≡ k). subst (Joins p y (u ∷ take k table)) (q ∙ ap (λ (j : ℕ). get_or bucket j 0) (sym e)) (waits u (Memᴰ.head refl) (stay (le_refl u))))
      (λ (d : i ≢ k). joins-on (carries-among (λ v m. Memᴰ.tail m)) (g.joins i (omega arith)))));
  kept = kept_trans g.kept c.kept;
}
  where
    listed : Carries p' y (w ∷ take k table) (take (k + 1) (set table k w))
    listed = rw (add-one k, take-suc-set table k w inside) (carries-among (λ v m. ⊎_elim (λ e. Memᴰ.append_right (take k table) (Memᴰ.head e)) (λ i. Memᴰ.append_left (w ∷ []) i) (Memᴰ.cases_cons m)))

-- the same by what a step promises
pub begin-next : {n y k u w : ℕ} {E : List Edge} {bucket table was p jump p' jump' : List ℕ} → length p ≡ n → k < length table → u ≡ get_or bucket k 0 → Steps u y p jump p' jump' w → Conn E y (get_or bucket k 0) y
    → Begun n E y k bucket table was (new_parents p jump) jump → Begun n E y (k + 1) bucket (set table k w) was (new_parents p' jump') jump'
begin-next {y = y} {k = k} {u = u} {w = w} {E = E} {bucket = bucket} {table = table} {was = was} {p = p} {jump = jump} {p' = p'} {jump' = jump'} e inside q s walk =
    subst (λ (m : ℕ). Begun m E y k bucket table was (new_parents p jump) jump → Begun m E y (k + 1) bucket (set table k w) was (new_parents p' jump') jump') e
    (λ g. begin-step inside q g (s.stepped E (take k table) (standing_on (carries-among (λ v m. Memᴰ.tail m)) g.standing) (subst (λ (x : ℕ). Conn E y x y) (sym q) walk)))

-- no climb is made to its end yet
pub climbs-start : {n y : ℕ} {E : List Edge} {us p jump : List ℕ} → Standing n E y us p jump → Climbed n E y us (drop 0 us) p p jump
climbs-start s = record { standing = s; brings = λ z j. j; kept = record { keeps = λ z f. refl } }

climbed-on : {n y : ℕ} {E : List Edge} {us vs ws was p jump p' jump' : List ℕ} → Climbed n E y us vs was p jump → Climbed n E y vs ws p p' jump' → Climbed n E y us ws was p' jump'
climbed-on a b = record { standing = b.standing; brings = λ z j. b.brings z (a.brings z j); kept = kept_trans a.kept b.kept }

-- one climb more is made
pub climbs-next : {n y i u : ℕ} {E : List Edge} {us was p jump p' jump' : List ℕ} → length p ≡ n → i < length us → u ≡ get_or us i 0 → Connects u y p jump p' jump' → Offers E y us
    → Climbed n E y us (drop i us) was (new_parents p jump) jump → Climbed n E y us (drop (i + 1) us) was (new_parents p' jump') jump'
climbs-next {y = y} {i = i} {u = u} {E = E} {us = us} {was = was} {p = p} {jump = jump} {p' = p'} {jump' = jump'} e inside q c o =
    subst (λ (m : ℕ). Climbed m E y us (drop i us) was (new_parents p jump) jump → Climbed m E y us (drop (i + 1) us) was (new_parents p' jump') jump') e
    (λ g.
    let first : drop i us ≡ u ∷ drop (i + 1) us = rw (add-one i, q) (drop-cons us i 0 inside) in
    let from : Climbed (length p) E y us (u ∷ drop (i + 1) us) was (new_parents p jump) jump = subst (λ (vs : List ℕ). Climbed (length p) E y us vs was (new_parents p jump) jump) first g in
    climbed-on from (c.climbed E (drop (i + 1) us) from.standing (subst (λ (x : ℕ). Conn E y x y) (sym q) (o.offer i inside))))

-- all are made
pub climbs-end : {n y i : ℕ} {E : List Edge} {us was p jump : List ℕ} → length us ≤ i → Climbed n E y us (drop i us) was p jump → Climbed n E y us [] was p jump
climbs-end {n} {y} {i} {E} {us} {was} {p} {jump} h = subst (λ (vs : List ℕ). Climbed n E y us vs was p jump) (drop_of_length-le us {i = i} h)

gathered : {n y : ℕ} {E : List Edge} {bucket us was between p jump : List ℕ} → Kept was between → ((i : ℕ) → i < length bucket → Joins between y us (get_or bucket i 0)) → Climbed n E y us [] between p jump → Gathered n E y bucket was p jump
gathered k j c = record { standing = c.standing; joins = λ i h. joins-end (c.brings _ (j i h)); kept = kept_trans k c.kept }

-- each climb made whole
pub gather-whole : {y : ℕ} {keep : Bool} {E : List Edge} {bucket p jump bucket' p' jump' : List ℕ} → ConnectsAll y keep bucket p jump bucket' p' jump'
    → Standing (length p) E y [] (new_parents p jump) jump → Offers E y bucket → Gathered (length p) E y bucket (new_parents p jump) (new_parents p' jump') jump'
gather-whole {E = E} {bucket = bucket} c s o =
    gathered (record { keeps = λ z f. refl }) (λ i h. waits _ (member-at bucket i h) (stay (le_refl _)))
    (c.climbed E (standing_on (carries-among (λ w m. absurd (Memᴰ.not-nil m))) s) o)

-- all begun, then each made to its end
pub gather-begun : {y : ℕ} {keep : Bool} {E : List Edge} {bucket p jump table q leap table' p' jump' : List ℕ} → length q ≡ length p → Begins y bucket p jump table q leap → ConnectsAll y keep table q leap table' p' jump'
    → Standing (length p) E y [] (new_parents p jump) jump → Offers E y bucket → Gathered (length p) E y bucket (new_parents p jump) (new_parents p' jump') jump'
gather-begun {y} {E = E} {bucket = bucket} {p = p} {jump = jump} {table = table} {q = q} {leap = leap} {p' = p'} {jump' = jump'} same b c s o =
    gathered g.kept (subst (λ (ws : List ℕ). (i : ℕ) → i < length bucket → Joins (new_parents q leap) y ws (get_or bucket i 0)) whole g.joins)
    (subst (λ (m : ℕ). Standing m E y table (new_parents q leap) leap → Climbed m E y table [] (new_parents q leap) (new_parents p' jump') jump') same
    (λ t. c.climbed E t (record { offer = λ i h. g.offered i (omega (arith, b.long)) }))
    (subst (λ (ws : List ℕ). Standing (length p) E y ws (new_parents q leap) leap) whole g.standing))
  where
    g : Begun (length p) E y (length bucket) bucket table (new_parents p jump) (new_parents q leap) leap
    g = b.begun E s o

    whole : take (length bucket) table ≡ table
    whole = take_all (length bucket) table (omega (arith, b.long))
