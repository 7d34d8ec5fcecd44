-- One climb: from a lower neighbour u of y up to the root of u's tree, which becomes a child of y. Every vertex on the way then
-- jumps to y. The laws follow a step's three ways: it jumps on, it finds the root, it is at y already. Other climbs may stand elsewhere
-- meanwhile: whoever waits for one of them waits on.
-- Assumes nothing.
use mathlib.Core.Path.{◌≡◌, refl, sym, ap, subst, ◌∙◌}
use mathlib.Core.Logic.{◌≢◌, ◌⊎◌, inl, inr, ⊎_elim, by_cases}
use mathlib.Core.List.Memᴰ
use mathlib.Core.List.{List, [], ◌∷◌, Memᴰ}
use Prim.Native.Nat.{ℕ, ◌≤◌, ◌<◌}
use native.Mathlib.Nat.{le_refl, le_of_lt}
use native.Mathlib.Omega.{arith}
use native.Mathlib.Decide.{ℕ_discrete}
use lib.ListN.{length, get_or, set, replicate, length-set, length-replicate, get_or-replicate}
use lib.Seq.{get_or-set_same, get_or-set_other}
use Rattle.game.specs.Edge.{Edge}
use Rattle.game.specs.Game.{absent}
use Rattle.game.specs.Tree.{links}
use Rattle.game.proofs.Conn.{Conn, stay, conn-from, conn-trans, conn-sym, conn-up, conn-step, conn-map}
use Rattle.game.specs.Graph.{Linked, forth, back}
use Rattle.game.proofs.Sound.{get_d_default}
use Rattle.game.proofs.Links.{link-set-old, link-set-new}
use Rattle.growth.specs.Growth.{Root, Above, Known, known, passed, Child, Standing, Joins, reaches, waits, Kept, Climbing, Climbed, Connects, Steps, Upward, new_parents}
use Rattle.growth.proofs.NewParents.{new-length, new-pass, new-link}

-- whoever stands at ws is joined to y or to where climbs stand then: so is whoever waits there
pub record Carries (p : List ℕ) (y : ℕ) (ws vs : List ℕ) : Type 0 where
  pub on : (w : ℕ) → Memᴰ w ws → Joins p y vs w

module _ {p : List ℕ} {y : ℕ} {ws vs : List ℕ} (c : Carries p y ws vs) where
  pub joins-on : {z : ℕ} → Joins p y ws z → Joins p y vs z
  joins-on (reaches t) = reaches t
  joins-on {z} (waits w m t) = further (c.on w m)
    where
      further : Joins p y vs w → Joins p y vs z
      further (reaches s) = reaches (conn-trans (conn-up (conn-from s) t) s)
      further (waits v m s) = waits v m (conn-trans (conn-up (conn-from s) t) s)

  known_on : {z q : ℕ} → Known p y ws z q → Known p y vs z q
  known_on (known t) = known t
  known_on {z} {q} (passed e w m l t) = further (c.on w m)
    where
      further : Joins p y vs w → Known p y vs z q
      further (reaches s) = known (subst (λ (x : ℕ). Conn (links p) x z x) (sym e) (conn-trans (conn-up (conn-from s) t) s))
      further (waits v m s) = passed e v m (omega (arith, conn-from s)) (conn-trans (conn-up (conn-from s) t) s)

  child-on : {E : List Edge} {jump : List ℕ} {z : ℕ} → Child E y ws p jump z → Child E y vs p jump z
  child-on k = record { parent = k.parent; leap = k.leap; joined = known_on k.joined }

  pub standing_on : {n : ℕ} {E : List Edge} {jump : List ℕ} → Standing n E y ws p jump → Standing n E y vs p jump
  standing_on s = record { small = s.small; long = s.long; long_jump = s.long_jump; each = λ z h. ⊎_elim (λ r. inl r) (λ k. inr (child-on k)) (s.each z h) }

-- where no climb stands, none is waited for
pub joins-end : {p : List ℕ} {y z : ℕ} → Joins p y [] z → Conn (links p) y z y
joins-end (reaches t) = t
joins-end (waits w m t) = absurd (Memᴰ.not-nil m)

-- where climbs stand, listed in another order or among more
pub carries-among : {p : List ℕ} {y : ℕ} {ws vs : List ℕ} → ((w : ℕ) → Memᴰ w ws → Memᴰ w vs) → Carries p y ws vs
carries-among f = record { on = λ w m. waits w (f w m) (stay (le_refl w)) }

-- the first of them gone
carries-first : {p : List ℕ} {y w : ℕ} {ws vs : List ℕ} → Joins p y vs w → ((v : ℕ) → Memᴰ v ws → Memᴰ v vs) → Carries p y (w ∷ ws) vs
carries-first {p} {y} {w} {ws} {vs} j f = record {
  on = λ v m. ⊎_elim (λ e. subst (Joins p y vs) (sym e) j) (λ k. waits v (f v k) (stay (le_refl v))) (Memᴰ.cases_cons m);
}

-- a link of the table is one still where a root got a parent
links-grow : (p : List ℕ) (x y : ℕ) → get_or p x absent ≡ absent → {t a b : ℕ} → Conn (links p) t a b → Conn (links (set p x y)) t a b
links-grow p x y e = conn-map keep
  where
    keep : (a b : ℕ) → Linked (links p) a b → Linked (links (set p x y)) a b
    keep a b (forth m) = forth (link-set-old p x y e m)
    keep a b (back m) = back (link-set-old p x y e m)

module _ {n y u w : ℕ} {E : List Edge} {ws was p jump : List ℕ} (c : Climbing n E y u w ws was p jump) (low : w < y) where
  below : w < n
  below = omega (arith, c.top)

  inside : w < length jump
  inside = omega (arith, c.standing.long_jump, below)

  landed : get_or (set jump w y) w absent ≡ y
  landed = get_or-set_same jump w y absent inside

  leap-up : Above E y w y
  leap-up = record { over = low; within = le_refl y; walk = c.walk }

-- the walker has a jump: the climb goes on from there
module _ {n y u w : ℕ} {E : List Edge} {ws was p jump : List ℕ} (c : Climbing n E y u w ws was p jump) (low : w < y) (some : get_or jump w absent ≢ absent) where
  here : Child E y (w ∷ ws) p jump w
  here = ⊎_elim (λ r. absurd (some r.no_jump)) (λ k. k) (c.standing.each w (below c low))

  next-above : w < get_or jump w absent
  next-above = here.leap.over

  -- the walker itself was known there, or was passed by another climb and waits for that
  known-here : {q : ℕ} → Known p y (w ∷ ws) w q → w < q → Known p y (q ∷ ws) w y
  known-here (known t) l = passed refl _ (Memᴰ.head refl) l t
  known-here (passed e v m l t) h = ⊎_elim (λ (f : v ≡ w). absurd (omega arith)) (λ k. passed refl v (Memᴰ.tail k) l t) (Memᴰ.cases_cons m)

  own : Known p y (get_or jump w absent ∷ ws) w y
  own = known-here here.joined next-above

  joins_of : {vs : List ℕ} → Known p y vs w y → Joins p y vs w
  joins_of (known t) = reaches t
  joins_of (passed e v m l t) = waits v m t

  carries : Carries p y (w ∷ ws) (get_or jump w absent ∷ ws)
  carries = carries-first (joins_of own) (λ v m. Memᴰ.tail m)

  moved : (z : ℕ) → z ≢ w → Child E y (w ∷ ws) p jump z → Child E y (get_or jump w absent ∷ ws) p (set jump w y) z
  moved z d k = record {
    parent = k.parent;
    leap = subst (Above E y z) (sym (get_or-set_other jump w z y absent d)) k.leap;
    joined = subst (Known p y (get_or jump w absent ∷ ws) z) (sym (get_or-set_other jump w z y absent d)) (known_on carries k.joined);
  }

  self : Child E y (get_or jump w absent ∷ ws) p (set jump w y) w
  self = record {
    parent = here.parent;
    leap = subst (Above E y w) (sym (landed c low)) (leap-up c low);
    joined = subst (Known p y (get_or jump w absent ∷ ws) w) (sym (landed c low)) own;
  }

  each_on : (z : ℕ) → z < n → Root p (set jump w y) z ⊎ Child E y (get_or jump w absent ∷ ws) p (set jump w y) z
  each_on z h = by_cases (ℕ_discrete z w)
      (λ (e : z ≡ w). inr (subst (Child E y (get_or jump w absent ∷ ws) p (set jump w y)) (sym e) self))
      (λ (d : z ≢ w). ⊎_elim
      (λ r. inl (record { no_parent = r.no_parent; no_jump = get_or-set_other jump w z y absent d ∙ r.no_jump }))
      (λ k. inr (moved z d k))
      (c.standing.each z h))

  -- the climb goes on from where w jumped to, and w jumps to y from now on
  climb-on : Climbing n E y u (get_or jump w absent) ws was p (set jump w y)
  climb-on = record {
    standing = record { small = c.standing.small; long = c.standing.long; long_jump = length-set jump w y ∙ c.standing.long_jump; each = each_on };
    top = c.top;
    walk = conn-trans (conn-up here.leap.within (conn-sym here.leap.walk)) c.walk;
    brings = λ z j. joins-on carries (c.brings z j);
    kept = c.kept;
  }

-- the walker is a root: it becomes a child of y, and the climb is done
module _ {n y u w : ℕ} {E : List Edge} {ws was p jump : List ℕ} (c : Climbing n E y u w ws was p jump) (low : w < y) (none : get_or jump w absent ≡ absent) where
  root : Root p jump w
  root = ⊎_elim (λ r. r) (λ k. absurd (omega (arith, k.leap.over, k.leap.within, c.top, c.standing.small))) (c.standing.each w (below c low))

  inside-p : w < length p
  inside-p = omega (arith, c.standing.long, below c low)

  real : y ≢ absent
  real = omega (arith, c.top, c.standing.small)

  grown : {t a b : ℕ} → Conn (links p) t a b → Conn (links (set p w y)) t a b
  grown = links-grow p w y root.no_parent

  known_grown : {vs : List ℕ} {z q : ℕ} → Known p y vs z q → Known (set p w y) y vs z q
  known_grown (known t) = known (grown t)
  known_grown (passed e v m l t) = passed e v m l (grown t)

  joins-grown : {vs : List ℕ} {z : ℕ} → Joins p y vs z → Joins (set p w y) y vs z
  joins-grown (reaches t) = reaches (grown t)
  joins-grown (waits v m t) = waits v m (grown t)

  linked : Conn (links (set p w y)) y w y
  linked = conn-step (forth (link-set-new p inside-p real)) (le_of_lt low) (le_refl y)

  carries-link : Carries (set p w y) y (w ∷ ws) ws
  carries-link = carries-first (reaches linked) (λ v m. m)

  fixed : (z : ℕ) → z ≢ w → Child E y (w ∷ ws) p jump z → Child E y ws (set p w y) (set jump w y) z
  fixed z d k = record {
    parent = subst (Above E y z) (sym (get_or-set_other p w z y absent d)) k.parent;
    leap = subst (Above E y z) (sym (get_or-set_other jump w z y absent d)) k.leap;
    joined = subst (Known (set p w y) y ws z) (sym (get_or-set_other jump w z y absent d)) (known_on carries-link (known_grown k.joined));
  }

  new-child : Child E y ws (set p w y) (set jump w y) w
  new-child = record {
    parent = subst (Above E y w) (sym (get_or-set_same p w y absent inside-p)) (leap-up c low);
    leap = subst (Above E y w) (sym (landed c low)) (leap-up c low);
    joined = subst (Known (set p w y) y ws w) (sym (landed c low)) (known linked);
  }

  each-linked : (z : ℕ) → z < n → Root (set p w y) (set jump w y) z ⊎ Child E y ws (set p w y) (set jump w y) z
  each-linked z h = by_cases (ℕ_discrete z w)
      (λ (e : z ≡ w). inr (subst (Child E y ws (set p w y) (set jump w y)) (sym e) new-child))
      (λ (d : z ≢ w). ⊎_elim
      (λ r. inl (record { no_parent = get_or-set_other p w z y absent d ∙ r.no_parent; no_jump = get_or-set_other jump w z y absent d ∙ r.no_jump }))
      (λ k. inr (fixed z d k))
      (c.standing.each z h))

  kept_on : (z : ℕ) → (get_or was z absent ≡ absent → ⊥) → get_or (set p w y) z absent ≡ get_or was z absent
  kept_on z f = by_cases (ℕ_discrete z w)
      (λ (e : z ≡ w). absurd (f (sym (c.kept.keeps z f) ∙ subst (λ (x : ℕ). get_or p x absent ≡ absent) (sym e) root.no_parent)))
      (λ (d : z ≢ w). get_or-set_other p w z y absent d ∙ c.kept.keeps z f)

  climb-link : Climbed n E y (u ∷ ws) ws was (set p w y) (set jump w y)
  climb-link = record {
    standing = record { small = c.standing.small; long = length-set p w y ∙ c.standing.long; long_jump = length-set jump w y ∙ c.standing.long_jump; each = each-linked };
    brings = λ z j. joins-on carries-link (joins-grown (c.brings z j));
    kept = record { keeps = kept_on };
  }

-- the walker is y: whoever waits there is joined to y
pub climb-done : {n y u w : ℕ} {E : List Edge} {ws was p jump : List ℕ} → Climbing n E y u w ws was p jump → y ≤ w → Climbed n E y (u ∷ ws) ws was p jump
climb-done {y = y} {w = w} {ws = ws} {p = p} c high = record { standing = standing_on arrived c.standing; brings = λ z j. joins-on arrived (c.brings z j); kept = c.kept }
  where
    arrived : Carries p y (w ∷ ws) ws
    arrived = carries-first (reaches (subst (λ (x : ℕ). Conn (links p) y x y) (omega (arith, conn-from c.walk)) (stay (le_refl y)))) (λ v m. m)

-- before the climb
pub climb-start : {n y u : ℕ} {E : List Edge} {ws p jump : List ℕ} → Standing n E y (u ∷ ws) p jump → y < n → Conn E y u y → Climbing n E y u u ws p p jump
climb-start s top e = record { standing = s; top = top; walk = e; brings = λ z j. j; kept = record { keeps = λ z f. refl } }

pub kept_trans : {was p q : List ℕ} → Kept was p → Kept p q → Kept was q
kept_trans k l = record { keeps = λ z f. l.keeps z (λ e. f (sym (k.keeps z f) ∙ e)) ∙ k.keeps z f }

-- one step more, by what a step promises
pub climb-next : {n y u w v : ℕ} {E : List Edge} {ws was p jump p' jump' : List ℕ} → length p ≡ n → Steps w y p jump p' jump' v
    → Climbing n E y u w ws was (new_parents p jump) jump → Climbing n E y u v ws was (new_parents p' jump') jump'
climb-next {y = y} {u = u} {w = w} {v = v} {E = E} {ws = ws} {was = was} {p = p} {jump = jump} {p' = p'} {jump' = jump'} e s =
    subst (λ (m : ℕ). Climbing m E y u w ws was (new_parents p jump) jump → Climbing m E y u v ws was (new_parents p' jump') jump') e
    (λ c. let d = s.stepped E ws c.standing c.walk in
    record { standing = d.standing; top = c.top; walk = d.walk; brings = λ z j. d.brings z (c.brings z j); kept = kept_trans c.kept d.kept })

-- a climb that is done, listed as one that has arrived at y
pub climb-ended : {n y u : ℕ} {E : List Edge} {ws was p jump : List ℕ} → y < n → Climbed n E y (u ∷ ws) ws was p jump → Climbing n E y u y ws was p jump
climb-ended {y = y} {ws = ws} {p = p} top c = record {
  standing = standing_on more c.standing;
  top = top;
  walk = stay (le_refl y);
  brings = λ z j. joins-on more (c.brings z j);
  kept = c.kept;
}
  where
    more : Carries p y ws (y ∷ ws)
    more = carries-among (λ w m. Memᴰ.tail m)

-- a climb while no other is made
pub climb-alone : {n u y : ℕ} {E : List Edge} {p jump p' jump' : List ℕ} → length p ≡ n → Connects u y p jump p' jump' → Standing n E y [] (new_parents p jump) jump → Conn E y u y
    → Climbed n E y (u ∷ []) [] (new_parents p jump) (new_parents p' jump') jump'
climb-alone {u = u} {y = y} {E = E} {p = p} {jump = jump} {p' = p'} {jump' = jump'} long c =
    subst (λ (m : ℕ). Standing m E y [] (new_parents p jump) jump → Conn E y u y → Climbed m E y (u ∷ []) [] (new_parents p jump) (new_parents p' jump') jump') long
    (λ s e. c.climbed E [] (standing_on (carries-among (λ w m. absurd (Memᴰ.not-nil m))) s) e)

pub alone-joined : {n u y : ℕ} {E : List Edge} {was p jump : List ℕ} → Climbed n E y (u ∷ []) [] was p jump → Conn (links p) y u y
alone-joined {u = u} c = joins-end (c.brings u (waits u (Memᴰ.head refl) (stay (le_refl u))))

-- The same as the code has its tables: it reads by a default of 0, and the new parents stand among old ones.
module _ (p : List ℕ) {n y u w : ℕ} {E : List Edge} {ws was jump : List ℕ} (c : Climbing n E y u w ws was (new_parents p jump) jump) (low : w < y) where
  read : get_or jump w 0 ≡ get_or jump w absent
  read = get_d_default jump w 0 absent (inside c low)

  high-real : y ≢ absent
  high-real = omega (arith, c.top, c.standing.small)

  pub climb-jump : get_or jump w 0 ≢ absent → Climbing n E y u (get_or jump w 0) ws was (new_parents p (set jump w y)) (set jump w y)
  climb-jump some =
      rw (new-pass p jump (inside c low) high-real (λ e. some (read ∙ e)))
      (subst (λ (x : ℕ). Climbing n E y u x ws was (new_parents p jump) (set jump w y)) (sym read) (climb-on c low (λ e. some (read ∙ e))))

  pub climb-root : get_or jump w 0 ≡ absent → Climbed n E y (u ∷ ws) ws was (new_parents (set p w y) (set jump w y)) (set jump w y)
  climb-root none =
      rw (new-link p jump (inside c low) high-real (omega (arith, below c low, c.standing.long, new-length p jump)))
      (climb-link c low (sym read ∙ none))

-- the table of jumps is as long as any that is as long as it
pub upward-at : {m n : ℕ} {jump : List ℕ} → m ≡ n → Upward m jump → Upward n jump
upward-at {jump = jump} = subst (λ (k : ℕ). Upward k jump)

-- a jump to y, higher than where it starts, leaves the table of jumps upward
pub upward-set : {n : ℕ} {jump : List ℕ} (w y : ℕ) → w < y → Upward n jump → Upward n (set jump w y)
upward-set {n} {jump} w y low a = record { long = length-set jump w y ∙ a.long; up = up }
  where
    up : (z : ℕ) → z < n → (get_or (set jump w y) z 0 ≡ absent) ⊎ (z < get_or (set jump w y) z 0)
    up z h = by_cases (ℕ_discrete z w)
        (λ (e : z ≡ w). inr (omega (arith, e, get_or-set_same jump w y 0 (omega (arith, a.long, h, e)), ap (λ (x : ℕ). get_or (set jump w y) x 0) e)))
        (λ (d : z ≢ w). subst (λ (q : ℕ). (q ≡ absent) ⊎ (z < q)) (sym (get_or-set_other jump w z y 0 d)) (a.up z h))

-- the entry that a climb goes on from is higher
pub upward-next : {n : ℕ} {jump : List ℕ} (w : ℕ) → Upward n jump → w < n → get_or jump w 0 ≢ absent → w < get_or jump w 0
upward-next w a h d = ⊎_elim (λ e. absurd (d e)) (λ l. l) (a.up w h)

-- a table without jumps
pub upward-blank : (n : ℕ) → Upward n (replicate n absent)
upward-blank n = record { long = length-replicate n absent; up = λ z h. inl (get_or-replicate n z absent 0 h) }
