-- The parents that growing has written, among what the table held before: how they change with each step of a climb, and that they are the
-- whole table in the end, if the old links were among the edges.
-- Assumes nothing.
use mathlib.Core.Path.{◌≡◌, refl, sym, ap, subst, ◌∙◌}
use mathlib.Core.Logic.{◌≢◌, by_cases}
use mathlib.Core.Bool.{Bool, cond}
use mathlib.Core.List.{List, ◌++◌}
use Prim.Native.Nat.{ℕ, ◌≤◌, ◌<◌}
use native.Mathlib.Decide.{ℕ_discrete}
use native.Mathlib.Omega.{arith}
use lib.ListN.{length, get_or, set, replicate, length-set, length-replicate, get_or-replicate}
use lib.Seq.{get_or-set_same, get_or-set_other, ext_get_or}
use borrow.Author.Tests.{eq-eqb, ne_eqb}
use Rattle.game.specs.Edge.{Edge}
use Rattle.game.specs.Game.{absent, forest}
use Rattle.game.specs.Tree.{links, ancestors}
use Rattle.game.specs.Graph.{Linked, forth, Proper}
use Rattle.game.proofs.Conn.{linked-left}
use Rattle.game.proofs.Tables.{tabulate-length, tabulate-entry, member-in}
use Rattle.game.proofs.Sound.{Sound, sound-parent}
use Rattle.game.proofs.Links.{link-of, link-inv}
use Rattle.game.proofs.Ancestors.{ancestor-above, edge-ends}
use Rattle.game.proofs.Forest.{forest-length}
use Rattle.growth.specs.Growth.{new_parents, Untouched, LinksIn}

pub new-length : (p jump : List ℕ) → length (new_parents p jump) ≡ length p
unfolding new_parents
new-length p jump = tabulate-length (length p) _

-- a vertex without a jump has no new parent
pub new_none : (p jump : List ℕ) (z : ℕ) → z < length p → get_or jump z absent ≡ absent → get_or (new_parents p jump) z absent ≡ absent
unfolding new_parents
new_none p jump z h e = tabulate-entry (length p) _ z absent h ∙ ap (λ (b : Bool). cond b absent (get_or p z absent)) (eq-eqb (get_or jump z absent) absent e)

-- one with a jump has the parent that the table holds
pub new-some : (p jump : List ℕ) (z : ℕ) → z < length p → get_or jump z absent ≢ absent → get_or (new_parents p jump) z absent ≡ get_or p z absent
unfolding new_parents
new-some p jump z h d = tabulate-entry (length p) _ z absent h ∙ ap (λ (b : Bool). cond b absent (get_or p z absent)) (ne_eqb (get_or jump z absent) absent d)

same_new : (p jump q : List ℕ) → length q ≡ length p → ((z : ℕ) → z < length p → get_or jump z absent ≡ absent → get_or q z absent ≡ absent)
    → ((z : ℕ) → z < length p → get_or jump z absent ≢ absent → get_or q z absent ≡ get_or p z absent) → new_parents p jump ≡ q
same_new p jump q long f g =
    ext_get_or absent (new_parents p jump) q (new-length p jump ∙ sym long)
    (λ z h.
    let l : z < length p = omega (arith, new-length p jump) in
    by_cases (ℕ_discrete (get_or jump z absent) absent)
    (λ (e : get_or jump z absent ≡ absent). new_none p jump z l e ∙ sym (f z l e))
    (λ (d : get_or jump z absent ≢ absent). new-some p jump z l d ∙ sym (g z l d)))

-- at first there is none
pub new-blank : (p : List ℕ) {n : ℕ} {jump : List ℕ} → length p ≡ n → jump ≡ replicate n absent → new_parents p jump ≡ replicate n absent
new-blank p {n} {jump} e b =
    same_new p jump (replicate n absent) (length-replicate n absent ∙ sym e)
    (λ z h q. get_or-replicate n z absent absent (omega arith))
    (λ z h d. absurd (d (ap (λ (t : List ℕ). get_or t z absent) b ∙ get_or-replicate n z absent absent (omega arith))))

module _ (p jump : List ℕ) {w y : ℕ} (inside : w < length jump) (real : y ≢ absent) where
  landed : get_or (set jump w y) w absent ≡ y
  landed = get_or-set_same jump w y absent inside

  jumped : (z : ℕ) → z ≢ w → get_or (set jump w y) z absent ≡ get_or jump z absent
  jumped z d = get_or-set_other jump w z y absent d

  -- a jump that is made longer
  pub new-pass : get_or jump w absent ≢ absent → new_parents p (set jump w y) ≡ new_parents p jump
  new-pass some =
      same_new p (set jump w y) (new_parents p jump) (new-length p jump)
      (λ z h e. by_cases (ℕ_discrete z w)
      (λ (q : z ≡ w). absurd (real (sym landed ∙ subst (λ (x : ℕ). get_or (set jump w y) x absent ≡ absent) q e)))
      (λ (d : z ≢ w). new_none p jump z h (sym (jumped z d) ∙ e)))
      (λ z h f. by_cases (ℕ_discrete z w)
      (λ (q : z ≡ w). new-some p jump z h (λ e. some (subst (λ (x : ℕ). get_or jump x absent ≡ absent) q e)))
      (λ (d : z ≢ w). new-some p jump z h (λ e. f (jumped z d ∙ e))))

  -- a root that gets a parent
  pub new-link : w < length p → new_parents (set p w y) (set jump w y) ≡ set (new_parents p jump) w y
  new-link h =
      same_new (set p w y) (set jump w y) (set (new_parents p jump) w y) (length-set (new_parents p jump) w y ∙ new-length p jump ∙ sym (length-set p w y))
      (λ z l e. by_cases (ℕ_discrete z w)
      (λ (q : z ≡ w). absurd (real (sym landed ∙ subst (λ (x : ℕ). get_or (set jump w y) x absent ≡ absent) q e)))
      (λ (d : z ≢ w). get_or-set_other (new_parents p jump) w z y absent d ∙ new_none p jump z (omega (arith, length-set p w y)) (sym (jumped z d) ∙ e)))
      (λ z l f. by_cases (ℕ_discrete z w)
      (λ (q : z ≡ w). subst (λ (x : ℕ). get_or (set (new_parents p jump) w y) x absent ≡ get_or (set p w y) x absent) (sym q)
      (get_or-set_same (new_parents p jump) w y absent (omega (arith, new-length p jump)) ∙ sym (get_or-set_same p w y absent h)))
      (λ (d : z ≢ w). get_or-set_other (new_parents p jump) w z y absent d ∙ new-some p jump z (omega (arith, length-set p w y)) (λ e. f (jumped z d ∙ e)) ∙ sym (get_or-set_other p w z y absent d)))

  -- neither touches a vertex that has no jump then
  pub untouched-pass : Untouched p jump p (set jump w y)
  untouched-pass = record {
    each = λ z e. by_cases (ℕ_discrete z w)
        (λ (q : z ≡ w). absurd (real (sym landed ∙ subst (λ (x : ℕ). get_or (set jump w y) x absent ≡ absent) q e)))
        (λ (d : z ≢ w). (sym (jumped z d) ∙ e, refl));
  }

  pub untouched-link : Untouched p jump (set p w y) (set jump w y)
  untouched-link = record {
    each = λ z e. by_cases (ℕ_discrete z w)
        (λ (q : z ≡ w). absurd (real (sym landed ∙ subst (λ (x : ℕ). get_or (set jump w y) x absent ≡ absent) q e)))
        (λ (d : z ≢ w). (sym (jumped z d) ∙ e, get_or-set_other p w z y absent d));
  }

pub untouched-none : (p jump : List ℕ) → Untouched p jump p jump
untouched-none p jump = record { each = λ z e. (e, refl) }

pub untouched-on : {p jump q leap r bound : List ℕ} → Untouched p jump q leap → Untouched q leap r bound → Untouched p jump r bound
untouched-on a b = record { each = λ z e. let (f, g) = b.each z e in let (h, k) = a.each z f in (h, g ∙ k) }

-- a table's own links are among the edges
pub links-in : {p : List ℕ} → Sound p → (F : List Edge) → LinksIn p (links p ++ F)
links-in {p} s F = record {
  each = λ z h d. (linked-left F (forth (link-of p h refl d)), (sound-parent s z h d).0);
}

pub links-blank : {p : List ℕ} (E : List Edge) → p ≡ replicate (length p) absent → LinksIn p E
links-blank {p} E b = record {
  each = λ z h d. absurd (d (ap (λ (t : List ℕ). get_or t z absent) b ∙ get_or-replicate (length p) z absent absent h));
}

-- an edge gives its lower end a parent
edge-parent : {n : ℕ} {E : List Edge} → n ≤ absent → Proper n E → {a b : ℕ} → Linked E a b → a < b → get_or (forest n E) a absent ≢ absent
edge-parent {n} {E} short proper {a} {b} l low e =
    let above = ancestor-above (omega (arith, forest-length n E)) (member-in b (ancestors (forest n E) a) (edge-ends short proper l low)) in
    (link-inv (forest n E) above.link).2 (sym (link-inv (forest n E) above.link).1 ∙ e)

-- where the new parents are the forest, and the old links were edges, nothing old is left
pub new-whole : {n : ℕ} {E : List Edge} {p jump p' jump' : List ℕ} → n ≤ absent → Proper n E → length p ≡ n → length p' ≡ n
    → LinksIn p E → Untouched p jump p' jump' → new_parents p' jump' ≡ forest n E → p' ≡ forest n E
new-whole {n} {E} {p} {jump} {p'} {jump'} short proper long long' i u f =
    sym (same_new p' jump' p' refl old (λ z h d. refl)) ∙ f
  where
    old : (z : ℕ) → z < length p' → get_or jump' z absent ≡ absent → get_or p' z absent ≡ absent
    old z h e = by_cases (ℕ_discrete (get_or p' z absent) absent) (λ (q : get_or p' z absent ≡ absent). q)
        (λ (d : get_or p' z absent ≢ absent).
        let (j, k) = u.each z e in
        let (l, low) = i.each z (omega arith) (λ q. d (k ∙ q)) in
        absurd (edge-parent short proper l low (sym (ap (λ (t : List ℕ). get_or t z absent) f) ∙ new_none p' jump' z h e)))
