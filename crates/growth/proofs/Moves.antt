-- The lowest vertex that moved, step by step of a climb.
-- Assumes nothing.
use mathlib.Core.Path.{◌≡◌, refl, sym, subst, ◌∙◌}
use mathlib.Core.Logic.{◌≢◌, inl, inr, ⊎_elim, by_cases}
use mathlib.Core.List.{List}
use Prim.Native.Nat.{ℕ, ◌<◌, min}
use native.Mathlib.Decide.{ℕ_discrete}
use native.Mathlib.Omega.{arith}
use lib.ListN.{length, get_or, set, length-set}
use lib.Seq.{get_or-set_same, get_or-set_other}
use Rattle.game.specs.Game.{absent}
use Rattle.game.proofs.Sound.{get_d_default}
use Rattle.moved.specs.Steps.{Differ, moved_with}
use Rattle.moved.proofs.Linked.{moved_same, moved_other}
use Rattle.growth.specs.Moves.{Tracks, Moves}

pub moves-none : (p jump : List ℕ) (m : ℕ) → Moves p jump m p jump m
moves-none p jump m = record { tracks = λ was t. t }

pub moves-on : {p jump q leap r bound : List ℕ} {k l m : ℕ} → Moves p jump k q leap l → Moves q leap l r bound m → Moves p jump k r bound m
moves-on a b = record { tracks = λ was t. b.tracks was (a.tracks was t) }

-- where nothing has moved yet, the steps find the lowest that moves
pub moves-differ : {p jump p' jump' : List ℕ} {m : ℕ} → Moves p jump absent p' jump' m → Differ p p' m
moves-differ {p} s = (s.tracks p (record { long = refl; untouched = λ z e. refl; differ = record { same = λ z h. refl; there = inl refl } })).differ

module _ (p jump : List ℕ) (m : ℕ) {w y : ℕ} (inside : w < length jump) (real : y ≢ absent) where
  -- a vertex without a jump is not the one that gets it
  unjumped : (z : ℕ) → get_or (set jump w y) z absent ≡ absent → (z ≢ w) × (get_or jump z absent ≡ absent)
  unjumped z e = by_cases (ℕ_discrete z w)
      (λ (q : z ≡ w). absurd (real (sym (get_or-set_same jump w y absent inside) ∙ subst (λ (x : ℕ). get_or (set jump w y) x absent ≡ absent) q e)))
      (λ (d : z ≢ w). (d, sym (get_or-set_other jump w z y absent d) ∙ e))

  -- a jump that is made longer moves nothing
  pub moves-pass : Moves p jump m p (set jump w y) m
  moves-pass = record { tracks = λ was t. record { long = t.long; untouched = λ z e. t.untouched z (unjumped z e).1; differ = t.differ } }

  -- a root that gets a parent moves, unless it had the same
  pub moves-link : get_or jump w 0 ≡ absent → w < length p → Moves p jump m (set p w y) (set jump w y) (moved_with m w (get_or p w 0) y)
  moves-link none h = record {
    tracks = λ was t. record {
      long = length-set p w y ∙ t.long;
      untouched = λ z e. get_or-set_other p w z y absent (unjumped z e).0 ∙ t.untouched z (unjumped z e).1;
      differ = by_cases (ℕ_discrete (get_or p w 0) y)
          (λ (e : get_or p w 0 ≡ y). subst (Differ was (set p w y)) (sym (moved_same m w e)) (same-differ was t e))
          (λ (d : get_or p w 0 ≢ y). subst (Differ was (set p w y)) (sym (moved_other m w d)) (other_differ was t d));
    };
  }
    where
      read : get_or p w 0 ≡ get_or p w absent
      read = get_d_default p w 0 absent h

      here : get_or (set p w y) w absent ≡ y
      here = get_or-set_same p w y absent h

      other : (z : ℕ) → z ≢ w → get_or (set p w y) z absent ≡ get_or p z absent
      other z d = get_or-set_other p w z y absent d

      every : get_or p w 0 ≡ y → (z : ℕ) → get_or (set p w y) z absent ≡ get_or p z absent
      every e z = by_cases (ℕ_discrete z w)
          (λ (q : z ≡ w). subst (λ (x : ℕ). get_or (set p w y) x absent ≡ get_or p x absent) (sym q) (here ∙ sym e ∙ read))
          (λ (d : z ≢ w). other z d)

      same-differ : (was : List ℕ) → Tracks was p jump m → get_or p w 0 ≡ y → Differ was (set p w y) m
      same-differ was t e = record {
        same = λ z l. every e z ∙ t.differ.same z l;
        there = ⊎_elim (λ n. inl n) (λ k. inr (k.0, λ q. k.1 (sym (every e m) ∙ q))) t.differ.there;
      }

      other_differ : (was : List ℕ) → Tracks was p jump m → get_or p w 0 ≢ y → Differ was (set p w y) (min m w)
      other_differ was t d = record {
        same = λ z l. other z (omega arith) ∙ t.differ.same z (omega arith);
        there = by_cases (ℕ_discrete (min m w) w)
            (λ (e : min m w ≡ w). inr (
              omega (arith, t.long),
              subst (λ (x : ℕ). get_or (set p w y) x absent ≢ get_or was x absent) (sym e)
                  (λ q. d (read ∙ t.untouched w (sym (get_d_default jump w 0 absent inside) ∙ none) ∙ sym q ∙ here)),
            ))
            (λ (n : min m w ≢ w). let k : min m w ≡ m = omega arith in ⊎_elim
            (λ e. inl (k ∙ e))
            (λ l. inr (omega (arith, l.0), subst (λ (x : ℕ). get_or (set p w y) x absent ≢ get_or was x absent) (sym k) (λ q. l.1 (sym (other m (omega arith)) ∙ q))))
            t.differ.there);
      }
