-- How many different blocks a list has, and lists that have all of them.
-- Assumes nothing.
use mathlib.Core.Path.{◌≡◌, refl, sym, ap, ap₂, ◌∙◌}
use mathlib.Core.Logic.{◌≢◌, by_cases}
use mathlib.Core.Bool.{Bool, true, false, ◌||◌, cond, true≢false}
use mathlib.Core.List.{List, [], ◌∷◌, ◌++◌, Memᴰ}
use Prim.Native.Nat.{ℕ, ◌+◌, ◌≤◌, ◌<◌}
use native.Mathlib.Nat.{add-zero, le_trans, le_of_eq}
use native.Mathlib.Decide.{ℕ_discrete}
use native.Mathlib.Omega.{arith}
use lib.Dec.{eqb}
use borrow.Author.Tests.{eq-eqb, ne_eqb, eqb-true}
use Rattle.game.specs.Table.{tabulate, member}
use Rattle.game.proofs.Bools.{or_right, test-cases, bool_iff}
use Rattle.game.proofs.Tables.{member-in, in-member, tabulate-length}
use Rattle.sorting.proofs.Counts.{count-le, count-all, count_none}
use Rattle.cut.proofs.Lists.{stretch, stretch-in, sum-agree}
use Rattle.groups.proofs.Sums.{only, total, total-add, total_here}
use Rattle.reach_slots.proofs.Counts.{count-ext}
use Rattle.block_count.specs.BlockCount.{different}
use Rattle.block_count.proofs.Sums.{count-total}
use Rattle.block_count.specs.Taken.{all_met}

member-last : (j b : ℕ) (bs : List ℕ) → member j (bs ++ b ∷ []) ≡ (member j bs || eqb j b)
unfolding member
member-last j b [] = alone (eqb j b)
  where
    alone : (t : Bool) → (t || false) ≡ t
    alone true = refl
    alone false = refl
member-last j b (c ∷ bs) = ap (λ (t : Bool). eqb j c || t) (member-last j b bs) ∙ regroup (eqb j c) (member j bs) (eqb j b)
  where
    regroup : (s t u : Bool) → (s || (t || u)) ≡ ((s || t) || u)
    regroup true t u = refl
    regroup false t u = refl

-- the list has the last of it
pub member-here : (b : ℕ) (bs : List ℕ) → member b (bs ++ b ∷ []) ≡ true
member-here b bs = member-last b b bs ∙ or_right (member b bs) (eqb b b) (eq-eqb b b refl)

-- and of all others, those that it had
pub member-other : (j b : ℕ) (bs : List ℕ) → j ≢ b → member j (bs ++ b ∷ []) ≡ member j bs
member-other j b bs d = member-last j b bs ∙ rw (ne_eqb j b d) (unchanged (member j bs))
  where
    unchanged : (t : Bool) → (t || false) ≡ t
    unchanged true = refl
    unchanged false = refl

-- a count of different blocks, as a sum
different-total : (k : ℕ) (bs : List ℕ) → different k bs ≡ total (stretch 0 k) (λ j. only (member j bs) 1)
unfolding different tabulate
different-total k bs = count-total (λ j. member j bs) (stretch 0 k)

-- one block more is one more, unless the list has it
pub different-last : (k b : ℕ) (bs : List ℕ) → b < k → different k (bs ++ b ∷ []) ≡ different k bs + cond (member b bs) 0 1
different-last k b bs h =
    different-total k (bs ++ b ∷ [])
    ∙ sum-agree (λ j. only (member j (bs ++ b ∷ [])) 1) (λ j. only (member j bs) 1 + only (eqb b j) (cond (member j bs) 0 1)) (stretch 0 k) (λ j m. each j)
    ∙ total-add (λ j. only (member j bs) 1) (λ j. only (eqb b j) (cond (member j bs) 0 1)) (stretch 0 k)
    ∙ ap₂ ◌+◌ (sym (different-total k bs)) (total_here b (λ j. cond (member j bs) 0 1) 0 k (omega arith) (omega arith))
  where
    either : (t : Bool) → 1 ≡ only t 1 + cond t 0 1
    either true = refl
    either false = refl

    each : (j : ℕ) → only (member j (bs ++ b ∷ [])) 1 ≡ only (member j bs) 1 + only (eqb b j) (cond (member j bs) 0 1)
    each j =
        by_cases (ℕ_discrete j b)
        (λ (e : j ≡ b). rw (e, member-here b bs, eq-eqb b b refl) (either (member b bs)))
        (λ (d : j ≢ b). rw (member-other j b bs d, ne_eqb b j (λ e. d (sym e))) (sym (add-zero _)))

pub different-none : (k : ℕ) → different k [] ≡ 0
unfolding different member
different-none k = count_none (λ (j : ℕ). false) (tabulate k (λ j. j)) (λ j m. refl)

-- no list has more than k
pub different-le : (k : ℕ) (bs : List ℕ) → different k bs ≤ k
unfolding different
different-le k bs = le_trans (count-le (λ (j : ℕ). member j bs) (tabulate k (λ j. j))) (le_of_eq (tabulate-length k (λ j. j)))

-- lists with the same members have the same number
pub different-same : (k : ℕ) (bs cs : List ℕ) → ((j : ℕ) → Memᴰ j bs → Memᴰ j cs) → ((j : ℕ) → Memᴰ j cs → Memᴰ j bs)
    → different k bs ≡ different k cs
unfolding different
different-same k bs cs f g =
    count-ext (λ (j : ℕ). member j bs) (λ (j : ℕ). member j cs) (tabulate k (λ j. j))
    (λ j m. bool_iff (member j bs) (member j cs) (λ e. in-member (f j (member-in j bs e))) (λ e. in-member (g j (member-in j cs e))))

-- every one of k blocks is in the list
pub record Full (k : ℕ) (bs : List ℕ) : Type 0 where
  pub each : (j : ℕ) → j < k → Memᴰ j bs

pub full-within : {k : ℕ} {bs cs : List ℕ} → ((j : ℕ) → Memᴰ j bs → Memᴰ j cs) → Full k bs → Full k cs
full-within s f = record { each = λ j h. s j (f.each j h) }

-- that is, it has k different ones
pub full-different : (k : ℕ) (bs : List ℕ) → Full k bs → different k bs ≡ k
unfolding different tabulate
full-different k bs f =
    count-all (λ (j : ℕ). member j bs) (stretch 0 k) (λ j m. in-member (f.each j (omega (arith, (stretch-in 0 k m).1)))) ∙ tabulate-length k (λ j. j)

pub different-full : (k : ℕ) (bs : List ℕ) → different k bs ≡ k → Full k bs
different-full k bs e = record {
  each = λ j h.
      test-cases (member j bs)
      (λ t. member-in j bs t)
      (λ f. absurd (omega (arith, different-last k j bs h, ap {B = ℕ} (λ (t : Bool). cond t 0 1) f, different-le k (bs ++ j ∷ []))));
}

pub met-full : (k : ℕ) (bs : List ℕ) → all_met k bs ≡ true → Full k bs
unfolding all_met
met-full k bs e = different-full k bs (eqb-true (different k bs) k e)

pub unmet-open : (k : ℕ) (bs : List ℕ) → all_met k bs ≡ false → Full k bs → ⊥
unfolding all_met
unmet-open k bs e f = true≢false (sym (eq-eqb (different k bs) k (full-different k bs f)) ∙ e)

pub full-met : (k : ℕ) (bs : List ℕ) → Full k bs → all_met k bs ≡ true
unfolding all_met
full-met k bs f = eq-eqb (different k bs) k (full-different k bs f)

pub open-unmet : (k : ℕ) (bs : List ℕ) → (Full k bs → ⊥) → all_met k bs ≡ false
unfolding all_met
open-unmet k bs o = ne_eqb (different k bs) k (λ e. o (different-full k bs e))

-- fewer than k
pub open-fewer : (k : ℕ) (bs : List ℕ) → (Full k bs → ⊥) → different k bs < k
open-fewer k bs o =
    by_cases (ℕ_discrete (different k bs) k)
    (λ (e : different k bs ≡ k). absurd (o (different-full k bs e)))
    (λ (d : different k bs ≢ k). let h = different-le k bs in less d h)
  where
    less : (different k bs ≡ k → ⊥) → different k bs ≤ k → different k bs < k
    less d h = omega arith

pub fewer-open : (k : ℕ) (bs : List ℕ) → different k bs < k → Full k bs → ⊥
fewer-open k bs h f = absurd (omega (arith, full-different k bs f))
