-- A vertex that waits for the end of its count. Its own block was taken as met, and so many edges that lead down were needed for the rest;
-- going over its edges as the list has them, the count ends when as many have come, and one of its own block.
-- Assumes nothing.
use mathlib.Core.Path.{◌≡◌, refl, sym, ap, ap₂, subst, ◌∙◌}
use mathlib.Core.Logic.{◌≢◌, ⊎_elim, by_cases}
use mathlib.Core.Bool.{Bool, true, false, ◌||◌}
use mathlib.Core.List.Memᴰ
use mathlib.Core.List.{List, [], ◌∷◌, ◌++◌, append-nil, Memᴰ}
use Prim.Native.Nat.{ℕ, zero, suc, ◌+◌, ◌-◌, ◌<◌}
use native.Mathlib.Decide.{dec_lt}
use native.Mathlib.Omega.{arith}
use lib.Dec.{eqb}
use lib.ListN.{get_or, take}
use borrow.Author.Tests.{eq-eqb, ne_eqb, lt-ltb, le-ltb}
use Rattle.game.specs.Table.{member, one_if}
use Rattle.game.specs.Edge.{Edge, lower}
use Rattle.game.proofs.Bools.{or_left, or_right, test-cases}
use Rattle.game.proofs.Tables.{member-in, in-member}
use Rattle.block_count.specs.Taken.{all_met, taken_after}
use Rattle.block_count.specs.WaitingSteps.{unmet, next_pending, next_at, waiting, waits}
use Rattle.block_count.proofs.Coming.{waits-none, waits-away, waits-here}
use Rattle.block_count.proofs.Different.{Full, full-within, met-full, unmet-open}
use Rattle.block_count.proofs.Taken.{to_front, from_front}
use Rattle.block_count.proofs.Seen.{Seen, nil, away, up, down}

-- what is waited for, as a number: the edges that lead down, and the own block if it is not met
unfoldable pub code : Bool → ℕ → ℕ
code true r = r
code false r = r + unmet

next-code : (leads own o : Bool) (r : ℕ) → r < unmet → next_pending leads own (code o r) ≡ code (o || own) (r - one_if leads)
unfolding next_pending code
next-code leads own true r h = rw (lt-ltb r unmet h)
next-code leads true false r h = rw (le-ltb (r + unmet) unmet (omega arith)) (omega arith)
next-code leads false false r h = rw (le-ltb (r + unmet) unmet (omega arith)) (omega arith)

-- something is, unless no edge is needed and the own block is met
code-some : (o : Bool) (r : ℕ) → (o ≡ true → r ≡ 0 → ⊥) → waiting (code o r) ≡ 1
unfolding waiting code
code-some true r h = rw (ne_eqb r 0 (h refl))
code-some false r h = rw (ne_eqb (r + unmet) 0 (λ (e : r + unmet ≡ 0). absurd (omega arith)))

-- two blocks in front, exchanged
exchange : (a b : ℕ) (bs : List ℕ) (j : ℕ) → Memᴰ j (a ∷ b ∷ bs) → Memᴰ j (b ∷ a ∷ bs)
exchange a b bs j m =
    ⊎_elim (λ q. Memᴰ.tail (Memᴰ.head q))
    (λ r. ⊎_elim (λ q. Memᴰ.head q) (λ t. Memᴰ.tail (Memᴰ.tail t)) (Memᴰ.cases_cons r))
    (Memᴰ.cases_cons m)

module _ (block : List ℕ) (y k : ℕ) (inside : get_or block y 0 < k) where
  own : ℕ
  own = get_or block y 0

  -- Some blocks are met. With y's own taken as met, r of the edges that lead down meet the rest, and no fewer do.
  pub record Waiting (met : List ℕ) (ds : List ℕ) (o : Bool) (r : ℕ) : Type 0 where
    pub own_met : member (get_or block y 0) met ≡ o
    pub small : r < unmet
    pub rest : Full k ((get_or block y 0 ∷ met) ++ take r ds)
    pub no_fewer : (i : ℕ) → i < r → Full k ((get_or block y 0 ∷ met) ++ take i ds) → ⊥
    pub some : Full k met → ⊥

  module _ {met ds : List ℕ} {o : Bool} {r : ℕ} (w : Waiting met ds o r) where
    -- without another edge that leads down
    no_more : r ≡ 0 → Full k (own ∷ met)
    unfolding own
    no_more e = full-within (λ j m. rw (append-nil (get_or block y 0 ∷ met)) at m) (subst (λ (r : ℕ). Full k ((get_or block y 0 ∷ met) ++ take r ds)) e w.rest)

    -- then something is waited for
    still : waiting (code o r) ≡ 1
    unfolding own
    still = code-some o r (λ a e. w.some (full-within (λ j m. ⊎_elim (λ (q : j ≡ get_or block y 0). rw q (member-in (get_or block y 0) met (w.own_met ∙ a))) (λ t. t) (Memᴰ.cases_cons m)) (no_more e)))

    -- an edge that leads up
    up-last : Full k (own ∷ met) → r ≡ 0
    unfolding own
    up-last f = by_cases (dec_lt 0 r) (λ (h : 0 < r). absurd (w.no_fewer 0 h (rw (append-nil (get_or block y 0 ∷ met)) f))) (λ (n : 0 < r → ⊥). omega arith)

    up_more : (Full k (own ∷ met) → ⊥) → Waiting (own ∷ met) ds true r
    unfolding own member
    up_more f = record {
      own_met = or_left (eqb (get_or block y 0) (get_or block y 0)) (member (get_or block y 0) met) (eq-eqb (get_or block y 0) (get_or block y 0) refl);
      small = w.small;
      rest = full-within (λ j m. Memᴰ.tail m) w.rest;
      no_fewer = λ i h g. w.no_fewer i h (full-within (λ j m. ⊎_elim (λ q. Memᴰ.head q) (λ t. t) (Memᴰ.cases_cons m)) g);
      some = f;
    }

  -- an edge that leads down, of block b
  module _ {met ds : List ℕ} {o : Bool} {r b : ℕ} (w : Waiting met (b ∷ ds) o r) where
    own-now : Full k (b ∷ met) → (o || eqb own b) ≡ true
    unfolding own
    own-now f =
        ⊎_elim (λ (q : get_or block y 0 ≡ b). or_right o (eqb (get_or block y 0) b) (eq-eqb (get_or block y 0) b q))
        (λ t. or_left o (eqb (get_or block y 0) b) (sym w.own_met ∙ in-member t))
        (Memᴰ.cases_cons (f.each (get_or block y 0) inside))

    down-last : Full k (b ∷ met) → code (o || eqb own b) (r - 1) ≡ 0
    unfolding own code
    down-last f = rw (own-now f) (by_cases (dec_lt 1 r) (λ (h : 1 < r). absurd (w.no_fewer 1 h (full-within early f))) (λ (n : 1 < r → ⊥). omega arith))
      where
        early : (j : ℕ) → Memᴰ j (b ∷ met) → Memᴰ j (get_or block y 0 ∷ (met ++ b ∷ []))
        early j m = Memᴰ.tail (from_front met b [] j (rw (append-nil (b ∷ met)) m))

    down-more : (Full k (b ∷ met) → ⊥) → Waiting (b ∷ met) ds (o || eqb own b) (r - 1)
    unfolding own member
    down-more f = record {
      own_met = ap (λ (t : Bool). eqb (get_or block y 0) b || t) w.own_met ∙ turned (eqb (get_or block y 0) b) o;
      small = omega (arith, w.small);
      rest = later r w.rest;
      no_fewer = λ i h g. w.no_fewer (suc i) (omega arith) (full-within (λ j m. from_front (get_or block y 0 ∷ met) b (take i ds) j (exchange (get_or block y 0) b (met ++ take i ds) j m)) g);
      some = f;
    }
      where
        turned : (s t : Bool) → (s || t) ≡ (t || s)
        turned true true = refl
        turned true false = refl
        turned false true = refl
        turned false false = refl

        later : (r : ℕ) → Full k ((get_or block y 0 ∷ met) ++ take r (b ∷ ds)) → Full k ((get_or block y 0 ∷ b ∷ met) ++ take (r - 1) ds)
        later zero g = full-within (λ j m. ⊎_elim (λ q. Memᴰ.head q) (λ t. Memᴰ.tail (Memᴰ.tail t)) (Memᴰ.cases_cons m)) g
        later (suc r) g =
            rw (pred r)
            (full-within (λ j m. exchange b (get_or block y 0) (met ++ take r ds) j (to_front (get_or block y 0 ∷ met) b (take r ds) j m)) g)
          where
            pred : (r : ℕ) → suc r - 1 ≡ r
            pred r = omega arith

  -- what is waited for then
  next_up : (o : Bool) (r low : ℕ) → low ≡ y → r < unmet → next_at block y low (code o r) ≡ code true r
  unfolding next_at one_if
  next_up o r low l h = rw (l, eq-eqb y y refl, eq-eqb (get_or block y 0) (get_or block y 0) refl) (next-code false true o r h ∙ ap₂ code (any o) less)
    where
      less : r - one_if false ≡ r
      less = omega arith

      any : (o : Bool) → (o || true) ≡ true
      any true = refl
      any false = refl

  next_down : (o : Bool) (r low : ℕ) → low ≢ y → r < unmet → next_at block y low (code o r) ≡ code (o || eqb own (get_or block low 0)) (r - 1)
  unfolding next_at one_if own
  next_down o r low d h = rw (ne_eqb y low (λ e. d (sym e))) (next-code true (eqb (get_or block y 0) (get_or block low 0)) o r h)

  -- The vertex takes as many edges as its count does.
  pub wait-taken : {es : List Edge} {v : ℕ} {bs ds : List ℕ} → Seen block y es v bs ds → {met : List ℕ} {o : Bool} {r : ℕ} → Waiting met ds o r
      → waits block y (code o r) es ≡ taken_after k met bs
  unfolding waits taken_after own code
  wait-taken nil w = refl
  wait-taken (away {e = e} {es = es} t s) {o = o} {r = r} w = waits-away block y (code o r) e es t ∙ wait-taken s w
  wait-taken (up {e = e} {es = es} {bs = bs} t l s) {met} {o} {r} w =
      waits-here block y (code o r) e es t
      ∙ test-cases (all_met k (get_or block y 0 ∷ met))
      (λ a. rw a (omega (arith, still w, ap (λ (p : ℕ). waits block y p es) next, waits-last (met-full k (get_or block y 0 ∷ met) a))))
      (λ a. rw a (omega (arith, still w, ap (λ (p : ℕ). waits block y p es) next, wait-taken s (up_more w (unmet-open k (get_or block y 0 ∷ met) a)))))
    where
      next : next_at block y (lower e) (code o r) ≡ code true r
      next = next_up o r (lower e) l w.small

      waits-last : Full k (get_or block y 0 ∷ met) → waits block y (code true r) es ≡ 0
      waits-last f = rw (up-last w f) (waits-none block y es)
  wait-taken (down {e = e} {es = es} {bs = bs} t l s) {met} {o} {r} w =
      waits-here block y (code o r) e es t
      ∙ test-cases (all_met k (get_or block (lower e) 0 ∷ met))
      (λ a. rw a (omega (arith, still w, ap (λ (p : ℕ). waits block y p es) (next ∙ down-last w (met-full k (get_or block (lower e) 0 ∷ met) a)), waits-none block y es)))
      (λ a. rw a (omega (arith, still w, ap (λ (p : ℕ). waits block y p es) next, wait-taken s (down-more w (unmet-open k (get_or block (lower e) 0 ∷ met) a)))))
    where
      next : next_at block y (lower e) (code o r) ≡ code (o || eqb (get_or block y 0) (get_or block (lower e) 0)) (r - 1)
      next = next_down o r (lower e) l w.small
