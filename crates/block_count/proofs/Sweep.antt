-- Going over the list: where the pass stands, and its turns.
-- Assumes nothing.
use mathlib.Core.Path.{◌≡◌, refl, sym, ap, ap₂, subst, ◌∙◌}
use mathlib.Core.Logic.{◌≢◌, by_cases}
use mathlib.Core.Bool.{true, false}
use mathlib.Core.List.{List, [], ◌∷◌, map}
use Prim.Native.Nat.{ℕ, zero, suc, ◌+◌, ◌-◌, ◌^◌, ◌≤◌, ◌<◌, min}
use native.Mathlib.Numerals.{add-one}
use native.Mathlib.Decide.{ℕ_discrete}
use native.Mathlib.Omega.{arith}
use lib.Dec.{eqb}
use lib.ListN.{length, get_or, set, drop, length-set}
use lib.Seq.{get_or-set_same, get_or-set_other, drop-cons, drop-length}
use borrow.Author.Tests.{eq-eqb, ne_eqb}
use Rattle.game.specs.Table.{sum}
use Rattle.game.specs.Edge.{Edge, ◌─◌, lower, touches}
use Rattle.game.specs.Graph.{Proper}
use Rattle.game.proofs.Bools.{or_left, or_right}
use Rattle.game.proofs.Proper.{proper-head, proper-tail}
use Rattle.block_count.specs.WaitingSteps.{next_at, waiting, waiting_in, waits, Passable, Passes, Sweepable, Swept}
use Rattle.block_count.proofs.Passing.{waiting-le}
use Rattle.block_count.proofs.Coming.{waits-none, waits-away, waits-here}

-- how many wait, entry by entry
waiting-set : (xs : List ℕ) (i v : ℕ) → i < length xs → waiting_in (set xs i v) + waiting (get_or xs i 0) ≡ waiting_in xs + waiting v
unfolding waiting_in sum
waiting-set [] i v h = absurd (omega arith)
waiting-set (x ∷ xs) zero v h = omega arith
waiting-set (x ∷ xs) (suc i) v h = omega (arith, waiting-set xs i v (omega arith))

waiting-entry : (xs : List ℕ) (i : ℕ) → waiting_in xs ≡ 0 → get_or xs i 0 ≡ 0
unfolding waiting_in sum waiting
waiting-entry [] i h = refl
waiting-entry (x ∷ xs) zero h = by_cases (ℕ_discrete x 0) (λ e. e) (λ (d : x ≢ 0). absurd (some d h))
  where
    some : x ≢ 0 → waiting x + sum (map waiting xs) ≡ 0 → ⊥
    some d e = absurd (omega (arith, rw (ne_eqb x 0 d) at e))
waiting-entry (x ∷ xs) (suc i) h = waiting-entry xs i (omega arith)

-- as many as there are vertices, at most
waiting_few : (xs : List ℕ) → waiting_in xs ≤ length xs
unfolding waiting_in sum
waiting_few [] = omega arith
waiting_few (x ∷ xs) = omega (arith, waiting-le x, waiting_few xs)

-- counting them: what is counted, and what is left to count
pub record WaitTurn (pending : List ℕ) (count x : ℕ) : Type 0 where
  pub within : x ≤ length pending
  pub counted : count + waiting_in (drop x pending) ≡ waiting_in pending

module _ {pending : List ℕ} where
  pub wait-start : WaitTurn pending 0 0
  wait-start = record { within = omega arith; counted = omega arith }

  pub wait-step : {count x r : ℕ} → WaitTurn pending count x → x < length pending → r ≡ waiting (get_or pending x 0) → WaitTurn pending (count + r) (x + 1)
  unfolding waiting_in sum
  wait-step {count} {x} {r} t h e = record { within = omega arith; counted = omega (arith, t.counted, next) }
    where
      next : waiting_in (drop x pending) ≡ waiting (get_or pending x 0) + waiting_in (drop (x + 1) pending)
      next = rw (add-one x, drop-cons pending x 0 h) refl

  pub wait-fits : {count x : ℕ} → WaitTurn pending count x → count ≤ length pending
  wait-fits t = omega (arith, t.counted, waiting_few pending)

  pub wait-end : {count x : ℕ} → WaitTurn pending count x → length pending ≤ x → count ≡ waiting_in pending
  unfolding waiting_in sum
  wait-end {count} {x} t h = omega (arith, t.counted, none)
    where
      whole : x ≡ length pending
      whole = omega (arith, t.within)

      none : waiting_in (drop x pending) ≡ 0
      none = rw (whole, drop-length pending) refl

-- One edge of the list, at both of its ends.
module _ {x low : ℕ} {block pending taken pending' taken' : List ℕ} {r : ℕ} (s : Passes x low block pending taken pending' taken' r) where
  pub pass-long : (length pending' ≡ length pending) × (length taken' ≡ length taken)
  pass-long = (ap length s.passed ∙ length-set pending x _, ap length s.took ∙ length-set taken x _)

  -- those that wait are fewer by what is answered
  pub pass-count : x < length pending → r + waiting_in pending' ≡ waiting_in pending
  pass-count h = omega (arith, s.settled, ap waiting_in s.passed, waiting-set pending x (next_at block x low (get_or pending x 0)) h)

  pass-here : {z : ℕ} → z ≡ x → x < length pending → x < length taken
      → (get_or pending' z 0 ≡ next_at block z low (get_or pending z 0)) × (get_or taken' z 0 ≡ get_or taken z 0 + waiting (get_or pending z 0))
  pass-here {z} e h l =
      rw e (ap (λ (t : List ℕ). get_or t x 0) s.passed ∙ get_or-set_same pending x _ 0 h, ap (λ (t : List ℕ). get_or t x 0) s.took ∙ get_or-set_same taken x _ 0 l)

  pass-other : {z : ℕ} → z ≢ x → (get_or pending' z 0 ≡ get_or pending z 0) × (get_or taken' z 0 ≡ get_or taken z 0)
  pass-other {z} d = (
    ap (λ (t : List ℕ). get_or t z 0) s.passed ∙ get_or-set_other pending x z _ 0 d,
    ap (λ (t : List ℕ). get_or t z 0) s.took ∙ get_or-set_other taken x z _ 0 d,
  )

-- where the pass stands: what is left of the list brings each vertex to where the whole list would have
pub record SweepTurn (es left : List Edge) (block pending₀ taken₀ pending taken : List ℕ) (w : ℕ) : Type 0 where
  pub pending_long : length pending ≡ length block
  pub taken_long : length taken ≡ length block
  pub proper : Proper (length block) left
  pub counted : w ≡ waiting_in pending
  pub same : (z : ℕ) → z < length block
      → get_or taken z 0 + waits block z (get_or pending z 0) left ≡ get_or taken₀ z 0 + waits block z (get_or pending₀ z 0) es

module _ {es : List Edge} {block pending₀ taken₀ : List ℕ} (g : Sweepable es block pending₀ taken₀) where
  pub sweep-start : {left : List Edge} {w : ℕ} → left ≡ es → w ≡ waiting_in pending₀ → SweepTurn es left block pending₀ taken₀ pending₀ taken₀ w
  sweep-start k e = record { pending_long = g.pending_long; taken_long = g.taken_long; proper = rw k g.proper; counted = e; same = λ z h. rw k refl }

  module _ {left : List Edge} {pending taken : List ℕ} {w : ℕ} (t : SweepTurn es left block pending₀ taken₀ pending taken w) where
    -- no vertex waits
    pub sweep-none : w ≡ 0 → Swept es block pending₀ taken₀ taken
    sweep-none e = record {
      each = λ z h.
          omega (
            arith,
            t.same z h,
            ap (λ (p : ℕ). waits block z p left) (waiting-entry pending z (sym t.counted ∙ e)),
            waits-none block z left,
          );
    }

    -- the list is at its end
    pub sweep-end : left ≡ [] → Swept es block pending₀ taken₀ taken
    unfolding waits
    sweep-end h = record { each = λ z l. omega (arith, t.same z l, ap (λ (es : List Edge). waits block z (get_or pending z 0) es) h) }

    module _ {a b : ℕ} {rest : List Edge} (split : left ≡ (a ─ b) ∷ rest) where
      proper-edge : Proper (length block) ((a ─ b) ∷ rest)
      proper-edge = subst (Proper (length block)) split t.proper

      inside : (a < length block) × (b < length block) × (a ≢ b)
      inside = proper-head proper-edge

      -- each end can be taken, the second after the first
      fits-at : {z : ℕ} → z < length block → touches z (a ─ b) ≡ true → get_or taken z 0 + waiting (get_or pending z 0) < 2 ^ 32
      fits-at {z} l e =
          omega (arith, t.same z l, g.small z l, ap (λ (es : List Edge). waits block z (get_or pending z 0) es) split, waits-here block z (get_or pending z 0) (a ─ b) rest e)

      at_first : touches a (a ─ b) ≡ true
      unfolding touches
      at_first = or_left (eqb a a) (eqb b a) (eq-eqb a a refl)

      at_second : touches b (a ─ b) ≡ true
      unfolding touches
      at_second = or_right (eqb a b) (eqb b b) (eq-eqb b b refl)

      at_none : {z : ℕ} → z ≢ a → z ≢ b → touches z (a ─ b) ≡ false
      unfolding touches
      at_none {z} d e = rw (ne_eqb a z (λ q. d (sym q)), ne_eqb b z (λ q. e (sym q)))

      low-inside : min a b < length block
      low-inside = omega (arith, inside.0, inside.1)

      pub sweep-first : {low : ℕ} → low ≡ min a b → Passable a low block pending taken
      sweep-first e = record {
        inside = inside.0;
        low_inside = rw e low-inside;
        pending_long = t.pending_long;
        taken_long = t.taken_long;
        small = fits-at inside.0 at_first;
      }

      module _ {low : ℕ} (e : low ≡ min a b) {p₁ t₁ : List ℕ} {r₁ : ℕ} (s₁ : Passes a low block pending taken p₁ t₁ r₁) where
        pub sweep-less : r₁ ≤ w
        sweep-less = omega (arith, t.counted, pass-count s₁ (omega (arith, inside.0, t.pending_long)))

        pub sweep-second : Passable b low block p₁ t₁
        sweep-second = record {
          inside = inside.1;
          low_inside = rw e low-inside;
          pending_long = (pass-long s₁).0 ∙ t.pending_long;
          taken_long = (pass-long s₁).1 ∙ t.taken_long;
          small = let o = pass-other s₁ (λ q. inside.2 (sym q)) in rw (o.0, o.1) (fits-at inside.1 at_second);
        }

        module _ {p₂ t₂ : List ℕ} {r₂ : ℕ} (s₂ : Passes b low block p₁ t₁ p₂ t₂ r₂) where
          pub sweep-less-again : r₂ ≤ w - r₁
          sweep-less-again =
              omega (arith, t.counted, pass-count s₁ (omega (arith, inside.0, t.pending_long)), pass-count s₂ (omega (arith, inside.1, (pass-long s₁).0, t.pending_long)))

          -- a vertex, after both
          both : (z : ℕ) → z < length block → get_or t₂ z 0 + waits block z (get_or p₂ z 0) rest ≡ get_or taken z 0 + waits block z (get_or pending z 0) ((a ─ b) ∷ rest)
          unfolding lower
          both z l =
              by_cases (ℕ_discrete z a)
              (λ (q : z ≡ a).
              let f = pass-here s₁ q (omega (arith, inside.0, t.pending_long)) (omega (arith, inside.0, t.taken_long)) in
              let o = pass-other s₂ (λ (k : z ≡ b). inside.2 (sym q ∙ k)) in
              stepped (o.0 ∙ f.0) (o.1 ∙ f.1) (subst (λ (v : ℕ). touches v (a ─ b) ≡ true) (sym q) at_first))
              (λ (d : z ≢ a).
              by_cases (ℕ_discrete z b)
              (λ (q : z ≡ b).
              let o = pass-other s₁ d in
              let f = pass-here s₂ q (omega (arith, inside.1, (pass-long s₁).0, t.pending_long)) (omega (arith, inside.1, (pass-long s₁).1, t.taken_long)) in
              stepped (f.0 ∙ ap (next_at block z low) o.0) (f.1 ∙ ap₂ (λ (u v : ℕ). u + waiting v) o.1 o.0) (subst (λ (v : ℕ). touches v (a ─ b) ≡ true) (sym q) at_second))
              (λ (k : z ≢ b).
              let o = pass-other s₁ d in
              let f = pass-other s₂ k in
              omega (arith, f.1, o.1, ap (λ (p : ℕ). waits block z p rest) (f.0 ∙ o.0), waits-away block z (get_or pending z 0) (a ─ b) rest (at_none d k))))
            where
              stepped : get_or p₂ z 0 ≡ next_at block z low (get_or pending z 0) → get_or t₂ z 0 ≡ get_or taken z 0 + waiting (get_or pending z 0) → touches z (a ─ b) ≡ true
                  → get_or t₂ z 0 + waits block z (get_or p₂ z 0) rest ≡ get_or taken z 0 + waits block z (get_or pending z 0) ((a ─ b) ∷ rest)
              stepped p u h =
                  omega (
                    arith,
                    u,
                    ap (λ (v : ℕ). waits block z v rest) (p ∙ ap (λ (m : ℕ). next_at block z m (get_or pending z 0)) e),
                    waits-here block z (get_or pending z 0) (a ─ b) rest h,
                  )

          pub sweep-step : SweepTurn es rest block pending₀ taken₀ p₂ t₂ (w - r₁ - r₂)
          sweep-step = record {
            pending_long = (pass-long s₂).0 ∙ (pass-long s₁).0 ∙ t.pending_long;
            taken_long = (pass-long s₂).1 ∙ (pass-long s₁).1 ∙ t.taken_long;
            proper = proper-tail proper-edge;
            counted =
                omega (arith, t.counted, pass-count s₁ (omega (arith, inside.0, t.pending_long)), pass-count s₂ (omega (arith, inside.1, (pass-long s₁).0, t.pending_long)));
            same = λ z l. both z l ∙ ap (λ (es : List Edge). get_or taken z 0 + waits block z (get_or pending z 0) es) (sym split) ∙ t.same z l;
          }
