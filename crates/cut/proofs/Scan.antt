-- The scan for the heaviest uncut child, along a linked list of children. It looks for one that carries more than `floor`; it may
-- begin behind children that carry less than `most`, and may end at one that carries `most`, where none carries more.
-- Assumes nothing.
use mathlib.Core.Path.{◌≡◌, refl, sym, ap, subst, ◌∙◌}
use mathlib.Core.Logic.{◌≢◌, ◌⊎◌, inl, inr, ⊎_elim, by_cases}
use mathlib.Core.List.Memᴰ
use mathlib.Core.List.{List, [], ◌∷◌, Memᴰ}
use Prim.Native.Nat.{ℕ, suc, ◌≤◌, ◌<◌}
use native.Mathlib.Decide.{dec_lt}
use native.Mathlib.Omega.{arith}
use lib.ListN.{get_or}
use borrow.Author.Tests.{lt-ltb, le-ltb}
use Rattle.game.specs.Game.{absent}
use Rattle.game.proofs.Lists.{Rising, more, rising_down, rising-over}
use Rattle.cut.specs.Steps.{Chain, end, node}
use Rattle.cut.proofs.Trimming.{Heaviest}

-- z carries less than f, or as much and is not below h
abbrev pub Beaten : (ℕ → ℕ) → ℕ → ℕ → ℕ → Type 0
Beaten c h f z = (c z < f) ⊎ ((c z ≡ f) × (h ≤ z))

-- Where the scan stands: it is at `child`, and the heaviest uncut child of x that it met is h, which carries f; f is `floor` at first.
-- us are all uncut children; the scan began at `start`, where the whole list begins at `first`.
pub record Scan (c : ℕ → ℕ) (next us : List ℕ) (x floor first most start h f child : ℕ) : Type 0 where
  pub rest : List ℕ
  pub chain : Chain next child rest
  pub lower : (z : ℕ) → Memᴰ z rest → z < x
  pub rising : Rising h rest
  pub met : (z : ℕ) → Memᴰ z us → Memᴰ z rest ⊎ (Beaten c h f z ⊎ ((c z < most) × (start ≢ first)))
  pub some : (f ≡ floor) ⊎ (Memᴰ h us × (c h ≡ f))

module _ {c : ℕ → ℕ} {next us : List ℕ} {x floor first most start h f child : ℕ} (k : Scan c next us x floor first most start h f child)
    (low : x ≤ absent) where
  -- the scan is at the first of the rest
  record Here : Type 0 where
    later : List ℕ
    first_of : k.rest ≡ child ∷ later
    on : Chain next (get_or next child 0) later
    up : Rising (suc child) later
    over : h ≤ child

  here : child ≢ absent → Here
  here d = go k.rest refl k.chain k.rising
    where
      go : (r : List ℕ) → k.rest ≡ r → Chain next child r → Rising h r → Here
      go [] e (end q) u = absurd (d q)
      go (y ∷ r) e (node q n) (more l u) =
          let q' : y ≡ child = sym q in
          record {
            later = r;
            first_of = e ∙ ap (λ (v : ℕ). v ∷ r) q';
            on = subst (λ (v : ℕ). Chain next (get_or next v 0) r) q' n;
            up = subst (λ (v : ℕ). Rising (suc v) r) q' u;
            over = subst (λ (v : ℕ). h ≤ v) q' l;
          }

  pub scan-inside : child ≢ absent → child < x
  scan-inside d = k.lower child (rw (here d).first_of (Memᴰ.head refl))

  -- the next stands higher, or there is none
  pub scan-up : child ≢ absent → child < get_or next child 0
  scan-up d = go (here d).later (here d).on (here d).up
    where
      go : (r : List ℕ) → Chain next (get_or next child 0) r → Rising (suc child) r → child < get_or next child 0
      go [] (end q) u = omega (arith, q, low, scan-inside d)
      go (y ∷ r) (node q n) (more l u) = omega (arith, q, l)

  -- the scan goes on, with a heavier child in hand or the same
  pub scan-take : child ≢ absent → Memᴰ child us → f < c child → Scan c next us x floor first most start child (c child) (get_or next child 0)
  scan-take d i g =
      record {
        rest = (here d).later;
        chain = (here d).on;
        lower = λ z m. k.lower z (rw (here d).first_of (Memᴰ.tail m));
        rising = rising_down (omega arith) (here d).up;
        met = λ z m. ⊎_elim (λ r. at z (Memᴰ.cases_cons (rw (here d).first_of at r))) (λ b. inr (passed z b)) (k.met z m);
        some = inr (i, refl);
      }
    where
      at : (z : ℕ) → (z ≡ child) ⊎ Memᴰ z (here d).later
          → Memᴰ z (here d).later ⊎ (Beaten c child (c child) z ⊎ ((c z < most) × (start ≢ first)))
      at z (inl e) = inr (inl (inr (ap c e, omega (arith, e))))
      at z (inr r) = inl r

      passed : (z : ℕ) → Beaten c h f z ⊎ ((c z < most) × (start ≢ first)) → Beaten c child (c child) z ⊎ ((c z < most) × (start ≢ first))
      passed z (inl (inl b)) = inl (inl (omega arith))
      passed z (inl (inr b)) = inl (inl (omega arith))
      passed z (inr b) = inr b

  pub scan-pass : child ≢ absent → (Memᴰ child us → c child ≤ f) → Scan c next us x floor first most start h f (get_or next child 0)
  scan-pass d g =
      record {
        rest = (here d).later;
        chain = (here d).on;
        lower = λ z m. k.lower z (rw (here d).first_of (Memᴰ.tail m));
        rising = rising_down (omega (arith, (here d).over)) (here d).up;
        met = λ z m. ⊎_elim (λ r. at z m (Memᴰ.cases_cons (rw (here d).first_of at r))) (λ b. inr b) (k.met z m);
        some = k.some;
      }
    where
      at : (z : ℕ) → Memᴰ z us → (z ≡ child) ⊎ Memᴰ z (here d).later
          → Memᴰ z (here d).later ⊎ (Beaten c h f z ⊎ ((c z < most) × (start ≢ first)))
      at z m (inl e) = inr (inl (less (g (subst (λ (v : ℕ). Memᴰ v us) e m))))
        where
          less : c child ≤ f → Beaten c h f z
          less l =
              by_cases (dec_lt (c z) f) (λ b. inl b) (λ (b : c z < f → ⊥). inr (omega (arith, ap c e), omega (arith, e, (here d).over)))
      at z m (inr r) = inl r

  -- nothing is left to scan at the end of the list
  scanned : child ≡ absent → (z : ℕ) → Memᴰ z us → Beaten c h f z ⊎ ((c z < most) × (start ≢ first))
  scanned e z m = ⊎_elim (λ r. absurd (over k.rest k.chain k.lower r)) (λ b. b) (k.met z m)
    where
      over : (r : List ℕ) → Chain next child r → ((v : ℕ) → Memᴰ v r → v < x) → Memᴰ z r → ⊥
      over [] n w i = Memᴰ.not-nil i
      over (y ∷ r) (node q n) w i = omega (arith, e, q, low, w y (Memᴰ.head refl))

  -- something was found, and all else is beaten: it is the heaviest
  best-found : f ≢ floor → ((z : ℕ) → Memᴰ z us → Beaten c h f z) → Heaviest c us h × (c h ≡ f)
  best-found d b = ⊎_elim (λ e. absurd (d e)) found k.some
    where
      found : Memᴰ h us × (c h ≡ f) → Heaviest c us h × (c h ≡ f)
      found i = (
        record {
          inside = i.0;
          unbeaten = λ z m. ⊎_elim (λ (g : c z < f). le-ltb (c h) (c z) (omega (arith, i.1))) (λ (g : (c z ≡ f) × (h ≤ z)). le-ltb (c h) (c z) (omega (arith, i.1))) (b z m);
          first = λ z m. ⊎_elim (λ (g : c z < f). inl (lt-ltb (c z) (c h) (omega (arith, i.1)))) (λ g. inr g.1) (b z m);
        },
        i.1,
      )

  -- the scan is over at one that carries as much as any
  pub scan-stop : f ≡ most → f ≢ floor → ((z : ℕ) → Memᴰ z us → c z ≤ most) → Heaviest c us h × (c h ≡ f)
  scan-stop e d g =
      best-found d
      (λ z m.
      ⊎_elim
      (λ r. by_cases (dec_lt (c z) f) (λ b. inl b) (λ (b : c z < f → ⊥). inr (omega (arith, g z m), rising-over k.rising r)))
      (λ b. ⊎_elim (λ a. a) (λ (a : (c z < most) × (start ≢ first)). inl (omega arith)) b)
      (k.met z m))

  -- or at the end of the whole list
  whole-scanned : child ≡ absent → start ≡ first → (z : ℕ) → Memᴰ z us → Beaten c h f z
  whole-scanned e s z m = ⊎_elim (λ b. b) (λ b. absurd (b.1 s)) (scanned e z m)

  -- where something was found
  pub scan-end : child ≡ absent → start ≡ first → f ≢ floor → Heaviest c us h × (c h ≡ f)
  scan-end e s d = best-found d (whole-scanned e s)

  -- or nothing, so that no uncut child carries more than `floor`
  pub scan-none : child ≡ absent → start ≡ first → f ≡ floor → (z : ℕ) → Memᴰ z us → c z ≤ floor
  scan-none e s q z m =
      ⊎_elim (λ (a : c z < f). omega arith) (λ (a : (c z ≡ f) × (h ≤ z)). omega arith) (whole-scanned e s z m)
