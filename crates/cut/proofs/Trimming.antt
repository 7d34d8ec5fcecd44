-- Trimming: while a vertex carries more than the limit, its heaviest child is cut. What stays uncut is some of the children, fits the
-- limit if the vertex alone does, and has all that carry nothing.
-- Assumes nothing.
use mathlib.Core.Path.{◌≡◌, refl, sym, ap, ◌∙◌}
use mathlib.Core.Logic.{by_cases}
use mathlib.Core.List.Memᴰ
use mathlib.Core.List.{List, [], ◌∷◌, Memᴰ}
use Prim.Native.Nat.{ℕ, zero, suc, ◌+◌, ◌≤◌, ◌<◌}
use native.Mathlib.Decide.{dec_le}
use native.Mathlib.Omega.{arith}
use lib.Dec.{ltb}
use lib.ListN.{length}
use borrow.Author.Tests.{lt-ltb, le-ltb, ltb-false}
use Rattle.cut.specs.Cut.{carries, heaviest, without, trim}
use Rattle.game.proofs.Lists.{Rising, done, more}
use Rattle.cut.proofs.Lists.{rising-without, without_in, in_without, without-shorter, sum-agree, sum-nought}
use Rattle.cut.proofs.Best.{Best, best-unique, best-is, heavier}

-- h is the heaviest of ys, of equals the first
abbrev pub Heaviest : (ℕ → ℕ) → List ℕ → ℕ → Type 0
Heaviest c ys h = Best (λ (z y : ℕ). ltb (c y) (c z)) ys h

heaviest-is : (c : ℕ → ℕ) (y : ℕ) (ys : List ℕ) → Rising (suc y) ys → Heaviest c (y ∷ ys) (heaviest c y ys)
unfolding heaviest
heaviest-is c y ys r = best-is (heavier c) y ys r

pub carries-agree : (c d : ℕ → ℕ) (own : ℕ) (ys : List ℕ) → ((z : ℕ) → Memᴰ z ys → c z ≡ d z) → carries c own ys ≡ carries d own ys
unfolding carries
carries-agree c d own ys f = ap (λ (s : ℕ). own + s) (sum-agree c d ys f)

module _ (c : ℕ → ℕ) (B own : ℕ) where
  -- what fits is left alone
  pub trim-done : (k : ℕ) (ys : List ℕ) → carries c own ys ≤ B → trim k c B own ys ≡ ys
  unfolding trim
  trim-done zero ys h = refl
  trim-done (suc k) [] h = refl
  trim-done (suc k) (y ∷ ys) h = rw (le-ltb B (carries c own (y ∷ ys)) h)

  -- else the heaviest is cut
  pub trim-cut : (k : ℕ) {a h : ℕ} {ys : List ℕ} → Rising a ys → Heaviest c ys h → B < carries c own ys
      → trim (suc k) c B own ys ≡ trim k c B own (without h ys)
  unfolding trim
  trim-cut k done b l = absurd (Memᴰ.not-nil b.inside)
  trim-cut k (more {y = y} {ys = ys} i r) b l =
      rw (lt-ltb B (carries c own (y ∷ ys)) l)
      (ap (λ (z : ℕ). trim k c B own (without z (y ∷ ys))) (sym (best-unique b (heaviest-is c y ys r))))

  -- one turn: it ends, or the heaviest is cut
  turn : {A : Type 0} (k : ℕ) {a : ℕ} {ys : List ℕ} → Rising a ys
      → (trim (suc k) c B own ys ≡ ys → (own ≤ B → carries c own ys ≤ B) → A)
      → ((h : ℕ) → Heaviest c ys h → B < carries c own ys → trim (suc k) c B own ys ≡ trim k c B own (without h ys) → A) → A
  unfolding trim
  turn k done ends cuts = ends refl (λ (h : own ≤ B). omega arith)
  turn k (more {y = y} {ys = ys} i r) ends cuts =
      by_cases (dec_le (carries c own (y ∷ ys)) B)
      (λ h. ends (trim-done (suc k) (y ∷ ys) h) (λ _. h))
      (λ (d : carries c own (y ∷ ys) ≤ B → ⊥).
      let b = heaviest-is c y ys r in
      let l : B < carries c own (y ∷ ys) = omega arith in
      cuts (heaviest c y ys) b l (trim-cut k (more i r) b l))

  -- more turns than there are children change nothing
  pub trim-enough : (k m : ℕ) {a : ℕ} {ys : List ℕ} → Rising a ys → length ys ≤ k → length ys ≤ m → trim k c B own ys ≡ trim m c B own ys
  unfolding trim
  trim-enough zero zero r h l = refl
  trim-enough zero (suc m) done h l = refl
  trim-enough zero (suc m) (more i r) h l = absurd (omega arith)
  trim-enough (suc k) zero done h l = refl
  trim-enough (suc k) zero (more i r) h l = absurd (omega arith)
  trim-enough (suc k) (suc m) done h l = refl
  trim-enough (suc k) (suc m) (more {y = y} {ys = ys} i r) h l =
      by_cases (dec_le (carries c own (y ∷ ys)) B)
      (λ f. trim-done (suc k) (y ∷ ys) f ∙ sym (trim-done (suc m) (y ∷ ys) f))
      (λ (n : carries c own (y ∷ ys) ≤ B → ⊥).
      let b = heaviest-is c y ys r in
      let g : B < carries c own (y ∷ ys) = omega arith in
      let s = without-shorter (heaviest c y ys) b.inside in
      trim-cut k (more i r) b g
      ∙ trim-enough k m (rising-without (heaviest c y ys) (more i r)) (omega arith) (omega arith)
      ∙ sym (trim-cut m (more i r) b g))

  -- what stays is of the list
  pub trim-in : (k : ℕ) {a : ℕ} {ys : List ℕ} → Rising a ys → {z : ℕ} → Memᴰ z (trim k c B own ys) → Memᴰ z ys
  unfolding trim
  trim-in zero r m = m
  trim-in (suc k) {ys = ys} r m =
      turn k r
      (λ e f. rw e at m)
      (λ h b l e. (without_in h ys (trim-in k (rising-without h r) (rw e at m))).0)

  pub trim-rising : (k : ℕ) {a : ℕ} {ys : List ℕ} → Rising a ys → Rising a (trim k c B own ys)
  unfolding trim
  trim-rising zero r = r
  trim-rising (suc k) r = turn k r (λ e f. rw e r) (λ h b l e. rw e (trim-rising k (rising-without h r)))

  -- what stays fits, if the vertex alone does
  pub trim-fits : (k : ℕ) {a : ℕ} {ys : List ℕ} → Rising a ys → length ys ≤ k → own ≤ B → carries c own (trim k c B own ys) ≤ B
  unfolding trim
  trim-fits zero done h o = omega arith
  trim-fits zero (more i r) h o = absurd (omega arith)
  trim-fits (suc k) {ys = ys} r h o =
      turn k r
      (λ e f. rw e (f o))
      (λ v b l e. rw e (trim-fits k (rising-without v r) (omega (arith, without-shorter v b.inside)) o))

  -- the heaviest carries something, while it is too much and the vertex alone fits
  heaviest-some : {h : ℕ} (ys : List ℕ) → Heaviest c ys h → B < carries c own ys → own ≤ B → 0 < c h
  unfolding carries
  heaviest-some {h} ys b l o =
      by_cases (dec_le 1 (c h)) (λ g. g)
      (λ (n : 1 ≤ c h → ⊥).
      absurd (omega (arith, sum-nought c ys (λ z m. omega (arith, ltb-false (c h) (c z) (b.unbeaten z m))))))

  -- what carries nothing stays
  pub trim-keeps : (k : ℕ) {a : ℕ} {ys : List ℕ} → Rising a ys → own ≤ B → {z : ℕ} → c z ≡ 0 → Memᴰ z ys → Memᴰ z (trim k c B own ys)
  unfolding trim
  trim-keeps zero r o f m = m
  trim-keeps (suc k) {ys = ys} r o {z} f m =
      turn k r
      (λ e g. rw e m)
      (λ h b l e.
      rw e (trim-keeps k (rising-without h r) o f (in_without h m (λ (q : z ≡ h). omega (arith, ap c q, heaviest-some ys b l o)))))

-- trimming goes by what the list carries alone
pub trim-agree : (c d : ℕ → ℕ) (B own k : ℕ) {a : ℕ} {ys : List ℕ} → Rising a ys → ((z : ℕ) → Memᴰ z ys → c z ≡ d z)
    → trim k c B own ys ≡ trim k d B own ys
unfolding trim
trim-agree c d B own zero r f = refl
trim-agree c d B own (suc k) done f = refl
trim-agree c d B own (suc k) (more {y = y} {ys = ys} i r) f =
    by_cases (dec_le (carries c own (y ∷ ys)) B)
    (λ h. trim-done c B own (suc k) (y ∷ ys) h ∙ sym (trim-done d B own (suc k) (y ∷ ys) (rw same at h)))
    (λ (n : carries c own (y ∷ ys) ≤ B → ⊥).
    let b = heaviest-is c y ys r in
    let l : B < carries c own (y ∷ ys) = omega arith in
    trim-cut c B own k (more i r) b l
    ∙ trim-agree c d B own k (rising-without (heaviest c y ys) (more i r)) (λ z m. f z (without_in (heaviest c y ys) (y ∷ ys) m).0)
    ∙ sym (trim-cut d B own k (more i r) (heaviest-agree b) (rw same at l)))
  where
    same : carries c own (y ∷ ys) ≡ carries d own (y ∷ ys)
    same = carries-agree c d own (y ∷ ys) f

    heaviest-agree : {h : ℕ} → Heaviest c (y ∷ ys) h → Heaviest d (y ∷ ys) h
    heaviest-agree {h} b =
        record {
          inside = b.inside;
          unbeaten = λ z m. rw (← f z m, ← f h b.inside) (b.unbeaten z m);
          first = λ z m. rw (← f z m, ← f h b.inside) (b.first z m);
        }
