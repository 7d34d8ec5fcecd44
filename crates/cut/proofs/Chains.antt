-- Linked lists of ranks: what a store leaves of them, and lists by falling rank.
-- Assumes nothing.
use mathlib.Core.Path.{◌≡◌, refl, sym, ap₂, subst, ◌∙◌}
use mathlib.Core.Logic.{◌≢◌, ⊎_elim}
use mathlib.Core.List.Memᴰ
use mathlib.Core.List.{List, [], ◌∷◌, Memᴰ}
use Prim.Native.Nat.{ℕ, suc, ◌≤◌, ◌<◌}
use native.Mathlib.Omega.{arith}
use lib.ListN.{get_or, set}
use lib.Seq.{get_or-set_other}
use Rattle.game.specs.Game.{absent}
use Rattle.game.proofs.Lists.{Rising, more, rising-over}
use Rattle.cut.specs.Steps.{Chain, end, node, Falling, none, less}

-- a list goes by the entries of its own ranks alone
pub chain-agree : {next next' ys : List ℕ} {h : ℕ} → ((z : ℕ) → Memᴰ z ys → get_or next' z 0 ≡ get_or next z 0) → Chain next h ys → Chain next' h ys
chain-agree f (end e) = end e
chain-agree {next} {next'} f (node {y = y} {ys = ys} e k) =
    node e
    (subst (λ (g : ℕ). Chain next' g ys) (sym (f y (Memᴰ.head refl))) (chain-agree (λ z m. f z (Memᴰ.tail m)) k))

-- so a store at another rank leaves it
pub chain-set : {next ys : List ℕ} {h : ℕ} (x v : ℕ) → ((z : ℕ) → Memᴰ z ys → z ≢ x) → Chain next h ys → Chain (set next x v) h ys
chain-set {next} x v f k = chain-agree (λ z m. get_or-set_other next x z v 0 (f z m)) k

-- from one head there is one list
pub chain_same : {next ys zs : List ℕ} {h : ℕ} → ((z : ℕ) → Memᴰ z ys → z < absent) → ((z : ℕ) → Memᴰ z zs → z < absent)
    → Chain next h ys → Chain next h zs → ys ≡ zs
chain_same f g (end e) (end q) = refl
chain_same f g (end e) (node {y = z} q n) = absurd (omega (arith, e, q, g z (Memᴰ.head refl)))
chain_same f g (node {y = y} e k) (end q) = absurd (omega (arith, e, q, f y (Memᴰ.head refl)))
chain_same {next} f g (node {y = y} {ys = ys} e k) (node {y = z} {ys = zs} q n) =
    let s : y ≡ z = sym e ∙ q in
    ap₂ ◌∷◌ s
    (chain_same (λ v m. f v (Memᴰ.tail m)) (λ v m. g v (Memᴰ.tail m)) k (subst (λ (v : ℕ). Chain next (get_or next v 0) zs) (sym s) n))

-- from no head there is nothing
pub chain-none : {next ys : List ℕ} {h : ℕ} → h ≡ absent → ((v : ℕ) → Memᴰ v ys → v < absent) → Chain next h ys → ys ≡ []
chain-none e f (end q) = refl
chain-none e f (node {y = y} q n) = absurd (omega (arith, e, q, f y (Memᴰ.head refl)))

-- what comes after h in a list by rising rank
pub record After (next ys : List ℕ) (h : ℕ) : Type 0 where
  pub tail : List ℕ
  pub chain : Chain next (get_or next h 0) tail
  pub within : (z : ℕ) → Memᴰ z tail → Memᴰ z ys
  pub rising : Rising (suc h) tail
  pub higher : (z : ℕ) → Memᴰ z ys → h < z → Memᴰ z tail

pub chain-after : {next ys : List ℕ} {a g h : ℕ} → Chain next g ys → Rising a ys → Memᴰ h ys → After next ys h
chain-after (end e) r m = absurd (Memᴰ.not-nil m)
chain-after {next} {h = h} (node {y = y} {ys = ys} e k) (more l r) m = ⊎_elim at (λ i. on i (chain-after k r i)) (Memᴰ.cases_cons m)
  where
    at : h ≡ y → After next (y ∷ ys) h
    at q =
        record {
          tail = ys;
          chain = subst (λ (v : ℕ). Chain next (get_or next v 0) ys) (sym q) k;
          within = λ z i. Memᴰ.tail i;
          rising = subst (λ (v : ℕ). Rising (suc v) ys) (sym q) r;
          higher = λ z i b. ⊎_elim (λ (s : z ≡ y). absurd (omega arith)) (λ t. t) (Memᴰ.cases_cons i);
        }

    on : Memᴰ h ys → After next ys h → After next (y ∷ ys) h
    on i b =
        record {
          tail = b.tail;
          chain = b.chain;
          within = λ z j. Memᴰ.tail (b.within z j);
          rising = b.rising;
          higher = λ z j g. ⊎_elim (λ (s : z ≡ y). absurd (omega (arith, rising-over r i))) (λ t. b.higher z t g) (Memᴰ.cases_cons j);
        }

pub falling-under : {a : ℕ} {ys : List ℕ} → Falling a ys → {z : ℕ} → Memᴰ z ys → z < a
falling-under none m = absurd (Memᴰ.not-nil m)
falling-under {a} (less {y = y} l r) {z} m = ⊎_elim (λ (e : z ≡ y). omega arith) (λ k. omega (arith, falling-under r k)) (Memᴰ.cases_cons m)

pub falling-down : {a b : ℕ} {ys : List ℕ} → a ≤ b → Falling a ys → Falling b ys
falling-down h none = none
falling-down {b = b} h (less {y = y} l r) = let m : y < b = omega arith in less m r
