-- The net of a list of ties depends neither on the order of the list nor on the way round in which a tie is written.
-- Assumes nothing.
use mathlib.Core.Path.{◌≡◌, refl, ap, ap₂, subst, ◌∙◌}
use mathlib.Core.Logic.{⊎_elim}
use mathlib.Core.Bool.{Bool, ◌||◌}
use mathlib.Core.List.{List, [], ◌∷◌, Permᴰ}
use Prim.Native.Nat.{ℕ, suc, ◌+◌}
use native.Mathlib.Nat.{min_comm, add_left_comm}
use lib.ListN.{length}
use Rattle.game.specs.Table.{some_entry}
use Rattle.game.specs.Edge.{Edge, ◌─◌, Tie, without_rows}
use Rattle.game.specs.Game.{forest}
use Rattle.game.specs.Graph.{turn, SameEntries, nil, keep, flip, swap, trans, Same, SameTies, Linked, Proper}
use Rattle.game.specs.Net.{owner, weight, weights, net_of}
use Rattle.game.proofs.Bools.{or_swap}
use Rattle.game.proofs.Tables.{tabulate-ext}
use Rattle.game.proofs.Proper.{ends-turn, linked-ends, linked-cons, linked-tail}
use Rattle.game.proofs.Within.{within-linked}
use Rattle.game.proofs.Forest.{forest-same}
use Rattle.game.proofs.Weights.{charged}

-- of entries of any kind
module _ {A : Type 0} {turned : A → A} where
  pub same_refl : (es : List A) → SameEntries turned es es
  same_refl [] = nil
  same_refl (e ∷ es) = keep (same_refl es)

  same_back : ((e : A) → turned (turned e) ≡ e) → {es fs : List A} → SameEntries turned es fs → SameEntries turned fs es
  same_back twice nil = nil
  same_back twice (keep s) = keep (same_back twice s)
  same_back twice (flip {e = e} {es = es} {fs = fs} s) =
      subst (λ (x : A). SameEntries turned (turned e ∷ fs) (x ∷ es)) (twice e) (flip (same_back twice s))
  same_back twice swap = swap
  same_back twice (trans s t) = trans (same_back twice t) (same_back twice s)

  -- a permutation of the list
  pub same_perm : {es fs : List A} → Permᴰ es fs → SameEntries turned es fs
  same_perm Permᴰ.nil = nil
  same_perm (Permᴰ.cons p d) = rw p (keep (same_perm d))
  same_perm (Permᴰ.swap p q) = rw (p, q) swap
  same_perm (Permᴰ.trans c d) = trans (same_perm c) (same_perm d)

  -- there are as many
  pub same_length : {es fs : List A} → SameEntries turned es fs → length es ≡ length fs
  same_length nil = refl
  same_length (keep s) = ap suc (same_length s)
  same_length (flip s) = ap suc (same_length s)
  same_length swap = refl
  same_length (trans s t) = same_length s ∙ same_length t

turn_twice : (e : Edge) → turn (turn e) ≡ e
turn_twice (a ─ b) = refl

pub same-sym : {es fs : List Edge} → Same es fs → Same fs es
same-sym s = same_back turn_twice s

-- the edges of the same ties
pub same_edges : {ts us : List Tie} → SameTies ts us → Same (without_rows ts) (without_rows us)
same_edges nil = nil
same_edges (keep s) = keep (same_edges s)
same_edges (flip s) = flip (same_edges s)
same_edges swap = swap
same_edges (trans s t) = trans (same_edges s) (same_edges t)

-- a test that does not look at the way round of an edge is passed by some edge of both or of neither
pub some-order : (t : Edge → Bool) → ((a b : ℕ) → t (b ─ a) ≡ t (a ─ b)) → {es fs : List Edge} → Same es fs → some_entry t es ≡ some_entry t fs
unfolding some_entry
some-order t turned nil = refl
some-order t turned (keep {e = e} s) = ap (λ b. t e || b) (some-order t turned s)
some-order t turned (flip {e = a ─ b} s) = ap₂ (λ c d. c || d) (turned b a) (some-order t turned s)
some-order t turned (swap {e = e} {f = f} {es = es}) = or_swap (t e) (t f) (some_entry t es)
some-order t turned (trans r s) = some-order t turned r ∙ some-order t turned s

-- the same ends are linked
pub same-linked : {es fs : List Edge} → Same es fs → (a b : ℕ) → Linked es a b → Linked fs a b
same-linked nil a b l = l
same-linked (keep {e = x ─ y} {fs = fs} s) a b l =
    ⊎_elim (linked-ends fs) (λ m. linked-tail (x ─ y) (same-linked s a b m)) (linked-cons l)
same-linked (flip {e = x ─ y} {fs = fs} s) a b l =
    ⊎_elim (λ h. linked-ends fs (ends-turn h)) (λ m. linked-tail (y ─ x) (same-linked s a b m)) (linked-cons l)
same-linked (swap {e = x ─ y} {f = u ─ v} {es = es}) a b l =
    ⊎_elim
    (λ h. linked-tail (u ─ v) (linked-ends es h))
    (λ m. ⊎_elim (linked-ends ((x ─ y) ∷ es)) (λ r. linked-tail (u ─ v) (linked-tail (x ─ y) r)) (linked-cons m))
    (linked-cons l)
same-linked (trans s t) a b l = same-linked t a b (same-linked s a b l)

pub same-proper : {n : ℕ} {es fs : List Edge} → Same es fs → Proper n es → Proper n fs
same-proper s p = record { each = λ a b l. p.each a b (same-linked (same-sym s) a b l) }

-- the forest is one
pub forest-order : (n : ℕ) {es fs : List Edge} → Same es fs → forest n es ≡ forest n fs
forest-order n s = forest-same n (within-linked (same-linked s)) (within-linked (same-linked (same-sym s)))

-- the weights are one
owner-turn : (e : Edge) → owner (turn e) ≡ owner e
unfolding owner
owner-turn (a ─ b) = min_comm b a

pub weight-order : {ts us : List Tie} → SameTies ts us → (x : ℕ) → weight ts x ≡ weight us x
unfolding weight charged
weight-order nil x = refl
weight-order (keep {e = t} s) x = ap (λ (k : ℕ). charged t.rows (owner t.edge) x + k) (weight-order s x)
weight-order (flip {e = t} s) x = rw (weight-order s x, owner-turn t.edge)
weight-order (swap {e = t} {f = u} {es = ts}) x = add_left_comm (charged t.rows (owner t.edge) x) (charged u.rows (owner u.edge) x) (weight ts x)
weight-order (trans s t) x = weight-order s x ∙ weight-order t x

pub weights-order : (n : ℕ) {ts us : List Tie} → SameTies ts us → weights n ts ≡ weights n us
unfolding weights
weights-order n {ts} {us} s = tabulate-ext n (weight ts) (weight us) (λ i h. weight-order s i)

-- so the net is one
pub net-order : (n : ℕ) {ts us : List Tie} → SameTies ts us → net_of n ts ≡ net_of n us
unfolding net_of
net-order n s = λ i. record { parents = forest-order n (same_edges s) i; weights = weights-order n s i }
