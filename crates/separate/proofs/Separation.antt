-- What lies between two vertices separates them, of every accepted call.
-- Assumes nothing.
use mathlib.Core.Path.{◌≡◌, refl, sym, ap, subst, ◌∙◌}
use mathlib.Core.Bool.{false}
use mathlib.Core.List.Memᴰ
use mathlib.Core.List.{List, [], ◌∷◌, Memᴰ}
use Prim.Native.Nat.{ℕ, zero, suc, ◌+◌, ◌≤◌, ◌<◌}
use native.Mathlib.Numerals.{add-one}
use native.Mathlib.Omega.{arith}
use lib.ListN.{length, get_or, take, drop}
use lib.Seq.{take-append_seam}
use Rattle.game.specs.Edge.{Edge, ties, edges}
use Rattle.game.specs.Game.{absent, forest}
use Rattle.game.specs.Net.{Net}
use Rattle.game.specs.Graph.{Proper}
use Rattle.game.proofs.Lists.{Rising, done, more}
use Rattle.game.proofs.Ancestors.{ancestor-climbs}
use Rattle.refusal.specs.Refusal.{unless}
use Rattle.refusal.specs.Verdict.{accepted}
use Rattle.refusal.proofs.First.{first-none, given-none}
use Rattle.refusal.proofs.Fault.{list-proper}
use Rattle.refusal.proofs.Ends.{accepted-none, accepted-values}
use Rattle.compare.proofs.Unlike.{passed-forest}
use Rattle.std.specs.Prelude.{None, Some}
use Rattle.ancestry.specs.declared.Separator.{Separator}
use Rattle.ancestry.specs.Common.{common_ancestors, related, at_front}
use Rattle.ancestry.specs.Answer.{lowest_of, separator_of}
use Rattle.ancestry.specs.Steps.{Walkable}
use Rattle.ancestry.proofs.Walk.{walkable-sound, walkable-few}
use Rattle.ancestry.proofs.Common.{common-both, both-common, common-rising, climbs-common}
use Rattle.separate.specs.Refused.{separate_early}
use Rattle.separate.specs.Separate.{SeparateTables, wrong_separate, grown_refusal, separate_refusal, separate_outcome}
use Rattle.separate.specs.Separates.{Walk, root, Separates}
use Rattle.separate.proofs.Refused.{Ready, ready}
use Rattle.separate.proofs.Walks.{walk-climbs}
use Rattle.separate.proofs.Roots.{root-climbs, climbs-one-root}

-- a list that rises, entry by entry
rising-entries : {a : ℕ} {ys : List ℕ} → Rising a ys → (i : ℕ) → i + 1 < length ys → get_or ys i 0 < get_or ys (i + 1) 0
rising-entries r i h = rw add-one (next r i (rw add-one at h))
  where
    next : {a : ℕ} {ys : List ℕ} → Rising a ys → (i : ℕ) → suc i < length ys → get_or ys i 0 < get_or ys (suc i) 0
    next done i h = absurd (omega arith)
    next (more l done) i h = absurd (omega arith)
    next (more l (more k r)) zero h = k
    next (more l (more k r)) (suc i) h = next (more k r) i (omega arith)

lowest-first : (ys : List ℕ) (y : ℕ) → lowest_of ys ≡ Some y → (0 < length ys) × (get_or ys 0 0 ≡ y)
unfolding lowest_of
lowest-first [] y e = let z : ◌≡◌ {A = ℕ} 0 1 = cc in absurd (omega arith)
lowest-first (x ∷ ys) y e = (omega arith, cc)

lowest-empty : (ys : List ℕ) → lowest_of ys ≡ None → ys ≡ []
unfolding lowest_of
lowest-empty [] e = refl
lowest-empty (x ∷ ys) e = let z : ◌≡◌ {A = ℕ} 0 1 = cc in absurd (omega arith)

empty-lowest : {ys : List ℕ} → ys ≡ [] → lowest_of ys ≡ None
unfolding lowest_of
empty-lowest e = rw e

-- a list without a member is empty
empty-list : (ys : List ℕ) → ((y : ℕ) → Memᴰ y ys → ⊥) → ys ≡ []
empty-list [] f = refl
empty-list (y ∷ ys) f = absurd (f y (Memᴰ.head refl))

-- in the forest of a graph they separate the two
module _ {n : ℕ} {es : List Edge} (w : Walkable (forest n es)) (u : n ≤ absent) (proper : Proper n es) {a b : ℕ} (apart : related (forest n es) a b ≡ false) where
  passing : (vs : List ℕ) → Walk es a b vs → (y : ℕ) × Memᴰ y vs × Memᴰ y (common_ancestors (forest n es) a b)
  passing vs k = let (y, m, i, j) = walk-climbs u proper k in (y, m, climbs-common w a b apart i j)

  pub common-separates : Separates (forest n es) es a b (lowest_of (common_ancestors (forest n es) a b)) (common_ancestors (forest n es) a b)
  common-separates =
      record {
        above = λ y m. common-both (forest n es) a b m;
        all = λ y m k. both-common (forest n es) a b m k;
        lowest_first = rising-entries (common-rising w a b);
        lowest_listed = lowest-first (common_ancestors (forest n es) a b);
        none_listed = lowest-empty (common_ancestors (forest n es) a b);
        apart_none = λ d. empty-lowest (empty-list (common_ancestors (forest n es) a b) (λ y m. d (one y m)));
        none_apart = λ e r. none (lowest-empty (common_ancestors (forest n es) a b) e) (root (forest n es) a)
            (climbs-common w a b apart (root-climbs (walkable-sound w) (walkable-few w) a) (rw (← r) at (root-climbs (walkable-sound w) (walkable-few w) b)));
        passes = passing;
        no_walk = λ e vs k. none e (passing vs k).0 (passing vs k).2;
      }
    where
      none : common_ancestors (forest n es) a b ≡ [] → (y : ℕ) → Memᴰ y (common_ancestors (forest n es) a b) → ⊥
      none e y m = Memᴰ.not-nil (rw e at m)

      one : (y : ℕ) → Memᴰ y (common_ancestors (forest n es) a b) → root (forest n es) a ≡ root (forest n es) b
      one y m =
          let k = common-both (forest n es) a b m in
          climbs-one-root (walkable-sound w) (walkable-few w) (ancestor-climbs (walkable-few w) k.0)
          ∙ sym (climbs-one-root (walkable-sound w) (walkable-few w) (ancestor-climbs (walkable-few w) k.1))

module _ (of : Net) (a b : ℕ) (xs : List ℕ) (was : SeparateTables) (its : Separator) (answer : (separate_outcome of a b xs was).verdict ≡ accepted its) where
  none-refused : separate_refusal of a b xs was ≡ 0
  unfolding separate_outcome
  none-refused = accepted-none (separate_refusal of a b xs was) (separator_of (common_ancestors of.parents a b)) answer

  early : separate_early of a b xs (wrong_separate of xs was) ≡ 0
  unfolding separate_refusal
  early = (first-none _ _ none-refused).0

  late : grown_refusal of a b (ties xs) ≡ 0
  unfolding separate_refusal
  late = (first-none _ _ (first-none _ _ none-refused).1).0

  -- the list and what is answered of it
  pub accepted-lists : take its.count (separate_outcome of a b xs was).tables.listed ≡ common_ancestors of.parents a b
  unfolding separate_outcome at_front separator_of unless
  accepted-lists =
      rw (early, late, ← accepted-values (separate_refusal of a b xs was) (separator_of (common_ancestors of.parents a b)) answer)
      (take-append_seam (common_ancestors of.parents a b) (drop (length (common_ancestors of.parents a b)) was.listed))

  pub accepted-lowest : its.lowest ≡ lowest_of (common_ancestors of.parents a b)
  unfolding separate_outcome separator_of
  accepted-lowest = ap (λ (s : Separator). s.lowest) (sym (accepted-values (separate_refusal of a b xs was) (separator_of (common_ancestors of.parents a b)) answer))

  pub separate-separates : Separates of.parents (edges xs) a b its.lowest (take its.count (separate_outcome of a b xs was).tables.listed)
  unfolding grown_refusal
  separate-separates =
      rw (accepted-lists, accepted-lowest)
      (subst (λ (p : List ℕ). Separates p (edges xs) a b (lowest_of (common_ancestors p a b)) (common_ancestors p a b)) (sym own)
      (common-separates (subst Walkable own r.walkable) (omega (arith, r.walkable.few)) (list-proper (length of.parents) xs r.faultless)
      (subst (λ (p : List ℕ). related p a b ≡ false) own apart)))
    where
      r : Ready of a b xs was
      r = ready of a b xs was early

      own : of.parents ≡ forest (length of.parents) (edges xs)
      own = passed-forest of xs (first-none _ _ late).0

      apart : related of.parents a b ≡ false
      apart = given-none _ 30 (first-none _ _ (first-none _ _ late).1).0
