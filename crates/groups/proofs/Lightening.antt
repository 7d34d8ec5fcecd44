-- Lightening a vertex: its children are trimmed class by class, from the heaviest class down.
-- Assumes nothing.
use mathlib.Core.Path.{◌≡◌, refl, sym, ap, subst, ◌∙◌}
use mathlib.Core.Logic.{◌≢◌, ◌⊎◌, inl, inr, ⊎_elim, by_cases}
use mathlib.Core.List.{List, [], ◌∷◌, Memᴰ}
use Prim.Native.Nat.{ℕ, ◌+◌, ◌-◌, ◌≤◌, ◌<◌}
use native.Mathlib.Decide.{ℕ_discrete, dec_lt}
use native.Mathlib.Omega.{arith}
use lib.ListN.{length, get_or}
use borrow.Author.Tests.{eq-eqb, eqb-true}
use Rattle.game.specs.Game.{absent}
use Rattle.refusal.specs.Limits.{max_total}
use Rattle.cut.specs.Cut.{carries}
use Rattle.game.specs.Table.{filtered}
use Rattle.game.proofs.Lists.{filtered-in, in-filtered, rising-filtered}
use Rattle.cut.specs.Steps.{Chain, end, node, hanging, class_of, least_of, floor_of, Loaded, Candidates, Due, Trimmed, Listed, Children, class_in, InClasses, Lightened}
use Rattle.cut.proofs.Lists.{sum-nought, sum-within, sum-entry-in}
use Rattle.cut.proofs.Trimming.{trim-done}
use Rattle.cut.proofs.Carried.{entry, below_in, below-rising}
use Rattle.cut.proofs.Chains.{chain_same, chain-none, falling-under}
use Rattle.groups.proofs.Halving.{class-within, class-least, class-floor, floor-class, class-mono, floor-none}
use Rattle.groups.proofs.Filing.{of_class}
use Rattle.cut.proofs.Turns.{released-none, released-hung}

-- Where the trimming stands: what is left fits, or only children of classes below `class` still hang on x; it was right to cut the others.
pub record Lighter (x weight B last : ℕ) (carried was link : List ℕ) (class left : ℕ) : Type 0 where
  pub size : length link ≡ length was
  pub within : class ≤ last + 1
  pub cuts : Due x weight B 0 carried was link left
  pub lower : (weight + left ≤ B) ⊎ ((z : ℕ) → Memᴰ z (hanging link x) → class_of last (entry carried z) < class)

module _ {x weight uncut B : ℕ} {was carried link₀ : List ℕ} (b : Loaded x weight uncut B was carried link₀) where
  -- it fits as it is
  pub lightened-not : weight + uncut ≤ B → Lightened x weight B carried link₀ link₀ was was (weight + uncut)
  unfolding carries
  lightened-not l =
      record {
        kept = sym (trim-done (entry carried) B weight (length (hanging link₀ x)) (hanging link₀ x) (omega (arith, b.together)));
        carries = ap (λ (s : ℕ). weight + s) b.together;
        moved = released-none;
        others = λ y f. refl;
      }

  -- no child is of a higher class than the limit
  pub lighter-begin : {last : ℕ} → Lighter x weight B last carried link₀ link₀ (class_of last B + 1) uncut
  lighter-begin {last} =
      record {
        size = refl;
        within = omega (arith, class-within last B);
        cuts = record { same = refl; together = b.together; moved = released-none };
        lower = inr (λ z m. omega (arith, class-mono last (entry carried z) B (b.each z (below_in link₀ x x m).0)));
      }

  -- the children, filed into lists by class
  module _ {first : ℕ} {next heads : List ℕ} (n : Children x first was link₀) (f : InClasses (class_in heads carried) [] first was next heads) where
    abbrev last : ℕ
    last = length heads - 1

    abbrev classed : ℕ → ℕ
    classed y = class_of last (entry carried y)

    one : n.listed.list ≡ f.listed.list
    one = chain_same (below n.listed) (below f.listed) n.listed.chain f.listed.chain
      where
        below : {g : ℕ} {next : List ℕ} (l : Listed g next) (v : ℕ) → Memᴰ v l.list → v < absent
        below l v i = omega (arith, l.few, falling-under l.falling i)

    ranks-of : (z : ℕ) → Memᴰ z (hanging link₀ x) → Memᴰ z f.ranks
    ranks-of z m = ⊎_elim (λ i. absurd (mathlib.Core.List.Memᴰ.not-nil i)) (λ i. i) (f.all z (subst (λ (r : List ℕ). Memᴰ z r) one (n.all z m)))

    hangs : (z : ℕ) → Memᴰ z f.listed.list → Memᴰ z (hanging link₀ x)
    hangs z m = n.only z (subst (λ (r : List ℕ). Memᴰ z r) (sym one) m)

    -- the list of a class
    abbrev of_list : ℕ → List ℕ
    of_list c = filtered (of_class classed c) f.ranks

    of-hangs : (c z : ℕ) → Memᴰ z (of_list c) → Memᴰ z (hanging link₀ x)
    of-hangs c z m = hangs z (f.only z (filtered-in (of_class classed c) f.ranks m).0)

    of-lower : (c z : ℕ) → Memᴰ z (of_list c) → z < x
    of-lower c z m = (below_in link₀ x x (of-hangs c z m)).0

    module _ {class left : ℕ} {link : List ℕ} (k : Lighter x weight B last carried link₀ link class left) where
      hung : (z : ℕ) → Memᴰ z (hanging link x) → Memᴰ z (hanging link₀ x)
      hung = released-hung k.cuts.moved k.size b.inside

      pub lighter-small : weight + left ≤ max_total
      lighter-small =
          omega (arith, b.small, b.together, k.cuts.together, sum-within (entry carried) (below-rising link x x) (below-rising link₀ x x) hung)

      pub lighter-loaded : length next ≡ length was → Loaded x weight left B next carried link
      lighter-loaded s =
          record {
            inside = omega (arith, k.size, b.inside);
            few = omega (arith, k.size, b.few);
            tails = s ∙ b.tails ∙ sym k.size;
            told = b.told ∙ sym k.size;
            together = k.cuts.together;
            small = lighter-small;
            alone = b.alone;
            each = b.each;
          }

      -- at class c
      module _ (c : ℕ) (e : c + 1 ≡ class) (some : 0 < length heads) where
        inside : c < length heads
        inside = omega (arith, k.within)

        -- a child that is not of a lower class is in the list
        listed : (z : ℕ) → Memᴰ z (hanging link x) → B < weight + left → c ≤ classed z → Memᴰ z (of_list c)
        listed z m l h =
            in-filtered (of_class classed c) (ranks-of z (hung z m))
            (eq-eqb (classed z) c (⊎_elim (λ (g : weight + left ≤ B). absurd (omega arith)) (λ g. omega (arith, g z m)) k.lower))

        -- the list of the class is empty
        pub lighter-skip : B < weight + left → get_or heads c 0 ≡ absent → Lighter x weight B last carried link₀ link c left
        lighter-skip l q =
            record {
              size = k.size;
              within = omega (arith, k.within);
              cuts = k.cuts;
              lower =
                  inr
                  (λ z m.
                  by_cases (dec_lt (classed z) c) (λ g. g)
                  (λ (g : classed z < c → ⊥).
                  absurd (mathlib.Core.List.Memᴰ.not-nil (rw (chain-none q (λ v i. omega (arith, b.inside, b.few, of-lower c v i)) (f.chains c inside)) at (listed z m l (omega arith))))));
            }

        -- or is to be trimmed
        pub lighter-candidates : {floor : ℕ} → floor ≡ floor_of c → B < weight + left → Candidates x floor (get_or heads c 0) next carried link
        lighter-candidates q l =
            record {
              list = of_list c;
              chain = f.chains c inside;
              rising = rising-filtered (of_class classed c) f.rising;
              lower = of-lower c;
              all = λ z m g. listed z m l (class-floor last (entry carried z) c (omega (arith, inside)) (omega (arith, q, g)));
            }

        -- it has a child, which carries no less than the least of the class
        pub lighter-floor : get_or heads c 0 ≢ absent → least_of c ≤ max_total
        lighter-floor d = go (of_list c) refl (f.chains c inside)
          where
            go : (r : List ℕ) → of_list c ≡ r → Chain next (get_or heads c 0) r → least_of c ≤ max_total
            go [] q (end p) = absurd (d p)
            go (y ∷ r) q (node p i) =
                let m : Memᴰ y (of_list c) = rw q (mathlib.Core.List.Memᴰ.head refl) in
                let g : classed y ≡ c = eqb-true (classed y) c (filtered-in (of_class classed c) f.ranks m).1 in
                omega (
                  arith,
                  ap least_of g,
                  class-least last (entry carried y),
                  sum-entry-in (entry carried) (of-hangs c y m),
                  b.together,
                  b.small,
                )

        pub lighter-trimmed : {floor : ℕ} → floor ≡ floor_of c → {link' : List ℕ} {r : ℕ} → Trimmed x weight B floor carried link link' r → length link' ≡ length link
            → Lighter x weight B last carried link₀ link' c r
        lighter-trimmed {floor} u {link'} {r} t s =
            record {
              size = s ∙ k.size;
              within = omega (arith, k.within);
              cuts =
                  record {
                    same = t.cuts.same ∙ k.cuts.same;
                    together = t.cuts.together;
                    moved =
                        record {
                          each =
                              λ y.
                              ⊎_elim
                              (λ q. ⊎_elim (λ p. inl (q ∙ p)) (λ m. inr (m.0, m.1, q ∙ m.2)) (k.cuts.moved.each y))
                              (λ m. inr (hung y m.0, omega (arith, m.1), m.2))
                              (t.cuts.moved.each y);
                        };
                  };
              lower =
                  ⊎_elim (λ g. inl g)
                  (λ g.
                  by_cases (ℕ_discrete c 0)
                  (λ (q : c ≡ 0).
                  inl
                  (omega (
                    arith,
                    b.alone,
                    t.cuts.together,
                    sum-nought (entry carried) (hanging link' x) (λ z m. omega (arith, g z m, u, ap floor_of q, floor-none)),
                  )))
                  (λ (q : c ≢ 0). inr (λ z m. floor-class last (entry carried z) c (omega arith) (omega (arith, u, g z m)))))
                  t.ended;
            }

      -- what is left fits: where no class is left, nothing hangs on x
      pub lighter-fits : (class ≡ 0) ⊎ (weight + left ≤ B) → weight + left ≤ B
      lighter-fits o =
          ⊎_elim
          (λ (q : class ≡ 0).
          ⊎_elim (λ g. g) (λ g. omega (arith, b.alone, k.cuts.together, sum-nought (entry carried) (hanging link x) (λ z m. absurd (omega (arith, g z m, q))))) k.lower)
          (λ g. g)
          o

      pub lightened : (class ≡ 0) ⊎ (weight + left ≤ B) → Lightened x weight B carried link₀ link was next (weight + left)
      unfolding carries
      lightened o =
          record {
            kept = sym (trim-done (entry carried) B weight (length (hanging link x)) (hanging link x) (omega (arith, k.cuts.together, lighter-fits o))) ∙ k.cuts.same;
            carries = ap (λ (s : ℕ). weight + s) k.cuts.together;
            moved = k.cuts.moved;
            others = λ y g. f.others y (λ m. g (hangs y m));
          }
