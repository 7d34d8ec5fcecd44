-- The law of joined trees, for nets: adding ties to the net of a list gives the net of the longer list, and so does joining the nets of
-- two lists. With `forest-links` (game/proofs/Forest), that a sound table is the forest of its own links, and `net-order`
-- (game/proofs/Order), these carry every history of calls.
-- Assumes nothing.
use mathlib.Core.Path.{◌≡◌, sym, ap, ap₂, ◌∙◌}
use mathlib.Core.List.{List, ◌++◌, zip_with}
use Prim.Native.Nat.{ℕ, ◌+◌, ◌≤◌, ◌<◌}
use native.Mathlib.Omega.{arith}
use lib.ListN.{length}
use lib.Seq.{ext_get_or}
use Rattle.game.specs.Edge.{Tie, without_rows}
use Rattle.game.specs.Game.{absent, forest}
use Rattle.game.specs.Tree.{links}
use Rattle.game.specs.Net.{net, weights, net_of}
use Rattle.game.proofs.Forest.{forest-length, join-law-left, join-law}
use Rattle.game.specs.Graph.{Proper}
use Rattle.game.proofs.Edges.{rowless-append}
use Rattle.game.proofs.Weights.{weight-append, weights-length, weights-entry}
use Rattle.table.proofs.Zipped.{zip_length, zip-entry}
use Rattle.add.specs.Add.{grown}
use Rattle.join.specs.Join.{joined}

-- weights add up
pub weights-append : (n : ℕ) (ts us : List Tie) → zip_with ◌+◌ (weights n ts) (weights n us) ≡ weights n (ts ++ us)
weights-append n ts us =
    ext_get_or 0 (zip_with ◌+◌ (weights n ts) (weights n us)) (weights n (ts ++ us)) (long ∙ sym (weights-length n (ts ++ us)))
    (λ i h. let l : i < n = omega (arith, long) in
    zip-entry ◌+◌ (weights n ts) (weights n us) i 0 0 same
    ∙ ap₂ ◌+◌ (weights-entry n ts l) (weights-entry n us l)
    ∙ sym (weight-append ts us i)
    ∙ sym (weights-entry n (ts ++ us) l))
  where
    same : length (weights n ts) ≡ length (weights n us)
    same = weights-length n ts ∙ sym (weights-length n us)

    long : length (zip_with ◌+◌ (weights n ts) (weights n us)) ≡ n
    long = zip_length ◌+◌ (weights n ts) (weights n us) same ∙ weights-length n ts

module _ {n : ℕ} (ts us : List Tie) (small : n ≤ absent) (proper : Proper n (without_rows ts)) where
  pub grown-net : grown (net_of n ts) us ≡ net_of n (ts ++ us)
  unfolding grown net_of
  grown-net = ap₂ net
      (ap (λ (m : ℕ). forest m (links (forest n (without_rows ts)) ++ without_rows us)) (forest-length n (without_rows ts)) ∙ sym (join-law-left (without_rows us) small proper)
      ∙ ap (forest n) (sym (rowless-append ts us)))
      (ap (λ (m : ℕ). zip_with ◌+◌ (weights n ts) (weights m us)) (forest-length n (without_rows ts)) ∙ weights-append n ts us)

  pub joined-net : Proper n (without_rows us) → joined (net_of n ts) (net_of n us) ≡ net_of n (ts ++ us)
  unfolding joined net_of
  joined-net other = ap₂ net
      (ap (λ (m : ℕ). forest m (links (forest n (without_rows ts)) ++ links (forest n (without_rows us)))) (forest-length n (without_rows ts)) ∙ sym (join-law small proper other)
      ∙ ap (forest n) (sym (rowless-append ts us)))
      (weights-append n ts us)
