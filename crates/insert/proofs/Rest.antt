-- What is left of a list when its first edges are put in, grown with the whole forest.
-- Assumes nothing.
use mathlib.Core.Path.{◌≡◌, sym, ap, subst, ◌∙◌}
use mathlib.Core.List.{List, ◌++◌}
use Prim.Native.Nat.{ℕ, ◌+◌, ◌≤◌, min}
use native.Mathlib.Omega.{arith}
use lib.ListN.{length, get_or, drop, length-drop}
use Rattle.game.specs.Edge.{Edge, without_rows, ties, edges}
use Rattle.game.specs.Game.{absent, forest}
use Rattle.game.specs.Tree.{links}
use Rattle.game.proofs.Forest.{links-fall}
use Rattle.game.proofs.Sound.{sound-true}
use Rattle.refusal.specs.Refusal.{first_fault}
use Rattle.refusal.proofs.Fault.{drop-faultless}
use Rattle.game.proofs.Edges.{rowless-drop}
use Rattle.bucket.specs.Filed.{Filed}
use Rattle.moved.specs.Steps.{Differ, Fallen}
use Rattle.moved.proofs.Fallen.{fallen-on}
use Rattle.growth.specs.Growth.{Grows}
use Rattle.growth.proofs.NewParents.{links-in}
use Rattle.growth.proofs.Regrown.{grown-filed}
use Rattle.insert.specs.Putting.{PutUpTo}
use Rattle.insert.proofs.Puts.{put_rest}
use Rattle.insert.specs.Extending.{Extendable}

-- room and faults for what is left of the list
module _ {p xs ends jump lower q : List ℕ} {i : ℕ} (ys : List ℕ) (e : Extendable p xs ends jump lower) (u : PutUpTo p xs q i) (y : ties ys ≡ drop i (ties xs)) where
  rest-edges : edges ys ≡ drop i (edges xs)
  unfolding edges
  rest-edges = ap without_rows y ∙ rowless-drop i (ties xs)

  pub rest-faultless : first_fault (length q) (ties ys) ≡ 0
  rest-faultless = rw (y, u.same) (drop-faultless (length p) i (ties xs) e.faultless)

  pub rest-room : length q + length (edges ys) ≤ length lower
  rest-room = rw (rest-edges, length-drop i (edges xs)) (omega (arith, u.same, e.room))

  module _ {ends' lower' jump' p' ends'' lower'' jump'' : List ℕ} (f : Filed (length q) (links q ++ edges ys) ends' lower') (g : Grows ends' lower' q jump' p' ends'' lower'' jump'') where
    regrown-rest : p' ≡ forest (length q) (links q ++ edges ys)
    regrown-rest = grown-filed f (links-in (sound-true q u.sound) (edges ys)) g.grown

    -- what is filed of it is grown to the forest of the whole
    pub rest-grown : p' ≡ forest (length p) (links p ++ edges xs)
    rest-grown =
        regrown-rest
        ∙ ap (λ (m : ℕ). forest m (links q ++ edges ys)) u.same
        ∙ ap (λ (g : List Edge). forest (length p) (links q ++ g)) rest-edges
        ∙ put_rest u (length p)

    -- and parents only fall, so that what moved while edges were put in has moved then too
    pub rest-moved : {r s k : ℕ} → Fallen p q r → Differ q p' s → k ≡ min r s → Differ p p' k
    rest-moved h d m = rw m (fallen-on h d (λ z. subst (λ (t : List ℕ). get_or t z absent ≤ get_or q z absent) (sym regrown-rest)
        (links-fall (sound-true q u.sound) (omega (arith, u.same, e.table.few)) (edges ys) z)))
