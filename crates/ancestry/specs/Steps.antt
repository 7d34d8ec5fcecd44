-- What walking up a forest promises. No public contract cites this.
-- Assumes nothing.
use Rattle.std.specs.Prelude.{◌≡◌, ◌≢◌, true, cond, List, [], ◌∷◌, ℕ, Option, None, Some, ◌≤◌, ◌<◌, eqb, ltb, length}
use Rattle.game.specs.Game.{absent}
use Rattle.game.specs.Tree.{ancestors, sound}
use Rattle.game.proofs.Climbs.{Climbs}
use Rattle.refusal.specs.Limits.{max_vertices}
use Rattle.refusal.specs.Refusal.{given, unless}
use Rattle.refusal.specs.Verdict.{judged}
use Rattle.refusal.specs.Outcome.{Outcome, ended}
use Rattle.ancestry.specs.declared.Separator.{Separator}
use Rattle.ancestry.specs.Answer.{separator_of}
use Rattle.ancestry.specs.Common.{common_ancestors, related, at_front}

-- a sound table of few vertices
pub record Walkable (p : List ℕ) : Type 0 where
  pub known : sound p ≡ true
  pub few : length p ≤ max_vertices

-- x and its ancestors; nothing, where x is no vertex
unfoldable pub path : List ℕ → ℕ → List ℕ
path p x = cond (ltb x (length p)) (x ∷ ancestors p x) []

-- r is the lowest vertex that both a and b climb to, themselves included; absent, if there is none
pub record FirstCommon (p : List ℕ) (a b r : ℕ) : Type 0 where
  pub inside : r ≢ absent → r < length p
  pub both : r ≢ absent → Climbs p r a × Climbs p r b
  pub least : (z : ℕ) → Climbs p z a → Climbs p z b → Climbs p z r

-- the lowest by its rank, absent for none
unfoldable pub lowest_at : ℕ → Option ℕ
lowest_at r = cond (eqb r absent) None (Some r)

-- what listing ends with, 31 being all that it refuses
unfoldable pub list_outcome : List ℕ → (a b : ℕ) → (was : List ℕ) → Outcome Separator (List ℕ)
list_outcome p a b was =
    let k : ℕ = given (related p a b) 31 in
    let ys : List ℕ = common_ancestors p a b in
    ended (judged k (separator_of ys)) (unless k was (at_front ys was))
