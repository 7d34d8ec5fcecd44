-- What is known of a first list that is grown as it stands. No public contract cites this.
-- Assumes nothing.
use Rattle.std.specs.Prelude.{◌≡◌, List, ℕ, length, replicate}
use Rattle.game.specs.Edge.{ties}
use Rattle.game.specs.Game.{absent}
use Rattle.rising.specs.Rising.{Rises}

-- no vertex has a parent, and the list rises
pub record RisingFirst (p xs : List ℕ) : Type 0 where
  pub blank : p ≡ replicate (length p) absent
  pub rises : Rises (length p) 0 (ties xs)
