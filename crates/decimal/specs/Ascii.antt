-- A text as bytes, one to a character.
-- Assumes nothing.
use mathlib.Core.List as List
use Rattle.std.specs.Prelude.{ℕ}
use Prim.Native.Char.{code}
use Prim.Native.String.{String, [], ◌∷◌}

-- the codes of its characters
unfoldable pub ascii : String → List.List ℕ
ascii [] = List.[]
ascii (c ∷ text) = List.◌∷◌ (code c) (ascii text)
