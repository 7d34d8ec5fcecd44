-- A loop that checks a file, record by record, before a reading: the rule of refusal 7 and the total.
-- Assumes nothing.
use mathlib.Core.Path.{◌≡◌, sym, ap, ◌∙◌}
use mathlib.Core.Bool.{true, false}
use mathlib.Core.List.{List, ◌∷◌}
use Prim.Native.Nat.{ℕ, ◌+◌, ◌*◌, ◌≤◌, ◌<◌}
use native.Mathlib.Numerals.{add-one}
use native.Mathlib.Omega.{arith}
use lib.ListN.{length, drop}
use borrow.Author.Tests.{lt-ltb, le-ltb}
use Rattle.words.specs.Word.{word_at}
use Rattle.game.specs.Table.{sum}
use Rattle.game.specs.Tree.{sound_parent, sound_from, sound}
use Rattle.game.specs.Net.{Net, total, net as lent}
use Rattle.refusal.specs.Limits.{max_total}
use Rattle.refusal.specs.Refusal.{first, given}
use Rattle.records.specs.LinkFile.{file_net}
use Rattle.read.specs.Read.{unfit}
use Rattle.read.proofs.Records.{file-drop, file-end, file-lengths}

-- The r records before this place have sound parents and the weights t: what is left decides.
pub record Checked (bytes : List ℕ) (n r t : ℕ) : Type 0 where
  pub parents : sound_from n r (file_net (drop (8 * r) bytes)).parents ≡ sound_from n 0 (file_net bytes).parents
  pub weights : t + sum (file_net (drop (8 * r) bytes)).weights ≡ sum (file_net bytes).weights

module _ {bytes : List ℕ} {n r t : ℕ} (whole : length bytes ≡ 8 * n) (c : Checked bytes n r t) where
  here : r < n → file_net (drop (8 * r) bytes)
      ≡ lent (word_at bytes (8 * r) ∷ (file_net (drop (8 * (r + 1)) bytes)).parents) (word_at bytes (8 * r + 4) ∷ (file_net (drop (8 * (r + 1)) bytes)).weights)
  here h = file-drop bytes r (omega arith)

  -- the record here has a parent that it may have, and the weight x
  pub checked-turn : {x : ℕ} → r < n → sound_parent n r (word_at bytes (8 * r)) ≡ true → x ≡ word_at bytes (8 * r + 4) → Checked bytes n (r + 1) (t + x)
  unfolding sound_from sum
  checked-turn {x} h e f = record { parents = p ∙ c.parents; weights = w }
    where
      p : sound_from n (r + 1) (file_net (drop (8 * (r + 1)) bytes)).parents ≡ sound_from n r (file_net (drop (8 * r) bytes)).parents
      p = rw (here h, e, add-one)

      w : t + x + sum (file_net (drop (8 * (r + 1)) bytes)).weights ≡ sum (file_net bytes).weights
      w = omega (arith, c.weights, ap (λ (net : Net). sum net.weights) (here h))

  -- it has another
  pub checked-stop : r < n → sound_parent n r (word_at bytes (8 * r)) ≡ false → unfit (file_net bytes) ≡ 7
  unfolding unfit sound first given sound_from
  checked-stop h e = rw ((file-lengths bytes n whole).0, sym c.parents ∙ stop)
    where
      stop : sound_from n r (file_net (drop (8 * r) bytes)).parents ≡ false
      stop = rw (here h, e)

  -- none is left: all parents are sound, and t is the total
  all_sound : n ≤ r → sound (file_net bytes).parents ≡ true
  unfolding sound sound_from
  all_sound h = rw (file-lengths bytes n whole).0 (sym c.parents ∙ rw (file-end bytes r (omega arith)))

  all-counted : n ≤ r → total (file_net bytes) ≡ t
  unfolding sum
  all-counted h = omega (arith, c.weights, ap (λ (net : Net). sum net.weights) (file-end bytes r (omega arith)))

  pub checked-above : n ≤ r → max_total < t → unfit (file_net bytes) ≡ 20
  unfolding unfit first given
  checked-above h a = rw (all_sound h, all-counted h, lt-ltb max_total t a)

  pub checked-within : n ≤ r → t ≤ max_total → unfit (file_net bytes) ≡ 0
  unfolding unfit first given
  checked-within h a = rw (all_sound h, all-counted h, le-ltb max_total t a)
