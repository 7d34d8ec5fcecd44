-- A net that is saved and read back is that net, and a file that is read and saved again is that file.
-- Assumes nothing.
use mathlib.Core.Path.{◌≡◌, refl, sym, ap, ap₂, subst, ◌∙◌}
use mathlib.Core.Bool.{Bool, true, false, not, ◌||◌}
use mathlib.Core.Logic.{inl, inr}
use mathlib.Core.List.{List, [], ◌∷◌}
use Prim.Native.Nat.{ℕ, ◌*◌, ◌%◌, ◌^◌, ◌≤◌, ◌<◌}
use native.Mathlib.Omega.{arith}
use lib.Dec.{ltb}
use lib.ListN.{length, get_or}
use Rattle.words.specs.Word.{words}
use Rattle.words.proofs.Bytes.{below-head, below-tail, below_none, below-cons, words-of-bytes, bytes-of-words, bytes-length, words-length}
use Rattle.game.specs.Table.{Below}
use Rattle.game.specs.Game.{absent}
use Rattle.game.specs.Tree.{sound}
use Rattle.game.specs.Net.{Net, total, net as lent}
use Rattle.game.proofs.Bools.{or-neither}
use Rattle.game.proofs.Sound.{Sound, Allowed, get_d_default, true-sound}
use Rattle.game.proofs.Tables.{sum-entry}
use Rattle.refusal.specs.Limits.{max_vertices, max_total}
use Rattle.refusal.specs.Refusal.{given, first, bad_count}
use Rattle.refusal.specs.Verdict.{accepted, refused}
use Rattle.refusal.specs.Outcome.{decided}
use Rattle.net.specs.Damage.{damaged, damaged_by}
use Rattle.net.proofs.Scan.{undamaged}
use Rattle.records.specs.LinkFile.{records, link_file, record_parents, record_weights, file_net}
use Rattle.save.specs.Save.{save_refusal, save_outcome}
use Rattle.read.specs.Read.{unfit, read_refusal, read_outcome}
use Rattle.refusal.proofs.First.{good-count, unless-accepted}
use Rattle.refusal.proofs.Ends.{accepted-none, ends-accepted}
use Rattle.refusal.proofs.Never.{end-not, other-not, false-not, verdict-not}
use Rattle.forest.specs.Promise.{Valid}
use Rattle.forest.proofs.Promise.{valid-undamaged}
use Rattle.save.proofs.Accepted.{save-accepted, save-passes}
use Rattle.read.proofs.Accepted.{read-accepted, read-passes}
use Rattle.read.proofs.Records.{file-lengths}
use Rattle.linkfile.specs.RoundTrip.{ReadsBack, SavesBack}

-- the columns of the records are the tables
records-columns : (ps ws : List ℕ) → length ws ≡ length ps → (record_parents (records ps ws) ≡ ps) × (record_weights (records ps ws) ≡ ws)
unfolding records record_parents record_weights
records-columns [] [] e = (refl, refl)
records-columns [] (w ∷ ws) e = absurd (omega arith)
records-columns (p ∷ ps) [] e = absurd (omega arith)
records-columns (p ∷ ps) (w ∷ ws) e =
    let h = records-columns ps ws (omega arith) in
    (ap (λ (xs : List ℕ). p ∷ xs) h.0, ap (λ (xs : List ℕ). w ∷ xs) h.1)

-- the records of the columns are the words
columns-records : (xs : List ℕ) → length xs % 2 ≡ 0 → records (record_parents xs) (record_weights xs) ≡ xs
unfolding records record_parents record_weights
columns-records [] e = refl
columns-records (p ∷ []) e = absurd (omega arith)
columns-records (p ∷ w ∷ xs) e = ap (λ (ys : List ℕ). p ∷ w ∷ ys) (columns-records xs (omega arith))

records-below : {m : ℕ} (ps ws : List ℕ) → Below m ps → Below m ws → Below m (records ps ws)
unfolding records
records-below [] ws a b = below_none
records-below (p ∷ ps) [] a b = below_none
records-below (p ∷ ps) (w ∷ ws) a b = below-cons (below-head a) (below-cons (below-head b) (records-below ps ws (below-tail a) (below-tail b)))

records-length : (ps ws : List ℕ) → length ws ≡ length ps → length (records ps ws) ≡ 2 * length ps
unfolding records
records-length [] ws e = refl
records-length (p ∷ ps) [] e = absurd (omega arith)
records-length (p ∷ ps) (w ∷ ws) e = omega (arith, records-length ps ws (omega arith))

-- a link file has 8 bytes for each vertex
pub link-file-length : (net : Net) → length net.weights ≡ length net.parents → length (link_file net) ≡ 8 * length net.parents
unfolding link_file
link-file-length net e = omega (arith, bytes-length (records net.parents net.weights), records-length net.parents net.weights e)

-- the net that its own link file says
pub file-net : (net : Net) → length net.weights ≡ length net.parents → Below (2 ^ 32) net.parents → Below (2 ^ 32) net.weights → file_net (link_file net) ≡ net
unfolding file_net link_file
file-net net e bp bw =
    let c = records-columns net.parents net.weights e in
    rw (words-of-bytes (records net.parents net.weights) (records-below net.parents net.weights bp bw)) (ap₂ lent c.0 c.1)

-- the link file of the net that a file says is the file
file-back : (bytes : List ℕ) (n : ℕ) → Below 256 bytes → length bytes ≡ 8 * n → link_file (file_net bytes) ≡ bytes
unfolding file_net link_file
file-back bytes n b e =
    let w = words-length bytes in
    rw (columns-records (words bytes) (omega arith)) (bytes-of-words bytes b (omega arith))

-- the entries of a net without damage are words
module _ (net : Net) (few : length net.parents ≤ max_vertices) (fine : damaged net ≡ false) where
  safe : Sound net.parents × (total net ≤ max_total)
  unfolding damaged
  safe = undamaged net.parents (total net) fine

  pub undamaged-parents : Below (2 ^ 32) net.parents
  undamaged-parents = record { each = λ i h. rw (get_d_default net.parents i 0 absent h) (small i (safe.0.each i h)) }
    where
      small : (i : ℕ) → Allowed (length net.parents) i (get_or net.parents i absent) → get_or net.parents i absent < 2 ^ 32
      small i (inl e) = omega arith
      small i (inr b) = omega arith

  pub undamaged-weights : Below (2 ^ 32) net.weights
  undamaged-weights = record { each = λ i h. omega (arith, sum-entry net.weights i, safe.1) }

-- a net without damage may be read
pub undamaged-fit : (net : Net) → damaged net ≡ false → unfit net ≡ 0
unfolding unfit first given damaged damaged_by
undamaged-fit net e = let h = or-neither (not (sound net.parents)) (ltb max_total (total net)) e in rw (h.0, h.1)

-- a saved net may be read from its file, and is the net that the file says
saved-file : (of : Net) (m : ℕ) → save_refusal of m ≡ 0 → (unfit (file_net (link_file of)) ≡ 0) × (file_net (link_file of) ≡ of)
saved-file of m e =
    let s = save-accepted of m e in
    let few = (good-count (length of.parents) s.count).1 in
    let same = file-net of s.weights_right (undamaged-parents of few s.undamaged) (undamaged-weights of few s.undamaged) in
    (ap unfit same ∙ undamaged-fit of s.undamaged, same)

-- a net that was read is not damaged
read-undamaged : (n m : ℕ) (bytes : List ℕ) → read_refusal n m bytes ≡ 0 → damaged (file_net bytes) ≡ false
unfolding unfit first given damaged damaged_by
read-undamaged n m bytes e = neither (not (sound (file_net bytes).parents)) (ltb max_total (total (file_net bytes))) (read-accepted n m bytes e).fit
  where
    neither : (a b : Bool) → first (given a 7 ∷ given b 20 ∷ []) ≡ 0 → (a || b) ≡ false
    neither true b f = absurd (omega arith)
    neither false true f = absurd (omega arith)
    neither false false f = refl

-- An accepted save, read into tables of n entries that hold anything, is accepted and leaves the net.
pub save-read : (of : Net) (room : List ℕ) → (save_outcome of room).verdict ≡ accepted tt → ReadsBack of (save_outcome of room).tables
unfolding save_outcome read_outcome decided
save-read of room a =
    let z = accepted-none (save_refusal of (length room)) _ a in
    let s = save-accepted of (length room) z in
    let back = saved-file of (length room) z in
    rw (unless-accepted (save_refusal of (length room)) room (link_file of) z)
    (record {
      reads = λ into p w.
          sym (ends-accepted (read_refusal (length into.parents) (length into.weights) (link_file of)) tt into (file_net (link_file of)) refl
          (read-passes (link_file of) (ap bad_count p ∙ s.count) (w ∙ sym p) (link-file-length of s.weights_right ∙ ap (λ (n : ℕ). 8 * n) (sym p)) back.0)
          (sym back.1));
    })

-- An accepted reading, saved into any table of 8 × n bytes, is accepted and leaves the file's own bytes.
pub read-save : (of : Net) (bytes : List ℕ) → Below 256 bytes → (read_outcome of bytes).verdict ≡ accepted tt
    → SavesBack (length of.parents) bytes (read_outcome of bytes).tables
unfolding save_outcome read_outcome decided
read-save of bytes b a =
    let n = length of.parents in
    let z = accepted-none (read_refusal n (length of.weights) bytes) _ a in
    let l = read-accepted n (length of.weights) bytes z in
    let long = file-lengths bytes n l.whole in
    rw (unless-accepted (read_refusal n (length of.weights) bytes) of (file_net bytes) z)
    (record {
      saves = λ room e.
          sym (ends-accepted (save_refusal (file_net bytes) (length room)) tt room (link_file (file_net bytes)) refl
          (save-passes (file_net bytes) (ap bad_count long.0 ∙ l.count) (long.1 ∙ sym long.0) (e ∙ ap (λ (k : ℕ). 8 * k) (sym long.0)) (read-undamaged n (length of.weights) bytes z))
          (sym (file-back bytes n b l.whole)));
    })

-- what an accepted reading leaves has the promise of the forest crate
pub read-valid : (of : Net) (bytes : List ℕ) → (read_outcome of bytes).verdict ≡ accepted tt → Valid (read_outcome of bytes).tables
unfolding read_outcome decided damaged
read-valid of bytes a =
    let n = length of.parents in
    let z = accepted-none (read_refusal n (length of.weights) bytes) _ a in
    let l = read-accepted n (length of.weights) bytes z in
    let long = file-lengths bytes n l.whole in
    let count = good-count n l.count in
    let sane = undamaged (file_net bytes).parents (total (file_net bytes)) (read-undamaged n (length of.weights) bytes z) in
    subst Valid (sym (unless-accepted (read_refusal n (length of.weights) bytes) of (file_net bytes) z))
    (record {
      some = omega (arith, long.0, count.0);
      few = omega (arith, long.0, count.1);
      sized = long.1 ∙ sym long.0;
      sound = true-sound sane.0;
      light = sane.1;
    })

-- a valid net is not refused with 30
pub save-not-30 : (of : Net) (room : List ℕ) → Valid of → (save_outcome of room).verdict ≡ refused 30 → ⊥
unfolding save_outcome decided save_refusal
save-not-30 of room v =
    verdict-not _ _ 30
    (other-not 29 _ 1 _ (omega arith) (other-not 29 _ 2 _ (omega arith) (other-not 29 _ 2 _ (omega arith)
    (false-not 29 _ 30 _ (valid-undamaged v) (end-not 29)))))
