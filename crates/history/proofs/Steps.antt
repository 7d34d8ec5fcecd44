-- What every call keeps, whether it is accepted or refused: each net with a list is the net of its list, each file with a list is the link
-- file of the net of its list, and the list's ties are sound for the net's vertices.
-- Assumes nothing.
use mathlib.Core.Path.{◌≡◌, refl, sym, ap, ap₂, subst, ◌∙◌}
use mathlib.Core.Bool.{Bool, true, false}
use mathlib.Core.List.{List, [], ◌++◌}
use mathlib.Core.Option.{Option, none, some, none-ne-some}
use Prim.Native.Nat.{ℕ, zero, suc, ◌≤◌, ◌<◌}
use native.Mathlib.Omega.{arith}
use lib.Dec.{eqb}
use lib.ListN.{length}
use Rattle.game.specs.Edge.{Tie, without_rows, ties}
use Rattle.game.specs.Game.{absent, forest}
use Rattle.game.specs.Net.{Net, net_of}
use Rattle.game.proofs.Edges.{rowless-append}
use Rattle.game.proofs.Forest.{forest-length}
use Rattle.game.proofs.Weights.{weights-length}
use Rattle.game.proofs.Proper.{proper-nil, proper-append}
use Rattle.game.specs.Graph.{Proper}
use Rattle.refusal.specs.Limits.{max_vertices}
use Rattle.refusal.specs.Refusal.{unless}
use Rattle.refusal.specs.Verdict.{is_accepted, judged}
use Rattle.refusal.specs.Outcome.{decided}
use Rattle.refusal.proofs.First.{unless-part}
use Rattle.refusal.proofs.Fault.{faultless-proper}
use Rattle.net.specs.Damage.{damaged}
use Rattle.moved.specs.Moved.{moved}
use Rattle.growth.specs.Work.{Work, NetWithWork, with_work, cleared}
use Rattle.start.specs.Start.{start_refusal, start_outcome}
use Rattle.add_refusal.specs.Refused.{add_refusal}
use Rattle.add.specs.Add.{grown, add_outcome}
use Rattle.join_refusal.specs.Refused.{join_refusal}
use Rattle.join.specs.Join.{joined, join_outcome}
use Rattle.join_refusal.proofs.Accepted.{joinable}
use Rattle.add_refusal.proofs.Accepted.{addable}
use Rattle.start.proofs.Accepted.{startable}
use Rattle.forest.proofs.Laws.{grown-net, joined-net}
use Rattle.records.specs.LinkFile.{link_file, file_net}
use Rattle.save.specs.Save.{save_refusal, save_outcome}
use Rattle.save.proofs.Accepted.{save-accepted}
use Rattle.read.specs.Read.{read_refusal, read_outcome}
use Rattle.linkfile.proofs.RoundTrip.{file-net, undamaged-parents, undamaged-weights}
use Rattle.relabel.specs.Relabel.{relabel_outcome}
use Rattle.index.specs.Build.{index_outcome}
use Rattle.query.specs.Query.{query_outcome}
use Rattle.divide.specs.Divide.{divide_outcome}
use Rattle.report.specs.Report.{report_outcome}
use Rattle.separate.specs.Separate.{separate_outcome}
use Rattle.history.specs.World.{World, Call, start, add, join, save, read, relabel, divide, report, index, query, separate, update, with_net, with_file, step, stepped}
use Rattle.history.specs.Book.{NetRecord, FileRecord, Book, Entry, entry, enter, note, behind, saved_record, loaded_record, started, added, joined as entered, saved, loaded, passed}
use Rattle.history.proofs.Update.{update-both, update_same}

-- a vertex count that nets may have
pub record Count (n : ℕ) : Type 0 where
  pub some : 0 < n
  pub few : n ≤ max_vertices

pub record NetOf (net : Net) (ts : List Tie) : Type 0 where
  pub vertices : ℕ
  pub count : Count vertices
  pub proper : Proper vertices (without_rows ts)
  pub is : net ≡ net_of vertices ts

pub record FileOf (bytes : List ℕ) (ts : List Tie) : Type 0 where
  pub vertices : ℕ
  pub count : Count vertices
  pub proper : Proper vertices (without_rows ts)
  pub is : bytes ≡ link_file (net_of vertices ts)
  pub undamaged : damaged (net_of vertices ts) ≡ false

-- of a net and what the book keeps of it, and of a file
pub record NetKept (net : Net) (noted : Option NetRecord) : Type 0 where
  pub kept : (r : NetRecord) → noted ≡ some r → NetOf net r.ties

pub record FileKept (bytes : List ℕ) (noted : Option FileRecord) : Type 0 where
  pub kept : (r : FileRecord) → noted ≡ some r → FileOf bytes r.ties

pub record Kept (w : World) (b : Book) : Type 0 where
  pub nets : (i : ℕ) → NetKept (w.nets i) (b.nets i)
  pub files : (f : ℕ) → FileKept (w.files f) (b.files f)

-- a call that writes one net, or one file: refused it leaves the old one, accepted it has to put in what its entry demands
net-written : {X : Type 0} (values : X) {w : World} {b : Book} (v : Kept w b) (i k : ℕ) (new : Net) (noted : Option NetRecord) (e : Entry) → enter b e ≡ record { nets = update b.nets i noted; files = b.files } → (k ≡ 0 → NetKept new noted) → Kept (with_net w i (unless k (w.nets i) new)) (note b e (is_accepted (judged k values)))
unfolding unless note is_accepted judged
net-written values {w} {b} v i zero new noted e q h =
    subst (Kept (with_net w i new)) (sym q) (record { nets = update-both NetKept w.nets b.nets v.nets i new noted (h refl); files = v.files })
net-written values {w} {b} v i (suc k) new noted e q h =
    record { nets = update_same NetKept w.nets b.nets v.nets i (w.nets i) refl; files = v.files }

file-written : {w : World} {b : Book} (v : Kept w b) (f k : ℕ) (new : List ℕ) (noted : Option FileRecord) (e : Entry) → enter b e ≡ record { nets = b.nets; files = update b.files f noted } → (k ≡ 0 → FileKept new noted) → Kept (with_file w f (unless k (w.files f) new)) (note b e (is_accepted (judged k (tt {0}))))
unfolding unless note is_accepted judged
file-written {w} {b} v f zero new noted e q h =
    subst (Kept (with_file w f new)) (sym q) (record { nets = v.nets; files = update-both FileKept w.files b.files v.files f new noted (h refl) })
file-written {w} {b} v f (suc k) new noted e q h =
    record { nets = v.nets; files = update_same FileKept w.files b.files v.files f (w.files f) refl }

pub net-lengths : (n : ℕ) (ts : List Tie) → (length (net_of n ts).parents ≡ n) × (length (net_of n ts).weights ≡ n)
unfolding net_of
net-lengths n ts = (forest-length n (without_rows ts), weights-length n ts)

pub parents-length : {net : Net} {ts : List Tie} (g : NetOf net ts) → length net.parents ≡ g.vertices
parents-length {ts = ts} g = ap (λ (x : Net). length x.parents) g.is ∙ (net-lengths g.vertices ts).0

pub net-parents : {net : Net} {ts : List Tie} (g : NetOf net ts) → net.parents ≡ forest g.vertices (without_rows ts)
unfolding net_of
net-parents g = ap (λ (x : Net). x.parents) g.is

small : {n : ℕ} → Count n → n ≤ absent
small c = omega (arith, c.few)

-- the record that was put in is the one that is found
net-recorded : {net : Net} (r : NetRecord) → NetOf net r.ties → NetKept net (some r)
net-recorded {net} r g = record { kept = λ s e. let same : r ≡ s = cc in subst (λ (t : NetRecord). NetOf net t.ties) same g }

file-recorded : {bytes : List ℕ} (r : FileRecord) → FileOf bytes r.ties → FileKept bytes (some r)
file-recorded {bytes} r g = record { kept = λ s e. let same : r ≡ s = cc in subst (λ (t : FileRecord). FileOf bytes t.ties) same g }

-- nothing is claimed where nothing is kept
pub net-unrecorded : {net : Net} → NetKept net none
net-unrecorded = record { kept = λ r e. absurd (none-ne-some r e) }

pub file-unrecorded : {bytes : List ℕ} → FileKept bytes none
file-unrecorded = record { kept = λ r e. absurd (none-ne-some r e) }

of-net : {n : ℕ} {ts : List Tie} → Count n → Proper n (without_rows ts) → NetOf (net_of n ts) ts
of-net {n} c p = record { vertices = n; count = c; proper = p; is = refl }

-- a list behind a list
both-proper : {n : ℕ} (ts us : List Tie) → Proper n (without_rows ts) → Proper n (without_rows us) → Proper n (without_rows (ts ++ us))
both-proper {n} ts us p q = subst (Proper n) (sym (rowless-append ts us)) (proper-append p q)

both : (a b : Option NetRecord) {net : Net} → ((r s : NetRecord) → a ≡ some r → b ≡ some s → NetOf net (r.ties ++ s.ties)) → NetKept net (behind a b)
unfolding behind
both none b h = net-unrecorded
both (some r) none h = net-unrecorded
both (some r) (some s) h = net-recorded _ (h r s refl refl)

-- starting
started-kept : (net : Net) → start_refusal net ≡ 0 → NetKept (net_of (length net.parents) []) (some (record { ties = [] }))
started-kept net z =
    let s = startable net z in
    net-recorded _ (of-net (record { some = s.some; few = s.few }) (proper-nil (length net.parents)))

-- adding
added-kept : (net : Net) (noted : Option NetRecord) (xs : List ℕ) (work : Work) → NetKept net noted → add_refusal (with_work net work) xs ≡ 0 → NetKept (grown net (ties xs)) (behind noted (some (record { ties = ties xs })))
added-kept net noted xs work v z = both noted (some new) go
  where
    new : NetRecord
    new = record { ties = ties xs }

    go : (r s : NetRecord) → noted ≡ some r → some new ≡ some s → NetOf (grown net (ties xs)) (r.ties ++ s.ties)
    go r s e f =
        let g = v.kept r e in
        let a = addable (with_work net work) xs z in
        let same : new ≡ s = cc in
        let proper : Proper g.vertices (without_rows (ties xs)) = subst (λ (n : ℕ). Proper n (without_rows (ties xs))) (parents-length g) (faultless-proper (length net.parents) (ties xs) a.faultless) in
        subst (λ (t : NetRecord). NetOf (grown net (ties xs)) (r.ties ++ t.ties)) same
        (record {
          vertices = g.vertices;
          count = g.count;
          proper = both-proper r.ties (ties xs) g.proper proper;
          is = ap (λ (x : Net). grown x (ties xs)) g.is ∙ grown-net r.ties (ties xs) (small g.count) g.proper;
        })

-- joining
joined-kept : (net other : Net) (noted second : Option NetRecord) (work : Work) → NetKept net noted → NetKept other second → join_refusal (with_work net work) other ≡ 0 → NetKept (joined net other) (behind noted second)
joined-kept net other noted second work v u z = both noted second go
  where
    go : (r s : NetRecord) → noted ≡ some r → second ≡ some s → NetOf (joined net other) (r.ties ++ s.ties)
    go r s e f =
        let g = v.kept r e in
        let h = u.kept s f in
        let a = joinable (with_work net work) other z in
        let same : h.vertices ≡ g.vertices = sym (parents-length h) ∙ a.same ∙ parents-length g in
        let proper : Proper g.vertices (without_rows s.ties) = subst (λ (n : ℕ). Proper n (without_rows s.ties)) same h.proper in
        record {
          vertices = g.vertices;
          count = g.count;
          proper = both-proper r.ties s.ties g.proper proper;
          is = ap₂ joined g.is (h.is ∙ ap (λ (n : ℕ). net_of n s.ties) same) ∙ joined-net r.ties s.ties (small g.count) g.proper proper;
        }

-- saving
saved-kept : (net : Net) (noted : Option NetRecord) (m : ℕ) → NetKept net noted → save_refusal net m ≡ 0 → FileKept (link_file net) (saved_record noted)
unfolding saved_record
saved-kept net none m v z = file-unrecorded
saved-kept net (some r) m v z =
    let g = v.kept r refl in
    file-recorded _ (record {
      vertices = g.vertices;
      count = g.count;
      proper = g.proper;
      is = ap link_file g.is;
      undamaged = ap damaged (sym g.is) ∙ (save-accepted net m z).undamaged;
    })

-- reading
loaded-kept : (bytes : List ℕ) (noted : Option FileRecord) → FileKept bytes noted → NetKept (file_net bytes) (loaded_record noted)
unfolding loaded_record
loaded-kept bytes none v = net-unrecorded
loaded-kept bytes (some r) v =
    let g = v.kept r refl in
    net-recorded _ (record {
      vertices = g.vertices;
      count = g.count;
      proper = g.proper;
      is = ap file_net g.is ∙ back r.ties g;
    })
  where
    back : (ts : List Tie) (g : FileOf bytes ts) → file_net (link_file (net_of g.vertices ts)) ≡ net_of g.vertices ts
    back ts g =
        let of : Net = net_of g.vertices ts in
        let few : length of.parents ≤ max_vertices = omega (arith, (net-lengths g.vertices ts).0, g.count.few) in
        file-net of ((net-lengths g.vertices ts).1 ∙ sym (net-lengths g.vertices ts).0)
        (undamaged-parents of few g.undamaged) (undamaged-weights of few g.undamaged)

-- a call that stands between
note-passed : (b : Book) (accepted : Bool) → note b passed accepted ≡ b
unfolding note enter
note-passed b true = refl
note-passed b false = refl

-- every call
pub step_keeps : {w : World} {b : Book} (c : Call) → Kept w b → Kept (step w c).world (note b (entry c) (step w c).accepted)
unfolding step stepped entry decided enter start_outcome add_outcome join_outcome save_outcome read_outcome
step_keeps {w} {b} (start i) v =
    net-written tt v i (start_refusal (w.nets i)) (net_of (length (w.nets i).parents) []) (some (record { ties = [] })) (started i) refl (started-kept (w.nets i))
step_keeps {w} {b} (add i xs work) v =
    let m = moved (w.nets i) (grown (w.nets i) (ties xs)) in
    subst (λ (x : Net). Kept (with_net w i x) (note b (added i xs) (is_accepted (judged (add_refusal (with_work (w.nets i) work) xs) m))))
    (sym (unless-part (λ (g : NetWithWork). g.net) (add_refusal (with_work (w.nets i) work) xs) (with_work (w.nets i) work) (with_work (grown (w.nets i) (ties xs)) (cleared work))))
    (net-written m v i (add_refusal (with_work (w.nets i) work) xs) (grown (w.nets i) (ties xs)) (behind (b.nets i) (some (record { ties = ties xs }))) (added i xs) refl
    (added-kept (w.nets i) (b.nets i) xs work (v.nets i)))
step_keeps {w} {b} (join i j different work) v =
    let m = moved (w.nets i) (joined (w.nets i) (w.nets j)) in
    subst (λ (x : Net). Kept (with_net w i x) (note b (entered i j) (is_accepted (judged (join_refusal (with_work (w.nets i) work) (w.nets j)) m))))
    (sym (unless-part (λ (g : NetWithWork). g.net) (join_refusal (with_work (w.nets i) work) (w.nets j)) (with_work (w.nets i) work) (with_work (joined (w.nets i) (w.nets j)) (cleared work))))
    (net-written m v i (join_refusal (with_work (w.nets i) work) (w.nets j)) (joined (w.nets i) (w.nets j)) (behind (b.nets i) (b.nets j)) (entered i j) refl
    (joined-kept (w.nets i) (w.nets j) (b.nets i) (b.nets j) work (v.nets i) (v.nets j)))
step_keeps {w} {b} (save i f) v =
    file-written v f (save_refusal (w.nets i) (length (w.files f))) (link_file (w.nets i)) (saved_record (b.nets i)) (saved i f) refl
    (saved-kept (w.nets i) (b.nets i) (length (w.files f)) (v.nets i))
step_keeps {w} {b} (read i f) v =
    net-written tt v i (read_refusal (length (w.nets i).parents) (length (w.nets i).weights) (w.files f)) (file_net (w.files f)) (loaded_record (b.files f)) (loaded i f) refl
    (λ z. loaded-kept (w.files f) (b.files f) (v.files f))
step_keeps {w} {b} (relabel order xs tables) v = subst (Kept w) (sym (note-passed b (is_accepted (relabel_outcome order xs tables).verdict))) v
step_keeps {w} {b} (divide i B k tables) v = subst (Kept w) (sym (note-passed b (is_accepted (divide_outcome (w.nets i) B k tables).verdict))) v
step_keeps {w} {b} (report i B k xs tables) v = subst (Kept w) (sym (note-passed b (is_accepted (report_outcome (w.nets i) B k xs tables).verdict))) v
step_keeps {w} {b} (index old more tables) v = subst (Kept w) (sym (note-passed b (is_accepted (index_outcome tables old more).verdict))) v
step_keeps {w} {b} (query tables rank) v = subst (Kept w) (sym (note-passed b (eqb (query_outcome tables rank).cell 0))) v
step_keeps {w} {b} (separate i x y xs tables) v = subst (Kept w) (sym (note-passed b (is_accepted (separate_outcome (w.nets i) x y xs tables).verdict))) v
