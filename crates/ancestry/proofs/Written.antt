-- A path written to the front of a table, entry by entry.
-- Assumes nothing.
use mathlib.Core.Path.{◌≡◌, refl, sym, ap, ◌∙◌}
use mathlib.Core.Logic.{◌≢◌}
use mathlib.Core.List.{List, [], ◌∷◌, ◌++◌, append-nil}
use Rattle.std.specs.Prelude.{None, Some}
use Prim.Native.Nat.{ℕ, suc, ◌+◌, ◌-◌, ◌≤◌, ◌<◌}
use native.Mathlib.Omega.{arith}
use lib.ListN.{length, get_or, set, drop, length-append}
use lib.Seq.{length-take-le, length_front, drop-cons, set-append_seam, append_snoc}
use borrow.Author.Tests.{eq-eqb, ne_eqb}
use Rattle.game.specs.Game.{absent}
use Rattle.game.proofs.Sound.{get_d_default}
use Rattle.game.proofs.Climbs.{top}
use Rattle.ancestry.specs.Common.{at_front}
use Rattle.ancestry.specs.Steps.{Walkable, path, lowest_at}
use Rattle.ancestry.proofs.Walk.{walkable-sound, walkable-few, next-higher, at, reached-le, reached-in, reached-up}
use Rattle.ancestry.proofs.Paths.{path-on, path-out}

-- so far: the entries that are done, and x where the path goes on
pub record Writing (p : List ℕ) (from : ℕ) (was is : List ℕ) (x i : ℕ) : Type 0 where
  pub ready : List ℕ
  pub table : is ≡ at_front ready was
  pub count : i ≡ length ready
  pub path : path p from ≡ ready ++ path p x
  pub low : i ≤ x
  pub held : i ≤ length p
  pub inside : x ≢ absent → x < length p
  pub small : x ≤ absent

-- one entry more at the front
pub front-on : (ys was : List ℕ) (x : ℕ) → length ys < length was → set (at_front ys was) (length ys) x ≡ at_front (ys ++ (x ∷ [])) was
unfolding at_front
front-on ys was x h =
    rw (drop-cons was (length ys) 0 h)
    (set-append_seam ys (get_or was (length ys) 0) (drop (suc (length ys)) was) x
    ∙ sym (append_snoc ys x (drop (suc (length ys)) was))
    ∙ ap (λ (n : ℕ). (ys ++ (x ∷ [])) ++ drop n was) longer)
  where
    longer : suc (length ys) ≡ length (ys ++ (x ∷ []))
    longer = omega (arith, length-append ys (x ∷ []))

module _ {p : List ℕ} (w : Walkable p) {from : ℕ} {was : List ℕ} (long : length was ≡ length p) where
  -- the table keeps its length
  pub write-long : {is : List ℕ} {x i : ℕ} → Writing p from was is x i → length is ≡ length was
  unfolding at_front
  write-long t = ap length t.table ∙ length_front was t.ready (length t.ready) (sym (length-take-le (length t.ready) was (omega (arith, t.count, t.held, long))))

  pub write-start : (from ≢ absent → from < length p) → from ≤ absent → Writing p from was was from 0
  unfolding at_front
  write-start h k =
      record { ready = []; table = refl; count = refl; path = refl; low = omega arith; held = omega arith; inside = h; small = k }

  pub write-on : {is : List ℕ} {x i : ℕ} → Writing p from was is x i → x ≢ absent → Writing p from was (set is i x) (get_or p x 0) (i + 1)
  write-on {is} {x} {i} t d =
      let h : x < length p = t.inside d in
      let r = reached-up w {v = x} (at h top) d in
      rw (get_d_default p x 0 absent h)
      record {
        ready = t.ready ++ (x ∷ []);
        table = rw (t.table, t.count) (front-on t.ready was x (omega (arith, t.count, t.low, long)));
        count = omega (arith, t.count, length-append t.ready (x ∷ []));
        path = t.path ∙ ap (λ (ys : List ℕ). t.ready ++ ys) (path-on (walkable-sound w) (walkable-few w) h) ∙ sym (append_snoc t.ready x (path p (get_or p x absent)));
        low = omega (arith, t.low, next-higher w h);
        held = omega (arith, t.low);
        inside = λ e. (reached-in w r e).0;
        small = reached-le w r;
      }

  -- there is room for one entry more
  pub write-room : {is : List ℕ} {x i : ℕ} → Writing p from was is x i → x ≢ absent → i < length is
  write-room t d = omega (arith, write-long t, long, t.low, t.inside d)

  pub write-less : {is : List ℕ} {x i : ℕ} → Writing p from was is x i → x ≢ absent → absent - get_or p x 0 < absent - x
  write-less {x = x} t d =
      let h : x < length p = t.inside d in
      omega (arith, get_d_default p x 0 absent h, next-higher w h, w.few)

  pub write-end : {is : List ℕ} {x i : ℕ} → Writing p from was is x i → x ≡ absent → (is ≡ at_front (path p from) was) × (i ≡ length (path p from))
  write-end {x = x} t e =
      let whole : path p from ≡ t.ready = t.path ∙ ap (λ (ys : List ℕ). t.ready ++ ys) (path-out p x (omega (arith, walkable-few w))) ∙ append-nil t.ready in
      (t.table ∙ ap (λ (ys : List ℕ). at_front ys was) (sym whole), t.count ∙ ap length (sym whole))

-- the lowest by its rank
pub lowest-none : (r : ℕ) → r ≡ absent → lowest_at r ≡ None
unfolding lowest_at
lowest-none r e = rw (eq-eqb r absent e)

pub lowest-some : (r : ℕ) → r ≢ absent → lowest_at r ≡ Some r
unfolding lowest_at
lowest-some r d = rw (ne_eqb r absent d)
