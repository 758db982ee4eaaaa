-- Each way through `secure`: what is held stays, and what is written to a spare stretch leaves what the stretches are and go back to.
-- Assumes nothing.
use mathlib.Core.Bool.{Bool, true, false}
use mathlib.Core.List.{List}
use mathlib.Core.Path.{◌≡◌, refl, sym, ◌∙◌}
use Prim.Native.Nat.{ℕ, ◌+◌, ◌*◌, ◌≤◌, ◌<◌}
use native.Mathlib.Omega.{arith}
use lib.Dec.{eqb}
use lib.ListN.{set}
use borrow.Author.Tests.{eqb-true, eqb-false}
use Rattle.maps.specs.BoolLaws.{clash}
use Rattle.maps.specs.OrderLaws.{split}
use Rattle.stretch.specs.Layout.{stretch_width}
use Rattle.stretch.specs.Stretch.{is_used, head_part}
use Rattle.stretch.specs.declared.Change.{Change}
use Rattle.stretch.specs.Reach.{row_from, writes_keys}
use Rattle.cells.specs.declared.Slot.TheVariants.{At, Free, Full}
use Rattle.groups.specs.Area.{slots, numbers_in_use, bytes_in_use, stretch_at, Wf}
use Rattle.groups.specs.AreaLaws.{Same, same_back, same-cells, same_wf, first-set, only_set, only-again, only-length, only-length-bytes, only-other, only-front, only-front-bytes, only-drop, only-drop-bytes}
use Rattle.groups.specs.Laws.{free-cell}
use Rattle.groups.specs.Undo.{live_numbers, live_bytes, mark_at, Undoable, ReadyFor, ReadyToGo, Securing, Restorable, Kept, Marking, Lowering, KeySaving, Covering}
use Rattle.groups.specs.UndoLaws.{mark-is, Stays, same-stays, all_stay, undone-kept, undone-free}

-- ---- one write after another

pub restorable : (k : ℕ) (xs bs : List ℕ) → k < slots → Wf xs bs → Undoable xs bs → Restorable k xs bs
restorable k xs bs l w u =
    record { inside = l; numbers_fit = w.numbers_fit; bytes_fit = w.bytes_fit; used = w.used k l; saved = u.saved k l }

module _ (k : ℕ) (xs bs xs' bs' : List ℕ) (r : Restorable k xs bs) (t : Kept k xs bs xs' bs') where
  small : slots + k < 16
  small = omega (arith, r.inside)

  kept-live : Same k xs' bs' xs bs
  kept-live = only-other small r.numbers_fit r.bytes_fit t.only k (λ e. omega arith)

  pub kept_restorable : Restorable k xs' bs'
  kept_restorable =
      record {
        inside = r.inside;
        numbers_fit = omega (arith, only-length small r.numbers_fit r.bytes_fit t.only, r.numbers_fit);
        bytes_fit = omega (arith, only-length-bytes small r.numbers_fit r.bytes_fit t.only, r.bytes_fit);
        used = λ u. rw (kept-live.numbers, kept-live.bytes) (r.used (rw kept-live.numbers at u));
        saved = t.saved;
      }

  pub kept_again : (ys ds : List ℕ) → Kept k xs' bs' ys ds → Kept k xs bs ys ds
  kept_again ys ds v =
      record {
        only = only-again (slots + k) xs bs xs' bs' ys ds small r.numbers_fit r.bytes_fit t.only v.only;
        cell = v.cell ∙ t.cell;
        saved = v.saved;
      }

-- ---- the ways of `save_at` and `secure_free`

-- the mark is there
pub marked_already : (k : ℕ) (xs bs : List ℕ) → Kept k xs bs xs bs → (mark_at k xs ≡ 0 → ⊥) → Marking k xs bs xs bs
marked_already k xs bs t m = record { kept = t; marked = omega (arith, m) }

-- the header is saved and then the rows, as the contracts of `save_header` and `save_rows` say
module _ (k n : ℕ) (xs bs ys zs : List ℕ) (r : Restorable k xs bs) (u : is_used (stretch_at k xs) ≡ true)
    (header : (ds : List ℕ) → Restorable k xs ds → is_used (stretch_at k xs) ≡ true → Marking k xs ds ys ds)
    (rows : (ds : List ℕ) → Restorable k ys ds → Lowering k n ys ds zs ds) where
  a : Marking k xs bs ys bs
  a = header bs r u

  b : Lowering k n ys bs zs bs
  b = rows bs (kept_restorable k xs bs ys bs r a.kept)

  both-kept : Kept k xs bs zs bs
  both-kept = kept_again k xs bs ys bs r a.kept zs bs b.kept

  pub keys-ready : Restorable k zs bs × (1 ≤ mark_at k zs)
  keys-ready = (kept_restorable k xs bs zs bs r both-kept, b.marked a.marked)

  pub covering-rows : (written : Bool) → written ≡ false → Covering k n written xs bs zs bs
  covering-rows written e =
      record { kept = both-kept; covers = record { marked = b.marked a.marked; rows = b.rows; keys = λ f. absurd (clash (sym e ∙ f)) } }

  pub covering-keys : (written : Bool) (vs ds : List ℕ) → KeySaving k zs bs vs ds → Covering k n written xs bs vs ds
  covering-keys written vs ds c =
      record {
        kept = kept_again k xs bs zs bs r both-kept vs ds c.kept;
        covers = record { marked = omega (arith, c.keys); rows = omega (arith, c.rows, b.rows); keys = λ f. c.keys };
      }

-- a stretch that was freed in this batch
pub covering_all : (k : ℕ) (xs bs zs vs ds : List ℕ) → Restorable k xs bs → Lowering k 0 xs bs zs bs → KeySaving k zs bs vs ds → Covering k 0 true xs bs vs ds
covering_all k xs bs zs vs ds r b c =
    record {
      kept = kept_again k xs bs zs bs r b.kept vs ds c.kept;
      covers = record { marked = omega (arith, c.keys); rows = omega (arith, c.rows, b.rows); keys = λ f. c.keys };
    }

-- a free stretch is marked
pub free-marked : (k : ℕ) (xs bs : List ℕ) → Restorable k xs bs → is_used (stretch_at k xs) ≡ false → mark_at k xs ≡ 0 → Covering k 0 true xs bs (set xs ((slots + k) * stretch_width) 1) bs
free-marked k xs bs r y z =
    let l = r.inside in
    let p = r.numbers_fit in
    let ys = set xs ((slots + k) * stretch_width) 1 in
    let m : mark_at k ys ≡ 1 = mark-is k ys ∙ first-set (slots + k) 1 xs (omega arith) p in
    record {
      kept = record {
        only = only_set (slots + k) 1 xs bs (omega arith) p r.bytes_fit;
        cell = undone-free k ys bs m ∙ sym (undone-kept k xs bs z ∙ free-cell k xs bs y);
        saved = λ h. absurd (omega arith);
      };
      covers = record { marked = omega arith; rows = omega arith; keys = λ f. rw m };
    }

-- ---- all stretches

module _ (asked : List ℕ → Type 0) (xs bs : List ℕ) (w : Wf xs bs) (u : Undoable xs bs) where
  pub nothing_secured : asked xs → Securing asked xs bs xs bs
  nothing_secured s =
      record {
        live = refl;
        live-bytes = refl;
        behind = refl;
        behind-bytes = refl;
        cells_stay = refl;
        undone = refl;
        secured = s;
        undoable = u;
        wf = w;
      }

  module _ (k : ℕ) (xs' bs' : List ℕ) (l : k < slots) (t : Kept k xs bs xs' bs') where
    other : (j : ℕ) → (j ≡ slots + k → ⊥) → Same j xs bs xs' bs'
    other j d = same_back (only-other (omega arith) w.numbers_fit w.bytes_fit t.only j d)

    stays : (j : ℕ) → j < slots → Stays j xs bs xs' bs'
    stays j h =
        split (eqb j k)
        (λ e. rw (eqb-true j k e) (record { cell = t.cell; saved = t.saved }))
        (λ e. let d = eqb-false j k e in same-stays j h u (other j (λ q. omega arith)) (other (slots + j) (λ q. d (omega arith))))

    pub secured_by : asked xs' → Securing asked xs bs xs' bs'
    secured_by s =
        let b : slots + k < 16 = omega arith in
        let p = w.numbers_fit in
        let q = w.bytes_fit in
        let o = t.only in
        let same : (j : ℕ) → j < slots → Same j xs bs xs' bs' = λ j h. other j (λ e. omega arith) in
        let undo = all_stay stays u in
        record {
          live = only-front b p q o live_numbers (omega arith);
          live-bytes = only-front-bytes b p q o live_bytes (omega arith);
          behind = only-drop b p q o numbers_in_use (omega arith);
          behind-bytes = only-drop-bytes b p q o bytes_in_use (omega arith);
          cells_stay = sym (same-cells same);
          undone = undo.0;
          secured = s;
          undoable = undo.1;
          wf = same_wf same w (omega (arith, only-length b p q o, p)) (omega (arith, only-length-bytes b p q o, q));
        }

module _ (k : ℕ) (xs bs xs' bs' : List ℕ) (l : k < slots) (w : Wf xs bs) (u : Undoable xs bs) where
  -- the header is that of the live stretch still
  pub secured-change : (c : Change) → Covering k (row_from c (head_part (stretch_at k xs))) (writes_keys c) xs bs xs' bs' → Securing (ReadyFor c (At k)) xs bs xs' bs'
  unfolding ReadyFor
  secured-change c t =
      secured_by (ReadyFor c (At k)) xs bs w u k xs' bs' l t.kept (rw (kept-live k xs bs xs' bs' (restorable k xs bs l w u) t.kept).numbers t.covers)

  pub secured-made : (c : Change) → Covering k 0 true xs bs xs' bs' → Securing (ReadyFor c (Free k)) xs bs xs' bs'
  unfolding ReadyFor
  secured-made c t = secured_by (ReadyFor c (Free k)) xs bs w u k xs' bs' l t.kept t.covers

  pub secured_removal : Marking k xs bs xs' bs' → Securing (ReadyToGo (At k)) xs bs xs' bs'
  unfolding ReadyToGo
  secured_removal t = secured_by (ReadyToGo (At k)) xs bs w u k xs' bs' l t.kept t.marked

-- the rows and the keys that a change may write
pub covering_by : (k m n : ℕ) (v w : Bool) (xs bs xs' bs' : List ℕ) → m ≡ n → v ≡ w → Covering k m v xs bs xs' bs' → Covering k n w xs bs xs' bs'
covering_by k m n v w xs bs xs' bs' d e t = rw (d, e) at t

pub full_ready : (c : Change) (xs : List ℕ) → ReadyFor c Full xs
unfolding ReadyFor
full_ready c xs = tt

pub free_ready : (k : ℕ) (xs : List ℕ) → ReadyToGo (Free k) xs
unfolding ReadyToGo
free_ready k xs = tt

pub none_ready : (xs : List ℕ) → ReadyToGo Full xs
unfolding ReadyToGo
none_ready xs = tt
