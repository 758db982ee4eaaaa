-- The laws of what is staged: at the beginning nothing is, staging goes on number by number, and what a context is read from stays.
-- Assumes nothing.
use Rattle.std.specs.Prelude.{true, false, List, [], ◌∷◌, ◌++◌, ◌≡◌, refl, ℕ, ◌+◌, ◌*◌, ◌≤◌, ◌<◌, eqb, set, drop}
use Rattle.std.specs.Prelude.{Option}
use Rattle.std.proofs.Common.{sym, ap, ◌∙◌, arith, length-set, length-drop, get_or-set_same, eqb-true}
use Rattle.std.proofs.Math.ListN.{length, get_or}
use Rattle.std.proofs.Math.Seq.{get_or-set_other}
use Rattle.cells.specs.Part.{part, put}
use Rattle.cells.specs.PartLaws.{length_part, part_none, part-cons, part-drop, part_of-front, part_of_back, shorter-front, set-put, put-put, put-part}
use Rattle.maps.specs.OrderLaws.{split}
use Rattle.rules.specs.Causes.{Result}
use Rattle.rules.specs.Table.{Table}
use Rattle.rules_by_group.specs.Stage.{none_staged, stage_all}
use Rattle.rules_by_group.proofs.StageLaws.{stage-append}
use Rattle.stretch.specs.Layout.{stretch_width, bytes_width, entries_at, entry_numbers}
use Rattle.stretch.specs.Stretch.{is_used, head_part, entry_rows}
use Rattle.stretch.specs.Stretch as stretch
use Rattle.groups.specs.Area.{slots, numbers_in_use, bytes_in_use, stretch_at, bytes_at, cell_at, cells, groups_of, Found}
use Rattle.groups.specs.Area as groups
use Rattle.cells.specs.declared.Slot.{Slot}
use Rattle.groups.specs.AreaLaws.{Same, same-groups, same_wf, same-found, same-stretch, same_bytes}
use Rattle.groups.specs.Laws.{none-used, free-cell, cells-groups}
use Rattle.groups.specs.PlaceLaws.{part-short}
use Rattle.groups.specs.Undo.{live_numbers, live_bytes, mark_at, undone_cell, undone_cells, Saved, Undoable, Undone}
use Rattle.groups.specs.UndoLaws.{mark-is, undone-free, undone-are, undone-whole, saved-whole}
use Rattle.staging.specs.declared.Flags.{Flags}
use Rattle.staging.specs.Staging.{long_numbers, long_bytes, between, between_bytes, no_flags, staged_in, Ready, Beside, Working, Staging, Begun, sealed_mark, Sealed}

-- ---- spare stretch k is stretch k of what follows the stretches

pub spare-stretch : (k : ℕ) (xs : List ℕ) → stretch_at k (drop live_numbers xs) ≡ stretch_at (slots + k) xs
unfolding stretch_at
spare-stretch k xs =
    let e : live_numbers + k * stretch_width ≡ (slots + k) * stretch_width = omega arith in
    part-drop (k * stretch_width) stretch_width live_numbers xs ∙ rw e

pub spare-bytes : (k : ℕ) (bs : List ℕ) → bytes_at k (drop live_bytes bs) ≡ bytes_at (slots + k) bs
unfolding bytes_at
spare-bytes k bs =
    let e : live_bytes + k * bytes_width ≡ (slots + k) * bytes_width = omega arith in
    part-drop (k * bytes_width) bytes_width live_bytes bs ∙ rw e

pub spare-cell : (k : ℕ) (xs bs : List ℕ) → cell_at k (drop live_numbers xs) (drop live_bytes bs) ≡ cell_at (slots + k) xs bs
unfolding cell_at
spare-cell k xs bs = rw (spare-stretch k xs, spare-bytes k bs)

-- ---- all but the spare stretches and the long one

pub beside_none : (xs bs : List ℕ) → Beside xs bs xs bs
beside_none xs bs =
    record { live = refl; live-bytes = refl; middle = refl; middle-bytes = refl; numbers-length = refl; bytes-length = refl }

pub beside-then : {xs bs ys ds zs es : List ℕ} → Beside xs bs ys ds → Beside ys ds zs es → Beside xs bs zs es
beside-then a b =
    record {
      live = b.live ∙ a.live;
      live-bytes = b.live-bytes ∙ a.live-bytes;
      middle = b.middle ∙ a.middle;
      middle-bytes = b.middle-bytes ∙ a.middle-bytes;
      numbers-length = b.numbers-length ∙ a.numbers-length;
      bytes-length = b.bytes-length ∙ a.bytes-length;
    }

pub working-none : (xs bs : List ℕ) → Working xs bs xs bs
working-none xs bs = record { front = refl; front_bytes = refl; numbers-length = refl; bytes-length = refl }

pub working-then : {xs bs ys ds zs es : List ℕ} → Working xs bs ys ds → Working ys ds zs es → Working xs bs zs es
working-then a b =
    record {
      front = b.front ∙ a.front;
      front_bytes = b.front_bytes ∙ a.front_bytes;
      numbers-length = b.numbers-length ∙ a.numbers-length;
      bytes-length = b.bytes-length ∙ a.bytes-length;
    }

module _ {xs bs xs' bs' : List ℕ} (w : Working xs bs xs' bs') where
  pub working-beside : Beside xs bs xs' bs'
  unfolding between between_bytes
  working-beside =
      record {
        live = shorter-front live_numbers long_numbers xs' xs (omega arith) w.front;
        live-bytes = shorter-front live_bytes long_bytes bs' bs (omega arith) w.front_bytes;
        middle = part_of-front 9376 4133 long_numbers xs' xs w.front (omega arith);
        middle-bytes = part_of-front 16384 12288 long_bytes bs' bs w.front_bytes (omega arith);
        numbers-length = w.numbers-length;
        bytes-length = w.bytes-length;
      }

  -- every stretch and spare stretch is as it was
  pub working_same : (j : ℕ) → j < 16 → Same j xs' bs' xs bs
  working_same j l =
      record {
        numbers = same-stretch j long_numbers xs' xs (omega arith) w.front;
        bytes = same_bytes j long_bytes bs' bs (omega arith) w.front_bytes;
      }

  spares_same : (j : ℕ) → j < slots → Same j (drop live_numbers xs) (drop live_bytes bs) (drop live_numbers xs') (drop live_bytes bs')
  spares_same j l =
      let s = working_same (slots + j) (omega arith) in
      record {
        numbers = spare-stretch j xs ∙ sym s.numbers ∙ sym (spare-stretch j xs');
        bytes = spare-bytes j bs ∙ sym s.bytes ∙ sym (spare-bytes j bs');
      }

  -- a group is found where it was
  pub working-found : (g : ℕ) (slot : Slot) → Found g (drop live_numbers xs) slot → Found g (drop live_numbers xs') slot
  working-found g slot f = same-found g slot (drop live_numbers xs) (drop live_numbers xs') (λ j l. (spares_same j l).numbers) f

  -- what is staged is as it was
  pub working-staged : (f : Flags) → staged_in f xs' bs' ≡ staged_in f xs bs
  unfolding staged_in
  working-staged f = rw (same-groups spares_same)

  pub working-ready : Ready xs bs → Ready xs' bs'
  working-ready r =
      let a = r.staged.numbers_fit in
      let b = r.staged.bytes_fit in
      let m = w.numbers-length in
      let n = w.bytes-length in
      record {
        staged = same_wf spares_same r.staged (rw (length-drop live_numbers xs', m, ← length-drop live_numbers xs) a) (rw (length-drop live_bytes bs', n, ← length-drop live_bytes bs) b);
      }

-- ---- nothing is staged

module _ (xs bs xs' : List ℕ) (p : live_numbers + numbers_in_use ≤ length xs) (q : live_bytes + bytes_in_use ≤ length bs) (b : Begun slots xs xs') where
  no-group : (k : ℕ) → k < slots → is_used (stretch_at k (drop live_numbers xs')) ≡ false
  unfolding is_used
  no-group k l = rw (spare-stretch k xs', ← mark-is k xs', b.marks k l)

  none-there : groups.Wf (drop live_numbers xs') (drop live_bytes bs) × (groups_of (drop live_numbers xs') (drop live_bytes bs) ≡ [])
  none-there =
      let e = b.length-is in
      none-used (drop live_numbers xs') (drop live_bytes bs) (rw (length-drop live_numbers xs') (omega arith)) (rw (length-drop live_bytes bs) (omega arith)) no-group

  pub begun-staged : staged_in no_flags xs' bs ≡ none_staged
  unfolding staged_in none_staged
  begun-staged = rw none-there.1

  pub begun-ready : Ready xs' bs
  begun-ready = record { staged = none-there.0 }

  pub begun-beside : Beside xs bs xs' bs
  unfolding between between_bytes
  begun-beside =
      record {
        live = b.live;
        live-bytes = refl;
        middle = part_of_back 9376 4133 numbers_in_use xs' xs b.behind (omega arith);
        middle-bytes = refl;
        numbers-length = b.length-is;
        bytes-length = refl;
      }

-- ---- one number after the other

module _ (at : ℕ → Result (Option Table)) where
  pub staging-none : (f : Flags) (xs bs : List ℕ) → Ready xs bs → Staging at [] f xs bs f xs bs
  unfolding stage_all
  staging-none f xs bs r = record { staged = refl; ready = r; beside = beside_none xs bs }

  pub staging-then : (gs hs : List ℕ) (f g h : Flags) (xs bs ys ds zs es : List ℕ) → Staging at gs f xs bs g ys ds → Staging at hs g ys ds h zs es → Staging at (gs ++ hs) f xs bs h zs es
  staging-then gs hs f g h xs bs ys ds zs es a b =
      record {
        staged = b.staged ∙ ap (stage_all at hs) a.staged ∙ sym (stage-append at gs hs (staged_in f xs bs));
        ready = b.ready;
        beside = beside-then a.beside b.beside;
      }

-- ---- the work on a group comes before

pub working_staging : (at : ℕ → Result (Option Table)) (gs : List ℕ) (f r : Flags) (xs bs ys ds zs es : List ℕ) → Working xs bs ys ds → Staging at gs f ys ds r zs es → Staging at gs f xs bs r zs es
working_staging at gs f r xs bs ys ds zs es w s =
    record {
      staged = s.staged ∙ ap (stage_all at gs) (working-staged w f);
      ready = s.ready;
      beside = beside-then (working-beside w) s.beside;
    }

-- ---- the staged groups become the groups

-- a stretch whose first number was 1 and is another has its first number back
first_back : (p : List ℕ) (v : ℕ) → length p ≡ stretch_width → get_or p 0 0 ≡ 1 → put (set p 0 v) 0 (1 ∷ []) ≡ p
first_back p v l e =
    let one : part 0 1 p ≡ 1 ∷ [] = sym (part-cons 0 0 p 0 (omega arith)) ∙ rw (e, part_none 1 p) in
    rw (set-put p 0 v (omega arith), put-put p 0 (v ∷ []) (1 ∷ []) (omega arith) (omega arith), ← one) (put-part 0 1 p (omega arith))

module _ (xs bs xs' : List ℕ) (r : Ready xs bs) (s : Sealed slots xs xs') where
  long : numbers_in_use ≤ length xs
  long = omega (arith, r.staged.numbers_fit, length-drop live_numbers xs)

  spare-length : (k : ℕ) → k < slots → length (stretch_at (slots + k) xs) ≡ stretch_width
  unfolding stretch_at
  spare-length k l = length_part ((slots + k) * stretch_width) stretch_width xs (omega (arith, long))

  sealed-length : (k : ℕ) → k < slots → length (stretch_at (slots + k) xs') ≡ stretch_width
  sealed-length k l = rw (s.sealed k l) (length-set (stretch_at (slots + k) xs) 0 _ ∙ spare-length k l)

  sealed-mark : (k : ℕ) → k < slots → mark_at k xs' ≡ sealed_mark (mark_at k xs)
  sealed-mark k l =
      mark-is k xs'
      ∙ ap (λ (p : List ℕ). get_or p 0 0) (s.sealed k l)
      ∙ get_or-set_same (stretch_at (slots + k) xs) 0 (sealed_mark (mark_at k xs)) 0 (omega (arith, spare-length k l))

  module _ (k : ℕ) (l : k < slots) where
    -- a spare stretch without a group
    module _ (e : eqb (mark_at k xs) 1 ≡ false) where
      free-mark : mark_at k xs' ≡ 1
      unfolding sealed_mark
      free-mark = sealed-mark k l ∙ rw e

      unused : is_used (stretch_at (slots + k) xs) ≡ false
      unfolding is_used
      unused = rw (← mark-is k xs) e

      free-undone : undone_cell k xs' bs ≡ cell_at (slots + k) xs bs
      free-undone = undone-free k xs' bs free-mark ∙ sym (free-cell (slots + k) xs bs unused)

    -- one with a group
    module _ (e : eqb (mark_at k xs) 1 ≡ true) where
      whole-mark : mark_at k xs' ≡ 3
      unfolding sealed_mark
      whole-mark = sealed-mark k l ∙ rw e

      back : put (stretch_at (slots + k) xs') 0 (1 ∷ []) ≡ stretch_at (slots + k) xs
      back = rw (s.sealed k l) (first_back (stretch_at (slots + k) xs) _ (spare-length k l) (sym (mark-is k xs) ∙ eqb-true (mark_at k xs) 1 e))

      whole-undone : undone_cell k xs' bs ≡ cell_at (slots + k) xs bs
      unfolding cell_at
      whole-undone = undone-whole k xs' bs (sealed-length k l) whole-mark ∙ rw back

      used : is_used (stretch_at k (drop live_numbers xs)) ≡ true
      unfolding is_used
      used = rw (spare-stretch k xs, ← mark-is k xs) e

      held : stretch.Wf (stretch_at (slots + k) xs) (bytes_at (slots + k) bs)
      held = rw (spare-stretch k xs, spare-bytes k bs) at (r.staged.used k l used)

      few-rows : (head_part (stretch_at (slots + k) xs')).len ≤ 64
      unfolding head_part
      few-rows =
          let p = stretch_at (slots + k) xs in
          let n : length (entry_rows p) ≤ 512 = unfold entry_rows in part-short entries_at entry_numbers p in
          let m : get_or p 3 0 * 8 ≤ length (entry_rows p) = held.numbers.entries.room in
          rw (s.sealed k l, get_or-set_other p 0 3 (sealed_mark (mark_at k xs)) 0 (λ z. omega arith)) (omega (arith, n, m))

      whole-saved : Saved k xs' bs
      whole-saved = saved-whole k xs' bs (sealed-length k l) whole-mark few-rows (rw back held)

    -- what stretch k goes back to is what its spare one holds
    undone-spare : undone_cell k xs' bs ≡ cell_at k (drop live_numbers xs) (drop live_bytes bs)
    undone-spare = split (eqb (mark_at k xs) 1) whole-undone free-undone ∙ sym (spare-cell k xs bs)

    spare-saved : 2 ≤ mark_at k xs' → Saved k xs' bs
    spare-saved h = split (eqb (mark_at k xs) 1) whole-saved (λ e. absurd (omega (arith, h, free-mark e)))

  sealed-undone : undone_cells xs' bs ≡ cells (drop live_numbers xs) (drop live_bytes bs)
  sealed-undone = undone-are xs' bs (drop live_numbers xs) (drop live_bytes bs) undone-spare

  pub sealed-undoable : Undoable xs' bs
  sealed-undoable = record { saved = spare-saved; distinct = rw sealed-undone r.staged.distinct }

  pub sealed-beside : Beside xs bs xs' bs
  unfolding between between_bytes
  sealed-beside =
      record {
        live = s.live;
        live-bytes = refl;
        middle = part_of_back 9376 4133 numbers_in_use xs' xs s.behind (omega arith);
        middle-bytes = refl;
        numbers-length = s.length-is;
        bytes-length = refl;
      }

  -- the groups are those that were staged
  pub sealed-groups : (ys ds : List ℕ) → Undone xs' bs ys ds → groups_of ys ds ≡ groups_of (drop live_numbers xs) (drop live_bytes bs)
  sealed-groups ys ds u =
      cells-groups ys ds _ (u.cells_are ∙ sealed-undone) ∙ sym (cells-groups (drop live_numbers xs) (drop live_bytes bs) _ refl)
