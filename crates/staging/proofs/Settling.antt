-- The ways of one number: it is staged already, or its group is refused, or there is none, or its table fits and is put into a spare
-- stretch, or it passes a limit. Assumes nothing.
use mathlib.Core.Bool.{true, false, ◌&&◌, and-false}
use mathlib.Core.List.{List, [], ◌∷◌}
use Rattle.std.specs.Prelude.{Option, None, Some}
use mathlib.Core.Path.{◌≡◌, refl, sym, ◌∙◌}
use Prim.Native.Nat.{ℕ, ◌+◌, ◌*◌, ◌≤◌, ◌<◌}
use native.Mathlib.Omega.{arith}
use lib.Dec.{ltb}
use lib.ListN.{length, take, drop, get_or, set, length-drop}
use lib.Seq.{drop-drop}
use borrow.Author.Tests.{lt-ltb}
use Rattle.cells.specs.Part.{part, put}
use Rattle.cells.specs.PartLaws.{part-is, part_of-front, part_of_back}
use Rattle.maps.specs.BoolLaws.{both}
use Rattle.maps.specs.Maps.{lookup, insert, numbers}
use Rattle.maps.specs.MapLaws.{pair}
use Rattle.maps.specs.Cells.{map_of}
use Rattle.maps.proofs.CellLaws.{map-store-free, distinct-store-free, length-free}
use Rattle.rules.specs.Limits.{max_groups}
use Rattle.rules.specs.Causes.{Result, Ok, Err, Refusal}
use Rattle.rules.specs.Table.{Table}
use Rattle.rules.specs.Context.{table_fits}
use Rattle.rules_by_group.specs.Stage.{stage_one, stage_all}
use Rattle.rules_by_group.proofs.StageLaws.{stage-again, stage-new, stage-none, stage-refused, stage-fits, stage-passes}
use Rattle.stretch.specs.Layout.{stretch_width, bytes_width}
use Rattle.stretch.specs.Stretch.{table_in}
use Rattle.stretch.specs.Stretch as stretch
use Rattle.groups.specs.Area.{slots, numbers_in_use, bytes_in_use, stretch_at, bytes_at, cell_at, cells, groups_of, Only, AtSlot, FreeSlot, NoSlot}
use Rattle.groups.specs.AreaLaws.{length-cells, get_or-cells, only-length, only-length-bytes, only-cells, only_wf, only-front, only-front-bytes, only-drop, only-drop-bytes}
use Rattle.groups.specs.Laws.{lookup-found, lookup-none, groups-full, free-cell, Absent}
use Rattle.groups.specs.PlaceLaws.{laid_if}
use Rattle.groups.specs.Undo.{live_numbers, live_bytes}
use Rattle.staging.specs.declared.Flags.{Flags}
use Rattle.staging.specs.Staging.{between, between_bytes, staged_in, Ready, Beside, Staging}
use Rattle.staging.specs.StagingLaws.{spare-stretch, spare-bytes, spare-cell, beside_none}

-- ---- a spare stretch as a stretch of what follows the stretches

-- place k of what follows the first a numbers alone is changed
dropped-laid : (a w k : ℕ) (l m : List ℕ) → a + (k * w + w) ≤ length m → take (a + k * w) m ≡ take (a + k * w) l → drop (a + (k * w + w)) m ≡ drop (a + (k * w + w)) l → drop a m ≡ put (drop a l) (k * w) (part (k * w) w (drop a m))
dropped-laid a w k l m h p q =
    laid_if w k (drop a l) (drop a m)
    (rw (length-drop a m) (omega arith))
    (part-is a (k * w) m ∙ part_of-front a (k * w) (a + k * w) m l p (omega arith) ∙ sym (part-is a (k * w) l))
    (drop-drop (k * w + w) a m ∙ q ∙ sym (drop-drop (k * w + w) a l))

module _ (k : ℕ) (xs bs xs' bs' : List ℕ) (l : k < slots) (p : numbers_in_use ≤ length xs) (q : bytes_in_use ≤ length bs) (o : Only (slots + k) xs bs xs' bs') where
  spare-only : Only k (drop live_numbers xs) (drop live_bytes bs) (drop live_numbers xs') (drop live_bytes bs')
  unfolding stretch_at bytes_at
  spare-only =
      let b : slots + k < 16 = omega arith in
      let m = only-length b p q o in
      let n = only-length-bytes b p q o in
      record {
        numbers = dropped-laid live_numbers stretch_width k xs xs' (omega arith) (only-front b p q o (live_numbers + k * stretch_width) (omega arith)) (only-drop b p q o (live_numbers + (k * stretch_width + stretch_width)) (omega arith));
        bytes = dropped-laid live_bytes bytes_width k bs bs' (omega arith) (only-front-bytes b p q o (live_bytes + k * bytes_width) (omega arith)) (only-drop-bytes b p q o (live_bytes + (k * bytes_width + bytes_width)) (omega arith));
      }

  spare-beside : Beside xs bs xs' bs'
  unfolding between between_bytes
  spare-beside =
      let b : slots + k < 16 = omega arith in
      record {
        live = only-front b p q o live_numbers (omega arith);
        live-bytes = only-front-bytes b p q o live_bytes (omega arith);
        middle = part_of_back 9376 4133 numbers_in_use xs' xs (only-drop b p q o numbers_in_use (omega arith)) (omega arith);
        middle-bytes = part_of_back 16384 12288 bytes_in_use bs' bs (only-drop-bytes b p q o bytes_in_use (omega arith)) (omega arith);
        numbers-length = only-length b p q o;
        bytes-length = only-length-bytes b p q o;
      }

-- ---- the ways

module _ (at : ℕ → Result (Option Table)) (g : ℕ) (f : Flags) (xs bs : List ℕ) (r : Ready xs bs) where
  -- nothing is written
  settled : (h : Flags) → staged_in h xs bs ≡ stage_one at g (staged_in f xs bs) → Staging at (g ∷ []) f xs bs h xs bs
  unfolding stage_all
  settled h e = record { staged = e; ready = r; beside = beside_none xs bs }

  pub staged_already : (k : ℕ) → AtSlot g (drop live_numbers xs) k → Staging at (g ∷ []) f xs bs f xs bs
  unfolding staged_in
  staged_already k a =
      settled f (sym (stage-again at g (staged_in f xs bs) (table_in (stretch_at k (drop live_numbers xs)) (bytes_at k (drop live_bytes bs))) (lookup-found g k (drop live_numbers xs) (drop live_bytes bs) r.staged a)))

  module _ (absent : Absent g (drop live_numbers xs)) where
    not-staged : lookup numbers g (staged_in f xs bs).groups ≡ None
    unfolding staged_in
    not-staged = lookup-none g (drop live_numbers xs) (drop live_bytes bs) absent

    pub settled-none : at g ≡ Ok None → Staging at (g ∷ []) f xs bs f xs bs
    settled-none e = settled f (sym (stage-new at g (staged_in f xs bs) (Ok None) not-staged e ∙ stage-none g (staged_in f xs bs)))

    pub settled-clashed : (x : Refusal) → at g ≡ Err x → Staging at (g ∷ []) f xs bs (record { clashed = true; passed = f.passed }) xs bs
    settled-clashed x e =
        settled (record { clashed = true; passed = f.passed })
        (sym (stage-new at g (staged_in f xs bs) (Err x) not-staged e ∙ stage-refused g (staged_in f xs bs) x ∙ (unfold staged_in in refl)))

    module _ (t : Table) (e : at g ≡ Ok (Some t)) where
      passes : (table_fits t && ltb (length (staged_in f xs bs).groups) max_groups) ≡ false → Staging at (g ∷ []) f xs bs (record { clashed = f.clashed; passed = true }) xs bs
      passes n =
          settled (record { clashed = f.clashed; passed = true })
          (sym (stage-new at g (staged_in f xs bs) (Ok (Some t)) not-staged e ∙ stage-passes g (staged_in f xs bs) t n ∙ (unfold staged_in in refl)))

      -- a table that does not fit
      pub settled-large : table_fits t ≡ false → Staging at (g ∷ []) f xs bs (record { clashed = f.clashed; passed = true }) xs bs
      settled-large n = passes (rw n)

      -- a ninth group
      pub settled-full : NoSlot g (drop live_numbers xs) → Staging at (g ∷ []) f xs bs (record { clashed = f.clashed; passed = true }) xs bs
      settled-full n = passes (unfold staged_in in rw (groups-full g (drop live_numbers xs) (drop live_bytes bs) r.staged n) (and-false (table_fits t)))

      -- a table that fits is put into a free spare stretch
      module _ (k : ℕ) (xs' bs' : List ℕ) (free : FreeSlot g (drop live_numbers xs) k) (fits : table_fits t ≡ true)
          (cell : cell_at (slots + k) xs' bs' ≡ Some (pair g t)) (wf : stretch.Wf (stretch_at (slots + k) xs') (bytes_at (slots + k) bs')) (o : Only (slots + k) xs bs xs' bs') where
        inside : k < slots
        inside = free.inside

        long : numbers_in_use ≤ length xs
        long = omega (arith, r.staged.numbers_fit, length-drop live_numbers xs)

        long-bytes : bytes_in_use ≤ length bs
        long-bytes = omega (arith, r.staged.bytes_fit, length-drop live_bytes bs)

        only : Only k (drop live_numbers xs) (drop live_bytes bs) (drop live_numbers xs') (drop live_bytes bs')
        only = spare-only k xs bs xs' bs' inside long long-bytes o

        cells_are : cells (drop live_numbers xs') (drop live_bytes bs') ≡ set (cells (drop live_numbers xs) (drop live_bytes bs)) k (Some (pair g t))
        cells_are =
            only-cells (omega (arith, inside)) r.staged.numbers_fit r.staged.bytes_fit only inside
            ∙ rw (spare-cell k xs' bs' ∙ cell)

        place : k < length (cells (drop live_numbers xs) (drop live_bytes bs))
        place = rw (length-cells (drop live_numbers xs) (drop live_bytes bs)) inside

        was_free : get_or (cells (drop live_numbers xs) (drop live_bytes bs)) k None ≡ None
        was_free = get_or-cells k (drop live_numbers xs) (drop live_bytes bs) inside ∙ free-cell k (drop live_numbers xs) (drop live_bytes bs) free.free

        absent-map : lookup numbers g (map_of (cells (drop live_numbers xs) (drop live_bytes bs))) ≡ None
        absent-map = unfold groups_of in lookup-none g (drop live_numbers xs) (drop live_bytes bs) absent

        groups-are : groups_of (drop live_numbers xs') (drop live_bytes bs') ≡ insert numbers g t (groups_of (drop live_numbers xs) (drop live_bytes bs))
        unfolding groups_of
        groups-are = rw cells_are (map-store-free (cells (drop live_numbers xs) (drop live_bytes bs)) k g t place was_free absent-map)

        few : ltb (length (staged_in f xs bs).groups) max_groups ≡ true
        unfolding staged_in groups_of
        few = lt-ltb (length (map_of (cells (drop live_numbers xs) (drop live_bytes bs)))) max_groups (omega (arith, length-free (cells (drop live_numbers xs) (drop live_bytes bs)) k place was_free, length-cells (drop live_numbers xs) (drop live_bytes bs)))

        ready-still : Ready xs' bs'
        ready-still =
            record {
              staged =
                  only_wf (omega (arith, inside)) r.staged.numbers_fit r.staged.bytes_fit only inside r.staged
                  (λ u. rw (spare-stretch k xs', spare-bytes k bs') wf)
                  (rw cells_are (distinct-store-free (cells (drop live_numbers xs) (drop live_bytes bs)) k g t r.staged.distinct place was_free absent-map));
            }

        staged-more : staged_in f xs' bs' ≡ record { groups = insert numbers g t (staged_in f xs bs).groups; clashed = (staged_in f xs bs).clashed; passed = (staged_in f xs bs).passed }
        unfolding staged_in
        staged-more = rw groups-are

        pub settled-put : Staging at (g ∷ []) f xs bs f xs' bs'
        unfolding stage_all
        settled-put =
            record {
              staged = staged-more ∙ sym (stage-new at g (staged_in f xs bs) (Ok (Some t)) not-staged e ∙ stage-fits g (staged_in f xs bs) t (both fits few));
              ready = ready-still;
              beside = spare-beside k xs bs xs' bs' inside long long-bytes o;
            }
