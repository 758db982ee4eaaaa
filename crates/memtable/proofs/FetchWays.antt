-- Each way through the fetches gives what its contract says. Assumes nothing.
use Rattle.std.specs.Prelude.{Option, None, Some}
use mathlib.Core.Bool.{Bool, true, false, ◌&&◌}
use mathlib.Core.List.{List, ◌++◌, append-nil}
use mathlib.Core.Path.{◌≡◌, sym, ap}
use Prim.Native.Nat.{ℕ, ◌+◌, ◌-◌, ◌*◌, ◌≤◌, ◌<◌}
use native.Mathlib.Nat.{add-zero}
use native.Mathlib.Omega.{arith}
use lib.Dec.{ltb, leb}
use lib.ListN.{drop}
use borrow.Author.Tests.{lt-ltb, le-ltb, le-leb, lt-leb}
use Rattle.maps.specs.Lists.{first, map_option, or_else}
use Rattle.pipe_log.specs.Rows.{with_index, window}
use Rattle.rules.specs.Causes.{EntryCompacted, EntryNotFound, Err, Ok}
use Rattle.rules.specs.Items.{EntryIndex}
use Rattle.rules.specs.Table.{first_index_of}
use Rattle.rules.specs.TableQueries.{within, sized, fetch_entries_to, fetch_entry_indexes_before, fetch_rewritten_entry_indexes}
use Rattle.maps.specs.BoolLaws.{and-false}
use Rattle.memtable.specs.declared.Head.{Head}
use Rattle.memtable.specs.Views.{table_of, row_at, Wf}
use Rattle.memtable.specs.Fetches.{entries_at, RangeAnswer}
use Rattle.memtable.specs.Scans.{count_before, size_count}
use Rattle.memtable.specs.ListLaws.{select-append, select_all, select-none}
use Rattle.memtable.specs.RowLaws.{held-row, any-drop}
use Rattle.memtable.specs.RunLaws.{run-append, select-rewrite}
use Rattle.memtable.specs.ScanLaws.{front-before, size-window}
use Rattle.memtable.specs.WindowLaws.{window_all, window-cut, first_index-window, is_above_last-window}

-- ---- the records in [begin, end)

in_range : ℕ → ℕ → EntryIndex → Bool
in_range begin end e = leb begin e.index && ltb e.index end

module _ (f n begin end : ℕ) (xs : List ℕ) (a : f ≤ begin) (b : begin ≤ end) (c : end ≤ f + n) where
  in-range : within begin end (window f n xs) ≡ window (f + (begin - f)) (end - begin) (drop ((begin - f) * 8) xs)
  unfolding within in_range row_at with_index
  in-range =
      let k = begin - f in
      let m = end - begin in
      let ys = drop ((begin - f) * 8) xs in
      let u = window_all (in_range begin end) false f (begin - f) xs (λ i l. rw (lt-leb begin (f + i) (omega arith))) in
      let v =
      window_all (in_range begin end) true (f + (begin - f)) (end - begin) (drop ((begin - f) * 8) xs)
      (λ i l. rw (le-leb begin (f + (begin - f) + i) (omega arith), lt-ltb (f + (begin - f) + i) end (omega arith))) in
      let w =
      window_all (in_range begin end) false (f + (begin - f) + (end - begin)) (n - (begin - f) - (end - begin)) (drop ((end - begin) * 8) (drop ((begin - f) * 8) xs))
      (λ i l. rw (le-ltb (f + (begin - f) + (end - begin) + i) end (omega arith)) (and-false (leb begin (f + (begin - f) + (end - begin) + i)))) in
      rw (
        window-cut f n (begin - f) xs (omega arith),
        window-cut (f + (begin - f)) (n - (begin - f)) (end - begin) (drop ((begin - f) * 8) xs) (omega arith),
        select-append (in_range begin end) (window f (begin - f) xs) (window (f + (begin - f)) (end - begin) (drop ((begin - f) * 8) xs) ++ window (f + (begin - f) + (end - begin)) (n - (begin - f) - (end - begin)) (drop ((end - begin) * 8) (drop ((begin - f) * 8) xs))),
        select-append (in_range begin end) (window (f + (begin - f)) (end - begin) (drop ((begin - f) * 8) xs)) (window (f + (begin - f) + (end - begin)) (n - (begin - f) - (end - begin)) (drop ((end - begin) * 8) (drop ((begin - f) * 8) xs))),
        select-none (in_range begin end) u,
        select_all (in_range begin end) v,
        select-none (in_range begin end) w,
      )
      (append-nil (window (f + (begin - f)) (end - begin) (drop ((begin - f) * 8) xs)))

-- ---- `range_to`

module _ (h : Head) (xs : List ℕ) (begin end : ℕ) (s : Option ℕ) where
  pub range_empty : end ≤ begin → RangeAnswer h xs (fetch_entries_to begin end s) (Ok (record { from = 0; count = 0 }))
  unfolding fetch_entries_to entries_at window
  range_empty l = record { rule = λ keys counted. rw (le-leb end begin l); within = omega arith }

  module _ (l : begin < end) where
    pub range_none : h.len ≡ 0 → RangeAnswer h xs (fetch_entries_to begin end s) (Err EntryNotFound)
    unfolding fetch_entries_to table_of window first_index_of map_option first or_else
    range_none e = record { rule = λ keys counted. rw (lt-leb end begin l, e); within = omega arith }

    module _ (n : h.len ≡ 0 → ⊥) where
      pub range-compacted : begin < h.first_index → RangeAnswer h xs (fetch_entries_to begin end s) (Err EntryCompacted)
      unfolding fetch_entries_to table_of or_else
      range-compacted c =
          record {
            rule = λ keys counted.
                rw (lt-leb end begin l, first_index-window h.first_index h.len xs (omega arith), lt-ltb begin h.first_index c);
            within = omega arith;
          }

      module _ (c : h.first_index ≤ begin) where
        pub range_above : h.first_index + h.len < end → RangeAnswer h xs (fetch_entries_to begin end s) (Err EntryNotFound)
        unfolding fetch_entries_to table_of or_else
        range_above d =
            record {
              rule = λ keys counted.
                  rw (
                    lt-leb end begin l,
                    first_index-window h.first_index h.len xs (omega arith),
                    le-ltb begin h.first_index c,
                    is_above_last-window end h.first_index h.len xs (omega arith),
                    lt-ltb (h.first_index + h.len) end d,
                  );
              within = omega arith;
            }

        range-rows : (m : ℕ) → end ≤ h.first_index + h.len → m ≤ end - begin → entries_at (begin - h.first_index) m h xs ≡ sized s (entries_at (begin - h.first_index) (end - begin) h xs)
            → RangeAnswer h xs (fetch_entries_to begin end s) (Ok (record { from = (begin - h.first_index); count = m }))
        unfolding fetch_entries_to table_of or_else entries_at
        range-rows m d b e =
            record {
              rule = λ keys counted.
                  rw (
                    lt-leb end begin l,
                    first_index-window h.first_index h.len xs (omega arith),
                    le-ltb begin h.first_index c,
                    is_above_last-window end h.first_index h.len xs (omega arith),
                    le-ltb (h.first_index + h.len) end d,
                    in-range h.first_index h.len begin end xs c (omega arith) d,
                  )
                  (ap Ok e);
              within = omega arith;
            }

        pub range_all : end ≤ h.first_index + h.len → s ≡ None → RangeAnswer h xs (fetch_entries_to begin end s) (Ok (record { from = (begin - h.first_index); count = (end - begin) }))
        unfolding sized
        range_all d e = range-rows (end - begin) d (omega arith) (rw e)

        pub range-sized : (k m : ℕ) → end ≤ h.first_index + h.len → s ≡ Some k → m ≡ size_count k 0 (end - begin) (drop ((begin - h.first_index) * 8) xs) → m ≤ end - begin
            → RangeAnswer h xs (fetch_entries_to begin end s) (Ok (record { from = (begin - h.first_index); count = m }))
        unfolding sized entries_at
        range-sized k m d e g b =
            range-rows m d b
            (rw (e, g) (sym (size-window k 0 (h.first_index + (begin - h.first_index)) (end - begin) (drop ((begin - h.first_index) * 8) xs))))

-- ---- `range_before`, `range_rewritten`

module _ (h : Head) (xs : List ℕ) (w : Wf h xs) where
  pub range-before : (gate c : ℕ) → c ≡ count_before gate (h.len - h.rewrite_count) (drop (h.rewrite_count * 8) xs) → c ≤ h.len - h.rewrite_count
      → RangeAnswer h xs (λ t. Ok (fetch_entry_indexes_before gate t)) (Ok (record { from = h.rewrite_count; count = c }))
  unfolding fetch_entry_indexes_before table_of entries_at
  range-before gate c e l =
      record {
        rule = λ keys counted.
            rw (
              run-append h xs w,
              front-before gate (h.first_index + h.rewrite_count) (h.len - h.rewrite_count) (drop (h.rewrite_count * 8) xs)
                  (λ i l. any-drop xs h.rewrite_count i (held-row h xs w (h.rewrite_count + i) (omega arith))),
              e,
            );
        within = omega arith;
      }

  pub range-rewritten : RangeAnswer h xs (λ t. Ok (fetch_rewritten_entry_indexes t)) (Ok (record { from = 0; count = h.rewrite_count }))
  unfolding fetch_rewritten_entry_indexes table_of entries_at
  range-rewritten =
      record { rule = λ keys counted. rw (select-rewrite h xs w, add-zero h.first_index); within = omega arith }
