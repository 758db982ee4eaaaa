-- Each way through the queries of one entry, index or number gives what its contract says. Assumes nothing.
use Rattle.rules.specs.Causes.{BadRange, Ok, Err}
use mathlib.Core.Bool.{false}
use mathlib.Core.List.{List}
use Rattle.std.specs.Prelude.{None, Some}
use mathlib.Core.Path.{◌≡◌, sym, ap, ◌∙◌}
use Prim.Native.Nat.{ℕ, ◌+◌, ◌-◌, ◌*◌, ◌≤◌, ◌<◌, ◌^◌}
use native.Mathlib.Nat.{add-zero}
use native.Mathlib.Omega.{arith}
use lib.Dec.{leb}
use lib.ListN.{get_or, drop}
use lib.Seq.{get_or-drop}
use borrow.Author.Tests.{lt-ltb, eq-eqb, ne_eqb}
use Rattle.maps.specs.Lists.{first, last, map_option, or_else}
use Rattle.pipe_log.specs.Rows.{queue_at, compression_at, is_record, block_at, entry_of, with_index, window}
use Rattle.pipe_log.specs.declared.CompressionType.{CompressionType}
use Rattle.rules.specs.Items.{LogQueue, Append, Rewrite, EntryIndex, file_of}
use Rattle.rules.specs.Table.{first_index_of, last_index}
use Rattle.rules.specs.TableQueries.{get_entry, has_at_least_some_entries_before, run_of, rewrite_count}
use Rattle.memtable.specs.declared.Head.{Head}
use Rattle.memtable.specs.Views.{table_of, row_at, AnyRow, Wf}
use Rattle.memtable.specs.Queries.{EntryAnswer, SomeBeforeAnswer, FirstAnswer, LastAnswer, RewriteCountAnswer, front_seq, entry_count}
use Rattle.memtable.specs.RowLaws.{row-seq, held-row}
use Rattle.memtable.specs.RunLaws.{run-rewrite, run-append, count-rewrite, count-append}
use Rattle.memtable.specs.WindowLaws.{length-window, entry_at, entry_absent, first-window, first_index-window, last_index-window, slice_get-window, slice_get-window-none, row_at-drop}

-- ---- the record of a row

pub entry-is : (xs : List ℕ) (i index : ℕ) (q : LogQueue) (k : CompressionType) → AnyRow xs i → q ≡ queue_at (get_or xs (i * 8 + 1) 0) → k ≡ compression_at (get_or xs (i * 8 + 5) 0)
    → ◌≡◌ {A = EntryIndex}
    (record {
      index = index;
      entries = Some (record { id = record { queue = q; seq = get_or xs (i * 8 + 2) 0 }; offset = get_or xs (i * 8 + 3) 0; len = get_or xs (i * 8 + 4) 0 });
      compression_type = k;
      entry_offset = get_or xs (i * 8 + 6) 0;
      entry_len = get_or xs (i * 8 + 7) 0;
    })
    (with_index index (entry_of (drop (i * 8) xs)))
unfolding with_index entry_of block_at is_record
entry-is xs i index q k r e d =
    rw (
      get_or-drop (i * 8) xs 1 0,
      get_or-drop (i * 8) xs 2 0,
      get_or-drop (i * 8) xs 3 0,
      get_or-drop (i * 8) xs 4 0,
      get_or-drop (i * 8) xs 5 0,
      get_or-drop (i * 8) xs 6 0,
      get_or-drop (i * 8) xs 7 0,
      lt-ltb (get_or xs (i * 8 + 1) 0) 2 r.queue,
      lt-ltb (get_or xs (i * 8 + 5) 0) 2 r.compression,
      lt-ltb (get_or xs (i * 8 + 6) 0) (2 ^ 32) r.offset,
      e,
      d,
    )

module _ (h : Head) (xs : List ℕ) (w : Wf h xs) where
  held-seq : (i : ℕ) → i < h.len → (file_of (row_at h.first_index xs i)).seq ≡ get_or xs (i * 8 + 2) 0
  held-seq i l = row-seq h.first_index xs i (held-row h xs w i l)

  -- ---- `get_entry`

  pub get_below : (i : ℕ) → i < h.first_index → EntryAnswer h xs i None
  unfolding get_entry table_of
  get_below i l keys counted = sym (entry_absent h.first_index h.len xs i (λ k m z. omega arith))

  pub get_above : (i : ℕ) → h.first_index ≤ i → h.len ≤ i - h.first_index → EntryAnswer h xs i None
  unfolding get_entry table_of
  get_above i a l keys counted = sym (entry_absent h.first_index h.len xs i (λ k m z. omega arith))

  pub get_at : (i : ℕ) (e : EntryIndex) → h.first_index ≤ i → i - h.first_index < h.len → e ≡ with_index i (entry_of (drop ((i - h.first_index) * 8) xs))
      → EntryAnswer h xs i (Some e)
  unfolding get_entry table_of row_at
  get_at i e a l d keys counted =
      let z : h.first_index + (i - h.first_index) ≡ i = omega arith in
      sym (entry_at h.first_index h.len xs (i - h.first_index) i l (omega arith) ∙ rw (z, d))

  -- ---- `has_at_least_some_entries_before`

  pub some_bad : (gate count : ℕ) → count ≡ 0 → SomeBeforeAnswer h xs gate count (Err BadRange)
  unfolding has_at_least_some_entries_before
  some_bad gate count e keys counted = rw (eq-eqb count 0 e)

  pub some-short : (gate count : ℕ) → (count ≡ 0 → ⊥) → h.len < count → SomeBeforeAnswer h xs gate count (Ok false)
  unfolding has_at_least_some_entries_before table_of or_else
  some-short gate count n l keys counted = rw (ne_eqb count 0 n, slice_get-window-none h.first_index h.len xs (count - 1) (omega arith))

  pub some_is : (gate count : ℕ) → (count ≡ 0 → ⊥) → count ≤ h.len → SomeBeforeAnswer h xs gate count (Ok (leb (get_or xs ((count - 1) * 8 + 2) 0) gate))
  unfolding has_at_least_some_entries_before table_of or_else
  some_is gate count n l keys counted =
      rw (ne_eqb count 0 n, slice_get-window h.first_index h.len xs (count - 1) (omega arith), held-seq (count - 1) (omega arith))

  -- ---- the front entry of a run

  -- the first record of a run gives its sequence number
  front_of : (q : LogQueue) (e : EntryIndex) → first (run_of q (window h.first_index h.len xs)) ≡ Some e
      → front_seq q (window h.first_index h.len xs) ≡ Some (file_of e).seq
  unfolding front_seq map_option
  front_of q e p = ap (map_option (λ (e : EntryIndex). (file_of e).seq)) p

  pub front-append-none : h.len ≤ h.rewrite_count → None ≡ front_seq Append (window h.first_index h.len xs)
  unfolding front_seq map_option first window
  front-append-none l =
      let e : h.len - h.rewrite_count ≡ 0 = omega arith in
      rw (run-append h xs w, e)

  pub front-append : h.rewrite_count < h.len → Some (get_or xs (h.rewrite_count * 8 + 2) 0) ≡ front_seq Append (window h.first_index h.len xs)
  front-append l =
      let front : first (run_of Append (window h.first_index h.len xs)) ≡ Some (row_at h.first_index xs h.rewrite_count) =
      rw (
        run-append h xs w,
        first-window (h.first_index + h.rewrite_count) (h.len - h.rewrite_count) (drop (h.rewrite_count * 8) xs) (omega arith),
        row_at-drop h.first_index h.rewrite_count xs 0,
        add-zero h.rewrite_count,
      ) in
      sym (rw (held-seq h.rewrite_count l) at (front_of Append (row_at h.first_index xs h.rewrite_count) front))

  pub front-rewrite-none : h.rewrite_count ≡ 0 → None ≡ front_seq Rewrite (window h.first_index h.len xs)
  unfolding front_seq map_option first window
  front-rewrite-none e = rw (run-rewrite h xs w, e)

  pub front-rewrite : (h.rewrite_count ≡ 0 → ⊥) → Some (get_or xs 2 0) ≡ front_seq Rewrite (window h.first_index h.len xs)
  front-rewrite n =
      let front : first (run_of Rewrite (window h.first_index h.len xs)) ≡ Some (row_at h.first_index xs 0) =
      rw (run-rewrite h xs w, first-window h.first_index h.rewrite_count xs (omega arith)) in
      sym (rw (held-seq 0 (omega (arith, w.front))) at (front_of Rewrite (row_at h.first_index xs 0) front))

-- ---- `first_index`, `last_index`, and numbers of entries

module _ (h : Head) where
  pub first_absent : h.len ≡ 0 → FirstAnswer h None
  unfolding window first_index_of map_option first
  first_absent e xs = rw e

  pub first_at : (h.len ≡ 0 → ⊥) → FirstAnswer h (Some h.first_index)
  first_at n xs = sym (first_index-window h.first_index h.len xs (omega arith))

  pub last-absent : h.len ≡ 0 → LastAnswer h None
  unfolding window last_index map_option last
  last-absent e xs = rw e

  pub last_at : (h.len ≡ 0 → ⊥) → LastAnswer h (Some (h.first_index + (h.len - 1)))
  last_at n xs = sym (last_index-window h.first_index h.len xs (omega arith))

  pub rewrite-count : RewriteCountAnswer h h.rewrite_count
  unfolding rewrite_count table_of
  rewrite-count xs w keys counted = rw (run-rewrite h xs w) (sym (length-window h.first_index h.rewrite_count xs))

  pub rewrite-entries : (xs : List ℕ) → Wf h xs → h.rewrite_count ≡ entry_count Rewrite (window h.first_index h.len xs)
  unfolding entry_count
  rewrite-entries xs w = sym (count-rewrite h xs w)

  pub append-entries : (xs : List ℕ) → Wf h xs → h.len - h.rewrite_count ≡ entry_count Append (window h.first_index h.len xs)
  unfolding entry_count
  append-entries xs w = sym (count-append h xs w)
