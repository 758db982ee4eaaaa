-- Each way through `rewrite` gives what its contract says. Assumes nothing.
use mathlib.Core.Bool.{Bool, true, false, cond, not}
use mathlib.Core.List.{List, [], ◌∷◌, ◌++◌, append-nil}
use Rattle.std.specs.Prelude.{Option, None, Some}
use mathlib.Core.Path.{◌≡◌, refl, sym, ap, ◌∙◌}
use Prim.Native.Nat.{ℕ, zero, suc, ◌+◌, ◌-◌, ◌*◌, ◌/◌, ◌≤◌, ◌<◌, min, max}
use native.Mathlib.Decide.{dec_lt}
use native.Mathlib.Omega.{arith}
use lib.ListN.{length, get_or, set, take, drop}
use lib.Seq.{get_or-drop, take-nil}
use borrow.Author.Tests.{le-leb, lt-leb}
use Rattle.cells.specs.Part.{part, put}
use Rattle.cells.proofs.Steps.{Laid, laid_none, laid-snoc}
use Rattle.cells.specs.PartLaws.{length_part, get_or-part, part_none, part-snoc, part-append, length-put, get_or-put-before, get_or-put-in, get_or-put-after, put-nil, put-append}
use Rattle.maps.specs.Lists.{front, first, last, map_option, or_else}
use Rattle.maps.specs.Maps.{Map}
use Rattle.pipe_log.specs.Rows.{window}
use Rattle.rules.specs.Causes.{AppendLeft, AlreadyRewritten, Err, Ok, refuse, and_then}
use Rattle.rules.specs.Items.{EntryIndex, is_rewrite, file_of}
use Rattle.rules.specs.Table.{Held, with_entries, first_index_of, entries_below, entries_from, replaces, replaced, stops_at, meets_rewrite, rewrite_overlap, rewritten}
use Rattle.memtable.specs.declared.Head.{Head}
use Rattle.memtable.specs.Views.{table_of, row_at, Row, Wf}
use Rattle.memtable.specs.Appends.{Lent}
use Rattle.memtable.specs.Rewrites.{moved, replaced_part, Rewriting, Run, Met, Overlap, Passed, counting, Replaced}
use Rattle.memtable.specs.RowLaws.{row_moved, row-seq, any-drop, held-row, row_at-rewrite, row_at-append}
use Rattle.memtable.specs.Scans.{count_before}
use Rattle.memtable.specs.ScanLaws.{before_all, before-next}
use Rattle.memtable.specs.ReplaceLaws.{replaced_run, stops_run, stops_first, moved_run}
use Rattle.memtable.specs.WindowLaws.{row_at-drop, window_same, window-cut, window-lay, first_index-window, last-window, below-window, from-window}

-- an overlap with an entry and a row
overlap-some : (gate : Option ℕ) (before : List EntryIndex) (a n b m : ℕ) (ys zs : List ℕ) → 0 < n → 0 < m
    → rewrite_overlap gate before (window a n ys) (window b m zs)
    ≡ cond (or_else false (λ (e : EntryIndex). not (is_rewrite e)) (last before))
    (refuse AppendLeft)
    (cond (meets_rewrite gate (stops_at gate (window a n ys) (window b m zs)))
    (refuse AlreadyRewritten)
    (Ok (before ++ replaced gate (window a n ys) (window b m zs))))
unfolding rewrite_overlap window
overlap-some gate before a zero b m ys zs u v = absurd (omega arith)
overlap-some gate before a (suc n) b zero ys zs u v = absurd (omega arith)
overlap-some gate before a (suc n) b (suc m) ys zs u v = refl

overlap-none : (gate : Option ℕ) (before es : List EntryIndex) → rewrite_overlap gate before es [] ≡ Ok (before ++ es)
unfolding rewrite_overlap
overlap-none gate before [] = ap Ok (sym (append-nil before))
overlap-none gate before (e ∷ es) = refl

module _ (gate : Option ℕ) (h : Head) (xs : List ℕ) (s : ℕ) (rows : List ℕ) (w : Wf h xs) where
  -- the entries and the list
  abbrev entries : List EntryIndex
  entries = window h.first_index h.len xs

  abbrev list : List EntryIndex
  list = window s (length rows / 8) rows

  -- a list and entries that are not empty
  by_overlap : (keys : Map (List ℕ) Held) (counted : Bool) → 0 < h.len → 0 < length rows / 8
      → rewritten gate list (table_of h xs keys counted)
      ≡ and_then (rewrite_overlap gate (entries_below s entries) (entries_from s entries) (entries_from h.first_index list)) (λ es. Ok (with_entries es (table_of h xs keys counted)))
  unfolding rewritten table_of or_else
  by_overlap keys counted u v =
      rw (first_index-window s (length rows / 8) rows v, first_index-window h.first_index h.len xs u)

  -- no list, and no entries
  no_list : (keys : Map (List ℕ) Held) (counted : Bool) → length rows / 8 ≡ 0 → rewritten gate list (table_of h xs keys counted) ≡ Ok (table_of h xs keys counted)
  unfolding rewritten or_else first_index_of map_option first window
  no_list keys counted e = rw e

  no-entries : (keys : Map (List ℕ) Held) (counted : Bool) → 0 < length rows / 8 → h.len ≡ 0 → rewritten gate list (table_of h xs keys counted) ≡ Ok (table_of h xs keys counted)
  unfolding rewritten table_of or_else first_index_of map_option first window
  no-entries keys counted v e = rw (first_index-window s (length rows / 8) rows v, e)

  same-table : (keys : Map (List ℕ) Held) (counted : Bool) → table_of h xs keys counted ≡ with_entries entries (table_of h xs keys counted)
  unfolding with_entries table_of
  same-table keys counted = refl

  -- ---- no overlap

  none_from : h.len ≤ s - h.first_index → entries_from s entries ≡ []
  unfolding window
  none_from l =
      let e : h.len - min (s - h.first_index) h.len ≡ 0 = omega arith in
      rw (from-window s h.first_index h.len xs, e)

  all_below : h.len ≤ s - h.first_index → entries_below s entries ≡ entries
  all_below l =
      let e : min (s - h.first_index) h.len ≡ h.len = omega arith in
      rw (below-window s h.first_index h.len xs, e)

  none-listed : length rows / 8 ≤ h.first_index - s → entries_from h.first_index list ≡ []
  unfolding window
  none-listed l =
      let e : length rows / 8 - min (h.first_index - s) (length rows / 8) ≡ 0 = omega arith in
      rw (from-window h.first_index s (length rows / 8) rows, e)

  cut : entries_below s entries ++ entries_from s entries ≡ entries
  cut =
      rw (below-window s h.first_index h.len xs, from-window s h.first_index h.len xs)
      (sym (window-cut h.first_index h.len (min (s - h.first_index) h.len) xs (omega arith)))

  -- nothing is moved
  unmoved : moved gate (entries_from s entries) (entries_from h.first_index list) ≡ 0 → xs ≡ replaced_part gate h xs s rows
  unfolding replaced_part
  unmoved e = rw (e, part_none ((h.first_index - s) * 8) rows) (sym (put-nil xs ((s - h.first_index) * 8)))

  pub rewrite_above : h.len ≤ s - h.first_index → Rewriting gate h xs s rows (Ok h) xs
  unfolding moved front rewrite_overlap and_then
  rewrite_above l =
      record {
        rule = λ keys counted.
            elim (dec_lt 0 (length rows / 8)) [
              | no v ↦ sym (no_list keys counted (omega arith))
              | yes v ↦
                  elim (dec_lt 0 h.len) [
                    | no u ↦ sym (no-entries keys counted v (omega arith))
                    | yes u ↦
                        rw (by_overlap keys counted u v, none_from l, all_below l) (ap Ok (same-table keys counted))
                  ]
            ];
        laid = unmoved (rw (none_from l, take-nil {A = EntryIndex} (length (entries_from h.first_index list))));
        first = refl;
        wf = w;
      }

  pub rewrite_below : length rows / 8 ≤ h.first_index - s → Rewriting gate h xs s rows (Ok h) xs
  unfolding moved front and_then
  rewrite_below l =
      record {
        rule = λ keys counted.
            elim (dec_lt 0 (length rows / 8)) [
              | no v ↦ sym (no_list keys counted (omega arith))
              | yes v ↦
                  elim (dec_lt 0 h.len) [
                    | no u ↦ sym (no-entries keys counted v (omega arith))
                    | yes u ↦
                        rw (by_overlap keys counted u v, none-listed l, overlap-none gate (entries_below s entries) (entries_from s entries), cut) (ap Ok (same-table keys counted))
                  ]
            ];
        laid = unmoved (rw (none-listed l));
        first = refl;
        wf = w;
      }

  -- ---- an overlap: it starts at place p of the entries and at place q of the list

  module _ (u : s - h.first_index < h.len) (v : h.first_index - s < length rows / 8) where
    abbrev p : ℕ
    p = s - h.first_index

    abbrev q : ℕ
    q = h.first_index - s

    -- the entries before it, those from it, and the list from it
    abbrev before : List EntryIndex
    before = window h.first_index p xs

    abbrev held : List EntryIndex
    held = window (h.first_index + p) (h.len - p) (drop (p * 8) xs)

    abbrev lent : List EntryIndex
    lent = window (h.first_index + p) (length rows / 8 - q) (drop (q * 8) rows)

    before-is : entries_below s entries ≡ before
    before-is =
        let e : min (s - h.first_index) h.len ≡ s - h.first_index = omega arith in
        rw (below-window s h.first_index h.len xs, e)

    held-is : entries_from s entries ≡ held
    held-is =
        let e : min (s - h.first_index) h.len ≡ s - h.first_index = omega arith in
        rw (from-window s h.first_index h.len xs, e)

    lent_is : entries_from h.first_index list ≡ lent
    lent_is =
        let e : min (h.first_index - s) (length rows / 8) ≡ h.first_index - s = omega arith in
        let d : s + (h.first_index - s) ≡ h.first_index + (s - h.first_index) = omega arith in
        rw (from-window h.first_index s (length rows / 8) rows, e, d)

    by_rows : (keys : Map (List ℕ) Held) (counted : Bool)
        → rewritten gate list (table_of h xs keys counted)
        ≡ and_then
        (cond (or_else false (λ (e : EntryIndex). not (is_rewrite e)) (last before))
        (refuse AppendLeft)
        (cond (meets_rewrite gate (stops_at gate held lent)) (refuse AlreadyRewritten) (Ok (before ++ replaced gate held lent))))
        (λ es. Ok (with_entries es (table_of h xs keys counted)))
    by_rows keys counted =
        by_overlap keys counted (omega arith) (omega arith)
        ∙ rw (before-is, held-is, lent_is, overlap-some gate before (h.first_index + p) (h.len - p) (h.first_index + p) (length rows / 8 - q) (drop (p * 8) xs) (drop (q * 8) rows) (omega arith) (omega arith))

    -- the entry before it
    append-before : h.rewrite_count < p → or_else false (λ (e : EntryIndex). not (is_rewrite e)) (last before) ≡ true
    unfolding or_else
    append-before l =
        rw (
          last-window h.first_index p xs (omega arith),
          row_at-append h.first_index xs (p - 1) (w.appended (p - 1) (omega arith) (omega arith)),
        )

    rewrite-before : p ≤ h.rewrite_count → or_else false (λ (e : EntryIndex). not (is_rewrite e)) (last before) ≡ false
    unfolding or_else last window
    rewrite-before l =
        elim (dec_lt 0 p) [
          | yes b ↦
              rw (
                last-window h.first_index p xs b,
                row_at-rewrite h.first_index xs (p - 1) (w.rewritten (p - 1) (omega arith) (omega arith)),
              )
          | no b ↦ (let e : p ≡ 0 = omega arith in rw e)
        ]

    pub rewrite-left : h.rewrite_count < p → Rewriting gate h xs s rows (Err AppendLeft) xs
    unfolding and_then
    rewrite-left l = record { rule = λ keys counted. rw (by_rows keys counted, append-before l); laid = refl; first = refl; wf = w }

    pub rewrite-met : p ≤ h.rewrite_count → meets_rewrite gate (stops_at gate held lent) ≡ true → Rewriting gate h xs s rows (Err AlreadyRewritten) xs
    unfolding and_then
    rewrite-met l e = record { rule = λ keys counted. rw (by_rows keys counted, rewrite-before l, e); laid = refl; first = refl; wf = w }

    -- k rows of the list laid in
    module _ (k : ℕ) (r : Run gate (h.first_index + p) (drop (p * 8) xs) (min (h.len - p) (length rows / 8 - q)) k) (l : Lent 1 s rows)
        (ys : List ℕ) (d : ys ≡ put xs (p * 8) (part (q * 8) (k * 8) rows)) where
      laid-length : length (part (q * 8) (k * 8) rows) ≡ k * 8
      laid-length = length_part (q * 8) (k * 8) rows (omega (arith, l.whole, r.most))

      laid-rows : window (h.first_index + p) k (part (q * 8) (k * 8) rows) ≡ window (h.first_index + p) k (drop (q * 8) rows)
      laid-rows =
          window_same (h.first_index + p) k (part (q * 8) (k * 8) rows) (drop (q * 8) rows)
          (λ i b. rw (get_or-part (q * 8) (k * 8) rows i 0 b, get_or-drop (q * 8) rows i 0))

      entries-after : window h.first_index h.len ys ≡ before ++ replaced gate held lent
      entries-after =
          rw (
            d,
            window-lay h.first_index h.len p k xs (part (q * 8) (k * 8) rows) laid-length (omega (arith, r.most)) w.room,
            laid-rows,
            replaced_run gate (h.first_index + p) (h.len - p) (length rows / 8 - q) k (drop (p * 8) xs) (drop (q * 8) rows) r,
          )

      part-after : ys ≡ replaced_part gate h xs s rows
      unfolding replaced_part
      part-after =
          rw (held-is, lent_is, moved_run gate (h.first_index + p) (h.len - p) (length rows / 8 - q) k (drop (p * 8) xs) (drop (q * 8) rows) r) d

      -- the rows before, those laid in, and those behind
      row_before : {b : ℕ} (i : ℕ) → i < p → Row b xs i → Row b ys i
      row_before i a = row_moved xs ys i i (λ j e. rw d (get_or-put-before xs (p * 8) (part (q * 8) (k * 8) rows) (i * 8 + j) 0 (omega arith) (omega (arith, w.room))))

      row-behind : {b : ℕ} (i : ℕ) → p + k ≤ i → Row b xs i → Row b ys i
      row-behind i a =
          row_moved xs ys i i (λ j e. rw d (get_or-put-after xs (p * 8) (part (q * 8) (k * 8) rows) (i * 8 + j) 0 (omega (arith, laid-length)) (omega (arith, w.room))))

      row_laid : (i : ℕ) → p ≤ i → i < p + k → Row 1 ys i
      row_laid i a b =
          row_moved rows ys i (q + (i - p))
          (λ j e.
          let z : p * 8 + ((i - p) * 8 + j) ≡ i * 8 + j = omega arith in
          let y : q * 8 + ((i - p) * 8 + j) ≡ (q + (i - p)) * 8 + j = omega arith in
          let x : get_or (put xs (p * 8) (part (q * 8) (k * 8) rows)) (p * 8 + ((i - p) * 8 + j)) 0 ≡ get_or (part (q * 8) (k * 8) rows) ((i - p) * 8 + j) 0 =
          get_or-put-in xs (p * 8) (part (q * 8) (k * 8) rows) ((i - p) * 8 + j) 0 (omega (arith, laid-length)) (omega (arith, w.room)) in
          rw d (rw z at x ∙ get_or-part (q * 8) (k * 8) rows ((i - p) * 8 + j) 0 (omega arith) ∙ rw y))
          (l.are (q + (i - p)) (omega arith) (omega (arith, r.most)))

      done : p ≤ h.rewrite_count → (n : ℕ) → n ≡ max h.rewrite_count (p + k) → Rewriting gate h xs s rows (Ok (counting n h)) ys
      unfolding and_then with_entries table_of
      done a n e =
          record {
            rule = λ keys counted.
                rw (
                  by_rows keys counted,
                  rewrite-before a,
                  stops_run gate (h.first_index + p) (h.len - p) (length rows / 8 - q) k (drop (p * 8) xs) (drop (q * 8) rows) r,
                  entries-after,
                );
            laid = part-after;
            first = refl;
            wf =
                record {
                  room = rw (d, length-put xs (p * 8) (part (q * 8) (k * 8) rows) (omega (arith, laid-length, w.room, r.most))) w.room;
                  front = omega (arith, w.front, r.most);
                  index = w.index;
                  rewritten = λ i b c.
                      elim (dec_lt i p) [
                        | yes m ↦ row_before i m (w.rewritten i b (omega arith))
                        | no m ↦
                            elim (dec_lt i (p + k)) [
                              | yes g ↦ row_laid i (omega arith) g
                              | no g ↦ row-behind i (omega arith) (w.rewritten i b (omega arith))
                            ]
                      ];
                  appended = λ i b c. row-behind i (omega arith) (w.appended i (omega arith) c);
                };
          }

    pub rewrite-done : (k : ℕ) (g : Head) (ys : List ℕ) → Lent 1 s rows → p ≤ h.rewrite_count
        → Run gate (h.first_index + p) (drop (p * 8) xs) (min (h.len - p) (length rows / 8 - q)) k
        → Replaced h xs rows p q k g ys → Rewriting gate h xs s rows (Ok g) ys
    rewrite-done k g ys l a r d = rw d.head (done k r l ys d.laid a (max h.rewrite_count (p + k)) refl)

    pub rewrite_already : p ≤ h.rewrite_count → Met gate (h.first_index + p) (drop (p * 8) xs) → Rewriting gate h xs s rows (Err AlreadyRewritten) xs
    rewrite_already l m =
        rewrite-met l
        (rw (stops_first gate (h.first_index + p) (h.len - p) (length rows / 8 - q) (drop (p * 8) xs) (drop (q * 8) rows) (omega arith) (omega arith) m.stop) m.meets)

-- ---- `replace`: the places by their names

module _ (gate : Option ℕ) (h : Head) (xs : List ℕ) (s : ℕ) (rows : List ℕ) (w : Wf h xs) (p q : ℕ) (a : p ≡ s - h.first_index) (b : q ≡ h.first_index - s)
    (u : p < h.len) (v : h.first_index - s < length rows / 8) (l : p ≤ h.rewrite_count) where
  pub replace_already : Met gate (h.first_index + p) (drop (p * 8) xs) → Rewriting gate h xs s rows (Err AlreadyRewritten) xs
  replace_already m = rewrite_already gate h xs s rows w (rw a at u) v (rw a at l) (rw a at m)

  pub replace-done : (c k : ℕ) (g : Head) (ys : List ℕ) → c ≡ min (h.len - p) (length rows / 8 - q) → Lent 1 s rows
      → Run gate (h.first_index + p) (drop (p * 8) xs) c k → Replaced h xs rows p q k g ys → Rewriting gate h xs s rows (Ok g) ys
  replace-done c k g ys e n r d = rewrite-done gate h xs s rows w (rw a at u) v k g ys n (rw a at l) (rw (e, a, b) at r) (rw (a, b) at d)

-- ---- how many entries are replaced

module _ (h : Head) (xs : List ℕ) (w : Wf h xs) (p c : ℕ) (l : p + c ≤ h.len) where
  -- row i from place p on, in each of the two runs
  in-rewrites : (i : ℕ) → p + i < h.rewrite_count → is_rewrite (row_at (h.first_index + p) (drop (p * 8) xs) i) ≡ true
  in-rewrites i b = rw (row_at-drop h.first_index p xs i) (row_at-rewrite h.first_index xs (p + i) (w.rewritten (p + i) (omega arith) b))

  in-appends : (i : ℕ) → h.rewrite_count ≤ p + i → i < c → is_rewrite (row_at (h.first_index + p) (drop (p * 8) xs) i) ≡ false
  in-appends i b d = rw (row_at-drop h.first_index p xs i) (row_at-append h.first_index xs (p + i) (w.appended (p + i) b (omega arith)))

  pub run-ungated : (k : ℕ) → k ≡ min c (h.rewrite_count - p) → Run None (h.first_index + p) (drop (p * 8) xs) c k
  unfolding replaces meets_rewrite
  run-ungated k e =
      record {
        all = λ i b. in-rewrites i (omega arith);
        most = omega arith;
        stop = λ b. in-appends k (omega arith) b;
        meets = λ b. refl;
      }

  pub met_gated : (gate : ℕ) → p < h.rewrite_count → Met (Some gate) (h.first_index + p) (drop (p * 8) xs)
  unfolding replaces meets_rewrite or_else
  met_gated gate b =
      let e = in-rewrites 0 (omega arith) in
      record { stop = rw e; meets = e }

  held-seq : (i : ℕ) → i < c → (file_of (row_at (h.first_index + p) (drop (p * 8) xs) i)).seq ≡ get_or (drop (p * 8) xs) (i * 8 + 2) 0
  held-seq i b = row-seq (h.first_index + p) (drop (p * 8) xs) i (any-drop xs p i (held-row h xs w (p + i) (omega arith)))

  pub run_gated : (gate k : ℕ) → h.rewrite_count ≤ p → k ≡ count_before gate c (drop (p * 8) xs) → k ≤ c → Run (Some gate) (h.first_index + p) (drop (p * 8) xs) c k
  unfolding replaces meets_rewrite or_else
  run_gated gate k a e d =
      record {
        all = λ i b.
            rw (
              in-appends i (omega arith) (omega arith),
              held-seq i (omega arith),
              le-leb (get_or (drop (p * 8) xs) (i * 8 + 2) 0) gate (before_all gate c (drop (p * 8) xs) i (omega arith)),
            );
        most = d;
        stop = λ b.
            rw (
              in-appends k (omega arith) b,
              held-seq k b,
              lt-leb (get_or (drop (p * 8) xs) (k * 8 + 2) 0) gate (rw (← e) at (before-next gate c (drop (p * 8) xs) (omega arith))),
            );
        meets = λ b. in-appends k (omega arith) b;
      }

-- ---- an overlap without a gate, and with one

module _ (h : Head) (xs : List ℕ) (s : ℕ) (rows : List ℕ) (w : Wf h xs) (l : Lent 1 s rows) (p q c : ℕ) (o : Overlap h s rows p q c) where
  pub overlap-ungated : (k : ℕ) (g : Head) (ys : List ℕ) → k ≡ min c (h.rewrite_count - p) → Replaced h xs rows p q k g ys → Rewriting None h xs s rows (Ok g) ys
  overlap-ungated k g ys e d =
      replace-done None h xs s rows w p q o.place o.skipped o.held o.listed o.behind c k g ys o.most l
      (run-ungated h xs w p c (omega (arith, o.most, o.held)) k e) d

  pub overlap-met : (gate : ℕ) → p < h.rewrite_count → Rewriting (Some gate) h xs s rows (Err AlreadyRewritten) xs
  overlap-met gate b =
      replace_already (Some gate) h xs s rows w p q o.place o.skipped o.held o.listed o.behind
      (met_gated h xs w p c (omega (arith, o.most, o.held)) gate b)

  pub overlap_gated : (gate k : ℕ) (g : Head) (ys : List ℕ) → h.rewrite_count ≤ p → Passed gate xs rows p q c k ys → g ≡ counting (max h.rewrite_count (p + k)) h
      → Rewriting (Some gate) h xs s rows (Ok g) ys
  overlap_gated gate k g ys b d e =
      replace-done (Some gate) h xs s rows w p q o.place o.skipped o.held o.listed o.behind c k g ys o.most l
      (run_gated h xs w p c (omega (arith, o.most, o.held)) gate k b d.count d.most) (record { head = e; laid = d.laid })

-- ---- `lay_replaced`

module _ (h : Head) (xs rows : List ℕ) (p q k : ℕ) (ys : List ℕ) (d : ys ≡ put xs (p * 8) (take ((q + k) * 8 - q * 8) (drop (q * 8) rows))) where
  laid-part : ys ≡ put xs (p * 8) (part (q * 8) (k * 8) rows)
  unfolding part
  laid-part =
      let e : (q + k) * 8 - q * 8 ≡ k * 8 = omega arith in
      rw e at d

  pub lay_done : (g : Head) → g ≡ counting (max h.rewrite_count (p + k)) h → Replaced h xs rows p q k g ys
  lay_done g e = record { head = e; laid = laid-part }

-- ---- the pass of a gated rewrite

-- one number of a row more
next_number : {d l : List ℕ} (at from i j t p : ℕ) (x : List ℕ) → t ≡ at + i → p ≡ from + i → j ≡ i + 1 → Laid d at (part from i x) l → from + i < length x → at + i < length d
    → Laid d at (part from j x) (set l t (get_or x p 0))
next_number at from i j t p x e f g h a b =
    rw (e, f, g) (laid-snoc i (get_or x (from + i) 0) h (part-snoc from i x 0 a) (length_part from i x (omega arith)) b)

pub row_copied : (d rows : List ℕ) (at from : ℕ) → at + 8 ≤ length d → from + 8 ≤ length rows
    → set (set (set (set (set (set (set (set d at (get_or rows from 0)) (at + 1) (get_or rows (from + 1) 0)) (at + 2) (get_or rows (from + 2) 0)) (at + 3) (get_or rows (from + 3) 0)) (at + 4) (get_or rows (from + 4) 0)) (at + 5) (get_or rows (from + 5) 0)) (at + 6) (get_or rows (from + 6) 0)) (at + 7) (get_or rows (from + 7) 0)
    ≡ put d at (part from 8 rows)
row_copied d rows at from a b =
    let l₀ : Laid d at (part from 0 rows) d = rw (part_none from rows) (laid_none d at) in
    let l₁ = next_number at from 0 1 at from rows (omega arith) (omega arith) refl l₀ (omega arith) (omega arith) in
    let l₂ = next_number at from 1 2 (at + 1) (from + 1) rows refl refl refl l₁ (omega arith) (omega arith) in
    let l₃ = next_number at from 2 3 (at + 2) (from + 2) rows refl refl refl l₂ (omega arith) (omega arith) in
    let l₄ = next_number at from 3 4 (at + 3) (from + 3) rows refl refl refl l₃ (omega arith) (omega arith) in
    let l₅ = next_number at from 4 5 (at + 4) (from + 4) rows refl refl refl l₄ (omega arith) (omega arith) in
    let l₆ = next_number at from 5 6 (at + 5) (from + 5) rows refl refl refl l₅ (omega arith) (omega arith) in
    let l₇ = next_number at from 6 7 (at + 6) (from + 6) rows refl refl refl l₆ (omega arith) (omega arith) in
    let l₈ = next_number at from 7 8 (at + 7) (from + 7) rows refl refl refl l₇ (omega arith) (omega arith) in
    l₈.is

-- what lies behind what is laid in is as it was
behind-laid : {d s l : List ℕ} (at i j : ℕ) → Laid d at s l → length s ≡ i → at + i ≤ j → at ≤ length d → get_or l j 0 ≡ get_or d j 0
behind-laid {d} {s} {l} at i j h n b f = rw h.is (get_or-put-after d at s j 0 (omega arith) f)

module _ (xs rows : List ℕ) (p q : ℕ) {l : List ℕ} (i : ℕ) (h : Laid xs (p * 8) (part (q * 8) (i * 8) rows) l) where
  module _ (c : ℕ) (a : (p + c) * 8 ≤ length xs) (b : (q + c) * 8 ≤ length rows) (m : i ≤ c) where
    rows_long : length (part (q * 8) (i * 8) rows) ≡ i * 8
    rows_long = length_part (q * 8) (i * 8) rows (omega arith)

    pub held-cell : (k : ℕ) → get_or l ((p + i) * 8 + k) 0 ≡ get_or xs ((p + i) * 8 + k) 0
    held-cell k = behind-laid (p * 8) (i * 8) ((p + i) * 8 + k) h rows_long (omega arith) (omega arith)

    pub row_more : i < c → (y : List ℕ) → y ≡ put l ((p + i) * 8) (part ((q + i) * 8) 8 rows) → length y ≡ length l → Laid xs (p * 8) (part (q * 8) ((i + 1) * 8) rows) y
    row_more n y e f =
        let z : p * 8 + i * 8 ≡ (p + i) * 8 = omega arith in
        let w : q * 8 + i * 8 ≡ (q + i) * 8 = omega arith in
        let t : i * 8 + 8 ≡ (i + 1) * 8 = omega arith in
        let A = part (q * 8) (i * 8) rows in
        let B = part ((q + i) * 8) 8 rows in
        let g : put (put xs (p * 8) A) (p * 8 + length A) B ≡ put xs (p * 8) (A ++ B) = sym (put-append xs (p * 8) A B (omega arith)) in
        let k : A ++ B ≡ part (q * 8) ((i + 1) * 8) rows = rw (w, t) at (part-append (q * 8) (i * 8) 8 rows) in
        record { is = e ∙ rw (h.is, ← k) (rw (rows_long, z) at g); long = f ∙ h.long }
