-- Each way through the calls that lay rows over gives what its contract says. Assumes nothing.
use mathlib.Core.Bool.{Bool, true, false, cond, not, ◌&&◌}
use mathlib.Core.List.{List, [], ◌∷◌, ◌++◌}
use mathlib.Core.Path.{◌≡◌, refl, sym, ap, ◌∙◌}
use Prim.Native.Nat.{ℕ, suc, ◌+◌, ◌-◌, ◌*◌, ◌/◌, ◌≤◌, ◌<◌, min}
use native.Mathlib.Decide.{dec_lt}
use native.Mathlib.Omega.{arith}
use lib.ListN.{length, length-append}
use borrow.Author.Tests.{lt-ltb, le-ltb, le-leb, lt-leb}
use Rattle.cells.specs.Part.{put}
use Rattle.cells.specs.PartLaws.{length-put, get_or-put-before, get_or-put-in, put-nil}
use Rattle.maps.specs.Lists.{select, first, last, map_option, or_else}
use Rattle.pipe_log.specs.Rows.{window, with_index}
use Rattle.rules.specs.Causes.{Cause, BelowFirst, AboveLast, LimitPassed, ByCause, Err, Result, Ok, and_then}
use Rattle.rules.specs.Items.{EntryIndex}
use Rattle.maps.specs.Maps.{Map}
use Rattle.rules.specs.Table.{Held, Table, with_entries, first_index_of, last_index, is_below_first, is_above_last, entries_below, over, over_gap, appended, replayed_rewrite}
use Rattle.maps.specs.BoolLaws.{and-false}
use Rattle.memtable.specs.declared.Head.{Head}
use Rattle.memtable.specs.Views.{table_of, Row, Rows, Wf}
use Rattle.memtable.specs.Appends.{Lent, fitting, Laying, laid_by}
use Rattle.memtable.specs.Preparing.{behind, prepared_of, Preparing}
use Rattle.memtable.specs.RowLaws.{row_moved}
use Rattle.memtable.specs.WindowLaws.{length-window, window-put, below_none, below-window, is_below_first-window, is_above_last-window}

-- ---- `prepare_append`

module _ (o g : Bool) (h : Head) (s : ℕ) where
  pub prepare_empty : h.len ≡ 0 → Preparing o g h s (Ok 0)
  unfolding laid_by behind with_entries table_of window with_index is_below_first is_above_last first_index_of last_index first last map_option or_else over entries_below select
  prepare_empty e = record { rule = λ xs m rows keys counted. rw (e, and-false (not o)); within = omega arith; before = omega arith }

  module _ (n : h.len ≡ 0 → ⊥) where
    some_entry : 0 < h.len
    some_entry = omega arith

    pub prepare_overwrite : s < h.first_index → o ≡ true → Preparing o g h s (Ok 0)
    unfolding laid_by behind with_entries table_of window with_index over
    prepare_overwrite l e =
        record {
          rule = λ xs m rows keys counted.
              rw (e, is_above_last-window s h.first_index h.len xs (some_entry), le-ltb (h.first_index + h.len) s (omega arith), below_none s h.first_index h.len xs (omega arith));
          within = omega arith;
          before = omega arith;
        }

    pub prepare_below : s < h.first_index → o ≡ false → Preparing o g h s (Err BelowFirst)
    unfolding laid_by table_of window with_index
    prepare_below l e =
        record {
          rule = λ xs m rows keys counted. rw (e, is_below_first-window s h.first_index h.len xs (some_entry), lt-ltb s h.first_index l);
          within = omega arith;
          before = omega arith;
        }

    module _ (a : h.first_index ≤ s) where
      -- not below the first entry
      not-below : (xs : List ℕ) → (not o && is_below_first s (window h.first_index h.len xs)) ≡ false
      not-below xs = rw (is_below_first-window s h.first_index h.len xs (some_entry), le-ltb s h.first_index a) (and-false (not o))

      pub prepare-hole : h.first_index + h.len < s → g ≡ true → Preparing o g h s (Ok 0)
      unfolding laid_by behind with_entries table_of window with_index
      prepare-hole l e =
          record {
            rule = λ xs m rows keys counted.
                rw (not-below xs, is_above_last-window s h.first_index h.len xs (some_entry), lt-ltb (h.first_index + h.len) s l, e);
            within = omega arith;
            before = omega arith;
          }

      pub prepare_above : h.first_index + h.len < s → g ≡ false → Preparing o g h s (Err AboveLast)
      unfolding laid_by table_of window with_index
      prepare_above l e =
          record {
            rule = λ xs m rows keys counted.
                rw (not-below xs, is_above_last-window s h.first_index h.len xs (some_entry), lt-ltb (h.first_index + h.len) s l, e);
            within = omega arith;
            before = omega arith;
          }

      laid-within : (xs : List ℕ) (m : ℕ) (rows : List ℕ) (keys : Map (List ℕ) Held) (counted : Bool) → s ≤ h.first_index + h.len
          → laid_by o g (window s (suc m) rows) (table_of h xs keys counted)
          ≡ Ok (with_entries (entries_below s (window h.first_index h.len xs) ++ window s (suc m) rows) (table_of h xs keys counted))
      unfolding laid_by with_entries table_of window with_index over
      laid-within xs m rows keys counted l =
          rw (not-below xs, is_above_last-window s h.first_index h.len xs (some_entry), le-ltb (h.first_index + h.len) s l)

      pub prepare-within : s ≤ h.first_index + h.len → Preparing o g h s (Ok (s - h.first_index))
      unfolding behind
      prepare-within l =
          let e : min (s - h.first_index) h.len ≡ s - h.first_index = omega arith in
          let d : s - (s - h.first_index) ≡ h.first_index = omega arith in
          record {
            rule = λ xs m rows keys counted. laid-within xs m rows keys counted l ∙ rw (below-window s h.first_index h.len xs, e, d);
            within = omega arith;
            before = omega arith;
          }

-- ---- `lay_rows`

module _ (h : Head) (xs : List ℕ) (k s : ℕ) (rows : List ℕ) (w : Wf h xs) (b : k ≤ h.len) (c : k ≤ s) where
  laid-length : (t : Table) → length (behind k s xs (length rows / 8) rows t).entries ≡ k + length rows / 8
  unfolding behind with_entries
  laid-length t =
      length-append (window (s - k) k xs) (window s (length rows / 8) rows)
      ∙ rw (length-window (s - k) k xs, length-window s (length rows / 8) rows)

  pub lay-full : {q : ℕ} → Lent q s rows → length xs - k * 8 < length rows → Laying (λ t. Ok (behind k s xs (length rows / 8) rows t)) h xs rows (Err LimitPassed) xs
  unfolding fitting and_then
  lay-full l f =
      record {
        rule = λ keys counted. rw (laid-length (table_of h xs keys counted), lt-leb (k + length rows / 8) (length xs / 8) (omega (arith, l.whole, w.room)));
        laid = refl;
        first = λ _. refl;
        wf = w;
      }

  module _ {q : ℕ} (l : Lent q s rows) (f : length rows ≤ length xs - k * 8) (ys : List ℕ) (d : ys ≡ put xs (k * 8) rows) where
    -- the rows that stay, and those that were laid in
    old : {p : ℕ} (i : ℕ) → i < k → Row p xs i → Row p ys i
    old i a =
        row_moved xs ys i i (λ j e. rw d (get_or-put-before xs (k * 8) rows (i * 8 + j) 0 (omega arith) (omega (arith, w.room))))

    new : (i : ℕ) → k ≤ i → i < k + length rows / 8 → Row q ys i
    new i a e =
        row_moved rows ys i (i - k)
        (λ j m.
        let z : k * 8 + ((i - k) * 8 + j) ≡ i * 8 + j = omega arith in
        rw d (rw z at (get_or-put-in xs (k * 8) rows ((i - k) * 8 + j) 0 (omega (arith, l.whole)) (omega (arith, w.room)))))
        (l.are (i - k) (omega arith) (omega arith))

    -- the head after it, with n Rewrite entries
    abbrev laid_head : ℕ → Head
    laid_head n = record { first_index = s - k; len = k + length rows / 8; rewrite_count = n; atomic_group = h.atomic_group }

    lay_done : 0 < length rows → (n : ℕ) → n ≤ k + length rows / 8 → Rows 1 0 n ys → Rows 0 n (k + length rows / 8) ys
        → Laying (λ t. Ok (behind k s xs (length rows / 8) rows t)) h xs rows (Ok (laid_head n)) ys
    unfolding fitting and_then behind with_entries table_of
    lay_done m n a u v =
        let e : s - k + k ≡ s = omega arith in
        let z : (k + length rows / 8) * 8 - length rows ≡ k * 8 = omega (arith, l.whole) in
        record {
          rule = λ keys counted.
              rw (
                laid-length (table_of h xs keys counted),
                le-leb (k + length rows / 8) (length xs / 8) (omega (arith, l.whole, w.room)),
                d,
                window-put (s - k) k (length rows / 8) xs rows (sym l.whole) (omega (arith, w.room)),
                e,
              );
          laid = rw (z, d);
          first = λ e. absurd (omega (arith, l.whole));
          wf =
              record {
                room = rw (d, length-put xs (k * 8) rows (omega (arith, w.room))) (omega (arith, l.whole, w.room));
                front = a;
                index = omega (arith, l.index);
                rewritten = u;
                appended = v;
              };
        }

  -- Rewrite rows behind Rewrite entries
  pub lay-rewrite : (l : Lent 1 s rows) (f : length rows ≤ length xs - k * 8) (ys : List ℕ) (d : ys ≡ put xs (k * 8) rows) → 0 < length rows → k ≤ h.rewrite_count
      → Laying (λ t. Ok (behind k s xs (length rows / 8) rows t)) h xs rows (Ok (laid_head l f ys d (k + length rows / 8))) ys
  lay-rewrite l f ys d j m =
      lay_done l f ys d j (k + length rows / 8) (omega arith)
      (λ i a e. elim (dec_lt i k) [ yes u ↦ old l f ys d i u (w.rewritten i a (omega arith)) | no u ↦ new l f ys d i (omega arith) e ])
      (λ i a e. absurd (omega arith))

  -- Append rows behind any entries
  pub lay-append : (l : Lent 0 s rows) (f : length rows ≤ length xs - k * 8) (ys : List ℕ) (d : ys ≡ put xs (k * 8) rows) → 0 < length rows → (n : ℕ) → n ≡ min h.rewrite_count k
      → Laying (λ t. Ok (behind k s xs (length rows / 8) rows t)) h xs rows (Ok (laid_head l f ys d n)) ys
  lay-append l f ys d j n m =
      lay_done l f ys d j n (omega arith)
      (λ i a e. old l f ys d i (omega arith) (w.rewritten i a (omega arith)))
      (λ i a e. elim (dec_lt i k) [ yes u ↦ old l f ys d i u (w.appended i (omega arith) (omega arith)) | no u ↦ new l f ys d i (omega arith) e ])

-- ---- `lay`

-- the same call by another name of its rule
pub laying_by : {by to : Table → Result Table} {h : Head} {xs rows : List ℕ} {r : (ByCause Head)} {ys : List ℕ}
    → ((keys : Map (List ℕ) Held) (counted : Bool) → by (table_of h xs keys counted) ≡ to (table_of h xs keys counted)) → Laying by h xs rows r ys → Laying to h xs rows r ys
laying_by {xs = xs} e l =
    record { rule = λ keys counted. l.rule keys counted ∙ ap (fitting (length xs / 8)) (e keys counted); laid = l.laid; first = l.first; wf = l.wf }

no_rows : (rows : List ℕ) → length rows ≡ 0 → rows ≡ []
no_rows [] e = refl
no_rows (x ∷ xs) e = absurd (omega arith)

module _ (o g : Bool) (h : Head) (xs : List ℕ) (s : ℕ) (rows : List ℕ) (w : Wf h xs) where
  pub lay-none : length rows ≡ 0 → Laying (laid_by o g (window s (length rows / 8) rows)) h xs rows (Ok h) xs
  unfolding laid_by fitting and_then table_of window
  lay-none e =
      record {
        rule = λ keys counted.
            rw (e, length-window h.first_index h.len xs, le-leb h.len (length xs / 8) (omega (arith, w.room)));
        laid = rw (no_rows rows e) (sym (put-nil xs (h.len * 8 - 0)));
        first = λ _. refl;
        wf = w;
      }

  module _ {q : ℕ} (l : Lent q s rows) (n : length rows ≡ 0 → ⊥) where
    by_answer : (p : ByCause ℕ) → Preparing o g h s p → (keys : Map (List ℕ) Held) (counted : Bool)
        → laid_by o g (window s (length rows / 8) rows) (table_of h xs keys counted) ≡ prepared_of p s xs (length rows / 8) rows (table_of h xs keys counted)
    by_answer p a keys counted =
        let e : length rows / 8 ≡ suc (length rows / 8 - 1) = omega (arith, l.whole) in
        rw e (a.rule xs (length rows / 8 - 1) rows keys counted)

    pub lay_refused : (e : Cause) → Preparing o g h s (Err e) → Laying (laid_by o g (window s (length rows / 8) rows)) h xs rows (Err e) xs
    unfolding fitting and_then
    lay_refused e a = record { rule = λ keys counted. rw (by_answer (Err e) a keys counted); laid = refl; first = λ _. refl; wf = w }

    pub lay-kept : (k : ℕ) → Preparing o g h s (Ok k) → (r : ByCause Head) (ys : List ℕ) → Laying (λ t. Ok (behind k s xs (length rows / 8) rows t)) h xs rows r ys
        → Laying (laid_by o g (window s (length rows / 8) rows)) h xs rows r ys
    lay-kept k a r ys b = laying_by (λ keys counted. sym (by_answer (Ok k) a keys counted)) b

-- ---- the rules that it serves

pub by_append : (live : Bool) (es : List EntryIndex) (t : Table) → laid_by (not live) false es t ≡ appended live es t
unfolding laid_by appended
by_append true [] t = refl
by_append false [] t = refl
by_append true (e ∷ es) t = refl
by_append false (e ∷ es) t = refl

either : (b : Bool) (x y : List EntryIndex) (t : Table) → ◌≡◌ {A = Result Table} (cond b (Ok (with_entries x t)) (Ok (with_entries y t))) (Ok (with_entries (cond b x y) t))
either true x y t = refl
either false x y t = refl

eta : (t : Table) → t ≡ with_entries t.entries t
unfolding with_entries
eta t = refl

pub by-replay : (es : List EntryIndex) (t : Table) → laid_by true true es t ≡ Ok (replayed_rewrite es t)
unfolding laid_by replayed_rewrite over_gap
by-replay [] t = ap Ok (eta t)
by-replay (e ∷ es) t = either (is_above_last e.index t.entries) (e ∷ es) (over t.entries (e ∷ es)) t
