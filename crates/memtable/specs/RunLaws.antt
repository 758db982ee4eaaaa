-- The runs of a well-formed head's entries: the Rewrite ones at the front, the Append ones behind them. Assumes nothing.
use Rattle.std.specs.Prelude.{Bool, List, ◌++◌, ◌≡◌, ℕ, ◌+◌, ◌-◌, ◌*◌, length, drop}
use Rattle.std.proofs.Math.Bool.{true, false}
use Rattle.std.proofs.Common.{append-nil, arith}
use Rattle.maps.specs.Lists.{select}
use Rattle.pipe_log.specs.Rows.{queue_at, window}
use Rattle.rules.specs.Items.{LogQueue, Append, Rewrite, EntryIndex, same_queue, file_of, is_rewrite}
use Rattle.rules.specs.TableQueries.{run_of}
use Rattle.memtable.specs.declared.Head.{Head}
use Rattle.memtable.specs.Views.{row_at, Row, Wf}
use Rattle.memtable.specs.ListLaws.{All, select-append, select_all, select-none, front_all, front-none, rest_all, rest-none}
use Rattle.memtable.specs.RowLaws.{row_at-queue, row_at-rewrite, row_at-append}
use Rattle.memtable.specs.WindowLaws.{window_all, window-cut, row_at-drop, length-window}

module _ (h : Head) (xs : List ℕ) (w : Wf h xs) where
  -- the entries, and the two runs
  abbrev entries : List EntryIndex
  entries = window h.first_index h.len xs

  abbrev pub rewrites : List EntryIndex
  rewrites = window h.first_index h.rewrite_count xs

  abbrev pub appends : List EntryIndex
  appends = window (h.first_index + h.rewrite_count) (h.len - h.rewrite_count) (drop (h.rewrite_count * 8) xs)

  cut : entries ≡ rewrites ++ appends
  cut = window-cut h.first_index h.len h.rewrite_count xs w.front

  -- what a test says of each of the two
  on-rewrites : (p : EntryIndex → Bool) (b : Bool) → ((i : ℕ) → Row 1 xs i → p (row_at h.first_index xs i) ≡ b) → All p b rewrites
  on-rewrites p b e = window_all p b h.first_index h.rewrite_count xs (λ i l. e i (w.rewritten i (omega arith) l))

  on-appends : (p : EntryIndex → Bool) (b : Bool) → ((i : ℕ) → Row 0 xs i → p (row_at h.first_index xs i) ≡ b) → All p b appends
  on-appends p b e =
      window_all p b (h.first_index + h.rewrite_count) (h.len - h.rewrite_count) (drop (h.rewrite_count * 8) xs)
      (λ i l.
      rw (row_at-drop h.first_index h.rewrite_count xs i)
      (e (h.rewrite_count + i) (w.appended (h.rewrite_count + i) (omega arith) (omega arith))))

  pub run-rewrite : run_of Rewrite entries ≡ rewrites
  unfolding run_of
  run-rewrite =
      rw (cut, front_all is_rewrite appends (on-rewrites is_rewrite true (λ i r. row_at-rewrite h.first_index xs i r)), front-none is_rewrite (on-appends is_rewrite false (λ i r. row_at-append h.first_index xs i r)))
      (append-nil rewrites)

  pub run-append : run_of Append entries ≡ appends
  unfolding run_of
  run-append =
      rw (cut, rest_all is_rewrite appends (on-rewrites is_rewrite true (λ i r. row_at-rewrite h.first_index xs i r)))
      (rest-none is_rewrite (on-appends is_rewrite false (λ i r. row_at-append h.first_index xs i r)))

  pub select-rewrite : select is_rewrite entries ≡ rewrites
  select-rewrite =
      rw (cut, select-append is_rewrite rewrites appends, select_all is_rewrite (on-rewrites is_rewrite true (λ i r. row_at-rewrite h.first_index xs i r)), select-none is_rewrite (on-appends is_rewrite false (λ i r. row_at-append h.first_index xs i r)))
      (append-nil rewrites)

  -- whether an entry is of queue q
  abbrev of_queue : LogQueue → EntryIndex → Bool
  of_queue q e = same_queue (file_of e).queue q

  pub count-rewrite : length (select (λ (e : EntryIndex). same_queue (file_of e).queue Rewrite) entries) ≡ h.rewrite_count
  unfolding same_queue queue_at
  count-rewrite =
      rw (cut, select-append (of_queue Rewrite) rewrites appends, select_all (of_queue Rewrite) (on-rewrites (of_queue Rewrite) true (λ i r. rw (row_at-queue h.first_index xs i (omega arith) r))), select-none (of_queue Rewrite) (on-appends (of_queue Rewrite) false (λ i r. rw (row_at-queue h.first_index xs i (omega arith) r))))
      (rw (append-nil rewrites) (length-window h.first_index h.rewrite_count xs))

  pub count-append : length (select (λ (e : EntryIndex). same_queue (file_of e).queue Append) entries) ≡ h.len - h.rewrite_count
  unfolding same_queue queue_at
  count-append =
      rw (cut, select-append (of_queue Append) rewrites appends, select-none (of_queue Append) (on-rewrites (of_queue Append) false (λ i r. rw (row_at-queue h.first_index xs i (omega arith) r))), select_all (of_queue Append) (on-appends (of_queue Append) true (λ i r. rw (row_at-queue h.first_index xs i (omega arith) r))))
      (length-window (h.first_index + h.rewrite_count) (h.len - h.rewrite_count) (drop (h.rewrite_count * 8) xs))
