-- Lists of entries that meet none of 3 to 6, by their rows.
use Rattle.std.specs.Prelude.{Bool, true, false, ◌&&◌, List, ℕ, zero, suc, ◌+◌, ◌*◌, ◌^◌, eqb, leb, ltb, get_or, drop}
use Rattle.cells.specs.Part.{part}
use Rattle.pipe_log.specs.Numbers.{queue_number}
use Rattle.pipe_log.specs.Rows.{entry_width}
use Rattle.pipe_log.specs.declared.LogQueue.{LogQueue}
use Rattle.rules.specs.Limits.{max_entry_len}
use Rattle.log_batch.specs.declared.item.LogItemContent as content

-- whether the first row is a record of queue q at index i whose entry length is in range
unfoldable pub plain_row : ℕ → ℕ → List ℕ → Bool
plain_row q i xs =
    eqb (get_or xs 0 0) i && (eqb (get_or xs 1 0) q && (ltb (get_or xs 5 0) 2 && (leb (get_or xs 7 0) max_entry_len && ltb (get_or xs 6 0) (2 ^ 32))))

-- the first n rows are such records, at the indexes from i on
unfoldable pub plain_rows : ℕ → ℕ → ℕ → List ℕ → Bool
plain_rows q i zero xs = true
plain_rows q i (suc n) xs = plain_row q i xs && plain_rows q (suc i) n (drop entry_width xs)

-- there is a row, and no index is above 2^63 − 1
unfoldable pub plain_list : ℕ → ℕ → List ℕ → Bool
plain_list q n xs = ltb 0 n && (leb (get_or xs 0 0 + n) (2 ^ 63) && plain_rows q (get_or xs 0 0) n xs)

unfoldable pub plain_content : LogQueue → content.LogItemContent → List ℕ → Bool
plain_content q (content.TheVariants.EntryIndexes e) entries =
    plain_list (queue_number q) e.count (part (e.at * entry_width) (e.count * entry_width) entries)
plain_content q (content.TheVariants.Command c) entries = false
plain_content q (content.TheVariants.Kv k) entries = false
