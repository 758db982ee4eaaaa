-- The definitions of this crate that leave the keys or the lent records out, as the rules' own. Assumes nothing.
use Rattle.std.specs.Prelude.{Bool, List, ◌≡◌, ℕ, ◌+◌, length}
use Rattle.std.proofs.Math.Path.{refl}
use Rattle.maps.specs.Maps.{Map}
use Rattle.pipe_log.specs.Rows.{window}
use Rattle.rules.specs.Causes.{Result}
use Rattle.rules.specs.Items.{LogQueue, EntryIndex}
use Rattle.rules.specs.Queries.{answered}
use Rattle.rules.specs.Table.{Held}
use Rattle.rules.specs.TableQueries.{keys_of, least_seq, least_file, min_file_seq, live_of}
use Rattle.memtable.specs.declared.Head.{Head}
use Rattle.memtable.specs.Views.{table_of}
use Rattle.memtable.specs.Columns.{judged}
use Rattle.memtable.specs.Queries.{front_seq, min_seq, entry_count}

-- 19, by the lent list's length
pub judged-answered : (lent : List EntryIndex) (r : Result (List EntryIndex)) → judged (length lent) r ≡ answered lent r
unfolding judged answered
judged-answered lent r = refl

module _ (q : LogQueue) (h : Head) (xs : List ℕ) (keys : Map (List ℕ) Held) (counted : Bool) where
  -- `min_file_seq`, where the least of the queue's keys is handed in
  pub min_seq-min_file_seq : min_seq q h xs (least_seq (keys_of q (table_of h xs keys counted))) ≡ min_file_seq q (table_of h xs keys counted)
  unfolding min_seq front_seq min_file_seq least_file table_of
  min_seq-min_file_seq = refl

  -- the live count of a group: its entries and its keys
  pub entry_count-live_of : entry_count q (window h.first_index h.len xs) + length (keys_of q (table_of h xs keys counted)) ≡ live_of q (table_of h xs keys counted)
  unfolding entry_count live_of table_of
  entry_count-live_of = refl
