-- `compact_to`: what its answer says.
use Rattle.std.specs.Prelude.{Bool, List, ◌≡◌, ℕ, ◌+◌, ◌*◌}
use Rattle.cells.specs.Part.{part, put}
use Rattle.maps.specs.Maps.{Map}
use Rattle.rules.specs.Table.{Held, compacted, compacted_count}
use Rattle.memtable.specs.declared.Head.{Head}
use Rattle.memtable.specs.declared.Compacted.{Compacted}
use Rattle.memtable.specs.Views.{table_of, Wf}

-- of head h and part xs, compacted to index i; ys is the part at exit. The rows that are kept move to the front.
pub record Compaction (h : Head) (xs : List ℕ) (i : ℕ) (r : Compacted) (ys : List ℕ) : Type 0 where
  pub rule : (keys : Map (List ℕ) Held) (counted : Bool) → table_of r.head ys keys counted ≡ compacted i (table_of h xs keys counted)
  pub count : (keys : Map (List ℕ) Held) (counted : Bool) → r.count ≡ compacted_count i (table_of h xs keys counted)
  pub first : r.head.first_index ≡ h.first_index + r.count
  pub rows : ys ≡ put xs 0 (part (r.count * 8) (r.head.len * 8) xs)
  pub wf : Wf r.head ys
