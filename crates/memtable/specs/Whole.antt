-- What is asked of entries and keys together.
use Rattle.std.specs.Prelude.{Option, Bool, List, ◌≡◌, refl, ℕ}
use Rattle.std.proofs.Common.{sym, ap, ◌∙◌}
use Rattle.kvs.specs.Rows.{keys_in}
use Rattle.kvs.specs.Calls.{LeastSeq}
use Rattle.rules.specs.Items.{LogQueue}
use Rattle.rules.specs.TableQueries.{min_file_seq}
use Rattle.memtable.specs.declared.Head.{Head}
use Rattle.memtable.specs.Views.{table_of}
use Rattle.memtable.specs.Queries.{min_seq}
use Rattle.memtable.specs.RuleLaws.{min_seq-min_file_seq}

-- `min_file_seq` of the table, whatever bytes its keys have
abbrev pub MinFileSeq : Head → List ℕ → ℕ → List ℕ → LogQueue → Option ℕ → Type 0
MinFileSeq h xs n rows q r = (bs : List ℕ) (counted : Bool) → r ≡ min_file_seq q (table_of h xs (keys_in n rows bs) counted)

-- it is that of the entries with the least sequence number of the keys beside them
pub min_of-keys : (h : Head) (xs : List ℕ) (n : ℕ) (rows : List ℕ) (q : LogQueue) (l : Option ℕ) → LeastSeq n rows q l → (bs : List ℕ) (counted : Bool) → min_seq q h xs l ≡ min_file_seq q (table_of h xs (keys_in n rows bs) counted)
min_of-keys h xs n rows q l e bs counted =
    ap (min_seq q h xs) (sym (e (table_of h xs (keys_in n rows bs) counted) bs (unfold table_of in refl))) ∙ min_seq-min_file_seq q h xs (keys_in n rows bs) counted
