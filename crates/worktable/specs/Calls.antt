-- What the functions of the work table ask and promise.
use Rattle.std.specs.Prelude.{true, false, List, ◌≡◌, ℕ, ◌≤◌}
use Rattle.std.specs.Prelude.{Option, None, Some}
use Rattle.maps.specs.Lists.{every}
use Rattle.maps.specs.MapLaws.{laid}
use Rattle.pipe_log.specs.Rows.{window}
use Rattle.rules.specs.Causes.{ByCause, Result, Ok, and_then, left}
use Rattle.rules.specs.Items.{LogQueue, Append, Rewrite, EntryIndex, file_of, same_queue, is_rewrite}
use Rattle.rules.specs.Table.{Span, Table, made, appended, replayed_rewrite}
use Rattle.rules.specs.Calls.{join_table}
use Rattle.rules_by_group.specs.Group.{lay_over}
use Rattle.rules_by_group.specs.Kept.{Within}
use Rattle.rules_by_group.specs.Group.{keys_over, span_over, spanned_by}
use Rattle.memtable.specs.declared.Head.{Head}
use Rattle.stretch.specs.Stretch.{head_part, entry_rows, table_at}
use Rattle.stretch.specs.Changes.{rule_of, Ready, outcome_as}
use Rattle.deeds.specs.declared.Deed as deed
use Rattle.worktable.specs.declared.Mode.{Mode}
use Rattle.worktable.specs.declared.Mode.TheVariants as mode
use Rattle.worktable.specs.Work.{long_keys_at, long_entries, long_keys, work_in, Wf, Stands}

-- the table has become o
pub record Becomes (o : Option Table) (p b : List ℕ) : Type 0 where
  pub is : work_in p b ≡ o
  pub wf : Wf p b

-- the answer with the table, or the refusal; refused, nothing is said of the table
pub record Ends (x : Result (Option Table)) (r : ByCause (Unit {0})) (p b : List ℕ) : Type 0 where
  pub rule : outcome_as r (work_in p b) ≡ x
  pub wf : Wf p b

-- ---- an item's deed

-- what it does to the table
unfoldable pub deed_to : deed.Deed → List ℕ → List ℕ → List ℕ → Option Table → Result (Option Table)
deed_to deed.TheVariants.Skip rows key value o = Ok o
deed_to deed.TheVariants.Clean rows key value o = Ok None
deed_to (deed.TheVariants.Change ch) rows key value o = and_then (rule_of ch rows key value (made o)) (λ t. Ok (Some t))

-- what it asks of what is lent with it, and of the table
unfoldable pub ReadyTo : deed.Deed → List ℕ → List ℕ → List ℕ → Option Table → Type 0
ReadyTo deed.TheVariants.Skip rows key value o = Unit {0}
ReadyTo deed.TheVariants.Clean rows key value o = Unit {0}
ReadyTo (deed.TheVariants.Change ch) rows key value o = Ready ch rows key value (made o)

-- a deed that is not refused, and whose result there is room for
pub record Taken (d : deed.Deed) (rows key value : List ℕ) (o : Option Table) : Type 0 where
  pub ready : ReadyTo d rows key value o
  pub taken : deed_to d rows key value o ≡ Ok (left o (deed_to d rows key value o))
  pub room : Within long_entries long_keys (left o (deed_to d rows key value o))

-- ---- a newer table laid over

-- a newer table laid over by the merge of a queue, or by the join
unfoldable pub laid_over : Mode → Table → Option Table → Result (Option Table)
laid_over mode.Append newer o = lay_over Append (Some newer) o
laid_over mode.Rewrite newer o = lay_over Rewrite (Some newer) o
laid_over mode.Join newer o = Ok (laid join_table o (Some newer))

-- the queue that the newer table's entries are of
unfoldable pub newer_queue : Mode → LogQueue
newer_queue mode.Append = Append
newer_queue mode.Rewrite = Rewrite
newer_queue mode.Join = Append

abbrev pub AllOf : LogQueue → List EntryIndex → Type 0
AllOf q es = every (λ (e : EntryIndex). same_queue (file_of e).queue q) es ≡ true

-- Rewrite entries are laid over Rewrite entries alone
unfoldable pub OlderFor : Mode → Option Table → Type 0
OlderFor mode.Append o = Unit {0}
OlderFor mode.Rewrite o = every is_rewrite (made o).entries ≡ true
OlderFor mode.Join o = Unit {0}

-- what laying over asks: the newer table's queue, the older one's, and room
pub record Layable (m : Mode) (newer : Table) (o : Option Table) : Type 0 where
  pub newer-of : AllOf (newer_queue m) newer.entries
  pub older-of : OlderFor m o
  pub room : Within 320 144 o

-- ---- its steps, on a table that is there

-- the entries that a group's stretch has
abbrev pub entries_held : List ℕ → List EntryIndex
entries_held q = window (head_part q).first_index (head_part q).len (entry_rows q)

unfoldable pub entries_over : Mode → List EntryIndex → Table → Result Table
entries_over mode.Append es t = appended false es t
entries_over mode.Rewrite es t = Ok (replayed_rewrite es t)
entries_over mode.Join es t = Ok (replayed_rewrite es t)

-- the older entries, said of the head
unfoldable pub HeadFor : Mode → Head → Type 0
HeadFor mode.Append h = Unit {0}
HeadFor mode.Rewrite h = h.len ≤ h.rewrite_count
HeadFor mode.Join h = Unit {0}

unfoldable pub span_laid : Mode → Option Span → Table → Result Table
span_laid mode.Append s t = Ok (span_over s t)
span_laid mode.Rewrite s t = spanned_by s t
span_laid mode.Join s t = Ok t

unfoldable pub table_over : Mode → Table → Table → Result Table
table_over m newer t = and_then (entries_over m newer.entries t) (λ u. span_laid m newer.span (keys_over newer u))

-- the table that is there at exit, or the refusal
pub record TableEnds (x : Result Table) (r : ByCause (Unit {0})) (p b : List ℕ) : Type 0 where
  pub rule : outcome_as r (table_at long_keys_at p b) ≡ x
  pub stands : Stands (table_at long_keys_at p b) p b
