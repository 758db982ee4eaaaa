-- What a merge and a join make of one group, from what the two contexts have of it alone. The older table, or none, is taken; a waiting
-- part that finishes is replayed on it and its span set; the newer tombstones of the group follow in order; the newer table is laid over.
use Rattle.std.specs.Prelude.{cond, List, [], ◌∷◌, ◌++◌, ℕ, eqb}
use Rattle.std.specs.Prelude.{Option, None, Some}
use Rattle.rules.specs.Causes.{Result, Ok, refuse, and_then, left, FilesGoBack}
use Rattle.maps.specs.Lists.{last, or_else}
use Rattle.maps.specs.MapLaws.{laid}
use Rattle.rules.specs.Items.{LogQueue, clean, compact, put, del, Content, entries, command, kv, LogItem, is_reserved, is_clean, is_tombstone, Call, replay_rewrite}
use Rattle.rules.specs.Table.{Span, Table, made, with_keys, with_span, over_keys, compacted, delete_key, spanned, change}
use Rattle.rules.specs.Context.{Part}
use Rattle.rules.specs.Waiting.{Accepted, wait, finish, back, accept, some_parts}
use Rattle.rules.specs.Calls.{clashes, clash, merge_table, join_table}

-- ---- items

-- what an item does to its own group; a reserved one is skipped
unfoldable pub changed : Call → Content → Option Table → Result (Option Table)
changed call x o = cond (is_reserved x) (Ok o) (change call x o)

-- ---- tombstones

-- what a tombstone does to its own group in every call but a live rewrite; it is never refused. No other item does anything here.
unfoldable pub effect : Content → Option Table → Option Table
effect (entries es) o = o
effect (command clean) o = None
effect (command (compact i)) o = Some (compacted i (made o))
effect (kv k (put v f)) o = o
effect (kv k del) o = Some (delete_key k (made o))

unfoldable pub effected : Content → Option Table → Option Table
effected x o = cond (is_reserved x) o (effect x o)

-- the tombstones of group g, in order
unfoldable pub tombed : ℕ → List LogItem → Option Table → Option Table
tombed g [] o = o
tombed g (x ∷ xs) o = tombed g xs (cond (eqb x.group g) (effected x.content o) o)

-- the tombstone and the cleaned number that an item adds
unfoldable pub tomb_of : LogItem → List LogItem
tomb_of it = cond (is_tombstone it.content) (it ∷ []) []

unfoldable pub clean_of : LogItem → List ℕ
clean_of it = cond (is_clean it.content) (it.group ∷ []) []

unfoldable pub cleans_of : List LogItem → List ℕ
cleans_of [] = []
cleans_of (x ∷ xs) = clean_of x ++ cleans_of xs

-- ---- waiting parts

-- the parts of a group that may have none
unfoldable pub parts_of : Option (List Part) → List Part
parts_of o = or_else [] (λ ps. ps) o

-- a new part accepted by a group's parts: those that wait afterwards
unfoldable pub waits : Accepted → Result (Option (List Part))
waits (wait ps) = Ok (some_parts ps)
waits (finish old ps) = Ok (some_parts ps)
waits back = refuse FilesGoBack

unfoldable pub accept_part : Part → Option (List Part) → Result (Option (List Part))
accept_part new o = waits (accept (parts_of o) new)

-- a finished atomic group: the items of both parts, and the files
pub record Finished : Type 0 where
  pub items : List LogItem
  pub span : Span

unfoldable pub finished_by : Part → Accepted → Option Finished
finished_by new (wait ps) = None
finished_by new (finish old ps) = Some (record { items = old.items ++ new.items; span = record { start = old.start; end = new.end } })
finished_by new back = None

-- what a merge finishes of a group: the oldest newer part may finish the newest older one, and no other can
unfoldable pub finished_of : Option (List Part) → Option (List Part) → Option Finished
finished_of newer older = or_else None (λ p. finished_by p (accept (parts_of older) p)) (last (parts_of newer))

-- Rewrite replay refuses no item
unfoldable pub replayed_items : List LogItem → Option Table → Option Table
replayed_items [] o = o
replayed_items (x ∷ xs) o = replayed_items xs (left o (changed replay_rewrite x.content o))

-- the span is set if there is an item; it makes the group
unfoldable pub finish_with : Span → List LogItem → Option Table → Result (Option Table)
finish_with s [] o = Ok o
finish_with s (x ∷ xs) o = and_then (spanned s (made (replayed_items (x ∷ xs) o))) (λ t. Ok (Some t))

unfoldable pub finish_table : Option Finished → Option Table → Result (Option Table)
finish_table None o = Ok o
finish_table (Some f) o = finish_with f.span f.items o

-- ---- the group

-- the newer table, if there is one, laid over
unfoldable pub lay_over : LogQueue → Option Table → Option Table → Result (Option Table)
lay_over q None o = Ok o
lay_over q (Some newer) o = cond (clashes q o newer) (refuse (clash q)) (Ok (Some (merge_table q o newer)))

-- group g of a merge: what finishes, the newer tombstones, the newer and the older table
unfoldable pub merged_group : LogQueue → ℕ → Option Finished → List LogItem → Option Table → Option Table → Result (Option Table)
merged_group q g f tombs newer older = and_then (finish_table f older) (λ o. lay_over q newer (tombed g tombs o))

-- group g of a join, which is never refused: the Append tombstones, the Append and the Rewrite table. A table is adopted if there is none after the tombstones.
unfoldable pub joined_group : ℕ → List LogItem → Option Table → Option Table → Option Table
joined_group g tombs newer older = laid join_table (tombed g tombs older) newer

-- a newer table's keys laid over t
unfoldable pub keys_over : Table → Table → Table
keys_over newer t = with_keys (over_keys t.keys newer.keys) t

-- a newer table's span, if it has one, replaces t's
unfoldable pub span_over : Option Span → Table → Table
span_over None t = t
span_over (Some s) t = with_span (Some s) t

-- or is refused, if files go back
unfoldable pub spanned_by : Option Span → Table → Result Table
spanned_by None t = Ok t
spanned_by (Some s) t = spanned s t
