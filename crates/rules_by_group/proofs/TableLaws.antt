-- The last step of a group, by the rules of one table: a newer table's entries are one replayed list of its queue, its keys are laid
-- over, and its span is set as that of a finished part is.
-- Assumes nothing.
use Rattle.std.specs.Prelude.{◌≡◌, refl, false, cond, List, [], ◌∷◌}
use Rattle.std.proofs.Math.Path.{ap}
use Rattle.std.specs.Prelude.{Option, None, Some}
use Rattle.maps.specs.Lists.{first, map_option, or_else}
use Rattle.maps.specs.OrderLaws.{split}
use Rattle.rules.specs.Causes.{Ok, refuse, and_then, AboveLast}
use Rattle.rules.specs.Items.{LogQueue, Append, Rewrite, EntryIndex}
use Rattle.rules.specs.Table.{Span, Table, made, with_entries, with_keys, with_span, first_index_of, over, appended, replayed_rewrite, span_goes_back, spanned}
use Rattle.rules.specs.Calls.{clashes, clash, over_of, merge_table, join_table}
use Rattle.rules_by_group.specs.Group.{lay_over, keys_over, span_over, spanned_by}

-- a newer table laid over: entries, keys, span
merged_by_lem : (q : LogQueue) (newer : Table) (o : Option Table) (s : Option Span) → newer.span ≡ s → merge_table q o newer ≡ span_over newer.span (keys_over newer (over_of q (made o) newer))
unfolding merge_table span_over keys_over with_span with_keys over_of with_entries or_else
merged_by_lem Append newer o None e = rw e
merged_by_lem Append newer o (Some s) e = rw e
merged_by_lem Rewrite newer o None e = rw e
merged_by_lem Rewrite newer o (Some s) e = rw e

-- ---- Append

append-entries : (newer : Table) (o : Option Table) (es : List EntryIndex) → newer.entries ≡ es → cond (clashes Append o newer) (refuse AboveLast) (Ok (over_of Append (made o) newer)) ≡ appended false newer.entries (made o)
unfolding clashes over_of first_index_of first map_option or_else appended over with_entries
append-entries newer o [] e = rw e
append-entries newer o (h ∷ hs) e = rw e

-- an Append table is laid over as its entries are replayed
pub lay-append : (newer : Table) (o : Option Table) → lay_over Append (Some newer) o ≡ and_then (appended false newer.entries (made o)) (λ t. Ok (Some (span_over newer.span (keys_over newer t))))
unfolding lay_over clash
lay-append newer o =
    split (clashes Append o newer)
    (λ c. rw (← (append-entries newer o newer.entries refl), c) (unfold and_then in refl))
    (λ c. rw (← (append-entries newer o newer.entries refl), c) (unfold and_then in ap (λ t. Ok (Some t)) (merged_by_lem Append newer o newer.span refl)))

-- ---- Rewrite

rewrite_by : (newer : Table) (o : Option Table) (s : Option Span) → newer.span ≡ s → lay_over Rewrite (Some newer) o ≡ and_then (spanned_by newer.span (keys_over newer (replayed_rewrite newer.entries (made o)))) (λ t. Ok (Some t))
unfolding lay_over clashes clash or_else spanned_by spanned merge_table keys_over with_span with_keys over_of with_entries replayed_rewrite and_then
rewrite_by newer o None e = rw e
rewrite_by newer o (Some s) e = rw e (split (span_goes_back (made o).span s) (λ b. rw b) (λ b. rw b))

-- a Rewrite table is laid over as its entries are replayed and its span set
pub lay-rewrite : (newer : Table) (o : Option Table) → lay_over Rewrite (Some newer) o ≡ and_then (spanned_by newer.span (keys_over newer (replayed_rewrite newer.entries (made o)))) (λ t. Ok (Some t))
lay-rewrite newer o = rewrite_by newer o newer.span refl

-- ---- the join

-- an Append table that is not adopted is laid over, a gap dropping all
pub join-over : (newer older : Table) → join_table (Some older) newer ≡ keys_over newer (replayed_rewrite newer.entries older)
unfolding join_table keys_over replayed_rewrite with_keys with_entries
join-over newer older = refl
