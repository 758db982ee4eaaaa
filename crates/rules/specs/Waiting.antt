-- Waiting parts of Rewrite replay: `accept_new_group`.
use Rattle.std.specs.Prelude.{cond, not, List, [], ◌∷◌, ◌++◌, map, reverse, ℕ, leb}
use Rattle.std.specs.Prelude.{Option, None, Some}
use Rattle.rules.specs.Causes.{Result, Ok, refuse, and_then, in_order, FilesGoBack}
use Rattle.maps.specs.Lists.{select, or_else}
use Rattle.maps.specs.Maps.{Pair, Map, lookup, insert, store, numbers}
use Rattle.rules.specs.Items.{Placed, placed_at, is_mark, Status, begin, middle, end, status_of, replay_rewrite}
use Rattle.rules.specs.Checks.{Mark}
use Rattle.rules.specs.Table.{Span, made, spanned}
use Rattle.rules.specs.Context.{Part, Context, with_groups, with_waiting, Judge, limited, unjudged, run}

-- what becomes of a group's waiting parts, newest first, when a new part is accepted
pub data Accepted : Type 0 where
  -- these parts wait afterwards; the new one may have been dropped
  wait : List Part → Accepted
  -- these parts wait afterwards, and the new one finishes this one
  finish : Part → List Part → Accepted
  -- files go back
  back : Accepted

-- the new part joins the one that waits
unfoldable pub joined : Status → Part → Part → List Part → Accepted
joined s old new ps =
    cond (leb old.end new.start)
    (wait (record { status = s; items = old.items ++ new.items; start = old.start; end = new.end } ∷ ps))
    back

-- by the statuses of the newest waiting part and of the new one; ps are the older parts
unfoldable pub accept_by : Status → Status → Part → Part → List Part → Accepted
accept_by begin begin old new ps = wait (new ∷ ps)
accept_by middle begin old new ps = wait (new ∷ ps)
accept_by end begin old new ps = wait (new ∷ old ∷ ps)
accept_by begin middle old new ps = joined begin old new ps
accept_by middle middle old new ps = joined middle old new ps
accept_by end middle old new ps = wait (old ∷ ps)
accept_by begin end old new ps = cond (leb old.end new.start) (finish old ps) back
accept_by middle end old new ps = joined end old new ps
accept_by end end old new ps = wait (old ∷ ps)

unfoldable pub accept : List Part → Part → Accepted
accept [] new = wait (new ∷ [])
accept (p ∷ ps) new = accept_by p.status new.status p new ps

-- a group with no part left does not wait
unfoldable pub some_parts : List Part → Option (List Part)
some_parts [] = None
some_parts (p ∷ ps) = Some (p ∷ ps)

unfoldable pub set_waiting : ℕ → List Part → Context → Context
set_waiting g ps c = with_waiting (store numbers g (some_parts ps) c.waiting) c

-- the span of a finished atomic group, which makes the group if it is absent
unfoldable pub set_span : Judge → Option ℕ → ℕ → Span → Context → Result Context
set_span judge p g s c =
    and_then (spanned s (made (lookup numbers g c.groups))) (λ t. judge p (with_groups (insert numbers g t c.groups) c))

-- both parts' items are replayed; the span is set if there is one
unfoldable pub finish_group : Judge → Option ℕ → ℕ → Span → List Placed → Context → Result Context
finish_group judge p g s [] c = Ok c
finish_group judge p g s (x ∷ xs) c = and_then (run judge replay_rewrite (x ∷ xs) c) (set_span judge p g s)

unfoldable pub become : Judge → Option ℕ → ℕ → Part → List Placed → Context → Accepted → Result Context
become judge p g new items c (wait ps) = judge p (set_waiting g ps c)
become judge p g new items c back = refuse FilesGoBack
become judge p g new items c (finish old ps) =
    finish_group judge p g (record { start = old.start; end = new.end }) (placed_at p old.items ++ items) (set_waiting g ps c)

-- a new part of group g, with its items at their places; p is the mark's place
unfoldable pub accept_new_group : Judge → Option ℕ → ℕ → Part → List Placed → Context → Result Context
accept_new_group judge p g new items c =
    become judge p g new items c (accept (or_else [] (λ ps. ps) (lookup numbers g c.waiting)) new)

-- the part of a marked batch from file seq: its items but the mark
unfoldable pub part_of : ℕ → ℕ → List Placed → Part
part_of byte seq xs = record { status = status_of byte; items = map (λ (x : Placed). x.item) xs; start = seq; end = seq }

unfoldable pub replay_marked : Mark → ℕ → List Placed → Context → Result Context
replay_marked m seq xs c = accept_new_group limited (Some m.at) m.group (part_of m.byte seq items) items c
  where
    items : List Placed
    items = select (λ x. not (is_mark x.item)) xs

-- the waiting parts of a newer context: groups ascending, and in a group oldest first
unfoldable pub accept_parts : Pair ℕ (List Part) → Context → Result Context
accept_parts x = in_order (λ p. accept_new_group unjudged None x.key p (placed_at None p.items)) (reverse x.val)

unfoldable pub accept_all : Map ℕ (List Part) → Context → Result Context
accept_all = in_order accept_parts
