-- A merge and a join worked group by group: the groups are staged one after the other, and the answer is read off at the end. 18 is for the
-- end state alone, so a limit that is passed does not end the work: a refusal may still come.
use Rattle.std.specs.Prelude.{Bool, true, false, cond, not, ◌&&◌, ◌||◌, List, [], ◌∷◌, ◌++◌, reverse, ◌≡◌, ℕ, leb, ltb, eqb, length}
use Rattle.std.specs.Prelude.{Option, None, Some}
use Rattle.rules.specs.Limits.{max_groups, max_tombstones, max_cleaned}
use Rattle.rules.specs.Causes.{Cause, Result, Ok, Err, refuse, and_then, in_order, LimitPassed}
use Rattle.maps.specs.Lists.{select, any, every, or_else}
use Rattle.maps.specs.Maps.{Pair, Map, lookup, insert, store, numbers}
use Rattle.rules.specs.Items.{LogQueue, LogItem, is_tombstone}
use Rattle.rules.specs.Table.{Table}
use Rattle.rules.specs.Context.{index, Part, Context, with_groups, table_fits, waiting_fits}
use Rattle.rules.specs.Calls.{clash}
use Rattle.rules_by_group.specs.Group.{Finished, accept_part, finished_of, merged_group, joined_group}

-- ---- staging

-- the groups worked so far that fit, and whether one was refused, or passed a limit
pub record Staged : Type 0 where
  pub groups : Map ℕ Table
  pub clashed : Bool
  pub passed : Bool

unfoldable pub none_staged : Staged
none_staged = record { groups = []; clashed = false; passed = false }

-- group g's result taken into the staged groups
unfoldable pub stage_result : ℕ → Result (Option Table) → Staged → Staged
stage_result g (Err r) s = record { groups = s.groups; clashed = true; passed = s.passed }
stage_result g (Ok None) s = s
stage_result g (Ok (Some t)) s =
    cond (table_fits t && ltb (length s.groups) max_groups)
    (record { groups = insert numbers g t s.groups; clashed = s.clashed; passed = s.passed })
    (record { groups = s.groups; clashed = s.clashed; passed = true })

-- a number that is staged already is passed over
unfoldable pub stage_one : (ℕ → Result (Option Table)) → ℕ → Staged → Staged
stage_one at g s = or_else (stage_result g (at g) s) (λ (t : Table). s) (lookup numbers g s.groups)

unfoldable pub stage_all : (ℕ → Result (Option Table)) → List ℕ → Staged → Staged
stage_all at [] s = s
stage_all at (g ∷ gs) s = stage_all at gs (stage_one at g s)

-- ---- the answer

-- the limits of all but the groups
unfoldable pub rest_fits : Context → Bool
rest_fits c = leb (length c.tombstones) max_tombstones && leb (length c.cleaned) max_cleaned && waiting_fits c.waiting

-- the refusal n if a group met it, else 18 if a limit is passed, else the context with the staged groups
unfoldable pub answer : Cause → Context → Staged → Result Context
answer n rest s =
    cond s.clashed
    (refuse n)
    (cond (s.passed || not (rest_fits rest)) (refuse LimitPassed) (Ok (with_groups s.groups rest)))

-- ---- a merge

-- what waits after one group's newer parts, the oldest first
unfoldable pub accept_parts_of : Pair ℕ (List Part) → Map ℕ (List Part) → Result (Map ℕ (List Part))
accept_parts_of x w = and_then (in_order accept_part (reverse x.val) (lookup numbers x.key w)) (λ o. Ok (store numbers x.key o w))

-- what waits after all newer parts, groups ascending; refused if files go back
unfoldable pub waiting_after : Map ℕ (List Part) → Map ℕ (List Part) → Result (Map ℕ (List Part))
waiting_after newer = in_order accept_parts_of newer

-- the tombstones among the items that finish, groups ascending
unfoldable pub tombs_in : Option Finished → List LogItem
tombs_in f = or_else [] (λ (x : Finished). select (λ it. is_tombstone it.content) x.items) f

unfoldable pub finished_tombs : Map ℕ (List Part) → Map ℕ (List Part) → List LogItem
finished_tombs [] older = []
finished_tombs (x ∷ xs) older = tombs_in (finished_of (Some x.val) (lookup numbers x.key older)) ++ finished_tombs xs older

-- all but the groups: the lists grow, and w waits
unfoldable pub merged_rest : Context → Map ℕ (List Part) → Context → Context
merged_rest newer w c =
    record {
      kind = c.kind;
      groups = [];
      tombstones = (c.tombstones ++ newer.tombstones) ++ finished_tombs newer.waiting c.waiting;
      cleaned = c.cleaned ++ newer.cleaned;
      waiting = w;
    }

unfoldable pub merged_at : LogQueue → Context → Context → ℕ → Result (Option Table)
merged_at q newer c g =
    merged_group q g (finished_of (lookup numbers g newer.waiting) (lookup numbers g c.waiting)) newer.tombstones (lookup numbers g newer.groups) (lookup numbers g c.groups)

-- the merge of the newer context into c, over a list of numbers
unfoldable pub merged_by : LogQueue → Context → Context → List ℕ → Result Context
merged_by q newer c gs =
    and_then (waiting_after newer.waiting c.waiting)
    (λ w. answer (clash q) (merged_rest newer w c) (stage_all (merged_at q newer c) gs none_staged))

-- ---- a join

unfoldable pub joined_rest : Context → Context → Context
joined_rest newer c = record { kind = index; groups = []; tombstones = []; cleaned = c.cleaned ++ newer.cleaned; waiting = [] }

unfoldable pub joined_at : Context → Context → ℕ → Result (Option Table)
joined_at newer c g = Ok (joined_group g newer.tombstones (lookup numbers g newer.groups) (lookup numbers g c.groups))

-- the join of the Append context `newer` to the Rewrite context c; no group is refused, so that n is never given
unfoldable pub joined_by : Cause → Context → Context → List ℕ → Result Context
joined_by n newer c gs = answer n (joined_rest newer c) (stage_all (joined_at newer c) gs none_staged)

-- ---- the numbers to stage

unfoldable pub is_in : ℕ → List ℕ → Bool
is_in g gs = any (eqb g) gs

-- the list has every number that a merge or a join of the two may give a table; it may have others, and one twice
pub record Covers (gs : List ℕ) (newer c : Context) : Type 0 where
  pub older-groups : every (λ p. is_in p.key gs) c.groups ≡ true
  pub newer-groups : every (λ p. is_in p.key gs) newer.groups ≡ true
  pub newer-tombstones : every (λ (it : LogItem). is_in it.group gs) newer.tombstones ≡ true
  pub newer-waiting : every (λ p. is_in p.key gs) newer.waiting ≡ true
