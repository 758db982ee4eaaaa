-- The three calls as modes of one work: what becomes of a group, what the rest becomes, and the refusal that a group may meet.
use Rattle.std.specs.Prelude.{Some, None, List, [], ◌∷◌, ◌++◌, ◌≡◌, Bool, cond, ◌&&◌, ℕ, zero, suc, ◌+◌, ◌*◌, ◌-◌, ◌≤◌, eqb, leb, ltb, get_or, drop}
use Rattle.std.specs.Prelude.{Option}
use Rattle.rules.specs.Causes.{Cause, Result}
use Rattle.rules.specs.Items.{Append, Rewrite}
use Rattle.rules.specs.Table.{Table}
use Rattle.rules.specs.Context.{Kind, context, Context}
use Rattle.rules.specs.Calls.{clash, merge, join}
use Rattle.rules_by_group.specs.Stage.{none_staged, stage_all, merged_rest, merged_at, joined_rest, joined_at, Covers}
use Rattle.stretch.specs.Stretch.{is_used, group_in}
use Rattle.groups.specs.Area.{numbers_in_use, stretch_at}
use Rattle.lists.specs.declared.Counts.{Counts}
use Rattle.contexts.specs.Contexts.{waiting_numbers, context_of, Wf}
use Rattle.worktable.specs.declared.Mode.{Mode}
use Rattle.worktable.specs.declared.Mode.TheVariants as mode
use Rattle.staging.specs.declared.Flags.{Flags}
use Rattle.staging.specs.Staging.{staged_in}

-- the kinds of the older and of the newer context
unfoldable pub older_kind : Mode → Kind
older_kind mode.Append = context Append
older_kind mode.Rewrite = context Rewrite
older_kind mode.Join = context Rewrite

unfoldable pub newer_kind : Mode → Kind
newer_kind mode.Append = context Append
newer_kind mode.Rewrite = context Rewrite
newer_kind mode.Join = context Append

-- what becomes of group g
unfoldable pub group_by : Mode → Context → Context → ℕ → Result (Option Table)
group_by mode.Append newer c = merged_at Append newer c
group_by mode.Rewrite newer c = merged_at Rewrite newer c
group_by mode.Join newer c = joined_at newer c

-- all but the groups
unfoldable pub rest_by : Mode → Context → Context → Context
rest_by mode.Append newer c = merged_rest newer c.waiting c
rest_by mode.Rewrite newer c = merged_rest newer c.waiting c
rest_by mode.Join newer c = joined_rest newer c

-- what a group's refusal is; a join has none
unfoldable pub clash_by : Mode → Cause
clash_by mode.Append = clash Append
clash_by mode.Rewrite = clash Rewrite
clash_by mode.Join = clash Append

-- the rules' call
unfoldable pub call_by : Mode → Context → Context → Result Context
call_by mode.Append newer c = merge newer c
call_by mode.Rewrite newer c = merge newer c
call_by mode.Join newer c = join newer c

-- what holds of the two areas: the older one, and the newer one, which is only read
pub record Given (m : Mode) (xs bs ys cs : List ℕ) : Type 0 where
  pub wf : Wf xs bs
  pub newer-wf : Wf ys cs
  pub kind : (context_of xs bs).kind ≡ older_kind m
  pub newer-kind : (context_of ys cs).kind ≡ newer_kind m

-- the same, and nothing waits in the newer context
pub record Plain (m : Mode) (xs bs ys cs : List ℕ) : Type 0 where
  pub given : Given m xs bs ys cs
  pub none-waits : (context_of ys cs).waiting ≡ []

-- all groups are staged
pub record Worked (m : Mode) (f : Flags) (xs bs ys cs : List ℕ) : Type 0 where
  pub numbers : List ℕ
  pub cover : Covers numbers (context_of ys cs) (context_of xs bs)
  pub staged : staged_in f xs bs ≡ stage_all (group_by m (context_of ys cs) (context_of xs bs)) numbers none_staged

-- ---- the limits of the lists

-- whether lists of so many elements may become one; a join has no tombstones
unfoldable pub counts_fit : Mode → Counts → Counts → Bool
counts_fit mode.Append o n = leb (o.tombstones + n.tombstones) 64 && leb (o.cleaned + n.cleaned) 64
counts_fit mode.Rewrite o n = leb (o.tombstones + n.tombstones) 64 && leb (o.cleaned + n.cleaned) 64
counts_fit mode.Join o n = leb (o.cleaned + n.cleaned) 64

-- the numbers of elements that the lists of an area have
unfoldable pub counts_of : List ℕ → Counts
counts_of xs = record { tombstones = get_or (drop numbers_in_use xs) 1 0; cleaned = get_or (drop numbers_in_use xs) 2 0 }

-- at most so many as there may be
pub record Few (n : Counts) : Type 0 where
  pub tombstones : n.tombstones ≤ 64
  pub cleaned : n.cleaned ≤ 64

-- ---- the numbers to stage

-- the group of stretch k, if it is used
unfoldable pub stretch_number : ℕ → List ℕ → List ℕ
stretch_number k xs = cond (is_used (stretch_at k xs)) (group_in (stretch_at k xs) ∷ []) []

-- the group of tombstone j of the lists ys, if there are so many
unfoldable pub tombstone_number : ℕ → List ℕ → List ℕ
tombstone_number j ys = cond (ltb j (get_or ys 1 0)) (get_or ys (67 + j * 9) 0 ∷ []) []

-- the group of cell k of a room, if it has parts
unfoldable pub waiting_number : ℕ → List ℕ → List ℕ
waiting_number k ws = cond (eqb (get_or ws (2 + k * 10) 0) 0) [] (get_or ws (2 + k * 10 + 1) 0 ∷ [])

-- place i: the older stretches, the newer stretches, the newer tombstones, the newer cells of waiting parts
unfoldable pub number_at : List ℕ → List ℕ → ℕ → List ℕ
number_at xs ys i =
    cond (ltb i 8) (stretch_number i xs)
    (cond (ltb i 16) (stretch_number (i - 8) ys)
    (cond (ltb i 80) (tombstone_number (i - 16) (drop numbers_in_use ys)) (waiting_number (i - 80) (waiting_numbers ys))))

-- the numbers of the first n places
unfoldable pub firsts : (ℕ → List ℕ) → ℕ → List ℕ
firsts f zero = []
firsts f (suc n) = firsts f n ++ f n

abbrev pub place_count : ℕ
place_count = 96

-- the number that was found, if any
unfoldable pub numbers_of : Option ℕ → List ℕ
numbers_of None = []
numbers_of (Some g) = g ∷ []
