-- The two contexts stay while groups are worked and staged, and the places have every number that may get a table.
-- Assumes nothing.
use Rattle.std.specs.Prelude.{true, false, not, ◌||◌, List, [], ◌≡◌, refl, ℕ, ◌+◌, ◌≤◌, ◌<◌, drop}
use Rattle.std.proofs.Common.{sym, ◌∙◌, arith, length-drop}
use Rattle.std.proofs.Math.Path.{ap}
use Rattle.cells.specs.Part.{part}
use Rattle.cells.specs.PartLaws.{part-drop, part-part}
use Rattle.maps.specs.Maps.{Map}
use Rattle.rules.specs.Causes.{Cause, Result, Ok, Err, refuse, in_order, LimitPassed}
use Rattle.rules.specs.Items.{Append, Rewrite}
use Rattle.rules.specs.Context.{Part, Context, with_groups}
use Rattle.rules.specs.Calls.{clash}
use Rattle.rules_by_group.specs.Kept.{Kept}
use Rattle.rules_by_group.specs.Stage.{none_staged, stage_all, rest_fits, answer, waiting_after, merged_rest, merged_by, joined_by, Covers}
use Rattle.rules_by_group.proofs.StageLaws.{answer-clashed, answer-passed, answer_ok}
use Rattle.rules_by_group.proofs.ByGroupLaws.{merge_by-group, merged-waiting, merged_back, join_by-group}
use Rattle.rules_by_group.proofs.WaitingLaws.{waiting-refused}
use Rattle.rules_by_group.proofs.KeptLaws.{merge-kept, join_kept}
use Rattle.groups.specs.Area.{slots, numbers_in_use, bytes_in_use, groups_of}
use Rattle.groups.specs.AreaLaws.{Same, same-groups, same_wf, same-stretch, same_bytes}
use Rattle.groups.specs.Undo.{live_numbers, live_bytes}
use Rattle.lists.specs.SameLaws.{rest_same, wf_same}
use Rattle.contexts.specs.Contexts.{rest_at, context_of, Wf, RoomKept}
use Rattle.contexts.specs.AreaLaws.{room_wf}
use Rattle.worktable.specs.declared.Mode.{Mode}
use Rattle.worktable.specs.declared.Mode.TheVariants as mode
use Rattle.staging.specs.declared.Flags.{Flags}
use Rattle.staging.specs.Staging.{between, between_bytes, staged_in, Beside}
use Rattle.staging.specs.Modes.{older_kind, newer_kind, group_by, rest_by, clash_by, call_by, Given, Plain, Worked}

-- ---- the context stays

-- what lies within a part that stays
within_same : (a n b m : ℕ) (xs xs' : List ℕ) → b + m ≤ n → part a n xs' ≡ part a n xs → part (a + b) m xs' ≡ part (a + b) m xs
within_same a n b m xs xs' h e = sym (part-part b m a n xs' h) ∙ ap (part b m) e ∙ part-part b m a n xs h

lists_same : (a n m : ℕ) (xs xs' : List ℕ) → m ≤ n → part a n xs' ≡ part a n xs → part 0 m (drop a xs') ≡ part 0 m (drop a xs)
lists_same a n m xs xs' h e =
    part-drop 0 m a xs' ∙ within_same a n 0 m xs xs' (omega arith) e ∙ sym (part-drop 0 m a xs)

module _ {xs bs xs' bs' : List ℕ} (b : Beside xs bs xs' bs') (w : Wf xs bs) where
  live_same : (j : ℕ) → j < slots → Same j xs bs xs' bs'
  live_same j l =
      record {
        numbers = sym (same-stretch j live_numbers xs' xs (omega arith) b.live);
        bytes = sym (same_bytes j live_bytes bs' bs (omega arith) b.live-bytes);
      }

  numbers-lists : part 0 643 (drop numbers_in_use xs') ≡ part 0 643 (drop numbers_in_use xs)
  unfolding between
  numbers-lists = lists_same 9376 4133 643 xs xs' (omega arith) b.middle

  bytes-lists : part 0 4096 (drop bytes_in_use bs') ≡ part 0 4096 (drop bytes_in_use bs)
  unfolding between_bytes
  bytes-lists = lists_same 16384 12288 4096 bs bs' (omega arith) b.middle-bytes

  room_same : RoomKept xs bs xs' bs'
  unfolding between between_bytes
  room_same =
      record {
        numbers = within_same 9376 4133 643 3490 xs xs' (omega arith) b.middle;
        bytes = within_same 16384 12288 4096 8192 bs bs' (omega arith) b.middle-bytes;
      }

  pub beside-context : context_of xs' bs' ≡ context_of xs bs
  unfolding context_of rest_at
  beside-context =
      rw (sym (same-groups live_same), rest_same (drop numbers_in_use xs) (drop bytes_in_use bs) (drop numbers_in_use xs') (drop bytes_in_use bs') numbers-lists bytes-lists w.rest, room_same.numbers, room_same.bytes)

  pub beside_wf : Wf xs' bs'
  beside_wf =
      let m = b.numbers-length in
      let n = b.bytes-length in
      record {
        groups = same_wf live_same w.groups (omega (arith, w.groups.numbers_fit)) (omega (arith, w.groups.bytes_fit));
        rest = wf_same (drop numbers_in_use xs) (drop bytes_in_use bs) (drop numbers_in_use xs') (drop bytes_in_use bs') numbers-lists bytes-lists w.rest (rw (length-drop numbers_in_use xs', length-drop numbers_in_use xs, m)) (rw (length-drop bytes_in_use bs', length-drop bytes_in_use bs, n));
        waiting = room_wf xs bs xs' bs' room_same w.waiting;
        kept = rw beside-context w.kept;
      }

pub beside-given : (m : Mode) (xs bs xs' bs' ys cs : List ℕ) → Beside xs bs xs' bs' → Given m xs bs ys cs → Given m xs' bs' ys cs
beside-given m xs bs xs' bs' ys cs b g =
    record {
      wf = beside_wf b g.wf;
      newer-wf = g.newer-wf;
      kind = ap (λ (c : Context). c.kind) (beside-context b g.wf) ∙ g.kind;
      newer-kind = g.newer-kind;
    }

-- ---- the rules' call, read off the staged groups

-- nothing is accepted where nothing waits
none_after : (older newer : Map ℕ (List Part)) → newer ≡ [] → waiting_after newer older ≡ Ok older
unfolding waiting_after in_order
none_after older newer e = rw e

module _ (newer c : Context) (gs : List ℕ) (kn : Kept newer) (kc : Kept c) (v : Covers gs newer c) (none : newer.waiting ≡ []) where
  pub call-answer : (m : Mode) → newer.kind ≡ newer_kind m → c.kind ≡ older_kind m → call_by m newer c ≡ answer (clash_by m) (rest_by m newer c) (stage_all (group_by m newer c) gs none_staged)
  unfolding call_by rest_by clash_by group_by newer_kind older_kind
  call-answer mode.Append n o = merge_by-group Append newer c gs kn kc n o v ∙ merged-waiting Append newer c gs c.waiting (none_after c.waiting newer.waiting none)
  call-answer mode.Rewrite n o = merge_by-group Rewrite newer c gs kn kc n o v ∙ merged-waiting Rewrite newer c gs c.waiting (none_after c.waiting newer.waiting none)
  call-answer mode.Join n o = join_by-group (clash Append) newer c gs kn kc n o v ∙ (unfold joined_by in refl)

pub call_kept : (m : Mode) (newer c d : Context) → Kept newer → Kept c → call_by m newer c ≡ Ok d → Kept d
unfolding call_by
call_kept mode.Append newer c d kn kc e = merge-kept newer c kn kc d e
call_kept mode.Rewrite newer c d kn kc e = merge-kept newer c kn kc d e
call_kept mode.Join newer c d kn kc e = join_kept newer c kn kc d e

module _ (m : Mode) (f : Flags) (xs bs ys cs : List ℕ) (g : Plain m xs bs ys cs) (w : Worked m f xs bs ys cs) where
  pub worked-answer : call_by m (context_of ys cs) (context_of xs bs) ≡ answer (clash_by m) (rest_by m (context_of ys cs) (context_of xs bs)) (staged_in f xs bs)
  worked-answer =
      call-answer (context_of ys cs) (context_of xs bs) w.numbers g.given.newer-wf.kept g.given.wf.kept w.cover g.none-waits m g.given.newer-kind g.given.kind
      ∙ ap (answer (clash_by m) (rest_by m (context_of ys cs) (context_of xs bs))) (sym w.staged)

-- two Rewrite contexts: what waits is accepted first
module _ (f : Flags) (xs bs ys cs : List ℕ) (g : Given mode.Rewrite xs bs ys cs) (w : Worked mode.Rewrite f xs bs ys cs) where
  abbrev newer : Context
  newer = context_of ys cs

  abbrev older : Context
  older = context_of xs bs

  by-group : call_by mode.Rewrite newer older ≡ merged_by Rewrite newer older w.numbers
  unfolding call_by newer_kind older_kind
  by-group = merge_by-group Rewrite newer older w.numbers g.newer-wf.kept g.wf.kept g.newer-kind g.kind w.cover

  -- the refusal of what waits is that of the call
  pub waits_back : (x : Cause) → waiting_after newer.waiting older.waiting ≡ refuse x → call_by mode.Rewrite newer older ≡ refuse x
  waits_back x e = by-group ∙ merged_back Rewrite newer older w.numbers _ e ∙ ap Err (sym (waiting-refused newer.waiting older.waiting _ e))

  pub waits-answer : (v : Map ℕ (List Part)) → waiting_after newer.waiting older.waiting ≡ Ok v → call_by mode.Rewrite newer older ≡ answer (clash_by mode.Rewrite) (merged_rest newer v older) (staged_in f xs bs)
  unfolding group_by clash_by
  waits-answer v e =
      by-group ∙ merged-waiting Rewrite newer older w.numbers v e ∙ ap (answer (clash Rewrite) (merged_rest newer v older)) (sym w.staged)

-- ---- the answer, as it is told at the end

module _ (n : Cause) (rest : Context) (f : Flags) (xs bs : List ℕ) (r : Result Context) (a : r ≡ answer n rest (staged_in f xs bs)) where
  pub answered-clashed : f.clashed ≡ true → r ≡ refuse n
  unfolding staged_in
  answered-clashed e = a ∙ answer-clashed n rest (staged_in f xs bs) e

  module _ (e : f.clashed ≡ false) where
    pub answered-passed : (f.passed || not (rest_fits rest)) ≡ true → r ≡ refuse LimitPassed
    unfolding staged_in
    answered-passed p = a ∙ answer-passed n rest (staged_in f xs bs) e p

    pub answered_ok : f.passed ≡ false → rest_fits rest ≡ true → r ≡ Ok (with_groups (groups_of (drop live_numbers xs) (drop live_bytes bs)) rest)
    unfolding staged_in
    answered_ok p h = a ∙ answer_ok n rest (staged_in f xs bs) e (rw (p, h))
