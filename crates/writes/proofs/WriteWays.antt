-- A batch that is checked and then carried out: refused by the checks, with its items in order, and as a marked batch; and what it is
-- in the rules of each call. Assumes nothing.
use Rattle.rules.specs.Causes.{Refusal, Result, Err}
use mathlib.Core.Bool.{false}
use mathlib.Core.List.{List}
use Rattle.std.specs.Prelude.{None, Some}
use Rattle.maps.specs.ListLaws.{some-none}
use mathlib.Core.Path.{◌≡◌, refl, sym}
use Prim.Native.Nat.{ℕ}
use Rattle.maps.specs.Lists.{or_else}
use Rattle.rules.specs.Items.{FileId, Rewrite, LogItem, placed_from, Call, replay_append, replay_rewrite, live_append, live_rewrite}
use Rattle.rules.specs.Checks.{Mark, is_rewrite_replay, checks}
use Rattle.rules.specs.Context.{context, Context, limited, run}
use Rattle.rules.specs.Waiting.{replay_marked}
use Rattle.rules.specs.Calls.{checked, run_batch, replay_batch}
use Rattle.rules_by_group.specs.Kept.{KeptAt}
use Rattle.log_batch.specs.Lent.{items_of, batch_of}
use Rattle.log_batch.specs.declared.causes.Call as call
use Rattle.log_batch.specs.Judged.{call_of, mark_for}
use Rattle.contexts.specs.Contexts.{Formed, answer_as, Answered}
use Rattle.batches.specs.Runs.{Keeping}
use Rattle.batches.specs.Singles.{SingleList}
use Rattle.writes.specs.Writes.{written}
use Rattle.writes.proofs.CallLaws.{refused-answered, same-answered, writes_it}

module _ (c : Call) (seq : ℕ) (items : List LogItem) (xs bs : List ℕ) where
  pub written-refused : (r : Refusal) → Formed xs bs → Some r ≡ checks c items → Answered (written c seq items) xs bs (Err r) xs bs
  unfolding written or_else answer_as
  written-refused r w e =
      refused-answered (written c seq items) xs bs (Err r) r w (rw (← e)) refl

  module _ (r : Result (Unit {0})) (ys fs : List ℕ) (e : checks c items ≡ None) where
    pub written_run : None ≡ mark_for c items → Answered (run limited c (placed_from 0 items)) xs bs r ys fs → Answered (written c seq items) xs bs r ys fs
    unfolding written or_else
    written_run f a = same-answered (written c seq items) (run limited c (placed_from 0 items)) xs bs r ys fs (rw (e, ← f)) a

    pub written-marked : (m : Mark) → Some m ≡ mark_for c items → Answered (replay_marked m seq (placed_from 0 items)) xs bs r ys fs → Answered (written c seq items) xs bs r ys fs
    unfolding written or_else
    written-marked m f a = same-answered (written c seq items) (replay_marked m seq (placed_from 0 items)) xs bs r ys fs (rw (e, ← f)) a

-- a batch of one list of entries
pub list_written : (c : call.Call) (seq : ℕ) (items es ds xs bs : List ℕ) (r : Result (Unit {0})) (ys fs : List ℕ) → SingleList c items es ds → Answered (run limited (call_of c) (placed_from 0 (items_of items es ds))) xs bs r ys fs → Answered (written (call_of c) seq (items_of items es ds)) xs bs r ys fs
list_written c seq items es ds xs bs r ys fs s a =
    written_run (call_of c) seq (items_of items es ds) xs bs r ys fs s.single.passes (sym s.single.unmarked) a

-- a call that looks at a mark is a Rewrite replay
module _ (items : List LogItem) (m : Mark) where
  pub marked-checks : (c : Call) → Some m ≡ mark_for c items → checks c items ≡ None → checks replay_rewrite items ≡ None
  unfolding mark_for is_rewrite_replay
  marked-checks replay_append f e = absurd (some-none m f)
  marked-checks replay_rewrite f e = e
  marked-checks live_append f e = absurd (some-none m f)
  marked-checks (live_rewrite g s) f e = absurd (some-none m f)

  pub marked-kept : (c : Call) (x : Context) → Some m ≡ mark_for c items → Keeping c x → KeptAt (context Rewrite) x
  unfolding mark_for is_rewrite_replay
  marked-kept replay_append x f k = absurd (some-none m f)
  marked-kept replay_rewrite x f k = k.own refl
  marked-kept live_append x f k = absurd (some-none m f)
  marked-kept (live_rewrite g s) x f k = absurd (some-none m f)

-- ---- by the call

module _ (file : FileId) (items es ds xs bs : List ℕ) (r : Result (Unit {0})) (ys fs : List ℕ) where
  pub plain-written : (c : Call) (seq : ℕ) → is_rewrite_replay c ≡ false → Answered (written c seq (items_of items es ds)) xs bs r ys fs → Answered (writes_it c file items es ds xs bs) xs bs r ys fs
  unfolding written checked run_batch batch_of mark_for or_else
  plain-written c seq f a =
      same-answered (writes_it c file items es ds xs bs) (written c seq (items_of items es ds)) xs bs r ys fs (rw f) a

  pub replay-written : Answered (written replay_rewrite file.seq (items_of items es ds)) xs bs r ys fs → Answered (replay_batch Rewrite (batch_of file items es ds)) xs bs r ys fs
  unfolding written replay_batch checked run_batch batch_of mark_for is_rewrite_replay
  replay-written a = same-answered (replay_batch Rewrite (batch_of file items es ds)) (written replay_rewrite file.seq (items_of items es ds)) xs bs r ys fs refl a
