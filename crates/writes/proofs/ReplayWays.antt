-- The call of a replay: the wrong kind, and the queue of the file. Assumes nothing.
use Rattle.rules.specs.Causes.{WrongKind, Result, Err}
use Rattle.std.specs.Prelude.{None}
use mathlib.Core.Bool.{true, false}
use mathlib.Core.List.{List}
use mathlib.Core.Path.{◌≡◌, refl, ◌∙◌}
use Prim.Native.Nat.{ℕ, ◌-◌}
use lib.ListN.{length, get_or, take, drop}
use Rattle.rules.specs.Items.{LogQueue, FileId, Append, Rewrite, Batch, replay_append}
use Rattle.rules.specs.Context.{Kind, context, is_context}
use Rattle.rules.specs.Calls.{replay_batch, replay}
use Rattle.rules_by_group.specs.Kept.{KeptAt}
use Rattle.rules_by_group.proofs.KeptLaws.{replay-kept}
use Rattle.log_batch.specs.Lent.{batch_of}
use Rattle.lists.specs.Rest.{kind_of}
use Rattle.contexts.specs.Contexts.{context_of, Wf, answer_as, Answered, Called}
use Rattle.writes.specs.AcceptLaws.{rewrite-is}
use Rattle.writes.proofs.CallLaws.{refused-called, same-called, kind-is, writes_it}

-- ---- by the queue of the file

by-queue : (q s : LogQueue) → q ≡ s → (b : Batch) (xs bs : List ℕ) (r : Result (Unit {0})) (ys fs : List ℕ) → Answered (replay_batch s b) xs bs r ys fs → Answered (replay_batch q b) xs bs r ys fs
by-queue q s e b xs bs r ys fs a = rw e a

context_by : (q s : LogQueue) (k : Kind) → q ≡ s → is_context q k ≡ true → is_context s k ≡ true
context_by q s k e h = rw e at h

pub rewrite-kept : (xs bs : List ℕ) (k : Kind) → k ≡ kind_of (get_or (take (length xs - 9376) (drop 9376 xs)) 0 0) → (q : LogQueue) → Wf xs bs → q ≡ Rewrite → is_context q k ≡ true → KeptAt (context Rewrite) (context_of xs bs)
rewrite-kept xs bs k e q w r y = record { is-kind = kind-is xs bs k e ∙ rewrite-is k (context_by q Rewrite k r y); kept = w.kept }

module _ (xs bs : List ℕ) (k : Kind) (e : k ≡ kind_of (get_or (take (length xs - 9376) (drop 9376 xs)) 0 0)) (file : FileId) (items es ds : List ℕ) (w : Wf xs bs) where
  pub replay_wrong-kind : is_context file.queue k ≡ false → Called (replay (batch_of file items es ds)) xs bs (Err (record { cause = WrongKind; place = None })) xs bs
  unfolding replay batch_of answer_as
  replay_wrong-kind f =
      refused-called (replay (batch_of file items es ds)) xs bs (Err (record { cause = WrongKind; place = None })) _ w (rw (kind-is xs bs k e, f)) refl

  module _ (y : is_context file.queue k ≡ true) where
    replay-queue : (r : Result (Unit {0})) (ys fs : List ℕ) → Answered (replay_batch file.queue (batch_of file items es ds)) xs bs r ys fs → Called (replay (batch_of file items es ds)) xs bs r ys fs
    unfolding replay batch_of
    replay-queue r ys fs c =
        same-called _ (replay_batch file.queue (batch_of file items es ds)) xs bs r ys fs w (λ d q. replay-kept (batch_of file items es ds) (context_of xs bs) d w.kept q) (rw (kind-is xs bs k e, y)) c

    pub replay-append-queue : file.queue ≡ Append → (r : Result (Unit {0})) (ys fs : List ℕ) → Answered (writes_it replay_append file items es ds xs bs) xs bs r ys fs → Called (replay (batch_of file items es ds)) xs bs r ys fs
    unfolding replay_batch
    replay-append-queue q r ys fs c = replay-queue r ys fs (by-queue file.queue Append q (batch_of file items es ds) xs bs r ys fs c)

    pub replay-rewrite-queue : file.queue ≡ Rewrite → (r : Result (Unit {0})) (ys fs : List ℕ) → Answered (replay_batch Rewrite (batch_of file items es ds)) xs bs r ys fs → Called (replay (batch_of file items es ds)) xs bs r ys fs
    replay-rewrite-queue q r ys fs c = replay-queue r ys fs (by-queue file.queue Rewrite q (batch_of file items es ds) xs bs r ys fs c)
