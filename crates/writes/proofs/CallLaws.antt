-- The live calls of a batch: the wrong kind, and a batch that is written. Assumes nothing.
use Rattle.std.specs.Prelude.{None}
use mathlib.Core.Bool.{true, false, ◌&&◌}
use mathlib.Core.List.{List}
use mathlib.Core.Path.{◌≡◌, refl, sym, ap, ◌∙◌}
use Prim.Native.Nat.{ℕ, ◌-◌, ◌<◌}
use native.Mathlib.Omega.{arith}
use lib.ListN.{length, get_or, take, drop}
use borrow.Author.Rules.{part_to_end}
use Rattle.rules.specs.Causes.{WrongKind, Refusal, Result, Ok, Err, left}
use Rattle.rules.specs.Items.{FileId, Append, Rewrite, same_queue, Batch, Call, live_append, live_rewrite}
use Rattle.rules.specs.Context.{Context, Kind, is_index, with_groups, with_waiting}
use Rattle.rules.specs.Calls.{checked, run_batch, write, append, rewrite}
use Rattle.rules_by_group.specs.Kept.{Kept}
use Rattle.rules_by_group.proofs.ResultLaws.{refused_not_ok}
use Rattle.rules_by_group.proofs.KeptLaws.{append-kept, rewrite-kept}
use Rattle.log_batch.specs.Lent.{batch_of}
use Rattle.lists.specs.Rest.{kind_of}
use Rattle.lists.specs.Laws.{rest-kind}
use Rattle.contexts.specs.Contexts.{rest_at, context_of, Formed, Wf, answer_as, Answered, Called}
use Rattle.contexts.specs.AreaLaws.{formed_of, answered-called}

-- a call that refuses at once
pub refused-answered : (to : Context → Result Context) (xs bs : List ℕ) (r : Result (Unit {0})) (f : Refusal) → Formed xs bs → to (context_of xs bs) ≡ Err f → answer_as r (context_of xs bs) ≡ Err f → Answered to xs bs r xs bs
unfolding left
refused-answered to xs bs r f w e a =
    record { answers = a ∙ sym e; leaves = sym (ap (left (context_of xs bs)) e); formed = w }

-- a call that is another one on this area
pub same-answered : (to as' : Context → Result Context) (xs bs : List ℕ) (r : Result (Unit {0})) (ys ds : List ℕ) → to (context_of xs bs) ≡ as' (context_of xs bs) → Answered as' xs bs r ys ds → Answered to xs bs r ys ds
same-answered to as' xs bs r ys ds e k =
    record { answers = k.answers ∙ sym e; leaves = k.leaves ∙ ap (left (context_of xs bs)) (sym e); formed = k.formed }

pub refused-called : (to : Context → Result Context) (xs bs : List ℕ) (r : Result (Unit {0})) (f : Refusal) → Wf xs bs → to (context_of xs bs) ≡ Err f → answer_as r (context_of xs bs) ≡ Err f → Called to xs bs r xs bs
refused-called to xs bs r f w e a =
    answered-called to xs bs r xs bs w (λ d k. absurd (refused_not_ok (sym e ∙ k))) (refused-answered to xs bs r f (formed_of xs bs w) e a)

pub same-called : (to as' : Context → Result Context) (xs bs : List ℕ) (r : Result (Unit {0})) (ys ds : List ℕ) → Wf xs bs → ((d : Context) → to (context_of xs bs) ≡ Ok d → Kept d) → to (context_of xs bs) ≡ as' (context_of xs bs) → Answered as' xs bs r ys ds → Called to xs bs r ys ds
same-called to as' xs bs r ys ds w k e a = answered-called to xs bs r ys ds w k (same-answered to as' xs bs r ys ds e a)

-- ---- the batch

module _ (c : Call) (file : FileId) (items es ds : List ℕ) (xs bs : List ℕ) where
  abbrev pub batch : Batch
  batch = batch_of file items es ds

  abbrev pub writes_it : Context → Result Context
  writes_it x = checked c batch (run_batch c batch x)

-- ---- the kind

module _ (xs bs : List ℕ) (k : Kind) (e : k ≡ kind_of (get_or (take (length xs - 9376) (drop 9376 xs)) 0 0)) where
  pub kind-is : (context_of xs bs).kind ≡ k
  unfolding context_of rest_at with_groups with_waiting
  kind-is = rest-kind (drop 9376 xs) (drop 16384 bs) ∙ sym (rw (part_to_end xs 9376) at e)

  module _ (file : FileId) (items es ds : List ℕ) where
    pub append_wrong : Wf xs bs → (is_index k && same_queue file.queue Append) ≡ false → Called (append (batch_of file items es ds)) xs bs (Err (record { cause = WrongKind; place = None })) xs bs
    unfolding append write batch_of answer_as
    append_wrong w f =
        refused-called (append (batch_of file items es ds)) xs bs (Err (record { cause = WrongKind; place = None })) _ w (rw (kind-is, f)) refl

    pub append_right : (r : Result (Unit {0})) (ys fs : List ℕ) → Wf xs bs → (is_index k && same_queue file.queue Append) ≡ true → Answered (writes_it live_append file items es ds xs bs) xs bs r ys fs → Called (append (batch_of file items es ds)) xs bs r ys fs
    unfolding append write batch_of
    append_right r ys fs w y c =
        same-called _ (writes_it live_append file items es ds xs bs) xs bs r ys fs w (λ d e. append-kept (batch_of file items es ds) (context_of xs bs) d w.kept e) (rw (kind-is, y)) c

    module _ (gate : _) where
      pub rewrite_wrong : Wf xs bs → (is_index k && same_queue file.queue Rewrite) ≡ false → Called (rewrite gate (batch_of file items es ds)) xs bs (Err (record { cause = WrongKind; place = None })) xs bs
      unfolding rewrite write batch_of answer_as
      rewrite_wrong w f =
          refused-called (rewrite gate (batch_of file items es ds)) xs bs (Err (record { cause = WrongKind; place = None })) _ w (rw (kind-is, f)) refl

      pub rewrite-right : (r : Result (Unit {0})) (ys fs : List ℕ) → Wf xs bs → (is_index k && same_queue file.queue Rewrite) ≡ true → Answered (writes_it (live_rewrite gate file.seq) file items es ds xs bs) xs bs r ys fs → Called (rewrite gate (batch_of file items es ds)) xs bs r ys fs
      unfolding rewrite write batch_of
      rewrite-right r ys fs w y c =
          same-called _ (writes_it (live_rewrite gate file.seq) file items es ds xs bs) xs bs r ys fs w (λ d e. rewrite-kept gate (batch_of file items es ds) (context_of xs bs) d w.kept e) (rw (kind-is, y)) c

-- the numbers behind the groups begin with the kind
pub zero_below : (l : List ℕ) → length l ≡ 7855 → 0 < length l
zero_below l e = omega arith
