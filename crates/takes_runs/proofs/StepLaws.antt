-- A line on the two runs, by the contracts of the calls. Assumes nothing.
use mathlib.Core.List.{List, [], append-nil}
use mathlib.Core.Path.{◌≡◌, refl, sym, ap, ◌∙◌}
use Prim.Native.Nat.{ℕ, ◌≤◌}
use native.Mathlib.Omega.{arith}
use lib.ListN.{length, length-take}
use Rattle.pipe_log.specs.declared.FileId.{FileId}
use Rattle.rules.specs.Causes.{number_of, Refusal, Result, Ok, Err, left}
use Rattle.rules.specs.Items.{Append, Batch}
use Rattle.rules.specs.Context.{Context, fresh}
use Rattle.rules.specs.Calls.{replay, merge}
use Rattle.log_batch.specs.Lent.{batch_of}
use Rattle.contexts.specs.Contexts.{context_of, answer_as, Called, FreshArea}
use Rattle.takes_rules.specs.Lines.{malformed, next_run, batch}
use Rattle.takes_rules.specs.Output.{refusal_line, malformed_line}
use Rattle.takes_rules.specs.Program.{replayed, merged_as, merge_run, take_line}
use Rattle.takes_lines.specs.Written.{Written}
use Rattle.takes_runs.specs.declared.runs.Runs.{Runs}
use Rattle.takes_runs.specs.Steps.{said_of, Says, Takes-line, Fit, TookLine, ReplayedRun, MergedRun}
use Rattle.takes_runs.proofs.KindLaws.{replay-area, merge-area, fresh-area}

-- ---- what is printed

-- a line that was written is within the lent bytes
pub written-few : (out s : List ℕ) (r : ℕ) (out' : List ℕ) → Written out s r out' → r ≤ length out'
written-few out s r out' w =
    let l = ap length w.front in
    let m = length-take r out' in
    let c = w.count in
    omega (arith, l, m, c)

-- nothing is printed of a call that was accepted
pub says_nothing : (n : ℕ) (out : List ℕ) → Says (said_of n (Ok _)) 0 out
unfolding said_of
says_nothing n out = record { said = refl; few = omega arith }

pub says-refusal : (n : ℕ) (x : Refusal) (out : List ℕ) (r : ℕ) (out' : List ℕ) → Written out (refusal_line n (number_of x.cause)) r out' → Says (said_of n (Err x)) r out'
unfolding said_of
says-refusal n x out r out' w = record { said = w.front; few = written-few out (refusal_line n (number_of x.cause)) r out' w }

-- a refused call left the context as it was
left-refused : (c : Context) (r : Result Context) (x : Refusal) → r ≡ Err x → left c r ≡ c
unfolding left
left-refused c r x e = rw e

-- ---- a batch

module _ (n : ℕ) (b : Batch) (c d : Context) where
  replay-accepted : (d' : Context) → replay b d ≡ Ok d' → Takes-line n (batch b) c d [] c d'
  unfolding take_line replayed
  replay-accepted d' e = record { takes = λ p. rw (e, append-nil p) }

  replay-refused : (x : Refusal) → replay b d ≡ Err x → Takes-line n (batch b) c d (refusal_line n (number_of x.cause)) c d
  unfolding take_line replayed
  replay-refused x e = record { takes = λ p. rw e }

replay-line : (n : ℕ) (b : Batch) (c : Context) (ys cs : List ℕ) (a : Result (Unit {0})) (ys' cs' : List ℕ) → Called (replay b) ys cs a ys' cs' → Takes-line n (batch b) c (context_of ys cs) (said_of n a) c (context_of ys' cs')
unfolding said_of answer_as
replay-line n b c ys cs (Ok _) ys' cs' h = replay-accepted n b c (context_of ys cs) (context_of ys' cs') (sym h.answers)
replay-line n b c ys cs (Err x) ys' cs' h =
    let e : replay b (context_of ys cs) ≡ Err x = sym h.answers in
    rw (h.leaves ∙ left-refused (context_of ys cs) (replay b (context_of ys cs)) x e) (replay-refused n b c (context_of ys cs) x e)

-- ---- the next run

module _ (n : ℕ) (c d : Context) where
  merge-accepted : (c' : Context) → merge d c ≡ Ok c' → Takes-line n next_run c d [] c' (fresh Append)
  unfolding take_line merge_run merged_as
  merge-accepted c' e = record { takes = λ p. rw (e, append-nil p) }

  merge-refused : (x : Refusal) → merge d c ≡ Err x → Takes-line n next_run c d (refusal_line n (number_of x.cause)) c (fresh Append)
  unfolding take_line merge_run merged_as
  merge-refused x e = record { takes = λ p. rw e }

merge-line : (n : ℕ) (xs bs : List ℕ) (d : Context) (a : Result (Unit {0})) (xs' bs' : List ℕ) → Called (merge d) xs bs a xs' bs' → Takes-line n next_run (context_of xs bs) d (said_of n a) (context_of xs' bs') (fresh Append)
unfolding said_of answer_as
merge-line n xs bs d (Ok _) xs' bs' h = merge-accepted n (context_of xs bs) d (context_of xs' bs') (sym h.answers)
merge-line n xs bs d (Err x) xs' bs' h =
    let e : merge d (context_of xs bs) ≡ Err x = sym h.answers in
    rw (h.leaves ∙ left-refused (context_of xs bs) (merge d (context_of xs bs)) x e) (merge-refused n (context_of xs bs) d x e)

-- ---- the functions

module _ (n r : ℕ) (h : Runs) (out' : List ℕ) where
  pub replayed_run : (file : FileId) (items rows bytes : List ℕ) (a : Result (Unit {0})) (ys' cs' : List ℕ) → Fit h → Called (replay (batch_of file items rows bytes)) h.ys h.cs a ys' cs' → Says (said_of n a) r out' → ReplayedRun file items rows bytes n h r out' (record { xs = h.xs; bs = h.bs; ys = ys'; cs = cs' })
  replayed_run file items rows bytes a ys' cs' k c s = (
    record {
      line-is = rw s.said (replay-line n (batch_of file items rows bytes) (context_of h.xs h.bs) h.ys h.cs a ys' cs' c);
      fit = record { merged-area = k.merged-area; run-area = replay-area (batch_of file items rows bytes) h.ys h.cs a ys' cs' k.run-area c };
      few = s.few;
    },
    refl,
    refl,
  )

  pub merged_run : (a : Result (Unit {0})) (xs' bs' ys' cs' : List ℕ) → Fit h → Called (merge (context_of h.ys h.cs)) h.xs h.bs a xs' bs' → FreshArea Append ys' cs' → Says (said_of n a) r out' → MergedRun n h r out' (record { xs = xs'; bs = bs'; ys = ys'; cs = cs' })
  merged_run a xs' bs' ys' cs' k c f s =
      record {
        line-is = rw (s.said, f.context-is) (merge-line n h.xs h.bs (context_of h.ys h.cs) a xs' bs' c);
        fit = record { merged-area = merge-area h.ys h.cs h.xs h.bs a xs' bs' k.merged-area k.run-area c; run-area = fresh-area ys' cs' f };
        few = s.few;
      }

  pub malformed-line : (out : List ℕ) → Fit h → Written out (malformed_line n) r out' → TookLine n malformed h r out' h
  unfolding take_line
  malformed-line out k w =
      record { line-is = record { takes = λ p. rw w.front }; fit = k; few = written-few out (malformed_line n) r out' w }
