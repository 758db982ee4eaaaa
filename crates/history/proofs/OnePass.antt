-- One pass over any list of batches: its history is a pass that is accepted and meets the premise, and it holds what the rule says.
-- Assumes nothing.
use mathlib.Core.Path.{◌≡◌, refl, sym, ap, ◌∙◌}
use mathlib.Core.Logic.{◌⊎◌, inl, inr, ⊎_elim}
use mathlib.Core.List.{List, [], ◌∷◌, ◌++◌, append_assoc, append-nil}
use Rattle.std.specs.Prelude.{Option, None, Some}
use Prim.Native.Nat.{ℕ, suc}
use borrow.Author.Tests.{eq-eqb}
use Rattle.maps.specs.Lists.{select, or_else}
use Rattle.maps.specs.Maps.{lookup, numbers}
use Rattle.rules.specs.Causes.{Refusal, Result, Ok, Err, refuse, WrongKind, in_order, left}
use Rattle.rules.specs.Items.{LogQueue, Append, Rewrite, same_queue, clean, compact, Content, entries, command, kv, LogItem, Batch, Placed, placed_from, replay_append}
use Rattle.rules.specs.Table.{made, entries_from}
use Rattle.rules.specs.Checks.{checks}
use Rattle.rules.specs.Context.{context, is_context, Context, limited, step, run}
use Rattle.rules.specs.Calls.{checked, run_batch, replay_batch, replay}
use Rattle.history.specs.Held.{entries_held, appended_to, list_of, LeavesOrFindsNone}
use Rattle.history.specs.Demand3.{entries_in}
use Rattle.history.specs.Recovery.{one_pass, keep_if, history, items_of}
use Rattle.rules_by_group.proofs.ResultLaws.{ok_inj, refused_not_ok, and_then_ok}
use Rattle.history.proofs.Group.{Leaves}
use Rattle.history.proofs.Contexts.{GoodContext, good_step, LeavesAt}
use Rattle.history.proofs.Passes.{AllFit, checks-fit, Steps, Pass, steps-good}
use Rattle.history.proofs.Rule.{HeldBy, held_step, entries-snoc, left-own, left-compact, left_of, left_by}

-- ---- an accepted replay

-- a batch that an Append context took has an Append file, passes the checks, and its items were taken in order
pub record Taken (b : Batch) (c d : Context) : Type 0 where
  pub append-file : b.file.queue ≡ Append
  pub checks-none : checks replay_append b.items ≡ None
  pub ran : run limited replay_append (placed_from 0 b.items) c ≡ Ok d

unless-none : (a : Result Context) (r : Option Refusal) → r ≡ None → or_else a (λ x. Err x) r ≡ a
unfolding or_else
unless-none a r e = rw e

unless-some : (a : Result Context) (r : Option Refusal) (x : Refusal) → r ≡ Some x → or_else a (λ y. Err y) r ≡ Err x
unfolding or_else
unless-some a r x e = rw e

module _ (b : Batch) (c : Context) (k : c.kind ≡ context Append) where
  abbrev items-ran : Result Context
  items-ran = run limited replay_append (placed_from 0 b.items) c

  replay-append : b.file.queue ≡ Append → replay b c ≡ or_else items-ran (λ r. Err r) (checks replay_append b.items)
  unfolding replay is_context same_queue replay_batch checked run_batch
  replay-append q = rw (q, k)

  replay-other : b.file.queue ≡ Rewrite → replay b c ≡ refuse WrongKind
  unfolding replay is_context same_queue
  replay-other q = rw (q, k)

  pub replay-taken : (d : Context) → replay b c ≡ Ok d → Taken b c d
  replay-taken d h = by_queue b.file.queue refl
    where
      passed : (r : Option Refusal) → checks replay_append b.items ≡ r → b.file.queue ≡ Append → Taken b c d
      passed None e q =
          record { append-file = q; checks-none = e; ran = sym (unless-none items-ran (checks replay_append b.items) e) ∙ sym (replay-append q) ∙ h }
      passed (Some r) e q =
          absurd (refused_not_ok (sym (unless-some items-ran (checks replay_append b.items) r e) ∙ sym (replay-append q) ∙ h))

      by_queue : (q : LogQueue) → b.file.queue ≡ q → Taken b c d
      by_queue Append e = passed (checks replay_append b.items) refl e
      by_queue Rewrite e = absurd (refused_not_ok (sym (replay-other e) ∙ h))

-- ---- the premise, of what is left of a list

-- each compaction in these items leaves its group an entry or finds none, where these came before them
unfoldable pub PremiseFrom : List LogItem → List LogItem → Type 0
PremiseFrom pre items =
    (before later : List LogItem) (it : LogItem) (i : ℕ) → items ≡ before ++ (it ∷ later) → it.content ≡ command (compact i) → LeavesOrFindsNone (pre ++ before) it

premise-first : (pre : List LogItem) (x : LogItem) (xs : List LogItem) → PremiseFrom pre (x ∷ xs) → (i : ℕ) → x.content ≡ command (compact i) → LeavesOrFindsNone pre x
unfolding PremiseFrom
premise-first pre x xs p i e = rw (append-nil pre) at (p [] xs x i refl e)

premise-right : (pre xs ys : List LogItem) → PremiseFrom pre (xs ++ ys) → PremiseFrom (pre ++ xs) ys
unfolding PremiseFrom
premise-right pre xs ys p before later it i e c =
    rw (append_assoc pre xs before) (p (xs ++ before) later it i (ap (λ l. xs ++ l) e ∙ sym (append_assoc xs before (it ∷ later))) c)

premise-left : (pre xs ys : List LogItem) → PremiseFrom pre (xs ++ ys) → PremiseFrom pre xs
unfolding PremiseFrom
premise-left pre xs ys p before later it i e c =
    p before (later ++ ys) it i (ap (λ l. l ++ ys) e ∙ append_assoc before (it ∷ later) ys) c

-- ---- the items of a batch

-- what a compaction leaves by the rule
compact-held : (pre : List LogItem) (x : LogItem) (i : ℕ) → x.content ≡ command (compact i) → entries_held x.group (pre ++ (x ∷ [])) ≡ entries_from i (entries_held x.group pre)
compact-held pre x i e =
    entries-snoc x.group pre x
    ∙ ap (λ l. select (left_by x.group x) (entries_held x.group pre) ++ l) nothing
    ∙ append-nil (select (left_by x.group x) (entries_held x.group pre))
    ∙ left-own x.group x (entries_held x.group pre) (eq-eqb x.group x.group refl)
    ∙ ap (λ y. left_of y (entries_held x.group pre)) e
    ∙ left-compact i (entries_held x.group pre)
  where
    nothing : appended_to x.group x ≡ []
    nothing = unfold appended_to list_of in rw (eq-eqb x.group x.group refl, e)

-- the rule's premise is the table's
leaves_of : (pre : List LogItem) (x : LogItem) (c : Context) → HeldBy pre c → ((i : ℕ) → x.content ≡ command (compact i) → LeavesOrFindsNone pre x) → LeavesAt x c
unfolding LeavesAt
leaves_of pre x c h p = by_content x.content refl
  where
    entries-are : (made (lookup numbers x.group c.groups)).entries ≡ entries_held x.group pre
    entries-are = unfold entries_in in h.entries-held x.group

    compacts : (i : ℕ) → x.content ≡ command (compact i) → ((made (lookup numbers x.group c.groups)).entries ≡ []) ⊎ (entries_from i (made (lookup numbers x.group c.groups)).entries ≡ [] → ⊥)
    compacts i e =
        unfold LeavesOrFindsNone in
        ⊎_elim (λ u. inl (entries-are ∙ u)) (λ u. inr (λ z. u (compact-held pre x i e ∙ ap (entries_from i) (sym entries-are) ∙ z))) (p i e)

    by_content : (y : Content) → x.content ≡ y → Leaves x.content (lookup numbers x.group c.groups)
    by_content (entries es) e = unfold Leaves in rw e tt
    by_content (command clean) e = unfold Leaves in rw e tt
    by_content (command (compact i)) e = unfold Leaves in rw e (compacts i e)
    by_content (kv k d) e = unfold Leaves in rw e tt

pub steps_of : (xs : List LogItem) (n : ℕ) (pre : List LogItem) (c d : Context) → GoodContext c → HeldBy pre c → AllFit xs → PremiseFrom pre xs → run limited replay_append (placed_from n xs) c ≡ Ok d → Steps (placed_from n xs) c d × HeldBy (pre ++ xs) d
unfolding placed_from run in_order AllFit
steps_of [] n pre c d g h f p r = (rw (← (ok_inj r)) Steps.done, rw (append-nil pre, ← (ok_inj r)) h)
steps_of (x ∷ xs) n pre c d g h f p r =
    let here : Placed = record { item = x; place = Some n } in
    let s = and_then_ok (step limited replay_append here c) (in_order (step limited replay_append) (placed_from (suc n) xs)) d r in
    let rest = steps_of xs (suc n) (pre ++ (x ∷ [])) s.0 d (good_step here c s.0 g f.0 s.1) (held_step pre here c s.0 g f.0 s.1 h) f.1 (premise-right pre (x ∷ []) xs p) s.2 in
    (Steps.more s.0 s.1 f.0 (leaves_of pre x c h (premise-first pre x xs p)) rest.0, rw (append_assoc pre (x ∷ []) xs) at rest.1)

-- ---- the whole list

-- what is known of one pass that starts at c, where these items came before
pub record Passed (bs : List Batch) (pre : List LogItem) (c : Context) : Type 0 where
  pub pass : Pass (history bs c) c (one_pass bs c)
  pub held : HeldBy (pre ++ items_of (history bs c)) (one_pass bs c)

history_ok : (b : Batch) (bs : List Batch) (c d : Context) → replay b c ≡ Ok d → history (b ∷ bs) c ≡ b ∷ history bs d
unfolding history keep_if left
history_ok b bs c d h = rw h

history-refused : (b : Batch) (bs : List Batch) (c : Context) (r : Refusal) → replay b c ≡ Err r → history (b ∷ bs) c ≡ history bs c
unfolding history keep_if left
history-refused b bs c r h = rw h

pass_ok : (b : Batch) (bs : List Batch) (c d : Context) → replay b c ≡ Ok d → one_pass (b ∷ bs) c ≡ one_pass bs d
unfolding one_pass left
pass_ok b bs c d h = rw h

pass-refused : (b : Batch) (bs : List Batch) (c : Context) (r : Refusal) → replay b c ≡ Err r → one_pass (b ∷ bs) c ≡ one_pass bs c
unfolding one_pass left
pass-refused b bs c r h = rw h

items-cons : (b : Batch) (bs : List Batch) → items_of (b ∷ bs) ≡ b.items ++ items_of bs
unfolding items_of
items-cons b bs = refl

-- a refused batch changes nothing and is no part of the history
refused-one : (b : Batch) (bs : List Batch) (pre : List LogItem) (c : Context) (r : Refusal) → replay b c ≡ Err r → Passed bs pre c → Passed (b ∷ bs) pre c
refused-one b bs pre c r e q =
    record { pass = rw (history-refused b bs c r e, pass-refused b bs c r e) q.pass; held = rw (history-refused b bs c r e, pass-refused b bs c r e) q.held }

-- an accepted batch is the history's next
accepted-one : (b : Batch) (bs : List Batch) (pre : List LogItem) (c d : Context) → replay b c ≡ Ok d → Taken b c d → Steps (placed_from 0 b.items) c d → Passed bs (pre ++ b.items) d → Passed (b ∷ bs) pre c
accepted-one b bs pre c d e t s q =
    record {
      pass = rw (history_ok b bs c d e, pass_ok b bs c d e) (Pass.more d t.append-file t.checks-none s q.pass);
      held = rw (history_ok b bs c d e, pass_ok b bs c d e) (unfold items_of in rw (append_assoc pre b.items (items_of (history bs d))) at q.held);
    }

pub one-pass : (bs : List Batch) (pre : List LogItem) (c : Context) → GoodContext c → HeldBy pre c → PremiseFrom pre (items_of (history bs c)) → Passed bs pre c
one-pass [] pre c g h p = record { pass = unfold history one_pass in Pass.done; held = unfold history one_pass items_of in rw (append-nil pre) h }
one-pass (b ∷ bs) pre c g h p = by_result (λ x l. one-pass bs l x) (replay b c) refl
  where
    by_result : ((x : Context) (l : List LogItem) → GoodContext x → HeldBy l x → PremiseFrom l (items_of (history bs x)) → Passed bs l x) → (r : Result Context) → replay b c ≡ r → Passed (b ∷ bs) pre c
    by_result later (Err r) e = refused-one b bs pre c r e (later c pre g h (rw (history-refused b bs c r e) at p))
    by_result later (Ok d) e =
        let t = replay-taken b c g.is-append d e in
        let q = rw (history_ok b bs c d e, items-cons b (history bs d)) at p in
        let s = steps_of b.items 0 pre c d g h (checks-fit b.items t.checks-none) (premise-left pre b.items (items_of (history bs d)) q) t.ran in
        accepted-one b bs pre c d e t s.0 (later d (pre ++ b.items) (steps-good s.0 g) s.1 (premise-right pre b.items (items_of (history bs d)) q))
