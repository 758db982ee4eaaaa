-- What is kept of a line: a list, a key or a value up to one more than the bound of cause 2. A replay answers the same for it.
use Rattle.std.specs.Prelude.{Bool, true, false, ◌||◌, ◌≡◌, refl, List, [], ◌∷◌, ℕ, suc, min, ltb, eqb, length, take}
use Rattle.std.proofs.Common.{true≢false, ◌∙◌, arith, length-take, take_all, ltb-true, ltb-false, lt-ltb}
use Rattle.std.specs.Prelude.{Option, None, Some}
use Rattle.maps.specs.Lists.{or_else, find_from}
use Rattle.maps.specs.OrderLaws.{split}
use Rattle.rules.specs.Items.{Change, put, del, Content, entries, command, kv, LogItem, Batch, LogQueue, Append, Rewrite, Call, replay_append, replay_rewrite}
use Rattle.rules.specs.Limits.{max_items}
use Rattle.rules.specs.Causes.{TooLong, Result, Err}
use Rattle.rules.specs.Context.{Context}
use Rattle.rules.specs.Checks.{long_change, long, or_next, checks}
use Rattle.rules.specs.Calls.{checked, replay_batch, replay}
use Rattle.takes_rules.specs.Lines.{Line, malformed, next_run, batch}
use Rattle.takes_lines.specs.Reading.{kept_most}

unfoldable pub kept_change : Change → Change
kept_change (put None f) = put None f
kept_change (put (Some v) f) = put (Some (take kept_most v)) f
kept_change del = del

unfoldable pub kept_content : Content → Content
kept_content (entries es) = entries (take kept_most es)
kept_content (command c) = command c
kept_content (kv k c) = kv (take kept_most k) (kept_change c)

unfoldable pub kept_item : LogItem → LogItem
kept_item it = record { group = it.group; content = kept_content it.content }

unfoldable pub kept_items : List LogItem → List LogItem
kept_items [] = []
kept_items (it ∷ items) = kept_item it ∷ kept_items items

unfoldable pub kept_batch : Batch → Batch
kept_batch b = record { file = b.file; items = kept_items b.items }

unfoldable pub kept_line : Line → Line
kept_line malformed = malformed
kept_line next_run = next_run
kept_line (batch b) = batch (kept_batch b)

-- ---- laws

pub or_left : (a b : Bool) → a || b ≡ false → a ≡ false
or_left false b e = refl
or_left true b e = e

pub or_right : (a b : Bool) → a || b ≡ false → b ≡ false
or_right false b e = e
or_right true b e = absurd (true≢false e)

module _ {A : Type 0} (xs : List A) where
  -- what is kept is over the bound just if the whole is
  over-kept : ltb 32 (length (take kept_most xs)) ≡ ltb 32 (length xs)
  over-kept =
      split (ltb 32 (length xs))
      (λ e. rw (e, length-take) (lt-ltb 32 (min kept_most (length xs)) (omega (arith, ltb-true 32 (length xs) e))))
      (λ e. rw (take_all kept_most xs (omega (arith, ltb-false 32 (length xs) e))))

  -- within the bound all is kept
  short-kept : ltb 32 (length xs) ≡ false → take kept_most xs ≡ xs
  short-kept e = take_all kept_most xs (omega (arith, ltb-false 32 (length xs) e))

long-change-kept : (c : Change) → long_change (kept_change c) ≡ long_change c
unfolding long_change kept_change or_else
long-change-kept (put None f) = refl
long-change-kept (put (Some v) f) = over-kept v
long-change-kept del = refl

long_kept : (c : Content) → long (kept_content c) ≡ long c
unfolding long kept_content
long_kept (entries es) = over-kept es
long_kept (command c) = refl
long_kept (kv k c) = rw (over-kept k, long-change-kept c)

change_same : (c : Change) → long_change c ≡ false → kept_change c ≡ c
unfolding long_change kept_change or_else
change_same (put None f) e = refl
change_same (put (Some v) f) e = rw (short-kept v e)
change_same del e = refl

content_same : (c : Content) → long c ≡ false → kept_content c ≡ c
unfolding long kept_content
content_same (entries es) e = rw (short-kept es e)
content_same (command c) e = refl
content_same (kv k c) e =
    rw (short-kept k (or_left (ltb 32 (length k)) (long_change c) e), change_same c (or_right (ltb 32 (length k)) (long_change c) e))

-- cause 2 at a position
unfoldable meets2 : ℕ → LogItem → Bool
meets2 i it = eqb i max_items || long it.content

-- it is met at the same position
found-kept : (items : List LogItem) (i : ℕ) → find_from meets2 i (kept_items items) ≡ find_from meets2 i items
unfolding find_from kept_items kept_item meets2
found-kept [] i = refl
found-kept (it ∷ items) i = rw (long_kept it.content, found-kept items (suc i))

-- a list that does not meet it is kept whole
items-same : (items : List LogItem) (i : ℕ) → find_from meets2 i items ≡ None → kept_items items ≡ items
unfolding find_from kept_items kept_item meets2
items-same [] i e = refl
items-same (it ∷ items) i e =
    split (eqb i max_items || long it.content)
    (λ t. absurd (some-not-none (rw t at e)))
    (λ t. rw (content_same it.content (or_right (eqb i max_items) (long it.content) t), items-same items (suc i) (rw t at e)))
  where
    some-not-none : Some i ≡ None → ⊥
    some-not-none z = let y : ◌≡◌ {A = ℕ} 0 1 = cc in omega arith

module _ (b : Batch) (i : ℕ) (met : find_from meets2 0 b.items ≡ Some i) where
  refused-long : (call : Call) (next : Result Context) → checked call b next ≡ Err (record { cause = TooLong; place = Some i })
  unfolding checked checks or_next or_else meets2
  refused-long call next = rw met

  replay-long : (q : LogQueue) (c : Context) → replay_batch q b c ≡ Err (record { cause = TooLong; place = Some i })
  unfolding replay_batch
  replay-long Append c = refused-long replay_append _
  replay-long Rewrite c = refused-long replay_rewrite _

-- a replay answers the same for what is kept of a batch
pub replay-kept : (b : Batch) (c : Context) → replay (kept_batch b) c ≡ replay b c
unfolding replay kept_batch
replay-kept b c = by (find_from meets2 0 b.items) refl
  where
    by : (found : Option ℕ) → find_from meets2 0 b.items ≡ found → replay (kept_batch b) c ≡ replay b c
    by None e = rw (items-same b.items 0 e)
    by (Some i) e = rw (replay-long (kept_batch b) i (found-kept b.items 0 ∙ e) b.file.queue c, replay-long b i e b.file.queue c)

-- the checks of any call too
pub checks-kept : (call : Call) (items : List LogItem) → checks call (kept_items items) ≡ checks call items
unfolding checks or_next meets2
checks-kept call items = by (find_from meets2 0 items) refl
  where
    by : (found : Option ℕ) → find_from meets2 0 items ≡ found → checks call (kept_items items) ≡ checks call items
    by None e = rw (items-same items 0 e)
    by (Some i) e = rw (found-kept items 0 ∙ e, e)
