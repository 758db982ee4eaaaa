-- A run of items, and the span after it, do not read what waits: with other parts that pass no limit they end with the same context but
-- for these parts. And a mark among the items does nothing. Assumes nothing.
use Rattle.std.specs.Prelude.{true, false, not, ◌&&◌, ◌≡◌, ℕ, leb, length}
use mathlib.Core.List.{List, [], ◌∷◌}
use Rattle.std.specs.Prelude.{Option}
use Rattle.std.proofs.Math.Path.{refl}
use Rattle.std.proofs.Common.{sym, ap, ◌∙◌}
use Rattle.maps.specs.BoolLaws.{clash, both_right, and-false}
use Rattle.maps.specs.OrderLaws.{split}
use Rattle.maps.specs.Lists.{select, every, or_else}
use Rattle.maps.specs.Maps.{Pair, Map, lookup, insert, store, numbers, equal_bytes}
use Rattle.rules.specs.Limits.{max_groups, max_tombstones, max_cleaned, reserved_key}
use Rattle.rules.specs.Causes.{Refusal, Result, Ok, Err, and_then, in_order, placed}
use Rattle.rules.specs.Items.{Append, same_queue, Content, entries, command, kv, del, put, LogItem, Placed, is_reserved, is_clean, is_tombstone, is_mark, mark_byte, writes, Call, replay_rewrite}
use Rattle.rules.specs.Table.{Span, Table, made, change, spanned}
use Rattle.rules.specs.Context.{Part, Context, with_groups, with_cleaned, with_tombstones, with_waiting, table_fits, waiting_fits, fits, limited, keeps, add_cleaned, add_tombstone, act, step, run}
use Rattle.rules.specs.Waiting.{set_span, finish_group}
use Rattle.rules_by_group.proofs.ResultLaws.{ok_inj, by_result, and_then_ok}
use Rattle.rules_by_group.proofs.ItemLaws.{limited-fits, limited_ok}

-- ---- other parts wait

-- what waits in a context that passes no limit passes none
pub waiting-fits : (c : Context) → fits c ≡ true → waiting_fits c.waiting ≡ true
unfolding fits
waiting-fits c h =
    both_right
    (leb (length c.groups) max_groups && every (λ (p : Pair ℕ Table). table_fits p.val) c.groups && leb (length c.tombstones) max_tombstones && leb (length c.cleaned) max_cleaned)
    (waiting_fits c.waiting) h

cleaned-waits : (call : Call) (it : LogItem) (c : Context) → (add_cleaned call it c).waiting ≡ c.waiting
unfolding add_cleaned with_cleaned
cleaned-waits call it c = split (same_queue (writes call) Append && is_clean it.content) (λ y. rw y) (λ n. rw n)

tombstone-waits : (call : Call) (it : LogItem) (c : Context) → (add_tombstone call it c).waiting ≡ c.waiting
unfolding add_tombstone with_tombstones
tombstone-waits call it c = split (keeps call && is_tombstone it.content) (λ y. rw y) (λ n. rw n)

act-waits : (call : Call) (it : LogItem) (c d : Context) → act call it c ≡ Ok d → d.waiting ≡ c.waiting
unfolding act with_groups
act-waits call it c d e =
    split (is_reserved it.content)
    (λ y. ap (λ (x : Context). x.waiting) (sym (ok_inj (rw y at e))))
    (λ n.
    let r = and_then_ok (change call it.content (lookup numbers it.group c.groups)) (λ t. Ok (add_cleaned call it (with_groups (store numbers it.group t c.groups) c))) d (rw n at e) in
    ap (λ (x : Context). x.waiting) (sym (ok_inj r.2)) ∙ cleaned-waits call it (with_groups (store numbers it.group r.0 c.groups) c))

module _ (w : Map ℕ (List Part)) (f : waiting_fits w ≡ true) where
  -- the same result with w waiting
  unfoldable pub waiting_with : Result Context → Result Context
  waiting_with r = and_then r (λ d. Ok (with_waiting w d))

  pub with_ok : (r : Result Context) (d : Context) → r ≡ Ok d → waiting_with r ≡ Ok (with_waiting w d)
  unfolding waiting_with and_then
  with_ok r d e = rw e

  pub with-refused : (r : Result Context) (x : Refusal) → r ≡ Err x → waiting_with r ≡ Err x
  unfolding waiting_with and_then
  with-refused r x e = rw e

  pub fits_with : (c : Context) → waiting_fits c.waiting ≡ true → fits (with_waiting w c) ≡ fits c
  unfolding fits with_waiting
  fits_with c h = rw (f, h)

  limited_with : (p : Option ℕ) (c : Context) → waiting_fits c.waiting ≡ true → limited p (with_waiting w c) ≡ waiting_with (limited p c)
  unfolding limited waiting_with and_then
  limited_with p c h = rw (fits_with c h) (split (fits c) (λ y. rw y) (λ n. rw n))

  cleaned_with : (call : Call) (it : LogItem) (c : Context) → add_cleaned call it (with_waiting w c) ≡ with_waiting w (add_cleaned call it c)
  unfolding add_cleaned with_cleaned with_waiting
  cleaned_with call it c = split (same_queue (writes call) Append && is_clean it.content) (λ y. rw y) (λ n. rw n)

  tombstone_with : (call : Call) (it : LogItem) (c : Context) → add_tombstone call it (with_waiting w c) ≡ with_waiting w (add_tombstone call it c)
  unfolding add_tombstone with_tombstones with_waiting
  tombstone_with call it c = split (keeps call && is_tombstone it.content) (λ y. rw y) (λ n. rw n)

  act_changes : (call : Call) (it : LogItem) (c : Context) (t : Option Table) → is_reserved it.content ≡ false → change call it.content (lookup numbers it.group c.groups) ≡ Ok t → act call it (with_waiting w c) ≡ waiting_with (act call it c)
  unfolding act waiting_with and_then with_waiting with_groups
  act_changes call it c t n e = rw (n, e) (ap Ok (cleaned_with call it (with_groups (store numbers it.group t c.groups) c)))

  act_with : (call : Call) (it : LogItem) (c : Context) → act call it (with_waiting w c) ≡ waiting_with (act call it c)
  unfolding act waiting_with and_then with_waiting
  act_with call it c =
      split (is_reserved it.content)
      (λ y. rw y)
      (λ n.
      by_result (change call it.content (lookup numbers it.group c.groups))
      (λ t e. act_changes call it c t n e)
      (λ r e. rw (n, e)))

  module _ (call : Call) (x : Placed) (c : Context) (h : fits c ≡ true) where
    step-acted : (d : Context) → act call x.item c ≡ Ok d → step limited call x (with_waiting w c) ≡ waiting_with (step limited call x c)
    unfolding step placed and_then
    step-acted d e =
        rw (act_with call x.item c ∙ with_ok (act call x.item c) d e, e, tombstone_with call x.item d)
        (limited_with x.place (add_tombstone call x.item d) (rw (tombstone-waits call x.item d ∙ act-waits call x.item c d e) (waiting-fits c h)))

    step-refuses : (r : Refusal) → act call x.item c ≡ Err r → step limited call x (with_waiting w c) ≡ waiting_with (step limited call x c)
    unfolding step placed and_then waiting_with
    step-refuses r e = rw (act_with call x.item c ∙ with-refused (act call x.item c) r e, e)

    pub step_with : step limited call x (with_waiting w c) ≡ waiting_with (step limited call x c)
    step_with = by_result (act call x.item c) step-acted step-refuses

-- an accepted step passes no limit
pub step_fits : (call : Call) (x : Placed) (c d : Context) → step limited call x c ≡ Ok d → fits d ≡ true
unfolding step
step_fits call x c d e =
    let r = and_then_ok (placed x.place (act call x.item c)) (λ a. limited x.place (add_tombstone call x.item a)) d e in
    let l = limited_ok x.place (add_tombstone call x.item r.0) d r.2 in
    rw l.0 at l.1

pub run_fits : (call : Call) (xs : List Placed) (c d : Context) → fits c ≡ true → run limited call xs c ≡ Ok d → fits d ≡ true
unfolding run in_order
run_fits call [] c d h e = rw (ok_inj e) at h
run_fits call (x ∷ xs) c d h e =
    let r = and_then_ok (step limited call x c) (in_order (step limited call) xs) d e in
    run_fits call xs r.0 d (step_fits call x c r.0 r.1) r.2

module _ (w : Map ℕ (List Part)) (f : waiting_fits w ≡ true) where
  pub run_with : (call : Call) (xs : List Placed) (c : Context) → fits c ≡ true → run limited call xs (with_waiting w c) ≡ waiting_with w f (run limited call xs c)
  unfolding run in_order and_then waiting_with
  run_with call [] c h = refl
  run_with call (x ∷ xs) c h =
      by_result (step limited call x c)
      (λ d e. rw (step_with w f call x c h ∙ with_ok w f (step limited call x c) d e, e) (run_with call xs d (step_fits call x c d e)))
      (λ r e. rw (step_with w f call x c h ∙ with-refused w f (step limited call x c) r e, e))

  pub span_with : (p : Option ℕ) (g : ℕ) (s : Span) (c : Context) → fits c ≡ true → set_span limited p g s (with_waiting w c) ≡ waiting_with w f (set_span limited p g s c)
  unfolding set_span and_then with_groups with_waiting
  span_with p g s c h =
      by_result (spanned s (made (lookup numbers g c.groups)))
      (λ t e. rw e (limited_with w f p (with_groups (insert numbers g t c.groups) c) (waiting-fits c h)))
      (λ r e. rw e (unfold waiting_with in refl))

  pub finish_with_lem : (p : Option ℕ) (g : ℕ) (s : Span) (xs : List Placed) (c : Context) → fits c ≡ true → finish_group limited p g s xs (with_waiting w c) ≡ waiting_with w f (finish_group limited p g s xs c)
  unfolding finish_group
  finish_with_lem p g s [] c h = unfold waiting_with and_then in refl
  finish_with_lem p g s (x ∷ xs) c h =
      by_result (run limited replay_rewrite (x ∷ xs) c)
      (λ d e. rw (run_with replay_rewrite (x ∷ xs) c h ∙ with_ok w f (run limited replay_rewrite (x ∷ xs) c) d e, e) (unfold and_then in span_with p g s d (run_fits replay_rewrite (x ∷ xs) c d h e)))
      (λ r e. rw (run_with replay_rewrite (x ∷ xs) c h ∙ with-refused w f (run limited replay_rewrite (x ∷ xs) c) r e, e) (unfold and_then waiting_with in refl))

-- ---- marks

mark-content : (x : Content) → or_else false (λ (b : ℕ). true) (mark_byte x) ≡ true → (is_reserved x ≡ true) × (is_tombstone x ≡ false)
unfolding mark_byte or_else is_reserved is_tombstone
mark-content (entries es) e = absurd (clash e)
mark-content (command c) e = absurd (clash e)
mark-content (kv k del) e = absurd (clash e)
mark-content (kv k (put v f)) e =
    split (equal_bytes k reserved_key) (λ y. (y, refl)) (λ n. absurd (clash (rw n at e)))

-- a mark does nothing
pub mark_step : (call : Call) (x : Placed) (c : Context) → is_mark x.item ≡ true → fits c ≡ true → step limited call x c ≡ Ok c
unfolding step act add_tombstone is_mark placed and_then
mark_step call x c m h =
    let r = mark-content x.item.content m in
    rw (r.0, r.1, and-false (keeps call)) (limited-fits x.place c h)

-- the items but the marks
abbrev pub plain : List Placed → List Placed
plain xs = select (λ x. not (is_mark x.item)) xs

pub run-plain : (call : Call) (xs : List Placed) (c : Context) → fits c ≡ true → run limited call (plain xs) c ≡ run limited call xs c
unfolding run in_order select and_then
run-plain call [] c h = refl
run-plain call (x ∷ xs) c h =
    split (is_mark x.item)
    (λ y. rw (y, mark_step call x c y h) (run-plain call xs c h))
    (λ n. rw n
    (by_result (step limited call x c)
    (λ d e. rw e (run-plain call xs d (step_fits call x c d e)))
    (λ r e. rw e)))
