-- What an item does to a context: to its own group, to the cleaned numbers and to the tombstones.
-- Assumes nothing.
use Rattle.std.specs.Prelude.{◌≡◌, Bool, true, false, cond, ℕ, eqb}
use Rattle.std.proofs.Math.Path.{refl, ap}
use Rattle.std.proofs.Common.{sym, ◌∙◌, true≢false, eqb-true}
use Rattle.std.proofs.lemmas.Bool.{false≢true}
use mathlib.Core.List.{List, [], ◌∷◌, ◌++◌, map, append_assoc, append-nil}
use Rattle.std.specs.Prelude.{Option, None}
use Rattle.maps.specs.Lists.{every}
use Rattle.maps.specs.Maps.{Map, lookup, store, numbers}
use Rattle.maps.specs.ListLaws.{every-head, every-tail}
use Rattle.maps.specs.OrderLaws.{split, numbers_lawful}
use Rattle.maps.specs.MapLaws.{Ascending, ascending-store, store-again}
use Rattle.rules.specs.Causes.{Refusal, Ok, Err, and_then, in_order, placed}
use Rattle.rules.specs.Items.{Append, same_queue, clean, compact, put, del, Content, entries, command, kv, LogItem, Placed, is_reserved, is_clean, is_tombstone, Call, writes, is_live_rewrite}
use Rattle.rules.specs.Table.{Table, change, change_to, command_to}
use Rattle.rules.specs.Context.{Context, with_groups, with_tombstones, with_cleaned, fits, Judge, limited, add_cleaned, act, keeps, add_tombstone, step, replay_tombstones}
use Rattle.rules_by_group.specs.Group.{changed, effect, effected, tombed, tomb_of, clean_of, cleans_of}
use Rattle.rules_by_group.specs.Kept.{all_tombstones}
use Rattle.rules_by_group.proofs.ResultLaws.{ok_inj, by_result, refused_not_ok, and_then_of, and_then_same}
use Rattle.rules_by_group.proofs.DeedLaws.{Deed, do_all, deed_ok, own}

-- ---- the lists

-- the cleaned numbers and the tombstones that a call adds by an item
unfoldable pub cleaned_by : Call → LogItem → List ℕ
cleaned_by call it = cond (same_queue (writes call) Append) (clean_of it) []

unfoldable pub kept_by : Call → LogItem → List LogItem
kept_by call it = cond (keeps call) (tomb_of it) []

-- a reserved key's item is no clean
pub reserved-clean : (x : Content) → is_reserved x ≡ true → is_clean x ≡ false
unfolding is_reserved is_clean
reserved-clean (entries es) h = absurd (false≢true h)
reserved-clean (command c) h = absurd (false≢true h)
reserved-clean (kv k c) h = refl

pub add-cleaned : (call : Call) (it : LogItem) (c : Context) → add_cleaned call it c ≡ with_cleaned (c.cleaned ++ cleaned_by call it) c
unfolding add_cleaned cleaned_by clean_of with_cleaned
add-cleaned call it c =
    split (same_queue (writes call) Append)
    (λ q. split (is_clean it.content) (λ e. rw (q, e)) (λ e. rw (q, e, append-nil c.cleaned)))
    (λ q. rw (q, append-nil c.cleaned))

pub add_tombstone_lem : (call : Call) (it : LogItem) (c : Context) → add_tombstone call it c ≡ with_tombstones (c.tombstones ++ kept_by call it) c
unfolding add_tombstone kept_by tomb_of with_tombstones
add_tombstone_lem call it c =
    split (keeps call)
    (λ q. split (is_tombstone it.content) (λ e. rw (q, e)) (λ e. rw (q, e, append-nil c.tombstones)))
    (λ q. rw (q, append-nil c.tombstones))

-- ---- one item

-- the context after an item that leaves its group at t, its tombstone not kept
unfoldable pub acted : Call → LogItem → Option Table → Context → Context
acted call it t c =
    record {
      kind = c.kind;
      groups = store numbers it.group t c.groups;
      tombstones = c.tombstones;
      cleaned = c.cleaned ++ cleaned_by call it;
      waiting = c.waiting;
    }

module _ (call : Call) (it : LogItem) (c : Context) where
  abbrev own-table : Option Table
  own-table = lookup numbers it.group c.groups

  act_reserved : is_reserved it.content ≡ true → act call it c ≡ Ok c
  unfolding act
  act_reserved e = rw e

  act-not : is_reserved it.content ≡ false → (t : Option Table) → change call it.content own-table ≡ Ok t → act call it c ≡ Ok (acted call it t c)
  unfolding act acted and_then with_cleaned with_groups
  act-not e t h = rw (e, h) (ap Ok (add-cleaned call it (with_groups (store numbers it.group t c.groups) c)))

  act-not-refused : is_reserved it.content ≡ false → (r : Refusal) → change call it.content own-table ≡ Err r → act call it c ≡ Err r
  unfolding act and_then
  act-not-refused e r h = rw (e, h)

  changed_reserved : (o : Option Table) → is_reserved it.content ≡ true → changed call it.content o ≡ Ok o
  unfolding changed
  changed_reserved o e = rw e

  changed-not : (o : Option Table) → is_reserved it.content ≡ false → changed call it.content o ≡ change call it.content o
  unfolding changed
  changed-not o e = rw e

  none-cleaned : is_reserved it.content ≡ true → c.cleaned ++ cleaned_by call it ≡ c.cleaned
  unfolding cleaned_by clean_of
  none-cleaned e =
      split (same_queue (writes call) Append)
      (λ q. rw (q, reserved-clean it.content e, append-nil c.cleaned))
      (λ q. rw (q, append-nil c.cleaned))

  module _ (asc : Ascending numbers c.groups) where
    -- a reserved item leaves the context
    acted_reserved : is_reserved it.content ≡ true → acted call it own-table c ≡ c
    unfolding acted
    acted_reserved e =
        λ i. record {
          kind = c.kind;
          groups = store-again numbers numbers_lawful it.group own-table c.groups refl asc i;
          tombstones = c.tombstones;
          cleaned = none-cleaned e i;
          waiting = c.waiting;
        }

    pub act_of : (t : Option Table) → changed call it.content own-table ≡ Ok t → act call it c ≡ Ok (acted call it t c)
    act_of t h =
        split (is_reserved it.content)
        (λ e. act_reserved e ∙ ap Ok (sym (acted_reserved e) ∙ ap (λ x. acted call it x c) (ok_inj (sym (changed_reserved own-table e) ∙ h))))
        (λ e. act-not e t (sym (changed-not own-table e) ∙ h))

    pub act-refused : (r : Refusal) → changed call it.content own-table ≡ Err r → act call it c ≡ Err r
    act-refused r h =
        split (is_reserved it.content)
        (λ e. absurd (refused_not_ok (sym h ∙ changed_reserved own-table e)))
        (λ e. act-not-refused e r (sym (changed-not own-table e) ∙ h))

-- ---- one step of a batch

-- the context after an item that leaves its group at t
unfoldable pub after : Call → LogItem → Option Table → Context → Context
after call it t c =
    record {
      kind = c.kind;
      groups = store numbers it.group t c.groups;
      tombstones = c.tombstones ++ kept_by call it;
      cleaned = c.cleaned ++ cleaned_by call it;
      waiting = c.waiting;
    }

module _ (judge : Judge) (call : Call) (x : Placed) (c : Context) (asc : Ascending numbers c.groups) where
  step-acted : (d : Context) → act call x.item c ≡ Ok d → step judge call x c ≡ judge x.place (add_tombstone call x.item d)
  unfolding step placed and_then
  step-acted d h = rw h

  step-not : (r : Refusal) → act call x.item c ≡ Err r → step judge call x c ≡ Err (record { cause = r.cause; place = x.place })
  unfolding step placed and_then
  step-not r h = rw h

  with_tombstone : (t : Option Table) → add_tombstone call x.item (acted call x.item t c) ≡ after call x.item t c
  unfolding acted after with_tombstones
  with_tombstone t = add_tombstone_lem call x.item (acted call x.item t c)

  pub step_of : (t : Option Table) → changed call x.item.content (lookup numbers x.item.group c.groups) ≡ Ok t → step judge call x c ≡ judge x.place (after call x.item t c)
  step_of t h = step-acted (acted call x.item t c) (act_of call x.item c asc t h) ∙ ap (judge x.place) (with_tombstone t)

  -- what an accepted step has done
  pub step_ok : (d : Context) → step judge call x c ≡ Ok d → (t : Option Table) × (changed call x.item.content (lookup numbers x.item.group c.groups) ≡ Ok t) × (judge x.place (after call x.item t c) ≡ Ok d)
  step_ok d h =
      by_result (changed call x.item.content (lookup numbers x.item.group c.groups))
      (λ t e. (t, e, sym (step_of t e) ∙ h))
      (λ r e. absurd (refused_not_ok (sym (step-not r (act-refused call x.item c asc r e)) ∙ h)))

-- ---- judged by the limits

pub limited-fits : (p : Option ℕ) (c : Context) → fits c ≡ true → limited p c ≡ Ok c
unfolding limited
limited-fits p c h = rw h

-- an accepted state is the state judged
pub limited_ok : (p : Option ℕ) (c d : Context) → limited p c ≡ Ok d → (c ≡ d) × (fits c ≡ true)
unfolding limited
limited_ok p c d h = split (fits c) (λ e. (ok_inj (rw e at h), e)) (λ e. absurd (refused_not_ok (rw e at h)))

-- what an accepted item of a batch has done
pub step-taken : (call : Call) (x : Placed) (c d : Context) → Ascending numbers c.groups → step limited call x c ≡ Ok d → (t : Option Table) × (changed call x.item.content (lookup numbers x.item.group c.groups) ≡ Ok t) × (d ≡ after call x.item t c) × (fits d ≡ true)
step-taken call x c d asc h =
    let s = step_ok limited call x c asc d h in
    let l = limited_ok x.place (after call x.item s.0 c) d s.2 in
    (s.0, s.1, sym l.0, rw l.0 at l.1)

-- ---- tombstones, replayed and not kept a second time

change-clean : (call : Call) (o : Option Table) → is_live_rewrite call ≡ false → change call (command clean) o ≡ Ok None
unfolding change command_to
change-clean call o e = rw e

change-compact : (call : Call) (i : ℕ) (o : Option Table) → change call (command (compact i)) o ≡ Ok (effect (command (compact i)) o)
unfolding change command_to effect
change-compact call i o = refl

change-del : (call : Call) (k : List ℕ) (o : Option Table) → change call (kv k del) o ≡ Ok (effect (kv k del) o)
unfolding change change_to effect and_then
change-del call k o = refl

-- a tombstone is never refused
pub tomb-changed : (call : Call) (x : Content) (o : Option Table) → is_live_rewrite call ≡ false → is_tombstone x ≡ true → changed call x o ≡ Ok (effected x o)
unfolding changed effected is_tombstone
tomb-changed call (entries es) o l h = absurd (false≢true h)
tomb-changed call (command clean) o l h = unfold is_reserved effect in change-clean call o l
tomb-changed call (command (compact i)) o l h = unfold is_reserved in change-compact call i o
tomb-changed call (kv k del) o l h = split (is_reserved (kv k del)) (λ e. rw e) (λ e. rw e (change-del call k o))
tomb-changed call (kv k (put v f)) o l h = absurd (false≢true h)

unfoldable pub cleans_by : Call → List LogItem → List ℕ
cleans_by call xs = cond (same_queue (writes call) Append) (cleans_of xs) []

cleans-cons : (call : Call) (x : LogItem) (xs : List LogItem) → cleaned_by call x ++ cleans_by call xs ≡ cleans_by call (x ∷ xs)
unfolding cleaned_by cleans_by cleans_of
cleans-cons call x xs = split (same_queue (writes call) Append) (λ q. rw q) (λ q. rw q)

abbrev pub tomb_deed : LogItem → Deed Table
tomb_deed it = record { group = it.group; by = λ o. Ok (effected it.content o) }

pub own-tombs : (g : ℕ) (xs : List LogItem) (o : Option Table) → own g (map tomb_deed xs) o ≡ Ok (tombed g xs o)
unfolding own tombed and_then
own-tombs g [] o = refl
own-tombs g (x ∷ xs) o = split (eqb x.group g) (λ e. rw e (own-tombs g xs (effected x.content o))) (λ e. rw e (own-tombs g xs o))

-- the context with these groups and more cleaned numbers
abbrev pub replayed_to : List ℕ → Context → Map ℕ Table → Context
replayed_to l c m = record { kind = c.kind; groups = m; tombstones = c.tombstones; cleaned = c.cleaned ++ l; waiting = c.waiting }

acted-groups : (call : Call) (it : LogItem) (t : Option Table) (c : Context) → (acted call it t c).groups ≡ store numbers it.group t c.groups
unfolding acted
acted-groups call it t c = refl

pub acted-ascend : (call : Call) (it : LogItem) (t : Option Table) (c : Context) → Ascending numbers c.groups → Ascending numbers (acted call it t c).groups
unfolding acted
acted-ascend call it t c asc = ascending-store numbers numbers_lawful it.group t c.groups asc

pub tombs-head : (x : LogItem) (xs : List LogItem) → all_tombstones (x ∷ xs) ≡ true → is_tombstone x.content ≡ true
unfolding all_tombstones
tombs-head x xs h = every-head (λ (it : LogItem). is_tombstone it.content) x xs h

pub tombs-tail : (x : LogItem) (xs : List LogItem) → all_tombstones (x ∷ xs) ≡ true → all_tombstones xs ≡ true
unfolding all_tombstones
tombs-tail x xs h = every-tail (λ (it : LogItem). is_tombstone it.content) x xs h

module _ (call : Call) (live : is_live_rewrite call ≡ false) where
  acted-more : (x : LogItem) (xs : List LogItem) (t : Option Table) (c : Context) (m : Map ℕ Table) → replayed_to (cleans_by call xs) (acted call x t c) m ≡ replayed_to (cleans_by call (x ∷ xs)) c m
  unfolding acted
  acted-more x xs t c m = λ i. record { kind = c.kind; groups = m; tombstones = c.tombstones; cleaned = (append_assoc c.cleaned (cleaned_by call x) (cleans_by call xs) ∙ ap (λ l. c.cleaned ++ l) (cleans-cons call x xs)) i; waiting = c.waiting }

  module _ (x : LogItem) (xs : List LogItem) (c : Context) (asc : Ascending numbers c.groups) (h : is_tombstone x.content ≡ true) where
    abbrev next-table : Option Table
    next-table = effected x.content (lookup numbers x.group c.groups)

    first-acted : in_order (act call) (x ∷ xs) c ≡ in_order (act call) xs (acted call x next-table c)
    unfolding in_order
    first-acted = and_then_of (act call x c) (in_order (act call) xs) (acted call x next-table c) (act_of call x c asc next-table (tomb-changed call x.content (lookup numbers x.group c.groups) live h))

    first_done_lem : do_all (map tomb_deed (x ∷ xs)) c.groups ≡ do_all (map tomb_deed xs) (store numbers x.group next-table c.groups)
    first_done_lem = deed_ok (tomb_deed x) (map tomb_deed xs) c.groups next-table refl

    cons-acted : in_order (act call) xs (acted call x next-table c) ≡ and_then (do_all (map tomb_deed xs) (acted call x next-table c).groups) (λ m. Ok (replayed_to (cleans_by call xs) (acted call x next-table c) m)) → in_order (act call) (x ∷ xs) c ≡ and_then (do_all (map tomb_deed (x ∷ xs)) c.groups) (λ m. Ok (replayed_to (cleans_by call (x ∷ xs)) c m))
    cons-acted ih =
        first-acted
        ∙ ih
        ∙ and_then_same (do_all (map tomb_deed xs) (acted call x next-table c).groups) (λ m. Ok (replayed_to (cleans_by call xs) (acted call x next-table c) m)) (λ m. Ok (replayed_to (cleans_by call (x ∷ xs)) c m)) (λ m. ap Ok (acted-more x xs next-table c m))
        ∙ ap (λ r. and_then r (λ m. Ok (replayed_to (cleans_by call (x ∷ xs)) c m))) (ap (do_all (map tomb_deed xs)) (acted-groups call x next-table c) ∙ sym first_done_lem)

  nil-acted : (c : Context) → in_order (act call) [] c ≡ and_then (do_all [] c.groups) (λ m. Ok (replayed_to (cleans_by call []) c m))
  unfolding in_order do_all and_then cleans_by cleans_of
  nil-acted c = split (same_queue (writes call) Append) (λ q. rw (q, append-nil c.cleaned)) (λ q. rw (q, append-nil c.cleaned))

  tombs-acted : (xs : List LogItem) (c : Context) → Ascending numbers c.groups → all_tombstones xs ≡ true → in_order (act call) xs c ≡ and_then (do_all (map tomb_deed xs) c.groups) (λ m. Ok (replayed_to (cleans_by call xs) c m))
  tombs-acted [] c asc h = nil-acted c
  tombs-acted (x ∷ xs) c asc h =
      cons-acted x xs c asc (tombs-head x xs h)
      (tombs-acted xs (acted call x (effected x.content (lookup numbers x.group c.groups)) c) (acted-ascend call x (effected x.content (lookup numbers x.group c.groups)) c asc) (tombs-tail x xs h))

  -- tombstones on a context are their deeds on its groups, and the Cleans among them are cleaned numbers of the Append side
  pub tombs-replayed : (xs : List LogItem) (c : Context) → Ascending numbers c.groups → all_tombstones xs ≡ true → replay_tombstones call xs c ≡ and_then (do_all (map tomb_deed xs) c.groups) (λ m. Ok (replayed_to (cleans_by call xs) c m))
  unfolding replay_tombstones
  tombs-replayed xs c asc h = tombs-acted xs c asc h

-- tombstones of other groups leave a group
pub tombed-other : (p : ℕ → Bool) (g : ℕ) (xs : List LogItem) (o : Option Table) → every (λ (it : LogItem). p it.group) xs ≡ true → p g ≡ false → tombed g xs o ≡ o
unfolding tombed
tombed-other p g [] o h n = refl
tombed-other p g (x ∷ xs) o h n =
    split (eqb x.group g)
    (λ e. absurd (true≢false (sym (every-head (λ (it : LogItem). p it.group) x xs h) ∙ ap p (eqb-true x.group g e) ∙ n)))
    (λ e. rw e (tombed-other p g xs o (every-tail (λ (it : LogItem). p it.group) x xs h) n))
