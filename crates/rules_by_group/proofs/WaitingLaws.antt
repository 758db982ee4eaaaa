-- Newer waiting parts accepted: what waits afterwards depends on the parts alone, and what finishes is done to its own group.
-- Assumes nothing.
use Rattle.std.specs.Prelude.{◌≡◌, Bool, true, ◌&&◌, eqb}
use Rattle.std.proofs.Math.Path.{refl, sym, ap}
use Rattle.std.proofs.Common.{◌∙◌}
use Rattle.std.proofs.lemmas.Bool.{false≢true}
use mathlib.Core.List.{List, [], ◌∷◌, ◌++◌, reverse, append_assoc, append-nil}
use Rattle.std.specs.Prelude.{Option, None, Some}
use Prim.Native.Nat.{ℕ}
use borrow.Author.Tests.{eqb-true}
use Rattle.maps.specs.Lists.{select, every, last, or_else}
use Rattle.maps.specs.Maps.{Pair, Map, lookup, insert, store, numbers}
use Rattle.maps.specs.ListLaws.{every-head, every-tail}
use Rattle.maps.specs.BoolLaws.{both_left}
use Rattle.maps.specs.OrderLaws.{split, numbers_lawful, above-differs}
use Rattle.maps.specs.MapLaws.{AllBelow, Ascending, ascending-head, ascending-tail, ascending-store, lookup-store, lookup-store_same, lookup-store-other, store-again, store-store, every-lookup}
use Rattle.rules.specs.Causes.{Refusal, Result, Ok, Err, and_then, in_order, left, FilesGoBack}
use Rattle.rules.specs.Items.{Rewrite, same_queue, put, del, Content, entries, command, kv, LogItem, placed_at, is_reserved, is_tombstone, replay_rewrite, writes}
use Rattle.rules.specs.Table.{Span, Table, made, spanned, entries_to, put_to, change_to, change}
use Rattle.rules.specs.Context.{context, Part, Context, with_groups, with_waiting, unjudged, keeps, step, run}
use Rattle.rules.specs.Waiting.{Accepted, wait, finish, back, accept, some_parts, set_waiting, set_span, finish_group, become, accept_new_group, accept_parts, accept_all}
use Rattle.rules_by_group.specs.Group.{changed, tomb_of, parts_of, waits, accept_part, Finished, finished_by, finished_of, replayed_items, finish_with, finish_table}
use Rattle.rules_by_group.specs.Stage.{accept_parts_of, waiting_after, tombs_in, finished_tombs}
use Rattle.rules_by_group.specs.Kept.{is_begin, is_end, behind, shaped, entry_by, each_entry, is_passed, is_own, own_items, own_parts}
use Rattle.rules_by_group.proofs.ResultLaws.{by_result, one-refusal, refusal_of, ok_inj, refused_not_ok, in_order-kept, in_order-refused, and_then_ok, and_then_of, and_then-refused, and_then_same, and_then-unit, and_then-assoc, and_then-map}
use Rattle.rules_by_group.proofs.DeedLaws.{do_deed, do_all, deeds_of, deed_ok, deed-refused, own, own-map, ByGroup, by_group-ext, deeds_by-group}
use Rattle.rules_by_group.proofs.ItemLaws.{cleaned_by, kept_by, after, step_of}
use Rattle.rules_by_group.proofs.PartLaws.{own-items-append, own-head, own-tail, OwnAccepted, own_old, accept-own, begin-waits, PartsKept, kept_if, accept-kept, accept-refused, own-reverse}
use Rattle.rules_by_group.proofs.MergeLaws.{finishing, finish-refused, accepted_to, Accepts}

-- ---- items of a finished part

-- Rewrite replay refuses no item
pub replay-changed : (x : Content) (o : Option Table) → changed replay_rewrite x o ≡ Ok (left o (changed replay_rewrite x o))
unfolding changed
replay-changed x o = split (is_reserved x) (λ e. rw e (unfold left in refl)) (λ e. rw e (each x))
  where
    each : (y : Content) → change replay_rewrite y o ≡ Ok (left o (change replay_rewrite y o))
    each (entries es) = unfold change entries_to and_then left in refl
    each (command c) = unfold change left in refl
    each (kv k del) = unfold change change_to and_then left in refl
    each (kv k (put v f)) = unfold change change_to put_to and_then left in refl

abbrev tombs_of : List LogItem → List LogItem
tombs_of items = select (λ (it : LogItem). is_tombstone it.content) items

tombs-cons : (x : LogItem) (xs : List LogItem) → tomb_of x ++ tombs_of xs ≡ tombs_of (x ∷ xs)
unfolding tomb_of select
tombs-cons x xs = split (is_tombstone x.content) (λ e. rw e) (λ e. rw e)

-- the context after group g's own items
abbrev items_done : ℕ → List LogItem → Context → Context
items_done g xs c =
    record {
      kind = c.kind;
      groups = store numbers g (replayed_items xs (lookup numbers g c.groups)) c.groups;
      tombstones = c.tombstones ++ tombs_of xs;
      cleaned = c.cleaned;
      waiting = c.waiting;
    }

module _ (x : LogItem) (xs : List LogItem) (c : Context) (asc : Ascending numbers c.groups) where
  abbrev before : Option Table
  before = lookup numbers x.group c.groups

  abbrev next : Option Table
  next = left before (changed replay_rewrite x.content before)

  abbrev stepped : Context
  stepped = after replay_rewrite x next c

  first_step : run unjudged replay_rewrite (placed_at None (x ∷ xs)) c ≡ run unjudged replay_rewrite (placed_at None xs) stepped
  unfolding run in_order placed_at
  first_step =
      and_then_of (step unjudged replay_rewrite (record { item = x; place = None }) c) (in_order (step unjudged replay_rewrite) (placed_at None xs)) stepped
      (step_of unjudged replay_rewrite (record { item = x; place = None }) c asc next (replay-changed x.content before) ∙ (unfold unjudged in refl))

  stepped-ascend : Ascending numbers stepped.groups
  unfolding after
  stepped-ascend = ascending-store numbers numbers_lawful x.group next c.groups asc

  same-groups : store numbers x.group (replayed_items xs (lookup numbers x.group (store numbers x.group next c.groups))) (store numbers x.group next c.groups) ≡ store numbers x.group (replayed_items (x ∷ xs) before) c.groups
  unfolding replayed_items
  same-groups =
      ap (λ o. store numbers x.group (replayed_items xs o) (store numbers x.group next c.groups)) (lookup-store_same numbers numbers_lawful x.group next c.groups asc)
      ∙ store-store numbers numbers_lawful x.group (replayed_items xs next) next c.groups asc

  same-tombs : (c.tombstones ++ kept_by replay_rewrite x) ++ tombs_of xs ≡ c.tombstones ++ tombs_of (x ∷ xs)
  unfolding kept_by keeps
  same-tombs = append_assoc c.tombstones (tomb_of x) (tombs_of xs) ∙ ap (λ l. c.tombstones ++ l) (tombs-cons x xs)

  same-cleaned : c.cleaned ++ cleaned_by replay_rewrite x ≡ c.cleaned
  unfolding cleaned_by writes same_queue
  same-cleaned = append-nil c.cleaned

  items_more : items_done x.group xs stepped ≡ items_done x.group (x ∷ xs) c
  unfolding after
  items_more = λ i. record { kind = c.kind; groups = same-groups i; tombstones = same-tombs i; cleaned = same-cleaned i; waiting = c.waiting }

own-group : (g : ℕ) (x : LogItem) → is_own g x ≡ true → eqb x.group g ≡ true
unfolding is_own
own-group g x h =
    both_left (eqb x.group g) (each_entry (entry_by (context Rewrite)) x.content)
    (both_left (eqb x.group g && each_entry (entry_by (context Rewrite)) x.content) (is_passed x) h)

own_first : (g : ℕ) (x : LogItem) (xs : List LogItem) → own_items g (x ∷ xs) ≡ true → x.group ≡ g
unfolding own_items
own_first g x xs h = eqb-true x.group g (own-group g x (every-head (is_own g) x xs h))

own-later : (g : ℕ) (x : LogItem) (xs : List LogItem) → own_items g (x ∷ xs) ≡ true → own_items g xs ≡ true
unfolding own_items
own-later g x xs h = every-tail (is_own g) x xs h

run-own : (g : ℕ) (xs : List LogItem) (c : Context) → Ascending numbers c.groups → own_items g xs ≡ true → run unjudged replay_rewrite (placed_at None xs) c ≡ Ok (items_done g xs c)
run-own g [] c asc h = unfold run in_order placed_at replayed_items select in (λ i. Ok (record { kind = c.kind; groups = sym (store-again numbers numbers_lawful g (lookup numbers g c.groups) c.groups refl asc) i; tombstones = sym (append-nil c.tombstones) i; cleaned = c.cleaned; waiting = c.waiting }))
run-own g (x ∷ xs) c asc h =
    let e = own_first g x xs h in
    first_step x xs c asc
    ∙ run-own g xs (stepped x xs c asc) (stepped-ascend x xs c asc) (own-later g x xs h)
    ∙ ap (λ d. Ok d) (rw (← e) (items_more x xs c asc))

-- ---- one part

placed-append : (xs ys : List LogItem) → placed_at None xs ++ placed_at None ys ≡ placed_at None (xs ++ ys)
unfolding placed_at
placed-append [] ys = refl
placed-append (x ∷ xs) ys = ap (λ l. record { item = x; place = None } ∷ l) (placed-append xs ys)

module _ (g : ℕ) (c : Context) (asc : Ascending numbers c.groups) where
  abbrev table : Option Table
  table = lookup numbers g c.groups

  insert_once : (u : Table) (o : Option Table) → insert numbers g u (store numbers g o c.groups) ≡ store numbers g (Some u) c.groups
  unfolding store
  insert_once u o = store-store numbers numbers_lawful g (Some u) o c.groups asc

  -- the span is set on what the items left
  span_set : (s : Span) (xs : List LogItem) → set_span unjudged None g s (items_done g xs c) ≡ and_then (spanned s (made (replayed_items xs table))) (λ t. Ok (accepted_to c.waiting (tombs_of xs) c (store numbers g (Some t) c.groups)))
  unfolding set_span unjudged with_groups
  span_set s xs =
      let t = replayed_items xs table in
      ap (λ o. and_then (spanned s (made o)) (λ u. Ok (accepted_to c.waiting (tombs_of xs) c (insert numbers g u (items_done g xs c).groups)))) (lookup-store_same numbers numbers_lawful g t c.groups asc)
      ∙ and_then_same (spanned s (made t)) (λ u. Ok (accepted_to c.waiting (tombs_of xs) c (insert numbers g u (items_done g xs c).groups))) (λ u. Ok (accepted_to c.waiting (tombs_of xs) c (store numbers g (Some u) c.groups))) (λ u. ap (λ m. Ok (accepted_to c.waiting (tombs_of xs) c m)) (insert_once u t))

  same-again : (w : Map ℕ (List Part)) → ◌≡◌ {A = Result Context} (Ok (record { kind = c.kind; groups = c.groups; tombstones = c.tombstones; cleaned = c.cleaned; waiting = w })) (Ok (accepted_to w [] c (store numbers g table c.groups)))
  same-again w = λ i. Ok (record { kind = c.kind; groups = sym (store-again numbers numbers_lawful g table c.groups refl asc) i; tombstones = sym (append-nil c.tombstones) i; cleaned = c.cleaned; waiting = w })

  -- items and span of a finished part, on the group's own table
  finish-own : (s : Span) (xs : List LogItem) → own_items g xs ≡ true → finish_group unjudged None g s (placed_at None xs) c ≡ and_then (finish_with s xs table) (λ t. Ok (accepted_to c.waiting (tombs_of xs) c (store numbers g t c.groups)))
  finish-own s [] h = unfold finish_group placed_at finish_with and_then select in same-again c.waiting
  finish-own s (x ∷ xs) h =
      let set-span = set_span unjudged None g s in
      unfold finish_group placed_at finish_with in
      ap (λ r. and_then r set-span) (unfold placed_at in run-own g (x ∷ xs) c asc h)
      ∙ and_then_of (Ok (items_done g (x ∷ xs) c)) set-span (items_done g (x ∷ xs) c) refl
      ∙ span_set s (x ∷ xs)
      ∙ sym (and_then-map (spanned s (made (replayed_items (x ∷ xs) table))) (λ t. Some t) (λ t. Ok (accepted_to c.waiting (tombs_of (x ∷ xs)) c (store numbers g t c.groups))))

-- what becomes of the context when group g accepts a new part
abbrev part_done : ℕ → Part → Context → Accepted → Result Context
part_done g p c a =
    and_then (waits a)
    (λ o. and_then (finish_table (finished_by p a) (lookup numbers g c.groups)) (λ t. Ok (accepted_to (store numbers g o c.waiting) (tombs_in (finished_by p a)) c (store numbers g t c.groups))))

module _ (g : ℕ) (p : Part) (c : Context) (asc : Ascending numbers c.groups) where
  become-wait : (ps : List Part) → become unjudged None g p (placed_at None p.items) c (wait ps) ≡ part_done g p c (wait ps)
  unfolding become unjudged set_waiting with_waiting waits finished_by finish_table tombs_in or_else and_then
  become-wait ps = same-again g c asc (store numbers g (some_parts ps) c.waiting)

  become-finish : (old : Part) (ps : List Part) → own_items g old.items ≡ true → own_items g p.items ≡ true → become unjudged None g p (placed_at None p.items) c (finish old ps) ≡ part_done g p c (finish old ps)
  unfolding become set_waiting with_waiting waits finished_by finish_table tombs_in or_else and_then
  become-finish old ps ho hp =
      let s : Span = record { start = old.start; end = p.end } in
      let d : Context = record { kind = c.kind; groups = c.groups; tombstones = c.tombstones; cleaned = c.cleaned; waiting = store numbers g (some_parts ps) c.waiting } in
      ap (λ l. finish_group unjudged None g s l d) (placed-append old.items p.items)
      ∙ finish-own g d asc s (old.items ++ p.items) (own-items-append g old.items p.items ho hp)

  become-one : (a : Accepted) → OwnAccepted g a → own_items g p.items ≡ true → become unjudged None g p (placed_at None p.items) c a ≡ part_done g p c a
  become-one (wait ps) h hp = become-wait ps
  become-one (finish old ps) h hp = become-finish old ps (own_old g old ps h) hp
  become-one back h hp = unfold become waits and_then in refl

  accept-one : own_parts g (parts_of (lookup numbers g c.waiting)) ≡ true → own_items g p.items ≡ true → accept_new_group unjudged None g p (placed_at None p.items) c ≡ part_done g p c (accept (parts_of (lookup numbers g c.waiting)) p)
  unfolding accept_new_group parts_of
  accept-one h hp =
      become-one (accept (parts_of (lookup numbers g c.waiting)) p) (accept-own g (parts_of (lookup numbers g c.waiting)) p h hp) hp

-- ---- the parts of one group

module _ (g : ℕ) (c : Context) (asc : Ascending numbers c.groups) (up : Ascending numbers c.waiting) where
  abbrev older : Option (List Part)
  older = lookup numbers g c.waiting

  -- the new part p of group g
  abbrev take_in : Part → Context → Result Context
  take_in p d = accept_new_group unjudged None g p (placed_at None p.items) d

  -- what waits then is o, and the group's table t
  abbrev made_of : Option Finished → Option (List Part) → Option Table → Context
  made_of f o t = accepted_to (store numbers g o c.waiting) (tombs_in f) c (store numbers g t c.groups)

  -- what finishes done, with w waiting
  abbrev finished_with : Option Finished → Map ℕ (List Part) → Result Context
  finished_with f w = and_then (finish_table f (lookup numbers g c.groups)) (λ t. Ok (accepted_to w (tombs_in f) c (store numbers g t c.groups)))

  -- what becomes of the context when group g accepts all new parts
  abbrev group_done : List Part → Result Context
  group_done ps = and_then (accept_parts_of (record { key = g; val = ps }) c.waiting) (finished_with (finished_of (Some ps) older))

  -- by what waits after the new parts
  group-is : (f : Option Finished) (r : Result (Option (List Part))) → and_then (and_then r (λ o. Ok (store numbers g o c.waiting))) (finished_with f) ≡ and_then r (λ o. and_then (finish_table f (lookup numbers g c.groups)) (λ t. Ok (made_of f o t)))
  group-is f r =
      and_then-map r (λ o. store numbers g o c.waiting) (finished_with f)

  one_in : (p : Part) (d : Context) → in_order take_in (p ∷ []) d ≡ take_in p d
  unfolding in_order
  one_in p d = and_then_same (take_in p d) (in_order take_in []) (λ e. Ok e) (λ e. refl) ∙ and_then-unit (take_in p d)

  one-accepted : (p : Part) (o : Option (List Part)) → in_order accept_part (p ∷ []) o ≡ waits (accept (parts_of o) p)
  unfolding in_order accept_part
  one-accepted p o = and_then_same (waits (accept (parts_of o) p)) (in_order accept_part []) (λ e. Ok e) (λ e. refl) ∙ and_then-unit (waits (accept (parts_of o) p))

  module _ (own : own_parts g (parts_of older) ≡ true) where
    one-part : (p : Part) → own_items g p.items ≡ true → accept_parts (record { key = g; val = p ∷ [] }) c ≡ group_done (p ∷ [])
    unfolding accept_parts accept_parts_of
    one-part p hp =
        let a = accept (parts_of older) p in
        one_in p c
        ∙ accept-one g p c asc own hp
        ∙ sym (ap (λ r. and_then (and_then r (λ o. Ok (store numbers g o c.waiting))) (finished_with (finished_by p a))) (one-accepted p older) ∙ group-is (finished_by p a) (waits a))
        ∙ (unfold finished_of parts_of last or_else in refl)

    -- a Begin behind an End: the End is accepted first, and then the Begin waits
    module _ (b e : Part) (begins : is_begin b.status ≡ true) (he : own_items g e.items ≡ true) where
      abbrev finishes : Option Finished
      finishes = finished_by e (accept (parts_of older) e)

      -- what waits after the Begin
      abbrev after_begin : Option (List Part) → Option (List Part)
      after_begin o = some_parts (begin-waits (parts_of o) b begins).0

      begin-accepted : (o : Option (List Part)) → in_order accept_part (b ∷ []) o ≡ Ok (after_begin o)
      begin-accepted o = one-accepted b o ∙ ap waits (begin-waits (parts_of o) b begins).1 ∙ (unfold waits in refl)

      both-accepted : in_order accept_part (e ∷ (b ∷ [])) older ≡ and_then (waits (accept (parts_of older) e)) (λ o. Ok (after_begin o))
      unfolding in_order accept_part
      both-accepted =
          and_then_same (waits (accept (parts_of older) e)) (in_order accept_part (b ∷ [])) (λ o. Ok (after_begin o)) begin-accepted

      begin-in : (o : Option (List Part)) (t : Option Table) → in_order take_in (b ∷ []) (made_of finishes o t) ≡ Ok (made_of finishes (after_begin o) t)
      begin-in o t =
          let w = begin-waits (parts_of o) b begins in
          let d = made_of finishes o t in
          one_in b d
          ∙ taken d (lookup numbers g (store numbers g o c.waiting)) refl
          ∙ ap (λ x. become unjudged None g b (placed_at None b.items) d (accept (parts_of x) b)) (lookup-store_same numbers numbers_lawful g o c.waiting up)
          ∙ ap (become unjudged None g b (placed_at None b.items) d) w.1
          ∙ (unfold become unjudged set_waiting with_waiting in ap (λ x. Ok (accepted_to x (tombs_in finishes) c (store numbers g t c.groups))) (store-store numbers numbers_lawful g (some_parts w.0) o c.waiting up))
        where
          taken : (d : Context) (x : Option (List Part)) → lookup numbers g d.waiting ≡ x → take_in b d ≡ become unjudged None g b (placed_at None b.items) d (accept (parts_of x) b)
          taken d x h = unfold accept_new_group parts_of in rw h

      part_in : (d : Context) → d ≡ c → in_order take_in (e ∷ (b ∷ [])) d ≡ and_then (take_in e d) (in_order take_in (b ∷ []))
      unfolding in_order
      part_in d h = refl

      two-parts : accept_parts (record { key = g; val = b ∷ (e ∷ []) }) c ≡ group_done (b ∷ (e ∷ []))
      unfolding accept_parts accept_parts_of
      two-parts =
          let a = accept (parts_of older) e in
          let table = lookup numbers g c.groups in
          let made-of : Option (List Part) → Result Context = λ o. and_then (finish_table finishes table) (λ t. Ok (made_of finishes o t)) in
          part_in c refl
          ∙ ap (λ r. and_then r (in_order take_in (b ∷ []))) (accept-one g e c asc own he)
          ∙ and_then-assoc (waits a) made-of (in_order take_in (b ∷ []))
          ∙ and_then_same (waits a) (λ o. and_then (made-of o) (in_order take_in (b ∷ []))) (λ o. made-of (after_begin o))
          (λ o. and_then-map (finish_table finishes table) (made_of finishes o) (in_order take_in (b ∷ []))
          ∙ and_then_same (finish_table finishes table) (λ t. in_order take_in (b ∷ []) (made_of finishes o t)) (λ t. Ok (made_of finishes (after_begin o) t)) (begin-in o))
          ∙ sym (and_then-map (waits a) after_begin made-of)
          ∙ ap (λ r. and_then r made-of) (sym both-accepted)
          ∙ sym (group-is finishes (in_order accept_part (e ∷ (b ∷ [])) older))
          ∙ (unfold finished_of parts_of last or_else in refl)

    accept-group : (ps : List Part) → shaped ps ≡ true → own_parts g ps ≡ true → accept_parts (record { key = g; val = ps }) c ≡ group_done ps
    accept-group [] s h = absurd (false≢true (unfold shaped in s))
    accept-group (p ∷ []) s h = one-part p (own-head g p [] h)
    accept-group (b ∷ (e ∷ [])) s h =
        two-parts b e (both_left (is_begin b.status) (is_end e.status) (unfold shaped behind in s)) (own-head g e [] (own-tail g b (e ∷ []) h))
    accept-group (p ∷ (o ∷ (r ∷ rs))) s h = absurd (false≢true (unfold shaped behind in s))

-- ---- all groups

-- what waits, group by group
unfoldable pub AllKept : Map ℕ (List Part) → Type 0
AllKept w = (g : ℕ) → PartsKept g (lookup numbers g w)

pub all-kept : (w : Map ℕ (List Part)) → every (λ (x : Pair ℕ (List Part)). own_parts x.key x.val) w ≡ true → every (λ (x : Pair ℕ (List Part)). shaped x.val) w ≡ true → AllKept w
unfolding AllKept
all-kept w h s g =
    kept_if g (lookup numbers g w)
    (λ ps e. every-lookup numbers numbers_lawful (λ (x : Pair ℕ (List Part)). own_parts x.key x.val) g ps w h e)
    (λ ps e. every-lookup numbers numbers_lawful (λ (x : Pair ℕ (List Part)). shaped x.val) g ps w s e)

pub kept_of : (w : Map ℕ (List Part)) (g : ℕ) → AllKept w → PartsKept g (lookup numbers g w)
unfolding AllKept
kept_of w g k = k g

module _ (x : Pair ℕ (List Part)) (w : Map ℕ (List Part)) where
  -- the group's parts afterwards
  pub after_is : (w₁ : Map ℕ (List Part)) → accept_parts_of x w ≡ Ok w₁ → (o : Option (List Part)) × (in_order accept_part (reverse x.val) (lookup numbers x.key w) ≡ Ok o) × (w₁ ≡ store numbers x.key o w)
  unfolding accept_parts_of
  after_is w₁ e =
      let s = and_then_ok (in_order accept_part (reverse x.val) (lookup numbers x.key w)) (λ o. Ok (store numbers x.key o w)) w₁ e in
      (s.0, s.1, sym (ok_inj s.2))

  pub after-ascends : (w₁ : Map ℕ (List Part)) → Ascending numbers w → accept_parts_of x w ≡ Ok w₁ → Ascending numbers w₁
  after-ascends w₁ up e = let s = after_is w₁ e in rw s.2 (ascending-store numbers numbers_lawful x.key s.0 w up)

  pub after_kept : (w₁ : Map ℕ (List Part)) → Ascending numbers w → own_parts x.key x.val ≡ true → AllKept w → accept_parts_of x w ≡ Ok w₁ → AllKept w₁
  unfolding AllKept
  after_kept w₁ up h k e g =
      let s = after_is w₁ e in
      let here = in_order-kept accept_part (λ (p : Part). own_items x.key p.items) (PartsKept x.key) (λ a o p. accept-kept x.key a o p) (reverse x.val) (lookup numbers x.key w) s.0 (own-reverse x.key x.val h) (k x.key) s.1 in
      rw (s.2, lookup-store numbers numbers_lawful g x.key s.0 w up)
      (split (eqb g x.key) (λ e. rw (e, eqb-true g x.key e) here) (λ e. rw e (k g)))

  after-refused : (y : Refusal) → accept_parts_of x w ≡ Err y → y ≡ refusal_of FilesGoBack
  unfolding accept_parts_of
  after-refused y e =
      let parts = in_order accept_part (reverse x.val) (lookup numbers x.key w) in
      let stored : Option (List Part) → Result (Map ℕ (List Part)) = λ o. Ok (store numbers x.key o w) in
      by_result parts
      (λ o h. absurd (refused_not_ok (sym e ∙ and_then_of parts stored o h)))
      (λ z h. one-refusal (and_then parts stored) y z e (and_then-refused parts stored z h)
      ∙ in_order-refused accept_part (refusal_of FilesGoBack) accept-refused (reverse x.val) (lookup numbers x.key w) z h)

pub waiting-refused : (newer w : Map ℕ (List Part)) (y : Refusal) → waiting_after newer w ≡ Err y → y ≡ refusal_of FilesGoBack
unfolding waiting_after
waiting-refused newer w y e = in_order-refused accept_parts_of (refusal_of FilesGoBack) after-refused newer w y e

-- what a lower group's parts become does not show at a later group
finishing-later : (k : ℕ) (o : Option (List Part)) (w xs : Map ℕ (List Part)) → AllBelow numbers k xs → deeds_of (finishing (store numbers k o w)) xs ≡ deeds_of (finishing w) xs
unfolding deeds_of AllBelow
finishing-later k o w [] b = refl
finishing-later k o w (x ∷ xs) b =
    rw (lookup-store-other numbers numbers_lawful x.key k o w (above-differs numbers numbers_lawful k x.key b.0), finishing-later k o w xs b.1)

tombs-later : (k : ℕ) (o : Option (List Part)) (w xs : Map ℕ (List Part)) → AllBelow numbers k xs → finished_tombs xs (store numbers k o w) ≡ finished_tombs xs w
unfolding finished_tombs AllBelow
tombs-later k o w [] b = refl
tombs-later k o w (x ∷ xs) b =
    rw (lookup-store-other numbers numbers_lawful x.key k o w (above-differs numbers numbers_lawful k x.key b.0), tombs-later k o w xs b.1)

module _ (x : Pair ℕ (List Part)) (xs : Map ℕ (List Part)) (c : Context) where
  abbrev finished : Option Finished
  finished = finished_of (Some x.val) (lookup numbers x.key c.waiting)

  abbrev old_table : Option Table
  old_table = lookup numbers x.key c.groups

  -- the context after the first group's parts
  abbrev first_done : Map ℕ (List Part) → Option Table → Context
  first_done w t = accepted_to w (tombs_in finished) c (store numbers x.key t c.groups)

  -- what all groups' parts make of it
  abbrev all_done : Map ℕ (List Part) → Result Context
  all_done w = and_then (do_all (deeds_of (finishing c.waiting) (x ∷ xs)) c.groups) (λ m. Ok (accepted_to w (finished_tombs (x ∷ xs) c.waiting) c m))

  all-is : accept_all (x ∷ xs) c ≡ and_then (accept_parts x c) (accept_all xs)
  unfolding accept_all in_order
  all-is = refl

  waiting-is : (w : Map ℕ (List Part)) → waiting_after (x ∷ xs) w ≡ and_then (accept_parts_of x w) (waiting_after xs)
  unfolding waiting_after in_order
  waiting-is w = refl

  module _ (group : accept_parts x c ≡ and_then (accept_parts_of x c.waiting) (λ w. and_then (finish_table finished old_table) (λ t. Ok (first_done w t)))) where
    -- files go back
    cons_back : (y : Refusal) → accept_parts_of x c.waiting ≡ Err y → Accepts (x ∷ xs) c
    unfolding Accepts
    cons_back y e =
        let next : Map ℕ (List Part) → Result Context = λ w. and_then (finish_table finished old_table) (λ t. Ok (first_done w t)) in
        all-is
        ∙ and_then-refused (accept_parts x c) (accept_all xs) y (group ∙ and_then-refused (accept_parts_of x c.waiting) next y e)
        ∙ sym (and_then-refused (waiting_after (x ∷ xs) c.waiting) all_done y (waiting-is c.waiting ∙ and_then-refused (accept_parts_of x c.waiting) (waiting_after xs) y e))

    module _ (w : Map ℕ (List Part)) (e : accept_parts_of x c.waiting ≡ Ok w) where
      group-then : accept_parts x c ≡ and_then (finish_table finished old_table) (λ t. Ok (first_done w t))
      group-then = group ∙ and_then_of (accept_parts_of x c.waiting) (λ v. and_then (finish_table finished old_table) (λ t. Ok (first_done v t))) w e

      waiting-then : waiting_after (x ∷ xs) c.waiting ≡ waiting_after xs w
      waiting-then = waiting-is c.waiting ∙ and_then_of (accept_parts_of x c.waiting) (waiting_after xs) w e

      first_deed : deeds_of (finishing c.waiting) (x ∷ xs) ≡ record { group = x.key; by = finish_table finished } ∷ deeds_of (finishing c.waiting) xs
      unfolding deeds_of
      first_deed = refl

      -- the span's files go back
      cons-span : (y : Refusal) → finish_table finished old_table ≡ Err y → Accepts (x ∷ xs) c
      unfolding Accepts
      cons-span y h =
          all-is
          ∙ and_then-refused (accept_parts x c) (accept_all xs) y (group-then ∙ and_then-refused (finish_table finished old_table) (λ t. Ok (first_done w t)) y h)
          ∙ sym right
        where
          all-refused : (v : Map ℕ (List Part)) → all_done v ≡ Err y
          all-refused v =
              and_then-refused (do_all (deeds_of (finishing c.waiting) (x ∷ xs)) c.groups) (λ m. Ok (accepted_to v (finished_tombs (x ∷ xs) c.waiting) c m)) y
              (ap (λ ds. do_all ds c.groups) first_deed ∙ deed-refused (record { group = x.key; by = finish_table finished }) (deeds_of (finishing c.waiting) xs) c.groups y h)

          right : and_then (waiting_after (x ∷ xs) c.waiting) all_done ≡ Err y
          right =
              by_result (waiting_after (x ∷ xs) c.waiting)
              (λ v k. and_then_of (waiting_after (x ∷ xs) c.waiting) all_done v k ∙ all-refused v)
              (λ z k. and_then-refused (waiting_after (x ∷ xs) c.waiting) all_done z k ∙ ap (λ u. Err u) (waiting-refused (x ∷ xs) c.waiting z k ∙ sym (finish-refused finished old_table y h)))

      later_deeds : (b : AllBelow numbers x.key xs) → deeds_of (finishing w) xs ≡ deeds_of (finishing c.waiting) xs
      later_deeds b =
          let s = after_is x c.waiting w e in
          ap (λ v. deeds_of (finishing v) xs) s.2 ∙ finishing-later x.key s.0 c.waiting xs b

      later-tombs : (b : AllBelow numbers x.key xs) → (c.tombstones ++ tombs_in finished) ++ finished_tombs xs w ≡ c.tombstones ++ finished_tombs (x ∷ xs) c.waiting
      later-tombs b =
          let s = after_is x c.waiting w e in
          append_assoc c.tombstones (tombs_in finished) (finished_tombs xs w)
          ∙ ap (λ l. c.tombstones ++ (tombs_in finished ++ l)) (ap (finished_tombs xs) s.2 ∙ tombs-later x.key s.0 c.waiting xs b)
          ∙ (unfold finished_tombs in refl)

      next-is : (b : AllBelow numbers x.key xs) (t : Option Table) → finish_table finished old_table ≡ Ok t → (v : Map ℕ (List Part)) → and_then (do_all (deeds_of (finishing w) xs) (store numbers x.key t c.groups)) (λ m. Ok (accepted_to v (finished_tombs xs w) (first_done w t) m)) ≡ all_done v
      next-is b t h v =
          let to : Map ℕ Table → Result Context = λ m. Ok (accepted_to v (finished_tombs (x ∷ xs) c.waiting) c m) in
          let deeds = deeds_of (finishing c.waiting) xs in
          and_then_same (do_all (deeds_of (finishing w) xs) (store numbers x.key t c.groups)) (λ m. Ok (accepted_to v (finished_tombs xs w) (first_done w t) m)) to (λ m. λ i. Ok (record { kind = c.kind; groups = m; tombstones = later-tombs b i; cleaned = c.cleaned; waiting = v }))
          ∙ ap (λ ds. and_then (do_all ds (store numbers x.key t c.groups)) to) (later_deeds b)
          ∙ ap (λ r. and_then r to) (sym (ap (λ ds. do_all ds c.groups) first_deed ∙ deed_ok (record { group = x.key; by = finish_table finished }) deeds c.groups t h))

      -- the first group is done; the others follow
      cons-next : (b : AllBelow numbers x.key xs) (t : Option Table) → finish_table finished old_table ≡ Ok t → Accepts xs (first_done w t) → Accepts (x ∷ xs) c
      unfolding Accepts
      cons-next b t h ih =
          let deeds = deeds_of (finishing w) xs in
          let next : Map ℕ (List Part) → Result Context = λ v. and_then (do_all deeds (store numbers x.key t c.groups)) (λ m. Ok (accepted_to v (finished_tombs xs w) (first_done w t) m)) in
          all-is
          ∙ and_then_of (accept_parts x c) (accept_all xs) (first_done w t) (group-then ∙ and_then_of (finish_table finished old_table) (λ u. Ok (first_done w u)) t h)
          ∙ ih
          ∙ and_then_same (waiting_after xs w) next all_done (next-is b t h)
          ∙ ap (λ r. and_then r all_done) (sym waiting-then)

accepts-nil : (c : Context) → Accepts [] c
unfolding Accepts accept_all in_order waiting_after and_then deeds_of do_all finished_tombs
accepts-nil c = rw (append-nil c.tombstones)

abbrev own_pair : Pair ℕ (List Part) → Bool
own_pair x = own_parts x.key x.val

abbrev shaped_pair : Pair ℕ (List Part) → Bool
shaped_pair x = shaped x.val

pub accepts_all : (newer : Map ℕ (List Part)) (c : Context) → Ascending numbers newer → every own_pair newer ≡ true → every shaped_pair newer ≡ true → Ascending numbers c.groups → Ascending numbers c.waiting → AllKept c.waiting → Accepts newer c
accepts_all [] c an own shape asc up k = accepts-nil c
accepts_all (x ∷ xs) c an own shape asc up k =
    let f = finished x xs c in
    let o = old_table x xs c in
    let group = accept-group x.key c asc up (kept_of c.waiting x.key k).own x.val (every-head shaped_pair x xs shape) (every-head own_pair x xs own) in
    by_result (accept_parts_of x c.waiting)
    (λ w e. by_result (finish_table f o)
    (λ t h.
    let asc₁ = ascending-store numbers numbers_lawful x.key t c.groups asc in
    let up₁ = after-ascends x c.waiting w up e in
    let k₁ = after_kept x c.waiting w up (every-head own_pair x xs own) k e in
    cons-next x xs c group w e (ascending-head numbers x xs an) t h
    (accepts_all xs (first_done x xs c w t) (ascending-tail numbers x xs an) (every-tail own_pair x xs own) (every-tail shaped_pair x xs shape) asc₁ up₁ k₁))
    (λ y h. cons-span x xs c group w e y h))
    (λ y e. cons_back x xs c group y e)

-- ---- what waits, group by group

-- the parts of one group after its newer parts, the oldest first
unfoldable pub parts_after : Option (List Part) → Option (List Part) → Result (Option (List Part))
parts_after newer older = in_order accept_part (reverse (parts_of newer)) older

abbrev accept_deed : ℕ → List Part → Option (List Part) → Result (Option (List Part))
accept_deed g ps = in_order accept_part (reverse ps)

waiting_deeds : (newer w : Map ℕ (List Part)) → waiting_after newer w ≡ do_all (deeds_of accept_deed newer) w
unfolding waiting_after in_order do_all deeds_of do_deed accept_parts_of
waiting_deeds [] w = refl
waiting_deeds (x ∷ xs) w = and_then_same (accept_parts_of x w) (waiting_after xs) (do_all (deeds_of accept_deed xs)) (waiting_deeds xs)

one-group : (newer older : Option (List Part)) → or_else (Ok older) (λ ps. in_order accept_part (reverse ps) older) newer ≡ parts_after newer older
unfolding or_else parts_after parts_of
one-group None older = unfold in_order in refl
one-group (Some ps) older = refl

-- what waits afterwards is each group's own; it is refused exactly if some group's files go back
pub waiting_by-group : (newer w : Map ℕ (List Part)) → Ascending numbers newer → Ascending numbers w → ByGroup (λ g. parts_after (lookup numbers g newer) (lookup numbers g w)) (waiting_after newer w)
waiting_by-group newer w an up =
    let deeds = deeds_of accept_deed newer in
    rw (waiting_deeds newer w)
    (by_group-ext (λ g. parts_after (lookup numbers g newer) (lookup numbers g w)) (λ g. own g deeds (lookup numbers g w)) (do_all deeds w)
    (λ g. sym (own-map accept_deed g newer (lookup numbers g w) an ∙ one-group (lookup numbers g newer) (lookup numbers g w)))
    (deeds_by-group deeds w up))
