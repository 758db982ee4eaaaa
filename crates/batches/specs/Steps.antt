-- One item on a context that passes no limit: what it does to its group, and how the lists of tombstones and cleaned numbers grow.
-- Assumes nothing.
use Rattle.std.specs.Prelude.{Bool, not, ◌&&◌, ◌||◌, List, [], ◌∷◌, ◌++◌, ◌≡◌, ℕ, ◌+◌, ltb, length}
use Rattle.std.proofs.Math.Bool.{true, false, cond}
use Rattle.std.specs.Prelude.{Option, Some}
use Rattle.std.proofs.Math.Path.{refl, ap}
use Rattle.std.proofs.Common.{sym, ◌∙◌, arith, length-append, leb-true, le-leb, ltb-true, ltb-false}
use Rattle.std.proofs.Math.Dec.{leb}
use Rattle.std.proofs.lemmas.Bool.{lt-leb}
use Rattle.maps.specs.BoolLaws.{clash, and-false, both_left, both_right, both}
use Rattle.maps.specs.OrderLaws.{split, numbers_lawful}
use Rattle.maps.specs.Lists.{every}
use Rattle.maps.specs.Maps.{Pair, Map, lookup, insert, remove, store, numbers}
use Rattle.maps.specs.MapLaws.{lookup-insert_same, every-lookup, every-insert, every-remove, length-remove-le}
use Rattle.rules.specs.Limits.{max_groups, max_tombstones, max_cleaned}
use Rattle.rules.specs.Causes.{Refusal, Result, Ok, Err, refuse, refuse_at, and_then, placed, LimitPassed}
use Rattle.rules.specs.Items.{Append, same_queue, Content, entries, command, kv, clean, LogItem, Placed, is_reserved, is_clean, is_tombstone, writes, is_live_rewrite, Call}
use Rattle.rules.specs.Table.{Table, made, change, command_to}
use Rattle.rules.specs.Context.{Context, with_groups, with_cleaned, with_tombstones, table_fits, waiting_fits, fits, limited, keeps, add_cleaned, add_tombstone, act, step}
use Rattle.groups.specs.Calls.{on_group}

-- whether an item adds a tombstone, and a cleaned number
unfoldable pub adds_tombstone : Call → LogItem → Bool
adds_tombstone call it = keeps call && is_tombstone it.content

unfoldable pub adds_cleaned : Call → LogItem → Bool
adds_cleaned call it = same_queue (writes call) Append && is_clean it.content

-- a list with one more element, if it is added
unfoldable pub one_more_if : {A : Type 0} → Bool → List A → A → List A
one_more_if b xs x = cond b (xs ++ (x ∷ [])) xs

-- c with what the item adds to its lists
unfoldable pub grown : Call → LogItem → Context → Context
grown call it c =
    record {
      kind = c.kind;
      groups = c.groups;
      tombstones = one_more_if (adds_tombstone call it) c.tombstones it;
      cleaned = one_more_if (adds_cleaned call it) c.cleaned it.group;
      waiting = c.waiting;
    }

-- whether a list of n elements has room for what is added
unfoldable pub room_if : Bool → ℕ → ℕ → Bool
room_if b n most = not b || ltb n most

unfoldable pub lists_have_room : Call → LogItem → Context → Bool
lists_have_room call it c =
    room_if (adds_tombstone call it) (length c.tombstones) max_tombstones && room_if (adds_cleaned call it) (length c.cleaned) max_cleaned

-- the limits of groups
unfoldable pub groups_fit : Map ℕ Table → Bool
groups_fit m = leb (length m) max_groups && every (λ (p : Pair ℕ Table). table_fits p.val) m

-- ---- the rules' lists are the grown ones

tombstones-grow : (call : Call) (it : LogItem) (c : Context) → add_tombstone call it c ≡ with_tombstones (one_more_if (adds_tombstone call it) c.tombstones it) c
unfolding add_tombstone adds_tombstone one_more_if with_tombstones
tombstones-grow call it c = by (keeps call && is_tombstone it.content)
  where
    by : (b : Bool) → cond b (with_tombstones (c.tombstones ++ (it ∷ [])) c) c ≡ with_tombstones (cond b (c.tombstones ++ (it ∷ [])) c.tombstones) c
    by true = refl
    by false = refl

cleaned-grow : (call : Call) (it : LogItem) (c : Context) → add_cleaned call it c ≡ with_cleaned (one_more_if (adds_cleaned call it) c.cleaned it.group) c
unfolding add_cleaned adds_cleaned one_more_if with_cleaned
cleaned-grow call it c = by (same_queue (writes call) Append && is_clean it.content)
  where
    by : (b : Bool) → cond b (with_cleaned (c.cleaned ++ (it.group ∷ [])) c) c ≡ with_cleaned (cond b (c.cleaned ++ (it.group ∷ [])) c.cleaned) c
    by true = refl
    by false = refl

grows : (call : Call) (it : LogItem) (c : Context) → add_tombstone call it (add_cleaned call it c) ≡ grown call it c
unfolding grown with_tombstones with_cleaned
grows call it c = tombstones-grow call it (add_cleaned call it c) ∙ ap (λ (d : Context). with_tombstones (one_more_if (adds_tombstone call it) d.tombstones it) d) (cleaned-grow call it c)

-- ---- the limits of the grown lists

one_more_lem : {A : Type 0} (b : Bool) (xs : List A) (x : A) (most : ℕ) → leb (length xs) most ≡ true → leb (length (one_more_if b xs x)) most ≡ room_if b (length xs) most
unfolding one_more_if room_if
one_more_lem true xs x most h = rw (length-append xs (x ∷ [])) (step-up (length xs) most)
  where
    step-up : (n most : ℕ) → leb (n + 1) most ≡ ltb n most
    step-up n most =
        split (ltb n most)
        (λ t. le-leb (n + 1) most (omega (arith, ltb-true n most t)) ∙ sym t)
        (λ f. lt-leb (n + 1) most (omega (arith, ltb-false n most f)) ∙ sym f)
one_more_lem false xs x most h = h

-- the limits of c, read off one by one
record Within (c : Context) : Type 0 where
  few-groups : leb (length c.groups) max_groups ≡ true
  small-tables : every (λ (p : Pair ℕ Table). table_fits p.val) c.groups ≡ true
  few-tombstones : leb (length c.tombstones) max_tombstones ≡ true
  few-cleaned : leb (length c.cleaned) max_cleaned ≡ true
  few-waiting : waiting_fits c.waiting ≡ true

within : (c : Context) → fits c ≡ true → Within c
unfolding fits
within c h =
    let a = leb (length c.groups) max_groups in
    let b = every (λ (p : Pair ℕ Table). table_fits p.val) c.groups in
    let d = leb (length c.tombstones) max_tombstones in
    let e = leb (length c.cleaned) max_cleaned in
    let f = waiting_fits c.waiting in
    let abde = both_left (a && b && d && e) f h in
    let abd = both_left (a && b && d) e abde in
    let ab = both_left (a && b) d abd in
    record {
      few-groups = both_left a b ab;
      small-tables = both_right a b ab;
      few-tombstones = both_right (a && b) d abd;
      few-cleaned = both_right (a && b && d) e abde;
      few-waiting = both_right (a && b && d && e) f h;
    }

and-true : (a : Bool) → (a && true) ≡ a
and-true true = refl
and-true false = refl

and_assoc : (a b d : Bool) → (a && b && d) ≡ (a && (b && d))
and_assoc true b d = refl
and_assoc false b d = refl

-- groups m in c with the grown lists pass no limit if m does not and the lists have room
fits-grown : (call : Call) (it : LogItem) (m : Map ℕ Table) (c : Context) → fits c ≡ true → fits (grown call it (with_groups m c)) ≡ (groups_fit m && lists_have_room call it c)
unfolding fits grown with_groups groups_fit lists_have_room
fits-grown call it m c h =
    let w = within c h in
    let a = leb (length m) max_groups && every (λ (p : Pair ℕ Table). table_fits p.val) m in
    let d = room_if (adds_tombstone call it) (length c.tombstones) max_tombstones in
    let e = room_if (adds_cleaned call it) (length c.cleaned) max_cleaned in
    rw (
      one_more_lem (adds_tombstone call it) c.tombstones it max_tombstones w.few-tombstones,
      one_more_lem (adds_cleaned call it) c.cleaned it.group max_cleaned w.few-cleaned,
      w.few-waiting,
    )
    (and-true (a && d && e) ∙ and_assoc a d e)

-- groups m in c pass no limit if they do not
pub fits-groups : (m : Map ℕ Table) (c : Context) → fits c ≡ true → fits (with_groups m c) ≡ groups_fit m
unfolding fits with_groups groups_fit
fits-groups m c h =
    let w = within c h in
    let a = leb (length m) max_groups && every (λ (p : Pair ℕ Table). table_fits p.val) m in
    rw (w.few-tombstones, w.few-cleaned, w.few-waiting) (and-true (a && true && true) ∙ and-true (a && true) ∙ and-true a)

pub groups-fit : (c : Context) → fits c ≡ true → groups_fit c.groups ≡ true
unfolding groups_fit
groups-fit c h = both (within c h).few-groups (within c h).small-tables

pub fits-inserted : (g : ℕ) (t : Table) (m : Map ℕ Table) → groups_fit m ≡ true → groups_fit (insert numbers g t m) ≡ (table_fits t && leb (length (insert numbers g t m)) max_groups)
unfolding groups_fit
fits-inserted g t m h =
    let P : Pair ℕ Table → Bool = λ p. table_fits p.val in
    let a = leb (length (insert numbers g t m)) max_groups in
    split (table_fits t)
    (λ y. rw (y, every-insert numbers numbers_lawful P g t m (both_right (leb (length m) max_groups) (every P m) h) y) (and-true a))
    (λ n. rw n
    (split (every P (insert numbers g t m))
    (λ y. absurd (clash (sym n ∙ every-lookup numbers numbers_lawful P g t (insert numbers g t m) y (lookup-insert_same numbers numbers_lawful g t m))))
    (λ f. rw f (and-false a))))

fits-removed : (g : ℕ) (m : Map ℕ Table) → groups_fit m ≡ true → groups_fit (remove numbers g m) ≡ true
unfolding groups_fit
fits-removed g m h =
    let P : Pair ℕ Table → Bool = λ p. table_fits p.val in
    let a = leb-true (length m) max_groups (both_left (leb (length m) max_groups) (every P m) h) in
    both (le-leb (length (remove numbers g m)) max_groups (omega (arith, a, length-remove-le numbers numbers_lawful g m)))
    (every-remove numbers numbers_lawful P g m (both_right (leb (length m) max_groups) (every P m) h))

-- ---- the steps

pub limited_by : (p : Option ℕ) (c : Context) (b : Bool) → fits c ≡ b → limited p c ≡ cond b (Ok c) (refuse_at LimitPassed p)
unfolding limited
limited_by p c b e = rw e

-- a state judged by the limits: the lists decide where the groups fit
judged : (call : Call) (it : LogItem) (p : Option ℕ) (m : Map ℕ Table) (c : Context) → fits c ≡ true → groups_fit m ≡ true → limited p (grown call it (with_groups m c)) ≡ cond (lists_have_room call it c) (Ok (grown call it (with_groups m c))) (refuse_at LimitPassed p)
judged call it p m c h g =
    limited_by p (grown call it (with_groups m c)) (lists_have_room call it c) (fits-grown call it m c h ∙ ap (λ (b : Bool). b && lists_have_room call it c) g)

reserved-not-clean : (x : Content) → is_reserved x ≡ true → is_clean x ≡ false
unfolding is_reserved is_clean
reserved-not-clean (entries es) r = refl
reserved-not-clean (command c) r = absurd (clash r)
reserved-not-clean (kv k c) r = refl

module _ (call : Call) (it : LogItem) (p : Option ℕ) (c : Context) (h : fits c ≡ true) where
  abbrev x : Placed
  x = record { item = it; place = p }

  step_of : (d : Context) → act call it c ≡ Ok d → step limited call x c ≡ limited p (add_tombstone call it d)
  unfolding step placed and_then
  step_of d e = rw e

  uncleaned : (d : Context) → adds_cleaned call it ≡ false → add_cleaned call it d ≡ d
  unfolding add_cleaned adds_cleaned
  uncleaned d k = rw k

  -- a reserved item is skipped; as a Del it is kept as a tombstone all the same
  pub step_skip : is_reserved it.content ≡ true → step limited call x c ≡ cond (lists_have_room call it c) (Ok (grown call it c)) (refuse_at LimitPassed p)
  unfolding act adds_cleaned with_groups
  step_skip r =
      let k : adds_cleaned call it ≡ false = rw (reserved-not-clean it.content r) (and-false (same_queue (writes call) Append)) in
      step_of c (rw r)
      ∙ ap (limited p) (ap (add_tombstone call it) (sym (uncleaned c k)) ∙ grows call it c)
      ∙ judged call it p c.groups c h (groups-fit c h)

  cleans : it.content ≡ command clean → is_live_rewrite call ≡ false → act call it c ≡ Ok (add_cleaned call it (with_groups (remove numbers it.group c.groups) c))
  unfolding act and_then is_reserved change command_to store
  cleans e l = rw (e, l)

  -- Clean removes the group
  pub step-clean : it.content ≡ command clean → is_live_rewrite call ≡ false → step limited call x c ≡ cond (lists_have_room call it c) (Ok (grown call it (with_groups (remove numbers it.group c.groups) c))) (refuse_at LimitPassed p)
  step-clean e l =
      step_of (add_cleaned call it (with_groups (remove numbers it.group c.groups) c)) (cleans e l)
      ∙ ap (limited p) (grows call it (with_groups (remove numbers it.group c.groups) c))
      ∙ judged call it p (remove numbers it.group c.groups) c h (fits-removed it.group c.groups (groups-fit c h))

  -- any other item changes its group's table by a rule
  module _ (by : Table → Result Table) (n : is_reserved it.content ≡ false)
      (e : change call it.content (lookup numbers it.group c.groups) ≡ and_then (by (made (lookup numbers it.group c.groups))) (λ t. Ok (Some t))) where
    -- the groups and the context with the changed table
    abbrev with : Table → Map ℕ Table
    with t = insert numbers it.group t c.groups

    inserts : (t : Table) → by (made (lookup numbers it.group c.groups)) ≡ Ok t → act call it c ≡ Ok (add_cleaned call it (with_groups (with t) c))
    unfolding act and_then store
    inserts t q = rw (n, e, q)

    taken : (t : Table) → by (made (lookup numbers it.group c.groups)) ≡ Ok t → step limited call x c ≡ cond (groups_fit (with t) && lists_have_room call it c) (Ok (grown call it (with_groups (with t) c))) (refuse_at LimitPassed p)
    taken t q =
        step_of (add_cleaned call it (with_groups (with t) c)) (inserts t q)
        ∙ ap (limited p) (grows call it (with_groups (with t) c))
        ∙ limited_by p (grown call it (with_groups (with t) c)) (groups_fit (with t) && lists_have_room call it c) (fits-grown call it (with t) c h)

    -- a table of the rule, and whether it fits
    accepted : lists_have_room call it c ≡ true → (t : Table) → by (made (lookup numbers it.group c.groups)) ≡ Ok t → step limited call x c ≡ placed p (and_then (on_group by it.group c.groups) (λ m. Ok (grown call it (with_groups m c))))
    unfolding on_group and_then placed
    accepted y t q =
        taken t q
        ∙ rw (q, y, fits-inserted it.group t c.groups (groups-fit c h)) (by-fit (table_fits t && leb (length (with t)) max_groups))
      where
        by-fit : (b : Bool) → cond (b && true) (Ok (grown call it (with_groups (with t) c))) (refuse_at LimitPassed p) ≡ placed p (and_then (cond b (Ok (with t)) (refuse LimitPassed)) (λ m. Ok (grown call it (with_groups m c))))
        by-fit true = refl
        by-fit false = refl

    refuses : (f : Refusal) → by (made (lookup numbers it.group c.groups)) ≡ Err f → step limited call x c ≡ placed p (and_then (on_group by it.group c.groups) (λ m. Ok (grown call it (with_groups m c))))
    unfolding step act on_group and_then placed
    refuses f q = rw (n, e, q)

    pub step-change : lists_have_room call it c ≡ true → step limited call x c ≡ placed p (and_then (on_group by it.group c.groups) (λ m. Ok (grown call it (with_groups m c))))
    step-change y = by_result (by (made (lookup numbers it.group c.groups))) refl
      where
        by_result : (r : Result Table) → by (made (lookup numbers it.group c.groups)) ≡ r → step limited call x c ≡ placed p (and_then (on_group by it.group c.groups) (λ m. Ok (grown call it (with_groups m c))))
        by_result (Ok t) q = accepted y t q
        by_result (Err f) q = refuses f q

    pub step-full : lists_have_room call it c ≡ false → (t : Table) → by (made (lookup numbers it.group c.groups)) ≡ Ok t → step limited call x c ≡ refuse_at LimitPassed p
    step-full y t q = taken t q ∙ rw (y, and-false (groups_fit (with t)))
