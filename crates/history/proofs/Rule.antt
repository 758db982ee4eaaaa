-- The rule of what is held: an accepted step of one pass does to what a context holds what one item more does to what the rule says.
-- Assumes nothing.
use mathlib.Core.Path.{◌≡◌, refl, sym, ap, ◌∙◌}
use mathlib.Core.Logic.{⊎_elim}
use mathlib.Core.Bool.{Bool, true, false, cond, not, ◌&&◌, and-true, true≢false, false≢true}
use mathlib.Core.List.{List, [], ◌∷◌, ◌++◌, append_assoc, append-nil}
use Rattle.std.specs.Prelude.{Option, None, Some}
use Prim.Native.Nat.{ℕ}
use lib.Dec.{ltb, leb, eqb}
use borrow.Author.Tests.{lt-ltb, le-ltb, le-leb, lt-leb, eqb-true, eq-eqb, ne_eqb, eqb-false}
use Rattle.maps.specs.Lists.{select, every, or_else}
use Rattle.maps.specs.Maps.{Map, lookup, insert, remove, store, numbers, bytes, equal_bytes}
use Rattle.maps.specs.ListLaws.{every_append, every_all, select-append, select-select, select_same, select_all, select-none}
use Rattle.maps.specs.OrderLaws.{split, numbers_lawful, bytes_lawful}
use Rattle.maps.specs.MapLaws.{Ascending, lookup-store, lookup-insert_same, lookup-insert-other, lookup-remove_same, lookup-remove-other}
use Rattle.rules.specs.Limits.{reserved_key}
use Rattle.rules.specs.Causes.{Ok}
use Rattle.rules.specs.Items.{Append, FileId, EntryIndex, clean, compact, put, del, Content, entries, command, kv, LogItem, Placed, is_reserved, replay_append}
use Rattle.rules.specs.Table.{Held, Table, empty_table, made, with_entries, with_keys, entries_below, entries_from, over, appended, compacted, put_key, delete_key, change}
use Rattle.rules.specs.Context.{Context, fresh, limited, step}
use Rattle.history.specs.Held.{ends_entry, entry_stays, list_of, appended_to, entries_held, ends_key, key_stays, held_of, put_of, put_to, key_held}
use Rattle.history.specs.Demand3.{entries_in, key_in}
use Rattle.rules_by_group.specs.Group.{changed}
use Rattle.rules_by_group.proofs.ItemLaws.{after, step-taken}
use Rattle.rules_by_group.proofs.ResultLaws.{ok_inj, and_then_ok}
use Rattle.history.proofs.Windows.{either, over-nil, over-cons}
use Rattle.history.proofs.Group.{GoodIf, good-made, Fit, FitPut, appended-is, change-entries, change-clean, change-compact, change-put, change-del}
use Rattle.history.proofs.Contexts.{FitIf, GoodContext}

-- ---- the rule, with one item more

-- an entry that an item does not end
unfoldable pub left_by : ℕ → LogItem → EntryIndex → Bool
left_by g it e = not (eqb it.group g && ends_entry e.index it.content)

all_true : {A : Type 0} (xs : List A) → every (λ x. true) xs ≡ true
all_true xs = every_all (λ x. true) xs (λ x. refl)

stays-append : (g i : ℕ) (pre : List LogItem) (it : LogItem) → entry_stays g i (pre ++ (it ∷ [])) ≡ (entry_stays g i pre && not (eqb it.group g && ends_entry i it.content))
unfolding entry_stays
stays-append g i pre it =
    every_append (λ x. not (eqb x.group g && ends_entry i x.content)) pre (it ∷ [])
    ∙ ap (λ b. every (λ x. not (eqb x.group g && ends_entry i x.content)) pre && b) (unfold every in and-true (not (eqb it.group g && ends_entry i it.content)))

entries-first : (g : ℕ) (it : LogItem) → select (λ e. entry_stays g e.index []) (appended_to g it) ≡ appended_to g it
unfolding entry_stays every
entries-first g it = select_all (λ e. true) (appended_to g it) (all_true (appended_to g it))

pub entries-snoc : (g : ℕ) (pre : List LogItem) (it : LogItem) → entries_held g (pre ++ (it ∷ [])) ≡ select (left_by g it) (entries_held g pre) ++ appended_to g it
unfolding entries_held select
entries-snoc g [] it = append-nil (select (λ e. entry_stays g e.index []) (appended_to g it)) ∙ entries-first g it
entries-snoc g (x ∷ pre) it =
    ap (λ l. select (λ e. entry_stays g e.index (pre ++ (it ∷ []))) (appended_to g x) ++ l) (entries-snoc g pre it)
    ∙ ap (λ l. l ++ (select (left_by g it) (entries_held g pre) ++ appended_to g it)) earlier
    ∙ sym (append_assoc (select (left_by g it) (select (λ e. entry_stays g e.index pre) (appended_to g x))) (select (left_by g it) (entries_held g pre)) (appended_to g it))
    ∙ ap (λ l. l ++ appended_to g it) (sym (select-append (left_by g it) (select (λ e. entry_stays g e.index pre) (appended_to g x)) (entries_held g pre)))
  where
    earlier : select (λ e. entry_stays g e.index (pre ++ (it ∷ []))) (appended_to g x) ≡ select (left_by g it) (select (λ e. entry_stays g e.index pre) (appended_to g x))
    earlier =
        select_same (λ e. entry_stays g e.index (pre ++ (it ∷ []))) (λ e. entry_stays g e.index pre && left_by g it e) (appended_to g x) (λ e. stays-append g e.index pre it ∙ (unfold left_by in refl))
        ∙ sym (select-select (left_by g it) (λ e. entry_stays g e.index pre) (appended_to g x))

-- ---- entries of one group

not-leb : (a b : ℕ) → not (leb a b) ≡ ltb b a
not-leb a b =
    either b a
    (λ h. ap not (lt-leb a b h) ∙ sym (lt-ltb b a h))
    (λ h. ap not (le-leb a b h) ∙ sym (le-ltb b a h))

not-ltb : (a b : ℕ) → not (ltb a b) ≡ leb b a
not-ltb a b =
    either a b
    (λ h. ap not (lt-ltb a b h) ∙ sym (lt-leb b a h))
    (λ h. ap not (le-ltb a b h) ∙ sym (le-leb b a h))

-- the entries that a content leaves
unfoldable pub left_of : Content → List EntryIndex → List EntryIndex
left_of x es = select (λ e. not (ends_entry e.index x)) es

left_all : (x : Content) (es : List EntryIndex) → ((i : ℕ) → ends_entry i x ≡ false) → left_of x es ≡ es
unfolding left_of
left_all x es h =
    select_same (λ e. not (ends_entry e.index x)) (λ e. true) es (λ e. ap not (h e.index))
    ∙ select_all (λ e. true) es (all_true es)

left-clean : (es : List EntryIndex) → left_of (command clean) es ≡ []
unfolding left_of ends_entry
left-clean es = select-none (λ e. false) es (all_true es)

pub left-compact : (i : ℕ) (es : List EntryIndex) → left_of (command (compact i)) es ≡ entries_from i es
unfolding left_of ends_entry entries_from
left-compact i es = select_same (λ e. not (ltb e.index i)) (λ e. leb i e.index) es (λ e. not-ltb e.index i)

left-append : (h : EntryIndex) (hs es : List EntryIndex) → left_of (entries (h ∷ hs)) es ≡ entries_below h.index es
unfolding left_of ends_entry entries_below
left-append h hs es = select_same (λ e. not (leb h.index e.index)) (λ e. ltb e.index h.index) es (λ e. not-leb h.index e.index)

over-left : (es old : List EntryIndex) → over old es ≡ left_of (entries es) old ++ es
over-left [] old = over-nil old ∙ sym (left_all (entries []) old (λ i. unfold ends_entry in refl)) ∙ sym (append-nil (left_of (entries []) old))
over-left (h ∷ hs) old = over-cons old h hs ∙ ap (λ l. l ++ (h ∷ hs)) (sym (left-append h hs old))

made_some : (t : Option Table) (u : Table) → Some u ≡ t → made t ≡ u
unfolding made or_else
made_some t u e = rw (← e)

made_none : (t : Option Table) → None ≡ t → made t ≡ empty_table
unfolding made or_else
made_none t e = rw (← e)

-- contents that leave all entries and add none
unchanged : (x : Content) (o t : Option Table) (u : Table) → Some u ≡ t → u.entries ≡ (made o).entries → ((i : ℕ) → ends_entry i x ≡ false) → list_of x ≡ [] → (made t).entries ≡ left_of x (made o).entries ++ list_of x
unchanged x o t u e p q l =
    ap (λ (y : Table). y.entries) (made_some t u e)
    ∙ p
    ∙ sym (left_all x (made o).entries q)
    ∙ sym (append-nil (left_of x (made o).entries))
    ∙ ap (λ m. left_of x (made o).entries ++ m) (sym l)

put_entries : (k : List ℕ) (h : Held) (t : Table) → (put_key k h t).entries ≡ t.entries
unfolding put_key with_keys
put_entries k h t = refl

delete-entries : (k : List ℕ) (t : Table) → (delete_key k t).entries ≡ t.entries
unfolding delete_key with_keys
delete-entries k t = refl

compact-entries : (i : ℕ) (t : Table) → (compacted i t).entries ≡ entries_from i t.entries
unfolding compacted with_entries
compact-entries i t = refl

with_entries_lem : (es : List EntryIndex) (t : Table) → (with_entries es t).entries ≡ es
unfolding with_entries
with_entries_lem es t = refl

put-kept : (k : List ℕ) (v : Option (List ℕ)) (f : Option FileId) (o t : Option Table) → FitPut v f → change replay_append (kv k (put v f)) o ≡ Ok t → (made t).entries ≡ left_of (kv k (put v f)) (made o).entries ++ list_of (kv k (put v f))
unfolding FitPut
put-kept k None f o t x h = absurd x
put-kept k (Some v) None o t x h = absurd x
put-kept k (Some v) (Some f) o t x h =
    unchanged (kv k (put (Some v) (Some f))) o t (put_key k (record { value = v; file = f }) (made o)) (ok_inj (sym (change-put k v f o) ∙ h)) (put_entries k (record { value = v; file = f }) (made o)) (λ i. unfold ends_entry in refl) (unfold list_of in refl)

-- what an accepted content leaves of the entries and adds to them
entries-change : (x : Content) (o t : Option Table) → Fit x → change replay_append x o ≡ Ok t → (made t).entries ≡ left_of x (made o).entries ++ list_of x
unfolding Fit
entries-change (entries es) o t f h =
    let whole = and_then_ok (appended false es (made o)) (λ x. Ok (Some x)) t (sym (change-entries es o) ∙ h) in
    ap (λ (y : Table). y.entries) (made_some t whole.0 (ok_inj whole.2) ∙ appended-is es (made o) whole.0 whole.1)
    ∙ with_entries_lem (over (made o).entries es) (made o)
    ∙ over-left es (made o).entries
    ∙ ap (λ m. left_of (entries es) (made o).entries ++ m) listed
  where
    listed : es ≡ list_of (entries es)
    listed = unfold list_of in refl
entries-change (command clean) o t f h =
    ap (λ (y : Table). y.entries) (made_none t (ok_inj (sym (change-clean o) ∙ h)))
    ∙ empty
    ∙ ap (λ l. l ++ list_of (command clean)) (sym (left-clean (made o).entries))
  where
    empty : empty_table.entries ≡ [] ++ list_of (command clean)
    empty = unfold empty_table list_of in refl
entries-change (command (compact i)) o t f h =
    ap (λ (y : Table). y.entries) (made_some t (compacted i (made o)) (ok_inj (sym (change-compact i o) ∙ h)))
    ∙ compact-entries i (made o)
    ∙ sym (left-compact i (made o).entries)
    ∙ nothing-more
  where
    nothing-more : left_of (command (compact i)) (made o).entries ≡ left_of (command (compact i)) (made o).entries ++ list_of (command (compact i))
    nothing-more = unfold list_of in sym (append-nil (left_of (command (compact i)) (made o).entries))
entries-change (kv k del) o t f h =
    unchanged (kv k del) o t (delete_key k (made o)) (ok_inj (sym (change-del k o) ∙ h)) (delete-entries k (made o)) (λ i. unfold ends_entry in refl) (unfold list_of in refl)
entries-change (kv k (put v f)) o t x h = put-kept k v f o t x h

-- a reserved item leaves all entries and adds none
entries-skipped : (x : Content) (o : Option Table) → is_reserved x ≡ true → (made o).entries ≡ left_of x (made o).entries ++ list_of x
unfolding is_reserved
entries-skipped (entries es) o h = absurd (false≢true h)
entries-skipped (command c) o h = absurd (false≢true h)
entries-skipped (kv k c) o h = sym (append_of ∙ left_all (kv k c) (made o).entries (λ i. unfold ends_entry in refl))
  where
    append_of : left_of (kv k c) (made o).entries ++ list_of (kv k c) ≡ left_of (kv k c) (made o).entries
    append_of = unfold list_of in append-nil (left_of (kv k c) (made o).entries)

pub entries-kept : (x : Content) (o t : Option Table) → FitIf x → changed replay_append x o ≡ Ok t → (made t).entries ≡ left_of x (made o).entries ++ list_of x
unfolding FitIf changed
entries-kept x o t f h =
    split (is_reserved x)
    (λ e. ap (λ y. (made y).entries) (sym (ok_inj (rw e at h))) ∙ entries-skipped x o e)
    (λ e. ⊎_elim (λ (u : is_reserved x ≡ true). absurd (true≢false (sym u ∙ e))) (λ (u : Fit x). entries-change x o t u (rw e at h)) f)

-- ---- keys

-- a key with a later item: what it puts, and else what was there unless it ends
unfoldable pub key_by : Bool → Option Held → Option Held → Option Held
key_by ends new old = or_else (cond ends None old) Some new

or_some : (o : Option Held) → or_else None Some o ≡ o
unfolding or_else
or_some None = refl
or_some (Some h) = refl

key-stays : (g : ℕ) (k : List ℕ) (pre : List LogItem) (it : LogItem) → key_stays g k (pre ++ (it ∷ [])) ≡ (key_stays g k pre && not (eqb it.group g && ends_key k it.content))
unfolding key_stays
key-stays g k pre it =
    every_append (λ x. not (eqb x.group g && ends_key k x.content)) pre (it ∷ [])
    ∙ ap (λ b. every (λ x. not (eqb x.group g && ends_key k x.content)) pre && b) (unfold every in and-true (not (eqb it.group g && ends_key k it.content)))

-- an earlier put under one item more
key-earlier : (stays ends : Bool) (first new old : Option Held) → or_else (cond (stays && not ends) first None) Some (key_by ends new old) ≡ key_by ends new (or_else (cond stays first None) Some old)
unfolding key_by or_else
key-earlier stays ends first (Some h) old = refl
key-earlier stays true first None old = ended stays
  where
    ended : (b : Bool) → cond (b && false) first None ≡ None
    ended true = refl
    ended false = refl
key-earlier true false first None old = refl
key-earlier false false first None old = refl

key-first : (ends : Bool) (new : Option Held) → key_by ends new None ≡ new
unfolding key_by
key-first true new = or_some new
key-first false new = or_some new

key-only : (g : ℕ) (k : List ℕ) (it : LogItem) → or_else (cond (key_stays g k []) (put_to g k it) None) Some None ≡ put_to g k it
unfolding key_stays every or_else
key-only g k it = refl

pub key-snoc : (g : ℕ) (k : List ℕ) (pre : List LogItem) (it : LogItem) → key_held g k (pre ++ (it ∷ [])) ≡ key_by (eqb it.group g && ends_key k it.content) (put_to g k it) (key_held g k pre)
unfolding key_held
key-snoc g k [] it = key-only g k it ∙ sym (key-first (eqb it.group g && ends_key k it.content) (put_to g k it))
key-snoc g k (x ∷ pre) it =
    ap (or_else (cond (key_stays g k (pre ++ (it ∷ []))) (put_to g k x) None) Some) (key-snoc g k pre it)
    ∙ ap (λ b. or_else (cond b (put_to g k x) None) Some (key_by (eqb it.group g && ends_key k it.content) (put_to g k it) (key_held g k pre))) (key-stays g k pre it)
    ∙ key-earlier (key_stays g k pre) (eqb it.group g && ends_key k it.content) (put_to g k x) (put_to g k it) (key_held g k pre)

-- ---- keys of one group

-- contents that neither end nor put a key
key-stayed : (k : List ℕ) (x : Content) (o t : Option Table) → (made t).keys ≡ (made o).keys → ends_key k x ≡ false → put_of k x ≡ None → lookup bytes k (made t).keys ≡ key_by (ends_key k x) (put_of k x) (lookup bytes k (made o).keys)
unfolding key_by or_else
key-stayed k x o t e p q = rw (e, p, q)

with_keys_lem : (es : List EntryIndex) (t : Table) → (with_entries es t).keys ≡ t.keys
unfolding with_entries
with_keys_lem es t = refl

compact-keys : (i : ℕ) (t : Table) → (compacted i t).keys ≡ t.keys
unfolding compacted with_entries
compact-keys i t = refl

put-keys : (k : List ℕ) (h : Held) (t : Table) → (put_key k h t).keys ≡ insert bytes k h t.keys
unfolding put_key with_keys
put-keys k h t = refl

delete-keys : (k : List ℕ) (t : Table) → (delete_key k t).keys ≡ remove bytes k t.keys
unfolding delete_key with_keys
delete-keys k t = refl

-- a put and a delete, by whether the key is the one that is asked for
key-put : (k j : List ℕ) (h : Held) (m : Map (List ℕ) Held) → lookup bytes k (insert bytes j h m) ≡ key_by false (cond (equal_bytes k j) (Some h) None) (lookup bytes k m)
unfolding key_by or_else
key-put k j h m =
    split (equal_bytes k j)
    (λ e. rw e (rw (bytes_lawful.same-eq k j e) (lookup-insert_same bytes bytes_lawful j h m)))
    (λ e. rw e (lookup-insert-other bytes bytes_lawful k j h m e))

key_delete : (k j : List ℕ) (m : Map (List ℕ) Held) → Ascending bytes m → lookup bytes k (remove bytes j m) ≡ key_by (equal_bytes k j) None (lookup bytes k m)
unfolding key_by or_else
key_delete k j m asc =
    split (equal_bytes k j)
    (λ e. rw e (rw (bytes_lawful.same-eq k j e) (lookup-remove_same bytes bytes_lawful j m asc)))
    (λ e. rw e (lookup-remove-other bytes bytes_lawful k j m e))

key-put_if : (j : List ℕ) (v : Option (List ℕ)) (f : Option FileId) (o t : Option Table) (k : List ℕ) → FitPut v f → change replay_append (kv j (put v f)) o ≡ Ok t → lookup bytes k (made t).keys ≡ key_by (ends_key k (kv j (put v f))) (put_of k (kv j (put v f))) (lookup bytes k (made o).keys)
unfolding FitPut ends_key put_of held_of or_else
key-put_if j None f o t k x h = absurd x
key-put_if j (Some v) None o t k x h = absurd x
key-put_if j (Some v) (Some f) o t k x h =
    ap (λ (y : Table). lookup bytes k y.keys) (made_some t (put_key j (record { value = v; file = f }) (made o)) (ok_inj (sym (change-put j v f o) ∙ h)))
    ∙ ap (lookup bytes k) (put-keys j (record { value = v; file = f }) (made o))
    ∙ key-put k j (record { value = v; file = f }) (made o).keys

keys-change : (x : Content) (o t : Option Table) (k : List ℕ) → GoodIf o → Fit x → change replay_append x o ≡ Ok t → lookup bytes k (made t).keys ≡ key_by (ends_key k x) (put_of k x) (lookup bytes k (made o).keys)
unfolding Fit
keys-change (entries es) o t k g f h =
    let whole = and_then_ok (appended false es (made o)) (λ x. Ok (Some x)) t (sym (change-entries es o) ∙ h) in
    key-stayed k (entries es) o t
    (ap (λ (y : Table). y.keys) (made_some t whole.0 (ok_inj whole.2) ∙ appended-is es (made o) whole.0 whole.1) ∙ with_keys_lem (over (made o).entries es) (made o))
    (unfold ends_key in refl)
    (unfold put_of in refl)
keys-change (command clean) o t k g f h =
    ap (λ (y : Table). lookup bytes k y.keys) (made_none t (ok_inj (sym (change-clean o) ∙ h))) ∙ gone
  where
    gone : lookup bytes k empty_table.keys ≡ key_by (ends_key k (command clean)) (put_of k (command clean)) (lookup bytes k (made o).keys)
    gone = unfold empty_table lookup ends_key put_of key_by or_else in refl
keys-change (command (compact i)) o t k g f h =
    key-stayed k (command (compact i)) o t
    (ap (λ (y : Table). y.keys) (made_some t (compacted i (made o)) (ok_inj (sym (change-compact i o) ∙ h))) ∙ compact-keys i (made o))
    (unfold ends_key in refl)
    (unfold put_of in refl)
keys-change (kv j del) o t k g f h =
    ap (λ (y : Table). lookup bytes k y.keys) (made_some t (delete_key j (made o)) (ok_inj (sym (change-del j o) ∙ h)))
    ∙ ap (lookup bytes k) (delete-keys j (made o))
    ∙ key_delete k j (made o).keys (good-made o g).ascend
    ∙ deleted
  where
    deleted : key_by (equal_bytes k j) None (lookup bytes k (made o).keys) ≡ key_by (ends_key k (kv j del)) (put_of k (kv j del)) (lookup bytes k (made o).keys)
    deleted = unfold ends_key put_of in refl
keys-change (kv j (put v f)) o t k g x h = key-put_if j v f o t k x h

-- a reserved item is of no other key
keys-skipped : (x : Content) (o : Option Table) (k : List ℕ) → equal_bytes k reserved_key ≡ false → is_reserved x ≡ true → lookup bytes k (made o).keys ≡ key_by (ends_key k x) (put_of k x) (lookup bytes k (made o).keys)
unfolding is_reserved
keys-skipped (entries es) o k n h = absurd (false≢true h)
keys-skipped (command c) o k n h = absurd (false≢true h)
keys-skipped (kv j del) o k n h =
    key-stayed k (kv j del) o o refl (unfold ends_key in (ap (equal_bytes k) (bytes_lawful.same-eq j reserved_key h) ∙ n)) (unfold put_of in refl)
keys-skipped (kv j (put v f)) o k n h =
    key-stayed k (kv j (put v f)) o o refl (unfold ends_key in refl) (unfold put_of in rw (ap (equal_bytes k) (bytes_lawful.same-eq j reserved_key h) ∙ n))

-- what an accepted content does to a key that is not reserved
pub keys_kept : (x : Content) (o t : Option Table) (k : List ℕ) → equal_bytes k reserved_key ≡ false → GoodIf o → FitIf x → changed replay_append x o ≡ Ok t → lookup bytes k (made t).keys ≡ key_by (ends_key k x) (put_of k x) (lookup bytes k (made o).keys)
unfolding FitIf changed
keys_kept x o t k n g f h =
    split (is_reserved x)
    (λ e. ap (λ y. lookup bytes k (made y).keys) (sym (ok_inj (rw e at h))) ∙ keys-skipped x o k n e)
    (λ e. ⊎_elim (λ (u : is_reserved x ≡ true). absurd (true≢false (sym u ∙ e))) (λ (u : Fit x). keys-change x o t k g u (rw e at h)) f)

-- ---- contexts

-- the context holds what the rule says of the items so far
pub record HeldBy (items : List LogItem) (c : Context) : Type 0 where
  pub entries-held : (g : ℕ) → entries_in g c ≡ entries_held g items
  pub keys-held : (g : ℕ) (k : List ℕ) → equal_bytes k reserved_key ≡ false → key_in g k c ≡ key_held g k items

-- the item's own group, and another
pub left-own : (g : ℕ) (it : LogItem) (es : List EntryIndex) → eqb it.group g ≡ true → select (left_by g it) es ≡ left_of it.content es
unfolding left_of
left-own g it es u =
    select_same (left_by g it) (λ e. not (ends_entry e.index it.content)) es (λ e. unfold left_by in ap (λ b. not (b && ends_entry e.index it.content)) u)

left_other : (g : ℕ) (it : LogItem) (es : List EntryIndex) → eqb it.group g ≡ false → select (left_by g it) es ≡ es
left_other g it es u =
    select_same (left_by g it) (λ e. true) es (λ e. unfold left_by in ap (λ b. not (b && ends_entry e.index it.content)) u)
    ∙ select_all (λ e. true) es (all_true es)

entries_at : (g : ℕ) (it : LogItem) (es : List EntryIndex) → cond (eqb g it.group) (left_of it.content es ++ list_of it.content) es ≡ select (left_by g it) es ++ appended_to g it
unfolding appended_to
entries_at g it es =
    split (eqb g it.group)
    (λ u. let e = eq-eqb it.group g (sym (eqb-true g it.group u)) in rw (u, e, left-own g it es e))
    (λ u. let e = ne_eqb it.group g (λ z. eqb-false g it.group u (sym z)) in rw (u, e, left_other g it es e) (sym (append-nil es)))

key_at : (g : ℕ) (k : List ℕ) (it : LogItem) (old : Option Held) → cond (eqb g it.group) (key_by (ends_key k it.content) (put_of k it.content) old) old ≡ key_by (eqb it.group g && ends_key k it.content) (put_to g k it) old
unfolding put_to key_by or_else
key_at g k it old =
    split (eqb g it.group)
    (λ u. let e = eq-eqb it.group g (sym (eqb-true g it.group u)) in rw (u, e))
    (λ u. let e = ne_eqb it.group g (λ z. eqb-false g it.group u (sym z)) in rw (u, e))

-- what is read off a group after a store at group k
at_store : {B : Type 0} (F : Option Table → B) (G : B → B) (g k : ℕ) (t : Option Table) (m : Map ℕ Table) → Ascending numbers m → F t ≡ G (F (lookup numbers k m)) → F (lookup numbers g (store numbers k t m)) ≡ cond (eqb g k) (G (F (lookup numbers g m))) (F (lookup numbers g m))
at_store F G g k t m asc e =
    ap F (lookup-store numbers numbers_lawful g k t m asc)
    ∙ split (eqb g k)
    (λ u. rw u (e ∙ ap (λ j. G (F (lookup numbers j m))) (sym (eqb-true g k u))))
    (λ u. rw u)

module _ (items : List LogItem) (x : Placed) (c : Context) (good : GoodContext c) (f : FitIf x.item.content) (held : HeldBy items c) (t : Option Table) (e : changed replay_append x.item.content (lookup numbers x.item.group c.groups) ≡ Ok t) where
  held-entries : (g : ℕ) → entries_in g (after replay_append x.item t c) ≡ entries_held g (items ++ (x.item ∷ []))
  unfolding entries_in after
  held-entries g =
      at_store (λ o. (made o).entries) (λ es. left_of x.item.content es ++ list_of x.item.content) g x.item.group t c.groups good.ascend (entries-kept x.item.content (lookup numbers x.item.group c.groups) t f e)
      ∙ entries_at g x.item (made (lookup numbers g c.groups)).entries
      ∙ ap (λ es. select (left_by g x.item) es ++ appended_to g x.item) (held.entries-held g)
      ∙ sym (entries-snoc g items x.item)

  held-keys : (g : ℕ) (k : List ℕ) → equal_bytes k reserved_key ≡ false → key_in g k (after replay_append x.item t c) ≡ key_held g k (items ++ (x.item ∷ []))
  unfolding key_in after
  held-keys g k n =
      at_store (λ o. lookup bytes k (made o).keys) (λ old. key_by (ends_key k x.item.content) (put_of k x.item.content) old) g x.item.group t c.groups good.ascend (keys_kept x.item.content (lookup numbers x.item.group c.groups) t k n (good.tables x.item.group) f e)
      ∙ key_at g k x.item (lookup bytes k (made (lookup numbers g c.groups)).keys)
      ∙ ap (key_by (eqb x.item.group g && ends_key k x.item.content) (put_to g k x.item)) (held.keys-held g k n)
      ∙ sym (key-snoc g k items x.item)

-- one step more, and one item more
pub held_step : (items : List LogItem) (x : Placed) (c d : Context) → GoodContext c → FitIf x.item.content → step limited replay_append x c ≡ Ok d → HeldBy items c → HeldBy (items ++ (x.item ∷ [])) d
held_step items x c d good f h held =
    let s = step-taken replay_append x c d good.ascend h in
    rw s.2
    (record { entries-held = held-entries items x c good f held s.0 s.1; keys-held = held-keys items x c good f held s.0 s.1 })

pub held-fresh : HeldBy [] (fresh Append)
unfolding entries_in key_in fresh entries_held key_held lookup made or_else empty_table
held-fresh = record { entries-held = λ g. refl; keys-held = λ g k n. refl }
