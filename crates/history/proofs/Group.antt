-- One group: what an item does to a table that is a newer one laid over an older one, it does to the newer one.
-- Assumes nothing.
use mathlib.Core.Path.{◌≡◌, refl, sym, ap, ◌∙◌}
use mathlib.Core.Logic.{◌⊎◌}
use mathlib.Core.Bool.{Bool, true, false}
use mathlib.Core.List.{List, [], ◌∷◌}
use Rattle.std.specs.Prelude.{Option, None, Some}
use Prim.Native.Nat.{ℕ}
use lib.Dec.{ltb, leb}
use Rattle.maps.specs.Lists.{every, or_else}
use Rattle.maps.specs.Maps.{Map, lookup, insert, remove, merge_with, bytes}
use Rattle.maps.specs.ListLaws.{every_append, every-selected}
use Rattle.maps.specs.OrderLaws.{split, bytes_lawful}
use Rattle.maps.specs.MapLaws.{Ascending, laid, ascending-nil, ascending-insert, ascending-remove, ascending-merge_with, lookup-insert_same, lookup-insert-other, lookup-remove_same, lookup-remove-other, lookup-merge_with, ext, every-insert, every-remove}
use Rattle.rules.specs.Causes.{Ok, refuse, and_then, AboveLast}
use Rattle.rules.specs.Items.{Append, FileId, EntryIndex, same_queue, file_of, clean, compact, put, del, Content, entries, command, kv, replay_append, is_live_rewrite}
use Rattle.rules.specs.Checks.{consecutive}
use Rattle.rules.specs.Table.{Held, Table, empty_table, made, with_entries, with_keys, with_span, entries_below, entries_from, is_above_last, over, appended, compacted, put_key, delete_key, over_keys, put_held, entries_to, put_to, change_to, command_to, change}
use Rattle.rules.specs.Calls.{over_of, merge_table}
use Rattle.maps.specs.BoolLaws.{both}
use Rattle.rules_by_group.specs.Group.{effect}
use Rattle.rules_by_group.proofs.ResultLaws.{ok_inj, refused_not_ok, and_then_ok, and_then_of}
use Rattle.history.proofs.Windows.{over-nil, over-assoc, from-over, premise-over, above-over, consecutive-over, consecutive-from, over-cons}

-- ---- tables

-- what every table of an Append context is
pub record Good (t : Table) : Type 0 where
  pub window : consecutive t.entries ≡ true
  pub ascend : Ascending bytes t.keys
  pub no_span : t.span ≡ None
  pub is-counted : t.counted ≡ true
  pub append-entries : every (λ e. same_queue (file_of e).queue Append) t.entries ≡ true
  pub append-keys : every (λ p. same_queue p.val.file.queue Append) t.keys ≡ true

-- a table that may be absent
unfoldable pub GoodIf : Option Table → Type 0
GoodIf None = Unit {0}
GoodIf (Some t) = Good t

pub good-some : (t : Table) → Good t → GoodIf (Some t)
unfolding GoodIf
good-some t g = g

pub good_empty : Good empty_table
unfolding empty_table every consecutive
good_empty =
    record {
      window = refl;
      ascend = ascending-nil Held bytes;
      no_span = refl;
      is-counted = refl;
      append-entries = refl;
      append-keys = refl;
    }

pub good-made : (o : Option Table) → GoodIf o → Good (made o)
unfolding GoodIf made or_else
good-made None g = good_empty
good-made (Some t) g = g

-- what the checks have shown of an item's content
unfoldable pub FitPut : Option (List ℕ) → Option FileId → Type 0
FitPut (Some v) (Some f) = same_queue f.queue Append ≡ true
FitPut (Some v) None = ⊥
FitPut None f = ⊥

unfoldable pub Fit : Content → Type 0
Fit (entries es) = (consecutive es ≡ true) × (every (λ e. same_queue (file_of e).queue Append) es ≡ true)
Fit (command c) = Unit {0}
Fit (kv k (put v f)) = FitPut v f
Fit (kv k del) = Unit {0}

-- a compaction leaves the table an entry or finds none
unfoldable pub Leaves : Content → Option Table → Type 0
Leaves (entries es) o = Unit {0}
Leaves (command clean) o = Unit {0}
Leaves (command (compact i)) o = ((made o).entries ≡ []) ⊎ (entries_from i (made o).entries ≡ [] → ⊥)
Leaves (kv k c) o = Unit {0}

-- the newer table laid over the older one
unfoldable pub lay : Option Table → Option Table → Option Table
unfolding laid
lay o n = laid (merge_table Append) o n

pub table_eq : (a b : Table) → a.entries ≡ b.entries → a.keys ≡ b.keys → a.span ≡ b.span → a.counted ≡ b.counted → a ≡ b
table_eq a b p q r s = λ i. record { entries = p i; keys = q i; span = r i; counted = s i }

pub made-lay : (o n : Option Table) → made (lay o n) ≡ merge_table Append o (made n)
unfolding lay laid made or_else merge_table with_span with_keys over_of with_entries over over_keys merge_with empty_table
made-lay None None = refl
made-lay (Some a) None = refl
made-lay o (Some t) = refl

pub lay-made : (o : Option Table) (t : Table) → lay o (Some t) ≡ Some (merge_table Append o t)
unfolding lay laid
lay-made o t = refl

-- ---- keys

over-keys : (a t : Map (List ℕ) Held) → over_keys a t ≡ merge_with bytes (λ o n. n) a t
unfolding over_keys
over-keys a t = refl

lookup-over : (j : List ℕ) (a t : Map (List ℕ) Held) → Ascending bytes t → lookup bytes j (over_keys a t) ≡ laid (λ o n. n) (lookup bytes j a) (lookup bytes j t)
lookup-over j a t at = ap (lookup bytes j) (over-keys a t) ∙ lookup-merge_with bytes bytes_lawful (λ o n. n) j a t at

pub ascending-over : (a t : Map (List ℕ) Held) → Ascending bytes a → Ascending bytes (over_keys a t)
unfolding over_keys
ascending-over a t h = ascending-merge_with bytes bytes_lawful (λ o n. n) a t h

laid_none : (x : Option Held) → laid (λ (o : Option Held) (n : Held). n) x None ≡ x
unfolding laid
laid_none x = refl

laid-some : (x : Option Held) (h : Held) → laid (λ (o : Option Held) (n : Held). n) x (Some h) ≡ Some h
unfolding laid
laid-some x h = refl

module _ (k : List ℕ) (a t : Map (List ℕ) Held) (aa : Ascending bytes a) (at : Ascending bytes t) where
  pub insert-over : (h : Held) → insert bytes k h (over_keys a t) ≡ over_keys a (insert bytes k h t)
  insert-over h =
      ext bytes bytes_lawful (insert bytes k h (over_keys a t)) (over_keys a (insert bytes k h t))
      (ascending-insert bytes bytes_lawful k h (over_keys a t) (ascending-over a t aa))
      (ascending-over a (insert bytes k h t) aa)
      (λ j. split (bytes.same j k) (same j) (other j))
    where
      inserted : (j : List ℕ) → lookup bytes j (over_keys a (insert bytes k h t)) ≡ laid (λ o n. n) (lookup bytes j a) (lookup bytes j (insert bytes k h t))
      inserted j = lookup-over j a (insert bytes k h t) (ascending-insert bytes bytes_lawful k h t at)

      same : (j : List ℕ) → bytes.same j k ≡ true → lookup bytes j (insert bytes k h (over_keys a t)) ≡ lookup bytes j (over_keys a (insert bytes k h t))
      same j e =
          rw (bytes_lawful.same-eq j k e)
          (lookup-insert_same bytes bytes_lawful k h (over_keys a t)
          ∙ sym (inserted k ∙ ap (laid (λ o n. n) (lookup bytes k a)) (lookup-insert_same bytes bytes_lawful k h t) ∙ laid-some (lookup bytes k a) h))

      other : (j : List ℕ) → bytes.same j k ≡ false → lookup bytes j (insert bytes k h (over_keys a t)) ≡ lookup bytes j (over_keys a (insert bytes k h t))
      other j e =
          lookup-insert-other bytes bytes_lawful j k h (over_keys a t) e
          ∙ lookup-over j a t at
          ∙ sym (inserted j ∙ ap (laid (λ o n. n) (lookup bytes j a)) (lookup-insert-other bytes bytes_lawful j k h t e))

  pub remove-over : remove bytes k (over_keys a t) ≡ over_keys (remove bytes k a) (remove bytes k t)
  remove-over =
      ext bytes bytes_lawful (remove bytes k (over_keys a t)) (over_keys (remove bytes k a) (remove bytes k t))
      (ascending-remove bytes bytes_lawful k (over_keys a t) (ascending-over a t aa))
      (ascending-over (remove bytes k a) (remove bytes k t) (ascending-remove bytes bytes_lawful k a aa))
      (λ j. split (bytes.same j k) (same j) (other j))
    where
      removed : (j : List ℕ) → lookup bytes j (over_keys (remove bytes k a) (remove bytes k t)) ≡ laid (λ o n. n) (lookup bytes j (remove bytes k a)) (lookup bytes j (remove bytes k t))
      removed j = lookup-over j (remove bytes k a) (remove bytes k t) (ascending-remove bytes bytes_lawful k t at)

      same : (j : List ℕ) → bytes.same j k ≡ true → lookup bytes j (remove bytes k (over_keys a t)) ≡ lookup bytes j (over_keys (remove bytes k a) (remove bytes k t))
      same j e =
          rw (bytes_lawful.same-eq j k e)
          (lookup-remove_same bytes bytes_lawful k (over_keys a t) (ascending-over a t aa)
          ∙ sym (removed k
          ∙ ap (laid (λ o n. n) (lookup bytes k (remove bytes k a))) (lookup-remove_same bytes bytes_lawful k t at)
          ∙ laid_none (lookup bytes k (remove bytes k a))
          ∙ lookup-remove_same bytes bytes_lawful k a aa))

      other : (j : List ℕ) → bytes.same j k ≡ false → lookup bytes j (remove bytes k (over_keys a t)) ≡ lookup bytes j (over_keys (remove bytes k a) (remove bytes k t))
      other j e =
          lookup-remove-other bytes bytes_lawful j k (over_keys a t) e
          ∙ lookup-over j a t at
          ∙ sym (removed j
          ∙ ap (λ x. laid (λ o n. n) x (lookup bytes j (remove bytes k t))) (lookup-remove-other bytes bytes_lawful j k a e)
          ∙ ap (laid (λ o n. n) (lookup bytes j a)) (lookup-remove-other bytes bytes_lawful j k t e))

-- ---- the parts of a laid table

module _ (o : Option Table) (t : Table) where
  pub merged-entries : (merge_table Append o t).entries ≡ over (made o).entries t.entries
  unfolding merge_table with_span with_keys over_of with_entries
  merged-entries = refl

  pub merged-keys : (merge_table Append o t).keys ≡ over_keys (made o).keys t.keys
  unfolding merge_table with_span with_keys over_of with_entries
  merged-keys = refl

  pub merged-span : t.span ≡ None → (merge_table Append o t).span ≡ (made o).span
  unfolding merge_table with_span with_keys over_of with_entries or_else
  merged-span p = rw p

  pub merged-counted : (merge_table Append o t).counted ≡ (made o).counted
  unfolding merge_table with_span with_keys over_of with_entries
  merged-counted = refl

-- ---- the item's three ways through a table

-- entries
pub append-refused : (e : EntryIndex) (es : List EntryIndex) (t : Table) → is_above_last e.index t.entries ≡ true → appended false (e ∷ es) t ≡ refuse AboveLast
unfolding appended
append-refused e es t h = rw h

pub append_ok : (e : EntryIndex) (es : List EntryIndex) (t : Table) → is_above_last e.index t.entries ≡ false → appended false (e ∷ es) t ≡ Ok (with_entries (over t.entries (e ∷ es)) t)
unfolding appended
append_ok e es t h = rw h

append-none : (t : Table) → appended false [] t ≡ Ok (with_entries (over t.entries []) t)
unfolding appended with_entries over
append-none t = refl

-- the table after an accepted append
pub appended-is : (es : List EntryIndex) (t u : Table) → appended false es t ≡ Ok u → u ≡ with_entries (over t.entries es) t
appended-is [] t u h = sym (ok_inj (sym (append-none t) ∙ h))
appended-is (e ∷ es) t u h =
    split (is_above_last e.index t.entries)
    (λ a. absurd (refused_not_ok (sym (append-refused e es t a) ∙ h)))
    (λ a. sym (ok_inj (sym (append_ok e es t a) ∙ h)))

-- an append that the laid table takes, the newer table takes
pub append-newer : (es : List EntryIndex) (o : Option Table) (t v : Table) → appended false es (merge_table Append o t) ≡ Ok v → appended false es t ≡ Ok (with_entries (over t.entries es) t)
append-newer [] o t v h = append-none t
append-newer (e ∷ es) o t v h =
    split (is_above_last e.index (merge_table Append o t).entries)
    (λ x. absurd (refused_not_ok (sym (append-refused e es (merge_table Append o t) x) ∙ h)))
    (λ x. append_ok e es t (above-over e.index (made o).entries t.entries (sym (ap (is_above_last e.index) (merged-entries o t)) ∙ x)))

-- an append to the laid table is the append to the newer one, laid
pub append-laid : (es : List EntryIndex) (o : Option Table) (t : Table) → Good t → with_entries (over (merge_table Append o t).entries es) (merge_table Append o t) ≡ merge_table Append o (with_entries (over t.entries es) t)
unfolding merge_table with_span with_keys over_of with_entries
append-laid es o t g = λ i. record { entries = over-assoc (made o).entries t.entries es g.window i; keys = over_keys (made o).keys t.keys; span = or_else (made o).span Some t.span; counted = (made o).counted }

-- compactions
pub compact-laid : (i : ℕ) (o : Option Table) (t : Table) → Good t → (t.entries ≡ []) ⊎ (entries_from i t.entries ≡ [] → ⊥) → compacted i (merge_table Append o t) ≡ merge_table Append (Some (compacted i (made o))) (compacted i t)
unfolding merge_table with_span with_keys over_of with_entries compacted made or_else
compact-laid i o t g p =
    λ j. record { entries = from-over i (made o).entries t.entries g.window p j; keys = over_keys (made o).keys t.keys; span = or_else (made o).span Some t.span; counted = (made o).counted }

-- keys
pub put-laid : (k : List ℕ) (h : Held) (o : Option Table) (t : Table) → Good (made o) → Good t → put_key k h (merge_table Append o t) ≡ merge_table Append o (put_key k h t)
unfolding merge_table with_span with_keys over_of with_entries put_key
put-laid k h o t go gt =
    λ i. record { entries = over (made o).entries t.entries; keys = insert-over k (made o).keys t.keys go.ascend gt.ascend h i; span = or_else (made o).span Some t.span; counted = (made o).counted }

pub delete-laid : (k : List ℕ) (o : Option Table) (t : Table) → Good (made o) → Good t → delete_key k (merge_table Append o t) ≡ merge_table Append (Some (delete_key k (made o))) (delete_key k t)
unfolding merge_table with_span with_keys over_of with_entries delete_key made or_else
delete-laid k o t go gt =
    λ i. record { entries = over (made o).entries t.entries; keys = remove-over k (made o).keys t.keys go.ascend gt.ascend i; span = or_else (made o).span Some t.span; counted = (made o).counted }

-- ---- what an item does, by its content

pub change-entries : (es : List EntryIndex) (o : Option Table) → change replay_append (entries es) o ≡ and_then (appended false es (made o)) (λ x. Ok (Some x))
unfolding change entries_to
change-entries es o = refl

pub change-clean : (o : Option Table) → change replay_append (command clean) o ≡ Ok None
unfolding change command_to is_live_rewrite
change-clean o = refl

pub change-compact : (i : ℕ) (o : Option Table) → change replay_append (command (compact i)) o ≡ Ok (Some (compacted i (made o)))
unfolding change command_to
change-compact i o = refl

pub change-put : (k v : List ℕ) (f : FileId) (o : Option Table) → change replay_append (kv k (put (Some v) (Some f))) o ≡ Ok (Some (put_key k (record { value = v; file = f }) (made o)))
unfolding change change_to put_to put_held and_then
change-put k v f o = refl

pub change-del : (k : List ℕ) (o : Option Table) → change replay_append (kv k del) o ≡ Ok (Some (delete_key k (made o)))
unfolding change change_to and_then
change-del k o = refl

-- the newer table takes what the laid one takes, and stays the one that is laid over the older one
pub record Simulated (x : Content) (o n s : Option Table) : Type 0 where
  pub next : Option Table
  pub taken : change replay_append x n ≡ Ok next
  pub again : s ≡ lay (effect x o) next
  pub leaves : Leaves x n

simulate-entries : (es : List EntryIndex) (o n s : Option Table) → GoodIf n → change replay_append (entries es) (lay o n) ≡ Ok s → Simulated (entries es) o n s
unfolding Leaves effect
simulate-entries es o n s gn h =
    let whole = and_then_ok (appended false es (made (lay o n))) (λ x. Ok (Some x)) s (sym (change-entries es (lay o n)) ∙ h) in
    let taken = sym (ap (appended false es) (made-lay o n)) ∙ whole.1 in
    record {
      next = Some (with_entries (over (made n).entries es) (made n));
      taken = change-entries es n ∙ and_then_of (appended false es (made n)) (λ x. Ok (Some x)) (with_entries (over (made n).entries es) (made n)) (append-newer es o (made n) whole.0 taken);
      again = sym (ok_inj whole.2) ∙ ap Some (appended-is es (merge_table Append o (made n)) whole.0 taken ∙ append-laid es o (made n) (good-made n gn)) ∙ sym (lay-made o (with_entries (over (made n).entries es) (made n)));
      leaves = tt;
    }

simulate-clean : (o n s : Option Table) → change replay_append (command clean) (lay o n) ≡ Ok s → Simulated (command clean) o n s
unfolding Leaves effect lay laid
simulate-clean o n s h =
    record { next = None; taken = change-clean n; again = sym (ok_inj (sym (change-clean (lay o n)) ∙ h)); leaves = tt }

simulate-compact : (i : ℕ) (o n s : Option Table) → GoodIf n → Leaves (command (compact i)) (lay o n) → change replay_append (command (compact i)) (lay o n) ≡ Ok s → Simulated (command (compact i)) o n s
unfolding Leaves effect
simulate-compact i o n s gn lx h =
    let p = premise-over i (made o).entries (made n).entries (rw (made-lay o n, merged-entries o (made n)) at lx) (good-made n gn).window in
    record {
      next = Some (compacted i (made n));
      taken = change-compact i n;
      again = sym (ok_inj (sym (change-compact i (lay o n)) ∙ h)) ∙ ap (λ t. Some (compacted i t)) (made-lay o n) ∙ ap Some (compact-laid i o (made n) (good-made n gn) p) ∙ sym (lay-made (Some (compacted i (made o))) (compacted i (made n)));
      leaves = p;
    }

simulate-del : (k : List ℕ) (o n s : Option Table) → GoodIf o → GoodIf n → change replay_append (kv k del) (lay o n) ≡ Ok s → Simulated (kv k del) o n s
unfolding Leaves effect
simulate-del k o n s go gn h =
    record {
      next = Some (delete_key k (made n));
      taken = change-del k n;
      again = sym (ok_inj (sym (change-del k (lay o n)) ∙ h)) ∙ ap (λ t. Some (delete_key k t)) (made-lay o n) ∙ ap Some (delete-laid k o (made n) (good-made o go) (good-made n gn)) ∙ sym (lay-made (Some (delete_key k (made o))) (delete_key k (made n)));
      leaves = tt;
    }

simulate-put : (k : List ℕ) (v : Option (List ℕ)) (f : Option FileId) (o n s : Option Table) → GoodIf o → GoodIf n → FitPut v f → change replay_append (kv k (put v f)) (lay o n) ≡ Ok s → Simulated (kv k (put v f)) o n s
unfolding Leaves effect FitPut
simulate-put k None f o n s go gn fx h = absurd fx
simulate-put k (Some v) None o n s go gn fx h = absurd fx
simulate-put k (Some v) (Some f) o n s go gn fx h =
    record {
      next = Some (put_key k (record { value = v; file = f }) (made n));
      taken = change-put k v f n;
      again = sym (ok_inj (sym (change-put k v f (lay o n)) ∙ h)) ∙ ap (λ t. Some (put_key k (record { value = v; file = f }) t)) (made-lay o n) ∙ ap Some (put-laid k (record { value = v; file = f }) o (made n) (good-made o go) (good-made n gn)) ∙ sym (lay-made o (put_key k (record { value = v; file = f }) (made n)));
      leaves = tt;
    }

pub simulate : (x : Content) (o n s : Option Table) → GoodIf o → GoodIf n → Fit x → Leaves x (lay o n) → change replay_append x (lay o n) ≡ Ok s → Simulated x o n s
unfolding Fit
simulate (entries es) o n s go gn fx lx h = simulate-entries es o n s gn h
simulate (command clean) o n s go gn fx lx h = simulate-clean o n s h
simulate (command (compact i)) o n s go gn fx lx h = simulate-compact i o n s gn lx h
simulate (kv k del) o n s go gn fx lx h = simulate-del k o n s go gn h
simulate (kv k (put v f)) o n s go gn fx lx h = simulate-put k v f o n s go gn fx h

-- ---- good tables stay good

good-entries : (es : List EntryIndex) (t : Table) → Good t → consecutive es ≡ true → every (λ e. same_queue (file_of e).queue Append) es ≡ true → Good (with_entries es t)
unfolding with_entries
good-entries es t g c a =
    record {
      window = c;
      ascend = g.ascend;
      no_span = g.no_span;
      is-counted = g.is-counted;
      append-entries = a;
      append-keys = g.append-keys;
    }

good-keys : (m : Map (List ℕ) Held) (t : Table) → Good t → Ascending bytes m → every (λ p. same_queue p.val.file.queue Append) m ≡ true → Good (with_keys m t)
unfolding with_keys
good-keys m t g c a =
    record {
      window = g.window;
      ascend = c;
      no_span = g.no_span;
      is-counted = g.is-counted;
      append-entries = g.append-entries;
      append-keys = a;
    }

every_below : (p : EntryIndex → Bool) (x : ℕ) (a : List EntryIndex) → every p a ≡ true → every p (entries_below x a) ≡ true
unfolding entries_below
every_below p x a h = every-selected p (λ e. ltb e.index x) a h

every-from-up : (p : EntryIndex → Bool) (x : ℕ) (a : List EntryIndex) → every p a ≡ true → every p (entries_from x a) ≡ true
unfolding entries_from
every-from-up p x a h = every-selected p (λ e. leb x e.index) a h

every-over : (p : EntryIndex → Bool) (a es : List EntryIndex) → every p a ≡ true → every p es ≡ true → every p (over a es) ≡ true
every-over p a [] ha he = ap (every p) (over-nil a) ∙ ha
every-over p a (e ∷ es) ha he =
    ap (every p) (over-cons a e es) ∙ every_append p (entries_below e.index a) (e ∷ es) ∙ both (every_below p e.index a ha) he

append-window : (es : List EntryIndex) (t u : Table) → Good t → consecutive es ≡ true → appended false es t ≡ Ok u → consecutive (over t.entries es) ≡ true
append-window [] t u g c h = ap consecutive (over-nil t.entries) ∙ g.window
append-window (e ∷ es) t u g c h =
    split (is_above_last e.index t.entries)
    (λ a. absurd (refused_not_ok (sym (append-refused e es t a) ∙ h)))
    (λ a. consecutive-over t.entries es e g.window c a)

good-append : (es : List EntryIndex) (t u : Table) → Good t → Fit (entries es) → appended false es t ≡ Ok u → Good u
unfolding Fit
good-append es t u g f h =
    rw (appended-is es t u h)
    (good-entries (over t.entries es) t g (append-window es t u g f.0 h) (every-over (λ e. same_queue (file_of e).queue Append) t.entries es g.append-entries f.1))

good-compact : (i : ℕ) (t : Table) → Good t → Good (compacted i t)
unfolding compacted
good-compact i t g =
    good-entries (entries_from i t.entries) t g (consecutive-from i t.entries g.window) (every-from-up (λ e. same_queue (file_of e).queue Append) i t.entries g.append-entries)

good-put : (k : List ℕ) (h : Held) (t : Table) → Good t → same_queue h.file.queue Append ≡ true → Good (put_key k h t)
unfolding put_key
good-put k h t g q =
    good-keys (insert bytes k h t.keys) t g (ascending-insert bytes bytes_lawful k h t.keys g.ascend) (every-insert bytes bytes_lawful (λ p. same_queue p.val.file.queue Append) k h t.keys g.append-keys q)

good_delete : (k : List ℕ) (t : Table) → Good t → Good (delete_key k t)
unfolding delete_key
good_delete k t g =
    good-keys (remove bytes k t.keys) t g (ascending-remove bytes bytes_lawful k t.keys g.ascend) (every-remove bytes bytes_lawful (λ p. same_queue p.val.file.queue Append) k t.keys g.append-keys)

good-is : (o s : Option Table) → o ≡ s → GoodIf o → GoodIf s
good-is o s p g = rw p at g

good-put_if : (k : List ℕ) (v : Option (List ℕ)) (f : Option FileId) (o s : Option Table) → GoodIf o → FitPut v f → change replay_append (kv k (put v f)) o ≡ Ok s → GoodIf s
unfolding FitPut
good-put_if k None f o s g fx h = absurd fx
good-put_if k (Some v) None o s g fx h = absurd fx
good-put_if k (Some v) (Some f) o s g fx h =
    good-is (Some (put_key k (record { value = v; file = f }) (made o))) s (ok_inj (sym (change-put k v f o) ∙ h)) (good-some (put_key k (record { value = v; file = f }) (made o)) (good-put k (record { value = v; file = f }) (made o) (good-made o g) fx))

-- an accepted item leaves a good table
pub good-change : (x : Content) (o s : Option Table) → GoodIf o → Fit x → change replay_append x o ≡ Ok s → GoodIf s
unfolding Fit GoodIf
good-change (entries es) o s g fx h =
    let whole = and_then_ok (appended false es (made o)) (λ x. Ok (Some x)) s (sym (change-entries es o) ∙ h) in
    good-is (Some whole.0) s (ok_inj whole.2) (good-append es (made o) whole.0 (good-made o g) fx whole.1)
good-change (command clean) o s g fx h = good-is None s (ok_inj (sym (change-clean o) ∙ h)) tt
good-change (command (compact i)) o s g fx h =
    good-is (Some (compacted i (made o))) s (ok_inj (sym (change-compact i o) ∙ h)) (good-compact i (made o) (good-made o g))
good-change (kv k del) o s g fx h =
    good-is (Some (delete_key k (made o))) s (ok_inj (sym (change-del k o) ∙ h)) (good_delete k (made o) (good-made o g))
good-change (kv k (put v f)) o s g fx h = good-put_if k v f o s g fx h

pub good-effect : (x : Content) (o : Option Table) → GoodIf o → GoodIf (effect x o)
unfolding GoodIf effect
good-effect (entries es) o g = g
good-effect (command clean) o g = tt
good-effect (command (compact i)) o g = good-compact i (made o) (good-made o g)
good-effect (kv k (put v f)) o g = g
good-effect (kv k del) o g = good_delete k (made o) (good-made o g)
