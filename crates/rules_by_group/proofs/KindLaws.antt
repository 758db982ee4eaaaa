-- What a context keeps by its kind.
-- Assumes nothing.
use Rattle.std.specs.Prelude.{◌≡◌, refl, Bool, true, List, []}
use Rattle.std.proofs.Common.{sym}
use Rattle.std.specs.Prelude.{Some}
use Prim.Native.Nat.{ℕ}
use Rattle.maps.specs.Lists.{every, or_else}
use Rattle.maps.specs.Maps.{Pair, Map, lookup, numbers}
use Rattle.maps.specs.ListLaws.{every_all}
use Rattle.maps.specs.OrderLaws.{numbers_lawful}
use Rattle.maps.specs.MapLaws.{every-lookup}
use Rattle.rules.specs.Items.{LogQueue, Append, Rewrite, EntryIndex, same_queue, file_of, is_rewrite, Content, entries, command, kv, writes}
use Rattle.rules.specs.Table.{Table, empty_table, made}
use Rattle.rules.specs.Context.{Kind, context, index, Context}
use Rattle.rules.specs.Calls.{replay_call}
use Rattle.rules_by_group.specs.Group.{cleans_of}
use Rattle.rules_by_group.specs.Kept.{entry_by, each_entry, KeptBy, Kept}
use Rattle.rules_by_group.proofs.ItemLaws.{cleans_by}
use Rattle.rules_by_group.proofs.ResultLaws.{by_option}

at-kind : (c : Context) (k l : Kind) → k ≡ l → KeptBy k c → KeptBy l c
at-kind c k l e h = rw e at h

-- what is kept, at a kind that is known
pub kept_at : (c : Context) (k : Kind) → Kept c → c.kind ≡ k → KeptBy k c
kept_at c k h e = at-kind c c.kind k e h.by_kind

pub kept_by_lem : (c : Context) (k : Kind) → c.kind ≡ k → KeptBy k c → KeptBy c.kind c
kept_by_lem c k e h = at-kind c k c.kind (sym e) h

pub append-cleaned : (c : Context) → Kept c → c.kind ≡ context Append → c.cleaned ≡ cleans_of c.tombstones
unfolding KeptBy
append-cleaned c k e = (kept_at c (context Append) k e).1

pub append-waits : (c : Context) → Kept c → c.kind ≡ context Append → c.waiting ≡ []
unfolding KeptBy
append-waits c k e = (kept_at c (context Append) k e).0

pub rewrite-cleaned : (c : Context) → Kept c → c.kind ≡ context Rewrite → c.cleaned ≡ []
unfolding KeptBy
rewrite-cleaned c k e = kept_at c (context Rewrite) k e

-- the index has no tombstones, and nothing waits there
pub index_empty : (c : Context) → c.kind ≡ index → Kept c → (c.waiting ≡ []) × (c.tombstones ≡ [])
unfolding KeptBy
index_empty c e k = kept_at c index k e

-- the cleaned numbers that a context's tombstones add to another of its queue are its own
pub cleaned-again : (q : LogQueue) (c : Context) → Kept c → c.kind ≡ context q → cleans_by (replay_call q) c.tombstones ≡ c.cleaned
unfolding cleans_by replay_call writes same_queue
cleaned-again Append c k e = sym (append-cleaned c k e)
cleaned-again Rewrite c k e = sym (rewrite-cleaned c k e)

-- ---- the entries that a kind allows

-- every entry of a group's table, absent or not, meets what every table's entries meet
made_all : (p : EntryIndex → Bool) (m : Map ℕ Table) (g : ℕ) → every (λ (x : Pair ℕ Table). every p x.val.entries) m ≡ true → every p (made (lookup numbers g m)).entries ≡ true
unfolding made or_else empty_table
made_all p m g h =
    by_option (lookup numbers g m)
    (λ e. rw e (unfold every in refl))
    (λ t e. rw e (every-lookup numbers numbers_lawful (λ (x : Pair ℕ Table). every p x.val.entries) g t m h e))

pub own-made : (c : Context) (k : Kind) → Kept c → c.kind ≡ k → (g : ℕ) → every (entry_by k) (made (lookup numbers g c.groups)).entries ≡ true
own-made c k h e g = rw e at (made_all (entry_by c.kind) c.groups g h.own-entries)

-- the entries of a context's tables are of its queue
pub queue-made : (q : LogQueue) (c : Context) → Kept c → c.kind ≡ context q → (g : ℕ) → every (λ (e : EntryIndex). same_queue (file_of e).queue q) (made (lookup numbers g c.groups)).entries ≡ true
queue-made q c k is g = unfold entry_by in own-made c (context q) k is g

pub queue-table : (q : LogQueue) (c : Context) → Kept c → c.kind ≡ context q → (g : ℕ) (t : Table) → lookup numbers g c.groups ≡ Some t → every (λ (e : EntryIndex). same_queue (file_of e).queue q) t.entries ≡ true
unfolding made or_else
queue-table q c k is g t e = rw e at (queue-made q c k is g)

pub rewrite-made : (c : Context) → Kept c → c.kind ≡ context Rewrite → (g : ℕ) → every is_rewrite (made (lookup numbers g c.groups)).entries ≡ true
unfolding is_rewrite
rewrite-made c k is g = queue-made Rewrite c k is g

pub rewrite-table : (c : Context) → Kept c → c.kind ≡ context Rewrite → (g : ℕ) (t : Table) → lookup numbers g c.groups ≡ Some t → every is_rewrite t.entries ≡ true
unfolding is_rewrite
rewrite-table c k is g t e = queue-table Rewrite c k is g t e

-- the index may hold every entry
index_list : (es : List EntryIndex) → every (entry_by index) es ≡ true
index_list es = every_all (entry_by index) es (λ e. unfold entry_by in refl)

pub index-entries : (m : Map ℕ Table) → every (λ (x : Pair ℕ Table). every (entry_by index) x.val.entries) m ≡ true
index-entries m = every_all (λ (x : Pair ℕ Table). every (entry_by index) x.val.entries) m (λ x. index_list x.val.entries)

pub index-content : (x : Content) → each_entry (entry_by index) x ≡ true
unfolding each_entry
index-content (entries es) = index_list es
index-content (command c) = refl
index-content (kv k c) = refl
