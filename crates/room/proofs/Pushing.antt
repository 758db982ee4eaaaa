-- The items of a marked batch, one by one. Assumes nothing.
use Rattle.rules.specs.Causes.{Ok, Err}
use mathlib.Core.Bool.{true, false, true≢false}
use mathlib.Core.List.{List, [], ◌∷◌}
use Rattle.std.specs.Prelude.{None, Some}
use mathlib.Core.Path.{◌≡◌, sym, ◌∙◌}
use Prim.Native.Nat.{ℕ, ◌+◌, ◌*◌, ◌/◌, ◌≤◌, ◌<◌}
use native.Mathlib.Nat.{le_antisymm}
use native.Mathlib.Decide.{dec_le}
use native.Mathlib.Omega.{arith}
use lib.ListN.{length, drop}
use borrow.Author.Tests.{ltb-false}
use Rattle.maps.specs.Lists.{or_else}
use Rattle.rules.specs.Items as rules
use Rattle.rules.specs.Items.{is_mark, mark_byte, replay_rewrite}
use Rattle.rules.specs.Checks.{long, checks}
use Rattle.rules.specs.Context.{entries_in}
use Rattle.log_batch.specs.declared.item.LogItem.{LogItem}
use Rattle.log_batch.specs.Lent.{row_count_of, opened_row, content_of, item_of, item_at, items_of}
use Rattle.log_batch.specs.OpenLaws.{refused-item, item-opened}
use Rattle.log_batch.specs.PassedLaws.{passed-opens}
use Rattle.stores.specs.declared.Store.{Store}
use Rattle.stores.specs.Written.{count_of}
use Rattle.stores.specs.Stores.{Stored}
use Rattle.stores.specs.StoreLaws.{entries-count}
use Rattle.stores.specs.CheckedLaws.{checked-opens}
use Rattle.room.specs.Rooms.{Room, area_in}
use Rattle.room.specs.Layout.{numbers_of, bytes_of, room_of}
use Rattle.room.specs.LayoutLaws.{length-tags}
use Rattle.room.specs.Items.{AddedIn}
use Rattle.room.specs.Batches.{unmarked, counts_for, Plain, PushedAll}
use Rattle.room.specs.BatchLaws.{unmarked-mark, unmarked-plain, counts-append, counts-none, counts-one, first_unmarked, first-none, first_more, first_all, first_below, pushed_none, pushed-one, pushed_then}

-- ---- an item is a mark or not

mark-some : (it : rules.LogItem) (b : ℕ) → Some b ≡ mark_byte it.content → is_mark it ≡ true
unfolding is_mark or_else
mark-some it b e = rw (← e)

mark-none : (it : rules.LogItem) → None ≡ mark_byte it.content → is_mark it ≡ false
unfolding is_mark or_else
mark-none it e = rw (← e)

few_of : (g : ℕ) (c : rules.Content) → long c ≡ false → entries_in (record { group = g; content = c }) ≤ 32
unfolding long entries_in
few_of g (rules.entries es) e = ltb-false 32 (length es) e
few_of g (rules.command c) e = omega arith
few_of g (rules.kv k c) e = omega arith

few-entries : (it : rules.LogItem) → long it.content ≡ false → entries_in it ≤ 32
few-entries it e = few_of it.group it.content e

-- a batch that passed has at most 32 items
pub few-rows : (xs es bs : List ℕ) → checks replay_rewrite (items_of xs es bs) ≡ None → row_count_of xs ≤ 32
few-rows xs es bs passed =
    elim (dec_le (row_count_of xs) 32) [
      | yes l ↦ l
      | no l ↦ let early : true ≡ false = (passed-opens replay_rewrite xs es bs passed 32 (omega arith)).passed.early in absurd (true≢false early)
    ]

module _ (xs es bs : List ℕ) (passed : checks replay_rewrite (items_of xs es bs) ≡ None) (i : ℕ) (h : i < row_count_of xs) where
  pub never-refused : {P : Type 0} (g : ℕ) → opened_row (drop (i * 9) xs) (length es / 8) (length bs) ≡ Err (record { raft_group_id = g }) → P
  never-refused g e = absurd (refused-item g _ (sym e ∙ (passed-opens replay_rewrite xs es bs passed i h).opens))

  module _ (it : LogItem) (e : opened_row (drop (i * 9) xs) (length es / 8) (length bs) ≡ Ok it) where
    pub is-mark : (b : ℕ) → ((ns : List ℕ) → Some b ≡ mark_byte (content_of it.content ns bs)) → is_mark (item_at es bs (drop (i * 9) xs)) ≡ true
    unfolding item_of
    is-mark b f = rw (item-opened es bs (drop (i * 9) xs) it e) (mark-some (item_of it es bs) b (f es))

    no-mark : ((ns : List ℕ) → None ≡ mark_byte (content_of it.content ns bs)) → is_mark (item_of it es bs) ≡ false
    unfolding item_of
    no-mark f = mark-none (item_of it es bs) (f es)

    pub is_plain : ((ns : List ℕ) → None ≡ mark_byte (content_of it.content ns bs)) → Plain xs es bs i it
    is_plain f =
        let o = passed-opens replay_rewrite xs es bs passed i h in
        let same : o.item ≡ it = cc (sym o.opens ∙ e) in
        let few = few-entries (item_of it es bs) (rw same at o.passed.short) in
        record {
          is = item-opened es bs (drop (i * 9) xs) it e;
          plain = no-mark f;
          lent = checked-opens replay_rewrite xs es bs passed i h it e;
          few = rw (entries-count it es bs) at few;
        }

-- ---- counted

module _ (xs es bs : List ℕ) (i : ℕ) where
  abbrev here : List rules.LogItem
  here = unmarked (item_at es bs (drop (i * 9) xs) ∷ [])

  pub mark-counts : is_mark (item_at es bs (drop (i * 9) xs)) ≡ true → ((counts_for here).items ≡ 0) × ((counts_for here).entries ≡ 0)
  mark-counts e = rw (unmarked-mark (item_at es bs (drop (i * 9) xs)) e) counts-none

  pub plain-counts : (it : LogItem) → Plain xs es bs i it → ((counts_for here).items ≡ 1) × ((counts_for here).entries ≡ count_of it.content)
  plain-counts it p =
      let u : here ≡ item_of it es bs ∷ [] = rw p.is (unmarked-plain (item_of it es bs) p.plain) in
      let c = counts-one (item_of it es bs) in
      rw u (c.0, c.1 ∙ entries-count it es bs)

  -- the item alone
  pub plain_here : (it : LogItem) → Plain xs es bs i it → item_of it es bs ∷ [] ≡ here
  plain_here it p = sym (rw p.is (unmarked-plain (item_of it es bs) p.plain))

  pub pushed-mark : (s : Store) (r : Room) (tag : ℕ) → Stored s (area_in r) → is_mark (item_at es bs (drop (i * 9) xs)) ≡ true → PushedAll s r tag here s r
  pushed-mark s r tag w e = rw (unmarked-mark (item_at es bs (drop (i * 9) xs)) e) (pushed_none s r tag w)

  pub pushed-plain : (n : ℕ) (ws vs ws' vs' : List ℕ) (s : Store) (tag : ℕ) (it : LogItem) (t : Store) → length ws ≡ numbers_of n → length vs ≡ bytes_of n → length ws' ≡ length ws → length vs' ≡ length vs → Plain xs es bs i it → AddedIn s (room_of n ws vs) tag (item_of it es bs) t (room_of n ws' vs') → PushedAll s (room_of n ws vs) tag here t (room_of n ws' vs')
  pushed-plain n ws vs ws' vs' s tag it t e f p q pl a =
      rw (← plain_here it pl)
      (pushed-one s (room_of n ws vs) tag (item_of it es bs) t (room_of n ws' vs') a (length-tags n ws' vs' (p ∙ e) (q ∙ f) ∙ sym (length-tags n ws vs e f)))

-- ---- the loops

pub record Counting (xs es bs : List ℕ) (i : ℕ) (c : Store) : Type 0 where
  pub count : c.items ≡ (counts_for (first_unmarked xs es bs i)).items
  pub total : c.entries ≡ (counts_for (first_unmarked xs es bs i)).entries
  pub items-few : c.items ≤ i
  pub entries-few : c.entries ≤ i * 32

module _ (xs es bs : List ℕ) where
  pub counting-none : Counting xs es bs 0 (record { items = 0; entries = 0 })
  counting-none =
      let z = counts-none in
      record {
        count = rw (first-none xs es bs) (sym z.0);
        total = rw (first-none xs es bs) (sym z.1);
        items-few = omega arith;
        entries-few = omega arith;
      }

  pub counting_more : (i : ℕ) (c d : Store) → Counting xs es bs i c → d.items ≡ c.items + (counts_for (here xs es bs i)).items → d.entries ≡ c.entries + (counts_for (here xs es bs i)).entries → (d.items ≤ i + 1) × (d.entries ≤ (i + 1) * 32) → Counting xs es bs (i + 1) d
  counting_more i c d k p q b =
      let a = counts-append (first_unmarked xs es bs i) (here xs es bs i) in
      let a0 = a.0 in
      let a1 = a.1 in
      let k0 = k.count in
      let k1 = k.total in
      record {
        count = rw (first_more xs es bs i) (omega arith);
        total = rw (first_more xs es bs i) (omega arith);
        items-few = b.0;
        entries-few = b.1;
      }

  counts_same : (c d : Store) → c.items ≡ d.items → c.entries ≡ d.entries → c ≡ d
  counts_same c d p q j = record { items = p j; entries = q j }

  pub counting_all : (i : ℕ) (c : Store) → row_count_of xs ≤ i → i ≤ row_count_of xs → Counting xs es bs i c → row_count_of xs ≤ 32 → (c ≡ counts_for (unmarked (items_of xs es bs))) × (c.items ≤ 32) × (c.entries ≤ 1024)
  counting_all i c p q k few =
      let e : i ≡ row_count_of xs = le_antisymm q p in
      let k' = rw e at k in
      let f : first_unmarked xs es bs (row_count_of xs) ≡ unmarked (items_of xs es bs) = first_all xs es bs in
      let a = k'.items-few in
      let b = k'.entries-few in
      (counts_same c _ (rw f at k'.count) (rw f at k'.total), omega arith, omega arith)

  pub record PushingIn (n i tag : ℕ) (s : Store) (ws₀ vs₀ : List ℕ) (t : Store) (ws vs : List ℕ) : Type 0 where
    pub most : i ≤ row_count_of xs
    pub numbers-are : length ws ≡ numbers_of n
    pub bytes-are : length vs ≡ bytes_of n
    pub pushed : PushedAll s (room_of n ws₀ vs₀) tag (first_unmarked xs es bs i) t (room_of n ws vs)

  module _ (n tag : ℕ) (s : Store) (ws₀ vs₀ : List ℕ) (e : length ws₀ ≡ numbers_of n) (f : length vs₀ ≡ bytes_of n) (w : Stored s (area_in (room_of n ws₀ vs₀))) where
    pub pushing-none : PushingIn n 0 tag s ws₀ vs₀ s ws₀ vs₀
    pushing-none =
        record {
          most = omega arith;
          numbers-are = e;
          bytes-are = f;
          pushed = rw (first-none xs es bs) (pushed_none s (room_of n ws₀ vs₀) tag w);
        }

    module _ (i : ℕ) (t : Store) (ws vs : List ℕ) (p : PushingIn n i tag s ws₀ vs₀ t ws vs) (h : i < row_count_of xs) where
      -- there is room for the next one
      pub pushing-room : s.items + (counts_for (unmarked (items_of xs es bs))).items ≤ n * 8 → s.entries + (counts_for (unmarked (items_of xs es bs))).entries ≤ n * 16 → (t.items + (counts_for (here xs es bs i)).items ≤ n * 8) × (t.entries + (counts_for (here xs es bs i)).entries ≤ n * 16)
      pushing-room a b =
          let a' = rw (← first_all xs es bs) at a in
          let b' = rw (← first_all xs es bs) at b in
          let c = counts-append (first_unmarked xs es bs i) (here xs es bs i) in
          let c0 = c.0 in
          let c1 = c.1 in
          let u = first_below xs es bs (i + 1) (row_count_of xs) (omega arith) in
          let v = rw (first_more xs es bs i) at u in
          let v0 = v.0 in
          let v1 = v.1 in
          let x = p.pushed.count in
          let y = p.pushed.total in
          (omega arith, omega arith)

      pub pushing-more : (u : Store) (ws' vs' : List ℕ) → length ws' ≡ length ws → length vs' ≡ length vs → PushedAll t (room_of n ws vs) tag (here xs es bs i) u (room_of n ws' vs') → PushingIn n (i + 1) tag s ws₀ vs₀ u ws' vs'
      pushing-more u ws' vs' a b q =
          record {
            most = omega arith;
            numbers-are = a ∙ p.numbers-are;
            bytes-are = b ∙ p.bytes-are;
            pushed = rw (first_more xs es bs i) (pushed_then s (room_of n ws₀ vs₀) tag (first_unmarked xs es bs i) t (room_of n ws vs) (here xs es bs i) u (room_of n ws' vs') p.pushed q);
          }

    pub pushing-all : (i : ℕ) (t : Store) (ws vs : List ℕ) → row_count_of xs ≤ i → PushingIn n i tag s ws₀ vs₀ t ws vs → PushedAll s (room_of n ws₀ vs₀) tag (unmarked (items_of xs es bs)) t (room_of n ws vs)
    pushing-all i t ws vs l p =
        let same : i ≡ row_count_of xs = le_antisymm p.most l in
        rw (← first_all xs es bs) (rw same at p.pushed)
