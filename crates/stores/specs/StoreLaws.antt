-- The laws of a store: its items open within the fronts in use, so they stay where the fronts stay. Assumes nothing.
use Rattle.log_batch.specs.declared.item.Bytes.{Bytes}
use Rattle.log_batch.specs.Lent.{Opened}
use Rattle.rules.specs.Causes.{Ok, Err}
use Rattle.std.specs.Prelude.{Option, Some, None, Bool, cond, ◌&&◌, ◌≡◌, List, [], ◌∷◌, ◌++◌, eqb, ltb, leb, length, get_or, take, drop}
use Rattle.std.proofs.Math.Bool.{true, false}
use Rattle.std.proofs.Math.Path.{refl, sym, ap}
use Rattle.std.proofs.Common.{◌∙◌, append_assoc, append-nil, add-one, lt-ltb, le-ltb, le-leb, get_or-take}
use Prim.Native.Nat.{ℕ, zero, suc, ◌+◌, ◌*◌, ◌/◌, ◌≤◌, ◌<◌}
use Rattle.std.proofs.Math.Decide.{dec_le}
use native.Mathlib.Omega.{arith}
use Rattle.std.proofs.Math.Nat.{add-zero}
use Rattle.std.proofs.lemmas.Bool.{lt-leb}
use Rattle.std.proofs.Math.ListN.{length-append}
use Rattle.cells.specs.Part.{part}
use Rattle.cells.specs.PartLaws.{part_of-front, shorter-front, shorter_back, front_length}
use Rattle.maps.specs.Lists.{sum}
use Rattle.maps.specs.ListLaws.{sum-append}
use Rattle.rules.specs.Items as rules
use Rattle.rules.specs.Context.{entries_in}
use Rattle.log_batch.specs.declared.item.OpType as op
use Rattle.log_batch.specs.declared.item.KeyValue.{KeyValue}
use Rattle.log_batch.specs.declared.item.LogItemContent as content
use Rattle.log_batch.specs.declared.item.LogItem.{LogItem}
use Rattle.log_batch.specs.Lent.{row_count_of, item_if, opened_entries, opened_put, opened_del, opened_row, content_of, key_content, item_of, item_at, items_from, Within}
use Rattle.stores.specs.declared.Store.{Store}
use Rattle.stores.specs.Written.{placed, placed_value, placed_key, placed_content, count_of, ValueShort, ContentShort, Lent}
use Rattle.stores.specs.Stores.{Area, store_items, row_entries, entries_before, first_items, Held, Stored, Kept, Rest, Sized, has_room, Added, AddedAll, ItemAt}
use Rattle.log_batch.specs.OpenLaws.{opened-within, refused-item, open-longer, rows-open_same, item-front, item-opened, length-entries, items-snoc, length-items, items_at, items-same}

below-is : (n m : ℕ) → ltb n m ≡ leb (n + 1) m
below-is n m =
    elim (dec_le (n + 1) m) [
      | yes l ↦ lt-ltb n m (omega arith) ∙ sym (le-leb (n + 1) m l)
      | no l ↦ le-ltb n m (omega arith) ∙ sym (lt-leb (n + 1) m (omega arith))
    ]

-- ---- fronts

-- row j of the first n
front-row : (n j : ℕ) (xs ys : List ℕ) → take (n * 9) ys ≡ take (n * 9) xs → j < n → take 9 (drop (j * 9) ys) ≡ take 9 (drop (j * 9) xs)
unfolding part
front-row n j xs ys e h = part_of-front (j * 9) 9 (n * 9) ys xs e (omega arith)

-- ---- the entries of the first rows

entries-front : (row row' : List ℕ) → take 9 row ≡ take 9 row' → row_entries row ≡ row_entries row'
unfolding row_entries
entries-front row row' e =
    rw (← get_or-take 9 row 1 0 (omega arith), ← get_or-take 9 row 3 0 (omega arith), e, get_or-take 9 row' 1 0 (omega arith), get_or-take 9 row' 3 0 (omega arith))

pub before_more : (n : ℕ) (xs : List ℕ) → entries_before (suc n) xs ≡ entries_before n xs + row_entries (drop (n * 9) xs)
unfolding entries_before
before_more n xs = refl

pub before_below : (j n : ℕ) (xs : List ℕ) → j ≤ n → entries_before j xs ≤ entries_before n xs
before_below j zero xs h = let e : j ≡ 0 = omega arith in rw e (omega arith)
before_below j (suc n) xs h =
    elim (dec_le j n) [
      | yes l ↦ let ih = before_below j n xs l in rw (before_more n xs) (omega arith)
      | no l ↦ let e : j ≡ suc n = omega arith in rw e (omega arith)
    ]

pub before_same : (n j : ℕ) (xs ys : List ℕ) → take (n * 9) ys ≡ take (n * 9) xs → j ≤ n → entries_before j ys ≡ entries_before j xs
unfolding entries_before
before_same n zero xs ys e h = refl
before_same n (suc j) xs ys e h =
    rw (before_same n j xs ys e (omega arith), entries-front (drop (j * 9) ys) (drop (j * 9) xs) (front-row n j xs ys e (omega arith)))

pub held_same : (n j : ℕ) (xs ys : List ℕ) → take (n * 9) ys ≡ take (n * 9) xs → j < n → Held j xs → Held j ys
held_same n j xs ys e h held =
    record {
      item = held.item;
      opens =
          rw (
            before_same n (suc j) xs ys e (omega arith),
            before_same n j xs ys e (omega arith),
            rows-open_same (drop (j * 9) ys) (drop (j * 9) xs) (entries_before (suc j) xs) (suc j * 64) (front-row n j xs ys e h),
          )
          held.opens;
      short = held.short;
    }

-- ---- an opened item: how many entries it has

opened_count : Opened → ℕ
opened_count (Ok it) = count_of it.content
opened_count (Err u) = 0

module _ (row : List ℕ) (it : LogItem) where
  if-count : (b : Bool) (c : content.LogItemContent) → item_if b row c ≡ Ok it → count_of c ≡ count_of it.content
  unfolding item_if opened_count
  if-count true c e = ap opened_count e
  if-count false c e = refused-item _ it e

  either_way : {P : Type 0} (b : Bool) (x y : Opened) → (x ≡ Ok it → P) → (y ≡ Ok it → P) → cond b x y ≡ Ok it → P
  either_way true x y p q e = p e
  either_way false x y p q e = q e

  by-tag : (b : Bool) (x y : Opened) (m : ℕ) → (x ≡ Ok it → m ≡ count_of it.content) → (y ≡ Ok it → 0 ≡ count_of it.content) → cond b x y ≡ Ok it → cond b m 0 ≡ count_of it.content
  by-tag true x y m p q e = p e
  by-tag false x y m p q e = q e

  pub opened-entries : (r b : ℕ) → opened_row row r b ≡ Ok it → row_entries row ≡ count_of it.content
  unfolding opened_row opened_entries opened_put opened_del row_entries
  opened-entries r b =
      either_way (ltb (length row) 9) _ _ (λ e. refused-item _ it e)
      (by-tag (eqb (get_or row 1 0) 0) _ _ (get_or row 3 0) (λ e. if-count _ _ e)
      (either_way (eqb (get_or row 1 0) 1) _ _ (λ e. if-count _ _ e)
      (either_way (eqb (get_or row 1 0) 2) _ _ (λ e. if-count _ _ e)
      (either_way (eqb (get_or row 1 0) 3) _ _ (λ e. if-count _ _ e)
      (either_way (eqb (get_or row 1 0) 4) _ _ (λ e. if-count _ _ e) (λ e. refused-item _ it e))))))

content-count : (c : content.LogItemContent) (g : ℕ) (es bs : List ℕ) → entries_in (record { group = g; content = content_of c es bs }) ≡ count_of c
unfolding entries_in content_of key_content
content-count (content.TheVariants.EntryIndexes x) g es bs = length-entries x.count _
content-count (content.TheVariants.Command c) g es bs = refl
content-count (content.TheVariants.Kv k) g es bs = refl

-- what it stands for has as many entries
pub entries-count : (it : LogItem) (es bs : List ℕ) → entries_in (item_of it es bs) ≡ count_of it.content
unfolding item_of
entries-count it es bs = content-count it.content it.raft_group_id es bs

-- an item with places is as short, and has as many entries

placed-value-short : (v : Option Bytes) (b : ℕ) → ValueShort v → ValueShort (placed_value v b)
placed-value-short None b s = tt
placed-value-short (Some b') b s = s

placed_key-short : (o : op.OpType) (k : KeyValue) (b : ℕ) → ContentShort (content.TheVariants.Kv k) → ContentShort (content.TheVariants.Kv (placed_key o k b))
placed_key-short op.TheVariants.Put k b s = (s.0, placed-value-short k.value (b + k.key_len) s.1)
placed_key-short op.TheVariants.Del k b s = (s.0, tt)

placed-content-short : (c : content.LogItemContent) (r b : ℕ) → ContentShort c → ContentShort (placed_content c r b)
placed-content-short (content.TheVariants.EntryIndexes x) r b s = tt
placed-content-short (content.TheVariants.Command c) r b s = tt
placed-content-short (content.TheVariants.Kv k) r b s = placed_key-short k.op_type k b s

pub placed-short : (it : LogItem) (r b : ℕ) → ContentShort it.content → ContentShort (placed it r b).content
unfolding placed
placed-short it r b s = placed-content-short it.content r b s

-- ---- item j

module _ (s : Store) (a : Area) (w : Stored s a) (j : ℕ) (h : j < s.items) where
  -- with its places
  abbrev pub held_item : LogItem
  held_item = placed (w.each j h).item (entries_before j a.items) (j * 64)

  opens-in_use : opened_row (drop (j * 9) a.items) s.entries (s.items * 64) ≡ Ok held_item
  opens-in_use =
      let l = before_below (suc j) s.items a.items h in
      let t = w.total in
      open-longer held_item _ (entries_before (suc j) a.items) (suc j * 64) s.entries (s.items * 64) (omega arith) (omega arith) (w.each j h).opens

  within-in_use : Within held_item.content (s.entries * 8) (s.items * 64)
  within-in_use =
      let e : s.entries * 8 / 8 ≡ s.entries = omega arith in
      rw (e, opens-in_use) at (opened-within (s.entries * 8) (s.items * 64) (drop (j * 9) a.items))

  module _ (b : Area) (k : Kept s a b) where
    rows_stay : s.items * 9 ≤ length b.items
    rows_stay = front_length (s.items * 9) a.items b.items k.rows w.rows

    lists_stay : s.entries * 8 ≤ length b.entries
    lists_stay = front_length (s.entries * 8) a.entries b.entries k.lists w.lists

    bytes-in_use : s.items * 64 ≤ length a.bytes
    bytes-in_use =
        let p = w.places in
        let r = w.rows in
        omega arith

    places_stay : s.items * 64 ≤ length b.bytes
    places_stay = front_length (s.items * 64) a.bytes b.bytes k.places bytes-in_use

    pub kept-opens : opened_row (drop (j * 9) b.items) (length b.entries / 8) (length b.bytes) ≡ Ok held_item
    kept-opens =
        let l = lists_stay in
        open-longer held_item _ s.entries (s.items * 64) _ _ (omega arith) places_stay
        (rows-open_same (drop (j * 9) b.items) (drop (j * 9) a.items) _ _ (front-row s.items j a.items b.items k.rows h) ∙ opens-in_use)

    pub kept-item : item_at b.entries b.bytes (drop (j * 9) b.items) ≡ item_of held_item a.entries a.bytes
    kept-item =
        item-opened b.entries b.bytes (drop (j * 9) b.items) held_item kept-opens
        ∙ item-front (s.entries * 8) (s.items * 64) b.entries b.bytes a.entries a.bytes k.lists k.places held_item within-in_use

    -- it meets what `push` asks, in whichever parts the fronts are kept
    pub kept_lent : Lent held_item (length b.entries) (length b.bytes)
    kept_lent =
        record {
          within = rw kept-opens at (opened-within (length b.entries) (length b.bytes) (drop (j * 9) b.items));
          short = placed-short (w.each j h).item (entries_before j a.items) (j * 64) (w.each j h).short;
        }

-- ---- the fronts are kept

pub kept_all : (s : Store) (a : Area) → Kept s a a
kept_all s a = record { rows = refl; lists = refl; places = refl }

-- one after the other: what a shorter store has in use, a longer one has too
pub kept_then : (s t : Store) (a b c : Area) → s.items ≤ t.items → s.entries ≤ t.entries → Kept s a b → Kept t b c → Kept s a c
kept_then s t a b c h l p q =
    record {
      rows = shorter-front (s.items * 9) (t.items * 9) c.items b.items (omega arith) q.rows ∙ p.rows;
      lists = shorter-front (s.entries * 8) (t.entries * 8) c.entries b.entries (omega arith) q.lists ∙ p.lists;
      places = shorter-front (s.items * 64) (t.items * 64) c.bytes b.bytes (omega arith) q.places ∙ p.places;
    }

pub rest_then : (s t : Store) (a b c : Area) → s.items ≤ t.items → s.entries ≤ t.entries → Rest s a b → Rest t b c → Rest t a c
rest_then s t a b c h l p q =
    record {
      rows = q.rows ∙ shorter_back (s.items * 9) (t.items * 9) b.items a.items (omega arith) p.rows;
      lists = q.lists ∙ shorter_back (s.entries * 8) (t.entries * 8) b.entries a.entries (omega arith) p.lists;
      places = q.places ∙ shorter_back (s.items * 64) (t.items * 64) b.bytes a.bytes (omega arith) p.places;
    }

pub sized-then : (a b c : Area) → Sized a b → Sized b c → Sized a c
sized-then a b c p q = record { rows = q.rows ∙ p.rows; lists = q.lists ∙ p.lists; places = q.places ∙ p.places }

module _ (s : Store) (a b : Area) (w : Stored s a) (k : Kept s a b) where
  -- the items are the same
  pub kept-items : store_items s b ≡ store_items s a
  unfolding store_items
  kept-items =
      items-same b.entries b.bytes a.entries a.bytes b.items a.items s.items
      (λ j h. kept-item s a w j h b k ∙ sym (kept-item s a w j h a (kept_all s a)))

  -- and the store is well formed, where there are 64 bytes for each row
  pub kept-stored : length b.items / 9 * 64 ≤ length b.bytes → Stored s b
  kept-stored p =
      record {
        rows = front_length (s.items * 9) a.items b.items k.rows w.rows;
        lists = front_length (s.entries * 8) a.entries b.entries k.lists w.lists;
        places = p;
        each = λ j h. held_same s.items j a.items b.items k.rows h (w.each j h);
        total = before_same s.items s.items a.items b.items k.rows (omega arith) ∙ w.total;
      }

  -- so a store is put back by its counts alone
  pub kept_back : Sized a b → Stored s b
  kept_back z = let r = z.rows in let q = z.places in let p = w.places in kept-stored (rw (r, q) p)

-- ---- the list of items

module _ (s : Store) (a : Area) (w : Stored s a) where
  pub length-stored : length (store_items s a) ≡ s.items
  unfolding store_items
  length-stored = length-items a.entries a.bytes s.items a.items

  pub stored_at : (j : ℕ) (h : j < s.items) (z : rules.LogItem) → get_or (store_items s a) j z ≡ item_of (held_item s a w j h) a.entries a.bytes
  unfolding store_items
  stored_at j h z = items_at a.entries a.bytes s.items a.items j z h ∙ kept-item s a w j h a (kept_all s a)

  pub stored-opens : (j : ℕ) (h : j < s.items) → opened_row (drop (j * 9) a.items) (length a.entries / 8) (length a.bytes) ≡ Ok (held_item s a w j h)
  stored-opens j h = kept-opens s a w j h a (kept_all s a)

  pub stored_row : (j : ℕ) → j < s.items → j < row_count_of a.items
  unfolding row_count_of
  stored_row j h = let r = w.rows in omega arith

  -- what row j opens into is item j
  pub stored-item : (j : ℕ) → j < s.items → (it : LogItem) → opened_row (drop (j * 9) a.items) (length a.entries / 8) (length a.bytes) ≡ Ok it → ItemAt s a j it
  stored-item j h it e =
      let same : held_item s a w j h ≡ it = cc (sym (stored-opens j h) ∙ e) in
      record {
        opens = e;
        is = λ z. rw same at (stored_at j h z);
        lent = rw same at (kept_lent s a w j h a (kept_all s a));
      }

  pub stored-not-refused : (j : ℕ) → j < s.items → (g : ℕ) → opened_row (drop (j * 9) a.items) (length a.entries / 8) (length a.bytes) ≡ Err (record { raft_group_id = g }) → ⊥
  stored-not-refused j h g e = refused-item g (held_item s a w j h) (sym e ∙ stored-opens j h)

  -- row j says how many entries item j has
  pub stored-entries : (j : ℕ) → j < s.items → entries_in (item_at a.entries a.bytes (drop (j * 9) a.items)) ≡ row_entries (drop (j * 9) a.items)
  stored-entries j h =
      let e = opened-entries (drop (j * 9) a.items) (held_item s a w j h) _ _ (w.each j h).opens in
      rw (kept-item s a w j h a (kept_all s a), e) (entries-count (held_item s a w j h) a.entries a.bytes)

  total_of : (n : ℕ) → n ≤ s.items → sum entries_in (items_from a.entries a.bytes n a.items) ≡ entries_before n a.items
  unfolding entries_before items_from sum
  total_of zero h = refl
  total_of (suc n) h =
      ap (sum entries_in) (items-snoc a.entries a.bytes n a.items)
      ∙ sum-append entries_in (items_from a.entries a.bytes n a.items) _
      ∙ rw (total_of n (omega arith), add-zero, stored-entries n (omega arith))

  -- its number of entries is the sum of the items' own
  pub stored-total : sum entries_in (store_items s a) ≡ s.entries
  unfolding store_items
  stored-total = total_of s.items (omega arith) ∙ w.total

  -- the first n items alone
  pub stored-first : (n : ℕ) → n ≤ s.items → Stored (first_items n a) a
  stored-first n h =
      let l = before_below n s.items a.items h in
      let r = w.rows in
      let e = w.lists in
      let t = w.total in
      record { rows = omega arith; lists = omega arith; places = w.places; each = λ j k. w.each j (omega arith); total = refl }

-- an item has room where the list with it passes neither limit: the rows of items, and the rows of entries
pub room_limits : (s : Store) (a : Area) → Stored s a → (it : rules.LogItem) → has_room (entries_in it) s (length a.items) (length a.entries) ≡ (leb (length (store_items s a ++ (it ∷ []))) (length a.items / 9) && leb (sum entries_in (store_items s a ++ (it ∷ []))) (length a.entries / 8))
unfolding has_room sum
room_limits s a w it =
    let n = length-append (store_items s a) (it ∷ []) in
    let e = sum-append entries_in (store_items s a) (it ∷ []) in
    let m = length-stored s a w in
    let t = stored-total s a w in
    let k : length (store_items s a ++ (it ∷ [])) ≡ s.items + 1 = omega arith in
    let l : sum entries_in (store_items s a ++ (it ∷ [])) ≡ s.entries + entries_in it = rw (e, t, add-zero) in
    rw (k, l) (ap (λ (b : Bool). b && leb (s.entries + entries_in it) (length a.entries / 8)) (below-is s.items (length a.items / 9)))

-- no items
pub stored-none : (a : Area) → length a.items / 9 * 64 ≤ length a.bytes → Stored (record { items = 0; entries = 0 }) a
unfolding entries_before
stored-none a h =
    record { rows = omega arith; lists = omega arith; places = h; each = λ j k. absurd (omega arith); total = refl }

pub none-stored : (a : Area) → store_items (record { items = 0; entries = 0 }) a ≡ []
unfolding store_items items_from
none-stored a = refl

-- ---- a run of pushes

pub added_none : (s : Store) (a : Area) → Stored s a → AddedAll s a [] s a
unfolding sum
added_none s a w =
    record {
      count = rw add-zero;
      total = rw add-zero;
      items = sym (append-nil (store_items s a));
      wf = w;
      kept = kept_all s a;
      rest = record { rows = refl; lists = refl; places = refl };
      sized = record { rows = refl; lists = refl; places = refl };
    }

module _ (s : Store) (a : Area) (xs : List rules.LogItem) (t : Store) (b : Area) (m : AddedAll s a xs t b) where
  pub added_more : (it : rules.LogItem) (u : Store) (c : Area) → Added t b it u c → AddedAll s a (xs ++ (it ∷ [])) u c
  unfolding sum
  added_more it u c d =
      let n = m.count in
      let e = m.total in
      let items : u.items ≡ t.items + 1 = ap (λ (x : Store). x.items) d.counts in
      let entries : u.entries ≡ t.entries + entries_in it = ap (λ (x : Store). x.entries) d.counts in
      let l = length-append xs (it ∷ []) in
      let k = sum-append entries_in xs (it ∷ []) in
      record {
        count = omega arith;
        total = omega arith;
        items = d.items ∙ rw m.items (append_assoc (store_items s a) xs (it ∷ []));
        wf = d.wf;
        kept = kept_then s t a b c (omega arith) (omega arith) m.kept d.kept;
        rest = rest_then t u a b c (omega arith) (omega arith) m.rest d.rest;
        sized = sized-then a b c m.sized d.sized;
      }

  -- it is undone by the counts of before
  pub added_back : Stored s a → Stored s b × (store_items s b ≡ store_items s a)
  added_back w = (kept_back s a b w m.kept m.sized, kept-items s a b w m.kept)

-- the first items of a store, one by one
pub first-none : (a : Area) → store_items (first_items 0 a) a ≡ []
unfolding store_items items_from
first-none a = refl

pub first_more : (a : Area) (n : ℕ) → store_items (first_items (n + 1) a) a ≡ store_items (first_items n a) a ++ (item_at a.entries a.bytes (drop (n * 9) a.items) ∷ [])
unfolding store_items
first_more a n = rw (add-one n) (items-snoc a.entries a.bytes n a.items)

pub first_all : (s : Store) (a : Area) (n : ℕ) → n ≡ s.items → store_items (first_items n a) a ≡ store_items s a
unfolding store_items
first_all s a n e = rw e
