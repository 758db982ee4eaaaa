-- A written row opens into the item with its places, and the item stands for what the one that was written stands for. Assumes nothing.
use Rattle.pipe_log.specs.declared.FileId.{FileId}
use Rattle.log_batch.specs.declared.item.Bytes.{Bytes}
use Rattle.rules.specs.Causes.{Ok}
use Rattle.std.specs.Prelude.{Option, Some, None}
use mathlib.Core.Bool.{true, false}
use mathlib.Core.Path.{◌≡◌, refl, ◌∙◌}
use mathlib.Core.List.{List, ◌∷◌, ◌++◌, append-nil}
use Prim.Native.Nat.{ℕ, ◌+◌, ◌*◌, ◌≤◌}
use native.Mathlib.Nat.{add-zero}
use native.Mathlib.Omega.{arith}
use lib.Dec.{ltb}
use lib.ListN.{length, length-append}
use borrow.Author.Tests.{le-leb, le-ltb}
use Rattle.cells.specs.Part.{part, put}
use Rattle.cells.specs.PartLaws.{length_part, part_all, part_left, part_right, part-put-within, part-put_same, part-put-after, put-append}
use Rattle.rules.specs.Items as rules
use Rattle.log_batch.specs.declared.item.Command as command
use Rattle.log_batch.specs.declared.item.OpType as op
use Rattle.log_batch.specs.declared.item.KeyValue.{KeyValue}
use Rattle.log_batch.specs.declared.item.LogItemContent as content
use Rattle.log_batch.specs.declared.item.LogItem.{LogItem}
use Rattle.log_batch.specs.Lent.{item_if, value_fits, value_at, file_at, opened_entries, opened_put, opened_del, opened_row, content_of, item_of, key_content, key_change, change_of, value_of, ValueWithin, RowsWithin, BytesWithin}
use Rattle.log_batch.specs.OpenLaws.{ValueIn, PlacesIn}
use Rattle.stores.specs.Written.{key_length, file_number, file_seq, value_told, value_length, command_row, key_row, content_row, row_for, placed_value, placed_key, placed_content, placed, value_bytes, key_bytes, bytes_of, rows_of, count_of, ValueShort, ContentShort, ValueBehind, BytesBehind, Behind}
use Rattle.stores.specs.Stores.{row_entries}

-- ---- lengths

length-command : (g : ℕ) (c : command.Command) → length (command_row g c) ≡ 9
length-command g command.TheVariants.Clean = refl
length-command g (command.TheVariants.Compact i) = refl

length_key-row : (o : op.OpType) (g : ℕ) (k : KeyValue) (b : ℕ) → length (key_row o g k b) ≡ 9
length_key-row op.TheVariants.Put g k b = refl
length_key-row op.TheVariants.Del g k b = refl

length-content : (g : ℕ) (c : content.LogItemContent) (r b : ℕ) → length (content_row g c r b) ≡ 9
length-content g (content.TheVariants.EntryIndexes x) r b = refl
length-content g (content.TheVariants.Command c) r b = length-command g c
length-content g (content.TheVariants.Kv k) r b = length_key-row k.op_type g k b

pub length-row : (it : LogItem) (r b : ℕ) → length (row_for it r b) ≡ 9
unfolding row_for
length-row it r b = length-content it.raft_group_id it.content r b

pub length-rows_of : (c : content.LogItemContent) (es : List ℕ) → RowsWithin c (length es) → length (rows_of c es) ≡ count_of c * 8
unfolding rows_of
length-rows_of (content.TheVariants.EntryIndexes x) es w = length_part (x.at * 8) (x.count * 8) es (omega arith)
length-rows_of (content.TheVariants.Command c) es w = refl
length-rows_of (content.TheVariants.Kv k) es w = refl

length-value : (v : Option Bytes) (bs : List ℕ) → ValueWithin v (length bs) → length (value_bytes v bs) ≡ value_length v
unfolding value_bytes
length-value None bs w = refl
length-value (Some b) bs w = length_part b.at b.len bs w

value-32 : (v : Option Bytes) → ValueShort v → value_length v ≤ 32
value-32 None s = omega arith
value-32 (Some b) s = s

pub key-32 : (c : content.LogItemContent) → ContentShort c → key_length c ≤ 32
key-32 (content.TheVariants.EntryIndexes x) s = omega arith
key-32 (content.TheVariants.Command c) s = omega arith
key-32 (content.TheVariants.Kv k) s = s.0

length_key : (k : KeyValue) (bs : List ℕ) → BytesWithin (content.TheVariants.Kv k) (length bs) → length (key_bytes k bs) ≡ k.key_len + value_length k.value
unfolding key_bytes
length_key k bs w = rw (length-append, length_part k.key_at k.key_len bs w.0, length-value k.value bs w.1)

pub length-bytes_of : (c : content.LogItemContent) (bs : List ℕ) → BytesWithin c (length bs) → ContentShort c → length (bytes_of c bs) ≤ 64
unfolding bytes_of
length-bytes_of (content.TheVariants.EntryIndexes x) bs w s = omega arith
length-bytes_of (content.TheVariants.Command c) bs w s = omega arith
length-bytes_of (content.TheVariants.Kv k) bs w s =
    let e = length_key k bs w in
    let l = value-32 k.value s.1 in
    let h = s.0 in
    omega arith

-- ---- the written row opens

module _ (rest : List ℕ) where
  file_by : (q : rules.LogQueue) (n x0 x1 x2 x3 x4 x5 x6 : ℕ) → file_at (x0 ∷ x1 ∷ x2 ∷ x3 ∷ x4 ∷ x5 ∷ x6 ∷ file_number (Some (record { queue = q; seq = n })) ∷ n ∷ rest) ≡ Some (record { queue = q; seq = n })
  unfolding file_at
  file_by rules.Append n x0 x1 x2 x3 x4 x5 x6 = refl
  file_by rules.Rewrite n x0 x1 x2 x3 x4 x5 x6 = refl

  file_back : (f : Option FileId) (x0 x1 x2 x3 x4 x5 x6 : ℕ) → file_at (x0 ∷ x1 ∷ x2 ∷ x3 ∷ x4 ∷ x5 ∷ x6 ∷ file_number f ∷ file_seq f ∷ rest) ≡ f
  unfolding file_at
  file_back None x0 x1 x2 x3 x4 x5 x6 = refl
  file_back (Some f) x0 x1 x2 x3 x4 x5 x6 = file_by f.queue f.seq x0 x1 x2 x3 x4 x5 x6

  value_back : (v : Option Bytes) (b x0 x1 x2 x3 x7 x8 : ℕ) → value_at (x0 ∷ x1 ∷ x2 ∷ x3 ∷ value_told v ∷ b ∷ value_length v ∷ x7 ∷ x8 ∷ rest) ≡ placed_value v b
  unfolding value_at
  value_back None b x0 x1 x2 x3 x7 x8 = refl
  value_back (Some b') b x0 x1 x2 x3 x7 x8 = refl

  value-fits : (v : Option Bytes) (b e x0 x1 x2 x3 x7 x8 : ℕ) → ValueShort v → b + 32 ≤ e → value_fits (x0 ∷ x1 ∷ x2 ∷ x3 ∷ value_told v ∷ b ∷ value_length v ∷ x7 ∷ x8 ∷ rest) e ≡ true
  unfolding value_fits
  value-fits None b e x0 x1 x2 x3 x7 x8 s h = refl
  value-fits (Some b') b e x0 x1 x2 x3 x7 x8 s h = le-leb (b + b'.len) e (omega arith)

  nine-long : (x0 x1 x2 x3 x4 x5 x6 x7 x8 : ℕ) → ltb (length (x0 ∷ x1 ∷ x2 ∷ x3 ∷ x4 ∷ x5 ∷ x6 ∷ x7 ∷ x8 ∷ rest)) 9 ≡ false
  nine-long x0 x1 x2 x3 x4 x5 x6 x7 x8 = le-ltb (length (x0 ∷ x1 ∷ x2 ∷ x3 ∷ x4 ∷ x5 ∷ x6 ∷ x7 ∷ x8 ∷ rest)) 9 (omega arith)

  opens-command : (g r b : ℕ) (c : command.Command) → opened_row (command_row g c ++ rest) r b ≡ Ok (record { raft_group_id = g; content = content.TheVariants.Command c })
  unfolding opened_row item_if
  opens-command g r b command.TheVariants.Clean = rw (nine-long g 1 0 0 0 0 0 0 0)
  opens-command g r b (command.TheVariants.Compact i) = rw (nine-long g 2 i 0 0 0 0 0 0)

  opens_key : (o : op.OpType) (g : ℕ) (k : KeyValue) (r b e : ℕ) → ContentShort (content.TheVariants.Kv k) → b + 64 ≤ e → opened_row (key_row o g k b ++ rest) r e ≡ Ok (record { raft_group_id = g; content = content.TheVariants.Kv (placed_key o k b) })
  unfolding opened_row opened_put opened_del item_if
  opens_key op.TheVariants.Put g k r b e s h =
      let n = k.key_len in
      let short = s.0 in
      let v = k.value in
      let f = k.file_id in
      rw (
        nine-long g 3 b n (value_told v) (b + n) (value_length v) (file_number f) (file_seq f),
        le-leb (b + n) e (omega arith),
        value-fits v (b + n) e g 3 b n (file_number f) (file_seq f) s.1 (omega arith),
        value_back v (b + n) g 3 b n (file_number f) (file_seq f),
        file_back f g 3 b n (value_told v) (b + n) (value_length v),
      )
  opens_key op.TheVariants.Del g k r b e s h =
      let n = k.key_len in
      let short = s.0 in
      rw (nine-long g 4 b n 0 0 0 2 0, le-leb (b + n) e (omega arith))

  opens-content : (g : ℕ) (c : content.LogItemContent) (r b e : ℕ) → ContentShort c → b + 64 ≤ e → opened_row (content_row g c r b ++ rest) (r + count_of c) e ≡ Ok (record { raft_group_id = g; content = placed_content c r b })
  unfolding opened_row opened_entries item_if
  opens-content g (content.TheVariants.EntryIndexes x) r b e s h =
      rw (nine-long g 0 r x.count 0 0 0 0 0, le-leb (r + x.count) (r + x.count) (omega arith))
  opens-content g (content.TheVariants.Command c) r b e s h = opens-command g _ e c
  opens-content g (content.TheVariants.Kv k) r b e s h = opens_key k.op_type g k _ b e s h

  pub written-opens : (it : LogItem) (r b e : ℕ) → ContentShort it.content → b + 64 ≤ e → opened_row (row_for it r b ++ rest) (r + count_of it.content) e ≡ Ok (placed it r b)
  unfolding row_for placed
  written-opens it r b e s h = opens-content it.raft_group_id it.content r b e s h

  -- the row says how many entries it has
  entries-command : (g : ℕ) (c : command.Command) → row_entries (command_row g c ++ rest) ≡ 0
  unfolding row_entries
  entries-command g command.TheVariants.Clean = refl
  entries-command g (command.TheVariants.Compact i) = refl

  entries_key : (o : op.OpType) (g : ℕ) (k : KeyValue) (b : ℕ) → row_entries (key_row o g k b ++ rest) ≡ 0
  unfolding row_entries
  entries_key op.TheVariants.Put g k b = refl
  entries_key op.TheVariants.Del g k b = refl

  entries-content : (g : ℕ) (c : content.LogItemContent) (r b : ℕ) → row_entries (content_row g c r b ++ rest) ≡ count_of c
  unfolding row_entries
  entries-content g (content.TheVariants.EntryIndexes x) r b = refl
  entries-content g (content.TheVariants.Command c) r b = entries-command g c
  entries-content g (content.TheVariants.Kv k) r b = entries_key k.op_type g k b

  pub written-entries : (it : LogItem) (r b : ℕ) → row_entries (row_for it r b ++ rest) ≡ count_of it.content
  unfolding row_for
  written-entries it r b = entries-content it.raft_group_id it.content r b

-- ---- the written bytes and rows of entries are read back

module _ (d : List ℕ) (at : ℕ) where
  front_back : (s t : List ℕ) (n : ℕ) → length s ≡ n → at ≤ length d → part at n (put d at (s ++ t)) ≡ s
  front_back s t n e h =
      let l = length-append s t in
      let p = part-put-within 0 n d at (s ++ t) (omega arith) h in
      rw add-zero at p ∙ part_left 0 n s t (omega arith) ∙ part_all n s e

  rest_back : (s t : List ℕ) (n m : ℕ) → length s ≡ n → length t ≡ m → at ≤ length d → part (at + n) m (put d at (s ++ t)) ≡ t
  rest_back s t n m e f h =
      let l = length-append s t in
      let p = part_right 0 m s t in
      let z : length s + 0 ≡ n = omega arith in
      part-put-within n m d at (s ++ t) (omega arith) h ∙ rw z at p ∙ part_all m t f

module _ (bs d : List ℕ) (b : ℕ) (h : b ≤ length d) where
  key_back : (k : KeyValue) → BytesWithin (content.TheVariants.Kv k) (length bs) → part b k.key_len (put d b (key_bytes k bs)) ≡ part k.key_at k.key_len bs
  unfolding key_bytes
  key_back k w = front_back d b _ _ k.key_len (length_part k.key_at k.key_len bs w.0) h

  change_back : (o : op.OpType) (v : Option Bytes) (f : Option FileId) (key : List ℕ) (n : ℕ) → length key ≡ n → ValueWithin v (length bs) → change_of o (placed_value v (b + n)) f (put d b (key ++ value_bytes v bs)) ≡ change_of o v f bs
  unfolding change_of value_of value_bytes
  change_back op.TheVariants.Put None f key n e w = refl
  change_back op.TheVariants.Put (Some v) f key n e w = rw (rest_back d b key (part v.at v.len bs) n v.len e (length_part v.at v.len bs w) h)
  change_back op.TheVariants.Del v f key n e w = refl

  keyed_back : (o : op.OpType) (k : KeyValue) → BytesWithin (content.TheVariants.Kv k) (length bs) → key_content (placed_key o k b) (put d b (key_bytes k bs)) ≡ rules.kv (part k.key_at k.key_len bs) (change_of o k.value k.file_id bs)
  unfolding key_content key_change key_bytes
  keyed_back op.TheVariants.Put k w =
      let key = part k.key_at k.key_len bs in
      let e = length_part k.key_at k.key_len bs w.0 in
      rw (change_back op.TheVariants.Put k.value k.file_id key k.key_len e w.1, front_back d b key (value_bytes k.value bs) k.key_len e h)
  keyed_back op.TheVariants.Del k w =
      let key = part k.key_at k.key_len bs in
      let e = length_part k.key_at k.key_len bs w.0 in
      unfold change_of in rw (front_back d b key (value_bytes k.value bs) k.key_len e h)

  module _ (es f : List ℕ) (r : ℕ) (g : r * 8 ≤ length f) where
    content_back : (c : content.LogItemContent) → RowsWithin c (length es) → BytesWithin c (length bs) → content_of (placed_content c r b) (put f (r * 8) (rows_of c es)) (put d b (bytes_of c bs)) ≡ content_of c es bs
    unfolding content_of rows_of bytes_of
    content_back (content.TheVariants.EntryIndexes x) w v =
        rw (part-put_same (x.count * 8) f (r * 8) (part (x.at * 8) (x.count * 8) es) (length_part (x.at * 8) (x.count * 8) es (omega arith)) g)
    content_back (content.TheVariants.Command c) w v = refl
    content_back (content.TheVariants.Kv k) w v = unfold key_content key_change in keyed_back k.op_type k v

    pub written-item : (it : LogItem) → RowsWithin it.content (length es) → BytesWithin it.content (length bs) → item_of (placed it r b) (put f (r * 8) (rows_of it.content es)) (put d b (bytes_of it.content bs)) ≡ item_of it es bs
    unfolding item_of placed
    written-item it w v = rw (content_back it.content w v)

-- ---- what the copies write

module _ (k : KeyValue) (at : ℕ) (xs bs ys : List ℕ) (e : ys ≡ put xs at (part k.key_at k.key_len bs)) where
  pub key-copied : k.value ≡ None → ys ≡ put xs at (key_bytes k bs)
  unfolding key_bytes value_bytes
  key-copied h = rw (h, append-nil) e

  pub value-copied : (v : Bytes) (zs : List ℕ) → k.value ≡ Some v → k.key_at + k.key_len ≤ length bs → at ≤ length xs → zs ≡ put ys (at + k.key_len) (part v.at v.len bs) → zs ≡ put xs at (key_bytes k bs)
  unfolding key_bytes value_bytes
  value-copied v zs h w l f =
      let q = put-append xs at (part k.key_at k.key_len bs) (part v.at v.len bs) l in
      let m = length_part k.key_at k.key_len bs w in
      rw (h, q, m, ← e) f

-- the same where they move down within one list
module _ (k : KeyValue) (to : ℕ) (xs ys : List ℕ) (e : ys ≡ put xs to (part k.key_at k.key_len xs)) (w : k.key_at + k.key_len ≤ length xs) (l : to ≤ k.key_at) where
  pub value_stays : (a n : ℕ) → to + k.key_len ≤ a → part a n ys ≡ part a n xs
  value_stays a n h =
      let m = length_part k.key_at k.key_len xs w in
      rw e (part-put-after a n xs to (part k.key_at k.key_len xs) (omega arith) (omega arith))

  pub value-moved : (v : Bytes) (zs : List ℕ) → k.value ≡ Some v → to + k.key_len ≤ v.at → zs ≡ put ys (to + k.key_len) (part v.at v.len ys) → zs ≡ put xs to (key_bytes k xs)
  value-moved v zs h b f = value-copied k to xs xs ys e v zs h w (omega arith) (rw (value_stays v.at v.len b) at f)

-- ---- the places of an item lie at or behind where it was placed

behind-value : (v : Option Bytes) (b d : ℕ) → d ≤ b → ValueBehind (placed_value v b) d
behind-value None b d h = tt
behind-value (Some b') b d h = h

behind_key : (o : op.OpType) (k : KeyValue) (b d : ℕ) → d ≤ b → BytesBehind (content.TheVariants.Kv (placed_key o k b)) d
behind_key op.TheVariants.Put k b d h = (h, behind-value k.value (b + k.key_len) (d + k.key_len) (omega arith))
behind_key op.TheVariants.Del k b d h = (h, tt)

behind-content : (c : content.LogItemContent) (r b q d : ℕ) → q ≤ r → d ≤ b → Behind (placed_content c r b) q d
behind-content (content.TheVariants.EntryIndexes x) r b q d g h = record { rows = g; places = tt }
behind-content (content.TheVariants.Command c) r b q d g h = record { rows = tt; places = tt }
behind-content (content.TheVariants.Kv k) r b q d g h = record { rows = tt; places = behind_key k.op_type k b d h }

pub placed-behind : (it : LogItem) (r b q d : ℕ) → q ≤ r → d ≤ b → Behind (placed it r b).content q d
unfolding placed
placed-behind it r b q d g h = behind-content it.content r b q d g h

back-value : (v : Option Bytes) (b d : ℕ) → d ≤ b → ValueIn (λ a n. d ≤ a) (placed_value v b)
back-value None b d h = tt
back-value (Some b') b d h = h

back_key : (o : op.OpType) (k : KeyValue) (b : ℕ) (R : ℕ → ℕ → Type 0) → PlacesIn R (λ a n. b ≤ a) (content.TheVariants.Kv (placed_key o k b))
back_key op.TheVariants.Put k b R = (omega arith, back-value k.value (b + k.key_len) b (omega arith))
back_key op.TheVariants.Del k b R = (omega arith, tt)

back-content : (c : content.LogItemContent) (r b : ℕ) → PlacesIn (λ a n. r * 8 ≤ a) (λ a n. b ≤ a) (placed_content c r b)
back-content (content.TheVariants.EntryIndexes x) r b = omega arith
back-content (content.TheVariants.Command c) r b = tt
back-content (content.TheVariants.Kv k) r b = back_key k.op_type k b (λ a n. r * 8 ≤ a)

pub placed_back : (it : LogItem) (r b : ℕ) → PlacesIn (λ a n. r * 8 ≤ a) (λ a n. b ≤ a) (placed it r b).content
unfolding placed
placed_back it r b = back-content it.content r b
