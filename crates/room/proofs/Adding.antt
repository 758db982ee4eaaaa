-- A room in which an item is written behind the others, with its tag. Assumes nothing.
use mathlib.Core.List.{List}
use mathlib.Core.Path.{◌≡◌, refl, sym, ap, ◌∙◌}
use Prim.Native.Nat.{ℕ, ◌+◌, ◌*◌, ◌≤◌, ◌<◌}
use native.Mathlib.Omega.{arith}
use lib.ListN.{length, set}
use Rattle.cells.specs.Part.{part, put}
use Rattle.cells.specs.PartLaws.{length-put, part-put-after}
use Rattle.log_batch.specs.declared.item.LogItem.{LogItem}
use Rattle.log_batch.specs.Lent.{item_of}
use Rattle.stores.specs.declared.Store.{Store}
use Rattle.stores.specs.Written.{row_for, rows_of, bytes_of, count_of, Lent}
use Rattle.stores.specs.Stores.{Stored, one_more, Added}
use Rattle.stores.specs.CountLaws.{pushed-tagged}
use Rattle.stores.proofs.AddLaws.{written, added_by}
use Rattle.stores.proofs.AddLaws as stores
use Rattle.stores.proofs.WrittenLaws.{length-row, length-rows_of, length-bytes_of}
use Rattle.room.specs.Rooms.{Room, room, area_in}
use Rattle.room.specs.Layout as layout
use Rattle.room.specs.Layout.{numbers_of, room_of}
use Rattle.room.specs.LayoutLaws.{length-tags, length-items, length-entries}
use Rattle.room.specs.PlaceLaws.{set-tag, put-items, put_entries, put-bytes}
use Rattle.room.specs.Items.{AddedIn, MovedIn}

module _ (n : ℕ) (ws vs : List ℕ) (e : length ws ≡ numbers_of n) (f : length vs ≡ layout.bytes_of n) (s : Store) (it : LogItem) (es bs : List ℕ) (w : Stored s (area_in (room_of n ws vs))) (l : Lent it (length es) (length bs)) (items-fit : s.items < n * 8) (entries_fit : s.entries + count_of it.content ≤ n * 16) where
  abbrev began : Room
  began = room_of n ws vs

  -- the numbers with its row, and with its rows of entries; the bytes with its own
  abbrev rowed : List ℕ
  rowed = put ws (2 + n * 18 + s.items * 9) (row_for it s.entries (s.items * 64))

  abbrev listed : List ℕ
  listed = put rowed (2 + n * 90 + s.entries * 8) (rows_of it.content es)

  abbrev bytes : List ℕ
  bytes = put vs (s.items * 64) (bytes_of it.content bs)

  rowed-length : length rowed ≡ numbers_of n
  rowed-length = let k = length-row it s.entries (s.items * 64) in length-put ws _ _ (omega arith) ∙ e

  listed-length : length listed ≡ numbers_of n
  listed-length =
      let k = length-rows_of it.content es l.within.rows in
      let m = rowed-length in
      length-put rowed _ _ (omega arith) ∙ m

  bytes-length : length bytes ≡ layout.bytes_of n
  bytes-length = let k = length-bytes_of it.content bs l.within.places l.short in length-put vs _ _ (omega arith) ∙ f

  rowed-room : room_of n rowed bytes ≡ room began.heads began.tags (put began.items (s.items * 9) (row_for it s.entries (s.items * 64))) began.entries (put began.bytes (s.items * 64) (bytes_of it.content bs))
  rowed-room =
      let k = length-row it s.entries (s.items * 64) in
      put-items n ws bytes e (s.items * 9) (row_for it s.entries (s.items * 64)) (omega arith)
      ∙ ap (λ (q : Room). room q.heads q.tags (put q.items (s.items * 9) (row_for it s.entries (s.items * 64))) q.entries q.bytes)
      (put-bytes n ws vs (s.items * 64) (bytes_of it.content bs) f bytes-length)

  -- the room with both
  abbrev after : Room
  after = room began.heads began.tags (put began.items (s.items * 9) (row_for it s.entries (s.items * 64))) (put began.entries (s.entries * 8) (rows_of it.content es)) (put began.bytes (s.items * 64) (bytes_of it.content bs))

  listed-room : room_of n listed bytes ≡ after
  listed-room =
      let k = length-rows_of it.content es l.within.rows in
      put_entries n rowed bytes rowed-length (s.entries * 8) (rows_of it.content es) (omega arith)
      ∙ ap (λ (q : Room). room q.heads q.tags q.items (put q.entries (s.entries * 8) (rows_of it.content es)) q.bytes) rowed-room

  has_room_lem : stores.Room (count_of it.content) s (length began.items) (length began.entries)
  has_room_lem =
      let p = length-items n ws vs e f in
      let q = length-entries n ws vs e f in
      record { rows = omega arith; lists = omega arith }

  written_in : (t : Store) → t ≡ one_more (count_of it.content) s → Added s (area_in began) (item_of it es bs) t (area_in after)
  written_in t c = added_by s (area_in began) it es bs w l has_room_lem t (area_in after) c refl

  entries_stay : part (2 + n * 90) (n * 128) rowed ≡ began.entries
  unfolding room_of
  entries_stay = let k = length-row it s.entries (s.items * 64) in part-put-after (2 + n * 90) (n * 128) ws _ _ (omega arith) (omega arith)

  module _ (ws₁ ws₂ vs₁ : List ℕ) (end : ℕ) (p : ws₁ ≡ rowed) (q : vs₁ ≡ bytes) (c : end ≡ s.entries + count_of it.content) where
    abbrev more : Store
    more = record { items = s.items + 1; entries = end }

    more-is : more ≡ one_more (count_of it.content) s
    more-is = rw c

    -- with its tag
    pub added-in : (tag : ℕ) → ws₂ ≡ put ws₁ (2 + n * 90 + s.entries * 8) (rows_of it.content es) → AddedIn s began tag (item_of it es bs) more (room_of n (set ws₂ (2 + n * 10 + s.items) tag) vs₁)
    added-in tag d =
        let k = length-tags n ws vs e f in
        let is : room_of n (set listed (2 + n * 10 + s.items) tag) bytes ≡ room after.heads (set after.tags s.items tag) after.items after.entries after.bytes = set-tag n listed bytes listed-length s.items tag items-fit ∙ ap (λ (r : Room). room r.heads (set r.tags s.items tag) r.items r.entries r.bytes) listed-room in
        let d' : ws₂ ≡ listed = d ∙ ap (λ (l : List ℕ). put l (2 + n * 90 + s.entries * 8) (rows_of it.content es)) p in
        let a = written_in more more-is in
        rw (d', q, is)
        (record {
          added = record { added = a; tags = refl; items = pushed-tagged s (area_in began) (item_of it es bs) more (area_in after) began.tags tag w (omega arith) a };
          heads = refl;
        })

    -- an item of the room itself: its rows of entries stay where its row is written
    pub moved_in : es ≡ began.entries → ws₂ ≡ put ws₁ (2 + n * 90 + s.entries * 8) (rows_of it.content (part (2 + n * 90) (n * 128) ws₁)) → MovedIn s began (item_of it es bs) more (room_of n ws₂ vs₁)
    moved_in x d =
        let same : part (2 + n * 90) (n * 128) ws₁ ≡ es = rw p (entries_stay) ∙ sym x in
        let d' : ws₂ ≡ listed = d ∙ ap (λ (l : List ℕ). put ws₁ (2 + n * 90 + s.entries * 8) (rows_of it.content l)) same ∙ ap (λ (l : List ℕ). put l (2 + n * 90 + s.entries * 8) (rows_of it.content es)) p in
        rw (d', q, listed-room) (record { added = written_in more more-is; tags = refl; heads = refl })
