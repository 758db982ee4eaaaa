-- The laws of a room in two slices: what is written at a place of one part leaves the other parts. Assumes nothing.
use Rattle.std.specs.Prelude.{List, ◌≡◌, ℕ, ◌+◌, ◌*◌, ◌≤◌, ◌<◌, length, set}
use Rattle.std.proofs.Common.{arith}
use Rattle.cells.specs.Part.{put}
use Rattle.cells.specs.PartLaws.{part_all, part-put-before, part-put-after, part-put-around, part-set-in, part-set-before, part-set-after}
use Rattle.room.specs.Rooms.{Room, room}
use Rattle.room.specs.Layout.{numbers_of, bytes_of, room_of}

module _ (n : ℕ) (ws vs : List ℕ) (e : length ws ≡ numbers_of n) where
  abbrev it : Room
  it = room_of n ws vs

  pub put-head : (i : ℕ) (s : List ℕ) → i + length s ≤ n * 10 → room_of n (put ws (2 + i) s) vs ≡ room (put it.heads i s) it.tags it.items it.entries it.bytes
  unfolding room_of
  put-head i s h =
      rw (part-put-around 2 (n * 10) ws i s h (omega arith), part-put-after (2 + n * 10) (n * 8) ws (2 + i) s (omega arith) (omega arith), part-put-after (2 + n * 18) (n * 72) ws (2 + i) s (omega arith) (omega arith), part-put-after (2 + n * 90) (n * 128) ws (2 + i) s (omega arith) (omega arith))

  pub set-tag : (i t : ℕ) → i < n * 8 → room_of n (set ws (2 + n * 10 + i) t) vs ≡ room it.heads (set it.tags i t) it.items it.entries it.bytes
  unfolding room_of
  set-tag i t h =
      rw (part-set-after 2 (n * 10) ws (2 + n * 10 + i) t (omega arith), part-set-in (2 + n * 10) (n * 8) ws i t h, part-set-before (2 + n * 18) (n * 72) ws (2 + n * 10 + i) t (omega arith), part-set-before (2 + n * 90) (n * 128) ws (2 + n * 10 + i) t (omega arith))

  pub put-items : (i : ℕ) (s : List ℕ) → i + length s ≤ n * 72 → room_of n (put ws (2 + n * 18 + i) s) vs ≡ room it.heads it.tags (put it.items i s) it.entries it.bytes
  unfolding room_of
  put-items i s h =
      rw (part-put-before 2 (n * 10) ws (2 + n * 18 + i) s (omega arith) (omega arith), part-put-before (2 + n * 10) (n * 8) ws (2 + n * 18 + i) s (omega arith) (omega arith), part-put-around (2 + n * 18) (n * 72) ws i s h (omega arith), part-put-after (2 + n * 90) (n * 128) ws (2 + n * 18 + i) s (omega arith) (omega arith))

  pub put_entries : (i : ℕ) (s : List ℕ) → i + length s ≤ n * 128 → room_of n (put ws (2 + n * 90 + i) s) vs ≡ room it.heads it.tags it.items (put it.entries i s) it.bytes
  unfolding room_of
  put_entries i s h =
      rw (part-put-before 2 (n * 10) ws (2 + n * 90 + i) s (omega arith) (omega arith), part-put-before (2 + n * 10) (n * 8) ws (2 + n * 90 + i) s (omega arith) (omega arith), part-put-before (2 + n * 18) (n * 72) ws (2 + n * 90 + i) s (omega arith) (omega arith), part-put-around (2 + n * 90) (n * 128) ws i s h (omega arith))

-- the bytes are all of the byte slice
pub bytes-are : (n : ℕ) (ws vs : List ℕ) → length vs ≡ bytes_of n → (room_of n ws vs).bytes ≡ vs
unfolding room_of
bytes-are n ws vs f = part_all (n * 512) vs f

pub put-bytes : (n : ℕ) (ws vs : List ℕ) (i : ℕ) (s : List ℕ) → length vs ≡ bytes_of n → length (put vs i s) ≡ bytes_of n → room_of n ws (put vs i s) ≡ room (room_of n ws vs).heads (room_of n ws vs).tags (room_of n ws vs).items (room_of n ws vs).entries (put (room_of n ws vs).bytes i s)
unfolding room_of
put-bytes n ws vs i s f g = rw (part_all (n * 512) vs f, part_all (n * 512) (put vs i s) g)
