-- An item of a room is opened as one of its parts. Assumes nothing.
use Rattle.log_batch.specs.Lent.{Opened}
use mathlib.Core.List.{List}
use mathlib.Core.Path.{◌≡◌}
use Prim.Native.Nat.{ℕ, ◌+◌, ◌-◌, ◌*◌, ◌/◌}
use native.Mathlib.Omega.{arith}
use lib.ListN.{length, take, drop}
use Rattle.log_batch.specs.Lent.{opened_row, OpenedWithin}
use Rattle.room.specs.Layout.{numbers_of, bytes_of, room_of}
use Rattle.room.specs.PlaceLaws.{bytes-are}
use Rattle.room.specs.Items.{OpenedIn}
use Rattle.room.proofs.Loans.{lent_is}

module _ (n : ℕ) (ws vs : List ℕ) (e : length ws ≡ numbers_of n) (f : length vs ≡ bytes_of n) where
  lent-items : take (2 + n * 18 + n * 72 - (2 + n * 18)) (drop (2 + n * 18) ws) ≡ (room_of n ws vs).items
  unfolding room_of
  lent-items = lent_is (2 + n * 18) (n * 72) ws (omega arith)

  pub lent-entries : take (2 + n * 90 + n * 128 - (2 + n * 90)) (drop (2 + n * 90) ws) ≡ (room_of n ws vs).entries
  unfolding room_of
  lent-entries = lent_is (2 + n * 90) (n * 128) ws (omega arith)

  pub opened_in : (j : ℕ) (o : Opened) → o ≡ opened_row (drop (j * 9) (take (2 + n * 18 + n * 72 - (2 + n * 18)) (drop (2 + n * 18) ws))) (length (take (2 + n * 90 + n * 128 - (2 + n * 90)) (drop (2 + n * 90) ws)) / 8) (length vs) → OpenedWithin o (length (take (2 + n * 90 + n * 128 - (2 + n * 90)) (drop (2 + n * 90) ws))) (length vs) → OpenedIn (room_of n ws vs) j o
  opened_in j o p q =
      let b = bytes-are n ws vs f in
      record { opens = rw (b) (rw (lent-items, lent-entries) at p); within = rw b (rw lent-entries at q) }
