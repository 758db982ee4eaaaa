-- The laws of a room in two slices: the lengths of its parts, and a room in which nothing waits. Assumes nothing.
use Rattle.std.specs.Prelude.{List, [], ◌≡◌, refl, ℕ, ◌+◌, ◌*◌, ◌/◌, ◌≤◌, ◌<◌, length, get_or}
use Rattle.std.proofs.Common.{◌∙◌, arith}
use Rattle.cells.specs.Part.{part}
use Rattle.cells.specs.PartLaws.{length_part, get_or-part}
use Rattle.maps.specs.Lists.{select, sum}
use Rattle.maps.specs.Cells.{map_of, Distinct}
use Rattle.maps.proofs.CellLaws.{all-free}
use Rattle.stores.specs.declared.Store.{Store}
use Rattle.stores.specs.StoreLaws.{stored-none, none-stored}
use Rattle.stores.specs.Tags.{tagged, store_tagged, items_with}
use Rattle.room.specs.Rooms.{Room, area_in, items_in, head_at, count_in, cell_count, cells_of, waiting_in, waiting_items, waiting_entries, Counted, CellWf, Wf}
use Rattle.room.specs.Layout.{numbers_of, bytes_of, store_of, room_of, Empty}
use Rattle.room.specs.RoomLaws.{length-cells, get_or-cells, free-cell, count_at}

-- ---- a room in which nothing waits

abbrev empty_items : Store
empty_items = record { items = 0; entries = 0 }

module _ (r : Room) where
  no_items : items_in empty_items r ≡ []
  unfolding items_in store_tagged tagged
  no_items = rw (none-stored (area_in r))

no_item : (t : ℕ) → items_with t [] ≡ []
unfolding items_with select
no_item t = refl

no_part : (k : ℕ) (h : List ℕ) → count_in h ≡ 0 → CellWf k h []
unfolding CellWf Counted
no_part k h e = rw e (record { free = λ t u. no_item t })

nothing-waits : (waiting_items [] ≡ 0) × (waiting_entries [] ≡ 0)
unfolding waiting_items waiting_entries sum
nothing-waits = (refl, refl)

module _ (r : Room) (e : cell_count r.heads * 10 ≡ length r.heads) (f : length r.tags ≡ length r.items / 9) (b : length r.items / 9 * 64 ≤ length r.bytes) (z : (k : ℕ) → k < cell_count r.heads → count_in (head_at k r.heads) ≡ 0) where
  all-cells-free : (map_of (cells_of r.heads []) ≡ []) × Distinct (cells_of r.heads [])
  all-cells-free =
      let n = length-cells r.heads [] in
      all-free (cells_of r.heads []) (λ k l. let l' : k < cell_count r.heads = omega (arith, n) in get_or-cells k r.heads [] l' ∙ free-cell (head_at k r.heads) [] (z k l'))

  pub none-wait : waiting_in empty_items r ≡ []
  unfolding waiting_in
  none-wait = rw (no_items r) all-cells-free.0

  pub none_wf : Wf empty_items r
  none_wf =
      record {
        heads-are = e;
        tags-are = f;
        stored = stored-none (area_in r) b;
        cells = λ k l. rw (no_items r) (no_part k (head_at k r.heads) (z k l));
        distinct = rw (no_items r) all-cells-free.1;
        all-items = rw none-wait nothing-waits.0;
        all-entries = rw none-wait nothing-waits.1;
      }

-- ---- a room in two slices

pub store_is : (ws : List ℕ) (n m : ℕ) → get_or ws 0 0 ≡ n → get_or ws 1 0 ≡ m → store_of ws ≡ record { items = n; entries = m }
unfolding store_of
store_is ws n m e f = rw (e, f)

module _ (n : ℕ) (ws vs : List ℕ) (e : length ws ≡ numbers_of n) (f : length vs ≡ bytes_of n) where
  pub length-heads : length (room_of n ws vs).heads ≡ n * 10
  unfolding room_of
  length-heads = length_part 2 (n * 10) ws (omega arith)

  pub length-tags : length (room_of n ws vs).tags ≡ n * 8
  unfolding room_of
  length-tags = length_part (2 + n * 10) (n * 8) ws (omega arith)

  pub length-items : length (room_of n ws vs).items ≡ n * 72
  unfolding room_of
  length-items = length_part (2 + n * 18) (n * 72) ws (omega arith)

  pub length-entries : length (room_of n ws vs).entries ≡ n * 128
  unfolding room_of
  length-entries = length_part (2 + n * 90) (n * 128) ws (omega arith)

  pub length-bytes : length (room_of n ws vs).bytes ≡ n * 512
  unfolding room_of
  length-bytes = length_part 0 (n * 512) vs (omega arith)

  -- there are n cells
  pub cell-count : cell_count (room_of n ws vs).heads ≡ n
  cell-count = let l = length-heads in omega arith

  -- where the number of parts of cell k stands
  pub count-in : (k : ℕ) → k < n → count_in (head_at k (room_of n ws vs).heads) ≡ get_or ws (2 + k * 10) 0
  unfolding room_of
  count-in k l = count_at k (part 2 (n * 10) ws) ∙ get_or-part 2 (n * 10) ws (k * 10) 0 (omega arith)

  -- counts and cells are cleared
  pub empty-room : get_or ws 0 0 ≡ 0 → get_or ws 1 0 ≡ 0 → ((k : ℕ) → k < n → get_or ws (2 + k * 10) 0 ≡ 0) → Empty n ws vs
  empty-room p q z =
      let r = room_of n ws vs in
      let h = length-heads in
      let t = length-tags in
      let i = length-items in
      let b = length-bytes in
      let c = cell-count in
      let s : store_of ws ≡ empty_items = store_is ws 0 0 p q in
      let x : cell_count r.heads * 10 ≡ length r.heads = omega arith in
      let y : length r.tags ≡ length r.items / 9 = omega arith in
      let u : length r.items / 9 * 64 ≤ length r.bytes = omega arith in
      let v : (k : ℕ) → k < cell_count r.heads → count_in (head_at k r.heads) ≡ 0 = λ k l. let l' : k < n = omega arith in count-in k l' ∙ z k l' in
      record {
        waiting = rw s (none-wait r x y u v);
        wf = record { numbers-are = e; bytes-are = f; wf = rw s (none_wf r x y u v) };
      }
