-- The limits of what waits, by its counts. Assumes nothing.
use Rattle.std.specs.Prelude.{true, ◌&&◌, List, ◌≡◌, refl, ℕ, ◌≤◌, leb, length}
use Rattle.std.proofs.Common.{sym, ◌∙◌, arith, leb-true, le-leb}
use Rattle.maps.specs.BoolLaws.{both_left, both_right}
use Rattle.maps.specs.Maps.{Map}
use Rattle.rules.specs.Context.{Part, waiting_fits}
use Rattle.room.specs.Rooms.{item_count, entry_count, waiting_items, waiting_entries}
use Rattle.room.specs.Layout.{store_of, waiting_of, ContextRoom}

-- the limits by the three counts
pub fits_by : (w : Map ℕ (List Part)) → waiting_fits w ≡ (leb (length w) 8 && leb (waiting_items w) 64 && leb (waiting_entries w) 128)
unfolding waiting_fits waiting_items waiting_entries item_count entry_count
fits_by w = refl

pub record Few (w : Map ℕ (List Part)) : Type 0 where
  pub groups : length w ≤ 8
  pub items : waiting_items w ≤ 64
  pub entries : waiting_entries w ≤ 128

pub fits-few : (w : Map ℕ (List Part)) → waiting_fits w ≡ true → Few w
fits-few w e =
    let f = sym (fits_by w) ∙ e in
    let g = both_left (leb (length w) 8 && leb (waiting_items w) 64) (leb (waiting_entries w) 128) f in
    record {
      groups = leb-true (length w) 8 (both_left (leb (length w) 8) (leb (waiting_items w) 64) g);
      items = leb-true (waiting_items w) 64 (both_right (leb (length w) 8) (leb (waiting_items w) 64) g);
      entries = leb-true (waiting_entries w) 128 (both_right (leb (length w) 8 && leb (waiting_items w) 64) (leb (waiting_entries w) 128) f);
    }

pub few-fits : (w : Map ℕ (List Part)) → Few w → waiting_fits w ≡ true
few-fits w f = fits_by w ∙ rw (le-leb (length w) 8 f.groups, le-leb (waiting_items w) 64 f.items, le-leb (waiting_entries w) 128 f.entries)

-- the counts of a context's room
pub room-few : (ws vs : List ℕ) → ContextRoom ws vs → ((store_of ws).items ≤ 64) × ((store_of ws).entries ≤ 128)
unfolding waiting_of
room-few ws vs r =
    let f = fits-few (waiting_of ws vs) r.fits in
    let a = f.items in
    let b = f.entries in
    let c = r.room.wf.all-items in
    let d = r.room.wf.all-entries in
    (omega arith, omega arith)
