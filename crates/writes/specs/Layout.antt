-- The layout of an area in one place: where each part begins in its numbers and in its bytes, and that the parts lie one behind the
-- other up to the area's lengths. Each part's own layout is with the crate that reads it.
use Rattle.std.specs.Prelude.{◌≡◌, refl, ℕ, ◌+◌, ◌*◌, ◌≤◌}
use Rattle.std.proofs.Common.{arith}
use Rattle.stretch.specs.Layout.{stretch_width, bytes_width}
use Rattle.groups.specs.Area.{slots, numbers_in_use, bytes_in_use}
use Rattle.lists.specs.Rest.{list_numbers, list_bytes, rest_numbers, rest_bytes}
use Rattle.room.specs.Layout.{context_cells, numbers_of, bytes_of}
use Rattle.contexts.specs.Contexts.{area_numbers, area_bytes}

-- ---- numbers: eight stretches, eight spare ones, the lists, the waiting parts, a merge's long stretch

abbrev pub spares_at : ℕ
spares_at = 4688

abbrev pub lists_at : ℕ
lists_at = 9376

abbrev pub waiting_at : ℕ
waiting_at = 10019

abbrev pub long_stretch_at : ℕ
long_stretch_at = 13509

-- ---- bytes, in the same order

abbrev pub spare_bytes_at : ℕ
spare_bytes_at = 8192

abbrev pub list_bytes_at : ℕ
list_bytes_at = 16384

abbrev pub waiting_bytes_at : ℕ
waiting_bytes_at = 20480

abbrev pub long_stretch_bytes_at : ℕ
long_stretch_bytes_at = 28672

-- the long stretch has a header, 384 rows of entries and 160 of keys
abbrev pub long_numbers : ℕ
long_numbers = 10 + 384 * 8 + 160 * 4

abbrev pub long_bytes : ℕ
long_bytes = 160 * 64

-- the parts lie one behind the other
pub record Parts : Type 0 where
  pub spares : spares_at ≡ slots * stretch_width
  pub lists : lists_at ≡ spares_at + slots * stretch_width
  pub lists-behind : lists_at ≡ numbers_in_use
  pub waiting : waiting_at ≡ lists_at + list_numbers
  pub long-stretch : long_stretch_at ≡ waiting_at + numbers_of context_cells
  pub all : area_numbers ≡ long_stretch_at + long_numbers
  pub rest : area_numbers ≡ numbers_in_use + rest_numbers
  pub spare-bytes : spare_bytes_at ≡ slots * bytes_width
  pub list-bytes : list_bytes_at ≡ spare_bytes_at + slots * bytes_width
  pub list-bytes-behind : list_bytes_at ≡ bytes_in_use
  pub waiting-bytes : waiting_bytes_at ≡ list_bytes_at + list_bytes
  pub long-stretch-bytes : long_stretch_bytes_at ≡ waiting_bytes_at + bytes_of context_cells
  pub all-bytes : area_bytes ≡ long_stretch_bytes_at + long_bytes
  pub rest-bytes : area_bytes ≡ bytes_in_use + rest_bytes
  -- within 192 KiB
  pub small : area_numbers * 8 + area_bytes ≤ 192 * 1024

pub parts : Parts
parts =
    record {
      spares = refl;
      lists = refl;
      lists-behind = refl;
      waiting = refl;
      long-stretch = refl;
      all = refl;
      rest = refl;
      spare-bytes = refl;
      list-bytes = refl;
      list-bytes-behind = refl;
      waiting-bytes = refl;
      long-stretch-bytes = refl;
      all-bytes = refl;
      rest-bytes = refl;
      small = omega arith;
    }
