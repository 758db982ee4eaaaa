-- What a group's number is mixed to, and the slot that it falls into.
use Rattle.std.specs.Prelude.{◌≡◌, refl, ℕ, ◌*◌, ◌/◌, ◌%◌, ◌^◌, ◌<◌}
use Rattle.std.specs.Int.Bits.{bit_xor}

-- the numbers of splitmix64.c

abbrev pub first-shift : ℕ
first-shift = 30

abbrev pub first_factor : ℕ
first_factor = 0xbf58_476d_1ce4_e5b9

abbrev pub second-shift : ℕ
second-shift = 27

abbrev pub second_factor : ℕ
second_factor = 0x94d0_49bb_1331_11eb

abbrev pub third-shift : ℕ
third-shift = 31

-- z ^ (z >> k)
abbrev pub folded : ℕ → ℕ → ℕ
folded k z = bit_xor z (z / 2 ^ k)

-- (z ^ (z >> k)) * m, modulo 2 ^ 64
abbrev pub round : ℕ → ℕ → ℕ → ℕ
round k m z = folded k z * m % 2 ^ 64

-- 01's mixing of group numbers: splitmix64.c without its first addition
unfoldable pub mixed : ℕ → ℕ
mixed z = folded third-shift (round second-shift second_factor (round first-shift first_factor z))

abbrev pub slot-count : ℕ
slot-count = 128

-- the slot of a group: the remainder of its mixed number
unfoldable pub slot_of : ℕ → ℕ
slot_of g = mixed g % slot-count

-- what slot_index answers
pub record SlotIndex (g r : ℕ) : Type 0 where
  pub slot : r ≡ slot_of g
  pub below : r < slot-count

-- case 1 of 01: group number 0 mixes to 0, slot 0 of 128
pub record Case1 : Type 0 where
  pub mixes : mixed 0 ≡ 0
  pub slot : slot_of 0 ≡ 0

pub case-1 : Case1
unfolding mixed slot_of
case-1 = record { mixes = refl; slot = refl }
