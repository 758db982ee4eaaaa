-- The bytes so far are digits, and the number is their value.
use Rattle.std.proofs.Common.{◌≡◌, ◌<◌, ◌^◌, take}
use Rattle.std.specs.Str.Parse.{AllDigits, digits_value}
use Rattle.text.proofs.number_at.Given as goal

abbrev pub invariant-loop-i : goal.invariant-loop-i
invariant-loop-i l = AllDigits 10 (take l.i l.text) × (l.value ≡ digits_value 10 (take l.i l.text)) × (l.value < 2 ^ 64)
