-- The words so far are numbers, and their values stand behind what the list had.
use Rattle.std.proofs.Common.{◌≡◌, ◌++◌, All, map}
use Rattle.std.specs.Str.Parse.{digits_value}
use Rattle.text.specs.Decimals.{IsNumber}
use Rattle.text.proofs.add_numbers.Given as goal

abbrev pub invariant-loop-word : goal.invariant-loop-word
invariant-loop-word l = record {
  words : All IsNumber (map (λ w. w.now) l.yielded);
  numbers : l.numbers.items ≡ l.initial.numbers.items ++ map (digits_value 10) (map (λ w. w.now) l.yielded);
}
