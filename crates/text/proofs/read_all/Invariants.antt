-- The lines so far are well formed, and the numbers so far are theirs.
use Rattle.std.proofs.Common.{◌≡◌, All, flat_map, map}
use Rattle.text.specs.Decimals.{IsWellFormed, numbers_told}
use Rattle.text.proofs.read_all.Given as goal

abbrev pub invariant-loop-line : goal.invariant-loop-line
invariant-loop-line l = record {
  lines : All IsWellFormed (map (λ w. w.now) l.yielded);
  numbers : l.numbers.items ≡ flat_map numbers_told (map (λ w. w.now) l.yielded);
}
