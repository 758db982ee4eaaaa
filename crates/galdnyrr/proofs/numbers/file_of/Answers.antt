-- `galdnyrr::numbers::file_of` meets its contract. Assumes nothing.
use mathlib.Core.Path.{ap}
use Rattle.galdnyrr.specs.Told.{file_of}
use Rattle.galdnyrr.proofs.numbers.file_of.Goals as goal

pub returns : goal.returns
unfolding file_of
returns c = ap (λ q. record { queue = q; seq = c.args.seq }) c.from.ensures
