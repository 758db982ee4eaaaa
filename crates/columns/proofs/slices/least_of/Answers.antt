-- `columns::slices::least_of` meets its contract. Assumes nothing.
use mathlib.Core.Path.{◌≡◌}
use Rattle.columns.specs.Slices.{least_of}
use Rattle.columns.specs.SliceLaws.{least-is}
use Rattle.columns.proofs.slices.least_of.Goals as goal

pub returns : goal.returns
unfolding least_of
returns c = let e : c.min-5.result ≡ least_of c.args.a c.args.b c.args.c c.args.d c.args.e c.args.f c.args.g c.args.h = cc in rw e (least-is _ _ _ _ _ _ _ _)
