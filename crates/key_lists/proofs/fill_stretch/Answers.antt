-- `key_lists::fill_stretch` meets its contract. Assumes nothing.
use native.Mathlib.Omega.{arith}
use Rattle.key_lists.proofs.Answers.{stretch-short, stretch-full}
use Rattle.key_lists.proofs.fill_stretch.Goals as goal

pub returns-then-lens-limit : goal.returns-then-lens-limit
returns-then-lens-limit c =
    stretch-short c.args.keys.now c.args.low c.args.high c.args.backwards c.args.count c.min-limit.result c.requires.0 c.requires.1 (omega arith) _ _ (omega arith)

pub returns : goal.returns
returns c =
    stretch-full c.args.keys.now c.args.low c.args.high c.args.backwards c.args.count c.min-limit.result c.requires.0 c.requires.1 (omega arith) _ _ _ _ (omega arith) c.copy_stretch.ensures.lens_after c.copy_stretch.ensures.out_after
