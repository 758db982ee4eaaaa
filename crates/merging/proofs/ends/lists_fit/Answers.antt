-- `merging::ends::lists_fit` meets its contract. Assumes nothing.
use Rattle.merging.proofs.EndWays.{counts-are}
use Rattle.merging.proofs.ends.lists_fit.Goals as goal

pub counts_fit-requires : goal.counts_fit-requires
counts_fit-requires c =
    (rw (counts-are c.args.xs.now _ c.counts_in-older.ensures.0 c.counts_in-older.ensures.1) c.requires.few.0, rw (counts-are c.args.ys.now _ c.counts_in-newer.ensures.0 c.counts_in-newer.ensures.1) c.requires.few.1)

pub returns : goal.returns
returns c = rw (← counts-are c.args.xs.now _ c.counts_in-older.ensures.0 c.counts_in-older.ensures.1, ← counts-are c.args.ys.now _ c.counts_in-newer.ensures.0 c.counts_in-newer.ensures.1) c.counts_fit.ensures
