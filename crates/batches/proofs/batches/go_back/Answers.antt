-- `batches::batches::go_back` meets its contract. Assumes nothing.
use borrow.Author.Rules.{part_to_end}
use Rattle.batches.proofs.BatchWays.{went_back}
use Rattle.batches.proofs.batches.go_back.Goals as goal

pub cut-requires : goal.cut-requires
cut-requires c = rw (part_to_end c.undo.new.xs 9376, c.undo.ensures.behind) c.requires.formed.rest.numbers-are

pub returns : goal.returns
returns c = went_back _ _ c.args.xs.now c.args.bs.now c.undo.new.xs c.undo.new.bs c.cut.new.ys c.requires.formed c.requires.wf c.undo.ensures c.cut.ensures
