-- `writes::writes::write` meets its contract. Assumes nothing.
use mathlib.Core.Path.{sym}
use Rattle.writes.proofs.WriteWays.{list_written}
use Rattle.writes.proofs.writes.write.Goals as goal

pub write_list-requires : goal.write_list-requires
write_list-requires c = record { formed = c.requires.formed; single_list = c.is_single_list.ensures c.args.call c.args.batch.now.bytes.now (sym c.writes.ensures) c.if-is_single_list.true; keeping = c.requires.keeping }

pub returns-then-is_single_list : goal.returns-then-is_single_list
returns-then-is_single_list c =
    let b = c.args.batch.now in
    let single = c.is_single_list.ensures c.args.call b.bytes.now (sym c.writes.ensures) c.if-is_single_list.true in
    list_written c.args.call c.args.seq b.items.now b.entries.now b.bytes.now c.args.xs.now c.args.bs.now _ _ _ single c.write_list.ensures
