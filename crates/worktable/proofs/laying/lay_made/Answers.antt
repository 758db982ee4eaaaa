-- `worktable::laying::lay_made` meets its contract. Assumes nothing.
use Rattle.worktable.specs.LayLaws.{layable-made}
use Rattle.worktable.proofs.laying.lay_made.Goals as goal

pub lay_table-requires : goal.lay_table-requires
lay_table-requires c = rw (c.provide.ensures c.args.b.now c.requires.wf).table (record { stands = (c.provide.ensures c.args.b.now c.requires.wf); wf = c.requires.wf_2; layable = layable-made _ _ _ c.requires.layable })
