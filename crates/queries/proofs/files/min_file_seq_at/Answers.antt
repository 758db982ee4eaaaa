-- `queries::files::min_file_seq_at` meets its contract. Assumes nothing.
use Rattle.groups.specs.Area.{stretch_at, bytes_at}
-- `queries::files::min_file_seq_at` meets its contract. Assumes nothing.
use Rattle.queries.proofs.Ways.{min-there, min-fits}
use Rattle.queries.proofs.files.min_file_seq_at.Goals as goal

pub min_file_seq-requires : goal.min_file_seq-requires
min_file_seq-requires c = min-fits (stretch_at c.args.k c.args.xs.now) (bytes_at c.args.k c.args.bs.now) c.head_at-head.ensures c.entry_rows-entries.ensures c.key_count_at-n.ensures c.key_rows-rows.ensures c.requires.wf

pub returns : goal.returns
returns c =
    min-there (stretch_at c.args.k c.args.xs.now) (bytes_at c.args.k c.args.bs.now) c.head_at-head.ensures c.entry_rows-entries.ensures c.key_count_at-n.ensures c.key_rows-rows.ensures c.requires.wf _ c.min_file_seq.result c.min_file_seq.ensures
