-- The order of files by freshness.
use Rattle.std.specs.Ordering.{nat_cmp, on, flip_args, then_cmp}
use Rattle.std.specs.declared.cmp.Ordering.{Ordering}
use Rattle.pipe_log.specs.declared.FileId.{FileId}
use Rattle.pipe_log.specs.Numbers.{queue_number}

-- an Append file is fresher than a Rewrite file, and within a queue the order is by sequence number
abbrev pub freshness : FileId → FileId → Ordering
freshness = then_cmp (flip_args (on (λ f. queue_number f.queue) nat_cmp)) (on (λ f. f.seq) nat_cmp)
