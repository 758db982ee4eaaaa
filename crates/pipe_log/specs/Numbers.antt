-- What enums stand for. In lists of numbers their cases are the numbers of the Rust's `repr(u8)`.
use Rattle.std.specs.Prelude.{ℕ}
use Rattle.pipe_log.specs.declared.LogQueue.{LogQueue}
use Rattle.pipe_log.specs.declared.LogQueue.TheVariants.{Append, Rewrite}
use Rattle.pipe_log.specs.declared.CompressionType.{CompressionType}
use Rattle.pipe_log.specs.declared.CompressionType.TheVariants.{None, Lz4}

abbrev pub queue_number : LogQueue → ℕ
queue_number Append = 0
queue_number Rewrite = 1

abbrev pub compression_number : CompressionType → ℕ
compression_number None = 0
compression_number Lz4 = 1
