-- `batches::singles::has_bytes` meets its contract. Assumes nothing.
use mathlib.Core.Path.{sym}
use Prim.Native.Nat.{◌+◌}
use native.Mathlib.Omega.{arith}
use lib.Dec.{leb}
use lib.ListN.{length}
use borrow.Author.Tests.{lt-leb, le-leb}
use Rattle.maps.specs.BoolLaws.{and-false}
use Rattle.log_batch.proofs.PlaceLaws.{leb-after}
use Rattle.batches.proofs.singles.has_bytes.Goals as goal

pub returns-then-len-gt-MAX_BYTES : goal.returns-then-len-gt-MAX_BYTES
returns-then-len-gt-MAX_BYTES c = rw (lt-leb c.args.len 32 c.if-len-gt-MAX_BYTES.true)

pub returns-then-end-at : goal.returns-then-end-at
returns-then-end-at c = rw (lt-leb (c.args.at + c.args.len) (length c.args.bytes.now) (omega arith)) (sym (and-false (leb c.args.len 32)))

pub returns : goal.returns
returns c = rw (le-leb c.args.len 32 c.if-len-gt-MAX_BYTES.false) (leb-after _ _ _ c.if-end-at.false)
