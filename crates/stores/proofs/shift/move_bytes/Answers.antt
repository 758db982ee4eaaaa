-- `stores::shift::move_bytes` meets its contract. Assumes nothing.
use Rattle.stores.specs.Written.{bytes_of}
use Rattle.cells.specs.PartLaws.{put-nil}
use mathlib.Core.Path.{sym}
use mathlib.Core.Logic.{inl, inr}
use Rattle.stores.proofs.shift.move_bytes.Goals as goal

pub returns-in-EntryIndexes : goal.returns-in-EntryIndexes
unfolding bytes_of
returns-in-EntryIndexes c =
    elim c.in-EntryIndexes.is [ inl w ↦ rw w.1 (sym (put-nil _ _)) | inr w ↦ rw w.1 (sym (put-nil _ _)) ]
