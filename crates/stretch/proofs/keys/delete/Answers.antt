-- `stretch::keys::delete` meets its contract. Assumes nothing.
use Rattle.cells.specs.Part.{part}
use Rattle.stretch.specs.Stretch.{key_count, key_rows_at}
use Rattle.stretch.proofs.KeyWays.{deleting}
use Rattle.stretch.proofs.Reaches.{counted-keys-leave}
use Rattle.stretch.proofs.keys.delete.Goals as goal

pub returns : goal.returns
unfolding key_count key_rows_at part
returns c =
    record { changed_at = deleting _ c.args.p.now c.args.b.now _ _ c.requires c.delete-left.auto.rows c.delete-left.auto.bytes _ _ c.delete-left.ensures; p_unchanged = counted-keys-leave c.args.keys_at c.args.p.now c.delete-left.new.rows c.requires.numbers c.delete-left.auto.rows c.delete-left.result }
