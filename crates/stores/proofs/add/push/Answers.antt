-- `stores::add::push` meets its contract. Assumes nothing.
use Rattle.stores.specs.StoreLaws.{entries-count}
use mathlib.Core.Path.{refl, sym, ◌∙◌}
use Rattle.stores.proofs.add.push.Goals as goal

pub returns-then-not-has_room : goal.returns-then-not-has_room
returns-then-not-has_room c =
    let its = c.args.item in
    let e = entries-count its c.args.its_entries.now c.args.its_bytes.now in
    (rw e (sym c.has_room.ensures ∙ c.if-not-has_room.true), refl)
