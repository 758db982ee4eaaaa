-- `merging::waits::rest_fits` meets its contract. Assumes nothing.
use mathlib.Core.Path.{sym, ◌∙◌}
use native.Mathlib.Omega.{arith}
use Rattle.contexts.specs.AreaLaws.{formed_of, area-length}
use Rattle.merging.proofs.EndWays.{few-counts}
use Rattle.merging.proofs.WaitWays.{listed, room-tells}
use Rattle.merging.proofs.waits.rest_fits.Goals as goal

pub lists_fit-requires : goal.lists_fit-requires
lists_fit-requires c =
    let older = c.requires.wf in
    let newer = c.requires.wf_2 in
    record { few = (few-counts _ _ older, few-counts _ _ newer); xs_len = (area-length _ _ (formed_of _ _ older), area-length _ _ (formed_of _ _ newer)) }

pub overflow_add-listed : goal.overflow_add-listed
overflow_add-listed c =
    let older = few-counts _ _ c.requires.wf in
    let newer = few-counts _ _ c.requires.wf_2 in
    omega (arith, listed c.args.xs.now c.args.ys.now, older.tombstones, newer.tombstones)

pub overflow_add-listed-2 : goal.overflow_add-listed-2
overflow_add-listed-2 c =
    let older = few-counts _ _ c.requires.wf in
    let newer = few-counts _ _ c.requires.wf_2 in
    omega (arith, listed c.args.xs.now c.args.ys.now, older.tombstones, newer.tombstones, c.count_finished.ensures.upper_bound)

pub returns : goal.returns
returns c =
    λ vs q. c.room_fits.ensures vs q ∙ room-tells c.args.xs.now c.args.bs.now c.args.ys.now c.args.cs.now c.requires.wf c.requires.wf_2 _ (sym c.lists_fit.ensures ∙ c.if-not-lists_fit.false) (rw c.count_finished.ensures.value at c.if-listed-count_finished-gt-MAX_TOMBSTONES.false)
