-- `room::items::take_out` meets its contract: the items passed that have other tags stand at the front. Assumes nothing.
use Rattle.room.proofs.Taking.{taking-in-start, taking-in_movable, taking-in-places, taking-in-next, taking-in-end}
use Rattle.room.proofs.items.take_out.Goals as goal

pub loop-j-init : goal.loop-j-init
loop-j-init c = taking-in-start c.args.cells c.args.tag c.args.ws.now c.args.vs.now c.requires.ws_len.0 c.requires.ws_len.1 c.args.store c.requires.stored

pub keep_other-left-requires-clause-movable : goal.keep_other-left-requires-clause-movable
keep_other-left-requires-clause-movable c =
    taking-in_movable c.args.cells c.args.tag c.args.ws.now c.args.vs.now c.requires.ws_len.0 c.requires.ws_len.1 c.args.store c.requires.stored c.loop-j.j c.loop-j.left c.loop-j.ws c.loop-j.vs c.loop-j.invariant c.loop-j-test.true

pub keep_other-left-requires-clause-left_le_j : goal.keep_other-left-requires-clause-left_le_j
keep_other-left-requires-clause-left_le_j c =
    taking-in-places c.args.cells c.args.tag c.args.ws.now c.args.vs.now c.requires.ws_len.0 c.requires.ws_len.1 c.args.store c.requires.stored c.loop-j.j c.loop-j.left c.loop-j.ws c.loop-j.vs c.loop-j.invariant c.loop-j-test.true

pub loop-j-preserved : goal.loop-j-preserved
loop-j-preserved c =
    taking-in-next c.args.cells c.args.tag c.args.ws.now c.args.vs.now c.requires.ws_len.0 c.requires.ws_len.1 c.args.store c.requires.stored c.loop-j.j c.loop-j.left c.loop-j.ws c.loop-j.vs c.loop-j.invariant c.loop-j-test.true _ _ _ c.keep_other-left.auto.ws c.keep_other-left.auto.vs c.keep_other-left.ensures

pub returns : goal.returns
returns c =
    taking-in-end c.args.cells c.args.tag c.args.ws.now c.args.vs.now c.requires.ws_len.0 c.requires.ws_len.1 c.args.store c.requires.stored c.loop-j.j _ _ _ c.loop-j-test.false c.loop-j.auto.j-end c.loop-j.invariant
