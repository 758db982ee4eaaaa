-- `waiting::moves::push_part` meets its contract. Assumes nothing.
use Rattle.room.proofs.Copying.{below-count}
use Rattle.room.specs.Rooms.{items_in}
use Rattle.room.specs.Layout.{store_of, room_of}
use Rattle.waiting.proofs.Moving.{many, moving_none, moving_room, moving_more, moving_all}
use Rattle.waiting.proofs.moves.push_part.Goals as goal

pub loop-j-init : goal.loop-j-init
unfolding store_of
loop-j-init c =
    moving_none (items_in (store_of c.args.us.now) (room_of 16 c.args.us.now c.args.ds.now)) _ c.args.its c.args.tag (many c.args.us.now c.args.ds.now c.requires.room_wf) c.args.store c.args.ws.now c.args.vs.now c.requires.ws_len.0 c.requires.ws_len.1 c.requires.stored

pub push_one-all-requires-clause-j_bound : goal.push_one-all-requires-clause-j_bound
unfolding store_of
push_one-all-requires-clause-j_bound c =
    below-count c.args.us.now c.loop-j.j c.loop-j-test.true

pub push_one-all-requires-clause-has_room : goal.push_one-all-requires-clause-has_room
unfolding store_of
push_one-all-requires-clause-has_room c =
    moving_room (items_in (store_of c.args.us.now) (room_of 16 c.args.us.now c.args.ds.now)) _ c.args.its c.args.tag (many c.args.us.now c.args.ds.now c.requires.room_wf) c.args.store c.args.ws.now c.args.vs.now c.loop-j.all c.loop-j.ws c.loop-j.vs c.loop-j.j c.loop-j-test.true c.loop-j.invariant c.requires.its_bound

pub loop-j-preserved : goal.loop-j-preserved
unfolding store_of
loop-j-preserved c =
    moving_more (items_in (store_of c.args.us.now) (room_of 16 c.args.us.now c.args.ds.now)) _ c.args.its c.args.tag (many c.args.us.now c.args.ds.now c.requires.room_wf) c.args.store c.args.ws.now c.args.vs.now c.loop-j.all c.loop-j.ws c.loop-j.vs c.loop-j.j c.loop-j-test.true c.loop-j.invariant _ _ _ c.push_one-all.auto.ws c.push_one-all.auto.vs c.push_one-all.ensures

pub returns : goal.returns
unfolding store_of
returns c =
    moving_all (items_in (store_of c.args.us.now) (room_of 16 c.args.us.now c.args.ds.now)) _ c.args.its c.args.tag (many c.args.us.now c.args.ds.now c.requires.room_wf) c.args.store c.args.ws.now c.args.vs.now _ _ _ c.loop-j.j c.loop-j-test.false c.loop-j.invariant
