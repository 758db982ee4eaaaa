-- `waiting::moves::push_part` meets its contract. Assumes nothing.
use Rattle.room.specs.Rooms.{items_in}
use Rattle.room.specs.Layout.{store_of, room_of}
use Rattle.waiting.proofs.Moving.{MovingIn}
use lib.ListN.{get_or}
use Rattle.waiting.proofs.moves.push_part.Given as goal

abbrev pub invariant-loop-j : goal.invariant-loop-j
invariant-loop-j l = MovingIn (items_in (store_of l.us) (room_of 16 l.us l.ds)) (get_or l.us 0 0) l.its l.tag l.initial.all l.initial.ws l.initial.vs l.all l.ws l.vs l.j
