-- `waiting::moves::push_one` meets its contract. Assumes nothing.
use Rattle.waiting.proofs.Moving.{row_there, lent_there, room_there, pushed_there, pushed_not}
use mathlib.Core.Path.{sym, ◌∙◌}
use Rattle.waiting.proofs.moves.push_one.Goals as goal

pub tag_at-requires : goal.tag_at-requires
tag_at-requires c = (c.requires.room_wf.numbers-are, row_there c.args.us.now c.args.ds.now c.requires.room_wf c.args.j c.requires.j_bound)

pub returns-then-tag_at-its : goal.returns-then-tag_at-its
returns-then-tag_at-its c =
    pushed_not c.args.us.now c.args.ds.now c.requires.room_wf c.args.j c.requires.j_bound c.args.its (λ z e. c.if-tag_at-its.true (sym (c.tag_at.ensures c.args.ds.now z c.requires.j_bound) ∙ e)) c.args.store _ c.args.tag c.requires.stored

pub add_from-requires-clause-lent : goal.add_from-requires-clause-lent
add_from-requires-clause-lent c = lent_there c.args.us.now c.args.ds.now c.requires.room_wf c.args.j _ c.item_in-item.ensures

pub add_from-requires-clause-store_bound : goal.add_from-requires-clause-store_bound
add_from-requires-clause-store_bound c =
    room_there c.args.us.now c.args.ds.now c.requires.room_wf c.args.j c.requires.j_bound c.args.its _ c.item_in-item.ensures (λ z. c.tag_at.ensures c.args.ds.now z c.requires.j_bound ∙ c.if-tag_at-its.false) c.args.store c.requires.has_room

pub returns : goal.returns
returns c =
    pushed_there c.args.us.now c.args.ds.now c.requires.room_wf c.args.j c.requires.j_bound c.args.its _ c.item_in-item.ensures (λ z. c.tag_at.ensures c.args.ds.now z c.requires.j_bound ∙ c.if-tag_at-its.false) c.args.ws.now c.args.vs.now c.requires.ws_len.0 c.requires.ws_len.1 c.args.store c.args.tag _ _ _ c.add_from.auto.ws c.add_from.auto.vs c.add_from.ensures
