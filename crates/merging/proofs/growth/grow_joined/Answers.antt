-- `merging::growth::grow_joined` meets its contract. Assumes nothing.
use Rattle.merging.proofs.JoinWays.{room-length, lent_join, joined-grown}
use Rattle.merging.proofs.growth.grow_joined.Goals as goal

pub join_lists-requires : goal.join_lists-requires
join_lists-requires c =
    let both = lent_join c.args.xs.now c.args.ys.now c.clear.new.ws c.requires.xs_len.0 c.requires.xs_len.1 (room-length c.clear.new.ws c.clear.ensures) c.requires.ys_bound in record { ys_len = both.0; its_ys_bound = both.1 }

pub returns : goal.returns
returns c =
    λ ds es g. joined-grown c.args.xs.now c.args.ys.now c.clear.new.ws c.requires.xs_len.0 c.requires.xs_len.1 (room-length c.clear.new.ws c.clear.ensures) c.join_lists.new.ys ds es g c.clear.ensures c.join_lists.ensures.by_index
