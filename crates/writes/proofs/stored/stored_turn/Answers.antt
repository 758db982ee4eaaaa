-- `writes::stored::stored_turn` meets its contract. Assumes nothing.
use mathlib.Core.Path.{sym, ◌∙◌}
use Rattle.log_batch.specs.Judged.{call_of}
use Rattle.contexts.specs.AreaLaws.{area-length, area-bytes}
use Rattle.writes.specs.StoredLaws.{turned-past, copied-ready, turned_here}
use Rattle.writes.proofs.StoredWays.{tag-asks}
use Rattle.writes.proofs.stored.stored_turn.Goals as goal

pub stored_tag-requires : goal.stored_tag-requires
stored_tag-requires c = tag-asks c.args.xs.now c.args.bs.now c.args.j c.requires.formed c.requires.j_bound

pub returns-then-stored_tag-tag : goal.returns-then-stored_tag-tag
returns-then-stored_tag-tag c =
    turned-past c.args.tag c.args.j c.args.xs.now c.args.bs.now c.requires.formed c.requires.j_bound (λ e. c.if-stored_tag-tag.true (sym ((c.stored_tag.ensures c.args.bs.now c.requires.j_bound).is _) ∙ e)) c.requires.undoable c.requires.keeping c.requires.bs_value

pub copy_stored-item-requires : goal.copy_stored-item-requires
copy_stored-item-requires c = record { xs_len = (area-length _ _ c.requires.formed, area-bytes _ _ c.requires.formed); formed = c.requires.formed; j_bound = c.requires.j_bound; rows_len = c.requires.rows_len }

pub carry_out-requires : goal.carry_out-requires
unfolding call_of
carry_out-requires c =
    record { formed = c.requires.formed; undoable = c.requires.undoable; item_ready = copied-ready c.args.tag c.args.j c.args.xs.now c.args.bs.now c.requires.formed c.requires.j_bound (((c.stored_tag.ensures c.args.bs.now c.requires.j_bound).is _) ∙ c.if-stored_tag-tag.false) c.requires.bs_value _ _ _ c.copy_stored-item.ensures; keeping = c.requires.keeping }

pub returns : goal.returns
unfolding call_of
returns c =
    turned_here c.args.tag c.args.j c.args.xs.now c.args.bs.now c.requires.formed c.requires.j_bound (((c.stored_tag.ensures c.args.bs.now c.requires.j_bound).is _) ∙ c.if-stored_tag-tag.false) c.requires.bs_value _ _ _ c.copy_stored-item.ensures _ _ _ c.requires.keeping c.carry_out.ensures
