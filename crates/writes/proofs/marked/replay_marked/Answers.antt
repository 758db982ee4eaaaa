-- `writes::marked::replay_marked` meets its contract. Assumes nothing.
use mathlib.Core.Path.{ap, ◌∙◌}
use Rattle.std.specs.Prelude.{Ok}
use Rattle.contexts.specs.AreaLaws.{area-length, area-bytes}
use Rattle.writes.specs.AcceptLaws.{marked-waits, marked-refused, moved-formed, moved-kept, moved-finish, moved-answer}
use Rattle.writes.proofs.marked.replay_marked.Goals as goal

pub accept-requires : goal.accept-requires
accept-requires c = record { xs_len = (area-length _ _ c.requires.formed, area-bytes _ _ c.requires.formed); formed = c.requires.formed }

pub finish-requires : goal.finish-requires
finish-requires c =
    let a = (rw (c.in-Ok-Some.is ∙ ap Ok c.in-Ok-Some.field-0-is) at c.accept.ensures) in record { formed = moved-formed a.1 c.requires.formed; kept_at = moved-kept a.1 c.requires.kept_at; finishing = moved-finish a.1 a.0 }

pub returns-in-Ok-None : goal.returns-in-Ok-None
returns-in-Ok-None c = marked-waits (record { at = c.args.mark.at; group = c.args.mark.raft_group_id; byte = c.args.mark.byte }) c.args.seq _ c.args.xs.now c.args.bs.now c.requires.formed _ _ (rw (c.in-Ok-None.is ∙ ap Ok c.in-Ok-None.field-0-is) at c.accept.ensures)

pub returns-in-Ok-Some : goal.returns-in-Ok-Some
returns-in-Ok-Some c = moved-answer (rw (c.in-Ok-Some.is ∙ ap Ok c.in-Ok-Some.field-0-is) at c.accept.ensures).1 c.finish.ensures

pub returns-in-Err : goal.returns-in-Err
returns-in-Err c = rw c.refusal_at.ensures (marked-refused (record { at = c.args.mark.at; group = c.args.mark.raft_group_id; byte = c.args.mark.byte }) c.args.seq _ c.args.xs.now c.args.bs.now c.requires.formed _ _ _ (rw c.in-Err.is at c.accept.ensures))
