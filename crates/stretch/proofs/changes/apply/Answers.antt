-- `stretch::changes::apply` meets its contract. Assumes nothing.
use Rattle.stretch.specs.Changes.{rule_of, Ready}
use Rattle.stretch.specs.Laws.{unchanged}
use Rattle.stretch.proofs.EntryWays.{only-rewrites}
use Rattle.stretch.specs.Reach.{row_from, writes_keys}
use Rattle.stretch.proofs.Reaches.{all_left}
use Rattle.stretch.proofs.changes.apply.Goals as goal

pub replay_rewrite-requires : goal.replay_rewrite-requires
unfolding Ready
replay_rewrite-requires c = let ready = rw c.in-ReplayRewrite.is at c.requires.ready in record { numbers_at = c.requires.wf_at.numbers; lent = ready.0; p_bound = only-rewrites _ _ _ c.requires.wf_at ready.1 }

pub returns-in-Make : goal.returns-in-Make
unfolding rule_of row_from writes_keys
returns-in-Make c = rw c.in-Make.is (record { changed_at = unchanged _ c.args.p.now c.args.b.now c.requires.wf_at; leaves_at = all_left _ _ _ c.args.p.now c.args.b.now })
