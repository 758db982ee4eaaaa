-- `takes_runs::totals::group_text` meets its contract. Assumes nothing.
use mathlib.Core.Path.{ap, ◌∙◌}
use Rattle.std.specs.Prelude.{unwrap_or}
use Rattle.takes_runs.proofs.TotalLaws.{group-says}
use Rattle.takes_runs.proofs.totals.group_text.Goals as goal

pub returns : goal.returns
returns c =
    group-says _ _ _ _ _ _ _ _ c.first_index.ensures c.entry_count.ensures c.key_count.ensures (c.unwrap_or-first.ensures ∙ ap (λ n. unwrap_or n 0) c.unwrap_or.ensures) c.unwrap_or-entries.ensures c.unwrap_or-keys.ensures _ _ _ c.group_line.ensures
