-- `takes_runs::totals::live_text` meets its contract. Assumes nothing.
use Rattle.takes_runs.proofs.TotalLaws.{live-says}
use Rattle.takes_runs.proofs.totals.live_text.Goals as goal

pub returns : goal.returns
returns c = live-says _ _ _ c.live_entries-append.ensures c.live_entries-rewrite.ensures _ _ _ c.live_line.ensures
