-- A batch that is checked and then carried out, as one rule for the four calls that take a batch.
use Rattle.std.specs.Prelude.{List, ℕ}
use Rattle.maps.specs.Lists.{or_else}
use Rattle.rules.specs.Causes.{Result, Err}
use Rattle.rules.specs.Items.{LogItem, Call, placed_from}
use Rattle.rules.specs.Checks.{checks}
use Rattle.rules.specs.Context.{Context, limited, run}
use Rattle.rules.specs.Waiting.{replay_marked}
use Rattle.log_batch.specs.Judged.{mark_for}

-- the items in order, or as a marked batch of file `seq`
unfoldable pub written : Call → ℕ → List LogItem → Context → Result Context
written c seq items x =
    or_else (or_else (run limited c (placed_from 0 items) x) (λ m. replay_marked m seq (placed_from 0 items) x) (mark_for c items))
    (λ r. Err r)
    (checks c items)
