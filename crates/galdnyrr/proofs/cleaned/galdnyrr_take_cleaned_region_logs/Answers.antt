-- `galdnyrr::cleaned::galdnyrr_take_cleaned_region_logs` meets its contract. Assumes nothing.
use Rattle.galdnyrr.proofs.AskedLaws.{cleaned_told}
use Rattle.galdnyrr.proofs.cleaned.galdnyrr_take_cleaned_region_logs.Goals as goal

pub returns : goal.returns
returns c = cleaned_told c.take_cleaned_region_logs-taken.ensures c.tell_count.ensures
