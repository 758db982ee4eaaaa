-- `kvs::Keys::get` meets its contract. Assumes nothing.
use mathlib.Core.Path.{sym, ◌∙◌}
use Rattle.kvs.proofs.Found.{get_at}
use Rattle.kvs.proofs.keys.Keys.get.Goals as goal

pub returns : goal.returns
returns c = get_at _ _ c.find.ensures.ascending c.in-Ok.i (sym c.find.ensures.place ∙ c.in-Ok.is) _ c.value.ensures.value
