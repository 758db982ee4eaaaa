-- `key_lists::fetch_kvs_before` meets its contract. Assumes nothing.
use mathlib.Core.Path.{sym}
use Rattle.key_lists.proofs.Answers.{before-rows}
use Rattle.key_lists.proofs.fetch_kvs_before.Goals as goal

pub returns : goal.returns
returns c = λ t k. before-rows _ t k _ _ _ _ _ _ _ (sym c.len.ensures.value) c.fill_list.ensures
