-- `key_lists::fetch_rewritten_kvs` meets its contract. Assumes nothing.
use mathlib.Core.Path.{sym}
use Rattle.key_lists.proofs.Answers.{rewritten-rows}
use Rattle.key_lists.proofs.fetch_rewritten_kvs.Goals as goal

pub returns : goal.returns
returns c = λ t k. rewritten-rows _ t k _ _ _ _ _ _ (sym c.len.ensures.value) c.fill_list.ensures
