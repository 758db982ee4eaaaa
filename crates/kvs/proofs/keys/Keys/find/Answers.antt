-- `kvs::Keys::find` meets its contract: the stretch of keys that is left has the place of the whole. Assumes nothing.
use mathlib.Core.Path.{sym, ◌∙◌}
use Rattle.kvs.proofs.Search.{place_all, place_none, place-less, place_equal, place-greater}
use borrow.Author.Rules.{rules}
use native.Mathlib.Omega.{arith}
use Rattle.kvs.proofs.keys.Keys.find.Goals as goal

pub loop-low-init : goal.loop-low-init
loop-low-init c = (search rules, search rules, place_all _ _ _ c.len-high.ensures.value)

pub loop-low-preserved-in-Less : goal.loop-low-preserved-in-Less
loop-low-preserved-in-Less c =
    (search rules, search rules, c.loop-low.invariant.2 ∙ place-less _ _ c.loop-low.low _ c.loop-low.high (search rules) (omega arith) c.len-high.ensures.ascending (search rules) c.key.ensures.value c.compare_u8.ensures c.in-Less.is)

pub returns-in-Equal : goal.returns-in-Equal
returns-in-Equal c =
    record { place = sym (c.loop-low.invariant.2 ∙ place_equal _ _ c.loop-low.low _ c.loop-low.high (search rules) (omega arith) c.len-high.ensures.ascending (search rules) c.key.ensures.value c.compare_u8.ensures c.in-Equal.is); ascending = c.len-high.ensures.ascending }

pub loop-low-preserved : goal.loop-low-preserved
loop-low-preserved c =
    (search rules, search rules, c.loop-low.invariant.2 ∙ place-greater _ _ c.loop-low.low _ c.loop-low.high (search rules) (omega arith) c.len-high.ensures.ascending (search rules) c.key.ensures.value c.compare_u8.ensures c.in-Greater.is)

pub returns-clause-place : goal.returns-clause-place
returns-clause-place c = sym (c.loop-low.invariant.2 ∙ place_none _ _ c.loop-low.low c.loop-low.high (search rules))
