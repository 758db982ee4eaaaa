-- `writes::finish::has_items` meets its contract. Assumes nothing.
use mathlib.Core.Path.{ap}
use Rattle.std.specs.Prelude.{eqb}
use Rattle.std.proofs.lemmas.Bool.{eqb-true, eqb-false}
use Rattle.maps.specs.OrderLaws.{split}
use Rattle.stores.specs.declared.Store.{Store}
use Rattle.writes.specs.FinishLaws.{any-stored, any-own, none-own}
use Rattle.writes.proofs.finish.has_items.Goals as goal

pub holds_any-requires : goal.holds_any-requires
holds_any-requires c = c.requires

pub returns-then-holds_any : goal.returns-then-holds_any
returns-then-holds_any c = λ at bs w. any-stored at _ _ _ bs (rw c.if-holds_any.true at (c.holds_any.ensures bs w))

pub returns : goal.returns
returns c =
    λ at bs w.
    let none = rw c.if-holds_any.false at (c.holds_any.ensures bs w) in
    let count = ap (λ (s : Store). s.items) c.count_batch.ensures.value in
    split (eqb c.count_batch.result.items 0)
    (λ e. rw e (none-own at _ _ _ bs none _ count (eqb-true _ _ e)))
    (λ e. rw e (any-own at _ _ _ bs none _ count (eqb-false _ _ e)))
