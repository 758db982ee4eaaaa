-- `stores::parts::take_out` meets its contract: the items passed that have other tags stand at the front. Assumes nothing.
use Rattle.stores.proofs.TakingLaws.{taking-start, taking_movable, taking-next, taking-end}
use Rattle.stores.specs.Stores.{area}
use mathlib.Core.Path.{refl}
use Rattle.stores.proofs.parts.take_out.Goals as goal

pub loop-j-init : goal.loop-j-init
loop-j-init c =
    let began = area c.args.items.now c.args.entries.now c.args.bytes.now in
    taking-start began c.args.tags.now c.args.tag c.args.store.items c.args.store refl c.requires.stored c.requires.store_in_bounds

pub keep_other-left-requires-clause-movable : goal.keep_other-left-requires-clause-movable
keep_other-left-requires-clause-movable c =
    let began = area c.args.items.now c.args.entries.now c.args.bytes.now in
    taking_movable began c.args.tags.now c.args.tag c.args.store.items c.loop-j.j c.loop-j.left (area c.loop-j.items c.loop-j.entries c.loop-j.bytes) c.loop-j.tags c.loop-j.invariant c.loop-j-test.true

pub loop-j-preserved : goal.loop-j-preserved
loop-j-preserved c =
    let began = area c.args.items.now c.args.entries.now c.args.bytes.now in
    let t = c.loop-j.invariant in
    let test = c.loop-j-test.true in
    taking-next began c.args.tags.now c.args.tag c.args.store.items c.loop-j.j c.loop-j.left (area c.loop-j.items c.loop-j.entries c.loop-j.bytes) c.loop-j.tags t test _ _ _ c.keep_other-left.ensures

pub returns : goal.returns
returns c =
    let began = area c.args.items.now c.args.entries.now c.args.bytes.now in
    taking-end began c.args.tags.now c.args.tag c.args.store.items c.args.store c.loop-j.j c.loop-j.left (area c.loop-j.items c.loop-j.entries c.loop-j.bytes) c.loop-j.tags refl c.loop-j-test.false c.loop-j.auto.j-end c.loop-j.invariant
