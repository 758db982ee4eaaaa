-- `log_batch::checks::least_of` meets its contract. Assumes nothing.
use mathlib.Core.Path.{sym, ◌∙◌}
use borrow.Author.Tests.{eq-eqb, ne_eqb}
use Rattle.log_batch.specs.Lent.{item_of}
use Rattle.log_batch.proofs.LeastLaws.{long-is, least_by}
use Rattle.log_batch.proofs.checks.least_of.Goals as goal
use Rattle.log_batch.proofs.checks.least_of.Goals.{then-i-eq-MAX_ITEMS-via-then-i-eq-MAX_ITEMS, then-i-eq-MAX_ITEMS-via-else-i-eq-MAX_ITEMS+then-is_long}

pub returns-then-i-eq-MAX_ITEMS : goal.returns-then-i-eq-MAX_ITEMS
unfolding item_of
returns-then-i-eq-MAX_ITEMS c =
    elim c.then-i-eq-MAX_ITEMS.branch [
      | then-i-eq-MAX_ITEMS-via-then-i-eq-MAX_ITEMS w ↦ rw (least_by _ _ _ _, eq-eqb _ _ w.if-i-eq-MAX_ITEMS.true)
      | then-i-eq-MAX_ITEMS-via-else-i-eq-MAX_ITEMS+then-is_long w ↦
          let long = sym (w.is_long.ensures ∙ long-is _ c.args.entries.now _ c.requires.places) ∙ w.if-is_long.true in
          rw (least_by _ _ _ _, ne_eqb _ _ w.if-i-eq-MAX_ITEMS.false, long)
    ]

pub returns-then-is_incomplete_mark : goal.returns-then-is_incomplete_mark
unfolding item_of
returns-then-is_incomplete_mark c =
    let short = sym (c.is_long.ensures ∙ long-is _ c.args.entries.now _ c.requires.places) ∙ c.if-is_long.false in
    let reserved = sym (c.is_reserved.ensures c.args.entries.now) ∙ c.if-is_reserved.true in
    let incomplete = sym (c.is_incomplete_mark.ensures c.args.entries.now c.args.bytes.now) ∙ c.if-is_incomplete_mark.true in
    rw (least_by _ _ _ _, ne_eqb _ _ c.if-i-eq-MAX_ITEMS.false, short, reserved, incomplete)

pub returns-then-is_reserved : goal.returns-then-is_reserved
unfolding item_of
returns-then-is_reserved c =
    let short = sym (c.is_long.ensures ∙ long-is _ c.args.entries.now _ c.requires.places) ∙ c.if-is_long.false in
    let reserved = sym (c.is_reserved.ensures c.args.entries.now) ∙ c.if-is_reserved.true in
    let incomplete = sym (c.is_incomplete_mark.ensures c.args.entries.now c.args.bytes.now) ∙ c.if-is_incomplete_mark.false in
    rw (least_by _ _ _ _, ne_eqb _ _ c.if-i-eq-MAX_ITEMS.false, short, reserved, incomplete) (c.least_of_mark.ensures c.args.entries.now)

pub returns-in-Some : goal.returns-in-Some
unfolding item_of
returns-in-Some c =
    let short = sym (c.is_long.ensures ∙ long-is _ c.args.entries.now _ c.requires.places) ∙ c.if-is_long.false in
    let reserved = sym (c.is_reserved.ensures c.args.entries.now) ∙ c.if-is_reserved.false in
    rw (least_by _ _ _ _, ne_eqb _ _ c.if-i-eq-MAX_ITEMS.false, short, reserved, ← c.in-Some.ensures c.args.bytes.now)

pub returns-in-None : goal.returns-in-None
unfolding item_of
returns-in-None c =
    let short = sym (c.is_long.ensures ∙ long-is _ c.args.entries.now _ c.requires.places) ∙ c.if-is_long.false in
    let reserved = sym (c.is_reserved.ensures c.args.entries.now) ∙ c.if-is_reserved.false in
    rw (least_by _ _ _ _, ne_eqb _ _ c.if-i-eq-MAX_ITEMS.false, short, reserved, ← c.in-None.ensures c.args.bytes.now) (c.least_of_mark-in-None.ensures c.args.entries.now)
