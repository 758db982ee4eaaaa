-- `takes_lines::close::close_length` meets its contract. Assumes nothing.
use Rattle.std.proofs.Common.{◌≡◌, refl, sym, ap, ◌∙◌, ◌+◌, ◌-◌, ◌*◌, ◌^◌, ◌<◌, arith}
use Rattle.std.specs.Result.{result_ok}
use borrow.Rule.Slice.PartMut.{put_mid}
use Rattle.cells.specs.Part.{put}
use Rattle.cells.specs.PartLaws.{length-put, loan-put}
use Rattle.takes_lines.specs.Views.{named_of, reading_of}
use Rattle.takes_lines.proofs.CloseWays.{row_for, entry_kept, entries-full, next-index, length-turns}
use Rattle.takes_lines.proofs.close.close_length.Goals as goal

pub returns-then-line-eq-KEPT_MOST : goal.returns-then-line-eq-KEPT_MOST
unfolding reading_of named_of
returns-then-line-eq-KEPT_MOST c =
    let i = c.in_ok-index.index in
    let fits = rw c.in_ok-index.was at c.ok_or.type_inv in
    let small : i < 2 ^ 64 = omega (arith, fits) in
    let some = c.ok_or.ensures.ok_part ∙ ap result_ok c.in_ok-index.was in
    length-turns c.args.line c.args.rows.now i c.in_ok-number.number _ c.args.rows.now some small
    (sym c.take.ensures.value ∙ c.ok_or-2.ensures.ok_part ∙ ap result_ok c.in_ok-number.was) refl
    (λ bytes. rw (c.take.ensures.after, next-index _ i small c.checked_add-line.ensures, some, entries-full c.args.line.count c.args.rows.now c.requires i c.args.line.file c.in_ok-number.number (omega (arith, c.if-line-eq-KEPT_MOST.true))))

pub returns : goal.returns
unfolding reading_of named_of
returns c =
    let i = c.in_ok-index.index in
    let fits = rw c.in_ok-index.was at c.ok_or.type_inv in
    let small : i < 2 ^ 64 = omega (arith, fits) in
    let some = c.ok_or.ensures.ok_part ∙ ap result_ok c.in_ok-index.was in
    let below : c.args.line.count < 33 = omega (arith, c.if-line-eq-KEPT_MOST.false, c.args.line.entries_kept) in
    let room = c.args.line.count * 8 + 8 - c.args.line.count * 8 in
    let laid : put_mid (c.args.line.count * 8) room c.args.rows.now c.copy_from_slice.new.self ≡ put c.args.rows.now (c.args.line.count * 8) (row_for i c.args.line.file c.in_ok-number.number) = rw c.copy_from_slice.ensures.after (loan-put (c.args.line.count * 8) room c.args.rows.now (row_for i c.args.line.file c.in_ok-number.number) (omega arith)) in
    length-turns c.args.line c.args.rows.now i c.in_ok-number.number _ _ some small
    (sym c.take.ensures.value ∙ c.ok_or-2.ensures.ok_part ∙ ap result_ok c.in_ok-number.was)
    (rw laid (length-put c.args.rows.now (c.args.line.count * 8) (row_for i c.args.line.file c.in_ok-number.number) (omega arith)))
    (λ bytes. rw (c.take.ensures.after, laid, next-index _ i small c.checked_add-line.ensures, some, entry_kept c.args.line.count c.args.rows.now c.requires i c.args.line.file c.in_ok-number.number below))
