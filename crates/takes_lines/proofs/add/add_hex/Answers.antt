-- `takes_lines::add::add_hex` meets its contract. Assumes nothing.
use Rattle.std.proofs.Common.{◌≡◌, ◌-◌, sym, ap, ◌∙◌, arith, length, length-append, length-drop, length-take}
use Rattle.std.specs.Result.{result_ok}
use lib.ListN.{drop}
use lib.Seq.{take_all}
use Rattle.std.proofs.lemmas.List.{length-take-le}
use Rattle.takes_lines.specs.Views.{reading_of, named_of}
use Rattle.takes_lines.proofs.AddWays.{second-hex, key-kept, value-stays, same-length, key-stays, value-kept}
use Rattle.takes_lines.proofs.add.add_hex.Goals as goal

pub slice_bounds-keep-end-then-is_key : goal.slice_bounds-keep-end-then-is_key
slice_bounds-keep-end-then-is_key c = sym (length-take-le _ _ (omega arith))

pub returns-then-is_key : goal.returns-then-is_key
unfolding reading_of named_of
returns-then-is_key c =
    let same : length c.keep.new.kept ≡ 33 = c.keep.auto.kept ∙ length-take-le _ _ (omega arith) in
    second-hex c.args.line c.args.is_key c.args.b c.args.bytes.now c.in_ok-digit.digit c.in-Some.high _ _ (sym c.hex_digit.ensures.is ∙ c.ok_or.ensures.ok_part ∙ ap result_ok c.in_ok-digit.was) (sym c.take.ensures.value ∙ c.in-Some.is)
    (simp (length-append, length-drop) (omega (arith, same)))
    (λ rows. rw (c.take.ensures.after, c.if-is_key.true, key-kept c.args.bytes.now c.keep.new.kept c.requires same c.args.line.key_len c.keep.result _ c.args.line.key_kept c.keep.ensures.most c.keep.ensures.keeps, value-stays c.args.bytes.now c.keep.new.kept c.requires same c.args.line.value_len))

pub returns : goal.returns
unfolding reading_of named_of
returns c =
    let same : length c.keep-2.new.kept ≡ 33 = c.keep-2.auto.kept ∙ simp (length-take, length-drop) (omega arith) in
    second-hex c.args.line c.args.is_key c.args.b c.args.bytes.now c.in_ok-digit.digit c.in-Some.high _ _ (sym c.hex_digit.ensures.is ∙ c.ok_or.ensures.ok_part ∙ ap result_ok c.in_ok-digit.was) (sym c.take.ensures.value ∙ c.in-Some.is)
    (same-length c.args.bytes.now c.keep-2.new.kept c.requires same)
    (λ rows. rw (c.take.ensures.after, c.if-is_key.false, key-stays c.args.bytes.now c.keep-2.new.kept c.requires same c.args.line.key_len c.args.line.key_kept, value-kept c.args.bytes.now c.keep-2.new.kept c.requires same c.args.line.value_len c.keep-2.result _ c.args.line.value_kept c.keep-2.ensures.most (rw (take_all (length c.args.bytes.now - 33) (drop 33 c.args.bytes.now) (simp length-drop (omega arith))) at c.keep-2.ensures.keeps)))
