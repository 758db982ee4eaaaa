-- `takes_opened` unfolds the rules and the definitions of `takes`: a fact under `unfolding takes_opened` is computed.
use Rattle.rules.proofs.Opened.{opened}
use Rattle.takes_rules.specs.Fields.{bind, first_field, other_fields, is_digit_byte, decimal_from, below, number, hex_digit, hexadecimal}
use Rattle.takes_rules.specs.Lines.{append_file, entry_at, batch_of_one, entries_from, entries_line, put_line, del_line, compact_line, clean_line, batch_line, merge_line, letter_line, fields_line, line_of}
use Rattle.takes_rules.specs.Output.{digits_before, decimal, fields_text, line_text, group_line, live_line, refusal_line, malformed_line}
use Rattle.takes_rules.specs.Program.{in_first, lines_of, replayed, merged_as, merge_run, take_line, take_lines, groups_text, totals, takes}
use Rattle.takes_rules.proofs.Texts.{bytes, text}

unfoldable pub takes_opened : Unit {0}
unfolding opened bind first_field other_fields is_digit_byte decimal_from below number hex_digit hexadecimal append_file entry_at batch_of_one entries_from entries_line put_line del_line compact_line clean_line batch_line merge_line letter_line fields_line line_of digits_before decimal fields_text line_text group_line live_line refusal_line malformed_line in_first lines_of replayed merged_as merge_run take_line take_lines groups_text totals takes bytes text
takes_opened = tt
