-- `opened` unfolds the rules: a fact under `unfolding opened` is computed.
use Rattle.maps.specs.Lists.{select, front, rest, any, every, sum, first, last, find_from, map_option, or_else, least}
use Rattle.maps.specs.Maps.{lookup, insert, remove, store, merge_with, equal_bytes, bytes_below}
use Rattle.rules.specs.Causes.{and_then, in_order, placed, left}
use Rattle.rules.specs.Items.{same_queue, has_file, block_file, file_of, is_rewrite, is_reserved, is_clean, is_tombstone, one_byte, mark_byte, is_mark, status_of, placed_from, placed_at, writes, is_live_rewrite}
use Rattle.rules.specs.Checks.{long_change, long, consecutive, lacks_value, lacks_file, is_incomplete, is_out_of_range, other_file, is_other_queue, is_not_rewritable, is_rewrite_replay, lacks_mark_value, meets3, first_mark, breaks_mark, meets7, or_next, unless_reserved, checks}
use Rattle.rules.specs.Table.{empty_table, made, with_entries, with_keys, with_span, uncounted, first_index_of, last_index, is_below_first, is_above_last, entries_below, entries_from, over, over_gap, appended, replayed_rewrite, compacted, compacted_count, replaces, replaced, stops_at, meets_rewrite, rewrite_overlap, rewritten, put_key, delete_key, rewrite_file, rewritten_key, over_keys, span_goes_back, spanned, put_held, entries_to, put_to, change_to, command_to, change}
use Rattle.rules.specs.TableQueries.{get_entry, up_to_size, sized, within, fetch_entries_to, run_of, rewrite_count, fetch_entry_indexes_before, fetch_rewritten_entry_indexes, has_at_least_some_entries_before, row_of, get_key, in_bounds, start_above_end, in_direction, scan, keys_of, fetch_kvs_before, fetch_rewritten_kvs, least_seq, least_file, by_span, min_file_seq, live_of}
use Rattle.rules.specs.Context.{is_context, is_index, fresh, with_groups, with_tombstones, with_cleaned, with_waiting, table_fits, entries_in, waiting_fits, fits, limited, unjudged, add_cleaned, act, keeps, add_tombstone, step, run, replay_tombstones}
use Rattle.rules.specs.Waiting.{joined, accept_by, accept, some_parts, set_waiting, set_span, finish_group, become, accept_new_group, part_of, replay_marked, accept_parts, accept_all}
use Rattle.rules.specs.Calls.{checked, run_batch, replay_batch, replay, clashes, clash, over_of, merge_table, merge_tables, replay_call, merge_contexts, both, merge, join_table, index_of, join_contexts, join, write, append, rewrite}
use Rattle.rules.specs.Queries.{answered, lent_after, in_group, group_numbers, is_empty, live_entries, take_cleaned, after_taking}

unfoldable pub opened : Unit {0}
unfolding select front rest any every sum first last find_from map_option or_else least lookup insert remove store merge_with equal_bytes bytes_below and_then in_order placed left same_queue has_file block_file file_of is_rewrite is_reserved is_clean is_tombstone one_byte mark_byte is_mark status_of placed_from placed_at writes is_live_rewrite long_change long consecutive lacks_value lacks_file is_incomplete is_out_of_range other_file is_other_queue is_not_rewritable is_rewrite_replay lacks_mark_value meets3 first_mark breaks_mark meets7 or_next unless_reserved checks empty_table made with_entries with_keys with_span uncounted first_index_of last_index is_below_first is_above_last entries_below entries_from over over_gap appended replayed_rewrite compacted compacted_count replaces replaced stops_at meets_rewrite rewrite_overlap rewritten put_key delete_key rewrite_file rewritten_key over_keys span_goes_back spanned put_held entries_to put_to change_to command_to change get_entry up_to_size sized within fetch_entries_to run_of rewrite_count fetch_entry_indexes_before fetch_rewritten_entry_indexes has_at_least_some_entries_before row_of get_key in_bounds start_above_end in_direction scan keys_of fetch_kvs_before fetch_rewritten_kvs least_seq least_file by_span min_file_seq live_of is_context is_index fresh with_groups with_tombstones with_cleaned with_waiting table_fits entries_in waiting_fits fits limited unjudged add_cleaned act keeps add_tombstone step run replay_tombstones joined accept_by accept some_parts set_waiting set_span finish_group become accept_new_group part_of replay_marked accept_parts accept_all checked run_batch replay_batch replay clashes clash over_of merge_table merge_tables replay_call merge_contexts both merge join_table index_of join_contexts join write append rewrite answered lent_after in_group group_numbers is_empty live_entries take_cleaned after_taking
opened = tt
