-- 01's program `takes`: what it prints for its input, by the rules of an Append context.
use Rattle.std.specs.Prelude.{cond, List, [], ◌∷◌, ◌++◌, ℕ, suc, eqb, length}
use Rattle.maps.specs.Lists.{or_else}
use Rattle.maps.specs.Maps.{Map}
use Rattle.rules.specs.Items.{Append, Rewrite}
use Rattle.rules.specs.Causes.{Result, number_of, Ok, Err}
use Rattle.rules.specs.Table.{Table, first_index_of}
use Rattle.rules.specs.Context.{Context, fresh}
use Rattle.rules.specs.Calls.{replay, merge}
use Rattle.rules.specs.Queries.{live_entries}
use Rattle.takes_rules.specs.Lines.{Line, malformed, next_run, batch, line_of}
use Rattle.takes_rules.specs.Output.{group_line, live_line, refusal_line, malformed_line}

-- ---- lines end with a newline; a last line without one counts

unfoldable pub in_first : ℕ → List (List ℕ) → List (List ℕ)
in_first b [] = (b ∷ []) ∷ []
in_first b (l ∷ ls) = (b ∷ l) ∷ ls

unfoldable pub lines_of : List ℕ → List (List ℕ)
lines_of [] = []
lines_of (b ∷ s) = cond (eqb b 10) ([] ∷ lines_of s) (in_first b (lines_of s))

-- ---- the runs merged so far, the run that is being read, and what was printed

pub record Takes : Type 0 where
  pub merged : Context
  pub run : Context
  pub printed : List ℕ

-- a refused batch is dropped; line n printed
unfoldable pub replayed : ℕ → Result Context → Takes → Takes
replayed n (Ok c) t = record { merged = t.merged; run = c; printed = t.printed }
replayed n (Err r) t = record { merged = t.merged; run = t.run; printed = t.printed ++ refusal_line n (number_of r.cause) }

-- a refused run is dropped; the next run is fresh
unfoldable pub merged_as : ℕ → Result Context → Takes → Takes
merged_as n (Ok c) t = record { merged = c; run = fresh Append; printed = t.printed }
merged_as n (Err r) t = record { merged = t.merged; run = fresh Append; printed = t.printed ++ refusal_line n (number_of r.cause) }

unfoldable pub merge_run : ℕ → Takes → Takes
merge_run n t = merged_as n (merge t.run t.merged) t

-- line n
unfoldable pub take_line : ℕ → Line → Takes → Takes
take_line n malformed t = record { merged = t.merged; run = t.run; printed = t.printed ++ malformed_line n }
take_line n next_run t = merge_run n t
take_line n (batch b) t = replayed n (replay b t.run) t

-- the lines behind line n; the end of input merges the last run, with the last line read
unfoldable pub take_lines : ℕ → List (List ℕ) → Takes → Takes
take_lines n [] t = merge_run n t
take_lines n (l ∷ ls) t = take_lines (suc n) ls (take_line (suc n) (line_of l) t)

-- ---- groups ascending, then live counts

unfoldable pub groups_text : Map ℕ Table → List ℕ
groups_text [] = []
groups_text (p ∷ ps) =
    group_line p.key (or_else 0 (λ (i : ℕ). i) (first_index_of p.val.entries)) (length p.val.entries) (length p.val.keys)
    ++ groups_text ps

unfoldable pub totals : Takes → List ℕ
totals t = t.printed ++ (groups_text t.merged.groups ++ live_line (live_entries Append t.merged) (live_entries Rewrite t.merged))

-- what the program prints for an input
unfoldable pub takes : List ℕ → List ℕ
takes input = totals (take_lines 0 (lines_of input) (record { merged = fresh Append; run = fresh Append; printed = [] }))
