-- `apply_rewrite_atomic_group`: what its answers say.
use Rattle.pipe_log.specs.declared.Span.{Span}
use Rattle.std.specs.Prelude.{Option, Bool, List, ◌≡◌, ℕ}
use Rattle.maps.specs.Maps.{Map}
use Rattle.rules.specs.Causes.{ByCause, Err, Result, Ok, refuse}
use Rattle.rules.specs.Table.{Held, Table, spanned}
use Rattle.memtable.specs.declared.Head.{Head}
use Rattle.memtable.specs.Views.{table_of, Wf}

-- the head with another span
abbrev pub grouped : Option Span → Head → Head
grouped g h = record { first_index = h.first_index; len = h.len; rewrite_count = h.rewrite_count; atomic_group = g }

-- the head after the call
abbrev pub spanned_head : Head → ByCause Head → Head
spanned_head h (Ok g) = g
spanned_head h (Err e) = h

-- the rules' result for each answer
abbrev pub spanned_of : ByCause Head → List ℕ → Map (List ℕ) Held → Bool → Result Table
spanned_of (Ok h) xs keys counted = Ok (table_of h xs keys counted)
spanned_of (Err e) xs keys counted = refuse e

pub record SpanSet (h : Head) (start end : ℕ) (r : ByCause Head) : Type 0 where
  pub rule : (xs : List ℕ) (keys : Map (List ℕ) Held) (counted : Bool)
      → spanned_of r xs keys counted ≡ spanned (record { start = start; end = end }) (table_of h xs keys counted)
  pub others : spanned_head h r ≡ grouped (spanned_head h r).atomic_group h
  pub wf : (xs : List ℕ) → Wf h xs → Wf (spanned_head h r) xs
