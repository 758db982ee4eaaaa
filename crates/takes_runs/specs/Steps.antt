-- What a line does to the two runs that the program holds, as areas, and what it prints.
use Rattle.rules.specs.Causes.{number_of, Result, Ok, Err}
use Rattle.std.specs.Prelude.{List, [], ◌++◌, ◌≡◌, ℕ, ◌≤◌, length, replicate, take}
use Rattle.pipe_log.specs.declared.FileId.{FileId}
use Rattle.rules.specs.Items.{Append}
use Rattle.rules.specs.Context.{context, Context}
use Rattle.log_batch.specs.Lent.{batch_of}
use Rattle.contexts.specs.Contexts.{context_of, Wf}
use Rattle.takes_rules.specs.Lines.{Line, next_run, batch}
use Rattle.takes_rules.specs.Output.{refusal_line}
use Rattle.takes_rules.specs.Program.{take_line}
use Rattle.takes_runs.specs.declared.runs.Runs.{Runs}

-- two areas that are lent as slices
abbrev pub runs_of : List ℕ → List ℕ → List ℕ → List ℕ → Runs
runs_of xs bs ys cs = record { xs = xs; bs = bs; ys = ys; cs = cs }

-- the lengths of the slices that are lent for a line
abbrev pub Lends : List ℕ → List ℕ → List ℕ → Type 0
Lends items rows bytes = (length items ≡ 9) × (length rows ≡ 264) × (length bytes ≡ 66)

-- what is printed of an answer to line n
unfoldable pub said_of : ℕ → Result (Unit {0}) → List ℕ
said_of n (Ok _) = []
said_of n (Err r) = refusal_line n (number_of r.cause)

-- the bytes s are the first r of the lent ones at exit
pub record Says (s : List ℕ) (r : ℕ) (out' : List ℕ) : Type 0 where
  pub said : take r out' ≡ s
  pub few : r ≤ length out'

-- line l, of number n, takes the runs merged so far from c to c', the run that is being read from d to d', and prints s
pub record Takes-line (n : ℕ) (l : Line) (c d : Context) (s : List ℕ) (c' d' : Context) : Type 0 where
  pub takes : (p : List ℕ) → take_line n l (record { merged = c; run = d; printed = p }) ≡ record { merged = c'; run = d'; printed = p ++ s }

-- an area between calls that is an Append context
pub record AppendArea (xs bs : List ℕ) : Type 0 where
  pub wf : Wf xs bs
  pub kind : (context_of xs bs).kind ≡ context Append

-- two areas of zeros
abbrev pub Zeroed : Runs → Type 0
Zeroed h = (h.xs ≡ replicate 17231 0) × (h.bs ≡ replicate 38912 0) × (h.ys ≡ replicate 17231 0) × (h.cs ≡ replicate 38912 0)

-- two areas that are Append contexts
pub record Fit (h : Runs) : Type 0 where
  pub merged-area : AppendArea h.xs h.bs
  pub run-area : AppendArea h.ys h.cs

-- line l, of number n, takes the areas h to z, and what it prints are the first r bytes lent
pub record TookLine (n : ℕ) (l : Line) (h : Runs) (r : ℕ) (out' : List ℕ) (z : Runs) : Type 0 where
  pub line-is : Takes-line n l (context_of h.xs h.bs) (context_of h.ys h.cs) (take r out') (context_of z.xs z.bs) (context_of z.ys z.cs)
  pub fit : Fit z
  pub few : r ≤ length out'

-- a batch: the runs merged so far are not written
abbrev pub ReplayedRun : FileId → List ℕ → List ℕ → List ℕ → ℕ → Runs → ℕ → List ℕ → Runs → Type 0
ReplayedRun file items rows bytes n h r out' z =
    TookLine n (batch (batch_of file items rows bytes)) h r out' z × (z.xs ≡ h.xs) × (z.bs ≡ h.bs)

-- the same whatever was merged so far
abbrev pub ReplayedBeside : FileId → List ℕ → List ℕ → List ℕ → ℕ → List ℕ → List ℕ → ℕ → List ℕ → List ℕ → List ℕ → Type 0
ReplayedBeside file items rows bytes n ys cs r out' ys' cs' =
    (xs bs : List ℕ) → AppendArea xs bs → ReplayedRun file items rows bytes n (runs_of xs bs ys cs) r out' (runs_of xs bs ys' cs')

-- the run that was read is merged
abbrev pub MergedRun : ℕ → Runs → ℕ → List ℕ → Runs → Type 0
MergedRun n h r out' z = TookLine n next_run h r out' z
