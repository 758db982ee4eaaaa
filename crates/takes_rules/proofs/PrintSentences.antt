-- 01's sentences on what `takes` prints, one by one; each group of facts begins with the sentence that it shows. Assumes nothing.
use mathlib.Core.Path.{◌≡◌, refl}
use mathlib.Core.List.{[], ◌∷◌, ◌++◌}
use Rattle.takes_rules.specs.Program.{takes}
use Rattle.takes_rules.proofs.Texts.{bytes, text}
use Rattle.takes_rules.proofs.Opened.{takes_opened}

-- ---- "M and the end of input merge the run just read into those before it"

-- bench case 2: two runs merged hold 7..10
two-runs-printed : takes (text ("E,7,1,1,1,1,1,1,1,1,1,1,1,1" ∷ "M" ∷ "E,7,4,1,1,1,1" ∷ "C,7,7" ∷ [])) ≡ text ("G,7,7,4,0" ∷ "L,4,0" ∷ [])
unfolding takes_opened
two-runs-printed = refl

-- bench case 2: one pass holds none
one-pass-printed : takes (text ("E,7,1,1,1,1,1,1,1,1,1,1,1,1" ∷ "E,7,4,1,1,1,1" ∷ "C,7,7" ∷ [])) ≡ text ("G,7,0,0,0" ∷ "L,0,0" ∷ [])
unfolding takes_opened
one-pass-printed = refl

-- into all runs before it
three-runs-printed : takes (text ("E,7,1,1,1,1" ∷ "M" ∷ "E,7,3,1,1" ∷ "M" ∷ "E,7,4,1,1" ∷ [])) ≡ text ("G,7,1,4,0" ∷ "L,4,0" ∷ [])
unfolding takes_opened
three-runs-printed = refl

-- a run may be empty
empty-runs-printed : takes (text ("M" ∷ "E,7,1,1,1" ∷ "M" ∷ "M" ∷ [])) ≡ text ("G,7,1,1,0" ∷ "L,1,0" ∷ [])
unfolding takes_opened
empty-runs-printed = refl

-- the end of input ends a line too
open-line-printed : takes (text ("E,7,1,1,1" ∷ []) ++ bytes "E,7,2,1,1") ≡ text ("G,7,1,2,0" ∷ "L,2,0" ∷ [])
unfolding takes_opened
open-line-printed = refl

-- ---- "A refused batch or run is dropped and reading goes on"

-- the run keeps the batches before the refused one and takes those behind it
refused-batch-printed : takes (text ("E,7,1,1,1" ∷ "E,7,3,1,1" ∷ "E,7,2,1,1" ∷ [])) ≡ text ("R,2,14" ∷ "G,7,1,2,0" ∷ "L,2,0" ∷ [])
unfolding takes_opened
refused-batch-printed = refl

-- nothing of the run is kept, and the runs before and behind it are merged
refused_run-printed : takes (text ("E,7,1,1,1" ∷ "M" ∷ "E,7,5,1,1" ∷ "P,8,1,6b,76" ∷ "M" ∷ "E,7,2,1,1" ∷ [])) ≡ text ("R,5,14" ∷ "G,7,1,2,0" ∷ "L,2,0" ∷ [])
unfolding takes_opened
refused_run-printed = refl

-- a malformed line leaves the run as it was
malformed-line-printed : takes (text ("E,7,1,1,1" ∷ "Q" ∷ "E,7,2,1,1" ∷ [])) ≡ text ("B,2" ∷ "G,7,1,2,0" ∷ "L,2,0" ∷ [])
unfolding takes_opened
malformed-line-printed = refl

-- ---- "Output, groups ascending: G,group,first (0 if none),entries,keys; last L,append,rewrite live counts"

-- by their numbers, the empty one too
groups-printed : takes (text ("P,10,1,6b,76" ∷ "D,7,6b" ∷ "E,9,5,1,1,1" ∷ [])) ≡ text ("G,7,0,0,0" ∷ "G,9,5,2,0" ∷ "G,10,0,0,1" ∷ "L,3,0" ∷ [])
unfolding takes_opened
groups-printed = refl

-- a cleaned group is absent
cleaned-group-printed : takes (text ("E,7,1,1,1" ∷ "P,9,1,6b,76" ∷ "M" ∷ "X,7" ∷ [])) ≡ text ("G,9,0,0,1" ∷ "L,1,0" ∷ [])
unfolding takes_opened
cleaned-group-printed = refl

-- the least and the greatest number of a group
greatest-group-printed : takes (text ("D,18446744073709551615,6b" ∷ "D,0,6b" ∷ [])) ≡ text ("G,0,0,0,0" ∷ "G,18446744073709551615,0,0,0" ∷ "L,0,0" ∷ [])
unfolding takes_opened
greatest-group-printed = refl

-- ---- "A refusal prints R,line,number (lines from 1) when it falls, a refused merge with the last line read; a malformed line B,line"

-- the merge that the end of input makes is refused
merge_at_the-end-printed : takes (text ("E,7,1,1,1" ∷ "M" ∷ "E,7,5,1,1" ∷ "P,8,1,6b,76" ∷ [])) ≡ text ("R,4,14" ∷ "G,7,1,1,0" ∷ "L,1,0" ∷ [])
unfolding takes_opened
merge_at_the-end-printed = refl

-- the last line read is malformed
merge-behind-a-malformed-line-printed : takes (text ("E,7,1,1,1" ∷ "M" ∷ "E,7,5,1,1" ∷ []) ++ bytes "Q") ≡ text ("B,4" ∷ "R,4,14" ∷ "G,7,1,1,0" ∷ "L,1,0" ∷ [])
unfolding takes_opened
merge-behind-a-malformed-line-printed = refl

-- in the order in which they fall, before the groups; an empty line is malformed
order-printed : takes (text ("E,7,2,1,1" ∷ "M" ∷ "Q" ∷ "E,7,9,1,1" ∷ "" ∷ "M" ∷ "E,8,1,1,33554433" ∷ [])) ≡ text ("B,3" ∷ "B,5" ∷ "R,6,14" ∷ "R,7,4" ∷ "G,7,2,1,0" ∷ "L,1,0" ∷ [])
unfolding takes_opened
order-printed = refl

-- a line number of two digits
tenth-line-printed : takes (text ("M" ∷ "M" ∷ "M" ∷ "M" ∷ "M" ∷ "M" ∷ "M" ∷ "M" ∷ "M" ∷ "Q" ∷ [])) ≡ text ("B,10" ∷ "L,0,0" ∷ [])
unfolding takes_opened
tenth-line-printed = refl

-- ---- "Index or compaction target above 2^63−1, entry length above 2^25" is 4, "list over 32 entries, key or value over 32 bytes" 2: such lines are batches,
-- which are refused, and not malformed

-- the greatest numbers, and a length of 2^32
refused-numbers-printed : takes (text ("E,7,18446744073709551615,1,1" ∷ "C,7,18446744073709551615" ∷ "E,7,1,1,4294967295" ∷ "E,7,1,1,4294967296" ∷ [])) ≡ text ("R,1,4" ∷ "R,2,4" ∷ "R,3,4" ∷ "B,4" ∷ "L,0,0" ∷ [])
unfolding takes_opened
refused-numbers-printed = refl

-- 33 bytes, and 33 and a half
refused-bytes-printed : takes (text ("D,7,6b6b6b6b6b6b6b6b6b6b6b6b6b6b6b6b6b6b6b6b6b6b6b6b6b6b6b6b6b6b6b6b6b" ∷ "P,7,1,6b,6b6b6b6b6b6b6b6b6b6b6b6b6b6b6b6b6b6b6b6b6b6b6b6b6b6b6b6b6b6b6b6b6b" ∷ "D,7,6b6b6b6b6b6b6b6b6b6b6b6b6b6b6b6b6b6b6b6b6b6b6b6b6b6b6b6b6b6b6b6b6b6" ∷ "P,7,1,6b,6b6b6b6b6b6b6b6b6b6b6b6b6b6b6b6b6b6b6b6b6b6b6b6b6b6b6b6b6b6b6b6b6b6" ∷ [])) ≡ text ("R,1,2" ∷ "R,2,2" ∷ "B,3" ∷ "B,4" ∷ "L,0,0" ∷ [])
unfolding takes_opened
refused-bytes-printed = refl

-- 33 lengths, and 33 and 34 of which the last is no number
refused_list-printed : takes (text ("E,7,1,1,1,1,1,1,1,1,1,1,1,1,1,1,1,1,1,1,1,1,1,1,1,1,1,1,1,1,1,1,1,1,1,1,1" ∷ "E,7,1,1,1,1,1,1,1,1,1,1,1,1,1,1,1,1,1,1,1,1,1,1,1,1,1,1,1,1,1,1,1,1,1,1,x" ∷ "E,7,1,1,1,1,1,1,1,1,1,1,1,1,1,1,1,1,1,1,1,1,1,1,1,1,1,1,1,1,1,1,1,1,1,1,1,x" ∷ [])) ≡ text ("R,1,2" ∷ "B,2" ∷ "B,3" ∷ "L,0,0" ∷ [])
unfolding takes_opened
refused_list-printed = refl
