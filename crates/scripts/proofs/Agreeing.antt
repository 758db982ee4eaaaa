-- Lists that agree number by number. Assumes nothing.
use mathlib.Core.Bool.{Bool, true}
use mathlib.Core.List.{List}
use mathlib.Core.Path.{◌≡◌}
use Prim.Native.Nat.{ℕ, ◌≤◌}
use lib.ListN.{length, get_or, drop}
use lib.Seq.{take_all}
use native.Mathlib.Omega.{arith}
use Rattle.std.proofs.Common.{sym, ap, ◌∙◌, ◌++◌, length-append}
use Rattle.std.proofs.Math.ListN.{get_or-append}
use Rattle.std.proofs.lemmas.List.{get_or-drop, length-drop}
use Rattle.std.specs.List.{slice_range, starts_with}
use Rattle.std.proofs.lemmas.Slice.Eq.{starts_is}
use Rattle.std.proofs.lemmas.Bool.Decides.{Decides-eqb}
use Rattle.std.proofs.Math.Dec.{eqb}
use Rattle.scripts.specs.Agreement.{SameNumbers}

-- a list that stands at the front of what is stored from a place on
pub prefix_agrees : (got want s : List ℕ) (at : ℕ) (r : Bool) → at ≤ length want → s ≡ slice_range want at (length want) → r ≡ starts_with eqb s got → SameNumbers got (length got) want at r
prefix_agrees got want s at r l q e =
    let d : s ≡ drop at want = q ∙ take_all _ _ (let n = length-drop at want in omega arith) in
    let p : r ≡ true → s ≡ got ++ drop (length got) s = (starts_is Decides-eqb s got r e).0 in
    record {
      same = λ t. record { same = λ i h. sym (get_or-drop at want i 0) ∙ ap (λ xs. get_or xs i 0) (sym d ∙ p t) ∙ get_or-append got _ 0 i h };
      there = λ t. let n = ap length d ∙ length-drop at want in let m = ap length (p t) ∙ length-append got _ in omega arith;
    }
