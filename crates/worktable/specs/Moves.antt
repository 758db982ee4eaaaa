-- Where the long stretch stands in an area, and what copying a group's stretch to it and back promises.
use Rattle.std.specs.Prelude.{true, List, ◌≡◌, ℕ, ◌+◌}
use Rattle.std.specs.Prelude.{Some}
use Rattle.cells.specs.Part.{part, put}
use Rattle.maps.specs.MapLaws.{pair}
use Rattle.rules.specs.Table.{made}
use Rattle.rules.specs.Context.{table_fits}
use Rattle.stretch.specs.Stretch.{is_used, table_in}
use Rattle.stretch.specs.Stretch as stretch
use Rattle.groups.specs.Area.{slots, stretch_at, bytes_at, cell_at, Only}
use Rattle.worktable.specs.Work.{long_numbers, long_bytes, work_in, Wf, Stands}

-- where its numbers and its bytes begin, and where the area ends
abbrev pub work_at : ℕ
work_at = 13509

abbrev pub work_bytes_at : ℕ
work_bytes_at = 28672

abbrev pub area_numbers : ℕ
area_numbers = 17231

abbrev pub area_bytes : ℕ
area_bytes = 38912

unfoldable pub long_in : List ℕ → List ℕ
long_in xs = part work_at long_numbers xs

unfoldable pub long_bytes_in : List ℕ → List ℕ
long_bytes_in bs = part work_bytes_at long_bytes bs

-- the long stretch alone is changed
pub record OnlyWork (xs bs xs' bs' : List ℕ) : Type 0 where
  pub numbers : xs' ≡ put xs work_at (long_in xs')
  pub bytes : bs' ≡ put bs work_bytes_at (long_bytes_in bs')

-- the table of stretch k has become the work table
pub record Loaded (k : ℕ) (xs bs xs' bs' : List ℕ) : Type 0 where
  pub stands : Stands (table_in (stretch_at k xs) (bytes_at k bs)) (long_in xs') (long_bytes_in bs')
  pub only : OnlyWork xs bs xs' bs'

-- the work table is there, and within the limits of a group
pub record Fitting (xs bs : List ℕ) : Type 0 where
  pub wf : Wf (long_in xs) (long_bytes_in bs)
  pub used : is_used (long_in xs) ≡ true
  pub fits : table_fits (made (work_in (long_in xs) (long_bytes_in bs))) ≡ true

-- the work table has become group g's at spare stretch k
pub record Unloaded (k g : ℕ) (xs bs xs' bs' : List ℕ) : Type 0 where
  pub cell : cell_at (slots + k) xs' bs' ≡ Some (pair g (made (work_in (long_in xs) (long_bytes_in bs))))
  pub wf : stretch.Wf (stretch_at (slots + k) xs') (bytes_at (slots + k) bs')
  pub only : Only (slots + k) xs bs xs' bs'
