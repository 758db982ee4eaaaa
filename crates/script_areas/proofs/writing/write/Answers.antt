-- A fresh context is made where a well-formed one is.
use Rattle.script_areas.proofs.AreaLaws.{lengths-are}
use Rattle.script_areas.proofs.writing.write.Goals as goal

pub fresh-requires : goal.fresh-requires
fresh-requires c = lengths-are _ _ c.requires
