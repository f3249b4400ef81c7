-- The lengths of a world's drafts.
--     BothWithin     its table's and its log's are within their bytes
use Rattle.test_tables.specs.Drafts.{Within}
use Rattle.test_world.specs.declared.world.World.{World}

abbrev pub BothWithin : World → Type 0
BothWithin w = Within w.table × Within w.log
