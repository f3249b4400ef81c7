-- `fields::ranges::task_ranges` meets its contract.
use mathlib.Core.Path.{◌∙◌}
use Rattle.fields.proofs.ScanLaws.{scan_fields}
use Rattle.fields.proofs.ranges.task_ranges.Goals as goal

pub returns : goal.returns
returns c = c.ranges-2.ensures ∙ scan_fields _ _ _
