-- `fields::ranges::wish_ranges` meets its contract.
use mathlib.Core.Path.{◌∙◌}
use Rattle.fields.proofs.ScanLaws.{scan_wishes}
use Rattle.fields.proofs.ranges.wish_ranges.Goals as goal

pub returns : goal.returns
returns c = c.ranges-2.ensures ∙ scan_wishes _ _ _
