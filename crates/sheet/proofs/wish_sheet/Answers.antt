-- `sheet::wish_sheet` meets its contract.
use mathlib.Core.Path.{◌≡◌, refl, ap, ◌∙◌}
use Rattle.std.specs.Prelude.{Err}
use Rattle.reader.specs.CountedLaws.{counted-accepted, counted-refused}
use Rattle.sheet.specs.Wished.{handed}
use Rattle.sheet.specs.WishedLaws.{sheet-refused, sheet-from}
use borrow.Author.Rules.{rules}
use Rattle.sheet.proofs.wish_sheet.Goals as goal

pub returns-in_err-counts : goal.returns-in_err-counts
returns-in_err-counts c =
    let r = c.in_err-counts.field-0.0 in
    let e : c.from_residual.result ≡ Err r = search rules in
    ap handed e
    ∙ sheet-refused _ (handed (Err r)) r.number r.index (counted-refused _ _ c.read_counts.ensures r c.in_err-counts.was) refl refl

pub load-requires : goal.load-requires
load-requires c = counted-accepted _ _ c.read_counts.ensures _ c.in_ok-counts.was

pub returns : goal.returns
returns c =
    let p = counted-accepted _ _ c.read_counts.ensures _ c.in_ok-counts.was in
    sheet-from _ _ p.passed (rw (c.load.ensures, p.offers) at c.wish_plan.ensures)
