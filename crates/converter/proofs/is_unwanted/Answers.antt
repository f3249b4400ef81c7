-- `converter::is_unwanted` meets its contract: each return is a case of 1.
use native.Mathlib.Omega.{arith}
use mathlib.Core.Path.{refl, sym, ◌∙◌}
use Rattle.numbers.specs.Bytes.{byte}
use Rattle.converter.specs.ConverterLaws.{wanted_absent, wanted-first}
use Rattle.converter.proofs.is_unwanted.Goals as goal

pub returns-then-table-lt1 : goal.returns-then-table-lt1
returns-then-table-lt1 c =
    let a = c.args in
    wanted_absent a.edition a.table.now (omega arith) (sym c.is_unknown.ensures ∙ c.if-is_unknown.false)

pub returns : goal.returns
unfolding byte
returns c =
    let a = c.args in
    wanted-first a.edition a.table.now _ (sym c.is_unknown.ensures ∙ c.if-is_unknown.false) refl
