-- `text::put_plan` meets its contract. The loop's invariant: the lines of the first i loops are stored behind the first line.
use Rattle.decimal.specs.Decimal.{Stored}
use Rattle.numbers.specs.Bytes.{entries}
use Rattle.text.specs.PrintedLaws.{line_in}
use Rattle.text.proofs.put_plan.Given as goal

abbrev pub invariant-loop-i : goal.invariant-loop-i
invariant-loop-i l = Stored l.initial.out l.initial.at (entries (line_in l.each l.edition l.task l.slack) l.i) l.at l.out
