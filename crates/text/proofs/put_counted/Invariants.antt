-- `text::put_counted` meets its contract. The loop's invariant: the first i names are stored behind the word.
use Rattle.numbers.specs.Bytes.{entries}
use Rattle.decimal.specs.Decimal.{Stored}
use Rattle.text.specs.PrintedLaws.{name_in}
use Rattle.text.proofs.put_counted.Given as goal

abbrev pub invariant-loop-name : goal.invariant-loop-name
invariant-loop-name l = Stored l.initial.out l.initial.end (entries (name_in l.fn.counted) l.name-index) l.end l.out
