-- `sections::put_slack` meets its contract. The loop's invariant: the first i entries are stored behind the count.
use mathlib.Core.Path.{◌≡◌}
use lib.Seq.{sets}
use Rattle.tasks.specs.TaskSet.{row}
use Rattle.numbers.specs.Bytes.{digits, entries}
use Rattle.sections.proofs.put_slack.Given as goal

abbrev pub invariant-loop-i : goal.invariant-loop-i
invariant-loop-i l = l.out ≡ sets l.initial.out l.from (entries (λ j. digits 4 (row l.slack j)) l.i)
