-- `text::late` meets its contract.
use mathlib.Core.Path.{sym}
use Rattle.tasks.specs.Content.{late_of}
use Rattle.text.proofs.late.Goals as goal
use Rattle.text.proofs.late.Goals.{then-has_deadlines, else-has_deadlines}

pub returns : goal.returns
unfolding late_of
returns c =
    elim c.if-has_deadlines.branch [
      | then-has_deadlines w ↦ rw (sym w.if-has_deadlines.ensures, sym w.due-is) c.saturating_sub.ensures
      | else-has_deadlines w ↦ rw (sym w.if-has_deadlines.ensures, sym w.due-is) c.saturating_sub.ensures
    ]
