-- `codec::entry::deadline_at` meets its contract.
use Rattle.std.proofs.Common.{arith, sym, ◌∙◌}
use Rattle.codec.specs.TaskLaws.{size-deadline}
use Rattle.codec.proofs.entry.deadline_at.Goals as goal

pub number4-requires : goal.number4-requires
number4-requires c =
    omega (arith, size-deadline c.args.edition (sym c.has_deadlines.ensures ∙ c.if-has_deadlines.true))
