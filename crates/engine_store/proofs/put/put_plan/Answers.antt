-- `engine_store::put::put_plan` meets its contract.
use Rattle.std.specs.Prelude.{◌≡◌, length}
use Rattle.std.proofs.Common.{arith}
use Rattle.engine_words.proofs.PartLaws.{tab-row}
use Rattle.engine_words.proofs.StoredLaws.{plan-stored}
use Rattle.engine_store.proofs.FlagLaws.{flag-from}
use Rattle.engine_store.proofs.put.put_plan.Goals as goal

pub returns : goal.returns
returns c =
    let p = c.args.plan in
    let long : length p.slack ≡ 16 = omega arith in
    rw (c.put_numbers.ensures, c.put_tasks.ensures, c.put_labels.ensures, c.from-2.ensures, c.from.ensures, flag-from p.offered)
    (rw (tab-row p.slack 16 long) at (plan-stored c.args.words.now p))
