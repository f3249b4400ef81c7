-- `logs::report::put_finished` meets its contract.
use Rattle.logs.specs.LogBytes.{report_bytes}
use Rattle.logs.proofs.report.put_finished.Goals as goal

pub returns : goal.returns
unfolding report_bytes
returns c = c.put_report.ensures
