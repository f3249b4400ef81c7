-- `text::put_refusal` meets its contract: a number below 256 has at most 3 digits, an index below 65,536 at most 5.
use native.Mathlib.Nat.{le_trans}
use native.Mathlib.Omega.{arith}
use Rattle.decimal.specs.Decimal.{words}
use Rattle.text.specs.Printed.{refusal_line}
use Rattle.text.specs.PrintedLaws.{refusal-short}
use Rattle.text.proofs.put_refusal.Goals as goal

pub put_pair-requires : goal.put_pair-requires
unfolding refusal_line words
put_pair-requires c =
    let a = c.args in
    le_trans (refusal-short a.number a.index (omega arith) (omega arith)) c.requires

pub returns : goal.returns
unfolding refusal_line words
returns c = c.put_pair.ensures
