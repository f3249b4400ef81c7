-- `decimal::put_decimal` meets its contract.
use Rattle.std.proofs.Common.{arith}
use Rattle.decimal.proofs.DecimalLaws.{decimal-some, length_more}
use Rattle.decimal.proofs.PutLaws.{put_one, put-more}
use Rattle.decimal.proofs.+put_decimal.Goals as goal

pub bounds-out-at : goal.bounds-out-at
bounds-out-at t c = omega (arith, decimal-some c.args.value)

pub returns-then-value-lt10 : goal.returns-then-value-lt10
returns-then-value-lt10 t c = put_one c.args.out.now c.args.at c.args.value (omega arith)

pub put_decimal-last-requires : goal.put_decimal-last-requires
put_decimal-last-requires t c = (omega arith, omega (arith, length_more c.args.value (omega arith)))

pub bounds-out-last : goal.bounds-out-last
bounds-out-last t c = omega (arith, length_more c.args.value (omega arith))

pub overflow_add-result-2 : goal.overflow_add-result-2
overflow_add-result-2 t c = omega (arith, length_more c.args.value (omega arith))

pub returns : goal.returns
returns t c = put-more c.args.value (omega arith) c.put_decimal-last.ensures
