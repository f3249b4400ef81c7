-- `decimal::put_said` meets its contract: the words, and the digits behind them.
use Rattle.std.proofs.Common.{arith}
use Rattle.decimal.specs.Decimal.{said}
use Rattle.decimal.proofs.DecimalLaws.{length-said}
use Rattle.decimal.proofs.PutLaws.{put-behind}
use Rattle.decimal.proofs.put_said.Goals as goal

pub put_words-from-requires : goal.put_words-from-requires
put_words-from-requires c = omega (arith, length-said c.args.words.now c.args.value)

pub put_decimal-requires : goal.put_decimal-requires
put_decimal-requires c = omega (arith, length-said c.args.words.now c.args.value)

pub returns : goal.returns
unfolding said
returns c = put-behind c.put_words-from.ensures c.put_decimal.ensures
