-- `decimal::put_decimal` calls itself with a number of one digit less, and the number is the measure.
use Rattle.decimal.proofs.+put_decimal.Given as goal

abbrev pub decreases-put_decimal : goal.decreases-put_decimal
decreases-put_decimal l = l.value
