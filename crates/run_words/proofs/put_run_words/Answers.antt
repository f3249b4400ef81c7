-- `run_words::put_run_words` meets its contract: no words are longer than 160 bytes.
use lib.ListN.{length}
use mathlib.Core.Path.{ap}
use native.Mathlib.Omega.{arith}
use Rattle.wording.proofs.WordingLaws.{rule-short}
use Rattle.run_words.proofs.put_run_words.Goals as goal

pub put_words-requires : goal.put_words-requires
put_words-requires c = omega (arith, rule-short c.args.number, ap length c.words_of.ensures)

pub returns : goal.returns
returns c = rw c.words_of.ensures at c.put_words.ensures
