-- `decimal::put_words` meets its contract.
use Rattle.std.proofs.Common.{arith}
use Rattle.decimal.proofs.PutLaws.{words-put}
use Rattle.decimal.proofs.put_words.Goals as goal

pub returns : goal.returns
returns c = words-put _ _ _ _ _ c.copy_from_slice.ensures.after (omega arith) c.requires
