-- `sentence::put_rule` meets its contract: every number of no row has the words of 0.
use native.Mathlib.Omega.{arith}
use Rattle.decimal.specs.Decimal.{words}
use Rattle.wording.specs.Sentence.{Known, wording}
use Rattle.wording.proofs.WordingLaws.{others}
use Rattle.sentence.proofs.rule.put_rule.Goals as goal

pub returns-in_default : goal.returns-in_default
unfolding words wording
returns-in_default c =
    let unknown : Known c.args.number → ⊥ = λ h. grind arith in
    rw (others c.args.number unknown) c.put_words.ensures
