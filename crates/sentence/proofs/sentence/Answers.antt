-- `sentence::sentence` meets its contract: the sentence fits the array that it is made in, and is copied where the lent buffer has room.
use Prim.Native.Nat.{◌≤◌}
use mathlib.Core.Path.{sym, ◌∙◌}
use lib.ListN.{length, length-replicate}
use lib.Seq.{length-take-le}
use Rattle.wording.specs.Sentence.{sentence_of}
use Rattle.wording.proofs.SentenceTheorems.{sentence_short}
use Rattle.wording.proofs.ComposeLaws.{text-length, sentence_refused, sentence_done}
use borrow.Author.Rules.{rules}
use Rattle.sentence.proofs.sentence.Goals as goal

pub returns-then-out-length : goal.returns-then-out-length
returns-then-out-length c =
    let short : length (sentence_of c.args.number c.args.index c.args.value) ≤ 256 =
    sentence_short c.args.number c.args.index c.args.value (search rules) (search rules) (search rules) in
    rw c.at.ensures
    (sentence_refused c.args.number c.args.index c.args.value (rw length-replicate short) c.compose-length.ensures c.args.out.now c.if-out-length.true)

pub slice_bounds-text-end : goal.slice_bounds-text-end
slice_bounds-text-end c =
    let short : length (sentence_of c.args.number c.args.index c.args.value) ≤ 256 =
    sentence_short c.args.number c.args.index c.args.value (search rules) (search rules) (search rules) in
    text-length c.args.number c.args.index c.args.value (rw length-replicate short) c.compose-length.ensures

pub slice_bounds-put_words-end : goal.slice_bounds-put_words-end
slice_bounds-put_words-end c =
    let short : length (sentence_of c.args.number c.args.index c.args.value) ≤ 256 =
    sentence_short c.args.number c.args.index c.args.value (search rules) (search rules) (search rules) in
    sym (length-take-le _ _ (text-length c.args.number c.args.index c.args.value (rw length-replicate short) c.compose-length.ensures))

pub returns : goal.returns
returns c =
    let short : length (sentence_of c.args.number c.args.index c.args.value) ≤ 256 =
    sentence_short c.args.number c.args.index c.args.value (search rules) (search rules) (search rules) in
    let r = sentence_done c.args.number c.args.index c.args.value (rw length-replicate short) c.compose-length.ensures c.args.out.now c.if-out-length.false in
    (r.0, r.1, c.put_words.ensures.left ∙ r.2)
