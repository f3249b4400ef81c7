-- `engine_store::read::numbers` meets its contract: a slice of the words has the words from its beginning on.
use Rattle.std.specs.Prelude.{ℕ, ◌+◌, ◌≤◌, ◌≡◌, List, length, drop}
use Rattle.std.proofs.Common.{arith, ◌∙◌, length-take, length-drop, get_or-take, get_or-drop}
use borrow.Rule.Slice.PartMut.{mid_of}
use Rattle.laws.specs.TabLaws.{ext_tab}
use Rattle.tasks.specs.TaskSet.{row}
use Rattle.engine_words.specs.Words.{part}
use Rattle.engine_store.proofs.read.numbers.Goals as goal

taken : (l : List ℕ) (at n m : ℕ) → m ≡ n → at + n ≤ length l → mid_of at m l ≡ part l at n
unfolding part row
taken l at n m e h =
    rw e
    (ext_tab (λ i. row l (at + i)) (mid_of at n l) n 0
    (omega (arith, length-take n (drop at l), length-drop at l))
    (λ i k. get_or-take n (drop at l) i 0 k ∙ get_or-drop at l i 0))

pub returns : goal.returns
returns g c = c.copy_from_slice.ensures.after ∙ taken c.args.words.now c.args.at g.row.N _ (omega arith) (omega arith)
