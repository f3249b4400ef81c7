-- What the engine's C calls answer on worked words and tables.
--     words0               653 words of 0, the first of them these
--     lent_answers                   openings of P1, P4 and no table, and calls on words that do not fit, each number written out
use Rattle.std.specs.Prelude.{ℕ, ◌-◌, List, [], ◌∷◌, ◌++◌, length, replicate}
use Rattle.tasks.specs.TaskSet.{bound}
use Rattle.codec.specs.Table.{content_in}
use Rattle.engine_lent.specs.Lent.{open_number, release_number, step_number}
use Rattle.worked.specs.Cases.{p1, p3, table_with}
use Rattle.test_answers.specs.Numbers.{Answered, gives}

abbrev words0 : List ℕ → List ℕ
words0 l = l ++ replicate (653 - length l) 0

unfoldable pub lent_answers : List Answered
lent_answers =
    -- an opening on P1; P4 is refused 12 at 0, no table 1
    gives (open_number (table_with 1 2 p1 [])) 0
    ∷ gives (open_number (table_with 1 2 p1 (5 ∷ 6 ∷ 0 ∷ []))) 51539607552
    ∷ gives (open_number []) 4294967296
    -- an edition of 257, an offered mark of 2, and a label of 256: 18
    ∷ gives (step_number (words0 (257 ∷ []))) 77309411328
    ∷ gives (step_number (words0 (1 ∷ 2 ∷ []))) 77309411328
    ∷ gives (release_number (words0 (1 ∷ 0 ∷ 2 ∷ 3 ∷ 256 ∷ [])) 0 1) 77309411328
    -- words of 0 fit, and say no sound state
    ∷ gives (step_number (words0 [])) 77309411328
    ∷ []

abbrev pub p3_table : List ℕ
p3_table = table_with 1 2 (p3 0) []

unfoldable pub bound3 : ℕ → ℕ
bound3 i = bound (content_in p3_table).tasks (content_in p3_table).slack i
