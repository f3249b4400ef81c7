-- What the C calls on a lent state of words answer and leave behind, for every input.
--     left                                        the lent words after a call
--     open_number, open_leaves                      an opening on a table's bytes
--     release_number, release_leaves                a release
--     step_number, step_leaves                      a step
--     runs_leave, responses_leave                   what a step leaves of the two other arrays that are lent to it
use Rattle.std.specs.Prelude.{ℕ, List}
use Rattle.tasks.specs.Answer.{Answer}
use Rattle.tasks.specs.Tests.{unless_refused}
use Rattle.table.specs.Judged.{judged}
use Rattle.state.specs.declared.State.{State}
use Rattle.state.specs.Calls.{open_of, release_of, step_of}
use Rattle.dahomike_answer.specs.Number.{answer_number}
use Rattle.engine_words.specs.Words.{words_of, said}

-- the words of the state handed back; "a refused call changes no lent word"
abbrev pub left : Answer → State → List ℕ → List ℕ
left a s ws = unless_refused a (words_of s) ws

-- "what a judgement of the table refuses, else the opened state of its plan"
unfoldable pub open_number : List ℕ → ℕ
open_number t = answer_number (judged t).answer 0

unfoldable pub open_leaves : List ℕ → List ℕ → List ℕ
open_leaves t ws = left (judged t).answer (open_of (judged t).plan).state ws

unfoldable pub release_number : List ℕ → ℕ → ℕ → ℕ
release_number ws i c = answer_number (release_of (said ws) i c).answer 0

unfoldable pub release_leaves : List ℕ → ℕ → ℕ → List ℕ
release_leaves ws i c = left (release_of (said ws) i c).answer (release_of (said ws) i c).state ws

unfoldable pub step_number : List ℕ → ℕ
step_number ws = answer_number (step_of (said ws)).answer 0

unfoldable pub step_leaves : List ℕ → List ℕ
step_leaves ws = left (step_of (said ws)).answer (step_of (said ws)).state ws

-- "runs and responses as `step` answers them, left as they are on a refusal"
unfoldable pub runs_leave : List ℕ → List ℕ → List ℕ
runs_leave ws runs = unless_refused (step_of (said ws)).answer (step_of (said ws)).runs runs

unfoldable pub responses_leave : List ℕ → List ℕ → List ℕ
responses_leave ws responses = unless_refused (step_of (said ws)).answer (step_of (said ws)).responses responses
