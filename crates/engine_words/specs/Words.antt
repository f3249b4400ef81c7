-- The engine's state as 653 words of 32 bits, which a controller in C lends: the words of a state, and the state that words say.
--     word_of_flag, task_words, plan_words, machine_words, words_of      a flag, a task, a plan, the rest of a state, and a state as words
--     part                some of the words
--     is_byte, is_flag, fits     whether a word is in the range of a byte or a flag, and whether every word is in the range of its field
--     task_in, plan_in, fields_in, said      the state that words say
use Rattle.std.specs.Prelude.{ℕ, ◌+◌, ◌*◌, Bool, cond, ◌&&◌, List, [], ◌∷◌, ◌++◌, leb, eqb}
use Rattle.laws.specs.Tab.{tab}
use Rattle.tasks.specs.declared.Task.{Task}
use Rattle.tasks.specs.declared.Plan.{Plan}
use Rattle.tasks.specs.TaskSet.{row}
use Rattle.tasks.specs.Content.{task_of}
use Rattle.numbers.specs.Bytes.{entries}
use Rattle.state.specs.declared.State.{State}
use Rattle.state.specs.State.{flag_at, zero_state}
use Rattle.state.specs.SoundState.{all_of}

-- "0 or 1"
unfoldable pub word_of_flag : Bool → ℕ
word_of_flag b = cond b 1 0

-- "T, C, Y, D"
unfoldable pub task_words : Task → List ℕ
task_words t = t.separation ∷ t.budget ∷ t.offset ∷ t.deadline ∷ []

unfoldable pub plan_words : Plan → List ℕ
plan_words p =
    -- "0 edition; 1 offered, 0 or 1; 2 cores; 3 loops"
    (p.edition ∷ word_of_flag p.offered ∷ p.cores ∷ p.tasks ∷ [])
    -- "4 to 11 labels"
    ++ (tab (row p.labels) 8
    -- "12 to 75 sixteen loops of T, C, Y, D"
    ++ (entries (λ i. task_words (task_of p.task i)) 16
    -- "76 to 91 slack"
    ++ tab (row p.slack) 16))

unfoldable pub machine_words : State → List ℕ
machine_words s =
    -- "92 clock"
    (s.clock ∷ [])
    -- "93 to 108 the jobs that each loop holds"
    ++ (tab (row s.jobs) 16
    -- "109 to 124 the flags of a taken release, 0 or 1"
    ++ (tab (λ i. word_of_flag (flag_at s i)) 16
    -- "125 to 140 last taken releases"
    ++ (tab (row s.last) 16
    -- "141 to 396 remaining work of the 256 places"
    ++ (tab (row s.remaining) 256
    -- "397 to 652 their release ticks"
    ++ tab (row s.release) 256))))

unfoldable pub words_of : State → List ℕ
words_of s = plan_words s.plan ++ machine_words s

-- n words from `at` on
unfoldable pub part : List ℕ → ℕ → ℕ → List ℕ
part ws at n = tab (λ i. row ws (at + i)) n

abbrev pub is_byte : ℕ → Bool
is_byte w = leb w 255

abbrev pub is_flag : ℕ → Bool
is_flag w = leb w 1

-- "every word in the range of its field (a byte, a flag, a count)"; a count is any word
unfoldable pub fits : List ℕ → Bool
fits ws =
    is_byte (row ws 0)
    && (is_flag (row ws 1)
    && (all_of (λ i. is_byte (row ws (4 + i))) 8
    && all_of (λ i. is_flag (row ws (109 + i))) 16))

-- the task whose four words begin at `at`
unfoldable pub task_in : List ℕ → ℕ → Task
task_in ws at = record { separation = row ws at; budget = row ws (at + 1); offset = row ws (at + 2); deadline = row ws (at + 3) }

unfoldable pub plan_in : List ℕ → Plan
plan_in ws =
    record {
      edition = row ws 0;
      offered = eqb (row ws 1) 1;
      cores = row ws 2;
      tasks = row ws 3;
      labels = part ws 4 8;
      task = tab (λ i. task_in ws (12 + 4 * i)) 16;
      slack = part ws 76 16;
    }

unfoldable pub fields_in : List ℕ → State
fields_in ws =
    record {
      plan = plan_in ws;
      clock = row ws 92;
      jobs = part ws 93 16;
      released = tab (λ i. eqb (row ws (109 + i)) 1) 16;
      last = part ws 125 16;
      remaining = part ws 141 256;
      release = part ws 397 256;
    }

-- "Words that don't fit make a state that isn't sound": a state of zeros is none
unfoldable pub said : List ℕ → State
said ws = cond (fits ws) (fields_in ws) zero_state
