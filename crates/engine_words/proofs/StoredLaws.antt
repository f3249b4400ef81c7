-- Words that are stored part by part, over any others.
--     plan-stored, machine_stored     the words of a plan, and those of a state behind its plan's
--     state-stored                    both, over 653 words
--     machine_over                    the words of a state over those of one with the same plan
use Rattle.std.specs.Prelude.{ℕ, ◌+◌, ◌≡◌, List, ◌++◌}
use Rattle.std.proofs.Common.{sym, ◌∙◌, append-nil, arith, length-append, drop_of_length-le}
use Rattle.std.proofs.Math.ListN.{length, set}
use Rattle.std.proofs.Math.Seq.{take-append_seam, sets}
use Rattle.std.proofs.lemmas.List.Edits.{sets-eq}
use Rattle.laws.specs.Tab.{tab}
use Rattle.laws.specs.TabLaws.{length-tab}
use Rattle.laws.specs.SetsLaws.{sets-next, sets-whole}
use Rattle.tasks.specs.declared.Plan.{Plan}
use Rattle.tasks.specs.TaskSet.{row}
use Rattle.tasks.specs.Content.{task_of}
use Rattle.numbers.specs.Bytes.{entries}
use Rattle.state.specs.declared.State.{State}
use Rattle.state.specs.State.{flag_at}
use Rattle.engine_words.specs.Words.{word_of_flag, task_words, plan_words, machine_words, words_of}
use Rattle.engine_words.proofs.WordsLaws.{length-tasks, length-plan, length_machine, length-words}

module _ (l : List ℕ) (p : Plan) where
  pub plan-stored :
      sets
      (sets (sets (set (set (set (set l 0 p.edition) 1 (word_of_flag p.offered)) 2 p.cores) 3 p.tasks) 4 (tab (row p.labels) 8)) 12
      (entries (λ i. task_words (task_of p.task i)) 16)) 76 (tab (row p.slack) 16)
      ≡ sets l 0 (plan_words p)
  unfolding plan_words
  plan-stored =
      let head = set (set (set (set l 0 p.edition) 1 (word_of_flag p.offered)) 2 p.cores) 3 p.tasks in
      let labels = tab (row p.labels) 8 in
      let tasks = entries (λ i. task_words (task_of p.task i)) 16 in
      let slack = tab (row p.slack) 16 in
      sets-next (sets head 4 labels) 12 76 tasks slack (omega (arith, length-tasks p.task))
      ∙ sets-next head 4 12 labels (tasks ++ slack) (omega (arith, length-tab (row p.labels) 8))

module _ (l : List ℕ) (s : State) where
  pub machine_stored :
      sets
      (sets
      (sets (sets (sets (set l 92 s.clock) 93 (tab (row s.jobs) 16)) 109 (tab (λ i. word_of_flag (flag_at s i)) 16)) 125 (tab (row s.last) 16))
      141 (tab (row s.remaining) 256)) 397 (tab (row s.release) 256)
      ≡ sets l 92 (machine_words s)
  unfolding machine_words
  machine_stored =
      let first = set l 92 s.clock in
      let jobs = tab (row s.jobs) 16 in
      let flags = tab (λ i. word_of_flag (flag_at s i)) 16 in
      let last = tab (row s.last) 16 in
      let remaining = tab (row s.remaining) 256 in
      let release = tab (row s.release) 256 in
      let flagged = sets (sets first 93 jobs) 109 flags in
      sets-next (sets flagged 125 last) 141 397 remaining release (omega (arith, length-tab (row s.remaining) 256))
      ∙ sets-next flagged 125 141 last (remaining ++ release) (omega (arith, length-tab (row s.last) 16))
      ∙ sets-next (sets first 93 jobs) 109 125 flags (last ++ (remaining ++ release)) (omega (arith, length-tab (λ i. word_of_flag (flag_at s i)) 16))
      ∙ sets-next first 93 109 jobs (flags ++ (last ++ (remaining ++ release))) (omega (arith, length-tab (row s.jobs) 16))

  pub state-stored : length l ≡ 653 → sets (sets l 0 (plan_words s.plan)) 92 (machine_words s) ≡ words_of s
  unfolding words_of
  state-stored e =
      sets-next l 0 92 (plan_words s.plan) (machine_words s) (omega (arith, length-plan s.plan))
      ∙ sets-whole l (words_of s) (omega (arith, length-words s))
      ∙ rw (drop_of_length-le l {i = length (words_of s)} (omega (arith, length-words s))) (append-nil (words_of s))

-- a list as long as the second of two, stored over it
over : (a b c : List ℕ) (n : ℕ) → length a ≡ n → length b ≡ length c → sets (a ++ b) n c ≡ a ++ c
over a b c n e q =
    sets-eq c (a ++ b) n (omega (arith, length-append a b))
    ∙ rw (sym e, take-append_seam a b, drop_of_length-le (a ++ b) {i = length a + length c} (omega (arith, length-append a b)))
    (append-nil (a ++ c))

pub machine_over : (s t : State) → s.plan ≡ t.plan → sets (words_of s) 92 (machine_words t) ≡ words_of t
unfolding words_of
machine_over s t e = over (plan_words s.plan) (machine_words s) (machine_words t) 92 (length-plan s.plan) (omega (arith, length_machine s, length_machine t)) ∙ rw e
