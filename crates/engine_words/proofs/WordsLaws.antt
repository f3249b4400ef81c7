-- That the words of a state and the state that words say are each the other's inverse.
--     flag_word, word_flag        a flag as a word and back
--     length-plan, length_machine, length-words      how many words there are
--     edition-byte, label-byte    bytes of words that fit
--     plan-again, machine_again   the words of what words say
--     words-said                  words that fit are the words of the state that they say
--     words-fit                   the words of a state fit
--     said-words                  they say that state
--     fields_shaped, said-whole   the fields in words have their lengths, and any words say a whole state
--     misfit_unsound              words that do not fit say a state that is not sound
use Rattle.std.specs.Prelude.{ℕ, zero, suc, ◌+◌, ◌*◌, ◌≤◌, ◌<◌, Bool, true, ◌&&◌, ◌≡◌, List, [], ◌∷◌, ◌++◌, length}
use Rattle.std.proofs.Math.Bool.{false}
use Rattle.std.proofs.Math.Path.{refl, sym, ap}
use Rattle.std.proofs.Common.{subst, ◌∙◌, add-zero, arith, length-append, leb-true}
use Rattle.std.proofs.lemmas.List.{length-replicate}
use Rattle.std.proofs.Math.Dec.{eqb}
use Rattle.laws.specs.Tab.{tab}
use Rattle.laws.specs.TabLaws.{length-tab, get_or-tab, get_or_alike, tab_ext, ext_tab}
use Rattle.laws.specs.EveryLaws.{both}
use Rattle.tasks.specs.declared.Task.{Task}
use Rattle.tasks.specs.declared.Plan.{Plan}
use Rattle.tasks.specs.TaskSet.{row}
use Rattle.tasks.specs.Content.{task_of, no_task, zero_plan}
use Rattle.tasks.specs.Tests.{test_plan}
use Rattle.numbers.specs.Bytes.{byte, entries}
use Rattle.numbers.specs.ByteLaws.{length-entries, byte-entries, entries-same}
use Rattle.state.specs.declared.State.{State}
use Rattle.state.specs.State.{flag_at, zero_state}
use Rattle.state.specs.SoundState.{all_of, sound_of}
use Rattle.state.specs.Fit.{Shaped}
use Rattle.state.proofs.AllLaws.{all-at, of-all}
use Rattle.engine_words.specs.Words.{word_of_flag, task_words, plan_words, machine_words, words_of, part, is_byte, is_flag, fits, task_in, plan_in, fields_in, said}
use Rattle.engine_words.proofs.PartLaws.{length_part, row-part, tab-row, row-left, row-right, part-all, part-next, part_left, part_right, part-first, entries-part}
use Rattle.engine_words.specs.WordsLaws.{Whole}

pub flag_word : (w : ℕ) → is_flag w ≡ true → word_of_flag (eqb w 1) ≡ w
unfolding word_of_flag
flag_word zero e = refl
flag_word (suc zero) e = refl
flag_word (suc (suc w)) e = absurd (omega (arith, leb-true (suc (suc w)) _ e))

pub word_flag : (b : Bool) → eqb (word_of_flag b) 1 ≡ b
unfolding word_of_flag
word_flag true = refl
word_flag false = refl

flag_fits : (b : Bool) → is_flag (word_of_flag b) ≡ true
unfolding word_of_flag
flag_fits true = refl
flag_fits false = refl

-- ---- how many words there are

two : (a b : List ℕ) {m n : ℕ} → length a ≡ m → length b ≡ n → length (a ++ b) ≡ m + n
two a b e q = length-append a b ∙ rw (e, q)

pub length-tasks : (l : List Task) → length (entries (λ i. task_words (task_of l i)) 16) ≡ 64
unfolding task_words
length-tasks l = length-entries 4 (λ i. task_words (task_of l i)) (λ i. refl) 16

pub length-plan : (p : Plan) → length (plan_words p) ≡ 92
unfolding plan_words
length-plan p =
    let slack = tab (row p.slack) 16 in
    let tasks = entries (λ i. task_words (task_of p.task i)) 16 in
    two (p.edition ∷ word_of_flag p.offered ∷ p.cores ∷ p.tasks ∷ []) (tab (row p.labels) 8 ++ (tasks ++ slack)) refl
    (two (tab (row p.labels) 8) (tasks ++ slack) (length-tab (row p.labels) 8)
    (two tasks slack (length-tasks p.task) (length-tab (row p.slack) 16)))

pub length_machine : (s : State) → length (machine_words s) ≡ 561
unfolding machine_words
length_machine s =
    let release = tab (row s.release) 256 in
    let places = tab (row s.remaining) 256 ++ release in
    let ticks = tab (row s.last) 16 ++ places in
    let flags = tab (λ i. word_of_flag (flag_at s i)) 16 in
    two (s.clock ∷ []) (tab (row s.jobs) 16 ++ (flags ++ ticks)) refl
    (two (tab (row s.jobs) 16) (flags ++ ticks) (length-tab (row s.jobs) 16)
    (two flags ticks (length-tab (λ i. word_of_flag (flag_at s i)) 16)
    (two (tab (row s.last) 16) places (length-tab (row s.last) 16)
    (two (tab (row s.remaining) 256) release (length-tab (row s.remaining) 256) (length-tab (row s.release) 256)))))

pub length-words : (s : State) → length (words_of s) ≡ 653
unfolding words_of
length-words s = two (plan_words s.plan) (machine_words s) (length-plan s.plan) (length_machine s)

-- ---- the words of what words say

all-four : (a b c d : Bool) → a && (b && (c && d)) ≡ true → (a ≡ true) × (b ≡ true) × (c ≡ true) × (d ≡ true)
all-four a b c d e =
    let x = both a (b && (c && d)) e in
    let y = both b (c && d) x.1 in
    let z = both c d y.1 in
    (x.0, y.0, z.0, z.1)

-- a task's words, cut from others
four : (ws : List ℕ) (at : ℕ) → task_words (task_in ws at) ≡ part ws at 4
unfolding task_words task_in part tab
four ws at = rw (add-zero at)

module _ (ws : List ℕ) (f : fits ws ≡ true) where
  fit : (is_byte (row ws 0) ≡ true) × (is_flag (row ws 1) ≡ true) × (all_of (λ i. is_byte (row ws (4 + i))) 8 ≡ true) × (all_of (λ i. is_flag (row ws (109 + i))) 16 ≡ true)
  unfolding fits
  fit = all-four (is_byte (row ws 0)) (is_flag (row ws 1)) (all_of (λ i. is_byte (row ws (4 + i))) 8) (all_of (λ i. is_flag (row ws (109 + i))) 16) f

  pub edition-byte : row ws 0 ≤ 255
  edition-byte = leb-true (row ws 0) 255 fit.0

  pub label-byte : (i : ℕ) → i < 8 → row ws (4 + i) ≤ 255
  label-byte i h = leb-true (row ws (4 + i)) 255 (all-at (λ i. is_byte (row ws (4 + i))) 8 i fit.2 h)

  head_again : row ws 0 ∷ word_of_flag (eqb (row ws 1) 1) ∷ row ws 2 ∷ row ws 3 ∷ [] ≡ part ws 0 4
  unfolding part tab
  head_again = rw (flag_word (row ws 1) fit.1)

  tasks-again : entries (λ i. task_words (task_of (tab (λ i. task_in ws (12 + 4 * i)) 16) i)) 16 ≡ part ws 12 64
  unfolding task_of
  tasks-again =
      entries-same _ (λ i. part ws (12 + 4 * i) 4) 16 (λ i h. rw (get_or-tab (λ i. task_in ws (12 + 4 * i)) 16 i no_task h) (four ws (12 + 4 * i)))
      ∙ entries-part ws 4 12 16

  flags_again : tab (λ i. word_of_flag (flag_at (fields_in ws) i)) 16 ≡ part ws 109 16
  unfolding flag_at fields_in part
  flags_again =
      tab_ext _ _ 16
      (λ i h. rw (get_or-tab (λ i. eqb (row ws (109 + i)) 1) 16 i false h) (flag_word (row ws (109 + i)) (all-at (λ i. is_flag (row ws (109 + i))) 16 i fit.3 h)))

  joins : (a b : List ℕ) (at m n : ℕ) → a ≡ part ws at m → b ≡ part ws (at + m) n → a ++ b ≡ part ws at (m + n)
  joins a b at m n e q = rw (e, q) (part-next ws at m n (at + m) refl)

  row-again : (at n : ℕ) → tab (row (part ws at n)) n ≡ part ws at n
  row-again at n = tab-row (part ws at n) n (length_part ws at n)

  pub plan-again : plan_words (plan_in ws) ≡ part ws 0 92
  unfolding plan_words plan_in
  plan-again =
      joins _ _ 0 4 88 head_again
      (joins _ _ 4 8 80 (row-again 4 8) (joins _ _ 12 64 16 tasks-again (row-again 76 16)))

  pub machine_again : machine_words (fields_in ws) ≡ part ws 92 561
  unfolding machine_words fields_in part tab
  machine_again =
      joins (row ws 92 ∷ []) _ 92 1 560 refl
      (joins _ _ 93 16 544 (row-again 93 16)
      (joins _ _ 109 16 528 flags_again
      (joins _ _ 125 16 512 (row-again 125 16)
      (joins _ _ 141 256 256 (row-again 141 256) (row-again 397 256)))))

  pub words-said : length ws ≡ 653 → words_of (said ws) ≡ ws
  unfolding words_of said fields_in
  words-said e = rw f (joins _ _ 0 92 561 plan-again machine_again ∙ part-all ws 653 e)

-- ---- what the words of a state say

module _ (s : State) (W : Whole s) where
  abbrev p : Plan
  p = s.plan

  abbrev ws : List ℕ
  ws = words_of s

  abbrev head : List ℕ
  head = p.edition ∷ word_of_flag p.offered ∷ p.cores ∷ p.tasks ∷ []

  abbrev labels : List ℕ
  labels = tab (row p.labels) 8

  abbrev tasks : List ℕ
  tasks = entries (λ i. task_words (task_of p.task i)) 16

  abbrev slack : List ℕ
  slack = tab (row p.slack) 16

  -- a part of the plan's words, and one of the others
  in_plan : (at n : ℕ) → at + n ≤ 92 → part ws at n ≡ part (head ++ (labels ++ (tasks ++ slack))) at n
  unfolding words_of plan_words
  in_plan at n h = part_left (plan_words p) (machine_words s) at n (omega (arith, length-plan p))

  in_machine : (at k n : ℕ) → at ≡ 92 + k → part ws at n ≡ part (machine_words s) k n
  unfolding words_of
  in_machine at k n e = part_right (plan_words p) (machine_words s) at k n (omega (arith, length-plan p))

  labels-back : part ws 4 8 ≡ p.labels
  labels-back =
      in_plan 4 8 (omega arith)
      ∙ part_right head (labels ++ (tasks ++ slack)) 4 0 8 refl
      ∙ part-first labels (tasks ++ slack) 8 (length-tab _ 8)
      ∙ tab-row p.labels 8 W.shaped.plan.labels

  slack-back : part ws 76 16 ≡ p.slack
  slack-back =
      in_plan 76 16 (omega arith)
      ∙ part_right head (labels ++ (tasks ++ slack)) 76 72 16 refl
      ∙ part_right labels (tasks ++ slack) 72 64 16 (omega (arith, length-tab (row p.labels) 8))
      ∙ part_right tasks slack 64 0 16 (omega (arith, length-tasks p.task))
      ∙ part-all slack 16 (length-tab _ 16)
      ∙ tab-row p.slack 16 W.shaped.plan.slack

  task_word : (i j : ℕ) → i < 16 → j < 4 → row ws (12 + 4 * i + j) ≡ row (task_words (task_of p.task i)) j
  unfolding words_of plan_words task_words row byte
  task_word i j h l =
      row-left (plan_words p) (machine_words s) (12 + 4 * i + j) (omega (arith, length-plan p))
      ∙ row-right head (labels ++ (tasks ++ slack)) (12 + 4 * i + j) (8 + (4 * i + j)) (omega arith)
      ∙ row-right labels (tasks ++ slack) (8 + (4 * i + j)) (4 * i + j) (omega (arith, length-tab (row p.labels) 8))
      ∙ byte-entries 4 (λ i. task_words (task_of p.task i)) (λ i. refl) 16 i j slack h l

  task-back : (i : ℕ) → i < 16 → task_in ws (12 + 4 * i) ≡ task_of p.task i
  unfolding task_in task_words row
  task-back i h =
      rw (ap (row ws) (sym (add-zero (12 + 4 * i))) ∙ task_word i 0 h (omega arith), task_word i 1 h (omega arith), task_word i 2 h (omega arith), task_word i 3 h (omega arith))

  tasks-back : tab (λ i. task_in ws (12 + 4 * i)) 16 ≡ p.task
  unfolding task_of
  tasks-back = tab_ext _ (task_of p.task) 16 task-back ∙ sym (ext_tab (task_of p.task) p.task 16 no_task W.shaped.plan.task (λ i h. refl))

  pub plan-back : plan_in ws ≡ p
  unfolding plan_in words_of plan_words row
  plan-back = rw (labels-back, tasks-back, slack-back, word_flag p.offered)

  abbrev jobs : List ℕ
  jobs = tab (row s.jobs) 16

  abbrev flags : List ℕ
  flags = tab (λ i. word_of_flag (flag_at s i)) 16

  abbrev last : List ℕ
  last = tab (row s.last) 16

  abbrev remaining : List ℕ
  remaining = tab (row s.remaining) 256

  abbrev release : List ℕ
  release = tab (row s.release) 256

  -- the words behind the clock's, the jobs', the flags' and the last releases'
  behind-clock : (at k n : ℕ) → at ≡ 93 + k → part ws at n ≡ part (jobs ++ (flags ++ (last ++ (remaining ++ release)))) k n
  unfolding machine_words
  behind-clock at k n e =
      in_machine at (1 + k) n (omega arith) ∙ part_right (s.clock ∷ []) (jobs ++ (flags ++ (last ++ (remaining ++ release)))) (1 + k) k n refl

  behind-jobs : (at k n : ℕ) → at ≡ 109 + k → part ws at n ≡ part (flags ++ (last ++ (remaining ++ release))) k n
  behind-jobs at k n e =
      behind-clock at (16 + k) n (omega arith)
      ∙ part_right jobs (flags ++ (last ++ (remaining ++ release))) (16 + k) k n (omega (arith, length-tab (row s.jobs) 16))

  behind_flags : (at k n : ℕ) → at ≡ 125 + k → part ws at n ≡ part (last ++ (remaining ++ release)) k n
  behind_flags at k n e =
      behind-jobs at (16 + k) n (omega arith)
      ∙ part_right flags (last ++ (remaining ++ release)) (16 + k) k n (omega (arith, length-tab (λ i. word_of_flag (flag_at s i)) 16))

  behind-last : (at k n : ℕ) → at ≡ 141 + k → part ws at n ≡ part (remaining ++ release) k n
  behind-last at k n e =
      behind_flags at (16 + k) n (omega arith)
      ∙ part_right last (remaining ++ release) (16 + k) k n (omega (arith, length-tab (row s.last) 16))

  jobs-back : part ws 93 16 ≡ s.jobs
  jobs-back = behind-clock 93 0 16 refl ∙ part-first jobs _ 16 (length-tab _ 16) ∙ tab-row s.jobs 16 W.shaped.jobs

  flags_back : part ws 109 16 ≡ flags
  flags_back = behind-jobs 109 0 16 refl ∙ part-first flags _ 16 (length-tab _ 16)

  last-back : part ws 125 16 ≡ s.last
  last-back = behind_flags 125 0 16 refl ∙ part-first last _ 16 (length-tab _ 16) ∙ tab-row s.last 16 W.shaped.last

  remaining-back : part ws 141 256 ≡ s.remaining
  remaining-back = behind-last 141 0 256 refl ∙ part-first remaining release 256 (length-tab _ 256) ∙ tab-row s.remaining 256 W.shaped.remaining

  release-back : part ws 397 256 ≡ s.release
  release-back =
      behind-last 397 256 256 refl
      ∙ part_right remaining release 256 0 256 (omega (arith, length-tab (row s.remaining) 256))
      ∙ part-all release 256 (length-tab _ 256)
      ∙ tab-row s.release 256 W.shaped.release

  flag_back : (i : ℕ) → i < 16 → row ws (109 + i) ≡ word_of_flag (flag_at s i)
  unfolding row
  flag_back i h =
      sym (row-part ws 109 16 i h) ∙ ap (λ l. row l i) flags_back ∙ get_or-tab (λ i. word_of_flag (flag_at s i)) 16 i 0 h

  released-back : tab (λ i. eqb (row ws (109 + i)) 1) 16 ≡ s.released
  unfolding flag_at
  released-back =
      tab_ext _ (flag_at s) 16 (λ i h. rw (flag_back i h) (word_flag (flag_at s i)))
      ∙ sym (ext_tab (flag_at s) s.released 16 false W.shaped.released (λ i h. refl))

  clock-back : row ws 92 ≡ s.clock
  unfolding words_of machine_words row
  clock-back = row-right (plan_words p) (machine_words s) 92 0 (omega (arith, length-plan p))

  pub fields_back : fields_in ws ≡ s
  unfolding fields_in
  fields_back = rw (plan-back, clock-back, jobs-back, released-back, last-back, remaining-back, release-back)

  edition-fits : is_byte (row ws 0) ≡ true
  unfolding words_of plan_words row
  edition-fits = W.edition

  offered-fits : is_flag (row ws 1) ≡ true
  unfolding words_of plan_words row
  offered-fits = flag_fits p.offered

  labels-fit : all_of (λ i. is_byte (row ws (4 + i))) 8 ≡ true
  labels-fit = of-all _ 8 (λ i h. rw (sym (row-part ws 4 8 i h) ∙ ap (λ l. row l i) labels-back) (W.labels i h))

  flags_fit : all_of (λ i. is_flag (row ws (109 + i))) 16 ≡ true
  flags_fit = of-all _ 16 (λ i h. rw (flag_back i h) (flag_fits (flag_at s i)))

  pub words-fit : fits ws ≡ true
  unfolding fits
  words-fit = rw (edition-fits, offered-fits, labels-fit) flags_fit

  pub said-words : said ws ≡ s
  unfolding said
  said-words = rw words-fit fields_back

-- ---- words that do not fit, and words that do

pub misfit_zero : (ws : List ℕ) → fits ws ≡ false → said ws ≡ zero_state
unfolding said
misfit_zero ws e = rw e

pub zero_unsound : sound_of zero_state ≡ false
unfolding sound_of zero_state zero_plan test_plan
zero_unsound = refl

pub misfit_unsound : (ws : List ℕ) → fits ws ≡ false → sound_of (said ws) ≡ false
misfit_unsound ws e = rw (misfit_zero ws e) zero_unsound

zero_shaped : Shaped zero_state
unfolding zero_state zero_plan
zero_shaped =
    record {
      plan = record { labels = refl; task = refl; slack = refl };
      jobs = refl;
      released = refl;
      last = refl;
      remaining = length-replicate {A = ℕ} 256 0;
      release = length-replicate {A = ℕ} 256 0;
    }

zero_whole : Whole zero_state
unfolding zero_state zero_plan row
zero_whole = record { shaped = zero_shaped; edition = refl; labels = λ i h. rw (get_or_alike {A = ℕ} 8 i 0) }

pub fields_shaped : (ws : List ℕ) → Shaped (fields_in ws)
unfolding fields_in plan_in
fields_shaped ws =
    record {
      plan = record { labels = length_part ws 4 8; task = length-tab _ 16; slack = length_part ws 76 16 };
      jobs = length_part ws 93 16;
      released = length-tab _ 16;
      last = length_part ws 125 16;
      remaining = length_part ws 141 256;
      release = length_part ws 397 256;
    }

pub said-whole : (ws : List ℕ) → Whole (said ws)
unfolding said fields_in plan_in
said-whole ws = go (fits ws) refl
  where
    go : (b : Bool) → fits ws ≡ b → Whole (said ws)
    go true f =
        rw f
        (record {
          shaped = fields_shaped ws;
          edition = (fit ws f).0;
          labels = λ i h. rw (row-part ws 4 8 i h) (all-at (λ i. is_byte (row ws (4 + i))) 8 i (fit ws f).2 h);
        })
    go false f = subst Whole (sym (misfit_zero ws f)) zero_whole
