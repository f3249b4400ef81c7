-- A content's bytes, read back.
--     back-edition, back-cores, back-tasks, back-offers, back-tasks-at, back-slack-at    the edition, the counts and the places in them
--     back-label, back-task, back-slack                                     the entries
--     read_back        such a content, which fits a plan and with the found slack where none is offered, is read back from its bytes
use Prim.Native.Nat.{ℕ, ◌+◌, ◌*◌, ◌^◌, ◌≤◌, ◌<◌}
use Rattle.std.proofs.Common.{zero-add, arith, sym, ◌∙◌, ⊎_elim, get_or-append-add, ltb-true, ltb-false, eqb-true}
use Rattle.std.specs.Prelude.{◌≡◌, Bool, ◌⊎◌, ltb}
use Rattle.std.proofs.Math.Path.{refl, fun_ext}
use Rattle.std.proofs.Math.Bool.{true, false, cond}
use mathlib.Core.List.{List, [], ◌∷◌, ◌++◌, append_assoc, append-nil}
use Rattle.std.proofs.Math.ListN.{length, length-append}
use Rattle.std.proofs.lemmas.List.{get_or_at}
use Rattle.std.proofs.Math.Dec.{eqb}
use Rattle.std.proofs.lemmas.Bool.{eqb-false}
use Rattle.laws.specs.Tab.{cut}
use Rattle.laws.specs.TabLaws.{cut_below, cut-above}
use Rattle.tasks.specs.TaskSet.{found, row}
use Rattle.tasks.specs.Content.{Content, no_task}
use Rattle.tasks.specs.Terms.{Passed}
use Rattle.tasks.proofs.TestsLaws.{slack-high}
use Rattle.tasks.proofs.FoundLaws.{found-past}
use Rattle.numbers.specs.Bytes.{byte, number, digits, entries}
use Rattle.codec.specs.Table.{task_size, tasks_from, slack_from, edition_in, core_count, task_count, tasks_at, slack_count, slack_at, task_in, task_set_in, content_in, task_bytes, bytes_of}
use Rattle.numbers.specs.ByteLaws.{number-after, number_digits, length_digits, length-entries, byte-entries, number-entries}
use Rattle.codec.specs.TaskLaws.{length-task, task-same, limits_narrow, task-back}
use Rattle.tasks.proofs.ContentLaws.{content_ext}
use Rattle.tasks.specs.Terms.{Fits}

-- the edition and the cores' section of a content's bytes
abbrev front : Content → List ℕ
front c = c.edition ∷ c.tasks.cores ∷ entries (λ i. c.label i ∷ []) c.tasks.cores

abbrev task_entries : Content → List ℕ
task_entries c = entries (λ i. task_bytes c.edition (c.tasks.task i)) c.tasks.count

abbrev slack_entries : Content → List ℕ
slack_entries c = entries (λ i. digits 4 (c.slack i)) c.offers

-- entries of one byte
label-entry : (f : ℕ → ℕ) (m i : ℕ) (rest : List ℕ) → i < m → byte (entries (λ j. f j ∷ []) m ++ rest) i ≡ f i
unfolding byte
label-entry f m i rest h =
    let place : 1 * i + 0 ≡ i = omega arith in
    rw place at (byte-entries 1 (λ j. f j ∷ []) (λ j. refl) m i 0 rest h (omega arith))

digits_alone : (v : ℕ) → v < 256 ^ 4 → number 4 (digits 4 v) 0 ≡ v
digits_alone v h = rw append-nil at (number_digits 4 v [] [] h)

module _ (c : Content) where
  length_front : length (front c) ≡ tasks_from c.tasks.cores
  length_front = omega (arith, length-entries 1 (λ i. c.label i ∷ []) (λ i. refl) c.tasks.cores)

  length-tasks : length (task_entries c) ≡ task_size c.edition * c.tasks.count
  length-tasks = length-entries (task_size c.edition) (λ i. task_bytes c.edition (c.tasks.task i)) (λ i. length-task _ _) c.tasks.count

  -- the bytes, from the first count after the cores on
  at-tasks : bytes_of c ≡ front c ++ (c.tasks.count ∷ (task_entries c ++ (c.offers ∷ slack_entries c)))
  unfolding bytes_of
  at-tasks = append_assoc (front c) _ _

  -- from the first task on
  in_tasks : bytes_of c ≡ (front c ++ c.tasks.count ∷ []) ++ (task_entries c ++ (c.offers ∷ slack_entries c))
  in_tasks = at-tasks ∙ sym (append_assoc (front c) (c.tasks.count ∷ []) _)

  -- from the slack count on
  at-slack : bytes_of c ≡ (front c ++ (c.tasks.count ∷ task_entries c)) ++ (c.offers ∷ slack_entries c)
  unfolding bytes_of
  at-slack = refl

  -- from the first slack on
  in_slack : bytes_of c ≡ (front c ++ (c.tasks.count ∷ task_entries c) ++ c.offers ∷ []) ++ (slack_entries c ++ [])
  in_slack = at-slack ∙ sym (append_assoc (front c ++ (c.tasks.count ∷ task_entries c)) (c.offers ∷ []) _ ∙ rw append-nil)

  pub back-edition : edition_in (bytes_of c) ≡ c.edition
  unfolding byte bytes_of
  back-edition = refl

  pub back-cores : core_count (bytes_of c) ≡ c.tasks.cores
  unfolding core_count byte bytes_of
  back-cores = refl

  pub back-tasks : task_count (bytes_of c) ≡ c.tasks.count
  unfolding task_count byte
  back-tasks = rw (back-cores, at-tasks) (get_or_at (front c) c.tasks.count _ 0 (tasks_from c.tasks.cores) length_front)

  pub back-tasks-at : tasks_at (bytes_of c) ≡ tasks_from c.tasks.cores + 1
  unfolding tasks_at
  back-tasks-at = rw back-cores

  pub back-slack-at : slack_at (bytes_of c) ≡ slack_from c.edition c.tasks.cores c.tasks.count + 1
  unfolding slack_at
  back-slack-at = rw (back-edition, back-cores, back-tasks)

  length_middle : length (front c ++ (c.tasks.count ∷ task_entries c)) ≡ slack_from c.edition c.tasks.cores c.tasks.count
  length_middle = simp length-append (omega (arith, length_front, length-tasks))

  pub back-offers : slack_count (bytes_of c) ≡ c.offers
  unfolding slack_count byte
  back-offers =
      rw (back-edition, back-cores, back-tasks, at-slack)
      (get_or_at (front c ++ (c.tasks.count ∷ task_entries c)) c.offers _ 0 (slack_from c.edition c.tasks.cores c.tasks.count) length_middle)

  pub back-label : (i : ℕ) → i < c.tasks.cores → byte (bytes_of c) (2 + i) ≡ c.label i
  unfolding byte
  back-label i h =
      let rest : List ℕ = c.tasks.count ∷ (task_entries c ++ (c.offers ∷ slack_entries c)) in
      rw at-tasks
      (get_or-append-add (c.edition ∷ c.tasks.cores ∷ []) (entries (λ j. c.label j ∷ []) c.tasks.cores ++ rest) i 0
      ∙ label-entry c.label c.tasks.cores i rest h)

  -- the byte at d in the entry of task i
  back-byte :
      (i d : ℕ) → i < c.tasks.count → d < task_size c.edition
      → byte (bytes_of c) (tasks_from c.tasks.cores + 1 + task_size c.edition * i + d) ≡ byte (task_bytes c.edition (c.tasks.task i)) d
  unfolding byte
  back-byte i d h l =
      let place : tasks_from c.tasks.cores + 1 + task_size c.edition * i + d ≡ length (front c ++ c.tasks.count ∷ []) + (task_size c.edition * i + d) =
      omega (arith, length-append (front c) (c.tasks.count ∷ []), length_front) in
      rw (in_tasks, place)
      (get_or-append-add (front c ++ c.tasks.count ∷ []) _ (task_size c.edition * i + d) 0
      ∙ byte-entries (task_size c.edition) (λ j. task_bytes c.edition (c.tasks.task j)) (λ j. length-task _ _) c.tasks.count i d _ h l)

  pub back-slack :
      (i : ℕ) → i < c.offers → c.slack i < 256 ^ 4
      → number 4 (bytes_of c) (slack_from c.edition c.tasks.cores c.tasks.count + 1 + 4 * i) ≡ c.slack i
  back-slack i h small =
      let place : slack_from c.edition c.tasks.cores c.tasks.count + 1 + 4 * i ≡ length (front c ++ (c.tasks.count ∷ task_entries c) ++ c.offers ∷ []) + (4 * i + 0) =
      omega (arith, length-append (front c ++ (c.tasks.count ∷ task_entries c)) (c.offers ∷ []), length_middle) in
      rw (in_slack, place)
      (number-after 4 (front c ++ (c.tasks.count ∷ task_entries c) ++ c.offers ∷ []) _ (4 * i + 0)
      ∙ number-entries 4 (λ j. digits 4 (c.slack j)) (λ j. length_digits 4 _) 4 c.offers i 0 _ h (omega arith)
      ∙ digits_alone (c.slack i) small)

slack_narrow : (c : Content) → Passed c → (i : ℕ) → i < c.tasks.count → c.slack i < 256 ^ 4
slack_narrow c q i h = omega (arith, slack-high c q i h)

-- a row cut off at n, of which it is known what it is below n, and which is z from n on
cut-row :
    {A : Type 0} (n m : ℕ) (f g : ℕ → A) (z : A) → n ≡ m → ((i : ℕ) → i < m → f i ≡ g i) → ((i : ℕ) → m ≤ i → g i ≡ z)
    → (i : ℕ) → cut n f z i ≡ g i
cut-row n m f g z e below past i = go (ltb i m) refl
  where
    go : (b : Bool) → ltb i m ≡ b → cut n f z i ≡ g i
    go true q =
        let h = ltb-true i m q in
        cut_below n f z i (omega arith) ∙ below i h
    go false q =
        let h = ltb-false i m q in
        cut-above n f z i (omega arith) ∙ sym (past i h)

module _ (c : Content) (k : Fits c) (q : Passed c) where
  pub back-task : (i : ℕ) → i < c.tasks.count → task_in (edition_in (bytes_of c)) (bytes_of c) (tasks_at (bytes_of c) + task_size (edition_in (bytes_of c)) * i) ≡ c.tasks.task i
  back-task i h =
      rw (back-edition c, back-tasks-at c)
      (task-same c.edition (bytes_of c) (task_bytes c.edition (c.tasks.task i)) (tasks_from c.tasks.cores + 1 + task_size c.edition * i) 0
      (λ d l. rw zero-add (back-byte c i d h l))
      ∙ task-back c.edition (c.tasks.task i) (limits_narrow c q i h)
      ∙ k.deadlines i)

  back-row : (i : ℕ) → cut (task_count (bytes_of c)) (λ j. task_in (edition_in (bytes_of c)) (bytes_of c) (tasks_at (bytes_of c) + task_size (edition_in (bytes_of c)) * j)) no_task i ≡ c.tasks.task i
  back-row = cut-row _ c.tasks.count _ c.tasks.task no_task (back-tasks c) back-task k.task-past

  back-set : task_set_in (bytes_of c) ≡ c.tasks
  unfolding task_set_in
  back-set = λ j. record { cores = back-cores c j; count = back-tasks c j; task = λ i. back-row i j }

  -- the slack where none is offered
  back_found : c.offers ≡ 0 → (i : ℕ) → row (found (task_set_in (bytes_of c))) i ≡ c.slack i
  back_found z i = rw back-set (go (ltb i c.tasks.count) refl)
    where
      go : (b : Bool) → ltb i c.tasks.count ≡ b → row (found c.tasks) i ≡ c.slack i
      go true e = sym (q.as_found z i (ltb-true _ _ e))
      go false e = found-past c.tasks q.limits i (ltb-false _ _ e) ∙ sym (k.slack-past i (ltb-false _ _ e))

  -- the slack where it is offered
  back-offered : c.offers ≡ c.tasks.count → (i : ℕ) → cut (task_count (bytes_of c)) (λ j. number 4 (bytes_of c) (slack_at (bytes_of c) + 4 * j)) 0 i ≡ c.slack i
  back-offered o =
      cut-row _ c.tasks.count _ c.slack 0 (back-tasks c)
      (λ i h. rw (back-slack-at c) (back-slack c i (omega arith) (slack_narrow c q i h)))
      k.slack-past

  back-row-slack : (i : ℕ) → (content_in (bytes_of c)).slack i ≡ c.slack i
  unfolding content_in
  back-row-slack i = rw (back-offers c) (go (eqb c.offers 0) refl k.offers)
    where
      go :
          (b : Bool) → eqb c.offers 0 ≡ b → (c.offers ≡ 0) ⊎ (c.offers ≡ c.tasks.count)
          → cond
          (eqb c.offers 0)
          (row (found (task_set_in (bytes_of c))))
          (cut (task_count (bytes_of c)) (λ j. number 4 (bytes_of c) (slack_at (bytes_of c) + 4 * j)) 0)
          i
          ≡ c.slack i
      go true e o = rw e (back_found (eqb-true _ _ e) i)
      go false e o =
          rw e
          (⊎_elim (λ (z : c.offers ≡ 0). absurd (eqb-false _ _ e z)) (λ (w : c.offers ≡ c.tasks.count). back-offered w i) o)

  pub read_back : content_in (bytes_of c) ≡ c
  unfolding content_in
  read_back =
      content_ext (content_in (bytes_of c)) c (back-edition c) back-set
      (fun_ext (cut-row _ c.tasks.cores _ c.label 0 (back-cores c) (back-label c) k.label-past))
      (back-offers c)
      (fun_ext back-row-slack)
