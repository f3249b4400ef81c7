-- A tick of a machine that fits, by the arrays of its state and in the order of the code.
--     keyed                the keys of the state's loops are those of the machine's heads
--     runs-picked          the picks are the loops on the cores
--     run-picked           who ran
use Prim.Native.Nat.{ℕ, suc, ◌+◌, ◌*◌, ◌≤◌, ◌<◌}
use Rattle.std.specs.Prelude.{Bool, cond, ◌&&◌, ◌≡◌, take, eqb}
use Rattle.std.proofs.Math.Bool.{true, false}
use Rattle.std.proofs.Common.{true≢false, ◌∙◌, le_refl, arith, length-take, get_or-take}
use Rattle.std.proofs.Math.Path.{refl, sym, ap}
use mathlib.Core.List.{List, [], ◌∷◌}
use Rattle.std.proofs.Math.ListN.{length, get_or, get_or-eq_default}
use Rattle.std.proofs.Math.Dec.{ltb}
use borrow.Author.Tests.{ltb-true, ltb-false, ne_eqb}
use Rattle.laws.specs.Tab.{tab, cut}
use Rattle.laws.specs.TabLaws.{length-tab, get_or-tab, tab_ext, cut_below, cut-above}
use Rattle.laws.specs.Rank.{ranked}
use Rattle.laws.specs.RankLaws.{ranked-rest}
use Rattle.tasks.specs.declared.Plan.{Plan}
use Rattle.tasks.specs.TaskSet.{TaskSet, row}
use Rattle.tasks.specs.Content.{content_of, task_of}
use Rattle.machine.specs.Machine.{Job, job, release_tick, Lane, Machine, opened, waiting, chosen, on_core, runs}
use Rattle.state.specs.State.{jobs_in, release_in}
use Rattle.choice.specs.Key.{key_of_none, head_key, key_of, sooner}
use Rattle.choice.proofs.KeyLaws.{key-small, key-of-task, ranked-keys}
use Rattle.choice.specs.Pick.{keys_after, pick_at, key_at, keys_of}
use Rattle.choice.specs.RankPickLaws.{key_if, Keyed}
use Rattle.choice.proofs.RankPickLaws.{picks_rank, picks_taken}
use Rattle.state.specs.Fit.{Fit}
use Rattle.state.proofs.FitLaws.{in_task, in_count, in_cores, fit-tasks, fit-limits, idle-lane, known-lane}
use Rattle.state.proofs.ViewLaws.{job-at, row-jobs, row-release}

module _ (p : Plan) (M : Machine) (F : Fit p M) where
  abbrev s : TaskSet
  s = (content_of p).tasks

  -- a loop without a job, and one with a head
  waits_not : (i : ℕ) → (M.lane i).queue ≡ [] → waiting M i ≡ false
  unfolding waiting
  waits_not i e = rw e

  waits : (i a w : ℕ) (q : List Job) → (M.lane i).queue ≡ job a w ∷ q → waiting M i ≡ true
  unfolding waiting
  waits i a w q e = rw e

  key-at : (i a w : ℕ) (q : List Job) → (M.lane i).queue ≡ job a w ∷ q → key_of s M i ≡ head_key a (s.task i).offset i
  unfolding key_of
  key-at i a w q e = rw e

  -- a head's loop is in the table, its release not after the clock, and its offset small
  head_known : (i a w : ℕ) (q : List Job) → (M.lane i).queue ≡ job a w ∷ q → i < p.tasks
  unfolding opened
  head_known i a w q e = go (ltb i p.tasks) refl
    where
      go : (b : Bool) → ltb i p.tasks ≡ b → i < p.tasks
      go true f = ltb-true _ _ f
      go false f =
          let z = ap (λ (l : List Job). length l) (sym e ∙ ap (λ (l : Lane). l.queue) (idle-lane p M F i (ltb-false _ _ f))) in
          absurd (omega arith)

  head_past : (i a w : ℕ) (q : List Job) → (M.lane i).queue ≡ job a w ∷ q → a ≤ M.clock
  head_past i a w q e = (rw e at (known-lane p M F i (head_known i a w q e)).rising).1

  head_small : (i : ℕ) → waiting M i ≡ true → key_of s M i < key_of_none
  head_small i e = go (M.lane i).queue refl
    where
      go : (q : List Job) → (M.lane i).queue ≡ q → key_of s M i < key_of_none
      go [] z = absurd (true≢false (sym e ∙ waits_not i z))
      go (job a w ∷ q) z =
          let h : i < s.count = omega (arith, head_known i a w q z, in_count p) in
          rw (key-at i a w q z)
          (key-small (omega (arith, head_past i a w q z, F.clock-high))
          (omega (arith, (fit-limits p M F).offset-high i h, (fit-limits p M F).separation-high i h))
          (omega (arith, fit-tasks p M F, in_count p)))

  pub keyed : Keyed (waiting M) (key_of s M) (keys_of (jobs_in M) (release_in M) p.task)
  unfolding keys_of key_if key_at row
  keyed =
      record {
        long = length-tab _ 16;
        small = head_small;
        named = λ i h. key-of-task s M h;
        keys = λ i h. get_or-tab _ 16 i 0 h ∙ at i h (M.lane i).queue refl;
      }
    where
      count_at : (i : ℕ) → i < 16 → get_or (jobs_in M) i 0 ≡ length (M.lane i).queue
      count_at i h = row-jobs M i h

      at :
          (i : ℕ) → i < 16 → (q : List Job) → (M.lane i).queue ≡ q
          → cond (eqb (get_or (jobs_in M) i 0) 0) key_of_none (head_key (get_or (release_in M) (16 * i) 0) (task_of p.task i).offset i)
          ≡ cond (waiting M i) (key_of s M i) key_of_none
      at i h [] z = rw (count_at i h, z, waits_not i z)
      at i h (job a w ∷ q) z =
          let first : 16 * i + 0 ≡ 16 * i = omega arith in
          let head : get_or (release_in M) (16 * i) 0 ≡ a =
          row-release M (16 * i) (omega arith) ∙ ap release_tick (rw (first, z) at (job-at M i 0 (omega arith))) in
          let offset : (s.task i).offset ≡ (task_of p.task i).offset = ap (λ t. t.offset) (in_task p i (head_known i a w q z)) in
          rw (count_at i h, z, ne_eqb (suc (length q)) 0 (λ (x : suc (length q) ≡ 0). omega arith), waits i a w q z, key-at i a w q z, head, offset)

  abbrev keys : List ℕ
  keys = keys_of (jobs_in M) (release_in M) p.task

  -- nobody waits beyond the table
  idle-waits : (i : ℕ) → s.count ≤ i → waiting M i ≡ false
  unfolding opened
  idle-waits i h = waits_not i (ap (λ (l : Lane). l.queue) (idle-lane p M F i (omega (arith, in_count p))))

  chosen_at : chosen s M ≡ take p.cores (ranked (sooner (key_of s M)) (waiting M) 16)
  unfolding chosen
  chosen_at =
      rw (
        in_cores p,
        ranked-keys s M (fit-limits p M F) (waiting M) s.count (le_refl s.count),
        sym (ranked-rest (sooner (key_of s M)) (waiting M) s.count 16 (omega (arith, fit-tasks p M F, in_count p)) (λ i a b. idle-waits i a)),
      )

  pub runs-picked : tab (on_core s M) 8 ≡ tab (cut p.cores (pick_at keys) 255) 8
  unfolding on_core
  runs-picked = tab_ext _ _ 8 (λ k h. rw chosen_at (at k (ltb k p.cores) refl))
    where
      r : List ℕ
      r = ranked (sooner (key_of s M)) (waiting M) 16

      at : (k : ℕ) (b : Bool) → ltb k p.cores ≡ b → get_or (take p.cores r) k 255 ≡ cut p.cores (pick_at keys) 255 k
      at k true e =
          let l = ltb-true k p.cores e in
          get_or-take p.cores r k 255 l
          ∙ sym (picks_rank keyed k)
          ∙ sym (cut_below p.cores (pick_at keys) 255 k l)
      at k false e =
          let l = ltb-false k p.cores e in
          get_or-eq_default (take p.cores r) 255 (short l)
          ∙ sym (cut-above p.cores (pick_at keys) 255 k l)
        where
          short : p.cores ≤ k → length (take p.cores r) ≤ k
          short l = rw length-take (omega arith)

  pub run-picked : (i : ℕ) → i < 16 → runs s M i ≡ waiting M i && eqb (row (keys_after keys p.cores) i) key_of_none
  unfolding runs
  run-picked i h = rw chosen_at (picks_taken keyed p.cores i h)
