-- What the three facts of a choice give, and that document 01's choice has them.
--     early-waits, early-point, point-early      that, in words of the choice
--     left_out            where a head is left out, m loops run
--     each-runs           so where loops are no more than cores, every head runs
--     busy_run            where at least m heads have a priority point of at most y, m of those run
--     calm_run            where fewer have one, all of those run
--     earliest            document 01's choice has the three facts
use Rattle.std.specs.Prelude.{ℕ, ◌+◌, ◌≤◌, ◌<◌, Bool, not, ◌&&◌, ◌≡◌, refl, List, [], ◌∷◌}
use Rattle.std.proofs.Math.Bool.{true, false, cond, and-eq-true_iff}
use Rattle.std.proofs.Common.{true≢false, sym, ◌∙◌, ⊎_elim, leb-true, le-leb}
use Rattle.std.proofs.lemmas.Bool.{false≢true, not-true, not-false}
use native.Mathlib.Omega.{arith}
use Rattle.laws.specs.Sum.{sum, count}
use Rattle.laws.specs.First.{first}
use Rattle.laws.specs.FirstLaws.{first_or_none, first_holds, first-none}
use Rattle.laws.specs.SumLaws.{sum_less, count_mono, count_le, count-full}
use Rattle.laws.specs.RankLaws.{chosen_in, chosen-count, chosen_best}
use Rattle.tasks.specs.TaskSet.{TaskSet}
use Rattle.machine.specs.Machine.{Job, job, Machine, pending, waiting, head_release, point, before, chosen, runs}
use Rattle.machine.proofs.BeforeLaws.{heads-order, after-point}
use Rattle.machine.specs.Reached.{EarliestFirst}
use Rattle.machine.specs.Owed.{early}
use Rattle.machine.specs.Choice.{early_at}

early-pending : (Y y : ℕ) (q : List Job) → early Y y q ≡ true → pending q ≡ true
early-pending Y y [] e = e
early-pending Y y (job r w ∷ q) e = refl

early-release : (Y y : ℕ) (q : List Job) → early Y y q ≡ true → head_release q + Y ≤ y
early-release Y y [] e = absurd (false≢true e)
early-release Y y (job r w ∷ q) e = leb-true (r + Y) y e

release-early : (Y y : ℕ) (q : List Job) → pending q ≡ true → head_release q + Y ≤ y → early Y y q ≡ true
release-early Y y [] e h = e
release-early Y y (job r w ∷ q) e h = le-leb (r + Y) y h

module _ (s : TaskSet) (M : Machine) where
  pub early-waits : (y i : ℕ) → early_at s M y i ≡ true → waiting M i ≡ true
  unfolding early_at waiting
  early-waits y i e = early-pending (s.task i).offset y (M.lane i).queue e

  pub early-point : (y i : ℕ) → early_at s M y i ≡ true → point s M i ≤ y
  unfolding early_at point
  early-point y i e = omega (arith, early-release (s.task i).offset y (M.lane i).queue e)

  pub point-early : (y i : ℕ) → waiting M i ≡ true → point s M i ≤ y → early_at s M y i ≡ true
  unfolding early_at point waiting
  point-early y i e h = release-early (s.task i).offset y (M.lane i).queue e (omega arith)

  module _ (run : ℕ → Bool) (E : EarliestFirst s M run) where
    pub left_out : (j : ℕ) → j < s.count → waiting M j ≡ true → run j ≡ false → count run s.count ≡ s.cores
    unfolding count
    left_out j h wait idle = omega (arith, E.many, fewer)
      where
        part : (b c : Bool) → (b ≡ true → c ≡ true) → cond {A = ℕ} b 1 0 ≤ cond c 1 0
        part true c f = rw (f refl) (omega arith)
        part false c f = omega arith

        differ : (b c : Bool) → b ≡ false → c ≡ true → cond {A = ℕ} b 1 0 ≡ cond c 1 0 → ⊥
        differ b c p q e = omega (arith, rw (p, q) at e)

        fewer : sum (λ i. cond (run i) 1 0) s.count < sum (λ i. cond (waiting M i) 1 0) s.count
        fewer =
            sum_less _ _ _ (λ i l. part (run i) (waiting M i) (λ e. (E.heads i e).1)) j h (differ (run j) (waiting M j) idle wait)

    -- "Where loops are no more than cores, the engine as it stands runs each loop with work at every step"
    pub each-runs : s.count ≤ s.cores → (j : ℕ) → j < s.count → waiting M j ≡ true → run j ≡ true
    each-runs few j h wait = go (run j) refl
      where
        go : (b : Bool) → run j ≡ b → run j ≡ true
        go true p = p
        go false p = count-full run s.count (omega (arith, left_out j h wait p, count_le run s.count)) j h

    -- a head that is left out with a priority point of at most y leaves nobody with a later one to run
    only-early : (y j : ℕ) → j < s.count → early_at s M y j ≡ true → run j ≡ false → (i : ℕ) → run i ≡ true → early_at s M y i ≡ true
    only-early y j h e idle i r =
        point-early y i (E.heads i r).1 (omega (arith, early-point y j e, E.order i j r h (early-waits y j e) idle))

    pub calm_run : (y : ℕ) → count (early_at s M y) s.count < s.cores → (j : ℕ) → j < s.count → early_at s M y j ≡ true → run j ≡ true
    calm_run y few j h e = go (run j) refl
      where
        go : (b : Bool) → run j ≡ b → run j ≡ true
        go true p = p
        go false p =
            absurd
            (omega (arith, left_out j h (early-waits y j e) p, count_mono run (early_at s M y) s.count (λ i l. only-early y j h e p i)))

    pub busy_run : (y : ℕ) → s.cores ≤ count (early_at s M y) s.count → s.cores ≤ count (λ i. run i && early_at s M y i) s.count
    busy_run y most = ⊎_elim all-early one-late (first_or_none late s.count)
      where
        late : ℕ → Bool
        late i = run i && not (early_at s M y i)

        -- everybody who runs is early
        all-early : first late s.count ≡ s.count → s.cores ≤ count (λ i. run i && early_at s M y i) s.count
        all-early none =
            omega (
              arith,
              E.many,
              count_mono (early_at s M y) (waiting M) s.count (λ i h e. early-waits y i e),
              count_mono run (λ i. run i && early_at s M y i) s.count
                  (λ i h r. (and-eq-true_iff (run i) (early_at s M y i)).1 (r, not-false (early_at s M y i) (rw r at (first-none late s.count none i h)))),
            )

        -- somebody who runs is not: then everybody who is early runs
        one-late : first late s.count < s.count → s.cores ≤ count (λ i. run i && early_at s M y i) s.count
        one-late h =
            omega (
              arith,
              count_mono (early_at s M y) (λ i. run i && early_at s M y i) s.count
                  (λ j l e. (and-eq-true_iff (run j) (early_at s M y j)).1 (seen j l e (run j) refl, e)),
            )
          where
            k : ℕ
            k = first late s.count

            found : (run k ≡ true) × (not (early_at s M y k) ≡ true)
            found = (and-eq-true_iff (run k) (not (early_at s M y k))).0 (first_holds late s.count h)

            seen : (j : ℕ) → j < s.count → early_at s M y j ≡ true → (b : Bool) → run j ≡ b → run j ≡ true
            seen j l e true p = p
            seen j l e false p =
                absurd (true≢false (sym (only-early y j l e p k found.0) ∙ not-true (early_at s M y k) found.1))

pub earliest : (s : TaskSet) (M : Machine) → EarliestFirst s M (runs s M)
unfolding runs chosen
earliest s M =
    record {
      heads = chosen_in (before s M) (waiting M) s.cores s.count;
      many = chosen-count (before s M) (waiting M) s.cores s.count;
      order = λ i j r h w idle.
          after-point s M j i (chosen_best (before s M) (waiting M) s.cores s.count (heads-order s M) i j r h w idle);
    }
