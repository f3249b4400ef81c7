-- The tests of soundness over a state's arrays, as its code takes them, and how a test over all indices is made.
--     label_zero, task_zero, loop_holds, place_holds      the test at one index
--     place_in                                         the test at one place of one loop
--     least_at                                         what the release at a place has to reach
--     all_more, all_fails                             one index more; one that fails
--     all_short                                       a test that fails on fewer indices
--     block_more, block_fails                         the sixteen places of one loop more; those that fail
--     place-of                                        a place among the 256 and among its loop's
--     least_more                                      what the release after one has to reach
--     used-holds                                      the test at a used place
--     unused-more                                     one unused place more
--     loops-room                                      loops that pass their tests hold at most 16 jobs
--     sound-parts                                     soundness by its five parts
use Rattle.std.specs.Prelude.{ℕ, ◌+◌, ◌-◌, ◌*◌, ◌/◌, ◌%◌, ◌≤◌, ◌<◌, ◌≡◌, refl, Bool, true, false, cond, ◌&&◌, ◌||◌, List, get_or, ltb, leb, eqb}
use Rattle.std.proofs.Common.{sym, ap, ◌∙◌, arith, leb-true, ltb-true, ltb-false, lt-ltb, le-ltb, le-leb, ne_eqb}
use Rattle.std.proofs.lemmas.Bool.{false≢true}
use Rattle.laws.specs.EveryLaws.{both}
use Rattle.tasks.specs.declared.Task.{Task}
use Rattle.tasks.specs.TaskSet.{row}
use Rattle.tasks.specs.Content.{has_deadlines, zero_task, task_of}
use Rattle.tasks.specs.Tests.{test_plan}
use Rattle.state.specs.declared.State.{State}
use Rattle.state.specs.State.{flag_at}
use Rattle.state.specs.SoundState.{all_of, passes, tidy_label, tidy_task, tidy_test, loop_test, loop_sound, place_test, place_sound, sound_of}
use Rattle.state.proofs.AllLaws.{all-at, of-all, all-step, loop-of, place_in_lem}

unfoldable pub label_zero : ℕ → List ℕ → ℕ → Bool
label_zero cores labels i = ltb i cores || eqb (row labels i) 0

unfoldable pub task_zero : ℕ → ℕ → List Task → List ℕ → ℕ → Bool
task_zero edition tasks task slack i =
    (ltb i tasks || (zero_task (task_of task i) && eqb (row slack i) 0)) && (has_deadlines edition || eqb (task_of task i).deadline 0)

unfoldable pub loop_holds : ℕ → ℕ → List ℕ → List Bool → List ℕ → List ℕ → ℕ → Bool
loop_holds tasks clock jobs released last release i =
    loop_test (ltb i tasks) clock (row jobs i) (get_or released i false) (row last i) (row release (16 * i + (row jobs i - 1)))

unfoldable pub place_holds : List Task → ℕ → List ℕ → List ℕ → List ℕ → ℕ → Bool
place_holds task clock jobs release remaining k =
    place_test
    (task_of task (k / 16)).separation
    (task_of task (k / 16)).budget
    clock
    (row jobs (k / 16))
    (k % 16)
    (row release (k - 1))
    (row release k)
    (row remaining k)

-- place p of loop i, which has n jobs
unfoldable pub place_in : ℕ → ℕ → ℕ → ℕ → List ℕ → List ℕ → ℕ → ℕ → Bool
place_in T C t n release remaining i p =
    place_test T C t n p (row release (16 * i + p - 1)) (row release (16 * i + p)) (row remaining (16 * i + p))

-- "each loop's pending releases rise by at least T": the first may be any
unfoldable pub least_at : ℕ → List ℕ → ℕ → ℕ → ℕ
least_at T release i p = cond (eqb p 0) 0 (row release (16 * i + p - 1) + T)

pub all_more : (p : ℕ → Bool) (n : ℕ) → all_of p n ≡ true → p n ≡ true → all_of p (n + 1) ≡ true
all_more p n e f = all-step p n ∙ rw (e, f)

pub all_fails : (p : ℕ → Bool) (n i : ℕ) → i < n → p i ≡ false → all_of p n ≡ false
all_fails p n i h f = go (all_of p n) refl
  where
    go : (b : Bool) → all_of p n ≡ b → all_of p n ≡ false
    go true e = absurd (false≢true (sym f ∙ all-at p n i e h))
    go false e = e

pub all_short : (p : ℕ → Bool) (m n : ℕ) → m ≤ n → all_of p m ≡ false → all_of p n ≡ false
all_short p m n h f = go (all_of p n) refl
  where
    go : (b : Bool) → all_of p n ≡ b → all_of p n ≡ false
    go true e = absurd (false≢true (sym f ∙ of-all p m (λ i k. all-at p n i e (omega arith))))
    go false e = e

module _ (f g : ℕ → Bool) (i : ℕ) (same : (p : ℕ) → p < 16 → f (16 * i + p) ≡ g p) where
  pub block_more : all_of f (16 * i) ≡ true → all_of g 16 ≡ true → all_of f (16 * (i + 1)) ≡ true
  block_more e d = of-all f (16 * (i + 1)) (λ k h. at k h (ltb k (16 * i)) refl)
    where
      at : (k : ℕ) → k < 16 * (i + 1) → (b : Bool) → ltb k (16 * i) ≡ b → f k ≡ true
      at k h true l = all-at f (16 * i) k e (ltb-true k (16 * i) l)
      at k h false z =
          let l = ltb-false k (16 * i) z in
          let w : k ≡ 16 * i + (k - 16 * i) = omega arith in
          let s : k - 16 * i < 16 = omega arith in
          ap f w ∙ same (k - 16 * i) s ∙ all-at g 16 (k - 16 * i) d s

  pub block_fails : i < 16 → all_of g 16 ≡ false → all_of f 256 ≡ false
  block_fails h d = go (all_of f 256) refl
    where
      go : (b : Bool) → all_of f 256 ≡ b → all_of f 256 ≡ false
      go true e = absurd (false≢true (sym d ∙ of-all g 16 (λ p k. sym (same p k) ∙ all-at f 256 (16 * i + p) e (omega arith))))
      go false e = e

pub place-of :
    (task : List Task) (clock : ℕ) (jobs release remaining : List ℕ) (i p : ℕ)
    → p < 16
    → place_holds task clock jobs release remaining (16 * i + p)
    ≡ place_in (task_of task i).separation (task_of task i).budget clock (row jobs i) release remaining i p
unfolding place_holds place_in
place-of task clock jobs release remaining i p h = rw (loop-of i p h, place_in_lem i p h)

pub used-holds :
    (T C t n : ℕ) (release remaining : List ℕ) (i p : ℕ)
    → p < n
    → place_in T C t n release remaining i p
    ≡ leb (least_at T release i p) (row release (16 * i + p))
    && (leb (row release (16 * i + p)) t && (leb 1 (row remaining (16 * i + p)) && leb (row remaining (16 * i + p)) C))
unfolding place_in place_test least_at
used-holds T C t n release remaining i p h = rw (lt-ltb p n h) (go (eqb p 0))
  where
    go :
        (b : Bool)
        → (b || leb (row release (16 * i + p - 1) + T) (row release (16 * i + p)))
        && (leb (row release (16 * i + p)) t && (leb 1 (row remaining (16 * i + p)) && leb (row remaining (16 * i + p)) C))
        ≡ leb (cond b 0 (row release (16 * i + p - 1) + T)) (row release (16 * i + p))
        && (leb (row release (16 * i + p)) t && (leb 1 (row remaining (16 * i + p)) && leb (row remaining (16 * i + p)) C))
    go true = rw (le-leb 0 (row release (16 * i + p)) (omega arith))
    go false = refl

pub least_more : (T : ℕ) (release : List ℕ) (i p : ℕ) → least_at T release i (p + 1) ≡ row release (16 * i + p) + T
unfolding least_at
least_more T release i p =
    let e : 16 * i + (p + 1) - 1 ≡ 16 * i + p = omega arith in
    rw (ne_eqb (p + 1) 0 (λ h. omega arith), e)

pub turned : (z a b : Bool) → z && (a && b) ≡ a && (b && z)
turned true true true = refl
turned true true false = refl
turned true false b = refl
turned false true true = refl
turned false true false = refl
turned false false b = refl

unused-holds :
    (T C t n : ℕ) (release remaining : List ℕ) (i p : ℕ)
    → n ≤ p
    → place_in T C t n release remaining i p ≡ eqb (row release (16 * i + p)) 0 && eqb (row remaining (16 * i + p)) 0
unfolding place_in place_test
unused-holds T C t n release remaining i p h = rw (le-ltb p n h)

pub unused-more :
    (T C t n : ℕ) (release remaining : List ℕ) (i p : ℕ)
    → n ≤ p
    → all_of (place_in T C t n release remaining i) (p + 1)
    ≡ eqb (row release (16 * i + p)) 0 && (eqb (row remaining (16 * i + p)) 0 && all_of (place_in T C t n release remaining i) p)
unused-more T C t n release remaining i p h =
    all-step (place_in T C t n release remaining i) p
    ∙ rw (unused-holds T C t n release remaining i p h)
    (turned (all_of (place_in T C t n release remaining i) p) (eqb (row release (16 * i + p)) 0) (eqb (row remaining (16 * i + p)) 0))

-- "each loop holds 0 to 16 jobs"
pub loops-room :
    (tasks clock : ℕ) (jobs : List ℕ) (released : List Bool) (last release : List ℕ)
    → all_of (loop_holds tasks clock jobs released last release) 16 ≡ true
    → (i : ℕ) → i < 16 → row jobs i ≤ 16
unfolding loop_holds loop_test
loops-room tasks clock jobs released last release e i h =
    leb-true (row jobs i) 16 (both (leb (row jobs i) 16) _ (all-at (loop_holds tasks clock jobs released last release) 16 i e h)).0

-- soundness, by the tests that its code makes
pub sound-parts :
    (s : State)
    → sound_of s
    ≡ passes (test_plan s.plan)
    && ((all_of (label_zero s.plan.cores s.plan.labels) 8 && all_of (task_zero s.plan.edition s.plan.tasks s.plan.task s.plan.slack) 16)
    && (leb s.clock 4000000000
    && (all_of (loop_holds s.plan.tasks s.clock s.jobs s.released s.last s.release) 16
    && all_of (place_holds s.plan.task s.clock s.jobs s.release s.remaining) 256)))
unfolding sound_of tidy_test tidy_label tidy_task label_zero task_zero loop_sound loop_holds place_sound place_holds flag_at
sound-parts s = refl
