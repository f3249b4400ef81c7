-- Document 01, "When the planner says no": which of 3 to 13, and of document 02's 28, a table's or a plan's content meets, and with which index.
--     refuse k b      k at 0 where b holds
--     lowest k p n    k at the lowest index below n where p holds
--     first_met        the first refusal of a list of tests
--     number_of, index_of    number and index of a refused answer, 0 of another
--     unless_refused   one value where the answer is no refusal, another where it is
--     bad_edition … over_bound    what each number tests, of what it looks at: both the tests below and the contracts of the code cite these
--     compliant_test, found_test, bounds_test      12 of offered slack, 12 of a plan marked as found, and 13
--     test3 … test13, tests, test_plan           the tests of a content by 3 to 13 and 28, in their order, and of a plan
use Rattle.std.specs.Prelude.{Ok, Err, ℕ, ◌-◌, ◌*◌, Bool, true, false, cond, not, ◌&&◌, ◌||◌, List, [], ◌∷◌, ltb, leb, eqb}
use Rattle.laws.specs.First.{first}
use Rattle.laws.specs.Sum.{sum}
use Rattle.tasks.specs.declared.Task.{Task}
use Rattle.tasks.specs.declared.Plan.{Plan}
use Rattle.tasks.specs.Answer.{Answer, Accepted, Refused}
use Rattle.tasks.specs.Numbers.{separation_high, deadline_high, multiple_high}
use Rattle.tasks.specs.TaskSet.{TaskSet, hyperperiod, share, covers, core_for_each, found, bound, row}
use Rattle.tasks.specs.Content.{has_deadlines, Content, content_of}

abbrev pub refuse : ℕ → Bool → Answer
refuse k true = Refused k 0
refuse k false = Accepted

-- the answer to a search below n that ended at f
abbrev pub refuse_at : ℕ → Bool → ℕ → Answer
refuse_at k true f = Refused k f
refuse_at k false f = Accepted

unfoldable pub lowest : ℕ → (ℕ → Bool) → ℕ → Answer
lowest k p n = refuse_at k (ltb (first p n) n) (first p n)

abbrev pub or_next : Answer → Answer → Answer
or_next (Ok tt) b = b
or_next (Err r) b = Err r

unfoldable pub first_met : List Answer → Answer
first_met [] = Accepted
first_met (a ∷ l) = or_next a (first_met l)

-- "A refused call returns its number and an index"
abbrev pub number_of : Answer → ℕ
number_of (Ok tt) = 0
number_of (Err r) = r.number

abbrev pub index_of : Answer → ℕ
index_of (Ok tt) = 0
index_of (Err r) = r.index

-- x where the answer is no refusal, else y
abbrev pub unless_refused : {A : Type 0} → Answer → A → A → A
unless_refused (Ok tt) x y = x
unless_refused (Err r) x y = y

-- whether x is not `low` to `high`
unfoldable pub outside : ℕ → ℕ → ℕ → Bool
outside low high x = ltb x low || ltb high x

-- ---- what each number tests

-- 1: "Number 1 now refuses bytes other than 1 and 2"
abbrev pub bad_edition : ℕ → Bool
bad_edition e = not (eqb e 1 || eqb e 2)

-- 3: "Cores are not 2 to 8."
abbrev pub bad_cores : ℕ → Bool
bad_cores m = outside 2 8 m

-- 4: "A core label is above 63 or not above the one before."
unfoldable pub bad_label : (ℕ → ℕ) → ℕ → Bool
bad_label label i = ltb 63 (label i) || (ltb 0 i && leb (label i) (label (i - 1)))

-- 5: "Number 5 now meets 0 loops or more than 16": fewer than 1. Wish sheets keep "fewer than cores + 1 or more than 16"
abbrev pub bad_count : ℕ → ℕ → Bool
bad_count least n = outside least 16 n

-- 6: "A separation is not 1 to 100,000."
abbrev pub bad_separation : Task → Bool
bad_separation t = outside 1 separation_high t.separation

-- 7: "A budget is not 1 to its separation."
abbrev pub bad_budget : Task → Bool
bad_budget t = outside 1 t.separation t.budget

-- 8: "An offset is above its separation."
abbrev pub bad_offset : Task → Bool
bad_offset t = ltb t.separation t.offset

-- 26: "W is not C to 16 × T", of a task of a wish sheet, which has "the wished bound W in the offset's place"
abbrev pub bad_wish : Task → Bool
bad_wish t = outside t.budget (16 * t.separation) t.offset

-- 28: "an edition 2 loop's D is not 1 to 1,600,000", of a task in a table of edition e
abbrev pub bad_deadline : ℕ → Task → Bool
bad_deadline e t = has_deadlines e && outside 1 deadline_high t.deadline

-- 9: "H is above 1,000,000."
abbrev pub bad_multiple : TaskSet → Bool
bad_multiple s = ltb multiple_high (hyperperiod s)

-- 10: "The shares add up to more than m × H."
abbrev pub bad_shares : TaskSet → Bool
bad_shares s = ltb (s.cores * hyperperiod s) (sum (share s) s.count)

-- 11: "The slack count is neither 0 nor n."; where loops are no more than cores, "offered slack for such a table is refused 11"
abbrev pub bad_offers : TaskSet → ℕ → Bool
bad_offers s k = not (eqb k 0 || (not (core_for_each s.cores s.count) && eqb k s.count))

-- 12: "Offered slack isn't compliant (lowest loop k that fails)."
abbrev pub compliant_test : TaskSet → (ℕ → ℕ) → Answer
compliant_test s x = lowest 12 (λ k. not (covers s x k)) s.count

-- 12: "A plan marked as found meets 12 where its slack differs from the found one (lowest such loop)": slack x and y of n loops
abbrev pub found_test : (ℕ → ℕ) → (ℕ → ℕ) → ℕ → Answer
found_test x y n = lowest 12 (λ k. not (eqb (x k) (y k))) n

-- 13: "A bound is above 16 × T."
abbrev pub over_bound : Task → ℕ → Bool
over_bound t b = ltb (16 * t.separation) b

abbrev pub bounds_test : TaskSet → (ℕ → ℕ) → Answer
bounds_test s x = lowest 13 (λ i. over_bound (s.task i) (bound s x i)) s.count

-- ---- the tests of a content

module _ (c : Content) where
  unfoldable pub test3 : Answer
  test3 = refuse 3 (bad_cores c.tasks.cores)

  unfoldable pub test4 : Answer
  test4 = lowest 4 (bad_label c.label) c.tasks.cores

  unfoldable pub test5 : Answer
  test5 = refuse 5 (bad_count 1 c.tasks.count)

  unfoldable pub test6 : Answer
  test6 = lowest 6 (λ i. bad_separation (c.tasks.task i)) c.tasks.count

  unfoldable pub test7 : Answer
  test7 = lowest 7 (λ i. bad_budget (c.tasks.task i)) c.tasks.count

  unfoldable pub test8 : Answer
  test8 = lowest 8 (λ i. bad_offset (c.tasks.task i)) c.tasks.count

  unfoldable pub test28 : Answer
  test28 = lowest 28 (λ i. bad_deadline c.edition (c.tasks.task i)) c.tasks.count

  unfoldable pub test9 : Answer
  test9 = refuse 9 (bad_multiple c.tasks)

  unfoldable pub test10 : Answer
  test10 = refuse 10 (bad_shares c.tasks)

  unfoldable pub test11 : Answer
  test11 = refuse 11 (bad_offers c.tasks c.offers)

  unfoldable pub test12 : Answer
  test12 =
      cond (eqb c.offers 0)
      (found_test c.slack (row (found c.tasks)) c.tasks.count)
      (compliant_test c.tasks c.slack)

  unfoldable pub test13 : Answer
  test13 = bounds_test c.tasks c.slack

  -- "Each of 1 to 16 is tested over all entries before the next." 28 is "tested after 8".
  unfoldable pub tests : Answer
  tests =
      first_met
      (test3 ∷ test4 ∷ test5 ∷ test6 ∷ test7 ∷ test8 ∷ test28 ∷ test9 ∷ test10 ∷ test11 ∷ test12 ∷ test13 ∷ [])

-- "a plan of another edition meets 1 too": before 3
unfoldable pub test_plan : Plan → Answer
test_plan p = or_next (refuse 1 (bad_edition p.edition)) (tests (content_of p))
