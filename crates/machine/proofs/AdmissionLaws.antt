-- When a release is taken, and which number it meets first.
--     demand-first        of a loop in the table, a demand that is not 1 to C meets 21, whatever 22 and 23 say
--     taken_allowed       a release that meets none of 20 to 23 is allowed, and finds a place
use Rattle.std.specs.Prelude.{ℕ, ◌<◌, ◌≡◌, true, false}
use borrow.Author.Tests.{leb-false, lt-leb}
use Rattle.tasks.specs.Answer.{Accepted, Refused}
use Rattle.tasks.specs.TaskSet.{TaskSet}
use Rattle.tasks.specs.Tests.{first_met}
use Rattle.tasks.specs.AnswerLaws.{refuse-passed, or_next-passed, first_met-passed, outside-passed}
use Rattle.machine.specs.Machine.{Machine, too_soon, full, Allowed}
use Rattle.machine.specs.Admission.{bad_demand, join_tests, admit_tests}

module _ (s : TaskSet) (M : Machine) (i c : ℕ) where
  pub demand-first : i < s.count → bad_demand (s.task i).budget c ≡ true → admit_tests s M i c ≡ Refused 21 0
  unfolding admit_tests join_tests first_met
  demand-first h e = rw (lt-leb s.count i h, e)

  pub taken_allowed : admit_tests s M i c ≡ Accepted → Allowed s M i c × (full M i ≡ false)
  unfolding admit_tests join_tests too_soon full
  taken_allowed a =
      let p = or_next-passed _ _ a in
      let q = first_met-passed _ _ p.1 in
      let r = first_met-passed _ _ q.1 in
      let t = first_met-passed _ _ r.1 in
      let d = outside-passed 1 (s.task i).budget c (refuse-passed 21 _ q.0) in (
        record {
          in_table = leb-false s.count i (refuse-passed 20 _ p.0);
          demand-low = d.0;
          demand-high = d.1;
          apart = refuse-passed 22 _ r.0;
        },
        refuse-passed 23 _ t.0,
      )
