-- How the log run's answer follows from what its code has seen.
--     run-refused-table, run-refused-log      the table or the log is refused; run_short: the lent answer is too short
--     run-fitting     an accepted table and log fit
--     run-taken       the run's counts and bytes are the document's
use Rattle.std.specs.Prelude.{ℕ, ◌-◌, ◌*◌, ◌≤◌, ◌<◌, ◌≡◌, List, length}
use Rattle.std.proofs.Math.Path.{sym}
use Rattle.std.proofs.Common.{◌∙◌, arith}
use borrow.Author.Tests.{lt-ltb, le-ltb}
use Rattle.tasks.specs.Answer.{Answer, Accepted, Refused}
use Rattle.tasks.specs.Content.{content_of}
use Rattle.tasks.specs.Tests.{first_met}
use Rattle.codec.specs.Table.{verdict}
use Rattle.table.specs.Judged.{judged}
use Rattle.roundtrip.proofs.RoundTrip.{judged-tidy}
use Rattle.logs.specs.LogBytes.{entry_count, entries_in, log_test, reports_to}
use Rattle.logs.specs.LogLaws.{entries-length}
use Rattle.history.specs.Report.{report, taken_count, refused_count}
use Rattle.history.proofs.Report.{counts_all}
use Rattle.history.specs.OnMachine.{machine_engine}
use Rattle.delivered.proofs.PlanLaws.{plan-reports, plan-counts}
use Rattle.delivered.specs.Demand3.{run_on}
use Rattle.delivered.proofs.Demand3.{plan-passes, log-early}
use Rattle.running.specs.Entered.{Fitting}
use Rattle.running.specs.RunCode.{taken_to}
use Rattle.replay.specs.declared.run.Ran.{Ran}
use Rattle.replay.specs.Ran.{run_test, ran_of, run_leaves}

-- a refused run
pub record Refuses (t l out out' : List ℕ) (a : Answer) : Type 0 where
  pub ran : ◌≡◌ {A = Ran} (record { answer = a; taken = 0; refused = 0 }) (ran_of t l (length out))
  pub leaves : out' ≡ run_leaves t l out

module _ (t l out : List ℕ) where
  refuses : (k i : ℕ) → run_test t l (length out) ≡ Refused k i → Refuses t l out out (Refused k i)
  unfolding ran_of run_leaves
  refuses k i q = record { ran = rw q; leaves = rw q }

  pub run-refused-table : (k i : ℕ) → verdict t ≡ Refused k i → Refuses t l out out (Refused k i)
  unfolding run_test first_met
  run-refused-table k i q = refuses k i (rw q)

  module _ (a : verdict t ≡ Accepted) where
    pub run-refused-log : (k i : ℕ) → log_test l ≡ Refused k i → Refuses t l out out (Refused k i)
    unfolding run_test first_met
    run-refused-log k i q = refuses k i (rw (a, q))

    module _ (b : log_test l ≡ Accepted) where
      pub run_short : length out < 8 * entry_count l → Refuses t l out out (Refused 16 0)
      unfolding run_test first_met
      run_short h = refuses 16 0 (rw (a, b, lt-ltb (length out) (8 * entry_count l) h))

      module _ (room : 8 * entry_count l ≤ length out) where
        accepted : run_test t l (length out) ≡ Accepted
        unfolding run_test first_met
        accepted = rw (a, b, le-ltb (length out) (8 * entry_count l) room)

        pub run-fitting : entry_count l < 65536 → Fitting (judged t).plan (entries_in l) out
        run-fitting w =
            record {
              accepted = plan-passes t a;
              tidied = judged-tidy t a;
              few = rw (entries-length l) w;
              ticks = log-early l b;
              room = rw (entries-length l) room;
            }

        pub run-taken :
            (took : ℕ) (out' : List ℕ) → took ≡ taken_to (judged t).plan (entries_in l) (length (entries_in l))
            → out' ≡ reports_to (report (machine_engine (content_of (judged t).plan).tasks) (entries_in l)) (length (entries_in l)) out
            → (n : ℕ) → n ≡ entry_count l
            → ◌≡◌ {A = Ran} (record { answer = Accepted; taken = took; refused = n - took }) (ran_of t l (length out))
            × (out' ≡ run_leaves t l out)
        unfolding ran_of run_leaves taken_to taken_count
        run-taken took out' q r n e =
            let C = plan-counts (judged t).plan (plan-passes t a) (entries_in l) (log-early l b) in
            let T : took ≡ taken_count (run_on t) (entries_in l) = q ∙ sym C.0 in
            let S : n - took ≡ refused_count (run_on t) (entries_in l) =
            omega (arith, T, counts_all (run_on t) (entries_in l), entries-length l) in (
              rw accepted (λ k. record { answer = Accepted; taken = T k; refused = S k }),
              rw accepted (r ∙ rw (plan-reports (judged t).plan (plan-passes t a) (entries_in l) (log-early l b), entries-length l)),
            )
