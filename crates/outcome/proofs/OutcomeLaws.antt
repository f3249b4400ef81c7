-- The statement holds of every table, log and lent answer that a log run does not refuse, and of every lent buffer that the C judgement does not
-- refuse for that table. It follows from demand 3, by the laws that write the claims out.
--     taken_kind, kind_taken      kind 1 stands for a taken entry
--     finish_is                   the number behind it is the finish tick; refusal_is: behind kind 2 it is the refusal's
--     outcome                     the theorem
--     outcome_numbers             and the two calls' answers: the number of loops, and the counts of kind 1 and kind 2
use Rattle.std.specs.Prelude.{ℕ, ◌+◌, ◌*◌, ◌≤◌, ◌<◌, false, ◌≡◌, ◌⊎◌, List, length, eqb}
use Rattle.std.proofs.Math.Bool.{not}
use Rattle.std.proofs.Math.Path.{refl, sym, ap}
use Rattle.std.proofs.Common.{◌∙◌, inl, inr, arith, eq-eqb, ne_eqb}
use Rattle.laws.specs.Sum.{count}
use Rattle.laws.specs.SumLaws.{count_ext}
use Rattle.tasks.specs.Answer.{Accepted}
use Rattle.tasks.specs.TaskSet.{TaskSet}
use Rattle.tasks.specs.AnswerLaws.{first_met-passed}
use Rattle.codec.specs.Table.{core_count, task_count, content_in, verdict}
use Rattle.logs.specs.LogBytes.{entry_count, entries_in, log_test, reports_to}
use Rattle.logs.specs.LogLaws.{entries-length, tick-at, loop-at, demand-at}
use Rattle.history.specs.Engine.{refused, is_taken, Engine}
use Rattle.history.specs.Log.{Entry, tick_at, loop_at, demand_at, outcome as outcome_of, Taken, Finishes, Keeps, Claim}
use Rattle.history.specs.ClaimLaws.{promised, Conditions}
use Rattle.history.proofs.ClaimLaws.{in_time_sum, takes_conditions, history_log}
use Rattle.history.proofs.Refusals.{met-high}
use Rattle.history.specs.Report.{Report, finished, refusal, report, taken_count, refused_count}
use Rattle.delivered.specs.Demand3.{run_on, Reports}
use Rattle.delivered.proofs.Demand3.{log-early, demand_3, demand_histories, demand_numbers, demand-ends, demand-reports}
use Rattle.replay.specs.Ran.{run_test, ran_of, run_leaves}
use Rattle.dahomike_answer.specs.Number.{answer_number}
use Rattle.dahomike.specs.Answers.{judge_test, judge_number, judge_leaves, run_number}
use Rattle.outcome.specs.Outcome.{loops_of, separation_of, budget_of, entries_of, tick_of, loop_of, demand_of, kind_of, value_of, slack_left, bound_left, within_of, FourConditions, KeepsTable, Outcome}
use Rattle.outcome.proofs.ReadLaws.{same-loops, same-cores, separation-at, budget-at, offset_at, finish_kind, refusal_kind, finish-number, refusal-number, within-high, slack-at, bound_at}

module _ (t l : List ℕ) (a : verdict t ≡ Accepted) (b : log_test l ≡ Accepted) (out : List ℕ) where
  abbrev E : Engine
  E = run_on t

  abbrev s : TaskSet
  s = (content_in t).tasks

  abbrev x : ℕ → ℕ
  x = (content_in t).slack

  abbrev L : List Entry
  L = entries_in l

  -- the lent answer afterwards
  abbrev w : List ℕ
  w = reports_to (report E L) (entry_count l) out

  claim : Claim E s x L
  claim = demand_3 t a l b

  reports : Reports E L
  reports = demand-reports t a l b

  same_count : entry_count l ≡ entries_of l
  unfolding entry_count
  same_count = refl

  in_log : {e : ℕ} → e < entries_of l → e < length L
  in_log h = omega (arith, entries-length l, same_count)

  in_bytes : {e : ℕ} → e < length L → e < entries_of l
  in_bytes h = omega (arith, entries-length l, same_count)

  module _ (e : ℕ) (h : e < entries_of l) where
    below : e < entry_count l
    below = omega (arith, same_count)

    tick_is : tick_at L e ≡ tick_of l e
    tick_is = tick-at l e below

    loop-is : loop_at L e ≡ loop_of l e
    loop-is = loop-at l e below

    demand_is : demand_at L e ≡ demand_of l e
    demand_is = demand-at l e below

    module _ (i : loop_of l e < loops_of t) where
      separation-is : (s.task (loop_at L e)).separation ≡ separation_of t (loop_of l e)
      separation-is = rw (loop-is) (separation-at t (loop_of l e) i)

      budget-is : (s.task (loop_at L e)).budget ≡ budget_of t (loop_of l e)
      budget-is = rw (loop-is) (budget-at t (loop_of l e) i)

      within-is : promised s x (loop_at L e) ≡ within_of t x (loop_of l e)
      within-is = rw (loop-is, same-loops t, same-cores t, offset_at t (loop_of l e) i, budget-at t (loop_of l e) i)

    -- a taken entry's loop is in the table
    known : Taken E L e → loop_of l e < loops_of t
    known q = omega (arith, ((takes_conditions E s x L claim e (in_log h)).0 q).in_table, loop-is, same-loops t)

    late : (f : ℕ) → Finishes E L e f → f ≤ tick_of l e + within_of t x (loop_of l e)
    late f F =
        omega (
          arith,
          history_log E s x 4000000000 (demand_histories t a) L (demand-ends t a l b) e f (in_log h) F,
          tick_is,
          within-is (known F.0),
        )

    pub finish_is : (f : ℕ) → Finishes E L e f → value_of w e ≡ f
    finish_is f F =
        finish-number (report E L) (entry_count l) out e below f ((reports.kind_1 e f (in_log h)).1 F)
        (omega (arith, late f F, within-high t a (loop_of l e) (known F.0), log-early l b e (in_log h), tick_is))

    pub taken_kind : Taken E L e → kind_of w e ≡ 1
    taken_kind q =
        let T = claim.in_time e (in_log h) q in
        finish_kind (report E L) (entry_count l) out e below T.0 ((reports.kind_1 e T.0 (in_log h)).1 T.1)

    number-high : (k : ℕ) → outcome_of E L e ≡ refused k → k ≤ 22
    number-high k q = met-high E s L e k (sym (demand_numbers t a l b e) ∙ q)

    refusal_is : (k : ℕ) → outcome_of E L e ≡ refused k → value_of w e ≡ k
    refusal_is k q =
        refusal-number (report E L) (entry_count l) out e below k ((reports.kind_2 e k (in_log h)).1 q) (omega (arith, number-high k q))

    -- an entry is taken and has kind 1, or it is not and has kind 2 with a number of at most 22
    abbrev Cases : Type 0
    Cases = (Taken E L e × (kind_of w e ≡ 1)) ⊎ ((is_taken (outcome_of E L e) ≡ false) × (kind_of w e ≡ 2) × (value_of w e ≤ 22))

    kind-is : Cases
    kind-is = go (report E L e) refl
      where
        go : (r : Report) → report E L e ≡ r → Cases
        go (finished f) q =
            inl (((reports.kind_1 e f (in_log h)).0 q).0, finish_kind (report E L) (entry_count l) out e below f q)
        go (refusal k) q =
            let o = (reports.kind_2 e k (in_log h)).0 q in
            inr (
              ap is_taken o,
              refusal_kind (report E L) (entry_count l) out e below k q,
              omega (arith, refusal_is k o, number-high k o),
            )

    pub kind_taken : kind_of w e ≡ 1 → Taken E L e
    kind_taken q = go kind-is
      where
        go : Cases → Taken E L e
        go (inl p) = p.0
        go (inr p) = absurd (omega (arith, p.1))

    kinds-are : (kind_of w e ≡ 1) ⊎ ((kind_of w e ≡ 2) × (value_of w e ≤ 22))
    kinds-are = go kind-is
      where
        go : Cases → (kind_of w e ≡ 1) ⊎ ((kind_of w e ≡ 2) × (value_of w e ≤ 22))
        go (inl p) = inl p.1
        go (inr p) = inr (p.1, p.2)

    taken-one : is_taken (outcome_of E L e) ≡ eqb (kind_of w e) 1
    taken-one = go kind-is
      where
        go : Cases → is_taken (outcome_of E L e) ≡ eqb (kind_of w e) 1
        go (inl p) = ap is_taken p.0 ∙ sym (eq-eqb (kind_of w e) 1 p.1)
        go (inr p) = p.0 ∙ sym (ne_eqb (kind_of w e) 1 (λ (q : kind_of w e ≡ 1). omega (arith, p.1)))

    refused-two : not (is_taken (outcome_of E L e)) ≡ eqb (kind_of w e) 2
    refused-two = go kind-is
      where
        go : Cases → not (is_taken (outcome_of E L e)) ≡ eqb (kind_of w e) 2
        go (inl p) = ap (λ o. not (is_taken o)) p.0 ∙ sym (ne_eqb (kind_of w e) 2 (λ (q : kind_of w e ≡ 2). omega (arith, p.1)))
        go (inr p) = ap not p.0 ∙ sym (eq-eqb (kind_of w e) 2 p.1)

  module _ (e : ℕ) (h : e < entries_of l) where
    fits : Conditions E s L e → FourConditions t l w e
    fits D =
        record {
          onward = λ j less. omega (arith, D.onward j less, tick_is j (earlier j less), tick_is e h);
          in_table = i;
          demand-low = omega (arith, D.demand-low, demand_is e h);
          demand-high = omega (arith, D.demand-high, demand_is e h, budget-is e h i);
          apart = λ j less same k.
              omega (
                arith,
                D.apart j less (loop-is j (earlier j less) ∙ same ∙ sym (loop-is e h)) (kind_taken j (earlier j less) k),
                separation-is e h i,
                tick_is j (earlier j less),
                tick_is e h,
              );
        }
      where
        earlier : (j : ℕ) → j < e → j < entries_of l
        earlier j less = omega arith

        i : loop_of l e < loops_of t
        i = omega (arith, D.in_table, loop-is e h, same-loops t)

    meets : FourConditions t l w e → Conditions E s L e
    meets F =
        record {
          onward = λ j less. omega (arith, F.onward j less, tick_is j (earlier j less), tick_is e h);
          in_table = omega (arith, F.in_table, loop-is e h, same-loops t);
          demand-low = omega (arith, F.demand-low, demand_is e h);
          demand-high = omega (arith, F.demand-high, demand_is e h, budget-is e h F.in_table);
          apart = λ j less same q.
              omega (
                arith,
                F.apart j less (sym (loop-is j (earlier j less)) ∙ same ∙ loop-is e h) (taken_kind j (earlier j less) q),
                separation-is e h F.in_table,
                tick_is j (earlier j less),
                tick_is e h,
              );
        }
      where
        earlier : (j : ℕ) → j < e → j < entries_of l
        earlier j less = omega arith

  kept : Keeps s L → KeepsTable t l
  kept K =
      record {
        onward = λ j e less h.
            omega (arith, K.onward j e less (in_log h), tick_is j (omega arith), tick_is e h);
        in_table = inside;
        demand-low = λ e h. omega (arith, K.demand-low e (in_log h), demand_is e h);
        demand-high = λ e h. omega (arith, K.demand-high e (in_log h), demand_is e h, budget-is e h (inside e h));
        apart = λ j e less h same.
            let k : j < entries_of l = omega arith in
            omega (
              arith,
              K.apart j e less (in_log h) (loop-is j k ∙ same ∙ sym (loop-is e h)),
              separation-is e h (inside e h),
              tick_is j k,
              tick_is e h,
            );
      }
    where
      inside : (e : ℕ) → e < entries_of l → loop_of l e < loops_of t
      inside e h = omega (arith, K.in_table e (in_log h), loop-is e h, same-loops t)

  keeps : KeepsTable t l → Keeps s L
  keeps K =
      record {
        onward = λ j e less m.
            let h : e < entries_of l = in_bytes m in
            omega (arith, K.onward j e less h, tick_is j (omega arith), tick_is e h);
        in_table = λ e m. omega (arith, K.in_table e (in_bytes m), loop-is e (in_bytes m), same-loops t);
        demand-low = λ e m. omega (arith, K.demand-low e (in_bytes m), demand_is e (in_bytes m));
        demand-high = λ e m.
            let h : e < entries_of l = in_bytes m in
            omega (arith, K.demand-high e h, demand_is e h, budget-is e h (K.in_table e h));
        apart = λ j e less m same.
            let h : e < entries_of l = in_bytes m in
            let k : j < entries_of l = omega arith in
            omega (
              arith,
              K.apart j e less h (sym (loop-is j k) ∙ same ∙ loop-is e h),
              separation-is e h (K.in_table e h),
              tick_is j k,
              tick_is e h,
            );
      }

  -- the slack is given by its bytes in a judgement's answer c
  module _ (c : List ℕ) (slack-is : (i : ℕ) → i < loops_of t → slack_left c i ≡ x i) where
    TakenInTime : ℕ → Type 0
    TakenInTime e = (kind_of w e ≡ 1) × (value_of w e ≤ tick_of l e + within_of t (slack_left c) (loop_of l e))

    within-left : (i : ℕ) → i < loops_of t → within_of t (slack_left c) i ≡ within_of t x i
    within-left i h = rw (slack-is i h)

    finishes : (e : ℕ) (h : e < entries_of l) → kind_of w e ≡ 1 → Finishes E L e (value_of w e)
    finishes e h q =
        let T = claim.in_time e (in_log h) (kind_taken e h q) in
        rw (finish_is e h T.0 T.1) T.1

    kind-in-time : (e : ℕ) → (h : e < entries_of l) → kind_of w e ≡ 1 → TakenInTime e
    unfolding TakenInTime
    kind-in-time e h q =
        let i = known e h (kind_taken e h q) in
        (q, omega (arith, late e h (value_of w e) (finishes e h q), within-left (loop_of l e) i))

    all-kept : ((e : ℕ) → e < entries_of l → TakenInTime e) → KeepsTable t l
    unfolding TakenInTime
    all-kept all =
        kept
        (claim.all_in_time.0
        (λ e m.
        let h = in_bytes m in
        let i = known e h (kind_taken e h (all e h).0) in
        (in_time_sum E s x L e).1
        (value_of w e, finishes e h (all e h).0, omega (arith, (all e h).1, within-left (loop_of l e) i, tick_is e h, within-is e h i))))

    kept-all : KeepsTable t l → (e : ℕ) → e < entries_of l → TakenInTime e
    unfolding TakenInTime
    kept-all K e h =
        let T = (in_time_sum E s x L e).0 (claim.all_in_time.1 (keeps K) e (in_log h)) in
        let i = K.in_table e h in (
          taken_kind e h T.1.0,
          omega (arith, T.2, finish_is e h T.0 T.1, within-left (loop_of l e) i, tick_is e h, within-is e h i),
        )

    whole-outcome : ((i : ℕ) → i < loops_of t → bound_left c i ≡ within_of t x i) → Outcome t l w c
    unfolding TakenInTime
    whole-outcome bound-is =
        record {
          kinds = kinds-are;
          taken = λ e h.
              let same = takes_conditions E s x L claim e (in_log h) in
              (λ q. fits e h (same.0 (kind_taken e h q)), λ F. taken_kind e h (same.1 (meets e h F)));
          in_time = λ e h q. omega (arith, (kind-in-time e h q).1);
          all_in_time = (all-kept, kept-all);
          bounds = λ i h. bound-is i h ∙ sym (within-left i h);
        }

  -- ---- the counts

  taken-count : taken_count E L ≡ count (λ e. eqb (kind_of w e) 1) (entries_of l)
  unfolding taken_count
  taken-count = ap (count (λ e. is_taken (outcome_of E L e))) (entries-length l ∙ same_count) ∙ count_ext _ _ (entries_of l) taken-one

  refused-count : refused_count E L ≡ count (λ e. eqb (kind_of w e) 2) (entries_of l)
  unfolding refused_count
  refused-count = ap (count (λ e. not (is_taken (outcome_of E L e)))) (entries-length l ∙ same_count) ∙ count_ext _ _ (entries_of l) refused-two

module _ (t l out room : List ℕ) (c : run_test t l (length out) ≡ Accepted) (r : judge_test t (length room) ≡ Accepted) where
  accepted : verdict t ≡ Accepted
  unfolding judge_test
  accepted = (first_met-passed _ _ r).0

  log-accepted : log_test l ≡ Accepted
  unfolding run_test
  log-accepted = (first_met-passed _ _ (first_met-passed _ _ c).1).0

  pub outcome : Outcome t l (run_leaves t l out) (judge_leaves t room)
  unfolding run_leaves judge_leaves
  outcome =
      rw (c, r)
      (whole-outcome t l accepted log-accepted out _ (λ i h. slack-at t accepted i h _) (λ i h. bound_at t accepted i h _))

  pub outcome_numbers :
      (judge_number t (length room) ≡ loops_of t)
      × (run_number t l (length out)
      ≡ count (λ e. eqb (kind_of (run_leaves t l out) e) 1) (entries_of l)
      + 65536 * count (λ e. eqb (kind_of (run_leaves t l out) e) 2) (entries_of l))
  unfolding judge_number run_number ran_of run_leaves answer_number task_count core_count
  outcome_numbers = (
    rw r,
    rw c (rw (taken-count t l accepted log-accepted out, refused-count t l accepted log-accepted out)),
  )
