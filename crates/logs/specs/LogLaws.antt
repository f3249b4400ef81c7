-- Laws of a log's bytes.
--     entries-length          there are as many entries as the count says
--     entry_at                the entry at e, below the count, is what the bytes say; tick-at, loop-at, demand-at: its three numbers
--     log-length              a log that meets neither 14 nor 15 has just the length that its count gives
--     log-ticks               and no tick above 1,000,000,000
--     count-bytes             the count, as a sum of two bytes
--     read_accepted, read_refused     what each case of the reader's answer says of the log
--     read_short, read_late, read_all     how the reader's answer follows from what its code has seen
use Rattle.tasks.specs.declared.refusal.Refusal.{Refusal}
use Rattle.std.specs.Prelude.{ℕ, ◌+◌, ◌*◌, ◌≤◌, ◌<◌, ◌≡◌, length, get_or, Ok, Err, Result}
use Rattle.std.proofs.Common.{le_antisymm, ◌∙◌}
use native.Mathlib.Omega.{arith}
use Rattle.std.proofs.Math.Path.{sym, ap}
use mathlib.Core.List.{List, [], ◌∷◌}
use Rattle.std.proofs.Math.Dec.{ltb, lit<}
use borrow.Author.Tests.{ltb-false, eqb-true, eq-eqb, ne_eqb, not-false}
use Rattle.laws.specs.First.{first}
use Rattle.laws.specs.FirstLaws.{first_le}
use Rattle.laws.specs.TabLaws.{length-tab, get_or-tab}
use Rattle.tasks.specs.Answer.{Answer, Accepted, Refused}
use Rattle.tasks.specs.Tests.{first_met, unless_refused}
use Rattle.tasks.specs.AnswerLaws.{refuse-passed, lowest-passed, lowest-none, lowest-found, first_met-passed, first_met_pass, first_met-stop}
use Rattle.history.specs.Log.{Entry, no_entry, tick_at, loop_at, demand_at}
use Rattle.numbers.specs.Bytes.{byte, number}
use Rattle.logs.specs.LogBytes.{entry_count, entry_in, entries_in, test14, test15, log_test}
use Rattle.logs.specs.LogStages.{answer_of_entries, count_of_entries, EntriesRead}

module _ (l : List ℕ) where
  pub entries-length : length (entries_in l) ≡ entry_count l
  unfolding entries_in
  entries-length = length-tab (entry_in l) (entry_count l)

  module _ (e : ℕ) (h : e < entry_count l) where
    pub entry_at : get_or (entries_in l) e no_entry ≡ entry_in l e
    unfolding entries_in
    entry_at = get_or-tab (entry_in l) (entry_count l) e no_entry h

    pub tick-at : tick_at (entries_in l) e ≡ number 4 l (2 + 9 * e)
    unfolding entry_in
    tick-at = ap (λ (x : Entry). x.tick) entry_at

    pub loop-at : loop_at (entries_in l) e ≡ byte l (2 + 9 * e + 4)
    unfolding entry_in
    loop-at = ap (λ (x : Entry). x.loop) entry_at

    pub demand-at : demand_at (entries_in l) e ≡ number 4 l (2 + 9 * e + 5)
    unfolding entry_in
    demand-at = ap (λ (x : Entry). x.demand) entry_at

  passed : log_test l ≡ Accepted → (test14 l ≡ Accepted) × (test15 l ≡ Accepted)
  unfolding log_test
  passed a =
      let p = first_met-passed (test14 l) (test15 l ∷ []) a in
      (p.0, (first_met-passed (test15 l) [] p.1).0)

  pub log-length : log_test l ≡ Accepted → length l ≡ 2 + 9 * entry_count l
  unfolding test14
  log-length a = eqb-true _ _ (not-false _ (refuse-passed 14 _ (passed a).0))

  pub log-ticks : log_test l ≡ Accepted → (e : ℕ) → e < entry_count l → (entry_in l e).tick ≤ 1000000000
  unfolding test15
  log-ticks a e h = ltb-false _ _ (lowest-passed 15 (λ i. ltb 1000000000 (entry_in l i).tick) (entry_count l) (passed a).1 e h)

  pub count-bytes : entry_count l ≡ byte l 0 + 256 * byte l 1
  unfolding entry_count number
  count-bytes = omega arith

  module _ (r : Result ℕ Refusal) (g : EntriesRead l r) where
    pub read_accepted : (n : ℕ) → r ≡ Ok n → (n ≡ entry_count l) × (log_test l ≡ Accepted) × (n < 65536)
    unfolding answer_of_entries count_of_entries
    read_accepted n q =
        let a : log_test l ≡ Accepted = sym g.answer ∙ ap answer_of_entries q in
        (sym (ap count_of_entries q) ∙ g.count ∙ rw a, a, rw q at g.small)

    pub read_refused : (q : Refusal) → r ≡ Err q → log_test l ≡ Err q
    unfolding answer_of_entries
    read_refused o q = sym g.answer ∙ ap answer_of_entries q

  module _ (r : Result ℕ Refusal) where
    stopped : (k i : ℕ) → log_test l ≡ Refused k i → r ≡ Err (record { number = k; index = i }) → EntriesRead l r
    unfolding answer_of_entries count_of_entries
    stopped k i e q = rw q (record { answer = sym e; count = rw e; small = lit< tt })

    pub read_short : (length l ≡ 2 + 9 * entry_count l → ⊥) → r ≡ Err (record { number = 14; index = 0 }) → EntriesRead l r
    unfolding log_test test14 first_met
    read_short h = stopped 14 0 (rw (ne_eqb (length l) (2 + 9 * entry_count l) h))

    module _ (n : ℕ) (c : n ≡ entry_count l) (h : length l ≡ 2 + 9 * n) where
      long : test14 l ≡ Accepted
      unfolding test14
      long = rw (eq-eqb (length l) (2 + 9 * entry_count l) (rw c at h))

      pub read_late : (e : ℕ) → e ≡ first (λ i. ltb 1000000000 (entry_in l i).tick) n → e < n → r ≡ Err (record { number = 15; index = e }) → EntriesRead l r
      unfolding log_test test15
      read_late e q s =
          stopped 15 e
          (rw (
            first_met_pass (test14 l) (test15 l ∷ []) long,
            first_met-stop (test15 l) [] 15 e
                (lowest-found 15 (λ i. ltb 1000000000 (entry_in l i).tick) (entry_count l) e (sym (rw c at q)) (rw c at s)),
          ))

      pub read_all : (e : ℕ) → e ≡ first (λ i. ltb 1000000000 (entry_in l i).tick) n → n ≤ e → n < 65536 → r ≡ Ok n → EntriesRead l r
      unfolding log_test test15 first_met answer_of_entries count_of_entries
      read_all e q s small k =
          let f : first (λ i. ltb 1000000000 (entry_in l i).tick) (entry_count l) ≡ entry_count l =
          rw (← c) (le_antisymm (first_le (λ i. ltb 1000000000 (entry_in l i).tick) n) (rw q at s)) in
          let a : log_test l ≡ Accepted =
          rw (
            first_met_pass (test14 l) (test15 l ∷ []) long,
            first_met_pass (test15 l) [] (lowest-none 15 (λ i. ltb 1000000000 (entry_in l i).tick) (entry_count l) f),
          ) in
          rw k (record { answer = sym a; count = c ∙ sym (ap (λ (b : Answer). unless_refused b (entry_count l) 0) a); small = small })
