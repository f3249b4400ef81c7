-- A taken release keeps the invariant.
--     each               what holds of every lane, and of loop i's with a release more, holds of every lane after the release
--     release-timely     chains and heads in time, after a taken release
--     release-kept       the invariant after it
use Rattle.std.specs.Prelude.{ℕ, ◌+◌, ◌≤◌, ◌<◌, Bool, false, cond, ◌≡◌, refl, List, [], ◌∷◌, ◌++◌, eqb}
use Rattle.std.proofs.Math.Bool.{true}
use Rattle.std.proofs.Common.{true≢false, sym, subst, ◌∙◌, arith, eqb-true}
use Rattle.std.proofs.Math.Nat.{le_refl, le_trans}
use Rattle.std.proofs.lemmas.Bool.{lt-leb}
use Rattle.laws.specs.Sum.{count}
use Rattle.laws.specs.SumLaws.{sum_mono, count_mono}
use Rattle.tasks.specs.TaskSet.{TaskSet, hyperperiod, share}
use Rattle.machine.specs.Machine.{Job, job, Lane, Machine, too_soon, Allowed, joined, admitted}
use Rattle.machine.specs.Queue.{next, Chain, InTime}
use Rattle.machine.proofs.Queue.{next-free, next-taken, chain-joined, in_time_joined}
use Rattle.machine.specs.Owed.{early, owed, line}
use Rattle.machine.proofs.Owed.{release-line}
use Rattle.machine.specs.Choice.{early_at}
use Rattle.machine.specs.Invariant.{Setting, next_of, potential_of, potential, Chained, Timely, Invariant}

pub each :
    (n : ℕ) (M : Machine) (i c : ℕ) (P : ℕ → Lane → Type 0) → ((j : ℕ) → j < n → P j (M.lane j)) → P i (joined M.clock c (M.lane i))
    → (j : ℕ) → j < n → P j ((admitted i c M).lane j)
unfolding admitted
each n M i c P old here j h = go (eqb j i) refl
  where
    go : (b : Bool) → eqb j i ≡ b → P j (cond b (joined M.clock c (M.lane j)) (M.lane j))
    go true e = subst (λ k. P k (joined M.clock c (M.lane k))) (sym (eqb-true j i e)) here
    go false e = old j h

-- a job released at t is not early at a threshold before t
early-joined : (Y y t c : ℕ) (q : List Job) → y < t → early Y y (q ++ job t c ∷ []) ≡ true → early Y y q ≡ true
early-joined Y y t c [] less e = absurd (true≢false (sym e ∙ lt-leb (t + Y) y (omega arith)))
early-joined Y y t c (job a w ∷ q) less e = e

module _ (s : TaskSet) (M : Machine) (i c : ℕ) (A : Allowed s M i c) where
  now : next_of s M i ≡ M.clock
  unfolding next_of too_soon
  now = next-free (s.task i).separation M.clock (M.lane i).last A.apart

  release-chain : ((j : ℕ) → j < s.count → Chained s M j) → (j : ℕ) → j < s.count → Chained s (admitted i c M) j
  unfolding next_of admitted joined
  release-chain chain =
      each s.count M i c
      (λ j l. Chain (s.task j).separation (s.task j).budget (next (s.task j).separation M.clock l.last) 0 l.queue)
      chain
      (rw (next-taken (s.task i).separation M.clock)
      (chain-joined (s.task i).separation (s.task i).budget M.clock c 0 (M.lane i).queue A.demand-low A.demand-high
      (rw now at (chain i A.in_table))))

  pub release-timely : (b : ℕ → ℕ) → (s.task i).budget ≤ b i → Timely s b M → Timely s b (admitted i c M)
  unfolding admitted joined
  release-timely b low I =
      record {
        chain = release-chain I.chain;
        in_time =
            each s.count M i c (λ j l. InTime M.clock (b j) l.queue) I.in_time
            (in_time_joined M.clock (b i) c (M.lane i).queue (omega (arith, A.demand-high)) (I.in_time i A.in_table));
      }

module _ (s : TaskSet) (x : ℕ → ℕ) (S : Setting s x) (M : Machine) (I : Invariant s x M) (i c : ℕ) (A : Allowed s M i c) where
  release-potential : (y j : ℕ) → j < s.count → potential_of s (admitted i c M) y j ≤ potential_of s M y j
  unfolding potential_of next_of admitted joined
  release-potential y =
      each s.count M i c
      (λ j l. owed (hyperperiod s) (s.task j).offset y l.queue
      + line (share s j) (s.task j).separation (s.task j).offset y (next (s.task j).separation M.clock l.last)
      ≤ potential_of s M y j)
      (λ j h. le_refl _)
      (rw (next-taken (s.task i).separation M.clock, now s M i c A)
      (release-line (s.task i).separation (s.task i).budget (s.task i).offset (share s i) (hyperperiod s)
      (S.share_exact i A.in_table) (S.offset-high i A.in_table) y M.clock c (M.lane i).queue A.demand-high))

  release-early : (y j : ℕ) → y < M.clock → j < s.count → early_at s (admitted i c M) y j ≡ true → early_at s M y j ≡ true
  unfolding early_at joined
  release-early y j less =
      each s.count M i c (λ j l. early (s.task j).offset y l.queue ≡ true → early_at s M y j ≡ true) (λ j h e. e)
      (early-joined (s.task i).offset y M.clock c (M.lane i).queue less) j

  pub release-kept : Invariant s x (admitted i c M)
  unfolding admitted potential
  release-kept =
      record {
        timely = release-timely s M i c A _ (omega arith) I.timely;
        ahead = λ d. le_trans (fewer (M.clock + d)) (I.ahead d);
        behind = λ y d e busy. omega (arith, fewer y, I.behind y d e (le_trans busy (as-early y (omega arith))));
      }
    where
      fewer : (y : ℕ) → potential s (admitted i c M) y ≤ potential s M y
      fewer y = sum_mono (potential_of s (admitted i c M) y) (potential_of s M y) s.count (release-potential y)

      as-early : (y : ℕ) → y < M.clock → count (early_at s (admitted i c M) y) s.count ≤ count (early_at s M y) s.count
      as-early y less = count_mono (early_at s (admitted i c M) y) (early_at s M y) s.count (λ j. release-early y j less)
