-- What each array of the state becomes by a taken release of loop i, whose queue holds n jobs: one place more is used.
--     admitted-jobs, admitted-released, admitted-last, admitted-remaining, admitted-release
--     admitted-state      the state, whole
use Rattle.std.specs.Prelude.{ℕ, ◌+◌, ◌*◌, ◌≤◌, ◌<◌, Bool, ◌≡◌, List, [], ◌∷◌, ◌++◌, set, ltb}
use Rattle.std.proofs.Math.Bool.{true, false, cond}
use Rattle.std.proofs.Math.Path.{refl, sym, ap}
use Rattle.std.proofs.Common.{◌∙◌, ⊎_elim, eq-or-lt_of_le, arith, length-append}
use Rattle.std.proofs.Math.ListN.{length, get_or, get_or-append, get_or-eq_default}
use Rattle.std.proofs.lemmas.List.{get_or_at}
use Rattle.std.proofs.Math.Dec.{eqb}
use borrow.Author.Tests.{ltb-true, ltb-false, eqb-true, eqb-false, eq-eqb, ne_eqb}
use Rattle.laws.specs.TabLaws.{set-tab, tab_ext}
use Rattle.tasks.specs.declared.Plan.{Plan}
use Rattle.machine.specs.Machine.{Job, job, release_tick, remaining, Machine, joined, admitted}
use Rattle.state.specs.State.{no_job, job_at, flag_of, tick_of, jobs_in, released_in, last_in, remaining_in, release_in, state_of}
use Rattle.state.proofs.AllLaws.{by_place}
use Rattle.state.proofs.ViewLaws.{job-at}

-- a queue with one job more, read at place q
joined_at : (l : List Job) (j : Job) (q : ℕ) → get_or (l ++ j ∷ []) q no_job ≡ cond (eqb q (length l)) j (get_or l q no_job)
joined_at l j q = go (eqb q (length l)) refl (ltb q (length l)) refl
  where
    go : (b : Bool) → eqb q (length l) ≡ b → (c : Bool) → ltb q (length l) ≡ c → get_or (l ++ j ∷ []) q no_job ≡ cond b j (get_or l q no_job)
    go true e c f = rw (eqb-true q (length l) e) (get_or_at l j [] no_job (length l) refl)
    go false e true f = get_or-append l (j ∷ []) no_job q (ltb-true _ _ f)
    go false e false f =
        let far : length l ≤ q = ltb-false _ _ f in
        get_or-eq_default (l ++ j ∷ []) no_job (past far)
        ∙ sym (get_or-eq_default l no_job far)
      where
        past : length l ≤ q → length (l ++ j ∷ []) ≤ q
        past far = rw length-append (omega (arith, more far))
          where
            more : length l ≤ q → length l < q
            more h = ⊎_elim (λ (z : length l ≡ q). absurd (eqb-false q (length l) e (sym z))) (λ (z : length l < q). z) (eq-or-lt_of_le h)

module _ (i c : ℕ) (M : Machine) where
  pub admitted-jobs : jobs_in (admitted i c M) ≡ set (jobs_in M) i (length (M.lane i).queue + 1)
  unfolding jobs_in admitted joined
  admitted-jobs =
      sym (set-tab (λ j. length (M.lane j).queue) 16 i (length (M.lane i).queue + 1) ∙ tab_ext _ _ 16 (λ j h. at j (eqb j i) refl))
    where
      at : (j : ℕ) (b : Bool) → eqb j i ≡ b
          → cond b (length (M.lane i).queue + 1) (length (M.lane j).queue)
          ≡ length (cond b (joined M.clock c (M.lane j)) (M.lane j)).queue
      at j true e = rw (eqb-true j i e) (sym (length-append (M.lane i).queue (job M.clock c ∷ [])))
      at j false e = refl

  pub admitted-released : released_in (admitted i c M) ≡ set (released_in M) i true
  unfolding released_in admitted joined
  admitted-released =
      sym (set-tab (λ j. flag_of (M.lane j).last) 16 i true ∙ tab_ext _ _ 16 (λ j h. at j (eqb j i)))
    where
      at : (j : ℕ) (b : Bool) → cond b true (flag_of (M.lane j).last) ≡ flag_of (cond b (joined M.clock c (M.lane j)) (M.lane j)).last
      at j true = refl
      at j false = refl

  pub admitted-last : last_in (admitted i c M) ≡ set (last_in M) i M.clock
  unfolding last_in admitted joined
  admitted-last =
      sym (set-tab (λ j. tick_of (M.lane j).last) 16 i M.clock ∙ tab_ext _ _ 16 (λ j h. at j (eqb j i)))
    where
      at : (j : ℕ) (b : Bool) → cond b M.clock (tick_of (M.lane j).last) ≡ tick_of (cond b (joined M.clock c (M.lane j)) (M.lane j)).last
      at j true = refl
      at j false = refl

  module _ (room : length (M.lane i).queue < 16) where
    new-job :
        (k : ℕ) → k < 256
        → job_at (admitted i c M) k ≡ cond (eqb k (16 * i + length (M.lane i).queue)) (job M.clock c) (job_at M k)
    unfolding admitted joined
    new-job =
        by_place (λ k. job_at (admitted i c M) k ≡ cond (eqb k (16 * i + length (M.lane i).queue)) (job M.clock c) (job_at M k)) at
      where
        at :
            (j q : ℕ) → j < 16 → q < 16
            → job_at (admitted i c M) (16 * j + q)
            ≡ cond (eqb (16 * j + q) (16 * i + length (M.lane i).queue)) (job M.clock c) (job_at M (16 * j + q))
        at j q h l = rw (job-at (admitted i c M) j q l, job-at M j q l) (go (eqb j i) refl)
          where
            go :
                (b : Bool) → eqb j i ≡ b
                → get_or (cond b (joined M.clock c (M.lane j)) (M.lane j)).queue q no_job
                ≡ cond (eqb (16 * j + q) (16 * i + length (M.lane i).queue)) (job M.clock c) (get_or (M.lane j).queue q no_job)
            go true e =
                rw (eqb-true j i e, joined_at (M.lane i).queue (job M.clock c) q)
                (ap (λ (b : Bool). cond b (job M.clock c) (get_or (M.lane i).queue q no_job)) (same (eqb q (length (M.lane i).queue)) refl))
              where
                same : (b : Bool) → eqb q (length (M.lane i).queue) ≡ b → eqb q (length (M.lane i).queue) ≡ eqb (16 * i + q) (16 * i + length (M.lane i).queue)
                same true f = f ∙ sym (eq-eqb (16 * i + q) (16 * i + length (M.lane i).queue) (omega (arith, eqb-true q (length (M.lane i).queue) f)))
                same false f = f ∙ sym (ne_eqb (16 * i + q) (16 * i + length (M.lane i).queue) (λ (z : 16 * i + q ≡ 16 * i + length (M.lane i).queue). eqb-false q (length (M.lane i).queue) f (omega arith)))
            go false e = rw (ne_eqb (16 * j + q) (16 * i + length (M.lane i).queue) (λ (z : 16 * j + q ≡ 16 * i + length (M.lane i).queue). eqb-false j i e (omega arith)))

    pub admitted-remaining : remaining_in (admitted i c M) ≡ set (remaining_in M) (16 * i + length (M.lane i).queue) c
    unfolding remaining_in
    admitted-remaining =
        sym
        (set-tab (λ k. remaining (job_at M k)) 256 (16 * i + length (M.lane i).queue) c
        ∙ tab_ext _ _ 256 (λ k h. part k (eqb k (16 * i + length (M.lane i).queue)) refl ∙ ap remaining (sym (new-job k h))))
      where
        part : (k : ℕ) (b : Bool) → eqb k (16 * i + length (M.lane i).queue) ≡ b
            → cond (eqb k (16 * i + length (M.lane i).queue)) c (remaining (job_at M k))
            ≡ remaining (cond (eqb k (16 * i + length (M.lane i).queue)) (job M.clock c) (job_at M k))
        part k true e = rw e
        part k false e = rw e

    pub admitted-release : release_in (admitted i c M) ≡ set (release_in M) (16 * i + length (M.lane i).queue) M.clock
    unfolding release_in
    admitted-release =
        sym
        (set-tab (λ k. release_tick (job_at M k)) 256 (16 * i + length (M.lane i).queue) M.clock
        ∙ tab_ext _ _ 256 (λ k h. part k (eqb k (16 * i + length (M.lane i).queue)) refl ∙ ap release_tick (sym (new-job k h))))
      where
        part : (k : ℕ) (b : Bool) → eqb k (16 * i + length (M.lane i).queue) ≡ b
            → cond (eqb k (16 * i + length (M.lane i).queue)) M.clock (release_tick (job_at M k))
            ≡ release_tick (cond (eqb k (16 * i + length (M.lane i).queue)) (job M.clock c) (job_at M k))
        part k true e = rw e
        part k false e = rw e

    pub admitted-state :
        (p : Plan)
        → state_of p (admitted i c M)
        ≡ record {
          plan = p;
          clock = M.clock;
          jobs = set (jobs_in M) i (length (M.lane i).queue + 1);
          released = set (released_in M) i true;
          last = set (last_in M) i M.clock;
          remaining = set (remaining_in M) (16 * i + length (M.lane i).queue) c;
          release = set (release_in M) (16 * i + length (M.lane i).queue) M.clock;
        }
    unfolding state_of admitted
    admitted-state p =
        λ k.
        record {
          plan = p;
          clock = M.clock;
          jobs = admitted-jobs k;
          released = admitted-released k;
          last = admitted-last k;
          remaining = admitted-remaining k;
          release = admitted-release k;
        }
