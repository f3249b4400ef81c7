-- The end of a log run: so long after the last entry that nothing is pending, the answer's bytes say just what *taken* and *finishes* say.
--     end-owners        nobody owns anything then
--     end-said          every entry's report is said
--     end_reports       so the answer is the document's
--     entered-none      where a run stands before its first entry
use Prim.Native.Nat.{ℕ, zero, suc, ◌+◌, ◌-◌, ◌≤◌, ◌<◌}
use Rattle.std.specs.Prelude.{Bool, true, ◌≡◌, ◌⊎◌, replicate, ltb}
use Rattle.std.proofs.Math.Bool.{false}
use Rattle.std.proofs.Common.{true≢false, ◌∙◌, inl, inr, ltb-true, ltb-false}
use Rattle.std.proofs.lemmas.Bool.{false≢true}
use Rattle.std.proofs.Math.Path.{refl, sym, ap, subst}
use mathlib.Core.List.{List, [], ◌∷◌}
use native.Mathlib.Omega.{arith}
use Rattle.std.proofs.Math.ListN.{length}
use Rattle.laws.specs.Member.{member}
use Rattle.laws.specs.MemberLaws.{not_member_nil}
use Rattle.laws.specs.TabLaws.{tab_replicate}
use Rattle.tasks.specs.declared.Plan.{Plan}
use Rattle.tasks.specs.TaskSet.{TaskSet}
use Rattle.tasks.specs.Content.{content_of}
use Rattle.machine.specs.Machine.{Job, opened, pending, waiting}
use Rattle.state.specs.declared.State.{State}
use Rattle.state.specs.State.{state_of}
use Rattle.state.proofs.FitLaws.{plan-limits, plan-compliant, plan-bounded}
use Rattle.state.proofs.CallLaws.{opened_empty}
use Rattle.history.specs.Engine.{Outcome, taken, refused, Engine, Call, state, Ends}
use Rattle.history.proofs.EngineLaws.{ends-step, ends-once}
use Rattle.history.specs.Log.{Entry, loop_at, wait, calls, outcome, Taken, owed, rest, whole}
use Rattle.history.specs.Report.{finished, report}
use Rattle.history.proofs.Report.{report-finished, report-refused}
use Rattle.history.specs.OnMachine.{machine_engine}
use Rattle.history.proofs.Drain.{quiet-idle}
use Rattle.history.proofs.MachineClaim.{machine_claim}
use Rattle.history.specs.LogClock.{longest}
use Rattle.history.proofs.LogClock.{quiet-after, rest-high}
use Rattle.history.proofs.Owners.{owned-length}
use Rattle.logs.specs.LogBytes.{reports_to}
use Rattle.logs.specs.ReportLaws.{Said, said_all}
use Rattle.running.specs.LowerLaws.{wait-wait}
use Rattle.running.specs.Running.{arrays, owners_in, counts_in, Book}
use Rattle.running.specs.Entered.{Fitting, Entered}

module _ {p : Plan} {l : List Entry} {out₀ : List ℕ} (F : Fitting p l out₀) where
  abbrev s : TaskSet
  s = (content_of p).tasks

  abbrev E : Engine
  E = machine_engine s

  abbrev n : ℕ
  n = length l

  module _ {k : ℕ} (long : longest ≤ k) {O : ℕ → List ℕ} {out : List ℕ} (B : Book p l out₀ n (wait k (calls l n)) O out) where
    end-owners : (i : ℕ) → O i ≡ []
    unfolding waiting
    end-owners i = go (ltb i s.count) refl
      where
        empty : (q : List Job) → pending q ≡ false → length q ≡ 0
        empty [] e = refl
        empty (j ∷ q) e = absurd (true≢false e)

        none : (os : List ℕ) → length os ≡ 0 → os ≡ []
        none [] e = refl
        none (o ∷ os) e = absurd (omega arith)

        go : (b : Bool) → ltb i s.count ≡ b → O i ≡ []
        go true q =
            let less = ltb-true i s.count q in
            none (O i)
            (owned-length E l i _ (O i) _ (B.owned i less)
            ∙ empty ((state E (wait k (calls l n))).lane i).queue
            (quiet-idle s (state E (wait k (calls l n)))
            (quiet-after s (content_of p).slack (plan-limits p F.accepted) (plan-compliant p F.accepted)
            (plan-bounded p F.accepted) k (calls l n) long)
            i less))
        go false q = B.unowned i (ltb-false i s.count q)

    -- what has ended in the whole run has ended the same way here
    ends-later : (i d f : ℕ) → Ends E (whole E l) i d f → Ends E (wait k (calls l n)) i d f
    unfolding whole
    ends-later i d f x =
        let r =
        rest-high s (content_of p).slack (plan-limits p F.accepted) (plan-compliant p F.accepted)
        (plan-bounded p F.accepted) l k long in
        let z : k - rest E l + rest E l ≡ k = omega arith in
        subst (λ h. Ends E h i d f) (wait-wait (k - rest E l) (rest E l) (calls l n) ∙ ap (λ (m : ℕ). wait m (calls l n)) z)
        (more (k - rest E l) (wait (rest E l) (calls l n)) x)
      where
        more : (a : ℕ) (h : List Call) → Ends E h i d f → Ends E (wait a h) i d f
        more zero h y = y
        more (suc a) h y = ends-step E (wait a h) i d f (more a h y)

    end-said : (e : ℕ) → e < n → Said out e (report E l e)
    end-said e less = go (outcome E l e) refl
      where
        ended :
            (t : Taken E l e)
            → (member e (O (loop_at l e)) ≡ true)
            ⊎ ((f : ℕ) × Ends E (wait k (calls l n)) (loop_at l e) (owed E l (loop_at l e) (suc e)) f × Said out e (finished f))
            → Said out e (report E l e)
        ended t (inl m) =
            absurd (true≢false (sym m ∙ ap (member e) (end-owners (loop_at l e)) ∙ not_member_nil e))
        ended t (inr x) =
            let T =
            (machine_claim s (content_of p).slack (plan-limits p F.accepted) (plan-compliant p F.accepted)
            (plan-bounded p F.accepted) l).in_time e less t in
            let same =
            ends-once E (wait k (calls l n)) (loop_at l e) (owed E l (loop_at l e) (suc e)) x.0 T.0 x.1
            (ends-later (loop_at l e) (owed E l (loop_at l e) (suc e)) T.0 T.1.1) in
            rw (report-finished E l e T.0 T.1, sym same) x.2

        go : (o : Outcome) → outcome E l e ≡ o → Said out e (report E l e)
        go taken t = ended t (B.each e less t)
        go (refused m) r = rw (report-refused E l e m r) (B.refusals e m less r)

    pub end_reports : out ≡ reports_to (report E l) n out₀
    end_reports = said_all (report E l) n out out₀ B.long F.room end-said B.beyond

  -- ---- the beginning

  pub entered-none :
      {key left : List ℕ} → Entered p l out₀ 0 0 (arrays (replicate 16 0) (replicate 256 0) key left 0 out₀) (replicate 16 false) (replicate 16 0)
  unfolding calls state_of owners_in counts_in opened waiting
  entered-none =
      record {
        fitting = F;
        clock_is = refl;
        owned_by = λ i. [];
        running =
            record {
              counts_are = sym (tab_replicate 0 16);
              owners_are = sym (tab_replicate 0 256);
              heads_are =
                  record {
                    rises = λ a b h g. absurd (omega arith);
                    sound = λ a h. absurd (omega arith);
                    complete = λ i w o. absurd (false≢true w);
                  };
              book = none;
            };
        recent =
            record {
              released_are = ap (λ (t : State). t.released) (opened_empty p);
              last_are = ap (λ (t : State). t.last) (opened_empty p);
            };
      }
    where
      none : Book p l out₀ 0 [] (λ i. []) out₀
      none =
          record {
            owned = λ i less. tt;
            rooted = λ i less. tt;
            unowned = λ i far. refl;
            small = λ i. tt;
            long = refl;
            beyond = λ j far. refl;
            refusals = λ k m less r. absurd (omega arith);
            each = λ k less t. absurd (omega arith);
          }
