-- An entry entered keeps the book, whatever its outcome.
--     Recent h …        the arrays of flags and last releases are those of the machine after h
--     book-refused      an entry that is refused, by 17 or by its release's answer
--     owners_with        the owners with the entry as its loop's last
--     book-taken        an entry whose release is taken
use Prim.Native.Nat.{ℕ, suc, ◌*◌, ◌≤◌, ◌<◌}
use Rattle.std.specs.Prelude.{Bool, true, false, cond, ◌≡◌, refl, ◌⊎◌, List, [], ◌∷◌, ◌++◌, length, eqb}
use Rattle.std.proofs.Math.Bool.{or-true}
use Rattle.std.proofs.Common.{sym, ap, ◌∙◌, inl, inr, ⊎_elim, le_refl, eq-or-lt_of_le, le_of_suc-le-suc, arith, eqb-true, eq-eqb, ne_eqb}
use Rattle.std.proofs.lemmas.List.Edits.{sets}
use Rattle.std.proofs.lemmas.Bool.{eqb-false}
use Rattle.laws.specs.Member.{member}
use Rattle.laws.specs.MemberLaws.{member-append, member-here}
use Rattle.tasks.specs.declared.Plan.{Plan}
use Rattle.tasks.specs.TaskSet.{TaskSet}
use Rattle.machine.specs.Machine.{Job, job, admitted, joined}
use Rattle.state.specs.State.{released_in, last_in}
use Rattle.history.specs.Engine.{refused, Call, ask, clock, state, verdict, named_ticks, Ends}
use Rattle.history.proofs.EngineLaws.{ends-ask}
use Rattle.history.specs.Log.{Entry, tick_at, loop_at, demand_at, until, calls, outcome, Taken, owed}
use Rattle.history.proofs.LogLaws.{taken_call, clock-entry}
use Rattle.history.specs.Report.{finished, refusal}
use Rattle.history.specs.OnMachine.{handed_of, machine_engine}
use Rattle.history.proofs.Balance.{not_refused, machine_clock}
use Rattle.history.proofs.Owners.{Owned, owners-taken}
use Rattle.logs.specs.LogBytes.{report_bytes}
use Rattle.logs.specs.ReportLaws.{Said, said-length, said-beyond, said_here, said-other}
use Rattle.running.specs.Running.{tasks_on, engine_on, Below, Whole, Rooted, Book}

below_more : (e : ℕ) (os : List ℕ) → Below e os → Below (suc e) os
below_more e [] w = tt
below_more e (o ∷ os) w = (omega (arith, w.0), below_more e os w.1)

whole-joined :
    (l : List Entry) (t c e : ℕ) (os : List ℕ) (q : List Job) → t ≡ tick_at l e → c ≡ demand_at l e → Whole l os q → Whole l (os ++ e ∷ []) (q ++ job t c ∷ [])
whole-joined l t c e [] [] a b w = (a, b, tt)
whole-joined l t c e [] (j ∷ q) a b w = absurd w
whole-joined l t c e (o ∷ os) [] a b w = absurd w
whole-joined l t c e (o ∷ os) (job r v ∷ q) a b w = (w.0, w.1, whole-joined l t c e os q a b w.2)

rooted-joined :
    (l : List Entry) (t c e : ℕ) (os : List ℕ) (q : List Job) → t ≡ tick_at l e → c ≡ demand_at l e → Rooted l os q → Rooted l (os ++ e ∷ []) (q ++ job t c ∷ [])
rooted-joined l t c e [] [] a b w = (a, tt)
rooted-joined l t c e [] (j ∷ q) a b w = absurd w
rooted-joined l t c e (o ∷ os) [] a b w = absurd w
rooted-joined l t c e (o ∷ os) (job r v ∷ q) a b w = (w.0, whole-joined l t c e os q a b w.1)

pub record Recent (s : TaskSet) (h : List Call) (released : List Bool) (last : List ℕ) : Type 0 where
  pub released_are : released ≡ released_in (state (machine_engine s) h)
  pub last_are : last ≡ last_in (state (machine_engine s) h)

-- a release taken: the entry is the owner of its job
abbrev pub owners_with : ℕ → (ℕ → List ℕ) → ℕ → ℕ → List ℕ
owners_with e O i j = cond (eqb j i) (O j ++ e ∷ []) (O j)

module _ {p : Plan} {l : List Entry} {out₀ : List ℕ} where
  module _ {e : ℕ} {O : ℕ → List ℕ} {out : List ℕ} (room : 8 * suc e ≤ length out₀) where
    -- a refusal written, with calls made that change neither queues nor what was named
    pub book-refused :
        {h g : List Call} {n : ℕ} → outcome (engine_on p) l e ≡ refused n
        → ((i : ℕ) → Owned (engine_on p) l i (named_ticks (engine_on p) h i (clock h)) (O i) ((state (engine_on p) h).lane i).queue → Owned (engine_on p) l i (named_ticks (engine_on p) g i (clock g)) (O i) ((state (engine_on p) g).lane i).queue)
        → ((i : ℕ) → Rooted l (O i) ((state (engine_on p) h).lane i).queue → Rooted l (O i) ((state (engine_on p) g).lane i).queue)
        → ((i d f : ℕ) → Ends (engine_on p) h i d f → Ends (engine_on p) g i d f)
        → Book p l out₀ e h O out → Book p l out₀ (suc e) g O (sets out (8 * e) (report_bytes (refusal n)))
    book-refused {h} {g} {n} r same same-jobs ends B =
        record {
          owned = λ i less. same i (B.owned i less);
          rooted = λ i less. same-jobs i (B.rooted i less);
          unowned = B.unowned;
          small = λ i. below_more e (O i) (B.small i);
          long = said-length out e (refusal n) ∙ B.long;
          beyond = λ j far. said-beyond out e (refusal n) j (omega arith) ∙ B.beyond j (omega arith);
          refusals = λ k m less q. at k m q (eq-or-lt_of_le (le_of_suc-le-suc less));
          each = λ k less t. every k t (eq-or-lt_of_le (le_of_suc-le-suc less));
        }
      where
        here : Said (sets out (8 * e) (report_bytes (refusal n))) e (refusal n)
        here = said_here out e (refusal n) (omega (arith, B.long))

        at : (k m : ℕ) → outcome (engine_on p) l k ≡ refused m → (k ≡ e) ⊎ (k < e) → Said (sets out (8 * e) (report_bytes (refusal n))) k (refusal m)
        at k m q (inl z) =
            let same_number : refused m ≡ refused n = sym q ∙ ap (outcome (engine_on p) l) z ∙ r in
            let number : m ≡ n = cc in
            rw (z, number) here
        at k m q (inr z) = said-other out e (refusal n) k (refusal m) (λ y. absurd (omega arith)) (B.refusals k m z q)

        every :
            (k : ℕ) → Taken (engine_on p) l k → (k ≡ e) ⊎ (k < e)
            → (member k (O (loop_at l k)) ≡ true)
            ⊎ ((f : ℕ) × Ends (engine_on p) g (loop_at l k) (owed (engine_on p) l (loop_at l k) (suc k)) f × Said (sets out (8 * e) (report_bytes (refusal n))) k (finished f))
        every k t (inl z) = absurd (not_refused (sym r ∙ ap (outcome (engine_on p) l) (sym z) ∙ t))
        every k t (inr z) =
            ⊎_elim
            (λ (m : member k (O (loop_at l k)) ≡ true). inl m)
            (λ (x : (f : ℕ) × Ends (engine_on p) h (loop_at l k) (owed (engine_on p) l (loop_at l k) (suc k)) f × Said out k (finished f)).
            inr (
              x.0,
              ends (loop_at l k) (owed (engine_on p) l (loop_at l k) (suc k)) x.0 x.1,
              said-other out e (refusal n) k (finished x.0) (λ y. absurd (omega arith)) x.2,
            ))
            (B.each k z t)

    pub book-taken :
        (t : Taken (engine_on p) l e) → Book p l out₀ e (until (tick_at l e) (calls l e)) O out → loop_at l e < (tasks_on p).count
        → Book p l out₀ (suc e) (calls l (suc e)) (owners_with e O (loop_at l e)) out
    unfolding named_ticks handed_of verdict admitted joined
    book-taken t B known =
        record {
          owned = λ j less. owned j less (eqb j i) refl;
          rooted = λ j less. roots j less (eqb j i) refl;
          unowned = λ j far. rw (ne_eqb j i (λ (z : j ≡ i). absurd (omega arith))) (B.unowned j far);
          small = λ j. small (eqb j i) (O j) (B.small j);
          long = B.long;
          beyond = λ j far. B.beyond j (omega arith);
          refusals = λ k n less r. refusals k n r (eq-or-lt_of_le (le_of_suc-le-suc less));
          each = λ k less u. every k u (eq-or-lt_of_le (le_of_suc-le-suc less));
        }
      where
        i : ℕ
        i = loop_at l e

        g : List Call
        g = until (tick_at l e) (calls l e)

        made : calls l (suc e) ≡ ask i (demand_at l e) ∷ g
        made = (taken_call l (engine_on p) e t).2

        owned :
            (j : ℕ) → j < (tasks_on p).count → (b : Bool) → eqb j i ≡ b
            → Owned (engine_on p) l j (named_ticks (engine_on p) (calls l (suc e)) j (clock (calls l (suc e)))) (cond b (O j ++ e ∷ []) (O j)) ((state (engine_on p) (calls l (suc e))).lane j).queue
        owned j less true q =
            let same : j ≡ i = eqb-true j i q in
            rw same (owners-taken (tasks_on p) l e (O i) t (B.owned i known))
        owned j less false q = rw (made, (taken_call l (engine_on p) e t).1, q) (B.owned j less)

        roots :
            (j : ℕ) → j < (tasks_on p).count → (b : Bool) → eqb j i ≡ b
            → Rooted l (cond b (O j ++ e ∷ []) (O j)) ((state (engine_on p) (calls l (suc e))).lane j).queue
        roots j less true q =
            let same : j ≡ i = eqb-true j i q in
            rw (made, (taken_call l (engine_on p) e t).1, same, eq-eqb i i refl)
            (rooted-joined l (state (engine_on p) g).clock (demand_at l e) e (O i) ((state (engine_on p) g).lane i).queue
            (machine_clock (tasks_on p) g ∙ clock-entry l e (taken_call l (engine_on p) e t).0) refl (B.rooted i known))
        roots j less false q = rw (made, (taken_call l (engine_on p) e t).1, q) (B.rooted j less)

        small : (b : Bool) (os : List ℕ) → Below e os → Below (suc e) (cond b (os ++ e ∷ []) os)
        small true [] w = (le_refl _, tt)
        small true (o ∷ os) w = (omega (arith, w.0), small true os w.1)
        small false os w = below_more e os w

        refusals : (k n : ℕ) → outcome (engine_on p) l k ≡ refused n → (k ≡ e) ⊎ (k < e) → Said out k (refusal n)
        refusals k n r (inl z) = absurd (not_refused (sym r ∙ ap (outcome (engine_on p) l) z ∙ t))
        refusals k n r (inr z) = B.refusals k n z r

        joins : (k : ℕ) (b : Bool) (os : List ℕ) → member k os ≡ true → member k (cond b (os ++ e ∷ []) os) ≡ true
        joins k true os m = member-append k os (e ∷ []) ∙ rw m
        joins k false os m = m

        new : (b : Bool) → eqb i i ≡ b → (os : List ℕ) → member e (cond b (os ++ e ∷ []) os) ≡ true
        new true q os = member-append e os (e ∷ []) ∙ rw (member-here e []) (or-true (member e os))
        new false q os = absurd (eqb-false i i q refl)

        every :
            (k : ℕ) → Taken (engine_on p) l k → (k ≡ e) ⊎ (k < e)
            → (member k (owners_with e O i (loop_at l k)) ≡ true)
            ⊎ ((f : ℕ) × Ends (engine_on p) (calls l (suc e)) (loop_at l k) (owed (engine_on p) l (loop_at l k) (suc k)) f × Said out k (finished f))
        every k u (inl z) = inl (rw z (new (eqb i i) refl (O i)))
        every k u (inr z) =
            ⊎_elim
            (λ (m : member k (O (loop_at l k)) ≡ true). inl (joins k (eqb (loop_at l k) i) (O (loop_at l k)) m))
            (λ (x : (f : ℕ) × Ends (engine_on p) g (loop_at l k) (owed (engine_on p) l (loop_at l k) (suc k)) f × Said out k (finished f)).
            inr (x.0, rw made (ends-ask (engine_on p) g i (demand_at l e) (loop_at l k) (owed (engine_on p) l (loop_at l k) (suc k)) x.0 x.1), x.2))
            (B.each k z u)
