-- The book is kept by the steps of a run.
--     whole-rooted, rooted-tick      the jobs of a queue are their entries', also after a tick
--     book-wait      by ticks in which nobody finishes
--     book-few       a loop has no more than 16 owners
--     ended          whether a loop's head finishes in the tick after a history
--     owners_now      the owners with some of those loops' first ones taken off
--     Stage          the book in the midst of a tick: some of the loops that finish in it are noted
--     stage-none, stage-more      none is noted; one more
--     book-tick      all are: the book after the tick
use Prim.Native.Nat.{ℕ, zero, suc, ◌+◌, ◌-◌, ◌*◌, ◌≤◌, ◌<◌}
use Rattle.std.specs.Prelude.{Bool, ◌&&◌, ◌||◌, ◌≡◌, ◌⊎◌, length, get_or, drop, ltb, eqb}
use Rattle.std.proofs.Math.Bool.{true, false, cond, or-false, and-eq-true_iff}
use Rattle.std.proofs.lemmas.Bool.{false≢true}
use Rattle.std.proofs.Math.Path.{refl}
use Rattle.std.proofs.Common.{sym, ap, ◌∙◌, inl, inr, ⊎_elim, arith}
use mathlib.Core.List.{List, [], ◌∷◌}
use Rattle.std.proofs.lemmas.List.Edits.{sets}
use borrow.Author.Tests.{ltb-true, ltb-false, eqb-true, eqb-false, eq-eqb, lt-leb}
use Rattle.laws.specs.Member.{member}
use Rattle.laws.specs.MemberLaws.{member-cases}
use Rattle.tasks.specs.declared.Plan.{Plan}
use Rattle.tasks.specs.TaskSet.{TaskSet}
use Rattle.machine.specs.Machine.{Job, job, runs, served, advanced, tick}
use Rattle.machine.specs.Sound.{Rising}
use Rattle.machine.proofs.Sound.{reached-sound}
use Rattle.machine.proofs.Choice.{earliest}
use Rattle.state.specs.Fit.{Fit}
use Rattle.history.specs.Engine.{refused, Call, step, clock, state, named_ticks, Ends}
use Rattle.history.proofs.EngineLaws.{ends-step}
use Rattle.history.specs.Log.{Entry, loop_at, wait, outcome, Taken, owed}
use Rattle.history.specs.Report.{finished, refusal}
use Rattle.history.specs.OnMachine.{machine_engine}
use Rattle.history.proofs.Balance.{not_refused, reached}
use Rattle.history.proofs.Owners.{Owned, finishing, owned-length, owned_head, owner_ends, owners-tick}
use Rattle.numbers.specs.Bytes.{byte}
use Rattle.logs.specs.LogBytes.{report_bytes}
use Rattle.logs.specs.ReportLaws.{Said, said-length, said-beyond, said_here, said-other}
use Rattle.heads.specs.Order.{head_work}
use Rattle.running.specs.Lower.{lower_head, lowered}
use Rattle.running.specs.LowerLaws.{MoreThan, lowered-runs, wait-lowered}
use Rattle.running.specs.Running.{tasks_on, engine_on, Below, Whole, Rooted, Book}

pub whole-rooted : (l : List Entry) (os : List ℕ) (q : List Job) → Whole l os q → Rooted l os q
whole-rooted l [] [] w = tt
whole-rooted l [] (j ∷ q) w = w
whole-rooted l (o ∷ os) [] w = w
whole-rooted l (o ∷ os) (job a v ∷ q) w = (w.0, w.2)

pub rooted-tick :
    (l : List Entry) (T C t r : ℕ) (os : List ℕ) (q : List Job) (b : Bool) → Rising T C t r q → Rooted l os q
    → Rooted l (cond (b && finishing q) (drop 1 os) os) (cond b (served q) q)
unfolding served
rooted-tick l T C t r os q false c p = p
rooted-tick l T C t r [] [] true c p = tt
rooted-tick l T C t r [] (j ∷ q) true c p = absurd p
rooted-tick l T C t r (o ∷ os) [] true c p = absurd p
rooted-tick l T C t r (o ∷ os) (job a zero ∷ q) true c p = absurd (omega arith)
rooted-tick l T C t r (o ∷ os) (job a (suc zero) ∷ q) true c p = whole-rooted l os q p.1
rooted-tick l T C t r (o ∷ os) (job a (suc (suc w)) ∷ q) true c p = rw (lt-leb (suc (suc w)) 1 (omega arith)) (p.0, p.1)

-- whether loop i's head finishes in the tick after g
unfoldable pub ended : TaskSet → List Call → ℕ → Bool
ended s g i = runs s (state (machine_engine s) g) i && finishing ((state (machine_engine s) g).lane i).queue

-- the owners without the first ones of the loops in `gone`
abbrev pub owners_now : (ℕ → List ℕ) → (ℕ → Bool) → ℕ → List ℕ
owners_now O gone j = cond (gone j) (drop 1 (O j)) (O j)

-- one loop more
abbrev pub and_one : (ℕ → Bool) → ℕ → ℕ → Bool
and_one gone i j = gone j || eqb j i

module _ (p : Plan) (l : List Entry) (out₀ : List ℕ) where
  -- the loops in `gone` are noted in o
  pub record Stage (e : ℕ) (g : List Call) (O : ℕ → List ℕ) (gone : ℕ → Bool) (o : List ℕ) : Type 0 where
    pub long : length o ≡ length out₀
    pub beyond : (j : ℕ) → 8 * e ≤ j → byte o j ≡ byte out₀ j
    pub refusals : (k n : ℕ) → k < e → outcome (engine_on p) l k ≡ refused n → Said o k (refusal n)
    pub each :
        (k : ℕ) → k < e → Taken (engine_on p) l k
        → (member k (owners_now O gone (loop_at l k)) ≡ true)
        ⊎ ((f : ℕ) × Ends (engine_on p) (step ∷ g) (loop_at l k) (owed (engine_on p) l (loop_at l k) (suc k)) f × Said o k (finished f))

module _ (s : TaskSet) (l : List Entry) where
  -- ---- nobody finishes

  module _ (h : List Call) (k : ℕ) (more : MoreThan s (state (machine_engine s) h) (suc k)) where
    none-ends : (i : ℕ) → runs s (state (machine_engine s) (wait k h)) i && finishing ((state (machine_engine s) (wait k h)).lane i).queue ≡ false
    unfolding lowered
    none-ends i =
        rw (wait-lowered s h k (λ j r. omega (arith, more j r)), lowered-runs s (state (machine_engine s) h) (runs s (state (machine_engine s) h)) k i)
        (go (runs s (state (machine_engine s) h) i) ((state (machine_engine s) h).lane i).queue (more i))
      where
        go : (b : Bool) (q : List Job) → (b ≡ true → suc k < head_work q) → b && finishing (cond b (lower_head k q) q) ≡ false
        go true [] m = refl
        go true (job r w ∷ q) m = let n = m refl in lt-leb (w - k) 1 (omega arith)
        go false q m = refl

  owned-wait :
      (h : List Call) (k i : ℕ) (os : List ℕ) → i < s.count → MoreThan s (state (machine_engine s) h) k
      → Owned (machine_engine s) l i (named_ticks (machine_engine s) h i (clock h)) os ((state (machine_engine s) h).lane i).queue
      → Owned (machine_engine s) l i (named_ticks (machine_engine s) (wait k h) i (clock (wait k h))) os ((state (machine_engine s) (wait k h)).lane i).queue
  owned-wait h zero i os less more w = w
  owned-wait h (suc k) i os less more w =
      rw (none-ends h k more i) at
      (owners-tick s l (wait k h) i os less (owned-wait h k i os less (λ j r. omega (arith, more j r)) w))

  rooted-step :
      (g : List Call) (i : ℕ) (os : List ℕ) → i < s.count → Rooted l os ((state (machine_engine s) g).lane i).queue
      → Rooted l (cond (runs s (state (machine_engine s) g) i && finishing ((state (machine_engine s) g).lane i).queue) (drop 1 os) os) ((state (machine_engine s) (step ∷ g)).lane i).queue
  unfolding tick advanced
  rooted-step g i os less w =
      rooted-tick l (s.task i).separation (s.task i).budget (state (machine_engine s) g).clock 0 os ((state (machine_engine s) g).lane i).queue (runs s (state (machine_engine s) g) i)
      ((reached-sound s (reached s g)).lanes i less).rising w

  rooted-wait :
      (h : List Call) (k i : ℕ) (os : List ℕ) → i < s.count → MoreThan s (state (machine_engine s) h) k → Rooted l os ((state (machine_engine s) h).lane i).queue
      → Rooted l os ((state (machine_engine s) (wait k h)).lane i).queue
  rooted-wait h zero i os less more w = w
  rooted-wait h (suc k) i os less more w =
      rw (none-ends h k more i) at (rooted-step (wait k h) i os less (rooted-wait h k i os less (λ j r. omega (arith, more j r)) w))

  ends-wait : (h : List Call) (k i d f : ℕ) → Ends (machine_engine s) h i d f → Ends (machine_engine s) (wait k h) i d f
  ends-wait h zero i d f x = x
  ends-wait h (suc k) i d f x = ends-step (machine_engine s) (wait k h) i d f (ends-wait h k i d f x)

module _ {p : Plan} {l : List Entry} {out₀ : List ℕ} where
  pub book-wait :
      {e : ℕ} {h : List Call} {O : ℕ → List ℕ} {out : List ℕ} (k : ℕ) → MoreThan (tasks_on p) (state (engine_on p) h) k → Book p l out₀ e h O out
      → Book p l out₀ e (wait k h) O out
  book-wait {h = h} {O = O} {out = out} k more B =
      record {
        owned = λ i less. owned-wait (tasks_on p) l h k i (O i) less more (B.owned i less);
        rooted = λ i less. rooted-wait (tasks_on p) l h k i (O i) less more (B.rooted i less);
        unowned = B.unowned;
        small = B.small;
        long = B.long;
        beyond = B.beyond;
        refusals = B.refusals;
        each = λ n less t.
            ⊎_elim
            (λ (m : member n (O (loop_at l n)) ≡ true). inl m)
            (λ (x : (f : ℕ) × Ends (engine_on p) h (loop_at l n) (owed (engine_on p) l (loop_at l n) (suc n)) f × Said out n (finished f)).
            inr (x.0, ends-wait (tasks_on p) l h k (loop_at l n) (owed (engine_on p) l (loop_at l n) (suc n)) x.0 x.1, x.2))
            (B.each n less t);
      }

  pub book-few :
      {e : ℕ} {h : List Call} {O : ℕ → List ℕ} {out : List ℕ} → Fit p (state (engine_on p) h) → Book p l out₀ e h O out
      → (i : ℕ) → length (O i) ≤ 16
  book-few {O = O} F B i = go (ltb i (tasks_on p).count) refl
    where
      go : (b : Bool) → ltb i (tasks_on p).count ≡ b → length (O i) ≤ 16
      go true q =
          rw (owned-length (engine_on p) l i _ (O i) _ (B.owned i (ltb-true _ _ q))) (F.holds i)
      go false q = rw (B.unowned i (ltb-false _ _ q)) (omega arith)

  -- ---- a tick

  module _ {e : ℕ} {g : List Call} {O : ℕ → List ℕ} {out : List ℕ} (room : 8 * e ≤ length out₀) (B : Book p l out₀ e g O out) where
    pub stage-none : Stage p l out₀ e g O (λ i. false) out
    stage-none =
        record {
          long = B.long;
          beyond = B.beyond;
          refusals = B.refusals;
          each = λ k less t.
              ⊎_elim
              (λ (m : member k (O (loop_at l k)) ≡ true). inl m)
              (λ (x : (f : ℕ) × Ends (engine_on p) g (loop_at l k) (owed (engine_on p) l (loop_at l k) (suc k)) f × Said out k (finished f)).
              inr (x.0, ends-step (engine_on p) g (loop_at l k) (owed (engine_on p) l (loop_at l k) (suc k)) x.0 x.1, x.2))
              (B.each k less t);
        }

    -- a loop whose head finishes: its first owner
    module _ (i : ℕ) (fin : ended (tasks_on p) g i ≡ true) where
      abbrev pub first_owner : ℕ
      first_owner = get_or (O i) 0 0

      runs-now : runs (tasks_on p) (state (engine_on p) g) i ≡ true
      unfolding ended
      runs-now = ((and-eq-true_iff (runs (tasks_on p) (state (engine_on p) g) i) (finishing ((state (engine_on p) g).lane i).queue)).0 fin).0

      last-now : finishing ((state (engine_on p) g).lane i).queue ≡ true
      unfolding ended
      last-now = ((and-eq-true_iff (runs (tasks_on p) (state (engine_on p) g) i) (finishing ((state (engine_on p) g).lane i).queue)).0 fin).1

      pub ended-known : i < (tasks_on p).count
      ended-known = ((earliest (tasks_on p) (state (engine_on p) g)).heads i runs-now).0

      owner : (loop_at l first_owner ≡ i) × Taken (engine_on p) l first_owner × (owed (engine_on p) l i (suc first_owner) ≡ named_ticks (engine_on p) g i (clock g) + 1)
      owner =
          owned_head (engine_on p) l i ((tasks_on p).task i).separation ((tasks_on p).task i).budget (state (engine_on p) g).clock 0 (named_ticks (engine_on p) g i (clock g)) (O i)
          ((state (engine_on p) g).lane i).queue ((reached-sound (tasks_on p) (reached (tasks_on p) g)).lanes i ended-known).rising (B.owned i ended-known) last-now

      ends : Ends (engine_on p) (step ∷ g) i (owed (engine_on p) l i (suc first_owner)) (suc (clock g))
      ends = owner_ends (tasks_on p) l g i (O i) ended-known (B.owned i ended-known) runs-now last-now

      split : (os : List ℕ) → O i ≡ os → (q : List Job) → ((state (engine_on p) g).lane i).queue ≡ q → O i ≡ first_owner ∷ drop 1 (O i)
      split [] z [] y = absurd (false≢true (rw y at last-now))
      split [] z (j ∷ q) y = absurd (rw (z, y) at (B.owned i ended-known))
      split (a ∷ os) z q y = rw z

      pub some_owner : O i ≡ first_owner ∷ drop 1 (O i)
      some_owner = split (O i) refl ((state (engine_on p) g).lane i).queue refl

      pub first-early : first_owner < e
      first-early = (rw some_owner at (B.small i)).0

      pub stage-more :
          {gone : ℕ → Bool} {o : List ℕ} → gone i ≡ false → Stage p l out₀ e g O gone o
          → Stage p l out₀ e g O (and_one gone i) (sets o (8 * first_owner) (report_bytes (finished (suc (clock g)))))
      stage-more {gone} {o} new S =
          record {
            long = said-length o first_owner (finished (suc (clock g))) ∙ S.long;
            beyond = λ j h. said-beyond o first_owner (finished (suc (clock g))) j (omega (arith, first-early)) ∙ S.beyond j h;
            refusals = λ k n less r.
                said-other o first_owner (finished (suc (clock g))) k (refusal n) (λ q. not_taken k n r q) (S.refusals k n less r);
            each = λ k less t. now k t (eqb k first_owner) refl (S.each k less t);
          }
        where
          fits : 8 * first_owner + 8 ≤ length o
          fits = omega (arith, first-early, S.long)

          not_taken : (k n : ℕ) → outcome (engine_on p) l k ≡ refused n → first_owner ≡ k → ⊥
          not_taken k n r q = not_refused (sym r ∙ ap (outcome (engine_on p) l) (sym q) ∙ owner.1)

          done : Said (sets o (8 * first_owner) (report_bytes (finished (suc (clock g))))) first_owner (finished (suc (clock g)))
          done = said_here o first_owner (finished (suc (clock g))) fits

          now :
              (k : ℕ) → Taken (engine_on p) l k → (b : Bool) → eqb k first_owner ≡ b
              → (member k (owners_now O gone (loop_at l k)) ≡ true)
              ⊎ ((f : ℕ) × Ends (engine_on p) (step ∷ g) (loop_at l k) (owed (engine_on p) l (loop_at l k) (suc k)) f × Said o k (finished f))
              → (member k (owners_now O (and_one gone i) (loop_at l k)) ≡ true)
              ⊎ ((f : ℕ) × Ends (engine_on p) (step ∷ g) (loop_at l k) (owed (engine_on p) l (loop_at l k) (suc k)) f
              × Said (sets o (8 * first_owner) (report_bytes (finished (suc (clock g))))) k (finished f))
          now k t true q x =
              let same = eqb-true k first_owner q in
              inr (suc (clock g), rw (same, owner.0) ends, rw same done)
          now k t false q (inl m) = inl (still (eqb (loop_at l k) i) refl)
            where
              still : (b : Bool) → eqb (loop_at l k) i ≡ b → member k (owners_now O (and_one gone i) (loop_at l k)) ≡ true
              still true y =
                  let same = eqb-true (loop_at l k) i y in
                  let here : owners_now O gone (loop_at l k) ≡ first_owner ∷ drop 1 (O i) = ap (owners_now O gone) same ∙ rw new some_owner in
                  let there : owners_now O (and_one gone i) (loop_at l k) ≡ drop 1 (O i) = ap (owners_now O (and_one gone i)) same ∙ rw (new, eq-eqb i i refl) in
                  rw there
                  (⊎_elim
                  (λ (z : k ≡ first_owner). absurd (eqb-false k first_owner q z))
                  (λ (z : member k (drop 1 (O i)) ≡ true). z)
                  (member-cases k first_owner (drop 1 (O i)) (rw here at m)))
              still false y = rw (y, or-false (gone (loop_at l k))) m
          now k t false q (inr x) =
              inr
              (x.0, x.1, said-other o first_owner (finished (suc (clock g))) k (finished x.0) (λ z. eqb-false k first_owner q (sym z)) x.2)

    pub book-tick :
        {gone : ℕ → Bool} {o : List ℕ} → ((i : ℕ) → gone i ≡ ended (tasks_on p) g i) → Stage p l out₀ e g O gone o → Book p l out₀ e (step ∷ g) (owners_now O gone) o
    unfolding ended
    book-tick {gone} all S =
        record {
          owned = λ i less. rw (all i) (owners-tick (tasks_on p) l g i (O i) less (B.owned i less));
          rooted = λ i less. rw (all i) (rooted-step (tasks_on p) l g i (O i) less (B.rooted i less));
          unowned = λ i more. fewer (gone i) (O i) (B.unowned i more);
          small = λ i. below (gone i) (O i) (B.small i);
          long = S.long;
          beyond = S.beyond;
          refusals = S.refusals;
          each = S.each;
        }
      where
        fewer : (b : Bool) (os : List ℕ) → os ≡ [] → cond b (drop 1 os) os ≡ []
        fewer true os z = rw z
        fewer false os z = z

        below : (b : Bool) (os : List ℕ) → Below e os → Below e (cond b (drop 1 os) os)
        below true [] w = tt
        below true (a ∷ os) w = w.1
        below false os w = w
