-- Where a log run stands between two entries, and that each kind of entry leads on to the next.
--     Entered p l out₀ e …        the first e entries of l are entered: clock, arrays, owners and answer
--     entered-ready               so a leap may be made
--     entered-back                an entry that goes back is told by the clock
--     back-entered                the next entry meets 17
--     AtTick …                    the run has come to the next entry's tick
--     refused-entered             the next entry's release is refused
--     taken-first, taken-behind   it is taken, and its job is the loop's head or stands behind others
use Rattle.std.specs.Prelude.{ℕ, suc, ◌+◌, ◌-◌, ◌*◌, ◌≤◌, ◌<◌, Bool, not, ◌&&◌, ◌≡◌, ◌≢◌, set, ltb}
use Rattle.std.proofs.Math.Bool.{true, false}
use Rattle.std.proofs.Common.{true≢false, subst, ◌∙◌, arith}
use Rattle.std.proofs.Math.Path.{refl, sym, ap, fun_ext}
use mathlib.Core.List.{List, [], ◌∷◌, ◌++◌}
use Rattle.std.proofs.Math.ListN.{length}
use Rattle.std.proofs.lemmas.List.Edits.{sets}
use Rattle.std.proofs.Math.Dec.{eqb}
use borrow.Author.Tests.{leb-false, eqb-true, eq-eqb}
use Rattle.laws.specs.TabLaws.{tab_ext}
use Rattle.tasks.specs.declared.Plan.{Plan}
use Rattle.tasks.specs.Answer.{Accepted}
use Rattle.tasks.specs.TaskSet.{row}
use Rattle.tasks.specs.Content.{task_of, content_of, tidy}
use Rattle.tasks.specs.Tests.{test_plan}
use Rattle.machine.specs.Machine.{Job, job, Machine, full, joined, admitted, pending, waiting, head_release}
use Rattle.state.specs.State.{flag_of, tick_of, released_in, last_in}
use Rattle.state.proofs.FitLaws.{plan-limits}
use Rattle.service.specs.AdmitLaws.{admitted-released, admitted-last}
use Rattle.choice.specs.Key.{head_key, key_of}
use Rattle.heads.specs.Order.{head_work, Heads, Inserted}
use Rattle.heads.specs.HeadLaws.{SameHead, heads-same, inserted}
use Rattle.heads.specs.RoomLaws.{room_for}
use Rattle.history.specs.Engine as history
use Rattle.history.specs.Engine.{taken, refused, Call, ask, state, verdict, named_ticks}
use Rattle.history.proofs.EngineLaws.{ends-ask}
use Rattle.history.specs.Log.{Entry, tick_at, loop_at, demand_at, back, wait, until, calls, outcome}
use Rattle.history.proofs.LogLaws.{largest-least, clock-calls, clock-entry}
use Rattle.history.specs.Report.{refusal}
use Rattle.history.specs.OnMachine.{answer_of, handed_of, machine_engine}
use Rattle.history.proofs.Balance.{answer_allowed, machine_clock}
use Rattle.history.proofs.Refusals.{last-wait}
use Rattle.history.proofs.Owners.{owned-length}
use Rattle.logs.specs.LogBytes.{entries_in, report_bytes}
use Rattle.running.specs.Running.{Arrays, arrays, tasks_on, engine_on, Running}
use Rattle.running.specs.WaitLaws.{waits-known}
use Rattle.running.specs.OwnerLaws.{joined-owners, count_at, counts-more}
use Rattle.running.specs.EnterLaws.{Recent, book-refused, book-taken, owners_with}
use Rattle.running.specs.Leap.{Standing, Ready, Reaches}

-- steps change no loop's last release
released-wait : (p : Plan) (k : ℕ) (h : List Call) → released_in (state (machine_engine (content_of p).tasks) (wait k h)) ≡ released_in (state (machine_engine (content_of p).tasks) h)
unfolding released_in
released-wait p k h = tab_ext _ _ 16 (λ i q. ap flag_of (last-wait (content_of p).tasks k h i))

lasts_wait : (p : Plan) (k : ℕ) (h : List Call) → last_in (state (machine_engine (content_of p).tasks) (wait k h)) ≡ last_in (state (machine_engine (content_of p).tasks) h)
unfolding last_in
lasts_wait p k h = tab_ext _ _ 16 (λ i q. ap tick_of (last-wait (content_of p).tasks k h i))

-- the calls up to entry e's release
abbrev pub up_to : List Entry → ℕ → List Call
up_to l e = until (tick_at l e) (calls l e)

module _ (p : Plan) (l : List Entry) (out₀ : List ℕ) where
  -- the log fits the lent answer, its ticks are below 15's limit, and the plan meets none of 3 to 13
  pub record Fitting : Type 0 where
    pub accepted : test_plan p ≡ Accepted
    pub tidied : tidy p ≡ p
    pub few : length l < 65536
    pub ticks : (k : ℕ) → k < length l → tick_at l k ≤ 1000000000
    pub room : 8 * length l ≤ length out₀

  pub record Entered (e clock : ℕ) (W : Arrays) (released : List Bool) (last : List ℕ) : Type 0 where
    pub fitting : Fitting
    pub clock_is : clock ≡ history.clock (calls l e)
    pub owned_by : ℕ → List ℕ
    pub running : Running p l out₀ e (calls l e) owned_by W
    pub recent : Recent (tasks_on p) (calls l e) released last

  pub record AtTick (e : ℕ) (W : Arrays) (released : List Bool) (last : List ℕ) : Type 0 where
    pub fitting : Fitting
    pub onward : back l e ≡ false
    pub owned_by : ℕ → List ℕ
    pub running : Running p l out₀ e (up_to l e) owned_by W
    pub recent : Recent (tasks_on p) (up_to l e) released last

module _ {p : Plan} {l : List Entry} {out₀ : List ℕ} {e clock : ℕ} {W : Arrays} {released : List Bool} {last : List ℕ}
    (X : Entered p l out₀ e clock W released last) where
  abbrev pub standing : Standing
  standing = record { plan = p; log = l; lent = out₀; entered = e; made = calls l e; owners = X.owned_by }

  pub entered-clock : e ≤ length l → clock ≤ 1000000000
  entered-clock h =
      omega (arith, X.clock_is, clock-calls l e, largest-least l e 1000000000 (λ j q. X.fitting.ticks j (omega arith)))

  pub entered-ready :
      {bytes offsets : List ℕ} {to : ℕ} → l ≡ entries_in bytes → length bytes ≡ 2 + 9 * length l
      → ((i : ℕ) → i < p.tasks → row offsets i ≡ (task_of p.task i).offset) → e ≤ length l → to ≤ 4000000000
      → Ready standing bytes p.cores offsets clock to W
  entered-ready same_log long same h far =
      record {
        frame =
            record {
              accepted = X.fitting.accepted;
              tidied = X.fitting.tidied;
              cores_are = refl;
              offsets_are = same;
              log_is = same_log;
              long = long;
              in_log = h;
              room = omega (arith, X.fitting.room);
            };
        clock_is = X.clock_is;
        limit = far;
        stands = X.running;
      }

  pub entered-back : back l e ≡ ltb (tick_at l e) clock
  unfolding back
  entered-back = rw (X.clock_is, clock-calls l e)

  pub back-entered :
      e < length l → back l e ≡ true
      → Entered p l out₀ (suc e) clock (arrays W.jobs W.owners W.key W.left W.heads (sets W.out (8 * e) (report_bytes (refusal 17)))) released last
  unfolding calls outcome
  back-entered h b =
      record {
        fitting = X.fitting;
        clock_is = rw b X.clock_is;
        owned_by = X.owned_by;
        running =
            rw b
            (record {
              counts_are = X.running.counts_are;
              owners_are = X.running.owners_are;
              heads_are = X.running.heads_are;
              book =
                  book-refused (omega (arith, X.fitting.room)) {n = 17} (rw b)
                  (λ i w. w) (λ i w. w) (λ i d f w. w) X.running.book;
            });
        recent = rw b X.recent;
      }

  pub at_tick :
      {W' : Arrays} → back l e ≡ false → Reaches standing (tick_at l e - clock) W' → AtTick p l out₀ e W' released last
  unfolding until
  at_tick b R =
      record {
        fitting = X.fitting;
        onward = b;
        owned_by = R.owned_by;
        running = rw (sym X.clock_is) R.stands;
        recent =
            record {
              released_are = X.recent.released_are ∙ sym (released-wait p (tick_at l e - history.clock (calls l e)) (calls l e));
              last_are = X.recent.last_are ∙ sym (lasts_wait p (tick_at l e - history.clock (calls l e)) (calls l e));
            };
      }

module _ {p : Plan} {l : List Entry} {out₀ : List ℕ} {e : ℕ} {W : Arrays} {released : List Bool} {last : List ℕ}
    (X : AtTick p l out₀ e W released last) (less : e < length l) where
  abbrev i : ℕ
  i = loop_at l e

  abbrev c : ℕ
  c = demand_at l e

  -- the machine that the release is handed to
  abbrev pub machine_at : Machine
  machine_at = state (engine_on p) (up_to l e)

  -- the arrays with its job added, and these heads
  abbrev pub taken_arrays : List ℕ → List ℕ → ℕ → Arrays
  taken_arrays key' left' n' =
      arrays (set W.jobs i (row W.jobs i + 1)) (set W.owners (16 * i + row W.jobs i) e) key' left' n' W.out

  made : calls l (suc e) ≡ ask i c ∷ up_to l e
  unfolding calls
  made = rw X.onward

  pub outcome_is : outcome (engine_on p) l e ≡ answer_of (tasks_on p) machine_at i c
  unfolding outcome verdict
  outcome_is = rw X.onward

  clock-next : tick_at l e ≡ history.clock (calls l (suc e))
  clock-next = rw made (sym (clock-entry l e X.onward))

  module _ {m : ℕ} (met : answer_of (tasks_on p) machine_at i c ≡ refused m) where
    same-machine : state (engine_on p) (calls l (suc e)) ≡ machine_at
    unfolding handed_of
    same-machine = rw (made, met)

    same-named : (j : ℕ) → named_ticks (engine_on p) (calls l (suc e)) j (history.clock (calls l (suc e))) ≡ named_ticks (engine_on p) (up_to l e) j (history.clock (up_to l e))
    unfolding named_ticks
    same-named j = rw made

    pub refused-entered : Entered p l out₀ (suc e) (tick_at l e) (arrays W.jobs W.owners W.key W.left W.heads (sets W.out (8 * e) (report_bytes (refusal m)))) released last
    refused-entered =
        record {
          fitting = X.fitting;
          clock_is = clock-next;
          owned_by = X.owned_by;
          running =
              record {
                counts_are = X.running.counts_are;
                owners_are = X.running.owners_are;
                heads_are = rw same-machine X.running.heads_are;
                book =
                    book-refused (omega (arith, X.fitting.room)) (outcome_is ∙ met)
                    (λ j w. rw (same-named j, same-machine) w)
                    (λ j w. rw same-machine w)
                    (λ j d f w. rw made (ends-ask (engine_on p) (up_to l e) i c j d f w))
                    X.running.book;
              };
          recent =
              record {
                released_are = rw same-machine X.recent.released_are;
                last_are = rw same-machine X.recent.last_are;
              };
        }

  module _ (free : answer_of (tasks_on p) machine_at i c ≡ taken) where
    allowed : (i < (tasks_on p).count) × (length (machine_at.lane i).queue < 16)
    unfolding full
    allowed =
        let a = answer_allowed (tasks_on p) machine_at i c free in
        (a.0.in_table, leb-false 16 (length (machine_at.lane i).queue) a.1)

    low : i < 16
    low = omega (arith, allowed.0, (plan-limits p X.fitting.accepted).tasks-high)

    -- as many owners as jobs
    owners-jobs : length (X.owned_by i) ≡ length (machine_at.lane i).queue
    owners-jobs = owned-length (engine_on p) l i _ (X.owned_by i) _ (X.running.book.owned i allowed.0)

    pub held : row W.jobs i ≡ length (machine_at.lane i).queue
    held = rw X.running.counts_are (count_at X.owned_by i low ∙ owners-jobs)

    next-machine : state (engine_on p) (calls l (suc e)) ≡ admitted i c machine_at
    unfolding handed_of
    next-machine = rw (made, free)

    now : machine_at.clock ≡ tick_at l e
    now = machine_clock (tasks_on p) (up_to l e) ∙ clock-entry l e X.onward

    room : 8 * suc e ≤ length out₀
    room = omega (arith, X.fitting.room)

    entered :
        {key' left' : List ℕ} {n' : ℕ} → Heads (tasks_on p) (admitted i c machine_at) (λ j. false) key' left' n'
        → Entered p l out₀ (suc e) (tick_at l e) (taken_arrays key' left' n') (set released i true) (set last i (tick_at l e))
    entered A =
        record {
          fitting = X.fitting;
          clock_is = clock-next;
          owned_by = owners_with e X.owned_by i;
          running =
              record {
                counts_are = rw X.running.counts_are (counts-more X.owned_by i e low);
                owners_are =
                    rw X.running.owners_are
                    (joined-owners X.owned_by i (row W.jobs i) e (owners-jobs ∙ sym held) (omega (arith, held, allowed.1)) low);
                heads_are = rw next-machine A;
                book = book-taken room (outcome_is ∙ free) X.running.book allowed.0;
              };
          recent =
              record {
                released_are = rw (next-machine, X.recent.released_are) (sym (admitted-released i c machine_at));
                last_are =
                    rw (next-machine, X.recent.last_are) (ap (set (last_in machine_at) i) (sym now) ∙ sym (admitted-last i c machine_at));
              };
        }

    -- another loop's head is the same
    other-head : (j : ℕ) → eqb j i ≡ false → SameHead (tasks_on p) machine_at (admitted i c machine_at) j
    unfolding admitted waiting key_of
    other-head j q = record { waits = rw q; key = rw q; work = rw q }

    pub taken-behind :
        row W.jobs i ≢ 0
        → Entered p l out₀ (suc e) (tick_at l e) (taken_arrays W.key W.left W.heads) (set released i true) (set last i (tick_at l e))
    unfolding admitted joined waiting key_of
    taken-behind some =
        entered
        (heads-same (λ j o. at j (eqb j i) refl) (λ j w. refl) X.running.heads_are)
      where
        front : (q : List Job) (a : Job) → length q ≢ 0
            → (pending (q ++ a ∷ []) ≡ pending q) × (head_release (q ++ a ∷ []) ≡ head_release q) × (head_work (q ++ a ∷ []) ≡ head_work q)
        front [] a ne = absurd (ne refl)
        front (job r w ∷ q) a ne = (refl, refl, refl)

        at : (j : ℕ) (b : Bool) → eqb j i ≡ b → SameHead (tasks_on p) machine_at (admitted i c machine_at) j
        at j true q =
            let f = front (machine_at.lane i).queue (job machine_at.clock c) (λ z. some (held ∙ z)) in
            rw (eqb-true j i q)
            (record { waits = rw (eq-eqb i i refl) f.0; key = rw (eq-eqb i i refl, f.1); work = rw (eq-eqb i i refl) f.2 })
        at j false q = other-head j q

    module _ (empty : row W.jobs i ≡ 0) where
      no_job_lem : (machine_at.lane i).queue ≡ []
      no_job_lem = go (machine_at.lane i).queue (sym held ∙ empty)
        where
          go : (q : List Job) → length q ≡ 0 → q ≡ []
          go [] z = refl
          go (a ∷ q) z = absurd (omega arith)

      -- all but the new head
      others : Heads (tasks_on p) (admitted i c machine_at) (λ j. eqb j i) W.key W.left W.heads
      unfolding waiting
      others =
          heads-same (λ j q. other-head j q)
          (λ j w. apart j (eqb j i) refl w) X.running.heads_are
        where
          apart : (j : ℕ) (b : Bool) → eqb j i ≡ b → waiting machine_at j ≡ true → eqb j i ≡ false
          apart j true q w = absurd (true≢false (sym w ∙ ap (λ (k : ℕ). pending (machine_at.lane k).queue) (eqb-true j i q) ∙ ap pending no_job_lem))
          apart j false q w = q

      waits-low : (j : ℕ) → waiting (admitted i c machine_at) j ≡ true → j < 16
      waits-low j w =
          let k = waits-known (tasks_on p) (calls l (suc e)) j (ap (λ (a : Machine). waiting a j) next-machine ∙ w) in
          omega (arith, k, (plan-limits p X.fitting.accepted).tasks-high)

      pub taken-place : W.heads < 16
      taken-place = room_for waits-low others i low (eq-eqb i i refl)

      pub taken-rises : (a b : ℕ) → a < b → b < W.heads → row W.key a < row W.key b
      taken-rises = X.running.heads_are.rises

      new-key : key_of (tasks_on p) (admitted i c machine_at) i ≡ head_key (tick_at l e) ((tasks_on p).task i).offset i
      unfolding admitted joined key_of
      new-key = rw (eq-eqb i i refl, no_job_lem, now)

      new-work : head_work ((admitted i c machine_at).lane i).queue ≡ c
      unfolding admitted joined
      new-work = rw (eq-eqb i i refl, no_job_lem)

      new-waits : waiting (admitted i c machine_at) i ≡ true
      unfolding admitted joined waiting
      new-waits = rw (eq-eqb i i refl, no_job_lem)

      pub taken-first :
          {key' left' : List ℕ} → Inserted W.key W.left W.heads (head_key (tick_at l e) ((tasks_on p).task i).offset i) c key' left'
          → Entered p l out₀ (suc e) (tick_at l e) (taken_arrays key' left' (W.heads + 1)) (set released i true) (set last i (tick_at l e))
      taken-first {key'} {left'} I =
          entered
          (subst (λ f. Heads (tasks_on p) (admitted i c machine_at) f key' left' (W.heads + 1)) (fun_ext (λ j. nobody (eqb j i)))
          (inserted i others waits-low new-waits (eq-eqb i i refl)
          (subst (λ v. Inserted W.key W.left W.heads v (head_work ((admitted i c machine_at).lane i).queue) key' left') (sym new-key)
          (subst (λ w. Inserted W.key W.left W.heads (head_key (tick_at l e) ((tasks_on p).task i).offset i) w key' left') (sym new-work) I))))
        where
          nobody : (b : Bool) → b && not b ≡ false
          nobody true = refl
          nobody false = refl
