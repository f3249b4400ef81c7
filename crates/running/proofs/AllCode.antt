-- All loops that finish with a leap, one after the other, and the leap, as contracts.
--     all_none, all_one, all_more    before the first; the next may be noted; one more
--     leap_fewer             a leap that stops before its goal finishes a job
--     leap_made              what the code of a leap gives
use Rattle.std.specs.Prelude.{ℕ, suc, ◌+◌, ◌-◌, ◌≤◌, ◌<◌, min, Bool, true, false, ◌≡◌, List, ltb}
use Rattle.std.proofs.Math.Path.{refl, subst, fun_ext}
use Rattle.std.proofs.Common.{sym, ◌∙◌, add-one, arith, ltb-true, ltb-false}
use Rattle.tasks.specs.TaskSet.{row}
use Rattle.history.specs.Log.{wait}
use Rattle.heads.specs.Order.{lowest, HeadsRun, Finishes}
use Rattle.running.specs.Running.{Arrays, arrays, counts_in}
use Rattle.running.specs.BookLaws.{and_one, owners_now}
use Rattle.running.specs.Leap.{Standing, Ready, Reaches, Turning, Fewer, Leapt}
use Rattle.running.specs.PendingLaws.{pending-kept, pending-less, lowest_stops, work_none}
use Rattle.running.specs.FinishCode.{Finishing, Finished, finishing-low}
use Rattle.running.specs.LeapLaws.{gone_to, in_gone, leap_ticks, turning-none, done_ended, done_new, turning_end}
use Rattle.running.specs.AllCode.{AllFinishing, AllFinished}

abbrev nobody : ℕ → Bool
nobody j = false

gone-none : (done : List ℕ) → nobody ≡ gone_to done 0
unfolding gone_to
gone-none done = fun_ext (λ j. refl)

gone-more : (done : List ℕ) (a : ℕ) → and_one (gone_to done a) (row done a) ≡ gone_to done (a + 1)
unfolding gone_to
gone-more done a = fun_ext (λ j. rw (add-one a))

module _ {done : List ℕ} {f now : ℕ} {bytes offsets : List ℕ} {W : Arrays} where
  pub all_none : AllFinished done f now bytes offsets W 0 W
  all_none P = subst (λ q. Turning P.standing P.made q now W) (gone-none done) P.turning

  module _ {a : ℕ} {W' : Arrays} (h : a < f) (A : AllFinished done f now bytes offsets W a W') where
    pub all_one : AllFinishing done f now bytes offsets W → Finishing (row done a) now bytes offsets W'
    all_one P =
        record {
          standing = P.standing;
          made = P.made;
          gone = gone_to done a;
          cores = P.cores;
          over = record { frame = P.overs.frame; turning = A P; over = P.overs.over a h; new = P.overs.new a h };
        }

    pub all_more : {W'' : Arrays} → Finished (row done a) now bytes offsets W' W'' → AllFinished done f now bytes offsets W (a + 1) W''
    unfolding all_one
    all_more {W''} F P = subst (λ q. Turning P.standing P.made q now W'') (gone-more done a) (F (all_one P))

-- ---- the leap

some-less : (n : ℕ) → 1 ≤ n → n ≡ suc (n - 1)
some-less n h = omega arith

module _ {x : Standing} {bytes : List ℕ} {cores : ℕ} {offsets : List ℕ} {clock to : ℕ} {W : Arrays} (R : Ready x bytes cores offsets clock to W)
    (less : clock < to) {r d : ℕ} (r-is : r ≡ min cores W.heads) (d-is : d ≡ lowest W.left (to - clock) r) where
  pub leap_in : (1 ≤ d) × (clock + d ≤ to)
  leap_in = leap_ticks R less r-is d-is

  module _ {key' left' : List ℕ} {c : ℕ} (S : HeadsRun W.key W.left W.heads cores d key' left' c) {done : List ℕ} {f : ℕ}
      (D : Finishes W.key W.left W.heads cores d done f) where
    next : d ≡ suc (d - 1)
    next = some-less d leap_in.0

    pub leap_finishing : AllFinishing done f (clock + d) bytes offsets (arrays W.jobs W.owners key' left' c W.out)
    leap_finishing =
        record {
          standing = x;
          made = wait (d - 1) x.made;
          cores = cores;
          overs =
              record {
                frame = R.frame;
                over = done_ended R less r-is d-is next S D;
                new = done_new R less r-is d-is next S D;
              };
          turning = turning-none R less r-is d-is next S (clock + d) refl;
        }

    module _ {W' : Arrays} (A : AllFinished done f (clock + d) bytes offsets (arrays W.jobs W.owners key' left' c W.out) f W') where
      pub leap_reaches : Reaches x d W'
      unfolding leap_finishing
      leap_reaches = turning_end R less r-is d-is next S D (A leap_finishing)

      pub leap_fewer : Fewer to (clock + d) W W'
      unfolding leap_finishing
      leap_fewer = go (ltb (clock + d) to) refl
        where
          now-are : W'.jobs ≡ counts_in (owners_now x.owners (gone_to done f))
          now-are = (A leap_finishing).counts_are

          go : (b : Bool) → ltb (clock + d) to ≡ b → Fewer to (clock + d) W W'
          go false q =
              let kept = pending-kept x.owners (gone_to done f) in
              rw (now-are, R.stands.counts_are) (omega (arith, kept, ltb-false (clock + d) to q))
          go true q =
              let l = lowest_stops W.left (to - clock) r (omega (arith, d-is, ltb-true (clock + d) to q)) in
              let some = D.all l.0 (omega (arith, l.1)) (work_none W.left cores d l.0 (omega (arith, l.1)) (l.2 ∙ sym d-is)) in
              let first = finishing-low (all_one (omega (arith, some.1)) all_none leap_finishing) in
              let less = pending-less x.owners (gone_to done f) (row done 0) first.0 (in_gone done f 0 (omega (arith, some.1)))
              (rw R.stands.counts_are at first.1) in
              rw (now-are, R.stands.counts_are) (omega (arith, less))

pub leap_made :
    {bytes : List ℕ} {cores : ℕ} {offsets : List ℕ} {clock to : ℕ} {W : Arrays} → ((x : Standing) × Ready x bytes cores offsets clock to W)
    → clock < to → {r d : ℕ} → r ≡ min cores W.heads → d ≡ lowest W.left (to - clock) r
    → {key' left' : List ℕ} {c : ℕ} → HeadsRun W.key W.left W.heads cores d key' left' c
    → {done : List ℕ} {f : ℕ} → Finishes W.key W.left W.heads cores d done f
    → {W' : Arrays} → AllFinished done f (clock + d) bytes offsets (arrays W.jobs W.owners key' left' c W.out) f W'
    → Leapt bytes cores offsets clock to W (clock + d) W'
leap_made {clock = clock} P less {d = d} r-is d-is S D {W'} A =
    let b = leap_in P.1 less r-is d-is in
    let back : clock + d - clock ≡ d = omega arith in
    record {
      onward = omega (arith, b.0);
      within = b.1;
      fewer = leap_fewer P.1 less r-is d-is S D A;
      reaches = λ x R. subst (λ m. Reaches x m W') (sym back) (leap_reaches R less r-is d-is S D A);
    }
