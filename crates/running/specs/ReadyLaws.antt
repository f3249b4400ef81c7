-- What a leap's parts need, from where the run stands, and how leaps join.
--     ready-few        the numbers of cores and heads are in range
--     reaches-none                  no leap: the run stands where it stood
--     reaches-ready                 where a leap leads, the next may be made
--     reaches_more                  two leaps are one
--     advanced-none, advanced-ready, advanced-more      before the first leap, between two, and after one more
use Rattle.std.specs.Prelude.{ℕ, ◌+◌, ◌-◌, ◌≤◌, ◌≡◌, List}
use Rattle.std.proofs.Common.{sym, ap, subst, ◌∙◌, arith}
use Rattle.state.proofs.FitLaws.{plan-limits}
use Rattle.history.proofs.EngineLaws.{clock-wait}
use Rattle.history.specs.Log.{wait}
use Rattle.heads.specs.RoomLaws.{heads-few}
use Rattle.running.specs.LowerLaws.{wait-wait}
use Rattle.running.specs.Running.{Arrays}
use Rattle.running.specs.Leap.{Standing, later, Stands, Frame, Ready, Reaches, Leapt, Advanced}
use Rattle.running.specs.LeapLaws.{ready-waits}

module _ {x : Standing} {bytes : List ℕ} {cores : ℕ} {offsets : List ℕ} {clock to : ℕ} {W : Arrays} (R : Ready x bytes cores offsets clock to W) where
  pub ready-few : W.heads ≤ 16
  ready-few =
      heads-few
      (λ j w. omega (arith, ready-waits R j w, (plan-limits x.plan R.frame.accepted).tasks-high))
      R.stands.heads_are

  pub reaches-none : Reaches x 0 W
  reaches-none = record { owned_by = x.owners; stands = R.stands }

  module _ {k : ℕ} {W' : Arrays} (S : Reaches x k W') where
    frame : Frame (later x k S.owned_by) bytes cores offsets
    frame =
        let F = R.frame in
        record {
          accepted = F.accepted;
          tidied = F.tidied;
          cores_are = F.cores_are;
          offsets_are = F.offsets_are;
          log_is = F.log_is;
          long = F.long;
          in_log = F.in_log;
          room = F.room;
        }

    pub reaches-ready : {now : ℕ} → now ≡ clock + k → Ready (later x k S.owned_by) bytes cores offsets now to W'
    reaches-ready e =
        record { frame = frame; clock_is = omega (arith, R.clock_is, clock-wait k x.made); limit = R.limit; stands = S.stands }

    pub reaches_more : {d : ℕ} {W'' : Arrays} → Reaches (later x k S.owned_by) d W'' → {m : ℕ} → m ≡ d + k → Reaches x m W''
    reaches_more {d} {W''} T e =
        record {
          owned_by = T.owned_by;
          stands =
              subst (λ h. Stands (record { plan = x.plan; log = x.log; lent = x.lent; entered = x.entered; made = h; owners = T.owned_by }) W'')
              (wait-wait d k x.made ∙ ap (λ (q : ℕ). wait q x.made) (sym e)) T.stands;
        }

-- ---- leap after leap

module _ {bytes : List ℕ} {cores : ℕ} {offsets : List ℕ} {from to : ℕ} {W : Arrays} where
  pub advanced-none : Advanced bytes cores offsets from to W from W
  advanced-none x R =
      let z : from - from ≡ 0 = omega arith in
      rw z (reaches-none R)

  module _ {clock : ℕ} {W' : Arrays} (later-on : from ≤ clock) (A : Advanced bytes cores offsets from to W clock W') where
    back : clock ≡ from + (clock - from)
    back = omega arith

    pub advanced-ready :
        ((x : Standing) × Ready x bytes cores offsets from to W) → (x : Standing) × Ready x bytes cores offsets clock to W'
    advanced-ready P =
        let S = A P.0 P.1 in
        (later P.0 (clock - from) S.owned_by, reaches-ready P.1 S back)

    pub advanced-more : {now : ℕ} {W'' : Arrays} → Leapt bytes cores offsets clock to W' now W'' → Advanced bytes cores offsets from to W now W''
    advanced-more L x R =
        let S = A x R in
        let T = L.reaches (later x (clock - from) S.owned_by) (reaches-ready R S back) in
        reaches_more R S T (omega (arith, L.onward))
