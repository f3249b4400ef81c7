-- Mirroring: an engine that gives the same answers as another, up to some clock, has the same histories, and the claims carry over.
--     Mirrors E F B          a relation of the states of E and F at a clock, kept by every call and with the same answers below B
--     like                   it holds along every history
--     same-verdict, same-named, same-demanded, same_ends       what the histories show is the same
--     mirror_history         the claim of all histories carries over
use Rattle.std.specs.Prelude.{ℕ, ◌≤◌, ◌<◌, ◌≡◌, ◌↔◌}
use Rattle.std.proofs.Math.Path.{refl}
use Rattle.std.proofs.Common.{sym, subst, ◌∙◌, arith}
use mathlib.Core.List.{List, [], ◌∷◌, ◌++◌}
use Rattle.tasks.specs.TaskSet.{TaskSet}
use Rattle.history.specs.Engine.{Engine, Call, step, ask, clock, state, verdict, demanded, named_ticks, Ends, HistoryClaim}
use Rattle.history.proofs.EngineLaws.{clock-later}
use Rattle.history.specs.Mirror.{Mirrors}

module _ (E F : Engine) (B : ℕ) (m : Mirrors E F B) where
  pub like : (h : List Call) → clock h < B → m.Like (clock h) (state E h) (state F h)
  like [] l = m.opening
  like (step ∷ h) l = m.steps (clock h) (state E h) (state F h) (omega arith) (like h (omega arith))
  like (ask i c ∷ h) l = m.asks (clock h) (state E h) (state F h) i c l (like h l)

  pub same-verdict : (h : List Call) (i c : ℕ) → clock h < B → verdict E h i c ≡ verdict F h i c
  unfolding verdict
  same-verdict h i c l = m.answers (clock h) (state E h) (state F h) i c l (like h l)

  pub same-quiet : (h : List Call) → clock h < B → E.quiet (state E h) ≡ F.quiet (state F h)
  same-quiet h l = m.quiets (clock h) (state E h) (state F h) l (like h l)

  pub same-named : (h : List Call) (i f : ℕ) → clock h ≤ B → named_ticks E h i f ≡ named_ticks F h i f
  unfolding named_ticks
  same-named [] i f l = refl
  same-named (step ∷ h) i f l =
      rw (same-named h i f (omega arith), m.runs (clock h) (state E h) (state F h) i l (like h l))
  same-named (ask j c ∷ h) i f l = same-named h i f l

  pub same-demanded : (h : List Call) (i : ℕ) → clock h < B → demanded E h i ≡ demanded F h i
  unfolding demanded
  same-demanded [] i l = refl
  same-demanded (step ∷ h) i l = same-demanded h i (omega arith)
  same-demanded (ask j c ∷ h) i l = rw (same-demanded h i l, same-verdict h j c l)

  pub same_ends : (h : List Call) (i d f : ℕ) → clock h ≤ B → Ends E h i d f ↔ Ends F h i d f
  same_ends h i d f l = (
    λ e. record {
      made = e.made;
      enough = sym (same-named h i f l) ∙ e.enough;
      first_so = λ g p. subst (λ n. n < d) (same-named h i g l) (e.first_so g p);
    },
    λ e. record {
      made = e.made;
      enough = same-named h i f l ∙ e.enough;
      first_so = λ g p. subst (λ n. n < d) (sym (same-named h i g l)) (e.first_so g p);
    },
  )

  pub mirror_history : (s : TaskSet) (x : ℕ → ℕ) → HistoryClaim F s x B → HistoryClaim E s x B
  mirror_history s x C =
      record {
        in_time = λ g h i c f l t e. C.in_time g h i c f l (sym (same-verdict h i c (earlier g h i c l)) ∙ t) ((ends g h i c f l).0 e);
        ends = λ g h i c l t late.
            let e = C.ends g h i c l (sym (same-verdict h i c (earlier g h i c l)) ∙ t) late in
            (e.0, (ends g h i c e.0 l).1 e.1);
        never_23 = λ h i c l e. C.never_23 h i c l (sym (same-verdict h i c l) ∙ e);
      }
    where
      earlier : (g h : List Call) (i c : ℕ) → clock (g ++ ask i c ∷ h) < B → clock h < B
      earlier g h i c l = omega (arith, clock-later g (ask i c ∷ h))

      ends :
          (g h : List Call) (i c f : ℕ) → clock (g ++ ask i c ∷ h) < B
          → Ends E (g ++ ask i c ∷ h) i (demanded E (ask i c ∷ h) i) f ↔ Ends F (g ++ ask i c ∷ h) i (demanded F (ask i c ∷ h) i) f
      ends g h i c f l =
          rw (same-demanded (ask i c ∷ h) i (earlier g h i c l)) (same_ends (g ++ ask i c ∷ h) i _ f (omega arith))
