-- Mirroring: an engine that gives the same answers as another, up to some clock, has the same histories, and the claims carry over.
--     Mirrors E F B          a relation of the states of E and F at a clock, kept by every call and with the same answers below B
use Rattle.std.specs.Prelude.{ℕ, suc, ◌<◌, ◌≡◌}
use Rattle.history.specs.Engine.{Engine}

pub record Mirrors (E F : Engine) (B : ℕ) : Type 1 where
  -- the states a of E and b of F are alike at clock t
  pub Like : ℕ → E.St → F.St → Type 0
  pub opening : Like 0 E.opened F.opened
  pub steps : (t : ℕ) (a : E.St) (b : F.St) → t < B → Like t a b → Like (suc t) (E.stepped a) (F.stepped b)
  pub asks : (t : ℕ) (a : E.St) (b : F.St) (i c : ℕ) → t < B → Like t a b → Like t (E.handed a i c) (F.handed b i c)
  pub runs : (t : ℕ) (a : E.St) (b : F.St) (i : ℕ) → t < B → Like t a b → E.runs a i ≡ F.runs b i
  pub answers : (t : ℕ) (a : E.St) (b : F.St) (i c : ℕ) → t < B → Like t a b → E.answer a i c ≡ F.answer b i c
  pub quiets : (t : ℕ) (a : E.St) (b : F.St) → t < B → Like t a b → E.quiet a ≡ F.quiet b
