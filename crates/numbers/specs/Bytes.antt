-- Numbers in bytes: "Multi-byte numbers are unsigned, low byte first."
--     byte t i        the byte at i, 0 where there is none
--     number k t i    the number that the k bytes from i on stand for
--     digits k v      the k bytes of v
--     entries f n     f 0, …, f (n − 1) one after the other
use Rattle.std.specs.Prelude.{ℕ, zero, suc, ◌+◌, ◌*◌, ◌/◌, ◌%◌, List, [], ◌∷◌, ◌++◌, get_or}

unfoldable pub byte : List ℕ → ℕ → ℕ
byte t i = get_or t i 0

unfoldable pub number : ℕ → List ℕ → ℕ → ℕ
number zero t i = 0
number (suc k) t i = byte t i + 256 * number k t (suc i)

unfoldable pub digits : ℕ → ℕ → List ℕ
digits zero v = []
digits (suc k) v = v % 256 ∷ digits k (v / 256)

unfoldable pub entries : (ℕ → List ℕ) → ℕ → List ℕ
entries f zero = []
entries f (suc n) = entries f n ++ f n
