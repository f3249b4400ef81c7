-- How long a run lasts: after the last entry's tick at most the largest bound, which 13 keeps to 16 × 100,000 ticks. So an engine that mirrors the
-- machine up to a clock beyond that has demand 3 too.
--     longest              1,600,000
use Prim.Native.Nat.{ℕ}

abbrev pub longest : ℕ
longest = 1600000
