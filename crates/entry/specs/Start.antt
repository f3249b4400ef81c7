-- A log run before its first entry.
--     at_start       the clock at 0, no job pending and none released yet
use Rattle.std.specs.Prelude.{false, replicate}
use Rattle.entry.specs.declared.Run.{Run}

abbrev pub at_start : Run
at_start =
    record {
      pending =
          record {
            clock = 0;
            jobs = replicate 16 0;
            owners = replicate 256 0;
            heads = record { key = replicate 16 0; left = replicate 16 0; count = 0 };
          };
      released = replicate 16 false;
      last = replicate 16 0;
    }
