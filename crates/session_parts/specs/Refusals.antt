-- What the refusals of calls are given by (01-scope.md, "Session", "Numbers given by cause"). Definitions only.
use Rattle.std.specs.Prelude.{ℕ}
use Rattle.plain.specs.Plain.{Setup}
use Rattle.plain.specs.Calls.{Lengths}

abbrev pub setup : ℕ → ℕ → ℕ → Setup
setup mode anchor capacity = record { mode = mode; anchor = anchor; capacity = capacity }

abbrev pub lengths : ℕ → ℕ → ℕ → ℕ → Lengths
lengths flag_store sample_store img votes = record { flags = flag_store; samples = sample_store; img = img; votes = votes }
