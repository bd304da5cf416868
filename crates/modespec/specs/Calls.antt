-- The calls on a mode's sizes (01-scope.md, "Fold and pulse window", "Numbers given by cause"). Definitions only.
use Rattle.std.specs.Prelude.{ℕ, cond, nat_lt, Result, Ok, Err}
use Rattle.limits.specs.declared.Refusal.{Refusal}
use Rattle.limits.specs.declared.Refusal.TheVariants as why
use Rattle.modespec.specs.ModeSpec.{spec_of}
use Rattle.modespec.specs.Sizes.{pulse_columns, window_probes, image_probes, working_rate}
use Rattle.modespec.specs.declared.Sizes.{Sizes}

-- `sync_pulse_columns`: 1 for a mode above 15, then 9 for an n above 65,536, else the columns
unfoldable pub columns_of : ℕ → ℕ → Result ℕ Refusal
columns_of mode n = cond (nat_lt 15 mode) (Err why.Mode) (cond (nat_lt 65536 n) (Err why.Count) (Ok (pulse_columns (spec_of mode) n)))

-- the sizes of a mode: 1 for a mode above 15, else w, and P at 11,025 Hz
unfoldable pub sizes_of : ℕ → Result Sizes Refusal
sizes_of mode =
    cond (nat_lt 15 mode) (Err why.Mode) (Ok (record { window = window_probes (spec_of mode); picture = image_probes (spec_of mode) working_rate }))
