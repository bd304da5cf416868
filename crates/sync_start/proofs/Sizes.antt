-- The sizes of every mode are usual ones. Assumes nothing.
use Rattle.std.proofs.Common.{◌≡◌, ℕ, ◌≤◌, arith}
use Rattle.modespec.specs.declared.ModeSpec.{ModeSpec}
use Rattle.modespec.specs.ModeSpec.{spec_of}
use Rattle.modespec.specs.Sizes.{window_lines, pulse_columns}
use Rattle.modespec.proofs.Rows as Rows

-- a row whose window and pulse are of a usual size
pub record Sized (spec : ModeSpec) : Type 0 where
  pub lines : window_lines spec ≤ 64
  pub some : 1 ≤ pulse_columns spec 700
  pub most : pulse_columns spec 700 ≤ 700

pub sized : (mode : ℕ) → Sized (spec_of mode)
sized mode =
    let w = Rows.window_lines_lem mode in
    let p = Rows.pulse_columns_700 mode in
    record { lines = omega (arith, w.high); some = omega (arith, p.low); most = omega (arith, p.high) }

pub sized_as : (mode : ℕ) (spec : ModeSpec) → spec ≡ spec_of mode → Sized spec
sized_as mode spec e = rw e (sized mode)
