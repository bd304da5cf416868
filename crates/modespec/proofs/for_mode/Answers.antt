-- `modespec::for_mode` meets its contract: a number above 15 has no mode, and gets the last row. Assumes nothing.
use Rattle.std.proofs.Common.{◌≡◌, ℕ, zero, suc, ◌+◌, ◌-◌, ◌≤◌, [], ◌∷◌, get_or, refl, ap, ◌∙◌, arith, get_or-drop}
use Rattle.std.specs.Prelude.{Result, Ok, Err}
use Rattle.std.specs.Result.{result_unwrap_or}
use Rattle.limits.specs.declared.Refusal.{Refusal}
use Rattle.modespec.specs.declared.Mode.{Mode}
use Rattle.modespec.specs.declared.Mode.TheVariants.{Wraase180}
use Rattle.modespec.specs.Mode.{mode_number, Numbered}
use Rattle.modespec.specs.ModeSpec.{spec_of, rows, wraase180}
use Rattle.modespec.proofs.for_mode.Goals as goal

tail : (d : ℕ) → wraase180 ≡ get_or (wraase180 ∷ []) d wraase180
tail zero = refl
tail (suc d) = refl

last : (m : ℕ) → 15 ≤ m → wraase180 ≡ spec_of m
unfolding spec_of rows
last m h = let e : 15 + (m - 15) ≡ m = omega arith in tail (m - 15) ∙ get_or-drop 15 rows (m - 15) wraase180 ∙ ap spec_of e

chosen : (m : ℕ) (r : Result Mode Refusal) → Numbered m r → spec_of (mode_number (result_unwrap_or r Wraase180)) ≡ spec_of m
unfolding spec_of rows
chosen m (Ok mode) h = ap spec_of h
chosen m (Err e) h = last m (omega (arith, h.1))

pub returns : goal.returns
returns c = rw (c.spec.ensures, c.unwrap_or.ensures) (chosen c.args.mode c.try_from.result c.try_from.ensures)
