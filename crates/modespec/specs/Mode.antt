-- The modes by name (01-scope.md, "Modes"), in the order of `SstvMode`, numbered from 0. Definitions only.
use Rattle.std.specs.Prelude.{◌≡◌, ℕ, ◌<◌, Result, MatchResult}
use Rattle.limits.specs.declared.Refusal.{Refusal}
use Rattle.limits.specs.declared.Refusal.TheVariants as why
use Rattle.modespec.specs.declared.Mode.{Mode}
use Rattle.modespec.specs.declared.Mode.TheVariants as named

abbrev pub mode_number : Mode → ℕ
mode_number named.Pd120 = 0
mode_number named.Pd180 = 1
mode_number named.Pd240 = 2
mode_number named.Robot24 = 3
mode_number named.Robot36 = 4
mode_number named.Robot72 = 5
mode_number named.Robot24Bw = 6
mode_number named.Robot12Bw = 7
mode_number named.Robot8Bw = 8
mode_number named.Scottie1 = 9
mode_number named.Scottie2 = 10
mode_number named.ScottieDx = 11
mode_number named.Martin1 = 12
mode_number named.Martin2 = 13
mode_number named.Wraase120 = 14
mode_number named.Wraase180 = 15

-- the mode of this number, or the refusal of a number above 15
abbrev pub Numbered : ℕ → Result Mode Refusal → Type 0
Numbered number r = MatchResult r (λ mode. mode_number mode ≡ number) (λ e. (e ≡ why.Mode) × (15 < number))
