-- How a session ended, by the numbers of records and cards (02-change-requests.md, A.1): 0 reported, 1 unfound, 2 cut short. Definitions only.
use Rattle.std.specs.Prelude.{◌≡◌, ℕ, ◌<◌, Result, MatchResult}
use Rattle.limits.specs.declared.Refusal.{Refusal}
use Rattle.limits.specs.declared.Refusal.TheVariants as why
use Rattle.limits.specs.declared.ending.Ending.{Ending}
use Rattle.limits.specs.declared.ending.Ending.TheVariants as ended

abbrev pub ending_number : Ending → ℕ
ending_number ended.Reported = 0
ending_number ended.Unfound = 1
ending_number ended.CutShort = 2

-- the ending of this number, or the refusal of a number above 2
abbrev pub EndingNumbered : ℕ → Result Ending Refusal → Type 0
EndingNumbered number r = MatchResult r (λ ending. ending_number ending ≡ number) (λ e. (e ≡ why.CardField) × (2 < number))
