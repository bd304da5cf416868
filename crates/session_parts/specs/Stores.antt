-- The sample store of a session (01-scope.md, "Session"). Definitions only.
use Rattle.std.specs.Prelude.{ℕ, cond, List, Float}
use Rattle.std.proofs.Math.Seq.{paste}
use Rattle.modespec.specs.Sizes.{robot}

-- the sample store with a piece at a place, for Robot 24 and 36
abbrev pub kept_at : ℕ → ℕ → List Float → ℕ → List Float → List Float
kept_at mode at piece n sample_store = cond (robot mode) (paste sample_store at piece n) sample_store
