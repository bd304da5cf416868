-- The known answers of 01-scope.md that are marked (c), computed from the definitions.
-- Assumes nothing.
use Rattle.std.proofs.Common.{ℕ, Bool, ◌&&◌, T, eqb, List, [], ◌∷◌}
use Rattle.std.specs.List.{list_all}
use lib.Ieee.{of_int}
use Rattle.modespec.specs.ModeSpec.{spec_of}
use Rattle.modespec.specs.Sizes.{window_probes, line_width, pulse_columns}

-- a mode, and its w, W and pulse columns among 700
pub record Sizes : Type 0 where
  pub mode : ℕ
  pub w : ℕ
  pub W : ℕ
  pub columns : ℕ

abbrev pub right : Sizes → Bool
right a = eqb (window_probes (spec_of a.mode)) a.w && eqb (line_width (spec_of a.mode)) a.W && eqb (pulse_columns (spec_of a.mode) 700) a.columns

-- PD 120, Robot 36, Scottie 1, Martin 1
abbrev pub known : List Sizes
known =
    record { mode = 0; w = 11213; W = 101; columns = 28 } ∷
    record { mode = 4; w = 5790; W = 66; columns = 42 } ∷
    record { mode = 9; w = 9447; W = 190; columns = 15 } ∷
    record { mode = 12; w = 9846; W = 367; columns = 8 } ∷
    []

pub known_answers : T (list_all right known)
unfolding spec_of window_probes line_width pulse_columns of_int
known_answers = tt
