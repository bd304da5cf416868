-- Flags by their run lengths. Definitions only.
use Rattle.std.specs.Prelude.{ℕ, suc, ◌%◌, List, [], ◌∷◌, ◌++◌, take, replicate}

-- of run k each flag is k % 2, and these runs begin at k
unfoldable pub flags_from : ℕ → List ℕ → List ℕ
flags_from k [] = []
flags_from k (run ∷ runs) = replicate run (k % 2) ++ flags_from (suc k) runs

-- the first run counts zeros, the next one ones, and so on. There are at most so many flags
abbrev pub flags_within : ℕ → List ℕ → List ℕ
flags_within most runs = take most (flags_from 0 runs)
