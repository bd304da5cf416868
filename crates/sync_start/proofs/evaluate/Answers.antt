-- `sync_start::evaluate` meets its contract: it lends the flags taken and the samples known. Assumes nothing.
use Rattle.std.proofs.Common.{◌≡◌, ℕ, ◌+◌, ◌*◌, min, List, length, take, sym, ◌∙◌, arith, length-take, take_all, take-take}
use lib.Ieee.{Float}
use Rattle.sync_start.specs.Evaluate.{taken_at, evaluation_by, evaluation_of}
use Rattle.sync_start.proofs.evaluate.Goals as goal

-- no more samples than there are
all_heard : {A : Type 0} (n : ℕ) (l : List A) → take (min n (length l)) l ≡ take n l
all_heard n l = sym (take-take (min n (length l)) n l (omega arith)) ∙ take_all (min n (length l)) (take n l) (rw length-take (omega arith))

lent : (mode j : ℕ) (flags : List ℕ) (samples : List Float) (streak taken known : ℕ) → taken ≡ taken_at mode j → known ≡ min (4 * (taken + 1)) (length samples)
    → evaluation_by mode j (take taken flags) (take known samples) streak ≡ evaluation_of mode j flags samples streak
unfolding evaluation_of
lent mode j flags samples streak taken known e k = rw (k, all_heard (4 * (taken + 1)) samples, e)

pub returns : goal.returns
returns c =
    let g = c.args in
    let taken : ℕ = 64 * g.j + c.mode_window_probes-w.result in
    let is_taken : taken ≡ taken_at g.mode g.j = rw c.mode_window_probes-w.ensures in
    c.evaluate.ensures ∙ lent g.mode g.j g.flags.now g.samples.now g.streak taken c.min-known.result is_taken c.min-known.ensures
