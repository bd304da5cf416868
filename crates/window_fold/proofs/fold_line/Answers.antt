-- `window_fold::fold_line` meets its contract. Assumes nothing.
use mathlib.Core.Path.{◌≡◌, ◌∙◌}
use mathlib.Core.List.{List}
use Prim.Native.Nat.{ℕ, ◌≤◌, ◌<◌, ◌+◌}
use native.Mathlib.Omega.{arith}
use lib.Ieee.{Float}
use lib.ListN.{get_or}
use Rattle.window_fold.specs.Fold.{fold_to}
use Rattle.window_fold.specs.Steps.{places_of, added_to}
use Rattle.window_fold.proofs.Folding.{hits_most, fold_at, fold_added}
use Rattle.window_fold.proofs.fold_line.Goals as goal

module _ (samples : Float) (window : List ℕ) (y : ℕ) (counts : List ℕ) (e : counts ≡ fold_to samples window y) where
  small : y ≤ 65536 → (x : ℕ) → x < 700 → get_or counts x 0 ≤ 65536
  small h x l = rw (e, fold_at samples window y x l) (omega (arith, hits_most samples window x y))

  more : (places new : List ℕ) → places ≡ places_of samples y → new ≡ added_to window places counts → new ≡ fold_to samples window (y + 1)
  more places new p n = n ∙ rw (p, e) (fold_added samples window y)

pub add_bits-requires : goal.add_bits-requires
add_bits-requires c = small c.args.samples c.args.window.now c.args.y c.args.counts.now c.requires.2 c.requires.0

pub returns : goal.returns
returns c = more c.args.samples c.args.window.now c.args.y c.args.counts.now c.requires.2 _ _ c.line_places.ensures c.add_bits.ensures
