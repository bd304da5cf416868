-- Answers of the goals that the check leaves.
use mathlib.Core.Path.{◌≡◌, refl, ap, ◌∙◌}
use mathlib.Core.List.{List}
use Prim.Native.Nat.{ℕ, ◌<◌}
use native.Mathlib.Omega.{arith}
use lib.Ieee.{Float, add, binary64}
use borrow.Author.Rules.{rules}
use lib.ListN.{length, get_or, length-set}
use Rattle.ieee.specs.Numbers.{of_nat}
use Rattle.columns.specs.Columns.{column_part, probe_of, list_to}
use Rattle.window_fold.specs.Fold.{lines_at}
use Rattle.window_fold.specs.Steps.{places_of}
use Rattle.ieee.proofs.Whole.{in_float_lem}
use Rattle.columns.proofs.Lists.{get_d_list, write_next, all_written}
use Rattle.window_fold.proofs.line_places.Invariants.{place}
use Rattle.window_fold.proofs.line_places.Goals as goal

-- what the code adds up to a column's place is `lines_at`
lines_are : (y x : ℕ) (parts : List Float) (d : Float) → x < 700 → parts ≡ list_to (column_part 700) 700 → add binary64 (of_nat y) (get_or parts x d) ≡ lines_at y x
unfolding lines_at
lines_are y x parts d h e = rw (e, get_d_list (column_part 700) 700 x d h)

pub int_to_float-line : goal.int_to_float-line
int_to_float-line c = in_float_lem _ (omega arith)

pub loop-x-init : goal.loop-x-init
unfolding list_to
loop-x-init c = let n : length c.args.places.now ≡ 700 = search rules in (n, refl)

pub loop-x-preserved : goal.loop-x-preserved
loop-x-preserved c =
    (simp length-set c.loop-x.invariant.0, write_next (place c.args.samples c.args.y) c.loop-x.places c.loop-x.x _ (omega arith) c.loop-x.invariant.1 (c.probe_at.ensures ∙ ap (λ (t : Float). probe_of t c.args.samples) (lines_are c.args.y c.loop-x.x c.args.parts.now _ (omega arith) c.requires.1)))

pub returns : goal.returns
unfolding places_of
returns c =
    let l = c.loop-x in
    let e : l.x ≡ 700 = omega arith in
    all_written _ l.places 700 l.invariant.0 (rw e at l.invariant.1)
