-- `hough::hough_detect_slant` meets its contract. Assumes nothing.
use mathlib.Core.Path.{◌∙◌}
use lib.ListN.{length}
use native.Mathlib.Omega.{arith}
use borrow.Author.Rules.{rules}
use Prim.Native.Nat.{◌≤◌}
use Rattle.hough.proofs.Memory.{cleared_filled, cleared_same}
use Rattle.hough.proofs.hough_detect_slant.Goals as goal

pub slice_bounds-fill-end-2 : goal.slice_bounds-fill-end-2
slice_bounds-fill-end-2 c = let h : 441000 ≤ length c.count_votes-leader.new.img = omega arith in search rules

pub slice_bounds-fill-end-4 : goal.slice_bounds-fill-end-4
slice_bounds-fill-end-4 c = let h : 144000 ≤ length c.count_votes-leader.new.votes = omega arith in search rules

pub returns : goal.returns
returns c =
    let p = c.count_votes-leader in
    record {
      slant = c.answer.ensures ∙ p.ensures.slant;
      img = cleared_filled 441000 p.new.img c.fill.new.self (omega arith) (c.fill.ensures.after (λ y e. e)) ∙ cleared_same 441000 _ _ p.ensures.img;
      votes = cleared_filled 144000 p.new.votes c.fill-2.new.self (omega arith) (c.fill-2.ensures.after (λ y e. e)) ∙ cleared_same 144000 _ _ p.ensures.votes;
    }
