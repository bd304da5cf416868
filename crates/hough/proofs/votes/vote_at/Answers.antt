-- `hough::votes::vote_at` meets its contract. Assumes nothing.
use native.Mathlib.Omega.{arith}
use lib.Ieee.{of_bits}
use Rattle.ieee.specs.Numbers.{of_nat, decimal}
use Rattle.hough.proofs.Counting.{vote_where, vote_right, vote_left}
use Rattle.hough.proofs.Offsets.{is_true, is_false, offset_of, between, left_of, right_of}
use Rattle.hough.proofs.votes.vote_at.Goals as goal
use Rattle.hough.proofs.votes.vote_at.Goals.{else-u-via-then-u+else-u-w, else-u-via-else-u}

pub nearest-requires : goal.nearest-requires
unfolding of_bits decimal
nearest-requires c = c.if-u.true

pub overflow_sub-k : goal.overflow_sub-k
unfolding of_bits
overflow_sub-k c =
    let b = between c.args.w c.args.v c.nearest.result c.requires.0 (is_true c.if-u.true) (is_true c.if-u-w.true) c.nearest.ensures in
    omega (arith, b.less)

pub returns-then-u-w : goal.returns-then-u-w
unfolding of_bits
returns-then-u-w c =
    let b = between c.args.w c.args.v c.nearest.result c.requires.0 (is_true c.if-u.true) (is_true c.if-u-w.true) c.nearest.ensures in
    rw c.then_some.ensures (vote_where (of_nat c.args.w) (offset_of c.args.w c.args.v) c.args.q _ b.is b.left b.right c.requires.1)

pub returns-else-u : goal.returns-else-u
unfolding of_bits
returns-else-u c =
    let a = c.args in
    elim c.else-u.branch [
      | else-u-via-then-u+else-u-w w ↦
          (vote_left (of_nat a.w) (offset_of a.w a.v) a.q (left_of a.w a.v c.requires.0 (is_true w.if-u.true) (is_false w.if-u-w.false)), omega arith)
      | else-u-via-else-u w ↦
          (vote_right (of_nat a.w) (offset_of a.w a.v) a.q (right_of a.w a.v c.requires.0 (is_false w.if-u.false)), omega arith)
    ]
