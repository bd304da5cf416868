-- `first_line::WidePulse::is_half_set` meets its contract. Assumes nothing.
use Rattle.std.proofs.Common.{◌≤◌, arith}
use Rattle.first_line.specs.Pulsed.{half_set}
use Rattle.first_line.proofs.Across.{across_most}
use Rattle.first_line.proofs.WidePulse.is_half_set.Goals as goal

pub overflow_mul-result : goal.overflow_mul-result
overflow_mul-result c =
    let g = c.args.self.now in
    let h : c.hits_across.result ≤ g.width = rw c.hits_across.ensures (across_most _ _ _ _ g.width) in
    omega arith

pub returns : goal.returns
unfolding half_set
returns c = rw c.hits_across.ensures
