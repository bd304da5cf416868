-- `first_line::is_enough` meets its contract. Assumes nothing.
use Rattle.first_line.proofs.is_enough.Goals as goal

pub returns : goal.returns
returns c = rw c.nearest_u64_to_f64.ensures
