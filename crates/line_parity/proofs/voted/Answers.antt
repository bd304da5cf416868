-- `line_parity::voted` meets its contract. Assumes nothing.
use Rattle.line_parity.proofs.Tones.{vote_even, vote_odd}
use Rattle.line_parity.proofs.voted.Goals as goal

pub returns-then-k-eq0 : goal.returns-then-k-eq0
returns-then-k-eq0 c = vote_even _ _ _ c.if-k-eq0.true

pub returns-else-k-eq0 : goal.returns-else-k-eq0
returns-else-k-eq0 c = vote_odd _ _ _ c.if-k-eq0.false
