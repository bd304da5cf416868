-- `session::Session::close` meets its contract. The end comes with F flags.
-- Assumes nothing.
use Rattle.session.proofs.Steps.{close_idle, close_done}
use Rattle.session.proofs.Session.close.Goals as goal

pub returns-then-self : goal.returns-then-self
returns-then-self c = close_idle c.args.self c.if-self.true

pub returns : goal.returns
returns c = close_done c.args.self c.end_of.result c.if-self.false c.end_of.ensures
