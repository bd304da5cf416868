-- `hough::count_votes` meets its contract. Assumes nothing.
use mathlib.Core.Path.{◌≡◌}
use Rattle.hough.specs.Pass.{pass_of, rows}
use Rattle.hough.proofs.Memory.{cleared_filled}
use Rattle.hough.proofs.Whole.{voted}
use Rattle.hough.proofs.count_votes.Goals as goal

pub returns : goal.returns
returns c =
    let a = c.args in
    let p = pass_of a.flags.now a.rate a.spec a.w in
    let z = cleared_filled 144000 a.votes.now c.fill.new.self c.requires.1.1 (c.fill.ensures.after (λ y e. e)) in
    let f : c.min-rows.result ≡ rows p = c.min-rows.ensures in
    voted p a.img.now c.draw.new.img a.votes.now _ c.vote_rows.new.votes c.vote_rows.result (rw f at c.draw.ensures) c.requires.1.1 z (rw (f, c.new.ensures) at c.vote_rows.ensures)
