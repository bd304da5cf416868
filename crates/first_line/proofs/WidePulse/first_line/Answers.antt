-- `first_line::WidePulse::first_line` meets its contract. Assumes nothing.
use Rattle.std.proofs.Common.{rules, tests, refl, ◌∙◌, arith}
use Rattle.std.proofs.lemmas.Iterator.{YieldsList-from_range}
use Rattle.std.proofs.lemmas.Iterator.Search.{find_from_yields_List}
use Rattle.first_line.specs.Pulsed.{half_set}
use Rattle.first_line.proofs.Across.{found_is, or_line}
use Rattle.first_line.proofs.WidePulse.first_line.Goals as goal

pub returns : goal.returns
returns c =
    let s = c.args.self.now in
    let test = half_set s.samples s.window.now s.column s.width in
    or_line c.find.result _ c.unwrap_or.result
    (find_from_yields_List test _ _ c.find.result c.find.ensures.ran (YieldsList-from_range 0 c.args.lines c.args.lines refl (omega arith)) (λ x b q k. search (rules, tests))
    ∙ found_is test 0 c.args.lines)
    c.unwrap_or.ensures
