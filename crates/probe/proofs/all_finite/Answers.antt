-- `probe::all_finite` meets its contract. Assumes nothing.
use Rattle.std.proofs.Common.{◌∙◌, rules, tests}
use Rattle.std.specs.Float.{float_is_finite}
use Rattle.std.proofs.lemmas.Iterator.{YieldsList-from_slice}
use Rattle.std.proofs.lemmas.Iterator.Search.{all_from_yields_List}
use Rattle.probe.proofs.Testing.{all_is}
use Rattle.probe.proofs.all_finite.Goals as goal

pub returns : goal.returns
returns c =
    let a = c.args in
    all_from_yields_List float_is_finite _ _ _ c.all.ensures.ran (YieldsList-from_slice a.spectrum.now cc) (λ x r q k. search (rules, tests))
    ∙ all_is a.spectrum.now
