-- `limits::any_unsound` meets its contract. Assumes nothing.
use Rattle.std.proofs.Common.{◌∙◌, rules, tests}
use Rattle.std.proofs.lemmas.Iterator.{YieldsList-from_slice}
use Rattle.std.proofs.lemmas.Iterator.Search.{any_from_yields_List}
use Rattle.limits.specs.Ranges.{unsound}
use Rattle.limits.proofs.Samples.{unsound_any}
use Rattle.limits.proofs.any_unsound.Goals as goal

pub returns : goal.returns
returns c =
    let a = c.args in
    any_from_yields_List unsound _ _ _ c.any.ensures.ran (YieldsList-from_slice a.samples.now cc) (λ x r q k. search (rules, tests))
    ∙ unsound_any a.samples.now
