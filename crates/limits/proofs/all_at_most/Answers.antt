-- `limits::all_at_most` meets its contract. Assumes nothing.
use Rattle.std.proofs.Common.{ℕ, max, leb, ap, ◌∙◌, rules, tests}
use Rattle.std.proofs.lemmas.Iterator.{YieldsList-from_slice}
use Rattle.std.proofs.lemmas.Iterator.Consumers.{fold_from_yields_List}
use Rattle.limits.proofs.AtMost.{at_most_largest}
use Rattle.limits.proofs.all_at_most.Goals as goal

pub returns : goal.returns
returns c =
    let a = c.args in
    ap (λ (most : ℕ). leb most a.limit) (fold_from_yields_List _ max 0 _ c.fold.ensures.ran (YieldsList-from_slice a.flags.now cc) (λ m x r q k. search (rules, tests)))
    ∙ at_most_largest a.limit a.flags.now
