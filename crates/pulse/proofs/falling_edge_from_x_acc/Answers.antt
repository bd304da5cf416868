-- `pulse::falling_edge_from_x_acc` meets its contract. Assumes nothing.
use Rattle.std.proofs.Common.{leb, length, Ok, ap, sym, ◌∙◌, rules, tests}
use Rattle.std.proofs.lemmas.Iterator.{YieldsList-from_slice}
use Rattle.std.proofs.lemmas.Iterator.Search.{all_from_yields_List}
use Rattle.limits.proofs.AtMost.{at_most_list_all}
use Rattle.pulse.proofs.Answers.{edge_found, edge_count, edge_large}
use Rattle.pulse.proofs.falling_edge_from_x_acc.Goals as goal

pub returns-in_default : goal.returns-in_default
returns-in_default c = edge_count c.args.counts.now c.in_default.ensures.1

pub returns-then-not-all : goal.returns-then-not-all
returns-then-not-all c =
    let k = c.in-Ok.counts.now in
    let all = all_from_yields_List (λ x. leb x 1000000) _ _ _ c.all.ensures.ran (YieldsList-from_slice k cc) (λ x r q h. search (rules, tests)) ∙ at_most_list_all 1000000 k in
    rw (sym c.in-Ok.ensures.1.same) (edge_large k (sym all ∙ c.if-not-all.true))

pub returns : goal.returns
returns c =
    let k = c.in-Ok.counts.now in
    let all = all_from_yields_List (λ x. leb x 1000000) _ _ _ c.all.ensures.ran (YieldsList-from_slice k cc) (λ x r q h. search (rules, tests)) ∙ at_most_list_all 1000000 k in
    rw (sym c.in-Ok.ensures.1.same) (ap Ok c.falling_edge.ensures ∙ edge_found k (ap length c.in-Ok.ensures.1.same ∙ c.in-Ok.ensures.1.long) (sym all ∙ c.if-not-all.false))
