-- `pulse::count_at_most` meets its contract. Assumes nothing.
use Rattle.std.proofs.Common.{rules, tests, arith}
use Rattle.std.proofs.lemmas.Iterator.{YieldsList-from_map, YieldsList-from_slice}
use Rattle.std.proofs.lemmas.Iterator.Consumers.{YieldsList-at, fits_by_from_yields_list}
use Rattle.pulse.proofs.Sorting.{one, count_sum, count_length}
use Rattle.pulse.proofs.count_at_most.Goals as goal

pub sum-requires-clause-fits : goal.sum-requires-clause-fits
sum-requires-clause-fits c =
    let v = c.args.v in
    let k = c.args.counts.now in
    fits_by_from_yields_list (one v) k _ _
    (YieldsList-from_map _ (one v) (YieldsList-at c.map.ensures.source (YieldsList-from_slice k cc)) c.map.ensures.closure (λ x r q d. search (rules, tests)))
    (omega (arith, count_sum v k, count_length v k, c.iter.ensures.len))

pub returns : goal.returns
returns c = search (rules, count_sum)
