-- `pulse::first_difference` meets its contract: the two sums are small. Assumes nothing.
use Rattle.std.proofs.Common.{◌≡◌, ◌≤◌, arith, ◌∙◌}
use Rattle.std.proofs.lemmas.Int.{ints}
use Rattle.pulse.specs.Edge.{four_from}
use Rattle.pulse.proofs.Sums.{sum_taken}
use Rattle.pulse.proofs.Sliding.{four_below}
use Rattle.pulse.proofs.first_difference.Goals as goal

module _ (c : goal.After-sum_of-low) where
  high : c.sum_of-high.result ≡ four_from c.args.counts.now 0
  high = c.sum_of-high.ensures ∙ sum_taken c.args.counts.now 0 4 (omega arith)

  low : c.sum_of-low.result ≡ four_from c.args.counts.now 4
  low = c.sum_of-low.ensures ∙ sum_taken c.args.counts.now 4 4 (omega arith)

  high_below : c.sum_of-high.result ≤ 17179869180
  high_below = omega (arith, high, four_below c.args.counts.now (λ k. (c.type_inv.counts k).fits) 0)

  low_below : c.sum_of-low.result ≤ 17179869180
  low_below = omega (arith, low, four_below c.args.counts.now (λ k. (c.type_inv.counts k).fits) 4)

pub overflow_cast-result : goal.overflow_cast-result
overflow_cast-result c = record { sfits = omega (arith, high_below c) }

pub overflow_cast-result-2 : goal.overflow_cast-result-2
overflow_cast-result-2 c = record { sfits = omega (arith, low_below c) }

pub overflow_sub-result : goal.overflow_sub-result
overflow_sub-result c = search (arith, ints, high_below c, low_below c)

pub returns : goal.returns
returns c = omega (arith, ints, high c, low c, high_below c, low_below c)
