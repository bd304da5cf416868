-- With each value the sum is of one more.
use Rattle.std.proofs.Common.{rules, refl, subst, []}
use Rattle.std.proofs.lemmas.Fn.{fold_over, slice_gives, fronts}
use Rattle.lent_memory.specs.Sums.{IsSumOf}
use Rattle.lent_memory.proofs.Summing.{one_more}
use Rattle.lent_memory.proofs.sum.Goals as goal

pub returns : goal.returns
returns g c = subst (λ l. IsSumOf g.T.Into.converts l c.fold.result) c.iter.ensures.rest
    (fold_over fronts (λ y. y.now) _ (IsSumOf g.T.Into.converts) _ (λ ys a x b f' j k. let more = one_more g.T.Into.converts ys x.now a in search rules)
    _ _ _ _ (slice_gives c.iter.result) ([], tt, refl) c.fold.ensures.ran)
