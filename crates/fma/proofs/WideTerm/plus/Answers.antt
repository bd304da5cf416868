-- `fma::WideTerm::plus` meets its contract. Assumes nothing.
use native.Mathlib.Omega.{arith}
use mathlib.Core.Path.{sym, ◌∙◌}
use Rattle.std.specs.Cmp.{ranked}
use Rattle.fma.proofs.Limbs.{limbs_cmp}
use Rattle.fma.proofs.Closing.{settle_like, settle_less, settle_more, settle_none}
use Rattle.fma.proofs.WideTerm.plus.Goals as goal

pub returns-then-self-z-clause-sum : goal.returns-then-self-z-clause-sum
returns-then-self-z-clause-sum c r placed =
    let p = c.args.self in
    let z = c.args.z in
    settle_like p.sign z.sign _ p.exponent _ _ r c.if-self-z.true c.plus.ensures placed

pub returns-in-Less-clause-sum : goal.returns-in-Less-clause-sum
returns-in-Less-clause-sum c r placed =
    let p = c.args.self in
    let z = c.args.z in
    let below = ranked _ _ _ (sym c.in-Less.is ∙ c.cmp.ensures ∙ limbs_cmp p.digits.hi p.digits.lo z.digits.hi z.digits.lo (omega arith) (omega arith)) in
    settle_less p.sign z.sign _ p.exponent _ _ r c.if-self-z.false below c.minus.ensures (rw c.requires.2 at placed)

pub returns-in-Equal-clause-sum : goal.returns-in-Equal-clause-sum
returns-in-Equal-clause-sum c r placed =
    let p = c.args.self in
    let z = c.args.z in
    let same = ranked _ _ _ (sym c.in-Equal.is ∙ c.cmp.ensures ∙ limbs_cmp p.digits.hi p.digits.lo z.digits.hi z.digits.lo (omega arith) (omega arith)) in
    settle_none p.sign z.sign _ p.exponent _ r c.if-self-z.false same placed

pub returns-in-Greater-clause-sum : goal.returns-in-Greater-clause-sum
returns-in-Greater-clause-sum c r placed =
    let p = c.args.self in
    let z = c.args.z in
    let above = ranked _ _ _ (sym c.in-Greater.is ∙ c.cmp.ensures ∙ limbs_cmp p.digits.hi p.digits.lo z.digits.hi z.digits.lo (omega arith) (omega arith)) in
    settle_more p.sign z.sign _ p.exponent _ _ r c.if-self-z.false above c.minus-in-Greater.ensures placed
