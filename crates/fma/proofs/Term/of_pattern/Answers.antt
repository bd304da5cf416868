-- `fma::Term::of_pattern` meets its contract. Assumes nothing.
use Rattle.fma.proofs.Limbs.{asked, masked, held_most, held_normal, held_subnormal, held_none, zeros_ge}
use Rattle.fma.proofs.Fusing.{term_value}
use Rattle.fma.proofs.Term.of_pattern.Goals as goal
use Rattle.fma.proofs.Term.of_pattern.Goals.{then-field-gt0, else-field-gt0+then-digits-gt0, else-field-gt0+else-digits-gt0}

pub overflow_sub-shift : goal.overflow_sub-shift
overflow_sub-shift c = rw c.from-shift.ensures (zeros_ge _ (asked c.args.bits c.requires).1 c.if-digits-gt0.true)

pub returns : goal.returns
returns c =
    let fields = asked c.args.bits c.requires in
    elim c.if-field-gt0.branch [
      | then-field-gt0 w ↦ rw w.result-is (term_value c.args.bits _ _ c.requires (masked c.args.bits _ _ (held_normal _ _ fields.0 fields.1 w.if-field-gt0.true)))
      | else-field-gt0+then-digits-gt0 w ↦ rw w.result-is (term_value c.args.bits _ _ c.requires (masked c.args.bits _ _ (held_subnormal _ _ _ fields.1 w.if-field-gt0.false w.if-digits-gt0.true w.from-shift.ensures)))
      | else-field-gt0+else-digits-gt0 w ↦ rw w.result-is (term_value c.args.bits _ _ c.requires (masked c.args.bits _ _ (held_none _ _ w.if-field-gt0.false w.if-digits-gt0.false)))
    ]

pub invariant_of-result : goal.invariant_of-result
invariant_of-result c =
    let fields = asked c.args.bits c.requires in
    elim c.if-field-gt0.branch [
      | then-field-gt0 w ↦
          let h = held_normal _ _ fields.0 fields.1 w.if-field-gt0.true in
          rw w.result-is (record { lo = h.value.lo; hi = h.value.hi; least = h.least; most = held_most _ _ _ _ h })
      | else-field-gt0+then-digits-gt0 w ↦
          let h = held_subnormal _ _ _ fields.1 w.if-field-gt0.false w.if-digits-gt0.true w.from-shift.ensures in
          rw w.result-is (record { lo = h.value.lo; hi = h.value.hi; least = h.least; most = held_most _ _ _ _ h })
      | else-field-gt0+else-digits-gt0 w ↦
          let h = held_none _ _ w.if-field-gt0.false w.if-digits-gt0.false in
          rw w.result-is (record { lo = h.value.lo; hi = h.value.hi; least = h.least; most = held_most _ _ _ _ h })
    ]
