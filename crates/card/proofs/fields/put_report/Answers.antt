-- `card::fields::put_report` meets its contract. Five numbers, one behind the other.
-- Assumes nothing.
use native.Mathlib.Omega.{arith}
use mathlib.Core.Path.{ap, ◌∙◌}
use lib.Seq.{sets}
use mir.ValLaws.{to_z-of_z}
use mir.Syntax.{w64}
use Rattle.words.specs.Words.{bits_of}
use Rattle.words.proofs.Storing.{nothing, number}
use Rattle.card.proofs.Parts.{report_of_lem}
use Rattle.card.proofs.fields.put_report.Goals as goal

pub returns : goal.returns
returns c =
    let a = c.args.card in
    let skip = to_z-of_z w64 a.skip (record { sfits = omega arith }) in
    let put = (number 4 _ (number 8 _ (number 1 _ (number 8 _ (number 4 _ (nothing _ 31) c.put.ensures) c.put-2.ensures) c.put-3.ensures) c.put-4.ensures) c.put-5.ensures).is in
    rw c.from-2.ensures at put
    ∙ ap (sets c.args.out.now 31) (report_of_lem a _ _ _ _ (c.from.ensures ∙ c.pattern.ensures) c.pattern-2.ensures (c.signed_bits.ensures ∙ ap bits_of skip) (c.from-3.ensures ∙ c.pattern-3.ensures))
