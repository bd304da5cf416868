-- `card::fields::put_card` meets its contract. Three parts, which fill the buffer.
-- Assumes nothing.
use Rattle.words.proofs.Storing.{nothing, field, whole}
use Rattle.card.specs.Card.{head_bytes, count_bytes, report_bytes, card_bytes}
use Rattle.card.proofs.Parts.{length_head, length_counts, length_report}
use Rattle.card.proofs.fields.put_card.Goals as goal

pub returns : goal.returns
unfolding card_bytes
returns c =
    let a = c.args.card in
    whole (field 25 (report_bytes a) (field 24 (count_bytes a) (field 7 (head_bytes 1 a.mode a.end) (nothing _ 0) (length_head 1 a.mode a.end) c.put_head.ensures) (length_counts a) c.put_counts.ensures) (length_report a) c.put_report.ensures) c.requires
