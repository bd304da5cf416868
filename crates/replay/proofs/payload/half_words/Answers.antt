-- One place more is filled.
use Rattle.std.proofs.Common.{ℕ, set, ap, ◌∙◌}
use Rattle.words.specs.Words.{half_word_at}
use Rattle.replay.proofs.Filling.{nothing, one_more}
use Rattle.replay.proofs.payload.half_words.Goals as goal

pub loop-k-init : goal.loop-k-init
loop-k-init g c = nothing _ _

pub loop-k-preserved : goal.loop-k-preserved
loop-k-preserved g c =
    let k = c.loop-k.k in
    let of = g.T.HalfWord.of in
    let at = λ (i : ℕ). of (half_word_at c.args.bytes.now i) in
    ap (set c.loop-k.place-items k) (c.from_half_word.ensures ∙ ap of c.half_word.ensures)
    ∙ ap (λ l. set l k (at k)) c.loop-k.invariant
    ∙ one_more at _ k c.loop-k-test.true
