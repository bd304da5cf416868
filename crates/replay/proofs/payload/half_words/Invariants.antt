-- The places below k are filled, and the others as they were.
use Rattle.std.proofs.Common.{◌≡◌}
use Rattle.words.specs.Words.{half_word_at}
use Rattle.replay.proofs.Filling.{filled}
use Rattle.replay.proofs.payload.half_words.Given as goal

abbrev pub invariant-loop-k : goal.invariant-loop-k
invariant-loop-k g l = l.place-items ≡ filled (λ k. g.T.HalfWord.of (half_word_at l.bytes k)) l.initial.place-items l.k
