-- `window_fold::is_silent` meets its contract. The blocks are cut off the window, and each is tested.
-- Assumes nothing.
use Rattle.std.proofs.Common.{rules, tests, refl}
use Rattle.std.specs.Slice.Iter.{chunks_steps, chunks_rest}
use Rattle.window_fold.proofs.Silence.{blocks_silent}
use Rattle.window_fold.proofs.is_silent.Goals as goal

pub returns : goal.returns
returns c =
    let r = c.all.ensures.ran in
    rw (← c.chunks.ensures.rest)
    (blocks_silent chunks_steps chunks_rest (λ s x t h. h.1.0) (λ s t h. h.1.0) _ (λ x b q k. search (rules, tests)) r.0 _ _ r.1 _ r.2 _ refl r.3 r.4 r.5)
