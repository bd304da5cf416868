-- `sync::are_clear` meets its contract. Assumes nothing.
use Rattle.std.proofs.Common.{sym, ◌∙◌, arith}
use Rattle.sync.proofs.Rising.{seen_clear}
use Rattle.sync.proofs.are_clear.Goals as goal

pub returns-then-last-end : goal.returns-then-last-end
returns-then-last-end c =
    λ e i l h. seen_clear _ _ c.args.first _ i c.in-Some.ensures.lookup.0.2 (sym c.all_at_most.ensures ∙ e) l (omega arith)
