-- Entries of which nothing was wished.
use Rattle.std.proofs.Common.{◌≡◌, List, [], ◌∷◌, ◌++◌, sym, subst}
use Rattle.irq_base.specs.declared.lists.Entry.{Entry}
use Rattle.board_model.specs.Board.{Board}
use Rattle.board_step.specs.History.{Leads}
use Rattle.replaying.specs.FileOrder.{LeadsUnwished}

-- they lead on as any do
pub leads_of : (b : Board) (es : List Entry) (c : Board) → LeadsUnwished b es c → Leads b es c
leads_of b [] c same = same
leads_of b (e ∷ es) c (next, step, more) = (next, step.0, leads_of next es c more)

pub unwished_append : (b c d : Board) (es fs : List Entry) → LeadsUnwished b es c → LeadsUnwished c fs d → LeadsUnwished b (es ++ fs) d
unwished_append b c d [] fs same more = subst (λ (x : Board). LeadsUnwished x fs d) (sym same) more
unwished_append b c d (e ∷ es) fs (next, step, rest) more = (next, step, unwished_append next c d es fs rest more)
