-- Steps behind steps.
use Rattle.std.proofs.Common.{List, [], ◌∷◌, ◌++◌, refl, sym, subst}
use Rattle.irq_base.specs.declared.lists.Entry.{Entry}
use Rattle.board_model.specs.Board.{Board}
use Rattle.board_step.specs.History.{Leads}
use Rattle.board_step.specs.Step.{Step}

pub leads_append : (b mid c : Board) (es fs : List Entry) → Leads b es mid → Leads mid fs c → Leads b (es ++ fs) c
leads_append b mid c [] fs first second = subst (λ (x : Board). Leads x fs c) (sym first) second
leads_append b mid c (e ∷ es) fs (next, step, more) second = (next, step, leads_append next mid c es fs more second)

pub leads_more : (b : Board) (es : List Entry) (e : Entry) (c d : Board) → Leads b es c → Step c e d → Leads b (es ++ e ∷ []) d
leads_more b es e c d first step = leads_append b c d es (e ∷ []) first (d, step, refl)
