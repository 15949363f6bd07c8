-- An entry leads from a board to one board at most.
use Rattle.board_step.proofs.Basics.{◌≡◌, sym, ap, ◌∙◌, Entry, Board, shown_decides, plan_on, counted, Step}

pub leads_to_one : (b : Board) (e : Entry) (c d : Board) → Step b e c → Step b e d → c ≡ d
leads_to_one b e c d one other =
    sym one.leads ∙ ap (counted b e.call) (shown_decides (plan_on b e.caller e.call) b one.wishes other.wishes (one.told ∙ sym other.told) (one.replied ∙ sym other.replied)).board ∙ other.leads
