-- The wishes that a log shows lead to the same outcome.
use Rattle.std.proofs.Common.{◌∷◌, refl, sym, ap, subst}
use Rattle.board_model.specs.Board.{Board, part_of, with_part}
use Rattle.board_model.specs.Plan.{Plan, done, look, put, tell, answer, choose}
use Rattle.board_model.specs.Run.{Wishes, next_wish, later_wishes, told, answered, sending, run}
use Rattle.board_model.specs.Agreement.{SameOutcome}
use Rattle.board_model.specs.Following.{shown_wishes, IsSteady}

pub shown_followed : {A : Type 0} (m : Plan A) (b : Board) (ws : Wishes) → IsSteady m → SameOutcome (run m b (shown_wishes (run m b ws).log.sendings)) (run m b ws)
shown_followed (done a) b ws steady = record { value = refl; log = refl; board = refl }
shown_followed (look p k) b ws steady = shown_followed (k (part_of b p)) b ws (steady (part_of b p))
shown_followed (put p v rest) b ws steady = shown_followed rest (with_part b p v) ws steady
shown_followed (tell x rest) b ws steady =
    let r = shown_followed rest b ws steady in
    record { value = r.value; log = ap (told x) r.log; board = r.board }
shown_followed (answer x rest) b ws steady =
    let r = shown_followed rest b ws steady in
    record { value = r.value; log = ap (answered x) r.log; board = r.board }
shown_followed {A} (choose m about g k) b ws steady =
    let s = g (next_wish ws) in
    let later = later_wishes ws in
    let shown = shown_wishes (run (k s) b later).log.sendings in
    let r = shown_followed (k s) b later (steady.1 s) in
    subst (λ t. SameOutcome (run (choose m about (λ _. t) k) b (next_wish ws ∷ shown)) (run (choose m about (λ _. s) k) b ws)) (sym (steady.0 (next_wish ws)))
    (record { value = r.value; log = ap (sending m about s) r.log; board = r.board })
