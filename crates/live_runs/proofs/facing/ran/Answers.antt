use denote.Param.Send.{sendable}
use Rattle.std.proofs.Crossing.{crosses}
use Rattle.irq_base.proofs.face.Stops.TheSendSync as stops
use Rattle.part_board.proofs.live.LiveBoard.TheSendSync as live
use Rattle.part_board.proofs.Crossing.{pass_field, pass_send}
use Rattle.std.proofs.Common.{All, Some, refl, sym, ap, ◌∙◌, subst}
use Rattle.part_board.specs.Seen.{IsPassOf}
use Rattle.live_runs.specs.Made.{callers_of, IsFresh}
use Rattle.live_runs.specs.Ran.{HaveRunBy}
use Rattle.live_runs.proofs.Ways.{all_mapped, callers_mapped, callers_back, of_board_back, have_run}
use Rattle.live_runs.proofs.facing.ran.Goals as goal

pub run_faces-requires-clause-callers : goal.run_faces-requires-clause-callers
run_faces-requires-clause-callers g c κs within =
    callers_mapped (λ f. f.pass) c.in_ok-faces.faces.items ∙ ap callers_of c.in_ok-faces.ensures.passes ∙ c.requires.callers

pub run_faces-requires-send-F : goal.run_faces-requires-send-F
run_faces-requires-send-F g c κs within = (let shared = c.type_bounds.sync-R in search (sendable, crosses, pass_field, pass_send, live.the_sync, live.the_field_sync, stops.the_send, stops.the_field_send) depth 20)

pub returns-clause-passes : goal.returns-clause-passes
returns-clause-passes g c =
    let board = c.args.board.now in
    let fs = c.in_ok-faces.faces.items in
    let all = all_mapped (λ f. f.pass) (IsFresh board) fs (subst (All (IsFresh board)) (sym c.in_ok-faces.ensures.passes) c.requires.passes) in
    subst (All (IsPassOf board)) (sym c.in_ok-passes.ensures)
    (of_board_back _ c.args.script.now (λ f. f.pass) (λ _. refl) (λ _. refl) (λ f. ap (λ n. Some n) (sym f.book)) (λ f. sym f.shape) (λ f call spent bars. bars)
    board c.in-Ok.log.history fs c.in-Ok.log.faces.items c.in-Ok.ensures.back (λ k d low. (all k d low).of_board))

pub returns-clause-callers : goal.returns-clause-callers
returns-clause-callers g c =
    let fs = c.in_ok-faces.faces.items in
    ap callers_of c.in_ok-passes.ensures
    ∙ callers_back _ c.args.script.now (λ f. f.pass) (λ _. refl) (λ _. refl) (λ f. ap (λ n. Some n) (sym f.book)) (λ f. sym f.shape) (λ f call spent bars. bars)
    c.in-Ok.log.history fs c.in-Ok.log.faces.items c.in-Ok.ensures.back
    ∙ ap callers_of c.in_ok-faces.ensures.passes ∙ c.requires.callers

pub returns-clause-ran : goal.returns-clause-ran
returns-clause-ran g c =
    let board = c.args.board.now in
    let fs = c.in_ok-faces.faces.items in
    let all = all_mapped (λ f. f.pass) (IsFresh board) fs (subst (All (IsFresh board)) (sym c.in_ok-faces.ensures.passes) c.requires.passes) in
    subst (HaveRunBy c.args.script.now c.in-Ok.log.history c.in-Ok.log.spent) (sym c.in_ok-passes.ensures)
    (have_run _ c.args.script.now (λ f. f.pass) (λ _. refl) (λ _. refl) (λ f. ap (λ n. Some n) (sym f.book)) (λ f. sym f.shape) (λ f call spent bars. bars)
    board c.in-Ok.log.history c.in-Ok.log.spent fs c.in-Ok.log.faces.items all
    c.in-Ok.ensures.gathered c.in-Ok.ensures.merge c.in-Ok.ensures.back c.in-Ok.ensures.spent c.in-Ok.ensures.whole)
