use Rattle.std.proofs.Common.{◌≡◌, ◌+◌, Bool, true, false, is_some, ap, sym, ◌∙◌, subst, Some, None, arith}
use Rattle.std.specs.Option.{option_copied}
use Rattle.board_model.specs.Board.{Board}
use Rattle.board_step.specs.Step.{spent_of}
use Rattle.legal_check.proofs.Ended.{next_at, BarredSoFar, one-passed, one-barred, not-barred, all-barred, false-not}
use Rattle.legal_check.proofs.ending.are_barred.Goals.{in-None, in-Some+else-not-is_barred}
use Rattle.legal_check.proofs.ending.are_barred.Goals as goal

pub returns-then-not-is_barred : goal.returns-then-not-is_barred
returns-then-not-is_barred c = λ entries have.
    let s = c.args.script.now in
    let a = c.loop-actor.actor in
    let call = c.in-Some.call.now in
    let on = c.if-not-is_barred.true in
    let off : c.is_barred.result ≡ false = grind arith in
    let asks : next_at s entries a ≡ Some call = sym (c.next_of.ensures.asks entries have) ∙ ap option_copied c.in-Some.is in (
      (λ h. absurd (false-not h)),
      (λ all. absurd (not-barred s entries c.args.board.now a call asks
          (λ spent. false-not (sym off ∙ c.is_barred.ensures.barred.1 (ap (λ (b : Board). is_some (spent_of b call)) c.loop-actor.invariant.0 ∙ spent))) all)),
    )

pub loop-actor-preserved : goal.loop-actor-preserved
loop-actor-preserved c =
    let s = c.args.script.now in
    let b = c.args.board.now in
    let a = c.loop-actor.actor in
    let same = c.loop-actor.invariant.0 in
    elim c.match-next_of.branch [
      | in-None w ↦ (
        w.board-is ∙ same,
        λ entries have.
            let asks : next_at s entries a ≡ None = sym (c.next_of.ensures.asks entries have) ∙ ap option_copied w.in-None.is in
            subst (λ (t : Bool). BarredSoFar s entries b (a + 1) t) (sym w.some-is)
            (one-passed s entries b a c.loop-actor.some asks (c.loop-actor.invariant.1 entries have)),
      )
      | in-Some+else-not-is_barred w ↦
          let off = w.if-not-is_barred.false in
          let barred : w.is_barred.result ≡ true = grind arith in
          let call = w.in-Some.call.now in (
            w.board-is ∙ w.is_barred.ensures.stays barred ∙ same,
            λ entries have.
                let asks : next_at s entries a ≡ Some call = sym (c.next_of.ensures.asks entries have) ∙ ap option_copied w.in-Some.is in
                let spent : is_some (spent_of b call) ≡ true = sym (ap (λ (d : Board). is_some (spent_of d call)) same) ∙ w.is_barred.ensures.barred.0 barred in
                subst (λ (t : Bool). BarredSoFar s entries b (a + 1) t) (sym w.some-is)
                (one-barred s entries b a c.loop-actor.some call asks spent (c.loop-actor.invariant.1 entries have)),
          )
    ]

pub returns : goal.returns
returns c = λ entries have.
    let over = c.loop-actor-test.false in
    let all = c.actors-actor-end.ensures in
    all-barred c.args.script.now entries c.args.board.now c.loop-actor.actor c.loop-actor.some (omega (arith, over, all)) (c.loop-actor.invariant.1 entries have)
