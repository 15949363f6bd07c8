use Rattle.std.proofs.Common.{◌∙◌, subst}
use Rattle.irq_base.specs.declared.call.Call.TheVariants.{Ack}
use Rattle.script_text.specs.Asks.{Asks, ask, rounds, after_ack}
use Rattle.replaying.specs.Played.{Played}
use Rattle.replaying.proofs.Loops.{rounds_grow, makes_next, makes_stopped, makes_all}
use Rattle.replaying.proofs.player.Player.rounds.Goals as goal

-- one round, and what is asked behind it
abbrev one : Asks → Asks
one rest = ask Ack (λ reply. after_ack reply rest)

pub returns-in-Some-clause-played : goal.returns-in-Some-clause-played
returns-in-Some-clause-played c =
    makes_stopped c.args.caller rounds one rounds_grow c.args.count c.args.self.now.board c.args.self.now.history
    c.turns._turn c.turns.self.board c.turns.self.history c.in-Some.spent c.round.new.self.board c.round.new.self.history c.turns-test.true c.turns.invariant.makes
    (λ rest. subst (λ o. Played c.args.caller (one rest) rest c.turns.self.board c.turns.self.history o c.round.new.self.board c.round.new.self.history) c.in-Some.is (c.in_ok-spent.ensures.played rest))

pub turns-preserved : goal.turns-preserved
turns-preserved c = record {
  shape = c.in_ok-spent.ensures.shape ∙ c.turns.invariant.shape;
  makes = makes_next c.args.caller rounds one rounds_grow c.args.count c.args.self.now.board c.args.self.now.history
      c.turns._turn c.turns.self.board c.turns.self.history c.round.new.self.board c.round.new.self.history c.turns-test.true c.turns.invariant.makes
      (λ rest. subst (λ o. Played c.args.caller (one rest) rest c.turns.self.board c.turns.self.history o c.round.new.self.board c.round.new.self.history) c.in_default.is (c.in_ok-spent.ensures.played rest));
}

pub returns-clause-played : goal.returns-clause-played
returns-clause-played c =
    makes_all c.args.caller rounds one rounds_grow c.args.count c.args.self.now.board c.args.self.now.history
    c.turns._turn c.turns.self.board c.turns.self.history c.turns-test.false c.turns.invariant.makes
