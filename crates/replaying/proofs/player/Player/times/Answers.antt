use Rattle.std.proofs.Common.{◌∙◌, subst}
use Rattle.script_text.specs.Asks.{once, times}
use Rattle.replaying.specs.Played.{Played}
use Rattle.replaying.proofs.Loops.{times_grow, makes_next, makes_stopped, makes_all}
use Rattle.replaying.proofs.player.Player.times.Goals as goal

pub returns-in-Some-clause-played : goal.returns-in-Some-clause-played
returns-in-Some-clause-played c =
    let call = c.args.call.now in
    makes_stopped c.args.caller (λ n rest. times n call rest) (once call) (times_grow call) c.args.count c.args.self.now.board c.args.self.now.history
    c.turns._turn c.turns.self.board c.turns.self.history c.in-Some.spent c.once.new.self.board c.once.new.self.history c.turns-test.true c.turns.invariant.makes
    (λ rest. subst (λ o. Played c.args.caller (once call rest) rest c.turns.self.board c.turns.self.history o c.once.new.self.board c.once.new.self.history) c.in-Some.is (c.in_ok-spent.ensures.played rest))

pub turns-preserved : goal.turns-preserved
turns-preserved c =
    let call = c.args.call.now in
    record {
      shape = c.in_ok-spent.ensures.shape ∙ c.turns.invariant.shape;
      makes = makes_next c.args.caller (λ n rest. times n call rest) (once call) (times_grow call) c.args.count c.args.self.now.board c.args.self.now.history
          c.turns._turn c.turns.self.board c.turns.self.history c.once.new.self.board c.once.new.self.history c.turns-test.true c.turns.invariant.makes
          (λ rest. subst (λ o. Played c.args.caller (once call rest) rest c.turns.self.board c.turns.self.history o c.once.new.self.board c.once.new.self.history) c.in_default.is (c.in_ok-spent.ensures.played rest));
    }

pub returns-clause-played : goal.returns-clause-played
returns-clause-played c =
    let call = c.args.call.now in
    makes_all c.args.caller (λ n rest. times n call rest) (once call) (times_grow call) c.args.count c.args.self.now.board c.args.self.now.history
    c.turns._turn c.turns.self.board c.turns.self.history c.turns-test.false c.turns.invariant.makes
