use Rattle.std.proofs.Common.{◌↔◌, Bool, IsTrue, sym, subst}
use Rattle.script_histories.specs.Merging.{EndsWell}
use Rattle.legal_check.proofs.ending.ends_well.Goals as goal

pub returns-else-spent : goal.returns-else-spent
returns-else-spent c = λ entries have.
    subst (λ (t : Bool). IsTrue c.is_whole.result ↔ EndsWell c.args.script.now entries c.args.board.now t) (sym c.if-spent.false) (c.is_whole.ensures entries have)
