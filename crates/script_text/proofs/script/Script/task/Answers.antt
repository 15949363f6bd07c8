use Rattle.std.proofs.Common.{◌≡◌, true, subst, IfSome}
use Rattle.irq_base.specs.declared.call.Caller.{Caller}
use Rattle.script_text.specs.Draft.{script_in}
use Rattle.script_text.specs.Scripts.{Script, may_ask}
use Rattle.script_text.proofs.Allowed.{task-allowed}
use Rattle.script_text.proofs.script.Script.task.Goals as goal

pub returns-clause-may : goal.returns-clause-may
returns-clause-may c =
    let kept = script_in c.self.inside.draft in
    let who = c.caller_of.result in
    let may = task-allowed (λ t. t.now) kept.shape who kept.lines c.args.k c.task.result c.self.invariant.fits.lines c.task.ensures.at in
    subst (λ (w : Caller). IfSome c.task.result (λ t. may_ask c.args.self.now.shape w t.now ≡ true)) c.caller_of.ensures
    (subst (λ (s : Script). IfSome c.task.result (λ t. may_ask s.shape who t.now ≡ true)) c.self.view_is may)
