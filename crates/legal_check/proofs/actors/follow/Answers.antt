use Rattle.std.proofs.Common.{sym, refl, subst}
use Rattle.script_text.specs.declared.progress.Progress.{Progress}
use Rattle.script_text.specs.Asks.{caller_at, HasFollowed}
use Rattle.legal_check.proofs.Known.{follow-one}
use Rattle.legal_check.proofs.actors.follow.Goals as goal

pub returns : goal.returns
returns c =
    let s = c.args.script.now in
    let who = caller_at s.lines c.args.actor in
    follow-one s c.args.all.now _ c.args.actor c.after.new.self c.args.reply.now c.requires.there c.requires.as_many refl
    (λ replies so_far. c.after.ensures.followed replies c.requires.there
    (subst (λ (p : Progress). HasFollowed who s.lines replies p) (sym c.progress_of-next.ensures) so_far))
