use Rattle.std.proofs.Common.{◌∙◌, ap, subst}
use Rattle.replaying.specs.Replays.{Replays}
use Rattle.workload_sum.proofs.Unspent.{summary}
use Rattle.workload_sum.proofs.summary.sum.Goals as goal

pub returns-in-Ok : goal.returns-in-Ok
returns-in-Ok c =
    let run = c.in_ok-run.run' in
    summary c.args.start c.args.lines c.args.cpus run.history run.spent c.of.result c.requires
    (subst (λ s. Replays s run.history run.spent) c.in_ok-script.ensures c.in_ok-run.ensures) c.replays_are_one.ensures
    (c.of.ensures ∙ ap (λ v. v.items) c.into_bytes.ensures.value ∙ c.in-Ok.ensures)
