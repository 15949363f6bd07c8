use Rattle.irqboard.proofs.Lives.{made_there, learnt_there}
use Rattle.irqboard.proofs.live_work.run_actors.Goals as goal

pub returns-clause-made : goal.returns-clause-made
returns-clause-made g c =
    made_there c.of.result.desk _ c.of.result.passes.items _ c.of.ensures.desk (λ i. (c.of.ensures.passes i).items) c.in-Ok-run_on.ensures.made

pub returns-clause-told : goal.returns-clause-told
returns-clause-told g c =
    learnt_there c.in-Ok-run_on.field-0.history c.of.result.passes.items _ (λ i. (c.of.ensures.passes i).items) c.in-Ok-run_on.ensures.learnt
