use Rattle.std.proofs.Common.{sym, ap, ◌∙◌}
use Rattle.std.specs.Prelude.{option_map}
use Rattle.board_raise.specs.declared.parts.Parts.{Parts}
use Rattle.board_raise.specs.InHand.{registry_of, parts_of}
use Rattle.board_ack.proofs.Stepping.{no_resampler, resample_adds, resample_stops}
use Rattle.board_ack.proofs.concerned.resample.Goals as goal

pub returns-then-not-has_resampler-clause-does : goal.returns-then-not-has_resampler-clause-does
returns-then-not-has_resampler-clause-does c = λ ws registry h.
    no_resampler c.args.targets.now c.args.gsi registry (parts_of c.args.parts.now) ws c.args.events.now.items (sym (c.has_resampler.ensures registry h) ∙ c.if-not-has_resampler.true)

pub returns-in-Ok-clause-does : goal.returns-in-Ok-clause-does
returns-in-Ok-clause-does c = λ ws registry h.
    resample_adds c.args.targets.now c.args.gsi registry (parts_of c.args.parts.now) ws (parts_of c.let_go.new.parts) (parts_of c.signal_resamplers.new.parts) c.args.events.now.items c.signal_resamplers.new.events.items c.signal_resamplers.result
    (sym (c.has_resampler.ensures registry h) ∙ c.if-not-has_resampler.false) (c.in-Ok.ensures.does ws)
    (c.signal_resamplers.ensures.does ws registry (ap (λ (p : Parts). option_map registry_of p.registry) c.let_go.ensures.kept.others ∙ h))

pub returns-in-Err-clause-does : goal.returns-in-Err-clause-does
returns-in-Err-clause-does c = λ ws registry h.
    resample_stops c.args.targets.now c.args.gsi registry (parts_of c.args.parts.now) ws c.in-Err.lacks.part (sym (c.has_resampler.ensures registry h) ∙ c.if-not-has_resampler.false) (c.in-Err.ensures.does ws)
