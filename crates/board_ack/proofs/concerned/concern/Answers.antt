use Rattle.std.proofs.Common.{[], ap, ◌∙◌}
use Rattle.std.specs.Prelude.{option_map}
use Rattle.board_raise.specs.InHand.{registry_of, parts_of}
use Rattle.board_ack.specs.Acknowledge.{concern}
use Rattle.board_ack.proofs.Adding.{missing_of, missing_from}
use Rattle.board_ack.proofs.Stepping.{concern_adds, concern_stops, concern_lacks}
use Rattle.board_ack.proofs.concerned.concern.Goals as goal

pub returns-in-Err-clause-does : goal.returns-in-Err-clause-does
returns-in-Err-clause-does c = λ ws. concern_lacks c.args.targets.now c.args.gsi (parts_of c.args.parts.now) ws c.in-Err.lacks.part (c.in-Err.ensures ws)

pub returns-in-Err-clause-missing : goal.returns-in-Err-clause-missing
returns-in-Err-clause-missing c = missing_of (concern c.args.targets.now c.args.gsi) (parts_of c.args.parts.now) [] c.in-Err.lacks.part (returns-in-Err-clause-does c [])

pub returns-in-Ok-resample-clause-does : goal.returns-in-Ok-resample-clause-does
returns-in-Ok-resample-clause-does c = λ ws.
    concern_adds (parts_of c.args.parts.now) ws c.in-Ok.ensures c.args.targets.now c.args.gsi c.args.events.now.items c.resample.new.events.items c.notify.new.events.items (parts_of c.resample.new.parts) (parts_of c.notify.new.parts) c.notify.result
    (λ r h. c.in-Ok-resample.ensures.does ws r h)
    (λ r h. c.notify.ensures.does ws r (ap (option_map registry_of) c.resample.ensures.kept.registry ∙ h))

pub returns-in-Ok-resample-clause-missing : goal.returns-in-Ok-resample-clause-missing
returns-in-Ok-resample-clause-missing c =
    missing_from (concern c.args.targets.now c.args.gsi) (parts_of c.args.parts.now) [] c.args.events.now.items c.notify.new.events.items (parts_of c.notify.new.parts) [] c.notify.result (returns-in-Ok-resample-clause-does c [])

pub returns-in-Err-resample-clause-does : goal.returns-in-Err-resample-clause-does
returns-in-Err-resample-clause-does c = λ ws.
    concern_stops (parts_of c.args.parts.now) ws c.in-Ok.ensures c.args.targets.now c.args.gsi [] [] [] c.in-Err-resample.lacks.part (λ r h. c.in-Err-resample.ensures.does ws r h)

pub returns-in-Err-resample-clause-missing : goal.returns-in-Err-resample-clause-missing
returns-in-Err-resample-clause-missing c = missing_of (concern c.args.targets.now c.args.gsi) (parts_of c.args.parts.now) [] c.in-Err-resample.lacks.part (returns-in-Err-resample-clause-does c [])
