use Rattle.irqboard.proofs.Lives.{ran_in_part, judged, judged_fault, answered_so, wrote_front}
use Rattle.irqboard.proofs.live_top.run_text.Goals as goal

pub returns-in-Ok-write_whole-clause-input : goal.returns-in-Ok-write_whole-clause-input
returns-in-Ok-write_whole-clause-input g c =
    let work = c.in-Ok-live_work_of in
    judged (g.S.Source.left c.args.source.now) (g.S.Source.left c.read_whole.new.source) c.in-Ok.input.items c.deref.result.now work.done.text work.done.outcome
    c.in-Ok.ensures.whole c.in-Ok.ensures.end c.deref.ensures.value work.ensures.done

pub returns-in-Ok-write_whole-clause-complete : goal.returns-in-Ok-write_whole-clause-complete
returns-in-Ok-write_whole-clause-complete g c _ _ _ =
    let work = c.in-Ok-live_work_of in
    answered_so (g.S.Source.left c.args.source.now) (g.S.Source.left c.read_whole.new.source) c.in-Ok.input.items c.deref.result.now work.done.text work.done.outcome
    c.in-Ok.ensures.whole c.in-Ok.ensures.end c.deref.ensures.value work.ensures.done

pub returns-clause-input : goal.returns-clause-input
returns-clause-input g c =
    let work = c.in-Ok-live_work_of in
    judged_fault (g.S.Source.left c.args.source.now) (g.S.Source.left c.read_whole.new.source) c.in-Ok.input.items c.deref.result.now work.done.text work.done.outcome
    c.in-Ok.ensures.whole c.in-Ok.ensures.end c.deref.ensures.value work.ensures.done

pub returns-clause-output : goal.returns-clause-output
returns-clause-output g c =
    let work = c.in-Ok-live_work_of in
    wrote_front (g.S.Source.left c.args.source.now) (g.S.Source.left c.read_whole.new.source) c.in-Ok.input.items c.deref.result.now work.done.text work.done.outcome
    c.in-Ok.ensures.whole c.in-Ok.ensures.end c.deref.ensures.value work.ensures.done
    (g.K.Sink.holds c.args.sink.now) (g.K.Sink.holds c.write_whole.new.sink) c.as_slice.result.now c.as_slice.ensures c.in-Err.ensures.front

pub returns-clause-bench : goal.returns-clause-bench
returns-clause-bench g c =
    let work = c.in-Ok-live_work_of in
    ran_in_part work.done.live (g.S.Source.left c.args.source.now) (g.S.Source.left c.read_whole.new.source)
    (g.K.Sink.holds c.args.sink.now) (g.K.Sink.holds c.write_whole.new.sink) c.in-Ok.input.items c.deref.result.now work.done.text
    c.as_slice.result.now work.done.outcome c.in-Ok.ensures.whole c.in-Ok.ensures.end c.deref.ensures.value work.ensures.live c.as_slice.ensures
    c.in-Err.ensures.front
