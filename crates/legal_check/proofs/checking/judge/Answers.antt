use Rattle.std.proofs.Common.{◌+◌, ◌≤◌, List, length, take, sym, ◌∙◌, subst, arith}
use Rattle.board_step.proofs.Listed.{take_there}
use Rattle.script_text.specs.declared.progress.Progress.{Progress}
use Rattle.legal_check.specs.declared.verdict.Verdict.{Verdict}
use Rattle.legal_check.specs.Verdicts.{IsVerdict}
use Rattle.legal_check.specs.Standing.{HaveFollowed}
use Rattle.legal_check.proofs.Tried.{Running, goes, flawed, fits, ends-badly, written_back, true-false}
use Rattle.legal_check.proofs.checking.judge.Goals as goal

pub returns-in-Some : goal.returns-in-Some
returns-in-Some c =
    let s = c.args.script.now in
    let before = take c.loop-place.place c.args.run.now.history in
    let have = subst (λ (ps : List Progress). HaveFollowed s before ps) (sym c.as_mut_slice.ensures.value) c.loop-place.invariant.followed in
    subst (λ (v : Verdict). IsVerdict s c.args.run.now v) (sym c.not_at.ensures)
    (flawed s c.args.run.now c.loop-place.place c.loop-place.board c.loop-place.all.items c.at.result.now c.in-Some.cause c.at.ensures
    c.loop-place.invariant (c.in-Some.ensures.flaw before have))

pub loop-place-preserved : goal.loop-place-preserved
loop-place-preserved c =
    let s = c.args.script.now in
    let history = c.args.run.now.history in
    let place = c.loop-place.place in
    let before = take place history in
    let have = subst (λ (ps : List Progress). HaveFollowed s before ps) (sym c.as_mut_slice.ensures.value) c.loop-place.invariant.followed in
    let on = c.in-None.ensures.goes before have in
    let now =
    goes c.steps_keep_the_frame.ensures s before (take (place + 1) history) c.loop-place.board c.flaw_of.new.board c.loop-place.all.items c.flaw_of.new.all
    c.at.result.now (take_there history place c.at.result.now c.at.ensures) c.loop-place.invariant on
    in
    subst (λ (ps : List Progress). Running s (take (place + 1) history) c.flaw_of.new.board ps)
    (sym (written_back c.loop-place.all.len c.flaw_of.new.all _ (sym c.as_mut_slice.ensures.len ∙ have.as_many ∙ sym on.followed.as_many))) now

pub returns-then-ends_well : goal.returns-then-ends_well
returns-then-ends_well c =
    let s = c.args.script.now in
    let run = c.args.run.now in
    let place = c.loop-place.place in
    let before = take place run.history in
    let past = c.loop-place-test.false in
    let all = c.len-place-end.ensures in
    let over : length run.history ≤ place = omega (arith, past, all) in
    let have = subst (λ (ps : List Progress). HaveFollowed s before ps) (sym c.as_slice.ensures.value) c.loop-place.invariant.followed in
    fits s run place c.loop-place.board c.loop-place.all.items over c.loop-place.invariant ((c.ends_well.ensures before have).0 c.if-ends_well.true)

pub returns : goal.returns
returns c =
    let s = c.args.script.now in
    let run = c.args.run.now in
    let place = c.loop-place.place in
    let before = take place run.history in
    let past = c.loop-place-test.false in
    let all = c.len-place-end.ensures in
    let over : length run.history ≤ place = omega (arith, past, all) in
    let have = subst (λ (ps : List Progress). HaveFollowed s before ps) (sym c.as_slice.ensures.value) c.loop-place.invariant.followed in
    subst (λ (v : Verdict). IsVerdict s run v) (sym c.not_at-else-ends_well.ensures)
    (ends-badly s run c.len.result place c.loop-place.board c.loop-place.all.items c.len.ensures over c.loop-place.invariant
    (λ ends. true-false c.ends_well.result ((c.ends_well.ensures before have).1 ends) c.if-ends_well.false))
