use Rattle.std.proofs.Common.{sym, ◌∙◌}
use Rattle.actors.proofs.Logs.{gathered_of, spent_of_log}
use Rattle.actors.proofs.Shares.{back_of, merge_of, whole_of}
use Rattle.actors.proofs.running.run_faces.Goals as goal

pub returns-in-Ok-logged-clause-gathered : goal.returns-in-Ok-logged-clause-gathered
returns-in-Ok-logged-clause-gathered g c =
    gathered_of g.F.Face c.args.script.now c.args.faces.items c.in-Ok.played.items c.in-Ok-logged.log c.in-Ok.ensures c.in-Ok-logged.ensures c.requires.callers

pub returns-in-Ok-logged-clause-spent : goal.returns-in-Ok-logged-clause-spent
returns-in-Ok-logged-clause-spent g c =
    spent_of_log g.F.Face c.args.script.now c.args.faces.items c.in-Ok.played.items c.in-Ok-logged.log c.in-Ok.ensures c.in-Ok-logged.ensures

pub returns-in-Ok-logged-clause-merge : goal.returns-in-Ok-logged-clause-merge
returns-in-Ok-logged-clause-merge g c =
    merge_of g.F.Face c.args.script.now c.args.faces.items c.in-Ok-logged.log.faces.items c.in-Ok-logged.log.history
    (gathered_of g.F.Face c.args.script.now c.args.faces.items c.in-Ok.played.items c.in-Ok-logged.log c.in-Ok.ensures c.in-Ok-logged.ensures c.requires.callers) c.requires.callers

pub returns-in-Ok-logged-clause-back : goal.returns-in-Ok-logged-clause-back
returns-in-Ok-logged-clause-back g c =
    back_of g.F.Face c.args.script.now c.args.faces.items c.in-Ok-logged.log.faces.items c.in-Ok-logged.log.history
    (gathered_of g.F.Face c.args.script.now c.args.faces.items c.in-Ok.played.items c.in-Ok-logged.log c.in-Ok.ensures c.in-Ok-logged.ensures c.requires.callers) c.requires.callers

pub returns-in-Ok-logged-clause-whole : goal.returns-in-Ok-logged-clause-whole
returns-in-Ok-logged-clause-whole g c = λ none.
    whole_of g.F.Face c.args.script.now c.args.faces.items c.in-Ok-logged.log.faces.items c.in-Ok-logged.log.history
    (gathered_of g.F.Face c.args.script.now c.args.faces.items c.in-Ok.played.items c.in-Ok-logged.log c.in-Ok.ensures c.in-Ok-logged.ensures c.requires.callers) c.requires.callers
    (sym (spent_of_log g.F.Face c.args.script.now c.args.faces.items c.in-Ok.played.items c.in-Ok-logged.log c.in-Ok.ensures c.in-Ok-logged.ensures) ∙ none)
