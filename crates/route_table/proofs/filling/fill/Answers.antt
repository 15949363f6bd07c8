-- One row more, a row that is refused, and the end.
use Rattle.std.proofs.Common.{◌≤◌, ◌<◌, length, ◌∙◌, arith}
use Rattle.route_table.proofs.Steps.{stands_more, reasons_more, reasons_now, reasons_all}
use Rattle.route_table.proofs.filling.fill.Goals as goal

pub loop-k-preserved : goal.loop-k-preserved
loop-k-preserved c =
    let below : c.loop-k.k < length c.args.rows.now = omega arith in
    record {
      stands = stands_more c.loop-k.words c.loop-k.pics c.loop-k.ioapics c.args.rows.now c.loop-k.k c.at.result.now below c.at.ensures c.loop-k.invariant.stands c.in_default.ensures.kept c.in_default.ensures.fits
          (c.loop-k.auto.words ∙ c.requires.long) (c.loop-k.auto.pics ∙ c.requires.pics) (c.loop-k.auto.ioapics ∙ c.requires.ioapics)
          c.add.new.words c.add.new.pics c.add.new.ioapics c.in_default.ensures.words c.in_default.ensures.pics c.in_default.ensures.ioapics;
      reasons = c.loop-k.invariant.reasons ∙ reasons_more c.loop-k.words c.loop-k.pics c.loop-k.ioapics c.args.rows.now c.loop-k.k c.at.result.now below c.at.ensures c.loop-k.invariant.stands c.in_default.ensures.kept;
    }

pub returns-in-Err-clause-refused : goal.returns-in-Err-clause-refused
returns-in-Err-clause-refused c =
    let below : c.loop-k.k < length c.args.rows.now = omega arith in
    c.loop-k.invariant.reasons ∙ reasons_now c.loop-k.words c.loop-k.pics c.loop-k.ioapics c.args.rows.now c.loop-k.k c.at.result.now c.in-Err.refusal below c.at.ensures c.loop-k.invariant.stands c.in-Err.ensures.refused

pub returns-clause-kept : goal.returns-clause-kept
returns-clause-kept c =
    let past : length c.args.rows.now ≤ c.loop-k.k = omega arith in
    c.loop-k.invariant.reasons ∙ reasons_all _ c.args.rows.now c.loop-k.k past
