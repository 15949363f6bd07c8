use Rattle.std.proofs.Common.{◌<◌, length, arith, ◌∙◌}
use Rattle.irqboard.proofs.Parts.{Appends-front, some_left, within_rest}
use Rattle.irqboard.proofs.writing.write_whole.Goals as goal

pub turns-preserved : goal.turns-preserved
turns-preserved g c =
    let wrote = c.in_ok-done.ensures in
    let begun = c.turns.invariant in
    let below : c.turns.done < length c.args.text.now = omega arith in
    let more : 0 < c.in_ok-done.field-0 = wrote.some (some_left c.turns.done c.args.text.now below) in
    record {
      within = within_rest c.turns.done c.in_ok-done.field-0 c.args.text.now begun.within wrote.bound;
      each = omega arith;
      written = Appends-front _ _ _ c.turns.done c.in_ok-done.field-0 c.args.text.now begun.written wrote.bytes;
      kept = wrote.kept ∙ begun.kept;
    }
