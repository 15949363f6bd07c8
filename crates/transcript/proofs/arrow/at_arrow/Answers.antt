use Rattle.std.proofs.Common.{◌∙◌, ap, sym, arith}
use Rattle.script_text.specs.Words.{same_text}
use Rattle.transcript.proofs.Arrows.{at-next}
use Rattle.transcript.proofs.arrow.at_arrow.Goals as goal

pub loop-word-preserved : goal.loop-word-preserved
loop-word-preserved c = record {
  room = omega (arith, c.in-Some.ensures.fewer, c.loop-word.invariant.room);
  at = at-next c.args.tail.now c.loop-word.left.now c.in-Some.word.now c.in-Some.behind.now _ c.loop-word.invariant.at
      c.in-Some.ensures.whole c.in-Some.ensures.words c.in-Some.ensures.begins (ap (same_text c.in-Some.word.now) (sym c.as_slice.ensures) ∙ sym c.eq.ensures ∙ c.if-eq.false);
}
