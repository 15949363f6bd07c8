use Rattle.std.proofs.Common.{sym, subst, arith}
use Rattle.std.proofs.lemmas.List.Elements.{AllWithin-more}
use Rattle.std.proofs.lemmas.Option.{get_or_from_slice_get}
use Rattle.transcript.specs.Fitting.{FitsEntry}
use Rattle.transcript.proofs.fitting.transcripts_fit.Goals as goal

pub loop-place-preserved : goal.loop-place-preserved
loop-place-preserved c =
    let a = c.entry_fits.ensures in
    AllWithin-more FitsEntry c.args.run.now.history 0 c.loop-place.place c.loop-place.invariant
    (λ d. subst FitsEntry (sym (get_or_from_slice_get c.args.run.now.history c.loop-place.place c.at.result.now d c.at.ensures))
    (record { caller = a.caller; call = a.call; reply = a.reply; events = a.events }))

pub returns : goal.returns
returns c = record {
  entries = λ k d below. c.loop-place.invariant k d (omega arith) (omega (arith, below));
  few = omega arith;
}
