-- One row more.
use Rattle.board_step.proofs.Basics.{sym, subst, arith, AllWithin-more, get_or_from_slice_get, PayloadFits}
use Rattle.board_step.proofs.typed.payloads_fit.Goals as goal

pub loop-k-preserved : goal.loop-k-preserved
loop-k-preserved c = AllWithin-more PayloadFits c.args.rows.now 0 c.loop-k.k c.loop-k.invariant (λ d. subst PayloadFits (sym (get_or_from_slice_get c.args.rows.now c.loop-k.k c.at.result.now d c.at.ensures)) c.payload_fits.ensures)

pub returns : goal.returns
returns c k d below = c.loop-k.invariant k d (omega arith) (omega (arith, below))
