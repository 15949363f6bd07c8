use Rattle.std.proofs.Common.{◌≡◌, false}
use Rattle.board_model.specs.Published.{routing_of_words}
use Rattle.board_raise.specs.InHand.{parts_of}
use Rattle.board_calls.specs.Done.{SameInHand, FitsShape}
use Rattle.board_calls.proofs.Marked.{Leads}
use Rattle.board_calls.proofs.ends.acknowledge_marked.Given as goal

-- what the pins from here on add, all of them add to the parts at the start
abbrev pub invariant-loop-pin : goal.invariant-loop-pin
invariant-loop-pin g l = record {
  does : g.R.Rig.astray l.rig ≡ false
      → Leads (routing_of_words (g.R.Rig.published l.fn.rig)) l.shape l.marks (parts_of (g.R.Rig.held l.fn.rig)) (g.R.Rig.wishes l.fn.rig) l.fn.events.items l.pin (parts_of (g.R.Rig.held l.rig)) (g.R.Rig.wishes l.rig) l.events.items;
  held : SameInHand (g.R.Rig.held l.fn.rig) (g.R.Rig.held l.rig);
  fits : FitsShape l.shape (g.R.Rig.held l.rig);
  published : g.R.Rig.published l.rig ≡ g.R.Rig.published l.fn.rig;
  strays : g.R.Rig.astray l.rig ≡ false → g.R.Rig.astray l.fn.rig ≡ false;
  noted : g.R.Rig.noted l.rig ≡ g.R.Rig.noted l.fn.rig;
}
