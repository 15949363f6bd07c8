use Rattle.board_step.proofs.Basics.{◌≡◌, first_items as take}
use Rattle.board_step.proofs.same.same_events.Given as goal

-- the events before k are equal
abbrev pub invariant-loop-k : goal.invariant-loop-k
invariant-loop-k l = take l.k l.events ≡ take l.k l.others
