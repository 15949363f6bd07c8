use Rattle.board_step.proofs.Basics.{◌≡◌, ◌+◌, ◌≤◌, ◌++◌, drop, length, wishes_told, wish_replied}
use Rattle.board_step.proofs.choices.wishes_shown.Given as goal

-- the choices of the events from k on are there, with that of the reply
abbrev pub invariant-loop-k : goal.invariant-loop-k
invariant-loop-k l = record {
  within : l.k ≤ length l.events;
  room : length l.wishes + l.k ≤ length l.events + 1;
  shown : l.wishes ≡ wishes_told (drop l.k l.events) ++ wish_replied l.reply;
}
