use Rattle.std.proofs.Common.{◌≡◌, ◌≤◌, drop, length}
use Rattle.board_raise.proofs.wish_list.WishList.set_to.Given as goal

-- the wishes from k on are there
abbrev pub invariant-loop-k : goal.invariant-loop-k
invariant-loop-k l = (l.k ≤ length l.wishes) × (l.self ≡ drop l.k l.wishes)
