-- The walk over all plans, in one module for those that use it.
pub use Rattle.board_step.proofs.Walk.{Holds, Seen, Walk, after, bound, changed, either, ended, of_relation, written}
pub use Rattle.board_step.proofs.WalkAcks.{Ends, Tells, acks_hold, end_level_holds, end_tick_holds, inject_tick_holds, resend_holds, tell_holds, tells_by}
pub use Rattle.board_step.proofs.WalkCalls.{Accesses, Replied, assign_holds, attach_holds, count_holds, cycle_at, deassign_holds, detach_holds, eoi_holds, inject_count_holds, inta_holds, ioapic_store_holds, is_plain, is_signal, lapic_store_holds, line_holds, load_holds, message_holds, next_holds, pair_read_holds, pair_write_holds, plain_holds, port_in_holds, port_out_holds, reroute_holds, ring_holds, rung_holds, store_holds, take_holds, tick_mode_holds, tick_or_hold_holds, unless_holds, unwatch_holds, watch_holds, write_holds}
pub use Rattle.board_step.proofs.WalkKept.{KeptByCalls, KeptBySignals, calls_kept, shows, signals_kept, tick_kept, walk}
pub use Rattle.board_step.proofs.WalkOpen.{Open, of_log, open_accesses, open_raise, open_replied, open_rings, open_shows, open_signals}
pub use Rattle.board_step.proofs.WalkSignals.{MayRaise, Shows, Signals, accept_pin_holds, ignored, inject_holds, inject_only, let_go_after_holds, let_go_holds, raise_pic_holds, shows_by}
