-- The words that the proofs share: of the board and its lemmas, and of the laws stated here.
pub use Rattle.board_laws.specs.Deassigned.{ChangesCountAlone, EndedSignalsNoMore, EndsTrigger, MakesTrigger, NoSignalOfDeassignedTrigger, RingsAlone, SignalsNoMore, SignalsNothing}
pub use Rattle.board_laws.specs.Effect.{ChangesNoRequest, CoalescedAndIgnoredChangeNoRequest, EffectlessChangesNoRequest, HasNoTarget, HasRemoteIrr, IgnoredMaskedIsMasked, IoapicMasked, IoapicStood, IsEdgeHigh, IsIgnoredFor, IsLatched, IsSaidOf, LapicsStayInPlace, MaskedMeetsMask, PicMasked, PicPinsHaveTheirLines, PicStood, RequestStood, SameRequests, StatusesWithoutEffectChangeNoRequest, cause_on, chip_with_pin, is_pic_high, is_pic_masked, is_without_effect, lacks_effect, message_answer_by, message_answer_on, message_on, message_raised, message_target, other_answer_on, pic_answer_on, raise_answer_on, redirection_of, signal_targets}
pub use Rattle.board_laws.specs.Holds.{HoldsForResamplers, ResampleHoldsForResamplers}
pub use Rattle.board_laws.specs.Irqfds.{InjectsAtMostOnce, InjectsOnce, OneInjectionOfAnIrqfd, RingsOnce}
pub use Rattle.board_laws.specs.Lawful.{LegalHistoriesKeepTheLaws}
pub use Rattle.board_laws.specs.Pending.{IsPendingOrTaken, RequestsStayPending, SendingStands, SendingsStand, is_ack, is_processor, sendings_of, takes, takes_by}
pub use Rattle.board_laws.specs.Points.{AtEachEntry, AtEachPoint, IsLegal, OfEachBoard, OfLegalHistories, Point, board_at, board_left}
pub use Rattle.board_laws.specs.Resampling.{AcknowledgesResampleOnce, EachAcknowledgeResamplesOnce, IsReleased, ResamplesOnce, counter_told, counters_told, signal_owed, signal_told, signals_owed, signals_told}
pub use Rattle.board_laws.specs.Rings.{IsRefusedAlone, rung_on}
pub use Rattle.board_laws.specs.Ticks.{BusyTicksAreHeldBack, FallsFree, FollowsAcknowledge, HoldsBack, InjectsAfterAcknowledges, IsFreeUnlessReinjects, OtherInjectionsFollowAcknowledges, StartsReinjection, StateIsFreeUnlessReinjects, TicksAreConserved, TicksInjectFree, acks_in, acks_or_injects, is_ack_of, is_tick, is_tick_mode, sets_mode, ticks_in, ticks_taken, ticks_taken_by}
pub use Rattle.board_step.proofs.Basics.{routing_on, About, Acked, All, All-append, All-cons, All-nil, All-weaker, AllPairs, AllPairs-filter, BadMode, BadVector, Board, Bool, Busy, Call, Caller, Cause, Chip, Contains, Contains-append_left, Contains-append_right, Counters, Done, Entry, Event, Exit, Extint, HasProcessors, HasResampler, Heading, Held, Hold, Holds as PinHolds, Ignored, Injected, Ioapic, IoapicPart, Irqfd, IsSending, IsSent, IsTrue, Keeps, Lapic, LapicsStand, Leads, Legal, Line, List, LocalApic, Lowered, Lowest, Manner, Masked, MayReach, Message, Mode, MsiWord, Nmi, NoProcessor, None, Numbers, Option, Outcome, Pair, Part, Pic, PicChip, PicPart, Pin, PinOutcome, Plan, Processor, Raise, Rang, Refusal, Refused, Registry, RegistryPart, Removed, Reply, Resample, Resampled, ResamplersHold, RoleClash, Routing, Row, Sending, Sent, Shape, Shorthand, Signal, Some, Source, Space, Status, Step, Table, TargetAnswer, Targets, Tick, TickSource, TickState, TriggerWord, ValueOf, Watch, Watched, Wishes, [], accept_each, accept_pin, accepted, ack_injects, acknowledge, acknowledge_each, acknowledge_tick, after_seen, all_reached, answer, answer_shown, ap, append-nil, append_assoc, arith, assign, assign_reasons, assigned, attach, attach_reasons, board_after, both_hold, change, chip_of, chip_outcome, choose, chosen_of, cond, cons_option, contains, contains-empty, contains-insert, contains-insert_number, contains-remove, contains-set_below, cycle, cycle_made, deassign, deassigned, default_rows, default_rows-kept, deliver, detach, detach_reasons, does_hear, does_publish, done, each_chosen, each_passing, each_weaker, empty, empty_of_len, end_level, end_of_interrupt, end_tick, eq_by_cmp, eqb_tells, events_of, false, filter, filter-append, filter_map, find, first_cause, first_of, first_so, fold-append, frame_stays, give, give_of_pair, giveable_of, given, given_number, given_reply, greatest_vector, has_any, has_output, has_pin, has_request_on, has_resampler, has_trigger, has_watch, hears_pair, hold, hold_cmp, hold_cmp_total, if◌then◌else◌, ignore, in_mode, in_reply, inject, inject_count, inject_keeps, inject_next, inject_tick, injected, inl, inr, insert, inta, io_row, ioapic_answered, ioapic_high, ioapic_of, ioapic_raised, ioapic_store, ipi, is_accepted, is_addressed, is_allowed, is_empty, is_enabled, is_eq, is_high, is_ignored, is_illegal, is_ioapic_address, is_lapic_address, is_named, is_named_cpu, is_nmi, is_port, is_same, is_same_pin, is_signalled, is_some, is_taken, is_trigger, keeps_bind, kept_holds, lapic_store, lapics-with, later_wishes, length, length-append, let_go, let_go_after, let_go_ioapic, let_go_keeps, let_go_pic, line_set, list_any, list_any-append, load, look, lower, lowered_status, map, master_high, message_answer, message_in, message_of, message_sent, min, mod_small, named_alike, named_by, named_on, named_row, nat_cmp, nat_cmp-IsAntisymmetric, nat_cmp_total, nat_eq, nat_lt, nat_tests, newly_taken, next_board, next_interrupt, next_wish, no_effect, no_reason, nobody, not, notify, number_of, numbers_below, numbers_of, of_reached, only, opening, option_map, outcome_of, pair_of, pair_read, pair_write, part_of, part_of-with_other, parted, pic_answer, pic_raised, pin_outcome, plan_in_range, plan_of, plan_on, port_out, power_on, processors_on, publishes_unless, put, raise, raise_of, raise_other, raise_pic, range_reasons, reached, reached_by, refl, refusal_of, refuse_vector, register_at, registry_stays, release, remove, reply, reroute, resample, resample_and_notify, resample_clashes, resample_events, resample_of, resampled, resend, resent, ring, ring_counter, routing_of_registry, run, run-bind, rung, rung_by, same_set, say_each, second_so, see_each, seen_each, send, send_to, service_number, set_below, show, signal_each, signalled, signalled_all, slave_high, slice_get, slice_index, slice_set, source_of, stands, status_of, status_sent, stood_already, store, store_number, store_to, stored_at, subst, suc, sym, table_of, take, take_nmi, taken, targets_of, tell, tell_concerned, the_reply, then_run, tick_acked, tick_injected, tick_injects, tick_or_hold, ticked, tied_itself, tied_same, told_of, trigger_of, trigger_written, true, true≢false, unless_refused, unsigned_Decides, unsigned_tied, unwatch, unwatch_reasons, unwrap_or, was_last_resampler, watch, watch_events, watch_reasons, watched, wishes_reach_exactly, wishes_shown, with_counts, with_error, with_part, with_request, with_row, without_row, without_service, would_publish, write, write_reasons, written, zero, ℕ, ◌%◌, ◌&&◌, ◌++◌, ◌+◌, ◌-◌, ◌<◌, ◌>>=◌, ◌>>◌, ◌||◌, ◌∙◌, ◌∷◌, ◌≡◌, ◌≢◌, ◌≤◌, ◌⊎◌}
unfoldable pub use Rattle.board_step.proofs.Basics.{Each, gsi_of}
pub use Rattle.board_step.proofs.CallManner.{call_keeps, ends, or_true, refuses_in, replies_in, writes_in}
pub use Rattle.board_step.proofs.Following.{next_is, steps_are_followed}
pub use Rattle.board_step.proofs.Publishing.{last_is_one}
pub use Rattle.board_step.proofs.SoundCalls.{line_is_not, resamples_if, tick_is_not}
pub use Rattle.board_step.proofs.SoundChanges.{more_resampler, own_row}
pub use Rattle.board_step.proofs.SoundHolds.{less_for, more_for}
pub use Rattle.board_step.proofs.SoundLeaving.{freed_ioapic, freed_pic, freed_run, kept_for, kept_resampler, without}
pub use Rattle.board_step.proofs.SoundOpening.{apics_many, apics_numbered, number_at}
pub use Rattle.board_step.proofs.SoundRegistry.{IsMade, ioapic_resamples, irqfd_resamples, pic_resamples}
pub use Rattle.board_step.proofs.SoundRows.{each_fails, none_fewer, or_both, or_neither, pairs_push}
pub use Rattle.board_step.proofs.SoundSends.{accepted_number}
pub use Rattle.board_step.proofs.Walks.{bound, let_go_after_holds, raise_pic_holds, Accesses, Ends, Holds, KeptByCalls, KeptBySignals, MayRaise, Open, Replied, Shows, Signals, Tells, Walk, accept_pin_holds, acks_hold, after, assign_holds, attach_holds, calls_kept, changed, count_holds, cycle_at, deassign_holds, detach_holds, either, end_level_holds, end_tick_holds, ended, eoi_holds, ignored, inject_count_holds, inject_holds, inject_only, inject_tick_holds, inta_holds, ioapic_store_holds, is_plain, is_signal, lapic_store_holds, let_go_holds, line_holds, load_holds, message_holds, next_holds, of_log, of_relation, open_accesses, open_raise, open_replied, open_rings, open_shows, open_signals, pair_read_holds, pair_write_holds, plain_holds, port_in_holds, port_out_holds, reroute_holds, resend_holds, ring_holds, rung_holds, shows, shows_by, signals_kept, store_holds, take_holds, tell_holds, tells_by, tick_kept, tick_mode_holds, tick_or_hold_holds, unless_holds, unwatch_holds, walk, watch_holds, write_holds}
