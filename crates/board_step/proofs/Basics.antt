-- The words of the crates below, and of the definitions here, that the proofs share.
pub use Rattle.board_ack.specs.ReachLaws as acks
pub use Rattle.board_raise.specs.declared.parts.PicPart as pic
pub use Rattle.ack_notifiers.specs.Rows.{has_counter, has_row as has_watch_row, has_watch, is_named as is_named_watch, watch_events, watched, with_row as with_watch, without_row as without_watch}
pub use Rattle.ack_notifiers.specs.declared.watches.Watch.{Watch}
pub use Rattle.board_ack.proofs.AcknowledgeSteady.{each_keeps, in_event, resend_keeps, tick_keeps}
pub use Rattle.board_ack.proofs.Counting.{HasRegistry, again_for, each_events, each_tells, inject_tick_tells, registry_kind, resend_tells, rows_for, tell_tells, ticks_for}
pub use Rattle.board_ack.proofs.ReachAcknowledge.{each_reach, each_same, gsi_same, inject_tick_reach, resend_reach, twice}
pub use Rattle.board_ack.specs.Acknowledge.{acknowledge, acknowledge_each, clear_and_resend, end_level, end_tick, notify, resample, resample_and_notify, resend, say_each, signal_each, tell_concerned}
pub use Rattle.board_ack.specs.ReachLaws.{board_by, of_acknowledge, of_acknowledge_each, of_gsi, of_level, of_marked, of_resend}
pub use Rattle.board_ack.specs.Ticks.{acknowledge_tick, inject_next, inject_tick}
pub use Rattle.board_calls.proofs.Numbers.{given_number, service_number, store_number}
pub use Rattle.board_calls.proofs.Room.{quiet_tells}
pub use Rattle.board_calls.specs.Accesses.{ioapic_load, ioapic_store, ioapic_written, lapic_load, lapic_store, lapic_stored, load, pair_gave, pair_read, pair_write, pair_written, port_in, port_out, resend_written, ring, ring_counter, rung, store, store_effects}
pub use Rattle.board_calls.specs.Calls.{io_row, number_of, plan_in_range, plan_of}
pub use Rattle.board_calls.specs.Done.{FitsButTick, FitsShape}
unfoldable pub use Rattle.board_calls.specs.Processors.{all_pins}
pub use Rattle.board_calls.specs.Processors.{cycle_made, cycle_pins, end_of_interrupt, end_vector, ended_reply, give, give_of_pair, given_reply, hears_pair, inta, next_interrupt, pic_pin, pins_with, take_nmi}
pub use Rattle.board_calls.specs.Refusals.{assign_reasons, attach_reasons, bad_counter, bad_gsi, bad_ioevent, bad_resample, detach_reasons, has_resample, is_chip_address, is_counter, is_ioapic_address, is_lapic_address, is_signalled, is_trigger, range_reasons, resample_clashes, unwatch_reasons, watch_reasons, write_reasons}
pub use Rattle.board_calls.specs.Registrations.{assign, assigned, attach, count_written, deassign, deassigned, detach, inject_count, is_same_gsi, keeps_gsi, kept_holds, line_set, message_sent, read_reply, release, reroute, source_of, take, trigger_written, unless_one_of, unless_refused, unwatch, was_last_resampler, watch, write}
pub use Rattle.board_calls.specs.Ticks.{tick, tick_mode, tick_or_hold}
pub use Rattle.board_calls.specs.Told.{TellsOn}
pub use Rattle.board_model.proofs.Alike.{agreeing_alike}
pub use Rattle.board_model.proofs.Followed.{shown_followed}
pub use Rattle.board_model.proofs.Lens.{lapics-with, part_of-with_other}
pub use Rattle.board_model.proofs.OnParts.{exact_on_parts}
pub use Rattle.board_model.proofs.Sequence.{reaches-bind, run-bind}
pub use Rattle.board_model.proofs.Showing.{sets-sent, shown_decides}
pub use Rattle.board_model.proofs.Staying.{frame_stays, unreached_stays}
pub use Rattle.board_model.proofs.Tables.{published_decides_the_table}
pub use Rattle.board_model.proofs.Words.{published_decides, words_tell}
pub use Rattle.board_model.specs.Agreement.{Agrees, Exact, LacksReached, RunsAlike, SameFrame}
pub use Rattle.board_model.specs.Board.{Board, ValueOf, is_same, part_of, with_part}
pub use Rattle.board_model.specs.Chips.{IoapicPart, PicChip, PicPart, chip_of, ioapic_high, ioapic_of, master_high, pair_of, slave_high, with_ioapic, with_pair, without_pins}
pub use Rattle.board_model.specs.Following.{IsSteady, reached, shown_wishes}
pub use Rattle.board_model.specs.Hand.{Parts, all_parts, flat, part_in}
pub use Rattle.board_model.specs.Laws.{PublishTheSame}
pub use Rattle.board_model.specs.Plan.{About, Heading, Plan, answer, change, choose, done, events_of, injected, ipi, look, put, reply, resent, say, set, tell, the_reply, ◌>>=◌, ◌>>◌}
pub use Rattle.board_model.specs.Published.{IsSoundIrqfd, IsSoundRegistry, IsSoundTable, published, routing_of_words}
pub use Rattle.board_model.specs.Registry.{RegistryPart}
pub use Rattle.board_model.specs.Routing.{Routing, routing_of_registry, trigger_of}
pub use Rattle.board_model.specs.Run.{Log, OnParts, Outcome, Sending, Wishes, answered, both, gives, lacks, later_wishes, next_wish, reaches, run, run_on, sending, silence, then_run, told}
pub use Rattle.board_model.specs.Statuses.{Sent, TargetAnswer, first_cause, is_empty, message_answer, newly_taken, no_effect, nobody, sets_of, stands, status_of, status_sent, stood_already}
pub use Rattle.board_model.specs.declared.trigger.TriggerWord.{TriggerWord}
pub use Rattle.board_raise.proofs.Counting.{IsKind, Tells, Told, done_tells, inject_tells, let_go_tells, lower_tells, raise_tells, send_tells, tells_before, tells_both, tells_later, tells_more}
unfoldable pub use Rattle.board_raise.proofs.Each.{Each}
pub use Rattle.board_raise.proofs.Each.{both_hold, each_chosen, each_passing, each_weaker, told_of}
pub use Rattle.board_raise.proofs.EffectNamed.{has_any, named_alike}
pub use Rattle.board_raise.proofs.Manner.{Keeps, Manner, accepts, in_reply, is_refusal, keeps_bind, registry_stays, sets_replied, sets_told, shows_there, some_refusal, steady_of}
pub use Rattle.board_raise.proofs.ReachAlike.{Alike, alike_lapic, heard_of}
pub use Rattle.board_raise.proofs.Reaching.{or_false, sends_reach}
pub use Rattle.board_raise.proofs.SendExactly.{after_seen, all_reached, of_reached, seen_each, wishes_reach_exactly}
pub use Rattle.board_raise.proofs.SignalReach.{signals_reach_the_same}
pub use Rattle.board_raise.proofs.SignalSteady.{inject_keeps, let_go_keeps, lower_keeps, raise_keeps, send_keeps}
pub use Rattle.board_raise.specs.BoardRig.{words_in}
pub use Rattle.board_raise.specs.Fit.{Fits, InLimits, IoapicFits, IrqfdFits, PairFits, Pins, PinsFit, RegistrationsFit, WatchFits}
pub use Rattle.board_raise.specs.InHand.{chips_of, parts_of, pic_of, registry_of}
pub use Rattle.board_raise.specs.Laws.{HasProcessors, IsSending, IsSent, has_request_on, named_on, processors_on}
pub use Rattle.board_raise.specs.Named.{MayReach, Processor, chosen_of, does_hear, is_addressed, is_named as is_named_cpu, named_by, numbers_of}
pub use Rattle.board_raise.specs.OnRow.{apic_in}
pub use Rattle.board_raise.specs.ReachLaws.{is_of_one, of_answer, of_fall, of_message, of_other, of_pin, of_raise}
pub use Rattle.board_raise.specs.Send.{accept_each, deliver, ignore, is_illegal, numbers_below, only, parted, reached_by, reached_by_destination, refuse_vector, see_each, send, send_to, show}
pub use Rattle.board_raise.specs.Signal.{accept_pin, answer_shown, inject, ioapic_answered, ioapic_let_go, ioapic_raised, is_accepted, let_go, let_go_after, let_go_ioapic, let_go_pic, lower, lowered_status, pic_answer, pic_let_go, pic_raised, raise, raise_other, raise_pic}
pub use Rattle.board_raise.specs.declared.board_rig.BoardRig.{BoardRig}
pub use Rattle.board_raise.specs.declared.lacks.Lacks.{Lacks}
pub use Rattle.board_raise.specs.declared.parts.Parts.{Parts as CodeParts}
pub use Rattle.board_raise.specs.declared.parts.PicPart.{PicPart as CodePic}
pub use Rattle.board_raise.specs.declared.parts.RegistryPart.{RegistryPart as CodeRegistry}
pub use Rattle.board_step.specs.Applied.{Applied, LeadsOn, Ran, UnwishedStep, is_reached}
pub use Rattle.board_step.specs.Bodies.{BodiesStep, BodyLeads, Did, DoneLeads, IsOf, IsStepFrom, IsWorth, LeadsFrom, MayCall, Stepped, entry_of, plan_by}
pub use Rattle.board_step.specs.Due.{AnswersDue, IsDue, due_by, due_in, given_due}
pub use Rattle.board_step.specs.History.{Leads, Legal, board_after, next_board, opening, opening_ioapic, opening_pic, opening_registry, wish_of, wish_replied, wish_shown, wishes_shown, wishes_told}
pub use Rattle.board_step.specs.Laws.{AgreesForCall, AlwaysAnswers, AnswersOnce, DependsOnReach, HistoriesKeepSound, IsTyped, OpeningIsSound, PayloadFits, ReachIsTable, RefusesRightly, SamePart, StaysOutsideReach, StepsAreFollowed, StepsKeepSound, StepsTellFew}
pub use Rattle.board_step.specs.Opening.{OpensIoapic, OpensPic, OpensRig, opening_row}
pub use Rattle.board_step.specs.Owned.{IsKept, board_in}
pub use Rattle.board_step.specs.Publications.{HistoriesKeepTheFrame, KeepsTheFrame, LegalHistoriesCount, LimitsAreTold, PublicationsReachTheRegistry, ReachIsThere, StepsKeepTheFrame, StepsShowPublications, WordsStayAlong, spent_by, words}
pub use Rattle.board_step.specs.Reach.{does_inject, of_ack, of_call, of_counter, of_cycle, of_effect, of_end, of_load, of_pair, of_ring, of_rung, of_store, of_write, of_written, reach}
pub use Rattle.board_step.specs.Sound.{AreDistinct, HasResampler, HoldsStand, IsSound, LapicsStand, ResamplersHold}
pub use Rattle.board_step.specs.Step.{Step, counted, did_publish, does_publish, is_done, is_publication, is_removed, later_reasons, outcome_of, plan_on, publishes_unless, refusal_of as refusal_on, spent_of, with_counts, would_publish}
pub use Rattle.board_step.specs.Whole.{AllPartsAreWhole, BoardHasItsParts, IsWhole, PartsMakeTheirBoard, WholePartsAreAll, board_of, is_part}
pub use Rattle.event_counter.specs.Counters.{taken, what_is_read, written}
pub use Rattle.ioapic_82093aa.specs.Entries.{message_of}
pub use Rattle.ioapic_82093aa.specs.Pins.{Written, entry_at, has_vector, ioapic_at_power_on, pin_accepted, pin_acked, raise_of, read_from, register_written, resend_of, write_to}
pub use Rattle.ioapic_82093aa.specs.Registers.{register_of}
pub use Rattle.ioapic_82093aa.specs.declared.ioapic.Ioapic.{Ioapic as IoapicChip}
pub use Rattle.ioapic_82093aa.specs.declared.ioapic.Raise.{Raise}
pub use Rattle.ioapic_82093aa.specs.declared.registers.Register.{Register}
pub use Rattle.ioevent_set.specs.Rows.{do_collide, is_same as is_same_ioevent, rung_by, without_row as without_ioevent}
pub use Rattle.ioevent_set.specs.declared.row.IoRow.{IoRow}
pub use Rattle.irq_base.proofs.Room.{told-fits, told-none}
pub use Rattle.irq_base.specs.Callers.{is_allowed, is_of_processor, is_there}
pub use Rattle.irq_base.specs.Counts.{signalled, signalled_all}
pub use Rattle.irq_base.specs.Faces.{may_publish}
pub use Rattle.irq_base.specs.Refusals.{Reason, first_of}
unfoldable pub use Rattle.irq_base.specs.Room.{with_told}
pub use Rattle.irq_base.specs.declared.call.Call.TheVariants.{Ack, Assign, Attach, Deassign, Detach, Eoi, Inta, Line as LineCall, Load, Msi, PortIn, PortOut, Reroute, Store, Take, Tick as TickCall, TickMode, Unwatch, Watch as WatchCall, Write}
pub use Rattle.irq_base.specs.declared.call.Call.{Call}
pub use Rattle.irq_base.specs.declared.call.Caller.TheVariants.{Cpu}
pub use Rattle.irq_base.specs.declared.call.Caller.{Caller}
pub use Rattle.irq_base.specs.declared.call.Row.TheVariants.{Ioapic as IoapicRow, Msi as MsiRow, Pic as PicRow}
pub use Rattle.irq_base.specs.declared.call.Row.{Row}
pub use Rattle.irq_base.specs.declared.call.Space.{Space}
pub use Rattle.irq_base.specs.declared.event.Event.TheVariants.{Acked, Injected, Ipi, Rang, Resampled, Resent, Watched}
pub use Rattle.irq_base.specs.declared.event.Event.{Event}
pub use Rattle.irq_base.specs.declared.event.Pin.TheVariants.{Ioapic as IoapicPin, Pic as PicPin}
pub use Rattle.irq_base.specs.declared.event.Pin.{Pin}
pub use Rattle.irq_base.specs.declared.lists.Entry.{Entry}
pub use Rattle.irq_base.specs.declared.message.Message.{Message}
pub use Rattle.irq_base.specs.declared.message.Mode.TheVariants.{Lowest}
pub use Rattle.irq_base.specs.declared.message.Mode.{Mode}
pub use Rattle.irq_base.specs.declared.message.MsiWord.{MsiWord}
pub use Rattle.irq_base.specs.declared.message.Source.TheVariants.{Line, Pulse, Resample, Tick as TickSource}
pub use Rattle.irq_base.specs.declared.message.Source.{Source}
pub use Rattle.irq_base.specs.declared.message.Targets.{Targets}
pub use Rattle.irq_base.specs.declared.refusal.Refusal.TheVariants.{BadRange, Busy, ChipAddress, Exists, Full, NoCounter, NoGsi, Over, RoleClash}
pub use Rattle.irq_base.specs.declared.refusal.Refusal.{Refusal}
pub use Rattle.irq_base.specs.declared.reply.Done.{Done as DoneCall}
pub use Rattle.irq_base.specs.declared.reply.Reply.TheVariants.{Count, Done, Empty, Ended, Exit, Extint, Held, Nmi, Nothing, Refused, Removed, Signal, Value, Vector}
pub use Rattle.irq_base.specs.declared.reply.Reply.{Reply}
pub use Rattle.irq_base.specs.declared.reply.Spent.TheVariants.{Calls, Publications}
pub use Rattle.irq_base.specs.declared.reply.Spent.{Spent}
pub use Rattle.irq_base.specs.declared.shape.Part.TheVariants.{Counters, Ioapic, Lapic, Pic, Registry, Tick}
pub use Rattle.irq_base.specs.declared.shape.Part.{Part}
pub use Rattle.irq_base.specs.declared.shape.Shape.{Shape}
pub use Rattle.irq_base.specs.declared.status.Cause.TheVariants.{BadVector, Masked, Mode as BadMode, NoProcessor}
pub use Rattle.irq_base.specs.declared.status.Cause.{Cause}
pub use Rattle.irq_base.specs.declared.status.Status.TheVariants.{Ignored, Lowered}
pub use Rattle.irq_base.specs.declared.status.Status.{Status}
pub use Rattle.irq_bits.specs.InverseLemmas.{mod_small}
pub use Rattle.irq_bits.specs.Members.{Numbers, greatest_vector, set_below}
pub use Rattle.irq_bits.specs.SetLemmas.{contains-insert_number, contains-set_below, same_members-is}
pub use Rattle.irqfd_set.specs.Rows.{has_resampler, has_trigger, is_named, named_row, of_trigger, resamples, with_row, without_row}
pub use Rattle.irqfd_set.specs.declared.irqfds.Irqfd.{Irqfd}
pub use Rattle.lapic.specs.Messages.{accepted, is_nmi, is_taken, with_error, with_request}
pub use Rattle.lapic.specs.Offsets.{effect_at, load_of, store_effect, store_to, stored_at}
pub use Rattle.lapic.specs.Priority.{ended, giveable_of, given, without_service}
pub use Rattle.lapic.specs.Registers.{LocalApic, is_enabled, power_on, row_for}
unfoldable pub use Rattle.lapic.specs.Registers.{all_registers, register_at}
pub use Rattle.lapic.specs.declared.outcome.Effect.{Effect as LapicEffect}
pub use Rattle.lapic.specs.declared.outcome.Shorthand.TheVariants.{All as AllIncluded, Field, Others, OwnOnly}
pub use Rattle.lapic.specs.declared.outcome.Shorthand.{Shorthand}
pub use Rattle.msi_decode.specs.Messages.{message_in}
pub use Rattle.pic_8259a.specs.Accesses.{Effect, Read, level_acknowledged, outcome_of as chip_outcome}
pub use Rattle.pic_8259a.specs.Pair.{Cycle, acked_pins, cycle, cycle_by, has_output, is_port, master_top, pair_at_power_on, pin_outcome, read_from as pair_read_from, slave_cycle, slave_pin, write_to as pair_write_to}
pub use Rattle.pic_8259a.specs.Priority.{top_of}
pub use Rattle.pic_8259a.specs.declared.chip.Chip.{Chip}
pub use Rattle.pic_8259a.specs.declared.chip.PinOutcome.{PinOutcome}
pub use Rattle.pic_8259a.specs.declared.chip.Place.TheVariants.{Slave}
pub use Rattle.pic_8259a.specs.declared.pair.Pair.{Pair}
pub use Rattle.resampler.specs.Resample.{resample_events, resample_of, resampled}
pub use Rattle.route_table.proofs.DefaultLaws.{default_rows-kept}
pub use Rattle.route_table.proofs.Filled.{sends_to_routes, stands_none}
pub use Rattle.route_table.proofs.Given.{gsi_of_pin, pin_of_gsi}
pub use Rattle.route_table.proofs.Sound.{kept_of, no_reason, sound_of}
pub use Rattle.route_table.proofs.StandingLaws.{stands-snoc}
pub use Rattle.route_table.proofs.TableLaws.{is_same-some, table_in-rows}
unfoldable pub use Rattle.route_table.specs.Defaults.{default_rows, ioapic_rows, pic_rows}
unfoldable pub use Rattle.route_table.specs.Pins.{gsi_of}
pub use Rattle.route_table.specs.Pins.{has_pin}
pub use Rattle.route_table.specs.Rows.{Table, gsi_in, ioapic_in, is_same as is_same_pin, pic_in, refusal_of, row_reasons, table_of, targets_of}
unfoldable pub use Rattle.route_table.specs.Rows.{msi_in, reasons_after}
pub use Rattle.route_table.specs.Standing.{Stands, fits_if, with_owner, word_with}
pub use Rattle.route_table.specs.Words.{is_below, is_route, is_route_of}
pub use Rattle.source_levels.proofs.HoldLemmas.{hold_cmp-IsAntisymmetric, hold_cmp_total, tied_same}
pub use Rattle.source_levels.specs.Holds.{Hold, Holds, hold, hold_cmp, is_high}
pub use Rattle.std.proofs.Common.{All, Any, Bool, Err, IfOk, IfSome, IsTrue, List, None, Ok, Result, Some, [], add-one, ap, append-nil, append_assoc, arith, cond, drop, eqb, false, filter, get_or, if◌then◌else◌, inl, inr, is_some, length, length-append, length-set, map, min, nat_eq, nat_le, nat_lt, not, option_map, refl, replicate, slice_get, slice_index, slice_set, subst, suc, suc-le-suc, sym, take as first_items, true, true≢false, unwrap_or, zero, zero-add, zero-le, ℕ, ◌%◌, ◌&&◌, ◌++◌, ◌+◌, ◌-◌, ◌<◌, ◌^◌, ◌||◌, ◌↔◌, ◌∙◌, ◌∷◌, ◌≡◌, ◌≢◌, ◌≤◌, ◌⊎◌}
pub use Rattle.std.proofs.Math.Seq.{take-suc}
pub use Rattle.std.proofs.lemmas.Bool.Decides.{eqb_tells, leb_tells, nat_tests}
pub use Rattle.std.proofs.lemmas.List.Elements.{All-append, All-cons, All-filter, All-from_recursion, All-head, All-nil, All-push, All-replicate, All-set, All-tail, All-weaker, AllWithin-more, Contains-append_left, Contains-append_right, filter-append, recursion_from_All}
pub use Rattle.std.proofs.lemmas.List.Folds.{list_any-append, list_any-from_Any}
pub use Rattle.std.proofs.lemmas.List.Kept.{AllPairs-filter}
pub use Rattle.std.proofs.lemmas.List.Quantifiers.{all_pairs_push}
pub use Rattle.std.proofs.lemmas.List.Sums.{fold-append, sum_by-cons}
pub use Rattle.std.proofs.lemmas.List.{drop_more, get_or-replicate, get_or_past, length-map, length-replicate, map-append, take_all}
pub use Rattle.std.proofs.lemmas.Map.Keys.{IsDistinct-cons}
pub use Rattle.std.proofs.lemmas.Map.Steps.{length-le_from_distinct_below}
pub use Rattle.std.proofs.lemmas.Option.{get_or_from_slice_get, slice_get_within}
pub use Rattle.std.specs.Cmp.{first_so, nat_cmp_total, second_so, tied_itself, unsigned_Decides, unsigned_tied}
pub use Rattle.std.specs.FinSet.{contains, contains-empty, contains-insert, contains-remove, contains-retain, contains-union, empty, empty_of_len, insert, len-empty, nat_cmp-IsAntisymmetric, remove, retain, same_set, union}
pub use Rattle.std.specs.List.{AllByRecursion, AllWithin, Contains, cons_option, list_all, list_any}
unfoldable pub use Rattle.std.specs.List.{IsDistinct}
pub use Rattle.std.specs.Option.{option_or}
pub use Rattle.std.specs.Ordering.{eq_by_cmp, is_eq, nat_cmp}
pub use Rattle.std.specs.Prelude.{AllPairs, count_by, filter_map, find, ◌==◌}
pub use Rattle.std.specs.declared.option.Option.{Option}
pub use Rattle.tick_reinject.specs.Ticks.{ack_injects, in_mode, is_ignored, tick_acked, tick_injected, tick_injects, ticked}
pub use Rattle.tick_reinject.specs.declared.state.TickState.{TickState}

-- the routing of a board
abbrev pub routing_on : Board → Routing
routing_on b = routing_of_registry b.registry b.shape.tick
