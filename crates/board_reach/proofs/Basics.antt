-- The words of the crates below, and of the definitions here, that the proofs share.
pub use Rattle.ack_notifiers.specs.Rows.{has_watch, watch_events, watched}
pub use Rattle.board_ack.proofs.Counting.{acknowledge_tells}
pub use Rattle.board_ack.specs.Acknowledge.{acknowledge, clear_and_resend, end_level, end_tick, notify, resample, resample_and_notify, resend, say_each, signal_each, tell_concerned}
pub use Rattle.board_ack.specs.OnHand.{entry_ended}
pub use Rattle.board_ack.specs.ReachLaws.{board_by, of_acknowledge, of_acknowledge_each, of_level, of_marked, of_resend, of_tick}
pub use Rattle.board_ack.specs.Ticks.{acknowledge_tick, inject_next, inject_tick}
pub use Rattle.board_calls.specs.Calls.{number_of}
unfoldable pub use Rattle.board_calls.specs.Processors.{all_pins}
pub use Rattle.board_calls.specs.Processors.{cycle_pins, pic_pin, pins_with}
pub use Rattle.board_calls.specs.Refusals.{assign_reasons, is_signalled, is_trigger, range_reasons, resample_clashes}
pub use Rattle.board_model.proofs.Sequence.{run-bind}
pub use Rattle.board_model.proofs.Staying.{unreached_stays}
pub use Rattle.board_model.specs.Board.{Board, is_same, part_of, with_part}
pub use Rattle.board_model.specs.Chips.{IoapicPart, ioapic_of, pair_of, with_ioapic}
pub use Rattle.board_model.specs.Hand.{Parts, all_parts}
pub use Rattle.board_model.specs.Plan.{About, Plan, answer, change, choose, done, injected, look, put, resent, tell, the_reply, ◌>>=◌, ◌>>◌}
pub use Rattle.board_model.specs.Published.{IsSoundRegistry, IsSoundTable}
pub use Rattle.board_model.specs.Registry.{RegistryPart}
pub use Rattle.board_model.specs.Routing.{Routing, routing_of_registry}
pub use Rattle.board_model.specs.Run.{Outcome, Wishes, later_wishes, next_wish, reaches, run}
pub use Rattle.board_model.specs.Statuses.{TargetAnswer, nobody, status_of}
pub use Rattle.board_model.specs.declared.trigger.TriggerWord.{TriggerWord}
pub use Rattle.board_raise.proofs.Reaching.{sends_reach}
pub use Rattle.board_raise.specs.Fit.{Fits, IrqfdFits, RegistrationsFit}
pub use Rattle.board_raise.specs.InHand.{chips_of, ioapic_of as ioapic_at_hand, parts_of, pic_of, registry_of}
pub use Rattle.board_raise.specs.ReachLaws.{is_of_one, of_answer, of_message, of_other, of_pin}
pub use Rattle.board_raise.specs.Send.{numbers_below, only, reached_by, send, show}
pub use Rattle.board_raise.specs.Signal.{accept_pin, answer_shown, inject, ioapic_answered, ioapic_let_go, ioapic_raised, is_accepted, let_go, let_go_after, raise, raise_other, raise_pic}
pub use Rattle.board_raise.specs.declared.parts.Parts.{Parts as CodeParts}
pub use Rattle.board_step.specs.Reach.{reach}
pub use Rattle.board_reach.specs.ReachNow.{ReachIsNow, cleared, freed, of_acknowledge_now, of_acknowledges_now, part_cleared, part_freed, pin_freed, reach_now}
pub use Rattle.board_reach.specs.Seen.{PartsFit, SeenFits, board_seen, if_of, is_ended, is_free, is_trigger_in, routing_seen}
pub use Rattle.board_step.specs.Step.{plan_on}
pub use Rattle.board_step.specs.Sound.{IsSound}
pub use Rattle.board_step.specs.Whole.{IsWhole, board_of}
pub use Rattle.ioapic_82093aa.specs.Entries.{entry_at_power_on, message_of}
pub use Rattle.ioapic_82093aa.specs.Pins.{entry_at, has_vector, pin_accepted, pin_acked, raise_of, resend_of}
pub use Rattle.ioapic_82093aa.specs.declared.entry.Entry.{Entry as IoEntry}
pub use Rattle.ioapic_82093aa.specs.declared.ioapic.Ioapic.{Ioapic as IoapicChip}
pub use Rattle.ioapic_82093aa.specs.declared.ioapic.Raise.{Raise}
pub use Rattle.irq_base.specs.Counts.{signalled_all}
pub use Rattle.irq_base.specs.Refusals.{first_of}
pub use Rattle.irq_base.specs.declared.call.Call.{Call}
pub use Rattle.irq_base.specs.declared.call.Caller.{Caller}
pub use Rattle.irq_base.specs.declared.call.Space.{Space}
pub use Rattle.irq_base.specs.declared.event.Event.{Event}
pub use Rattle.irq_base.specs.declared.event.Pin.{Pin}
pub use Rattle.irq_base.specs.declared.message.Message.{Message}
pub use Rattle.irq_base.specs.declared.message.MsiWord.{MsiWord}
pub use Rattle.irq_base.specs.declared.message.Source.TheVariants.{Resample, Tick as TickSource}
pub use Rattle.irq_base.specs.declared.message.Source.{Source}
pub use Rattle.irq_base.specs.declared.refusal.Refusal.TheVariants.{Busy, RoleClash}
pub use Rattle.irq_base.specs.declared.shape.Part.TheVariants.{Counters, Ioapic, Lapic, Pic, Registry, Tick}
pub use Rattle.irq_base.specs.declared.shape.Part.{Part}
pub use Rattle.irq_base.specs.declared.shape.Shape.{Shape}
pub use Rattle.irq_bits.specs.SetLemmas.{contains-set_below}
pub use Rattle.irqfd_set.specs.Rows.{has_resampler, has_trigger, is_named, named_row, of_trigger, resamples, without_row}
pub use Rattle.irqfd_set.specs.declared.irqfds.Irqfd.{Irqfd}
pub use Rattle.lapic.specs.declared.outcome.Effect.{Effect as LapicEffect}
pub use Rattle.msi_decode.specs.Messages.{message_in}
pub use Rattle.pic_8259a.specs.Accesses.{level_acknowledged}
pub use Rattle.pic_8259a.specs.Pair.{acked_pins, cycle, cycle_by, master_top, slave_cycle, slave_pin}
pub use Rattle.pic_8259a.specs.Priority.{top_of}
pub use Rattle.pic_8259a.specs.declared.chip.Place.TheVariants.{Slave}
pub use Rattle.pic_8259a.specs.declared.pair.Pair.{Pair}
pub use Rattle.resampler.specs.Resample.{resample_events, resampled}
pub use Rattle.route_table.proofs.Given.{gsi_of_pin}
pub use Rattle.route_table.proofs.Sound.{sound_of}
pub use Rattle.route_table.proofs.TableLaws.{is_same-some}
unfoldable pub use Rattle.route_table.specs.Pins.{gsi_of}
pub use Rattle.route_table.specs.Pins.{has_pin}
pub use Rattle.route_table.specs.Rows.{Table, is_same as is_same_pin, targets_of}
pub use Rattle.source_levels.proofs.HoldLemmas.{held_where_high, high_where_held, hold_cmp_total}
pub use Rattle.source_levels.specs.Holds.{Holds, hold, hold_cmp, is_high}
pub use Rattle.std.proofs.Common.{All, Bool, IfSome, List, None, Some, [], ap, arith, cond, false, filter, if◌then◌else◌, inl, inr, is_some, length, map, nat_eq, nat_lt, not, option_map, refl, slice_index_or, slice_set, subst, suc, sym, true, true≢false, unwrap_or, zero, ℕ, ◌&&◌, ◌++◌, ◌+◌, ◌<◌, ◌^◌, ◌||◌, ◌∙◌, ◌∷◌, ◌≡◌, ◌≤◌, ◌⊎◌}
pub use Rattle.std.proofs.lemmas.Bool.Decides.{nat_tests}
pub use Rattle.std.proofs.lemmas.List.Elements.{All-head, All-tail}
pub use Rattle.std.specs.Cmp.{unsigned_Decides}
pub use Rattle.std.specs.FinSet.{contains, contains-insert, contains-remove}
pub use Rattle.std.specs.List.{list_all, list_any}
pub use Rattle.std.specs.Ordering.{eq_by_cmp}
pub use Rattle.std.specs.Prelude.{AllPairs, find}
pub use Rattle.std.specs.declared.option.Option.{Option}
pub use Rattle.tick_reinject.specs.Ticks.{ack_injects, tick_acked, tick_injected}
