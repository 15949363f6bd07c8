-- A step that is no publication leaves the irqfds and the notifiers.
use Rattle.std.proofs.Common.{◌≡◌, ℕ, Bool, true, false, not, ◌||◌, List, [], ◌∷◌, ◌++◌, refl, sym, ap, ◌∙◌, is_some, Some, None}
use Rattle.std.specs.declared.option.Option.{Option}
use Rattle.irq_base.specs.Refusals.{first_of}
use Rattle.irq_base.specs.declared.call.Call.{Call}
use Rattle.irq_base.specs.declared.call.Call.TheVariants as calls
use Rattle.irq_base.specs.declared.call.Caller.{Caller}
use Rattle.irq_base.specs.declared.lists.Entry.{Entry}
use Rattle.irq_base.specs.declared.refusal.Refusal.{Refusal}
use Rattle.irqfd_set.specs.declared.irqfds.Irqfd.{Irqfd}
use Rattle.irqfd_set.specs.Rows.{named_row}
use Rattle.ack_notifiers.specs.declared.watches.Watch.{Watch}
use Rattle.ioevent_set.specs.declared.row.IoRow.{IoRow}
use Rattle.ioevent_set.specs.Rows.{without_row}
use Rattle.irq_base.specs.declared.reply.Reply.TheVariants.{Done}
use Rattle.irq_base.specs.declared.shape.Part.TheVariants.{Registry}
use Rattle.board_model.specs.Board.{Board}
use Rattle.board_model.specs.Registry.{RegistryPart}
use Rattle.board_model.specs.Routing.{Routing, routing_of_registry}
use Rattle.board_model.specs.Plan.{Plan, set as put_part, reply, ◌>>◌}
use Rattle.board_model.specs.Run.{Wishes, run}
use Rattle.board_raise.proofs.Manner.{Manner, registry_stays}
use Rattle.board_calls.specs.Refusals.{range_reasons, attach_reasons, detach_reasons}
use Rattle.board_calls.specs.Registrations.{unless_refused, deassigned}
use Rattle.board_calls.specs.Calls.{number_of, io_row, plan_in_range}
use Rattle.board_step.specs.Step.{refusal_of, does_publish, publishes_unless, would_publish, plan_on, outcome_of, with_counts, Step}
use Rattle.board_step.proofs.CallManner.{replies_in, writes_in, refuses_in, call_keeps, or_true}
use Rattle.board_step.proofs.Refusing.{refuses_first}

-- the irqfds and the notifiers of a board
abbrev pub registered : Board → List Irqfd × List Watch
registered b = (b.registry.irqfds, b.registry.watches)

counted_registered : (publishes : Bool) (b : Board) → registered (with_counts publishes b) ≡ registered b
counted_registered true b = refl
counted_registered false b = refl

module _ (b : Board) (caller : Caller) (ws : Wishes) where
  abbrev routing : Routing
  routing = routing_of_registry b.registry b.shape.tick

  -- those after a plan are those before it
  abbrev Leaves : Plan (Unit {0}) → Type 0
  Leaves plan = registered (run plan b ws).board ≡ registered b

  -- a refusal leaves them
  unless_leaves : (refused : Option Refusal) (plan : Plan (Unit {0})) → Leaves plan → Leaves (unless_refused refused plan)
  unless_leaves None plan leaves = leaves
  unless_leaves (Some refusal) plan leaves = refl

  -- a call that never writes the registry leaves them
  unwritten : (call : Call) → not (writes_in call) ≡ true → Leaves (plan_on b caller call)
  unwritten call never =
      let w : Manner = record { replies = replies_in call; writes = false; refuses = true } in
      let keeps = call_keeps w routing b.shape caller call refl (record { replies = refl; writes = ap (λ t. t || false) never; refuses = or_true (not (refuses_in call)) }) in
      ap (λ (r : RegistryPart). (r.irqfds, r.watches)) (registry_stays w (plan_on b caller call) b ws refl keeps)

  -- where no row is named, none is removed
  none_removed : (trigger gsi : ℕ) (row : Option Irqfd) → is_some row ≡ false → Leaves (deassigned routing b.registry trigger gsi row)
  none_removed trigger gsi None none = refl
  none_removed trigger gsi (Some row) none = cc

  -- other ioeventfds change none of them
  ioevents_leave : (refused : Option Refusal) (rows : List IoRow) → Leaves (unless_refused refused (put_part Registry (record b.registry { ioevents = rows }) >> reply Done))
  ioevents_leave refused rows = unless_leaves refused (put_part Registry (record b.registry { ioevents = rows }) >> reply Done) refl

  unpublished : (call : Call) → does_publish b call ≡ false → Leaves (plan_on b caller call)
  unpublished (calls.Reroute rows) never = cc
  unpublished (calls.Assign trigger gsi resample) never = cc
  unpublished (calls.Watch counter gsi) never = cc
  unpublished (calls.Unwatch counter gsi) never = cc
  unpublished (calls.Deassign trigger gsi) never = unless_leaves (first_of (range_reasons b.shape (calls.Deassign trigger gsi))) _ (none_removed trigger gsi (named_row b.registry.irqfds trigger gsi) never)
  unpublished (calls.Attach space address len counter want) never = unless_leaves (first_of (range_reasons b.shape (calls.Attach space address len counter want))) (plan_in_range routing b.shape (number_of caller) (calls.Attach space address len counter want))
      (ioevents_leave (first_of (attach_reasons b.registry (io_row space address len counter want))) (b.registry.ioevents ++ io_row space address len counter want ∷ []))
  unpublished (calls.Detach space address len counter want) never = unless_leaves (first_of (range_reasons b.shape (calls.Detach space address len counter want))) (plan_in_range routing b.shape (number_of caller) (calls.Detach space address len counter want))
      (ioevents_leave (first_of (detach_reasons b.registry (io_row space address len counter want))) (without_row b.registry.ioevents (io_row space address len counter want)))
  unpublished call never = unwritten call refl

  -- a call that is refused, or that publishes nothing
  call_leaves : (call : Call) → would_publish b call ≡ false → Leaves (plan_on b caller call)
  call_leaves call never = by_refusal (refusal_of b call) refl never
    where
      by_refusal : (refused : Option Refusal) → refusal_of b call ≡ refused → publishes_unless refused b call ≡ false → Leaves (plan_on b caller call)
      by_refusal None is never = unpublished call never
      by_refusal (Some refusal) is never = ap registered (refuses_first b caller call ws refusal is).board

pub registered_stay : (b : Board) (e : Entry) (c : Board) → Step b e c → would_publish b e.call ≡ false → registered c ≡ registered b
registered_stay b e c s never =
    ap registered (sym s.leads) ∙ counted_registered (would_publish b e.call) (outcome_of b e s.wishes).board ∙ call_leaves b e.caller s.wishes e.call never
