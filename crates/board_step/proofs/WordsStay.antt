-- A step that is no publication leaves the published words.
use Rattle.board_step.proofs.Basics.{routing_on, ◌≡◌, ℕ, Bool, true, false, not, ◌||◌, List, [], ◌∷◌, ◌++◌, refl, sym, ap, ◌∙◌, Some, None, Option, first_of, Call, Caller, Entry, Refusal, Irqfd, IoRow, Done, Registry, named_row, Board, published, Plan, reply, ◌>>◌, Wishes, run, range_reasons, attach_reasons, detach_reasons, unless_refused, deassigned, number_of, io_row, plan_in_range, is_some, without_ioevent as without_row, set as put_part, frame_stays, Manner, registry_stays, refusal_on as refusal_of, does_publish, publishes_unless, would_publish, plan_on, outcome_of, with_counts, Step}
use Rattle.board_step.proofs.CallManner.{replies_in, writes_in, refuses_in, call_keeps, or_true}
use Rattle.board_step.proofs.Refusing.{refuses_first}

-- the published words of a board
abbrev words : Board → List ℕ
words b = published b.registry b.shape.tick

counted_words : (publishes : Bool) (b : Board) → words (with_counts publishes b) ≡ words b
counted_words true b = refl
counted_words false b = refl

module _ (b : Board) (caller : Caller) (ws : Wishes) where
  -- the words after a plan are those before it
  abbrev Leaves : Plan (Unit {0}) → Type 0
  Leaves plan = words (run plan b ws).board ≡ words b

  -- a refusal leaves them
  unless_leaves : (refused : Option Refusal) (plan : Plan (Unit {0})) → Leaves plan → Leaves (unless_refused refused plan)
  unless_leaves None plan leaves = leaves
  unless_leaves (Some refusal) plan leaves = refl

  -- a call that never writes the registry leaves them
  unwritten : (call : Call) → not (writes_in call) ≡ true → Leaves (plan_on b caller call)
  unwritten call never =
      let w : Manner = record { replies = replies_in call; writes = false; refuses = true } in
      let keeps = call_keeps w (routing_on b) b.shape caller call refl (record { replies = refl; writes = ap (λ t. t || false) never; refuses = or_true (not (refuses_in call)) }) in
      ap (λ r. published r (run (plan_on b caller call) b ws).board.shape.tick) (registry_stays w (plan_on b caller call) b ws refl keeps)
      ∙ ap (λ s. published b.registry s.tick) (frame_stays (plan_on b caller call) b ws).shape

  -- where no row is named, none is removed
  none_removed : (trigger gsi : ℕ) (row : Option Irqfd) → is_some row ≡ false → Leaves (deassigned (routing_on b) b.registry trigger gsi row)
  none_removed trigger gsi None none = refl
  none_removed trigger gsi (Some row) none = cc

  -- other ioeventfds change no word
  ioevents_leave : (refused : Option Refusal) (rows : List IoRow) → Leaves (unless_refused refused (put_part Registry (record b.registry { ioevents = rows }) >> reply Done))
  ioevents_leave refused rows = unless_leaves refused (put_part Registry (record b.registry { ioevents = rows }) >> reply Done) refl

  unpublished : (call : Call) → does_publish b call ≡ false → Leaves (plan_on b caller call)
  unpublished (Call.Reroute rows) never = cc
  unpublished (Call.Assign trigger gsi resample) never = cc
  unpublished (Call.Watch counter gsi) never = cc
  unpublished (Call.Unwatch counter gsi) never = cc
  unpublished (Call.Deassign trigger gsi) never = unless_leaves (first_of (range_reasons b.shape (Call.Deassign trigger gsi))) _ (none_removed trigger gsi (named_row b.registry.irqfds trigger gsi) never)
  unpublished (Call.Attach space address len counter want) never = unless_leaves (first_of (range_reasons b.shape (Call.Attach space address len counter want))) (plan_in_range (routing_on b) b.shape (number_of caller) (Call.Attach space address len counter want))
      (ioevents_leave (first_of (attach_reasons b.registry (io_row space address len counter want))) (b.registry.ioevents ++ io_row space address len counter want ∷ []))
  unpublished (Call.Detach space address len counter want) never = unless_leaves (first_of (range_reasons b.shape (Call.Detach space address len counter want))) (plan_in_range (routing_on b) b.shape (number_of caller) (Call.Detach space address len counter want))
      (ioevents_leave (first_of (detach_reasons b.registry (io_row space address len counter want))) (without_row b.registry.ioevents (io_row space address len counter want)))
  unpublished call never = unwritten call refl

  -- a call that is refused, or that publishes nothing
  call_leaves : (call : Call) → would_publish b call ≡ false → Leaves (plan_on b caller call)
  call_leaves call never = by_refusal (refusal_of b call) refl never
    where
      by_refusal : (refused : Option Refusal) → refusal_of b call ≡ refused → publishes_unless refused b call ≡ false → Leaves (plan_on b caller call)
      by_refusal None is never = unpublished call never
      by_refusal (Some refusal) is never = ap words (refuses_first b caller call ws refusal is).board

pub words_stay : (b : Board) (e : Entry) (c : Board) → Step b e c → would_publish b e.call ≡ false → words c ≡ words b
words_stay b e c s never =
    ap words (sym s.leads) ∙ counted_words (would_publish b e.call) (outcome_of b e s.wishes).board ∙ call_leaves b e.caller s.wishes e.call never
