-- The calls that answer no status: every call but a line, a message, a write and a tick.
use Rattle.board_laws.proofs.Basics.{Walk, Holds, Shows, end_level_holds, tells_by, Ends, acks_hold, inject_tick_holds, Open, of_log, open_signals, open_shows, open_raise, open_accesses, open_rings, is_signal, Accesses, count_holds, inject_count_holds, rung_holds, take_holds, assign_holds, deassign_holds, reroute_holds, attach_holds, detach_holds, watch_holds, unwatch_holds, tick_mode_holds, port_out_holds, port_in_holds, store_holds, load_holds, next_holds, inta_holds, eoi_holds, ◌≡◌, ℕ, Bool, true, false, if◌then◌else◌, List, [], ◌∷◌, refl, ap, true≢false, None, ◌++◌, Option, Call, Reply, Shape, Routing, About, injected, resent, ipi, the_reply, reply, next_wish, later_wishes, resample, write, rung, io_row, plan_in_range, in_reply, replies_in}

-- whether some reply is a status
abbrev pub some_status : List Reply → Bool
some_status [] = false
some_status (r ∷ rs) = if is_signal r then true else some_status rs

pub none_of_both : (xs ys : List Reply) → some_status xs ≡ false → some_status ys ≡ false → some_status (xs ++ ys) ≡ false
none_of_both [] ys h k = k
none_of_both (r ∷ rs) ys h k = elim (is_signal r) as (λ t. (if t then true else some_status rs) ≡ false → (if t then true else some_status (rs ++ ys)) ≡ false) [
  | true ↦ λ never. absurd (true≢false never)
  | false ↦ λ rest. none_of_both rs ys rest k
] h

-- no reply is a status
abbrev pub mute : Walk
mute = of_log (λ l. some_status l.answers ≡ false) refl (λ a c h k. none_of_both a.answers c.answers h k)

is_open : Open mute
is_open = record { counters = λ v b fit. tt; pic = λ v b fit. tt; ioapic = λ v b fit. tt; lapic = λ n v b fit. tt }

replies : (r : Reply) → is_signal r ≡ false → Holds mute (reply r)
replies r plain b ws fit = ap (λ t. if t then true else false) plain

-- a status may show in an event
shows : {cpus : ℕ} (about : About) → in_reply about ≡ false → Shows mute cpus about
shows (the_reply pic) e = absurd (true≢false e)
shows about e = open_shows mute is_open about (λ other b ws fit. refl) (λ m g k h b ws fit. h (g (next_wish ws)) b (later_wishes ws) tt)

module _ (routing : Routing) (shape : Shape) where
  ends : Ends mute routing shape
  ends = record {
    levels = end_level_holds mute shape.cpus (open_signals mute is_open) (λ pin. shows (resent pin) refl) (λ pin b fit. tt);
    frees = λ b fit. tt;
    ticks = inject_tick_holds mute routing shape (open_signals mute is_open) (open_raise mute is_open _ _) (λ status b fit. tt) (λ pic. injected shape.tick pic) (λ pic. shows (injected shape.tick pic) refl);
  }

  accesses : Accesses mute routing shape
  accesses = open_accesses mute is_open routing shape replies (acks_hold mute routing shape (λ pin b ws fit. refl) (open_signals mute is_open) (tells_by mute (λ counter b ws fit. refl) (λ counter b ws fit. refl) (λ registry gsi seen b fit. tt) (λ registry gsi seen b fit. tt)) ends) (λ pin. shows (resent pin) refl) (shows ipi refl)

  rings : (counter : Option ℕ) → Holds mute (rung routing shape counter)
  rings = rung_holds mute routing shape (open_signals mute is_open) (open_rings mute is_open routing shape replies (λ counter b ws fit. refl) (λ gsi pic. shows (injected gsi pic) refl)) replies

  -- a count that is written answers no status
  pub count_mute : (counter n : ℕ) → Holds mute (write routing shape None counter n)
  count_mute counter n = count_holds mute routing shape replies counter n (λ b fit none. tt)

  -- each call whose sendings do not show in the reply
  pub call_mute : (n : ℕ) (call : Call) → replies_in call ≡ false → Holds mute (plan_in_range routing shape n call)
  call_mute n (Call.Take counter) e = take_holds mute routing shape replies counter (λ b fit. tt)
  call_mute n (Call.Assign trigger gsi resample) e = assign_holds mute routing shape replies (λ r b fit. tt) trigger gsi resample (λ counts b fit. tt)
      (inject_count_holds mute routing shape (open_signals mute is_open) gsi resample (open_raise mute is_open _ _) (λ pic. shows (injected gsi pic) refl))
  call_mute n (Call.Deassign trigger gsi) e = deassign_holds mute routing shape replies (λ r b fit. tt) (open_signals mute is_open) trigger gsi
  call_mute n (Call.Reroute rows) e = reroute_holds mute routing shape replies (λ r b fit. tt) (λ holds b fit. tt) (λ holds b fit. tt) rows
  call_mute n (Call.Attach space address len counter want) e = attach_holds mute routing shape replies (λ r b fit. tt) (io_row space address len counter want)
  call_mute n (Call.Detach space address len counter want) e = detach_holds mute routing shape replies (λ r b fit. tt) (io_row space address len counter want)
  call_mute n (Call.Watch counter gsi) e = watch_holds mute routing shape replies (λ r b fit. tt) counter gsi
  call_mute n (Call.Unwatch counter gsi) e = unwatch_holds mute routing shape replies (λ r b fit. tt) counter gsi
  call_mute n (Call.TickMode reinject) e = tick_mode_holds mute routing shape replies reinject (λ b fit. tt)
  call_mute n (Call.PortOut port len value) e = port_out_holds mute routing shape accesses rings port len value
  call_mute n (Call.PortIn port len) e = port_in_holds mute routing shape accesses port len
  call_mute n (Call.Store address len value) e = store_holds mute routing shape accesses rings n address len value
  call_mute n (Call.Load address len) e = load_holds mute routing shape accesses n address len
  call_mute n Call.Ack e = next_holds mute routing shape accesses (λ n b fit. tt) (λ n b fit. tt) n
  call_mute n Call.Inta e = inta_holds mute routing shape accesses
  call_mute n Call.Eoi e = eoi_holds mute routing shape accesses n
  call_mute n _ e = absurd (true≢false e)
