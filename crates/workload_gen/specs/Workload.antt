-- Generated scripts, as a function of three numbers: where the draws start, how many lines are drawn, and how many processors
-- there are (this board's own rule; the draws are those of PCG XSH RR 64/32).
use Rattle.std.specs.Prelude.{ℕ, zero, suc, ◌+◌, ◌-◌, ◌*◌, ◌/◌, ◌%◌, true, nat_eq, nat_lt, List, [], ◌∷◌, ◌++◌, if◌then◌else◌, None}
use Rattle.irq_base.specs.declared.call.Call.{Call}
use Rattle.irq_base.specs.declared.call.Call.TheVariants.{Line, Msi, Write, Take, Assign, Reroute, Store, Load, Ack, Eoi}
use Rattle.irq_base.specs.declared.call.Caller.{Caller}
use Rattle.irq_base.specs.declared.call.Caller.TheVariants.{Device, Cpu}
use Rattle.irq_base.specs.declared.call.Row.{Row}
use Rattle.irq_base.specs.declared.call.Row.TheVariants as rows
use Rattle.irq_base.specs.declared.shape.Shape.{Shape}
use Rattle.script_text.specs.declared.task.Task.TheVariants.{Once}
use Rattle.script_text.specs.declared.task.ActorLine.{ActorLine}
use Rattle.script_text.specs.Scripts.{Script}
use Rattle.rand_pcg.specs.Lcg.{Lcg, started, increment_of}
use Rattle.rand_pcg.specs.Pcg.{multiplier_64, pcg32}

-- f of each number below n, in order
unfoldable pub each_below : {A : Type 0} → (ℕ → A) → ℕ → List A
each_below f zero = []
each_below f (suc n) = each_below f n ++ f n ∷ []

-- a line that asks one call
abbrev pub asks : Caller → Call → ActorLine
asks who call = record { caller = who; task = Once call }

-- the address of a message to processor n, by its physical number (SDM volume 3, message address register)
abbrev pub message_address : ℕ → ℕ
message_address n = 0xfee00000 + 0x1000 * n

-- ---- the lines that set up, on c processors

-- a processor enables its local APIC: bit 8 of SVR is set, with vector ffh
abbrev pub enable : ℕ → ActorLine
enable n = asks (Cpu n) (Store 0xfee000f0 4 0x1ff)

-- the row j of turn s: GSI 24 + j goes to processor j + s, counted round, with vector 50h + j
abbrev pub row : ℕ → ℕ → ℕ → Row
row c s j = rows.Msi (24 + j) (message_address ((j + s) % c)) (0x50 + j)

-- the eight rows of a turn become the routing table
abbrev pub reroute : ℕ → ℕ → Call
reroute c s = Reroute (each_below (row c s) 8)

-- counter j becomes the trigger of GSI 24 + j
abbrev pub trigger : ℕ → ActorLine
trigger j = asks (Device 0) (Assign j (24 + j) None)

-- each processor is enabled, the table of turn 0 is set, and the eight GSIs get their triggers
abbrev pub set_up : ℕ → List ActorLine
set_up c = each_below enable c ++ (asks (Device 0) (reroute c 0) ∷ each_below trigger 8)

-- ---- the lines that are drawn

-- the draws are the words of a generator of that start and of stream 54
abbrev pub draws_from : ℕ → Lcg
draws_from start = started 64 multiplier_64 start (increment_of 64 54)

-- a call that needs no further draw, with the generator that is left
abbrev pub alone : Call → Lcg → Call × Lcg
alone call g = (call, g)

-- a call that is made of one more draw, with the generator that is left
abbrev pub of_draw : (ℕ → Call) → Lcg → Call × Lcg
of_draw call g = (call (pcg32 g).0, (pcg32 g).1)

-- a message of a draw: to any processor, by any of 200 vectors from 32 on
abbrev pub message : ℕ → ℕ → Call
message c x = Msi (message_address (x % c)) (32 + x / 65536 % 200)

-- what a processor asks, by a draw of 0 to 3
abbrev pub processor_call : ℕ → ℕ → Lcg → Call × Lcg
processor_call c r =
    if nat_eq r 0 then alone Ack
    else if nat_eq r 1 then alone Eoi
    else if nat_eq r 2 then of_draw (message c)
    else alone (Load 0xfee000a0 4)

-- what a device asks, by a draw of 0 to 3
abbrev pub device_call : ℕ → ℕ → Lcg → Call × Lcg
device_call c r =
    if nat_eq r 0 then of_draw (message c)
    else if nat_eq r 1 then of_draw (λ x. Write (x % 16) 1)
    else if nat_eq r 2 then of_draw (λ x. Take (x % 16))
    else of_draw (λ x. Line (24 + x % 8) 0 true)

-- what an actor asks by a draw of 0 to 3
abbrev pub call_of : Caller → ℕ → ℕ → Lcg → Call × Lcg
call_of (Cpu n) c r = processor_call c r
call_of (Device d) c r = device_call c r

-- the actors take turns: the c processors, and then devices 0 and 1
abbrev pub actor : ℕ → ℕ → Caller
actor c k = let a = k % (c + 2) in if nat_lt a c then Cpu a else Device (a - c)

-- what line k asks, with the generator that is left: every thousandth line reroutes and draws nothing
abbrev pub drawn : ℕ → ℕ → Lcg → Call × Lcg
drawn c k g =
    if nat_eq (k % 1000) 999 then alone (reroute c ((k + 1) / 1000)) g
    else call_of (actor c k) c ((pcg32 g).0 % 4) (pcg32 g).1

-- the generator as line k finds it: each line goes on where the line before it left off
unfoldable pub draws_at : ℕ → ℕ → ℕ → Lcg
draws_at start c zero = draws_from start
draws_at start c (suc k) = (drawn c k (draws_at start c k)).1

-- line k
abbrev pub drawn_line : ℕ → ℕ → ℕ → ActorLine
drawn_line start c k = asks (actor c k) (drawn c k (draws_at start c k)).0

-- ---- the script

-- c processors, 16 counters and room for 2,000,000 calls
abbrev pub shape_of : ℕ → Shape
shape_of c = record { cpus = c; counters = 16; tick = 0; calls = 2000000; publications = 1048576 }

-- the script of these three numbers: start, lines, processors
unfoldable pub workload : ℕ → ℕ → ℕ → Script
workload start n c = record { shape = shape_of c; lines = set_up c ++ each_below (drawn_line start c) n }
