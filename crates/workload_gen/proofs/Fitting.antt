-- A generated script is a script of the grammar.
use Rattle.std.proofs.Common.{◌≡◌, ℕ, ◌+◌, ◌-◌, ◌/◌, ◌%◌, ◌^◌, ◌<◌, ◌≤◌, Bool, true, false, not, nat_eq, nat_lt, ◌&&◌, ◌∷◌, ◌++◌, if◌then◌else◌, None, refl, ap, ◌∙◌, All, arith}
use Rattle.std.proofs.lemmas.Bool.Decides.{nat_tests}
use Rattle.std.proofs.lemmas.List.Elements.{All-cons}
use Rattle.irq_base.specs.declared.call.Call.{Call}
use Rattle.irq_base.specs.declared.call.Call.TheVariants.{Line, Write, Take, Assign, Store, Load, Ack, Eoi}
use Rattle.irq_base.specs.declared.call.Caller.{Caller}
use Rattle.irq_base.specs.declared.call.Caller.TheVariants.{Device, Cpu}
use Rattle.irq_base.specs.Callers.{is_allowed, is_of_processor}
use Rattle.script_text.specs.Fitting.{FitsRow, FitsCall, IsLine, IsScript}
use Rattle.rand_pcg.specs.Lcg.{Lcg}
use Rattle.rand_pcg.specs.Pcg.{pcg32}
use Rattle.workload_gen.specs.Workload.{asks, alone, of_draw, each_below, enable, row, reroute, trigger, set_up, message, processor_call, device_call, call_of, actor, drawn, draws_at, drawn_line, shape_of, workload}
use Rattle.workload_gen.specs.Laws.{IsInRange}
use Rattle.workload_gen.proofs.Below.{all-append, each-holds}
use Rattle.irq_bits.specs.declared.limits.TheConstants.{MAX_CPUS}
use Rattle.irq_base.specs.declared.limits.TheConstants.{MAX_DEVICES}

-- a remainder is below what it is of
below-cpus : (x c : ℕ) → 1 ≤ c → x % c < c
below-cpus x c h = omega (arith, h)

row-fits : (c s j : ℕ) → 1 ≤ c → c ≤ MAX_CPUS → j < 8 → FitsRow (row c s j)
row-fits c s j some few below =
    let r = below-cpus (j + s) c some in
    (omega (arith, below), omega (arith, r, few), omega (arith, below))

reroute-fits : (c s : ℕ) → 1 ≤ c → c ≤ MAX_CPUS → FitsCall (reroute c s)
reroute-fits c s some few = each-holds FitsRow (row c s) 8 (λ j below. row-fits c s j some few below)

message-fits : (c x : ℕ) → 1 ≤ c → c ≤ MAX_CPUS → FitsCall (message c x)
message-fits c x some few =
    let r = below-cpus x c some in
    let v = below-cpus (x / 65536) 200 (omega arith) in
    (omega (arith, r, few), omega (arith, v))

-- a line of one call, where the actor is there and may ask it
abbrev Fits : ℕ → Caller → Call → Type 0
Fits c who call = IsLine (shape_of c) (asks who call)

cpu-line : (c n : ℕ) (call : Call) → c ≤ MAX_CPUS → n < c → FitsCall call → is_allowed (Cpu n) call (shape_of c) ≡ nat_lt n c → Fits c (Cpu n) call
cpu-line c n call few below fits allowed = (omega (arith, few, below), fits, allowed ∙ true-is n c below)
  where
    true-is : (n c : ℕ) → n < c → nat_lt n c ≡ true
    true-is n c h = grind (arith, nat_tests, h)

device-line : (c d : ℕ) (call : Call) → d < 2 → FitsCall call → is_of_processor call ≡ false → Fits c (Device d) call
device-line c d call below fits free = (omega (arith, below), fits, ap (λ t. nat_lt d MAX_DEVICES && not t) free ∙ true-is d below)
  where
    true-is : (d : ℕ) → d < 2 → (nat_lt d MAX_DEVICES && true) ≡ true
    true-is d h = grind (arith, nat_tests, h)

-- a processor's and a device's draws
cpu-draw : (c n r : ℕ) (g : Lcg) → 1 ≤ c → c ≤ MAX_CPUS → n < c → Fits c (Cpu n) (processor_call c r g).0
cpu-draw c n r g some few below =
    elim (nat_eq r 0) as (λ t. Fits c (Cpu n) ((if t then alone Ack else (if nat_eq r 1 then alone Eoi else (if nat_eq r 2 then of_draw (message c) else alone (Load 0xfee000a0 4)))) g).0) [
      | true ↦ cpu-line c n Ack few below tt refl
      | false ↦ elim (nat_eq r 1) as (λ t. Fits c (Cpu n) ((if t then alone Eoi else (if nat_eq r 2 then of_draw (message c) else alone (Load 0xfee000a0 4))) g).0) [
        | true ↦ cpu-line c n Eoi few below tt refl
        | false ↦ elim (nat_eq r 2) as (λ t. Fits c (Cpu n) ((if t then of_draw (message c) else alone (Load 0xfee000a0 4)) g).0) [
          | true ↦ cpu-line c n (message c (pcg32 g).0) few below (message-fits c (pcg32 g).0 some few) refl
          | false ↦ cpu-line c n (Load 0xfee000a0 4) few below (omega arith, omega arith) refl
        ]
      ]
    ]

device-draw : (c d r : ℕ) (g : Lcg) → 1 ≤ c → c ≤ MAX_CPUS → d < 2 → Fits c (Device d) (device_call c r g).0
device-draw c d r g some few below =
    let x = (pcg32 g).0 in
    let counter : x % 16 < 2 ^ 16 = omega arith in
    let gsi : 24 + x % 8 < 2 ^ 16 = omega arith in
    elim (nat_eq r 0) as (λ t. Fits c (Device d) ((if t then of_draw (message c) else (if nat_eq r 1 then of_draw (λ x. Write (x % 16) 1) else (if nat_eq r 2 then of_draw (λ x. Take (x % 16)) else of_draw (λ x. Line (24 + x % 8) 0 true)))) g).0) [
      | true ↦ device-line c d (message c x) below (message-fits c x some few) refl
      | false ↦ elim (nat_eq r 1) as (λ t. Fits c (Device d) ((if t then of_draw (λ x. Write (x % 16) 1) else (if nat_eq r 2 then of_draw (λ x. Take (x % 16)) else of_draw (λ x. Line (24 + x % 8) 0 true))) g).0) [
        | true ↦ device-line c d (Write (x % 16) 1) below (counter, omega arith) refl
        | false ↦ elim (nat_eq r 2) as (λ t. Fits c (Device d) ((if t then of_draw (λ x. Take (x % 16)) else of_draw (λ x. Line (24 + x % 8) 0 true)) g).0) [
          | true ↦ device-line c d (Take (x % 16)) below counter refl
          | false ↦ device-line c d (Line (24 + x % 8) 0 true) below (gsi, omega arith) refl
        ]
      ]
    ]

-- an actor is a processor that is there, or device 0 or 1
pub actor-holds : (P : Caller → Type 0) (c k : ℕ) → ((n : ℕ) → n < c → P (Cpu n)) → ((d : ℕ) → d < 2 → P (Device d)) → P (actor c k)
actor-holds P c k cpus devices = by_test (nat_lt (k % (c + 2)) c) refl
  where
    by_test : (t : Bool) → nat_lt (k % (c + 2)) c ≡ t → P (if t then Cpu (k % (c + 2)) else Device (k % (c + 2) - c))
    by_test true h = cpus (k % (c + 2)) (grind (arith, nat_tests, h))
    by_test false h = devices (k % (c + 2) - c) (small (k % (c + 2)) c (below-cpus k (c + 2) (omega arith)) h)
      where
        small : (a c : ℕ) → a < c + 2 → nat_lt a c ≡ false → a - c < 2
        small a c below h = grind (arith, nat_tests, below, h)

drawn-fits : (c k : ℕ) (g : Lcg) → 1 ≤ c → c ≤ MAX_CPUS → Fits c (actor c k) (drawn c k g).0
drawn-fits c k g some few =
    elim (nat_eq (k % 1000) 999) as (λ t. Fits c (actor c k) (if t then alone (reroute c ((k + 1) / 1000)) g else call_of (actor c k) c ((pcg32 g).0 % 4) (pcg32 g).1).0) [
      | true ↦ actor-holds (λ who. Fits c who (reroute c ((k + 1) / 1000))) c k
          (λ n below. cpu-line c n (reroute c ((k + 1) / 1000)) few below (reroute-fits c ((k + 1) / 1000) some few) refl)
          (λ d below. device-line c d (reroute c ((k + 1) / 1000)) below (reroute-fits c ((k + 1) / 1000) some few) refl)
      | false ↦ actor-holds (λ who. Fits c who (call_of who c ((pcg32 g).0 % 4) (pcg32 g).1).0) c k
          (λ n below. cpu-draw c n ((pcg32 g).0 % 4) (pcg32 g).1 some few below)
          (λ d below. device-draw c d ((pcg32 g).0 % 4) (pcg32 g).1 some few below)
    ]

-- the lines that set up
set_up-fits : (c : ℕ) → 1 ≤ c → c ≤ MAX_CPUS → All (IsLine (shape_of c)) (set_up c)
set_up-fits c some few =
    all-append (IsLine (shape_of c)) (each_below enable c) (asks (Device 0) (reroute c 0) ∷ each_below trigger 8)
    (each-holds (IsLine (shape_of c)) enable c (λ n below. cpu-line c n (Store 0xfee000f0 4 0x1ff) few below (omega arith, omega arith, omega arith) refl))
    (All-cons (IsLine (shape_of c)) (asks (Device 0) (reroute c 0)) (each_below trigger 8) (device-line c 0 (reroute c 0) (omega arith) (reroute-fits c 0 some few) refl)
    (each-holds (IsLine (shape_of c)) trigger 8 (λ j below. device-line c 0 (Assign j (24 + j) None) (omega arith) (omega (arith, below), omega (arith, below), tt) refl)))

pub workload-fits : (start n c : ℕ) → IsInRange n c → All (IsLine (shape_of c)) (set_up c ++ each_below (drawn_line start c) n)
workload-fits start n c is =
    all-append (IsLine (shape_of c)) (set_up c) (each_below (drawn_line start c) n) (set_up-fits c is.cpus.0 is.cpus.1)
    (each-holds (IsLine (shape_of c)) (drawn_line start c) n (λ k _. drawn-fits c k (draws_at start c k) is.cpus.0 is.cpus.1))

pub is-script : (start n c : ℕ) → IsInRange n c → IsScript (workload start n c)
unfolding workload
is-script start n c is = record {
  header = record { cpus = is.cpus; counters = omega arith; tick = omega arith; calls = (omega arith, omega arith); publications = omega arith };
  lines = workload-fits start n c is;
}
