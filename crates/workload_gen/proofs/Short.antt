-- The text of a generated script is short enough to be read: no line has more than 700 bytes.
use Rattle.std.proofs.Common.{ℕ, zero, suc, ◌+◌, ◌-◌, ◌*◌, ◌/◌, ◌%◌, ◌^◌, ◌<◌, ◌≤◌, true, false, nat_eq, max, List, [], ◌∷◌, ◌++◌, map, length, codes, if◌then◌else◌, None, sym, subst, All, arith}
use Rattle.std.specs.Fmt.{decimal}
use Rattle.std.proofs.Math.Nat.{max-le}
use Rattle.std.proofs.lemmas.Fmt.{length-decimal-le}
use Rattle.std.proofs.lemmas.List.{length-append, length-map}
use Rattle.std.proofs.lemmas.List.Elements.{All-cons, All-head, All-tail}
use Rattle.irq_base.specs.Text.{caller_text}
use Rattle.irq_base.specs.declared.call.Call.{Call}
use Rattle.irq_base.specs.declared.call.Call.TheVariants.{Line, Write, Take, Assign, Store, Load, Ack, Eoi}
use Rattle.irq_base.specs.declared.call.Caller.TheVariants.{Device, Cpu}
use Rattle.irq_base.specs.declared.call.Row.{Row}
use Rattle.script_text.specs.declared.task.ActorLine.{ActorLine}
use Rattle.script_text.specs.Numbers.{hex_places, hex_text}
use Rattle.script_text.specs.Spelling.{row_word, call_words, actor_words, spaced, joined, with_feeds}
use Rattle.script_text.proofs.Again.{length-digits}
use Rattle.rand_pcg.specs.Lcg.{Lcg}
use Rattle.rand_pcg.specs.Pcg.{pcg32}
use Rattle.workload_gen.specs.Workload.{asks, alone, of_draw, each_below, enable, row, reroute, trigger, set_up, message, processor_call, device_call, call_of, actor, drawn, draws_at, drawn_line, workload}
use Rattle.workload_gen.specs.Text.{workload_text}
use Rattle.workload_gen.specs.Laws.{IsInRange}
use Rattle.workload_gen.proofs.Below.{all-append, each-holds, length-each}
use Rattle.workload_gen.proofs.Fitting.{actor-holds}
use Rattle.irq_bits.specs.declared.limits.TheConstants.{MAX_CPUS}

-- ---- numbers

number-short : (n : ℕ) → n < 2 ^ 16 → length (decimal n) ≤ 5
number-short n h = length-decimal-le 5 n (omega arith) (omega (arith, h)) (omega (arith, h))

places-few : (k v : ℕ) → hex_places k v ≤ k
unfolding hex_places
places-few zero v = omega arith
places-few (suc k) v = elim (nat_eq (v / 2 ^ (4 * k)) 0) as (λ b. (if b then hex_places k v else suc k) ≤ suc k) [
  | true ↦ omega (arith, places-few k v)
  | false ↦ omega arith
]

hex-short : (width v : ℕ) → width ≤ 16 → length (hex_text width v) ≤ 16
hex-short width v h = subst (λ n. n ≤ 16) (sym (length-digits (max width (hex_places 16 v)) v)) (max-le h (places-few 16 v))

-- ---- words

-- each word has at most 60 bytes
abbrev AreShort : List (List ℕ) → Type 0
AreShort [] = Unit {0}
AreShort (w ∷ ws) = (length w ≤ 60) × AreShort ws

spaced-short : (ws : List (List ℕ)) → AreShort ws → length (spaced ws) ≤ 61 * length ws
spaced-short [] h = omega arith
spaced-short (w ∷ ws) h = omega (arith, length-append w (spaced ws), h.0, spaced-short ws h.1)

-- a call has at most 9 words, all short
abbrev IsShort : Call → Type 0
IsShort call = AreShort (call_words call) × (length (call_words call) ≤ 9)

-- the words of rows
row-short : (c s j : ℕ) → j < 8 → length (row_word (row c s j)) ≤ 60
row-short c s j h =
    let address = hex_text 8 (0xfee00000 + 0x1000 * ((j + s) % c)) in
    let payload = hex_text 8 (0x50 + j) in
    omega (
      arith,
      length-append (decimal (24 + j)) (codes "=msi." ++ (address ++ (codes "." ++ payload))),
      length-append address (codes "." ++ payload),
      number-short (24 + j) (omega (arith, h)),
      hex-short 8 (0xfee00000 + 0x1000 * ((j + s) % c)) (omega arith),
      hex-short 8 (0x50 + j) (omega arith),
    )

words-short : (rs : List Row) → All (λ (r : Row). length (row_word r) ≤ 60) rs → AreShort (map row_word rs)
words-short [] h = tt
words-short (r ∷ rs) h = (All-head (λ (r : Row). length (row_word r) ≤ 60) r rs h, words-short rs (All-tail (λ (r : Row). length (row_word r) ≤ 60) r rs h))

reroute-short : (c s : ℕ) → IsShort (reroute c s)
reroute-short c s =
    let rows = each_below (row c s) 8 in (
      (omega arith, words-short rows (each-holds (λ (r : Row). length (row_word r) ≤ 60) (row c s) 8 (row-short c s))),
      omega (arith, length-map rows row_word, length-each (row c s) 8),
    )

message-short : (c x : ℕ) → IsShort (message c x)
message-short c x = ((omega arith, (omega (arith, hex-short 8 (0xfee00000 + 0x1000 * (x % c)) (omega arith)), (omega (arith, hex-short 8 (32 + x / 65536 % 200) (omega arith)), tt))), omega arith)

-- ---- lines

abbrev LineIsShort : ActorLine → Type 0
LineIsShort line = length (joined (actor_words line)) ≤ 699

line-short : (text : List ℕ) (call : Call) → length text ≤ 60 → IsShort call → length (text ++ spaced (call_words call)) ≤ 699
line-short text call short h = omega (arith, length-append text (spaced (call_words call)), short, h.1, spaced-short (call_words call) h.0)

cpu-short : (n : ℕ) (call : Call) → n < 2 ^ 16 → IsShort call → LineIsShort (asks (Cpu n) call)
cpu-short n call below h = line-short (caller_text (Cpu n)) call (omega (arith, number-short n below)) h

device-short : (d : ℕ) (call : Call) → d < 2 → IsShort call → LineIsShort (asks (Device d) call)
device-short d call below h = line-short (caller_text (Device d)) call (omega (arith, number-short d (omega (arith, below)))) h

cpu-draw : (c r : ℕ) (g : Lcg) → IsShort (processor_call c r g).0
cpu-draw c r g =
    elim (nat_eq r 0) as (λ t. IsShort ((if t then alone Ack else (if nat_eq r 1 then alone Eoi else (if nat_eq r 2 then of_draw (message c) else alone (Load 0xfee000a0 4)))) g).0) [
      | true ↦ ((omega arith, tt), omega arith)
      | false ↦ elim (nat_eq r 1) as (λ t. IsShort ((if t then alone Eoi else (if nat_eq r 2 then of_draw (message c) else alone (Load 0xfee000a0 4))) g).0) [
        | true ↦ ((omega arith, tt), omega arith)
        | false ↦ elim (nat_eq r 2) as (λ t. IsShort ((if t then of_draw (message c) else alone (Load 0xfee000a0 4)) g).0) [
          | true ↦ message-short c (pcg32 g).0
          | false ↦ ((omega arith, (omega (arith, hex-short 8 0xfee000a0 (omega arith)), (omega (arith, number-short 4 (omega arith)), tt))), omega arith)
        ]
      ]
    ]

device-draw : (c r : ℕ) (g : Lcg) → IsShort (device_call c r g).0
device-draw c r g =
    let x = (pcg32 g).0 in
    let counter = number-short (x % 16) (omega arith) in
    elim (nat_eq r 0) as (λ t. IsShort ((if t then of_draw (message c) else (if nat_eq r 1 then of_draw (λ x. Write (x % 16) 1) else (if nat_eq r 2 then of_draw (λ x. Take (x % 16)) else of_draw (λ x. Line (24 + x % 8) 0 true)))) g).0) [
      | true ↦ message-short c x
      | false ↦ elim (nat_eq r 1) as (λ t. IsShort ((if t then of_draw (λ x. Write (x % 16) 1) else (if nat_eq r 2 then of_draw (λ x. Take (x % 16)) else of_draw (λ x. Line (24 + x % 8) 0 true))) g).0) [
        | true ↦ ((omega arith, (omega (arith, counter), (omega (arith, number-short 1 (omega arith)), tt))), omega arith)
        | false ↦ elim (nat_eq r 2) as (λ t. IsShort ((if t then of_draw (λ x. Take (x % 16)) else of_draw (λ x. Line (24 + x % 8) 0 true)) g).0) [
          | true ↦ ((omega arith, (omega (arith, counter), tt)), omega arith)
          | false ↦ ((omega arith, (omega (arith, number-short (24 + x % 8) (omega arith)), (omega (arith, number-short 0 (omega arith)), (omega arith, tt)))), omega arith)
        ]
      ]
    ]

drawn-short : (c k : ℕ) (g : Lcg) → c ≤ MAX_CPUS → LineIsShort (asks (actor c k) (drawn c k g).0)
drawn-short c k g few =
    elim (nat_eq (k % 1000) 999) as (λ t. LineIsShort (asks (actor c k) (if t then alone (reroute c ((k + 1) / 1000)) g else call_of (actor c k) c ((pcg32 g).0 % 4) (pcg32 g).1).0)) [
      | true ↦ actor-holds (λ who. LineIsShort (asks who (reroute c ((k + 1) / 1000)))) c k
          (λ n below. cpu-short n (reroute c ((k + 1) / 1000)) (omega (arith, few, below)) (reroute-short c ((k + 1) / 1000)))
          (λ d below. device-short d (reroute c ((k + 1) / 1000)) below (reroute-short c ((k + 1) / 1000)))
      | false ↦ actor-holds (λ who. LineIsShort (asks who (call_of who c ((pcg32 g).0 % 4) (pcg32 g).1).0)) c k
          (λ n below. cpu-short n (processor_call c ((pcg32 g).0 % 4) (pcg32 g).1).0 (omega (arith, few, below)) (cpu-draw c ((pcg32 g).0 % 4) (pcg32 g).1))
          (λ d below. device-short d (device_call c ((pcg32 g).0 % 4) (pcg32 g).1).0 below (device-draw c ((pcg32 g).0 % 4) (pcg32 g).1))
    ]

set_up-short : (c : ℕ) → c ≤ MAX_CPUS → All LineIsShort (set_up c)
set_up-short c few =
    all-append LineIsShort (each_below enable c) (asks (Device 0) (reroute c 0) ∷ each_below trigger 8)
    (each-holds LineIsShort enable c (λ n below. cpu-short n (Store 0xfee000f0 4 0x1ff) (omega (arith, few, below)) store-short))
    (All-cons LineIsShort (asks (Device 0) (reroute c 0)) (each_below trigger 8) (device-short 0 (reroute c 0) (omega arith) (reroute-short c 0))
    (each-holds LineIsShort trigger 8 (λ j below. device-short 0 (Assign j (24 + j) None) (omega arith) (assign-short j below))))
  where
    store-short : IsShort (Store 0xfee000f0 4 0x1ff)
    store-short = ((omega arith, (omega (arith, hex-short 8 0xfee000f0 (omega arith)), (omega (arith, number-short 4 (omega arith)), (omega (arith, hex-short 8 0x1ff (omega arith)), tt)))), omega arith)

    assign-short : (j : ℕ) → j < 8 → IsShort (Assign j (24 + j) None)
    assign-short j below = ((omega arith, (omega (arith, number-short j (omega (arith, below))), (omega (arith, number-short (24 + j) (omega (arith, below))), tt))), omega arith)

-- ---- the text

lines-short : (lines : List ActorLine) → All LineIsShort lines → length (with_feeds (map joined (map actor_words lines ++ (codes "end" ∷ []) ∷ []))) ≤ 700 * length lines + 4
lines-short [] h = omega arith
lines-short (line ∷ lines) h =
    let rest = with_feeds (map joined (map actor_words lines ++ (codes "end" ∷ []) ∷ [])) in
    omega (arith, length-append (joined (actor_words line)) (10 ∷ rest), All-head LineIsShort line lines h, lines-short lines (All-tail LineIsShort line lines h))

pub is-short : (start n c : ℕ) → IsInRange n c → length (workload_text start n c) < 2 ^ 32 - 1
unfolding workload_text workload
is-short start n c is =
    let lines = set_up c ++ each_below (drawn_line start c) n in
    let cpus = codes "cpus " ++ decimal c in
    let rest = with_feeds (map joined (map actor_words lines ++ (codes "end" ∷ []) ∷ [])) in
    omega (
      arith,
      is.lines,
      is.cpus.1,
      number-short c (omega (arith, is.cpus.1)),
      length-append (decimal c ++ []) (10 ∷ (codes "counters 16\ncalls 2000000\n" ++ rest)),
      length-append (decimal c) [],
      lines-short lines (all-append LineIsShort (set_up c) (each_below (drawn_line start c) n) (set_up-short c is.cpus.1) (each-holds LineIsShort (drawn_line start c) n (λ k _. drawn-short c k (draws_at start c k) is.cpus.1))),
      length-append (set_up c) (each_below (drawn_line start c) n),
      length-append (each_below enable c) (asks (Device 0) (reroute c 0) ∷ each_below trigger 8),
      length-each enable c,
      length-each trigger 8,
      length-each (drawn_line start c) n,
    )
