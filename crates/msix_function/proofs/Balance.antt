-- No request is lost, and each that merges finds one pending.
use Rattle.std.proofs.Common.{◌≡◌, ℕ, zero, suc, ◌+◌, ◌/◌, ◌<◌, ◌≤◌, Bool, true, false, not, ◌&&◌, nat_eq, nat_lt, if◌then◌else◌, List, [], ◌∷◌, length, get_or, set, slice_set, replicate, sum_by, count_by, cond, Ok, Err, refl, sym, ap, ◌∙◌, arith, length-set}
use Rattle.std.proofs.lemmas.Bool.Decides.{nat_tests}
use Rattle.std.proofs.lemmas.List.Sums.{sum_by-cons, sum_by-append}
use Rattle.std.specs.declared.result.Result.{Result}
use Rattle.irq_base.specs.declared.reply.Spent.{Spent}
use Rattle.msix_function.specs.Balance.{one_if, is_fire, is_merge, sent_for, Lead, IsBalanced}
use Rattle.msix_function.specs.Functions.{IsAtPowerOn, entry_at, is_pending_at, is_held, is_due, pended, stored, controlled}
use Rattle.msix_function.specs.Operations.{Sending, Operation, fire, store, control, numbers_in, Fires, SendsDue, IsStep}
use Rattle.msix_function.specs.declared.fired.Fired.{Fired}
use Rattle.msix_function.specs.declared.fired.Fired.TheVariants.{Off, Merged, Pended, Sent}
use Rattle.msix_function.specs.declared.function.Function.{Function}
use Rattle.msix_function.proofs.Cleared.{is_in, bits_cleared, suc_same, all_cleared_is, pending_after}
use Rattle.std.proofs.lemmas.List.{length-replicate}
use Rattle.msix_function.specs.Entries.{word_at, with_word}
use Rattle.msix_function.proofs.Ranges.{times, at_most_once, is_in_times}

-- a bit after it or another is set
set_bit : (bits : List Bool) (n k : ℕ) → k < length bits → get_or (set bits n true) k false ≡ (if nat_eq n k then true else get_or bits k false)
set_bit [] n k below = absurd (omega (arith, below))
set_bit (b ∷ bits) zero zero below = refl
set_bit (b ∷ bits) zero (suc k) below = let differ : nat_eq 0 (suc k) ≡ false = grind (arith, nat_tests) in ap (λ t. if t then true else get_or bits k false) (sym differ)
set_bit (b ∷ bits) (suc n) zero below = let differ : nat_eq (suc n) 0 ≡ false = grind (arith, nat_tests) in ap (λ t. if t then true else b) (sym differ)
set_bit (b ∷ bits) (suc n) (suc k) below = set_bit bits n k (omega (arith, below)) ∙ ap (λ t. if t then true else get_or bits k false) (suc_same n k)

-- where the bit was clear, setting it makes one more
one_more : (same was : Bool) → one_if same + one_if was ≡ (if same then one_if was + 1 else one_if was)
one_more true was = omega arith
one_more false was = omega arith

length_cleared : (bits : List Bool) (ks : List ℕ) → length (bits_cleared bits ks) ≡ length bits
length_cleared bits [] = refl
length_cleared bits (k ∷ ks) = length_cleared (set bits k false) ks ∙ length-set bits k false

no_bits : (n k : ℕ) → get_or (replicate n false) k false ≡ false
no_bits zero k = refl
no_bits (suc n) zero = refl
no_bits (suc n) (suc k) = no_bits n k

at_most_one : (t : Bool) → one_if t ≤ 1
at_most_one true = omega arith
at_most_one false = omega arith

middle : (a b c : Bool) → one_if (a && (b && c)) ≤ one_if b
middle true true c = at_most_one c
middle true false c = omega arith
middle false b c = omega arith

-- a fire that pends: its entry was not pending, and now it is
added : (same was : Bool) (clear : same ≡ true → was ≡ false) → one_if same + one_if was ≡ one_if (if same then true else was)
added true was clear = (let none = ap one_if (clear refl) in omega (arith, none))
added false was clear = omega arith

none_for : (k : ℕ) (sent : List Sending) → sent ≡ [] → times k (numbers_in sent) ≡ 0
none_for k sent none = ap (λ l. times k (numbers_in l)) none

clear_of : (a b c : Bool) → (a && (not b && c)) ≡ true → b ≡ false
clear_of true false c e = refl
clear_of true true c e = sym e
clear_of false b c e = absurd (cc)

module _ {N : ℕ} where
  abbrev IsWhole : Function N → Type 0
  IsWhole f = length f.is_pending ≡ N

  abbrev IsEven : ℕ → Function N → Operation → Function N → Type 0
  IsEven k f operation g =
      one_if (is_fire k operation) + one_if (is_pending_at f k) ≡ sent_for k operation + (one_if (is_merge k operation) + one_if (is_pending_at g k))

  same_at : (f : Function N) (n k : ℕ) → is_pending_at f n ≡ false → nat_eq n k ≡ true → is_pending_at f k ≡ false
  same_at f n k clear same = let at : n ≡ k = grind (arith, nat_tests) in ap (is_pending_at f) (sym at) ∙ clear

  pended_at : (f : Function N) (n k : ℕ) → IsWhole f → k < N → is_pending_at f n ≡ false
      → one_if (nat_eq n k) + one_if (is_pending_at f k) ≡ one_if (is_pending_at (pended f n) k)
  pended_at f n k whole below clear =
      added (nat_eq n k) (is_pending_at f k) (same_at f n k clear) ∙ ap one_if (sym (set_bit f.is_pending n k (omega (arith, whole, below))))

  fire_even : (f g : Function N) (n k : ℕ) (answer : Result Fired Spent) (sent : List Sending) → IsWhole f → k < N → Fires f n answer sent g → IsEven k f (fire n answer sent) g
  fire_even f g n k (Ok Off) sent whole below (off, none, is) =
      let now = ap (λ (h : Function N). one_if (is_pending_at h k)) is in let zero_sent = none_for k sent none in omega (arith, now, zero_sent)
  fire_even f g n k (Ok Merged) sent whole below (on, was, none, is) =
      let now = ap (λ (h : Function N). one_if (is_pending_at h k)) is in let zero_sent = none_for k sent none in omega (arith, now, zero_sent)
  fire_even f g n k (Ok Pended) sent whole below (on, clear, held, none, is) =
      let now = ap (λ (h : Function N). one_if (is_pending_at h k)) is in
      let zero_sent = none_for k sent none in
      let more = pended_at f n k whole below clear in
      omega (arith, now, zero_sent, more)
  fire_even f g n k (Ok (Sent reply)) sent whole below (can, one, is) =
      let now = ap (λ (h : Function N). one_if (is_pending_at h k)) is in
      let one_sent : times k (numbers_in sent) ≡ one_if (nat_eq n k) = ap (λ l. times k (numbers_in l)) one.one ∙ single (nat_eq n k) in
      omega (arith, now, one_sent)
    where
      single : (t : Bool) → 0 + cond t 1 0 ≡ one_if t
      single t = omega arith
  fire_even f g n k (Err spent) sent whole below (can, none, is) =
      let now = ap (λ (h : Function N). one_if (is_pending_at h k)) is in
      let zero_sent = none_for k sent none in
      let more = pended_at f n k whole below (clear_of f.enabled (is_pending_at f n) (not (is_held f n)) can) in
      omega (arith, now, zero_sent, more)

  -- what is sent was pending, and is not now
  sends_even : (h g : Function N) (k : ℕ) (answer : Result ℕ Spent) (sent : List Sending) → SendsDue h answer sent g
      → one_if (is_pending_at h k) ≡ times k (numbers_in sent) + one_if (is_pending_at g k)
  sends_even h g k answer sent sends = by (is_in k ks) refl
    where
      ks : List ℕ
      ks = numbers_in sent

      now : is_pending_at g k ≡ (if is_in k (numbers_in sent) then false else is_pending_at h k)
      now = ap (λ (f : Function N). is_pending_at f k) sends.cleared ∙ pending_after h (numbers_in sent) k

      few : times k (numbers_in sent) ≤ one_if (is_pending_at h k)
      few =
          let all = ap (times k) sends.order in
          let both = sum_by-append (λ (n : ℕ). cond (nat_eq n k) 1 0) (numbers_in sent) sends.left in
          let most = at_most_once (is_due h) N k in
          let pends = middle h.enabled (is_pending_at h k) (not (is_held h k)) in
          omega (arith, all, both, most, pends)

      by : (t : Bool) → is_in k (numbers_in sent) ≡ t → one_if (is_pending_at h k) ≡ times k (numbers_in sent) + one_if (is_pending_at g k)
      by true is =
          let some = (is_in_times k (numbers_in sent)).0 is in
          let one = at_most_one (is_pending_at h k) in
          let cleared = ap one_if (now ∙ ap (λ t. if t then false else is_pending_at h k) is) in
          omega (arith, some, one, cleared, few)
      by false is =
          let none = (is_in_times k (numbers_in sent)).1 is in
          let kept = ap one_if (now ∙ ap (λ t. if t then false else is_pending_at h k) is) in
          omega (arith, none, kept)

  stored_bits : (f : Function N) (offset value : ℕ) → (stored f offset value).is_pending ≡ f.is_pending
  stored_bits f offset value = by (nat_lt (offset / 16) N)
    where
      by : (t : Bool) → (if t then record f { entries = slice_set f.entries (offset / 16) (with_word (entry_at f (offset / 16)) (word_at offset) value) } else f).is_pending ≡ f.is_pending
      by true = refl
      by false = refl

  sends_whole : (h g : Function N) (answer : Result ℕ Spent) (sent : List Sending) → SendsDue h answer sent g → IsWhole h → IsWhole g
  sends_whole h g answer sent sends whole =
      ap (λ (f : Function N). length f.is_pending) (sends.cleared ∙ all_cleared_is h (numbers_in sent)) ∙ length_cleared h.is_pending (numbers_in sent) ∙ whole

  step_whole : (f g : Function N) (operation : Operation) → IsStep f operation g → IsWhole f → IsWhole g
  step_whole f g (fire n (Ok Off) sent) (off, none, is) whole = ap (λ (h : Function N). length h.is_pending) is ∙ whole
  step_whole f g (fire n (Ok Merged) sent) (on, was, none, is) whole = ap (λ (h : Function N). length h.is_pending) is ∙ whole
  step_whole f g (fire n (Ok Pended) sent) (on, clear, held, none, is) whole = ap (λ (h : Function N). length h.is_pending) is ∙ length-set f.is_pending n true ∙ whole
  step_whole f g (fire n (Ok (Sent reply)) sent) (can, one, is) whole = ap (λ (h : Function N). length h.is_pending) is ∙ whole
  step_whole f g (fire n (Err spent) sent) (can, none, is) whole = ap (λ (h : Function N). length h.is_pending) is ∙ length-set f.is_pending n true ∙ whole
  step_whole f g (store offset value answer sent) step whole =
      sends_whole (stored f offset value) g answer sent step (ap (length {A = Bool}) (stored_bits f offset value) ∙ whole)
  step_whole f g (control enable mask answer sent) step whole = sends_whole (controlled f enable mask) g answer sent step whole

  step_even : (f g : Function N) (operation : Operation) (k : ℕ) → IsStep f operation g → IsWhole f → k < N → IsEven k f operation g
  step_even f g (fire n answer sent) k step whole below = fire_even f g n k answer sent whole below step
  step_even f g (store offset value answer sent) k step whole below =
      let same = ap (λ bits. one_if (get_or bits k false)) (stored_bits f offset value) in
      let sends = sends_even (stored f offset value) g k answer sent step in
      omega (arith, same, sends)
  step_even f g (control enable mask answer sent) k step whole below = (let sends = sends_even (controlled f enable mask) g k answer sent step in omega (arith, sends))

  all_even : (f g : Function N) (operations : List Operation) (k : ℕ) → Lead f operations g → IsWhole f → k < N
      → count_by (is_fire k) operations + one_if (is_pending_at f k) ≡ sum_by (sent_for k) operations + (count_by (is_merge k) operations + one_if (is_pending_at g k))
  all_even f g [] k is whole below = (let now = ap (λ (h : Function N). one_if (is_pending_at h k)) is in omega (arith, now))
  all_even f g (operation ∷ more) k (next, step, lead) whole below =
      let fires = sum_by-cons (λ (o : Operation). cond (is_fire k o) 1 0) operation more in
      let sends = sum_by-cons (sent_for k) operation more in
      let merges = sum_by-cons (λ (o : Operation). cond (is_merge k o) 1 0) operation more in
      let one = step_even f next operation k step whole below in
      let rest = all_even next g more k lead (step_whole f next operation step whole) below in
      omega (arith, fires, sends, merges, one, rest)

  pub balanced : (opening now : Function N) (operations : List Operation) (k : ℕ) → k < N → IsAtPowerOn opening → Lead opening operations now → IsBalanced k operations now
  balanced opening now operations k below at_power_on lead =
      let none = ap one_if (ap (λ bits. get_or bits k false) at_power_on.is_pending ∙ no_bits N k) in
      let all = all_even opening now operations k lead (ap (length {A = Bool}) at_power_on.is_pending ∙ length-replicate N false) below in
      omega (arith, none, all)
