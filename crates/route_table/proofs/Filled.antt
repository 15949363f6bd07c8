-- What words and pins that stand for rows answer, as rules.
use Rattle.std.proofs.Common.{◌≡◌, ℕ, ◌+◌, ◌-◌, ◌^◌, ◌<◌, Bool, false, List, [], length, get_or, replicate, Some, None, IfSome, if◌then◌else◌, true, ◌||◌, inl, inr, refl, sym, ap, subst, ◌∙◌, arith}
use Rattle.std.proofs.lemmas.Bool.Decides.{eqb_tells, leb_tells}
use Rattle.std.specs.Prelude.{slice_index, IsTrue}
use Rattle.std.specs.Option.{is_some}
use Rattle.std.specs.declared.option.Option.{Option}
use Rattle.route_table.proofs.Sound.{or_on}
use Rattle.std.proofs.lemmas.List.{get_or-replicate, get_or_past, length-replicate}
use Rattle.irq_base.specs.declared.call.Row.{Row}
use Rattle.irq_base.specs.declared.event.Pin.TheVariants.{Pic, Ioapic}
use Rattle.irq_base.specs.declared.message.Targets.{Targets}
use Rattle.route_table.specs.Words.{is_route, targets_word, targets_in}
use Rattle.route_table.proofs.WordLaws.{targets_in-route, small_bits}
use Rattle.route_table.specs.Rows.{reasons_after, gsi_in, pic_in, ioapic_in, has_target, first_given, refusal_of, table_of, targets_of}
use Rattle.route_table.specs.Pins.{owner, gsi_of, gsi_told}
use Rattle.route_table.proofs.Sound.{Sound, sound_of, owner-row}
use Rattle.route_table.specs.Standing.{Stands}
use Rattle.route_table.specs.Tables.{table_in, IsTable}
use Rattle.route_table.proofs.TableLaws.{table_in-rows, targets_of-words, targets_past-words, gsi_found}

-- words and pins of 0 stand for no rows
pub stands_none : (words pics ioapics : List ℕ) → ((k : ℕ) → get_or words k 0 ≡ 0) → ((n : ℕ) → get_or pics n 0 ≡ 0) → ((n : ℕ) → get_or ioapics n 0 ≡ 0) → Stands words pics ioapics []
unfolding targets_in first_given owner
stands_none words pics ioapics no_word no_pic no_ioapic = record { encoded = λ gsi. no_word gsi ∙ ap (λ w. targets_word (targets_in w).0 false) (sym (no_word gsi)); routes = λ gsi. ap (λ w. (targets_in w).0) (no_word gsi); pic_owners = no_pic; ioapic_owners = no_ioapic }

zeros_at : (n k : ℕ) → get_or {A = ℕ} (replicate n 0) k 0 ≡ 0
zeros_at n k =
    elim (leb_tells n k) [
      | inl h ↦ get_or_past {X = ℕ} (replicate n 0) k 0 (omega (arith, length-replicate {A = ℕ} n 0, h.1))
      | inr h ↦ get_or-replicate {A = ℕ} n k 0 0 h.1
    ]

pub zeros_16 : (k : ℕ) → get_or {A = ℕ} (replicate 16 0) k 0 ≡ 0
zeros_16 k = zeros_at 16 k

pub zeros_24 : (k : ℕ) → get_or {A = ℕ} (replicate 24 0) k 0 ≡ 0
zeros_24 k = zeros_at 24 k

pub zeros_4096 : (k : ℕ) → get_or {A = ℕ} (replicate 4096 0) k 0 ≡ 0
zeros_4096 k = zeros_at 4096 k

pub no_rows-kept : refusal_of [] ≡ None
unfolding reasons_after
no_rows-kept = refl

pub is_table : (words spare pics ioapics : List ℕ) (rows : List Row) → Stands words pics ioapics rows → refusal_of rows ≡ None → length words ≡ 4096 → length spare ≡ 4096 → IsTable words spare pics ioapics
is_table words spare pics ioapics rows s kept long room = record { long = long; room = room; made = (rows, s, kept) }

-- other room
pub same_table : (words spare pics ioapics other : List ℕ) → IsTable words spare pics ioapics → length other ≡ 4096 → IsTable words other pics ioapics
same_table words spare pics ioapics other t room = record { long = t.long; room = room; made = t.made }

pub pic_target : (t : Targets) (n : ℕ) → t.pic ≡ Some n → has_target t ≡ true
pic_target t n e = λ i. is_some (e i) || (is_some t.ioapic || is_some t.msi)

pub ioapic_target : (t : Targets) (n : ℕ) → t.ioapic ≡ Some n → has_target t ≡ true
ioapic_target t n e = or_on (is_some t.pic) (is_some t.ioapic || is_some t.msi) (λ i. is_some (e i) || is_some t.msi)

pub pic_owner : (words spare pics ioapics : List ℕ) (n : ℕ) → IsTable words spare pics ioapics → gsi_told (get_or pics n 0) ≡ gsi_of (table_in words) (Pic n)
unfolding gsi_of
pic_owner words spare pics ioapics n t =
    let rows = t.made.0 in
    let sound = sound_of rows t.made.2 in
    ap gsi_told (t.made.1.pic_owners n)
    ∙ sym (gsi_found (λ x. x.pic) pic_in (λ _ _. refl) refl pic_target rows sound sound.pic sound.pic_owned n)
    ∙ ap (λ table. gsi_of table (Pic n)) (sym (table_in-rows words pics ioapics rows t.made.1))

pub ioapic_owner : (words spare pics ioapics : List ℕ) (n : ℕ) → IsTable words spare pics ioapics → gsi_told (get_or ioapics n 0) ≡ gsi_of (table_in words) (Ioapic n)
unfolding gsi_of
ioapic_owner words spare pics ioapics n t =
    let rows = t.made.0 in
    let sound = sound_of rows t.made.2 in
    ap gsi_told (t.made.1.ioapic_owners n)
    ∙ sym (gsi_found (λ x. x.ioapic) ioapic_in (λ _ _. refl) refl ioapic_target rows sound sound.ioapic sound.ioapic_owned n)
    ∙ ap (λ table. gsi_of table (Ioapic n)) (sym (table_in-rows words pics ioapics rows t.made.1))

-- the rows that a table is made of
pub made_of : (words spare pics ioapics : List ℕ) → IsTable words spare pics ioapics → (rows : List Row) × (refusal_of rows ≡ None) × (table_in words ≡ table_of rows)
made_of words spare pics ioapics t = (t.made.0, t.made.2, table_in-rows words pics ioapics t.made.0 t.made.1)

-- each GSI goes to pins that the chips have, or to a good message alone
pub sends_to_routes : (words : List ℕ) (gsi : ℕ) → IsTrue (is_route (targets_of (table_in words) gsi))
sends_to_routes words gsi =
    elim (leb_tells 4096 gsi) [
      | inl h ↦ subst (λ (t : Targets). IsTrue (is_route t)) (sym (targets_past-words words gsi h.1)) refl
      | inr h ↦ subst (λ (t : Targets). IsTrue (is_route t)) (sym (targets_of-words words gsi h.1)) (targets_in-route (slice_index words gsi))
    ]

-- ---- a pin's word is in range

owner_low : (f : Row → Option ℕ) (rows : List Row) (n : ℕ) → Sound rows → owner f n rows < 4097
owner_low f rows n s =
    elim (eqb_tells (owner f n rows) 0) [
      | inl h ↦ omega (arith, h.1)
      | inr h ↦ let found = owner-row f n rows (owner f n rows) refl h.1 in let low : gsi_in found.0 < 4096 = s.low found.0 found.1 in omega (arith, low, found.2)
    ]

pub pic_low : (words spare pics ioapics : List ℕ) (n : ℕ) → IsTable words spare pics ioapics → get_or pics n 0 < 4097
pic_low words spare pics ioapics n t = let low : owner pic_in n t.made.0 < 4097 = owner_low pic_in t.made.0 n (sound_of t.made.0 t.made.2) in omega (arith, low, t.made.1.pic_owners n)

pub ioapic_low : (words spare pics ioapics : List ℕ) (n : ℕ) → IsTable words spare pics ioapics → get_or ioapics n 0 < 4097
ioapic_low words spare pics ioapics n t = let low : owner ioapic_in n t.made.0 < 4097 = owner_low ioapic_in t.made.0 n (sound_of t.made.0 t.made.2) in omega (arith, low, t.made.1.ioapic_owners n)

pub told_low : (v : ℕ) → v < 4097 → IfSome (gsi_told v) (λ gsi. gsi < 4096)
told_low v low =
    elim (eqb_tells v 0) [
      | inl h ↦ subst (λ (b : Bool). IfSome (if b then None else Some (v - 1)) (λ gsi. gsi < 4096)) (sym h.0) tt
      | inr h ↦ subst (λ (b : Bool). IfSome (if b then None else Some (v - 1)) (λ gsi. gsi < 4096)) (sym h.0) (omega (arith, h.1, low))
    ]

pub ruleset refill_rules = (stands_none)

pub ruleset replace_rules = (zeros_16, zeros_24, is_table, same_table, table_in-rows, stands_none)

-- the word of a GSI is that of its route, without a mark, and with the mark where bit 63 is added
pub unmarked_word : (words spare pics ioapics : List ℕ) (gsi : ℕ) → IsTable words spare pics ioapics → gsi < 4096 → get_or words gsi 0 ≡ targets_word (targets_of (table_in words) gsi) false
unmarked_word words spare pics ioapics gsi t low = t.made.1.encoded gsi ∙ ap (λ there. targets_word there false) (sym (targets_of-words words gsi low))

pub marked_word : (words spare pics ioapics : List ℕ) (gsi : ℕ) → IsTable words spare pics ioapics → gsi < 4096 → get_or words gsi 0 + 2 ^ 63 ≡ targets_word (targets_of (table_in words) gsi) true
marked_word words spare pics ioapics gsi t low = let word = unmarked_word words spare pics ioapics gsi t low in omega (arith, word)

pub word_low : (words spare pics ioapics : List ℕ) (gsi : ℕ) → IsTable words spare pics ioapics → gsi < 4096 → get_or words gsi 0 < 2 ^ 63
word_low words spare pics ioapics gsi t low =
    let there = targets_of (table_in words) gsi in
    let small = small_bits there.pic there.ioapic there.msi (sends_to_routes words gsi) in
    let word = unmarked_word words spare pics ioapics gsi t low in
    omega (arith, word, small)

pub ruleset look_rules = (targets_of-words)

pub ruleset pin_rules = (pic_owner, ioapic_owner)

pub ruleset copy_rules = (same_table)

pub ruleset sound_rules = (sends_to_routes)
