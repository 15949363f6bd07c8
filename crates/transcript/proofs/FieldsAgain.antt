-- Statuses, replies and events that are spelled are read again.
use Rattle.std.proofs.Common.{◌≡◌, ℕ, zero, suc, ◌+◌, ◌*◌, ◌/◌, ◌%◌, ◌^◌, ◌<◌, ◌≤◌, Bool, true, false, nat_eq, ◌&&◌, List, [], ◌∷◌, ◌++◌, length, codes, Some, None, Ok, if◌then◌else◌, inl, inr, refl, ap, sym, ◌∙◌, subst, lit<, arith}
use Rattle.std.specs.Prelude.{option_and_then}
use Rattle.std.specs.Fmt.{decimal, digits, digits_onto, digit_glyph}
use Rattle.std.specs.Char.{digit_value}
use Rattle.std.specs.List.{list_all}
use Rattle.std.specs.Str.Parse.{AllDigits, digits_value_after}
use Rattle.std.specs.declared.option.Option.{Option}
use Rattle.std.proofs.lemmas.Bool.Decides.{nat_tests, eqb_tells}
use Rattle.std.specs.FinSet as set
use Rattle.std.proofs.lemmas.Fmt.{digits_is_IsNumeral, decimal_is_IsNumeral, decimal_nonempty, decimal_digit}
use Rattle.std.proofs.lemmas.Str.Parse.{digit_from_value}
use Rattle.std.proofs.lemmas.Grind.{pow_more}
use Rattle.std.proofs.lemmas.List.{append-nil}
use Rattle.irq_bits.specs.Members.{Numbers, members_of, word_of, number_of}
use Rattle.irq_base.specs.Text.{hex, status_text, event_text}
use Rattle.irq_base.specs.Refusals.{refusal_number, refusal_word}
use Rattle.irq_base.specs.declared.event.Event.{Event}
use Rattle.irq_base.specs.declared.event.Event.TheVariants.{Acked, Resampled, Watched, Rang, Injected, Resent, Ipi}
use Rattle.irq_base.specs.declared.event.Pin.TheVariants.{Pic, Ioapic}
use Rattle.irq_base.specs.declared.refusal.Refusal.{Refusal}
use Rattle.irq_base.specs.declared.refusal.Refusal.TheVariants.{NoGsi, NoCounter, BadRow, ChipTwice, Mixed, PinTwice, Busy, RoleClash, Full, Exists, NotThere, BadRange, ChipAddress, Over, BadCount, NoLine, BadMsi}
use Rattle.irq_base.specs.declared.reply.Reply.{Reply}
use Rattle.irq_base.specs.declared.reply.Reply.TheVariants.{Signal, Done, Count, Empty, Removed, Value, Exit, Vector, Extint, Nmi, Ended, Nothing, Held, Refused}
use Rattle.irq_base.specs.declared.status.Cause.{Cause}
use Rattle.irq_base.specs.declared.status.Cause.TheVariants.{Masked, Unrouted, NoProcessor, BadVector, Mode}
use Rattle.irq_base.specs.declared.status.Status.{Status}
use Rattle.irq_base.specs.declared.status.Status.TheVariants.{Delivered, Coalesced, Ignored, Lowered}
use Rattle.irq_base.specs.Text.{cause_text}
use Rattle.script_text.specs.Causes.{of_one, of_two, of_three}
use Rattle.script_text.specs.Numbers.{hex_value, hex_from, hex64, hex8, between, hex_text, value_width, number16}
use Rattle.script_text.specs.Words.{same_text}
use Rattle.script_text.specs.Spelling.{spaced, value_text}
use Rattle.script_text.specs.Fitting.{FitsIfThere}
use Rattle.script_text.proofs.Again.{hex-fits, in_range, hex-again}
use Rattle.script_text.proofs.WordsAgain.{is_word, are_words, is_graphic, both-true, word-append, decimal-word, hex-word}
use Rattle.script_text.proofs.CommandsAgain.{number64-again, number16-again, number8-again, hex64-again, width-fits, word16, word8}
use Rattle.transcript.specs.Text.{reply_text}
use Rattle.transcript.specs.Fields.{set_field, pic_field, cause, status_named, refusal_of, worded, refusal_by, reply, gsi_or_none, event}
use Rattle.transcript.specs.Fitting.{FitsSet, FitsStatus, FitsReply, FitsEvent}
use Rattle.irq_bits.specs.declared.limits.TheConstants.{MAX_CPUS}

-- ---- hexadecimal numbers without leading zeros

step : (n j m a : ℕ) → n < 16 ^ (j + 1) → (n / 16 ≡ 0 → ⊥) → ((i : ℕ) → n / 16 < 16 ^ (i + 1) → m ≤ i + 1 + suc a) → m ≤ j + 1 + a
step n zero m a h some more = absurd (some (omega (arith, h)))
step n (suc i) m a h some more =
    let e : suc i + 1 ≡ i + 1 + 1 = omega arith in
    let wide : n < 16 ^ (i + 1 + 1) = subst (λ k. n < 16 ^ k) e h in
    let near : n / 16 < 16 ^ (i + 1) = omega (arith, pow_more 16 (i + 1), wide) in
    omega (arith, more i near)

-- a number below 16 ^ (j + 1) has at most j + 1 digits
long : (k j n : ℕ) (acc : List ℕ) → n < 16 ^ (j + 1) → length (digits_onto k 16 false n acc) ≤ j + 1 + length acc
long zero j n acc h = omega arith
long (suc k) j n acc h =
    let glyph = digit_glyph false (n % 16) in
    let rest = digits_onto k 16 false (n / 16) (glyph ∷ acc) in
    elim (eqb_tells (n / 16) 0) [
      | inl e ↦ subst (λ b. length (if b then glyph ∷ acc else rest) ≤ j + 1 + length acc) (sym e.0) (omega arith)
      | inr e ↦ subst (λ b. length (if b then glyph ∷ acc else rest) ≤ j + 1 + length acc) (sym e.0)
          (step n j (length rest) (length acc) h e.1 (λ i m. long k i (n / 16) (glyph ∷ acc) m))
    ]

hex-onto : (n : ℕ) → digits_onto 64 16 false n [] ≡ hex n
unfolding digits
hex-onto n = refl

hex-length : (n : ℕ) → n < 2 ^ 64 → length (hex n) ≤ 16
hex-length n h = subst (λ ds. length ds ≤ 16) (hex-onto n) (omega (arith, long 64 15 n [] (omega (arith, h))))

hex-numeral : (n : ℕ) → n < 2 ^ 64 → ((0 < length (hex n)) × AllDigits 16 (hex n)) × (digits_value_after 16 0 (hex n) ≡ n)
hex-numeral n h = digits_is_IsNumeral 16 false (omega arith) (omega arith) n (omega (arith, h))

value-is : (c : ℕ) → digit_value c < 16 → hex_value c ≡ Some (digit_value c)
value-is c h = grind (arith, nat_tests, h)

hex_from-numeral : (n : ℕ) (ds : List ℕ) → AllDigits 16 ds → hex_from n ds ≡ Some (digits_value_after 16 n ds)
hex_from-numeral n [] h = refl
hex_from-numeral n (c ∷ cs) h =
    ap (option_and_then (λ v. hex_from (16 * n + v) cs)) (value-is c h.0)
    ∙ ap (λ m. hex_from m cs) {x = 16 * n + digit_value c} {y = n * 16 + digit_value c} (omega arith)
    ∙ hex_from-numeral (n * 16 + digit_value c) cs h.1

hex-read : (n : ℕ) → n < 2 ^ 64 → hex64 (hex n) ≡ Ok n
hex-read n h =
    let numeral = hex-numeral n h in
    hex-fits 0xffffffffffffffff (hex n) numeral.0.0 (hex-length n h)
    ∙ ap (between 0 0xffffffffffffffff) (hex_from-numeral 0 (hex n) numeral.0.1 ∙ ap Some numeral.1)
    ∙ in_range 0 0xffffffffffffffff n (omega arith) (omega (arith, h))

digit-graphic : (c : ℕ) → digit_value c < 16 → is_graphic c ≡ true
digit-graphic c h = grind (arith, nat_tests, h)

digits-graphic : (ds : List ℕ) → AllDigits 16 ds → list_all is_graphic ds ≡ true
digits-graphic [] h = refl
digits-graphic (c ∷ cs) h = both-true _ _ (digit-graphic c h.0) (digits-graphic cs h.1)

number-below : (k : ℕ) (p : ℕ → Bool) → number_of k p < 2 ^ k
unfolding number_of
number-below zero p = lit< tt
number-below (suc k) p = by (p k) (number_of k p) (number-below k p)
  where
    by : (b : Bool) (m : ℕ) → m < 2 ^ k → (if b then 2 ^ k else 0) + m < 2 ^ suc k
    by true m h = omega (arith, pow_more 2 k, h)
    by false m h = omega (arith, pow_more 2 k, h)

-- ---- statuses

new-again : (s : Numbers) → FitsSet s → set_field (codes "new=") (codes "new=" ++ hex (word_of MAX_CPUS s)) ≡ Ok s
new-again s h = ap (of_one (λ bits. members_of MAX_CPUS bits)) (hex-read (word_of MAX_CPUS s) (number-below MAX_CPUS (set.contains s))) ∙ ap (λ t. Ok t) h

stood-again : (s : Numbers) → FitsSet s → set_field (codes "stood=") (codes "stood=" ++ hex (word_of MAX_CPUS s)) ≡ Ok s
stood-again s h = ap (of_one (λ bits. members_of MAX_CPUS bits)) (hex-read (word_of MAX_CPUS s) (number-below MAX_CPUS (set.contains s))) ∙ ap (λ t. Ok t) h

set-graphic : (s : Numbers) → list_all is_graphic (hex (word_of MAX_CPUS s)) ≡ true
set-graphic s = digits-graphic (hex (word_of MAX_CPUS s)) (hex-numeral (word_of MAX_CPUS s) (number-below MAX_CPUS (set.contains s))).0.1

new-is : (s : Numbers) → is_word (codes "new=" ++ hex (word_of MAX_CPUS s)) ≡ true
new-is s = word-append (codes "new=") (hex (word_of MAX_CPUS s)) refl (set-graphic s)

stood-is : (s : Numbers) → is_word (codes "stood=" ++ hex (word_of MAX_CPUS s)) ≡ true
stood-is s = word-append (codes "stood=") (hex (word_of MAX_CPUS s)) refl (set-graphic s)

abbrev pic_text : Bool → List ℕ
pic_text pic = codes "pic=" ++ decimal (if pic then 1 else 0)

pic-again : (pic : Bool) → pic_field (pic_text pic) ≡ Ok pic
pic-again true = ap (λ d. pic_field (codes "pic=" ++ d)) (decimal_digit 1 (lit< tt))
pic-again false = ap (λ d. pic_field (codes "pic=" ++ d)) (decimal_digit 0 (lit< tt))

pic-is : (pic : Bool) → is_word (pic_text pic) ≡ true
pic-is true = ap (λ d. is_word (codes "pic=" ++ d)) (decimal_digit 1 (lit< tt))
pic-is false = ap (λ d. is_word (codes "pic=" ++ d)) (decimal_digit 0 (lit< tt))

cause-again : (c : Cause) → cause (cause_text c) ≡ Ok c
cause-again Masked = refl
cause-again Unrouted = refl
cause-again NoProcessor = refl
cause-again BadVector = refl
cause-again Mode = refl

cause-is : (c : Cause) → is_word (cause_text c) ≡ true
cause-is Masked = refl
cause-is Unrouted = refl
cause-is NoProcessor = refl
cause-is BadVector = refl
cause-is Mode = refl

-- a status whose words are read again; its name is none of another reply's
pub record StatusAgain (s : Status) : Type 0 where
  pub name : List ℕ
  pub words : List (List ℕ)
  pub spelled : status_text s ≡ name ++ spaced words
  pub read : status_named name words ≡ Ok s
  pub alone : reply (name ∷ words) ≡ of_one (λ t. Signal t) (status_named name words)
  pub are : are_words (name ∷ words) ≡ true

-- nothing stands behind a last word
last-word : (head word : List ℕ) → head ++ word ≡ head ++ (word ++ [])
last-word head word = ap (λ t. head ++ t) (sym (append-nil word))

pub status-again : (s : Status) → FitsStatus s → StatusAgain s
status-again (Delivered new stood pic) h =
    let a = hex (word_of MAX_CPUS new) in
    let b = hex (word_of MAX_CPUS stood) in
    record {
      name = codes "delivered";
      words = (codes "new=" ++ a) ∷ (codes "stood=" ++ b) ∷ pic_text pic ∷ [];
      spelled = ap (λ t. codes "delivered new=" ++ (a ++ (codes " stood=" ++ (b ++ t)))) (last-word (codes " pic=") (decimal (if pic then 1 else 0)));
      read = λ i. of_three (λ n s p. Delivered n s p) (new-again new h.0 i) (stood-again stood h.1 i) (pic-again pic i);
      alone = refl;
      are = both-true _ _ (new-is new) (both-true _ _ (stood-is stood) (both-true _ _ (pic-is pic) refl));
    }
status-again (Coalesced stood) h = record {
  name = codes "coalesced";
  words = (codes "stood=" ++ hex (word_of MAX_CPUS stood)) ∷ [];
  spelled = last-word (codes "coalesced stood=") (hex (word_of MAX_CPUS stood));
  read = λ i. of_one (λ s. Coalesced s) (stood-again stood h i);
  alone = refl;
  are = both-true _ _ (stood-is stood) refl;
}
status-again (Ignored c) h = record {
  name = codes "ignored";
  words = cause_text c ∷ [];
  spelled = last-word (codes "ignored ") (cause_text c);
  read = λ i. of_one (λ c. Ignored c) (cause-again c i);
  alone = refl;
  are = both-true _ _ (cause-is c) refl;
}
status-again Lowered h = record { name = codes "lowered"; words = []; spelled = refl; read = refl; alone = refl; are = refl }

-- ---- refusals

refusal-again : (r : Refusal) → worded (refusal_of (refusal_number r)) (refusal_word r) ≡ Ok r
refusal-again NoGsi = refl
refusal-again NoCounter = refl
refusal-again BadRow = refl
refusal-again ChipTwice = refl
refusal-again Mixed = refl
refusal-again PinTwice = refl
refusal-again Busy = refl
refusal-again RoleClash = refl
refusal-again Full = refl
refusal-again Exists = refl
refusal-again NotThere = refl
refusal-again BadRange = refl
refusal-again ChipAddress = refl
refusal-again Over = refl
refusal-again BadCount = refl
refusal-again NoLine = refl
refusal-again BadMsi = refl

refusal-small : (r : Refusal) → refusal_number r < 2 ^ 8
refusal-small NoGsi = lit< tt
refusal-small NoCounter = lit< tt
refusal-small BadRow = lit< tt
refusal-small ChipTwice = lit< tt
refusal-small Mixed = lit< tt
refusal-small PinTwice = lit< tt
refusal-small Busy = lit< tt
refusal-small RoleClash = lit< tt
refusal-small Full = lit< tt
refusal-small Exists = lit< tt
refusal-small NotThere = lit< tt
refusal-small BadRange = lit< tt
refusal-small ChipAddress = lit< tt
refusal-small Over = lit< tt
refusal-small BadCount = lit< tt
refusal-small NoLine = lit< tt
refusal-small BadMsi = lit< tt

refusal-is : (r : Refusal) → is_word (refusal_word r) ≡ true
refusal-is NoGsi = refl
refusal-is NoCounter = refl
refusal-is BadRow = refl
refusal-is ChipTwice = refl
refusal-is Mixed = refl
refusal-is PinTwice = refl
refusal-is Busy = refl
refusal-is RoleClash = refl
refusal-is Full = refl
refusal-is Exists = refl
refusal-is NotThere = refl
refusal-is BadRange = refl
refusal-is ChipAddress = refl
refusal-is Over = refl
refusal-is BadCount = refl
refusal-is NoLine = refl
refusal-is BadMsi = refl

-- ---- replies

-- a reply whose words are read again
pub record ReplyAgain (len : ℕ) (r : Reply) : Type 0 where
  pub name : List ℕ
  pub words : List (List ℕ)
  pub spelled : reply_text len r ≡ name ++ spaced words
  pub read : reply (name ∷ words) ≡ Ok r
  pub are : are_words (name ∷ words) ≡ true

byte-again : (v : ℕ) → v < 2 ^ 8 → hex8 (hex_text 2 v) ≡ Ok v
byte-again v h = hex-again 0xff 2 v (omega (arith, h)) (omega (arith, h)) (omega arith) (omega arith)

byte-is : (v : ℕ) → is_word (hex_text 2 v) ≡ true
byte-is v = hex-word 2 v (omega arith)

pub reply-again : (len : ℕ) (r : Reply) → FitsReply r → ReplyAgain len r
reply-again len (Signal s) h =
    let again = status-again s h in
    record {
      name = again.name;
      words = again.words;
      spelled = again.spelled;
      read = again.alone ∙ ap (of_one (λ t. Signal t)) again.read;
      are = again.are;
    }
reply-again len Done h = record { name = codes "done"; words = []; spelled = refl; read = refl; are = refl }
reply-again len Empty h = record { name = codes "empty"; words = []; spelled = refl; read = refl; are = refl }
reply-again len Exit h = record { name = codes "exit"; words = []; spelled = refl; read = refl; are = refl }
reply-again len Nmi h = record { name = codes "nmi"; words = []; spelled = refl; read = refl; are = refl }
reply-again len Nothing h = record { name = codes "nothing"; words = []; spelled = refl; read = refl; are = refl }
reply-again len (Count n) h = record {
  name = codes "count";
  words = decimal n ∷ [];
  spelled = last-word (codes "count ") (decimal n);
  read = λ i. of_one (λ x. Count x) (number64-again n h i);
  are = both-true _ _ (decimal-word n h) refl;
}
reply-again len (Removed n) h = record {
  name = codes "removed";
  words = decimal n ∷ [];
  spelled = last-word (codes "removed ") (decimal n);
  read = λ i. of_one (λ x. Removed x) (number8-again n h i);
  are = both-true _ _ (word8 n h) refl;
}
reply-again len (Value v) h = record {
  name = codes "value";
  words = value_text len v ∷ [];
  spelled = last-word (codes "value ") (value_text len v);
  read = λ i. of_one (λ x. Value x) (hex64-again (value_width len) v (width-fits len).0 (width-fits len).1 h i);
  are = both-true _ _ (hex-word (value_width len) v (width-fits len).0) refl;
}
reply-again len (Vector v) h = record {
  name = codes "vector";
  words = hex_text 2 v ∷ [];
  spelled = last-word (codes "vector ") (hex_text 2 v);
  read = λ i. of_one (λ x. Vector x) (byte-again v h i);
  are = both-true _ _ (byte-is v) refl;
}
reply-again len (Extint v) h = record {
  name = codes "extint";
  words = hex_text 2 v ∷ [];
  spelled = last-word (codes "extint ") (hex_text 2 v);
  read = λ i. of_one (λ x. Extint x) (byte-again v h i);
  are = both-true _ _ (byte-is v) refl;
}
reply-again len (Ended v) h = record {
  name = codes "ended";
  words = hex_text 2 v ∷ [];
  spelled = last-word (codes "ended ") (hex_text 2 v);
  read = λ i. of_one (λ x. Ended x) (byte-again v h i);
  are = both-true _ _ (byte-is v) refl;
}
reply-again len (Held n) h = record {
  name = codes "held";
  words = decimal n ∷ [];
  spelled = last-word (codes "held ") (decimal n);
  read = λ i. of_one (λ x. Held x) (number64-again n h i);
  are = both-true _ _ (decimal-word n h) refl;
}
reply-again len (Refused r) h = record {
  name = codes "refused";
  words = decimal (refusal_number r) ∷ refusal_word r ∷ [];
  spelled = ap (λ t. codes "refused " ++ (decimal (refusal_number r) ++ t)) (last-word (codes " ") (refusal_word r));
  read = ap (λ n. of_one (λ r. Refused r) (refusal_by n (refusal_word r))) (number8-again (refusal_number r) (refusal-small r)) ∙ ap (of_one (λ r. Refused r)) (refusal-again r);
  are = both-true _ _ (word8 (refusal_number r) (refusal-small r)) (both-true _ _ (refusal-is r) refl);
}

-- ---- decimal numbers begin with a digit

plain-first : (mark : ℕ) (ds rest : List ℕ) → (mark ≡ 45) → 0 < length ds → AllDigits 10 ds → (tail : List ℕ) → same_text (ds ++ rest) (mark ∷ tail) ≡ false
plain-first mark [] rest e some h tail = absurd (omega (arith, some))
plain-first mark (c ∷ cs) rest e some h tail = ap (λ b. b && same_text (cs ++ rest) tail) (other c (digit_from_value c h.0) e)
  where
    other : (c : ℕ) → (48 ≤ c) × (c ≤ 57) → mark ≡ 45 → nat_eq c mark ≡ false
    other c h e = grind (arith, nat_tests, h, e)

-- a text that begins with a decimal number is neither a dash nor an arrow
pub no-mark : (n : ℕ) (rest tail : List ℕ) → n < 2 ^ 64 → same_text (decimal n ++ rest) (45 ∷ tail) ≡ false
no-mark n rest tail h = plain-first 45 (decimal n) rest refl (decimal_nonempty n h) (decimal_is_IsNumeral n h).0.1 tail

no-dash : (g : ℕ) → g < 2 ^ 16 → same_text (decimal g) (codes "-") ≡ false
no-dash g h = ap (λ t. same_text t (codes "-")) (sym (append-nil (decimal g))) ∙ no-mark g [] [] (omega (arith, h))

-- ---- events

-- an event whose words are read again
pub record EventAgain (e : Event) : Type 0 where
  pub name : List ℕ
  pub words : List (List ℕ)
  pub spelled : event_text e ≡ name ++ spaced words
  pub read : event (name ∷ words) ≡ Ok e
  pub are : are_words (name ∷ words) ≡ true

abbrev gsi_text : Option ℕ → List ℕ
gsi_text None = codes "-"
gsi_text (Some g) = decimal g

gsi-again : (g : Option ℕ) → FitsIfThere 16 g → gsi_or_none (gsi_text g) ≡ Ok g
gsi-again None h = refl
gsi-again (Some g) h = plain (decimal g) (no-dash g h) ∙ ap (of_one (λ g. Some g)) (number16-again g h)
  where
    plain : (w : List ℕ) → same_text w (codes "-") ≡ false → gsi_or_none w ≡ of_one (λ g. Some g) (number16 w)
    plain w e = ap (λ b. if b then Ok None else of_one (λ g. Some g) (number16 w)) e

gsi-is : (g : Option ℕ) → FitsIfThere 16 g → is_word (gsi_text g) ≡ true
gsi-is None h = refl
gsi-is (Some g) h = word16 g h

pub event-again : (e : Event) → FitsEvent e → EventAgain e
event-again (Acked (Pic n) None) h = record {
  name = codes "acked";
  words = codes "pic" ∷ decimal n ∷ codes "gsi" ∷ gsi_text None ∷ [];
  spelled = refl;
  read = λ i. of_three (λ p _ g. Acked p g) (of_one (λ n. Pic n) (number8-again n h.0 i)) (Ok true) (gsi-again None h.1 i);
  are = both-true _ _ (word8 n h.0) (both-true _ _ (gsi-is None h.1) refl);
}
event-again (Acked (Pic n) (Some g)) h = record {
  name = codes "acked";
  words = codes "pic" ∷ decimal n ∷ codes "gsi" ∷ gsi_text (Some g) ∷ [];
  spelled = ap (λ t. codes "acked pic " ++ (decimal n ++ t)) (last-word (codes " gsi ") (decimal g));
  read = λ i. of_three (λ p _ g. Acked p g) (of_one (λ n. Pic n) (number8-again n h.0 i)) (Ok true) (gsi-again (Some g) h.1 i);
  are = both-true _ _ (word8 n h.0) (both-true _ _ (gsi-is (Some g) h.1) refl);
}
event-again (Acked (Ioapic n) None) h = record {
  name = codes "acked";
  words = codes "io" ∷ decimal n ∷ codes "gsi" ∷ gsi_text None ∷ [];
  spelled = refl;
  read = λ i. of_three (λ p _ g. Acked p g) (of_one (λ n. Ioapic n) (number8-again n h.0 i)) (Ok true) (gsi-again None h.1 i);
  are = both-true _ _ (word8 n h.0) (both-true _ _ (gsi-is None h.1) refl);
}
event-again (Acked (Ioapic n) (Some g)) h = record {
  name = codes "acked";
  words = codes "io" ∷ decimal n ∷ codes "gsi" ∷ gsi_text (Some g) ∷ [];
  spelled = ap (λ t. codes "acked io " ++ (decimal n ++ t)) (last-word (codes " gsi ") (decimal g));
  read = λ i. of_three (λ p _ g. Acked p g) (of_one (λ n. Ioapic n) (number8-again n h.0 i)) (Ok true) (gsi-again (Some g) h.1 i);
  are = both-true _ _ (word8 n h.0) (both-true _ _ (gsi-is (Some g) h.1) refl);
}
event-again (Resampled c) h = record {
  name = codes "resampled";
  words = decimal c ∷ [];
  spelled = last-word (codes "resampled ") (decimal c);
  read = λ i. of_one (λ c. Resampled c) (number16-again c h i);
  are = both-true _ _ (word16 c h) refl;
}
event-again (Watched c) h = record {
  name = codes "watched";
  words = decimal c ∷ [];
  spelled = last-word (codes "watched ") (decimal c);
  read = λ i. of_one (λ c. Watched c) (number16-again c h i);
  are = both-true _ _ (word16 c h) refl;
}
event-again (Rang c) h = record {
  name = codes "rang";
  words = decimal c ∷ [];
  spelled = last-word (codes "rang ") (decimal c);
  read = λ i. of_one (λ c. Rang c) (number16-again c h i);
  are = both-true _ _ (word16 c h) refl;
}
event-again (Injected gsi s) h =
    let again = status-again s h.1 in
    record {
      name = codes "injected";
      words = codes "gsi" ∷ decimal gsi ∷ again.name ∷ again.words;
      spelled = ap (λ t. codes "injected gsi " ++ (decimal gsi ++ 32 ∷ t)) again.spelled;
      read = λ i. of_three (λ _ g s. Injected g s) (Ok true) (number16-again gsi h.0 i) (again.read i);
      are = both-true _ _ (word16 gsi h.0) again.are;
    }
event-again (Resent n s) h =
    let again = status-again s h.1 in
    record {
      name = codes "resent";
      words = decimal n ∷ again.name ∷ again.words;
      spelled = ap (λ t. codes "resent " ++ (decimal n ++ 32 ∷ t)) again.spelled;
      read = λ i. of_two (λ n s. Resent n s) (number8-again n h.0 i) (again.read i);
      are = both-true _ _ (word8 n h.0) again.are;
    }
event-again (Ipi s) h =
    let again = status-again s h in
    record {
      name = codes "ipi";
      words = again.name ∷ again.words;
      spelled = ap (λ t. codes "ipi " ++ t) again.spelled;
      read = λ i. of_one (λ s. Ipi s) (again.read i);
      are = again.are;
    }
