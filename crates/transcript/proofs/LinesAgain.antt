-- Lines that are spelled are read again.
use Rattle.std.proofs.Common.{◌≡◌, ℕ, zero, suc, max, ◌*◌, ◌/◌, ◌%◌, ◌^◌, ◌<◌, ◌≤◌, Bool, true, false, not, ◌&&◌, nat_eq, List, [], ◌∷◌, ◌++◌, map, length, codes, Some, None, Ok, Err, if◌then◌else◌, refl, ap, sym, ◌∙◌, All, arith}
use Rattle.std.specs.Fmt.{decimal}
use Rattle.std.specs.Str.Parse.{AllDigits}
use Rattle.std.specs.List.{list_all}
use Rattle.std.specs.declared.option.Option.{Option}
use Rattle.std.proofs.lemmas.Bool.Decides.{nat_tests, Decides-eqb}
use Rattle.std.proofs.lemmas.Fmt.{decimal_is_IsNumeral, decimal_nonempty}
use Rattle.std.proofs.lemmas.List.{append-nil}
use Rattle.std.proofs.lemmas.List.Elements.{All-head, All-tail}
use Rattle.std.proofs.lemmas.List.Folds.{list_all-append}
use Rattle.std.proofs.lemmas.Str.Parse.{digit_from_value}
use Rattle.std.proofs.lemmas.Slice.Eq.{slice_eq-Decides}
use Rattle.irq_base.specs.Text.{caller_text}
use Rattle.irq_base.specs.declared.call.Call.{Call}
use Rattle.irq_base.specs.declared.call.Call.TheVariants.{Line, Msi, Write, Take, Assign, Deassign, Reroute, Attach, Detach, Watch, Unwatch, Tick, TickMode, PortOut, PortIn, Store, Load, Ack, Inta, Eoi}
use Rattle.irq_base.specs.declared.call.Caller.{Caller}
use Rattle.irq_base.specs.declared.call.Caller.TheVariants.{Device, Cpu}
use Rattle.irq_base.specs.declared.call.Row.{Row}
use Rattle.irq_base.specs.declared.call.Row.TheVariants.{Pic, Ioapic, Msi as MsiRow}
use Rattle.irq_base.specs.declared.call.Space.{Space}
use Rattle.irq_base.specs.declared.call.Space.TheVariants.{Port, Memory}
use Rattle.irq_base.specs.declared.event.Event.{Event}
use Rattle.irq_base.specs.declared.fault.LineCause.TheVariants.{Char, Word, Number}
use Rattle.irq_base.specs.declared.lists.Entry.{Entry}
use Rattle.script_text.specs.Causes.{of_one, of_three}
use Rattle.script_text.specs.Words.{same_text, words_of}
use Rattle.script_text.specs.Numbers.{hex_digit, hex_digits, hex_places, hex_text, value_width}
use Rattle.script_text.specs.Commands.{command}
use Rattle.script_text.specs.Scripts.{is_printable, is_digit}
use Rattle.script_text.specs.Spelling.{call_words, spaced, row_word, resample_words, match_words, binding_words, level_word, switch_word, value_text}
use Rattle.script_text.specs.Fitting.{FitsCall, FitsCaller, FitsIfThere, FitsRow}
use Rattle.script_text.proofs.Texts.{spaced-append}
use Rattle.script_text.proofs.WordsAgain.{is_word, are_words, both-true, and-right, words-again, none-empty, printable-joined, decimal-word, decimal-graphic, word-append}
use Rattle.script_text.proofs.Again.{digits-suc}
use Rattle.script_text.proofs.CommandsAgain.{width-fits}
use Rattle.script_text.proofs.CallsAgain.{call-again}
use Rattle.script_text.proofs.LinesAgain.{caller-again}
use Rattle.transcript.specs.declared.reading.Stage.TheVariants.{Within, Over}
use Rattle.transcript.specs.Text.{len_of, entry_line, event_line, ending_line}
use Rattle.transcript.specs.Reading.{exactly, spelled, before_arrow, behind_arrow, answer, asked_entry, entry, begins_with_digit, closed, entry_stage, with_event, event_stage, transcript, ending_stage, line_within, worded, begun, judge}
use Rattle.transcript.specs.Fitting.{FitsEvent, FitsEntry}
use Rattle.transcript.proofs.FieldsAgain.{no-mark, reply-again, event-again}

same-self : (a : List ℕ) → same_text a a ≡ true
same-self a = (slice_eq-Decides Decides-eqb a a (same_text a a) refl).1 refl

exactly-self : {A : Type 0} (text : List ℕ) (value : A) → exactly text text value ≡ Ok value
exactly-self text value = ap (λ b. if b then Ok value else Err Number) (same-self text)

-- a line of words is judged by its words
judged : (es : List Entry) (last : Option Entry) (line word : List ℕ) (words : List (List ℕ)) → line ≡ word ++ spaced words → is_word word ≡ true → are_words words ≡ true →
    judge (Within es last) line ≡ line_within es last line (word ∷ words)
unfolding judge
judged es last line word words e is are =
    ap (λ b. if b then begun (Within es last) line (words_of line) else Err Char) (ap (list_all is_printable) e ∙ printable-joined word words is are)
    ∙ ap (λ ws. worded ws (line_within es last line ws)) (ap words_of e ∙ words-again word words is are)
    ∙ ap (λ b. if b then Err Word else line_within es last line (word ∷ words)) (none-empty (word ∷ words) (both-true _ _ is are))

-- ---- events

pub event-judged : (es : List Entry) (last : Entry) (told : Event) → FitsEvent told → judge (Within es (Some last)) (event_line told) ≡ Ok (Within es (Some (with_event last told)))
event-judged es last told h =
    let again = event-again told h in
    judged es (Some last) (event_line told) (codes "+") (again.name ∷ again.words) (ap (λ t. codes "+ " ++ t) again.spelled) refl again.are
    ∙ ap (λ r. of_one (λ t. Within es (Some (with_event last t))) (spelled event_line (event_line told) r)) again.read
    ∙ ap (of_one (λ t. Within es (Some (with_event last t)))) (exactly-self (event_line told) told)

-- ---- the ending

pub ending-judged : (es : List Entry) (last : Option Entry) (spent : Bool) → length (closed es last) < 2 ^ 64 →
    judge (Within es last) (ending_line spent (length (closed es last))) ≡ Ok (Over (transcript (closed es last) spent))
ending-judged es last true h =
    let n = length (closed es last) in
    judged es last (ending_line true n) (codes "spent") (decimal n ∷ []) (ap (λ t. codes "spent " ++ t) (sym (append-nil (decimal n)))) refl (both-true _ _ (decimal-word n h) refl)
    ∙ exactly-self (ending_line true n) (Over (transcript (closed es last) true))
ending-judged es last false h =
    let n = length (closed es last) in
    judged es last (ending_line false n) (codes "end") (decimal n ∷ []) (ap (λ t. codes "end " ++ t) (sym (append-nil (decimal n)))) refl (both-true _ _ (decimal-word n h) refl)
    ∙ exactly-self (ending_line false n) (Over (transcript (closed es last) false))

-- ---- no word of a call is the arrow

abbrev is_plain : List ℕ → Bool
is_plain word = not (same_text word (codes "->"))

abbrev are_plain : List (List ℕ) → Bool
are_plain words = list_all is_plain words

before-plain : (ws rest : List (List ℕ)) → are_plain ws ≡ true → before_arrow (ws ++ codes "->" ∷ rest) ≡ ws
before-plain [] rest h = refl
before-plain (w ∷ ws) rest h = by (same_text w (codes "->")) h (before-plain ws rest)
  where
    by : (b : Bool) → (not b && are_plain ws) ≡ true → (are_plain ws ≡ true → before_arrow (ws ++ codes "->" ∷ rest) ≡ ws) → (if b then [] else w ∷ before_arrow (ws ++ codes "->" ∷ rest)) ≡ w ∷ ws
    by true k more = absurd (cc)
    by false k more = ap (λ t. w ∷ t) (more k)

behind-plain : (ws rest : List (List ℕ)) → are_plain ws ≡ true → behind_arrow (ws ++ codes "->" ∷ rest) ≡ Some rest
behind-plain [] rest h = refl
behind-plain (w ∷ ws) rest h = by (same_text w (codes "->")) h (behind-plain ws rest)
  where
    by : (b : Bool) → (not b && are_plain ws) ≡ true → (are_plain ws ≡ true → behind_arrow (ws ++ codes "->" ∷ rest) ≡ Some rest) → (if b then Some (ws ++ codes "->" ∷ rest) else behind_arrow (ws ++ codes "->" ∷ rest)) ≡ Some rest
    by true k more = absurd (cc)
    by false k more = more k

decimal-plain : (n : ℕ) → n < 2 ^ 64 → is_plain (decimal n) ≡ true
decimal-plain n h = ap not (ap (λ t. same_text t (codes "->")) (sym (append-nil (decimal n))) ∙ no-mark n [] (62 ∷ []) h)

plain16 : (n : ℕ) → n < 2 ^ 16 → is_plain (decimal n) ≡ true
plain16 n h = decimal-plain n (omega (arith, h))

plain8 : (n : ℕ) → n < 2 ^ 8 → is_plain (decimal n) ≡ true
plain8 n h = decimal-plain n (omega (arith, h))

hex-other : (v : ℕ) → v < 16 → nat_eq (hex_digit v) 45 ≡ false
hex-other v h = grind (arith, nat_tests, h)

digits-plain : (k n : ℕ) → 0 < k → is_plain (hex_digits k n) ≡ true
digits-plain zero n h = absurd (omega (arith, h))
digits-plain (suc k) n h =
    ap is_plain (digits-suc k n) ∙ ap (λ b. not (b && same_text (hex_digits k n) (codes ">"))) (hex-other (n / 2 ^ (4 * k) % 16) (omega arith))

hex-plain : (width n : ℕ) → 0 < width → is_plain (hex_text width n) ≡ true
hex-plain width n h = digits-plain (max width (hex_places 16 n)) n (omega (arith, h))

value-plain : (len n : ℕ) → is_plain (value_text len n) ≡ true
value-plain len n = hex-plain (value_width len) n (width-fits len).0

level-plain : (up : Bool) → is_plain (level_word up) ≡ true
level-plain true = refl
level-plain false = refl

switch-plain : (on : Bool) → is_plain (switch_word on) ≡ true
switch-plain true = refl
switch-plain false = refl

resample-plain : (r : Option ℕ) → FitsIfThere 16 r → are_plain (resample_words r) ≡ true
resample-plain None h = refl
resample-plain (Some c) h = both-true _ _ (plain16 c h) refl

match-plain : (len : ℕ) (want : Option ℕ) → are_plain (match_words len want) ≡ true
match-plain len None = refl
match-plain len (Some v) = both-true _ _ (value-plain len v) refl

binding-plain : (s : Space) (address len c : ℕ) (want : Option ℕ) → len < 2 ^ 8 → c < 2 ^ 16 → are_plain (binding_words s address len c want) ≡ true
binding-plain Port address len c want h k =
    both-true _ _ (hex-plain 4 address (omega arith)) (both-true _ _ (plain8 len h) (both-true _ _ (plain16 c k) (match-plain len want)))
binding-plain Memory address len c want h k =
    both-true _ _ (hex-plain 8 address (omega arith)) (both-true _ _ (plain8 len h) (both-true _ _ (plain16 c k) (match-plain len want)))

row-plain : (r : Row) → FitsRow r → is_plain (row_word r) ≡ true
row-plain (Pic gsi n) h = ap not (no-mark gsi _ (62 ∷ []) (omega (arith, h.0)))
row-plain (Ioapic gsi n) h = ap not (no-mark gsi _ (62 ∷ []) (omega (arith, h.0)))
row-plain (MsiRow gsi address payload) h = ap not (no-mark gsi _ (62 ∷ []) (omega (arith, h.0)))

rows-plain : (rs : List Row) → All FitsRow rs → are_plain (map row_word rs) ≡ true
rows-plain [] h = refl
rows-plain (r ∷ rs) h = both-true _ _ (row-plain r (All-head FitsRow r rs h)) (rows-plain rs (All-tail FitsRow r rs h))

call-plain : (call : Call) → FitsCall call → are_plain (call_words call) ≡ true
call-plain (Line gsi line up) h = both-true _ _ (plain16 gsi h.0) (both-true _ _ (plain8 line h.1) (both-true _ _ (level-plain up) refl))
call-plain (Msi address payload) h = both-true _ _ (hex-plain 8 address (omega arith)) (both-true _ _ (hex-plain 8 payload (omega arith)) refl)
call-plain (Write c n) h = both-true _ _ (plain16 c h.0) (both-true _ _ (decimal-plain n h.1) refl)
call-plain (Take c) h = both-true _ _ (plain16 c h) refl
call-plain (Assign c gsi resample) h = both-true _ _ (plain16 c h.0) (both-true _ _ (plain16 gsi h.1) (resample-plain resample h.2))
call-plain (Deassign c gsi) h = both-true _ _ (plain16 c h.0) (both-true _ _ (plain16 gsi h.1) refl)
call-plain (Reroute rows) h = rows-plain rows h
call-plain (Attach space address len c want) h = binding-plain space address len c want h.1 h.2
call-plain (Detach space address len c want) h = binding-plain space address len c want h.1 h.2
call-plain (Watch c gsi) h = both-true _ _ (plain16 c h.0) (both-true _ _ (plain16 gsi h.1) refl)
call-plain (Unwatch c gsi) h = both-true _ _ (plain16 c h.0) (both-true _ _ (plain16 gsi h.1) refl)
call-plain Tick h = refl
call-plain (TickMode reinject) h = both-true _ _ (switch-plain reinject) refl
call-plain (PortOut port len value) h = both-true _ _ (hex-plain 4 port (omega arith)) (both-true _ _ (plain8 len h.1) (both-true _ _ (value-plain len value) refl))
call-plain (PortIn port len) h = both-true _ _ (hex-plain 4 port (omega arith)) (both-true _ _ (plain8 len h.1) refl)
call-plain (Store address len value) h = both-true _ _ (hex-plain 8 address (omega arith)) (both-true _ _ (plain8 len h.1) (both-true _ _ (value-plain len value) refl))
call-plain (Load address len) h = both-true _ _ (hex-plain 8 address (omega arith)) (both-true _ _ (plain8 len h.1) refl)
call-plain Ack h = refl
call-plain Inta h = refl
call-plain Eoi h = refl

-- ---- entries

digit-first : (ds : List ℕ) → 0 < length ds → AllDigits 10 ds → begins_with_digit ds ≡ true
digit-first [] some h = absurd (omega (arith, some))
digit-first (c ∷ cs) some h = one c (digit_from_value c h.0)
  where
    one : (c : ℕ) → (48 ≤ c) × (c ≤ 57) → is_digit c ≡ true
    one c h = grind (arith, nat_tests, h)

entered : (es : List Entry) (last : Option Entry) (line name : List ℕ) (words : List (List ℕ)) → begins_with_digit name ≡ true →
    line_within es last line (name ∷ words) ≡ entry_stage (closed es last) line words
entered es last line name words h =
    ap (λ b. if b then entry_stage (closed es last) line words
    else if same_text name (codes "+") then event_stage es last line words
    else if same_text name (codes "end") then ending_stage (closed es last) false line words
    else if same_text name (codes "spent") then ending_stage (closed es last) true line words
    else Err Word) h

caller-is : (who : Caller) → FitsCaller who → is_word (caller_text who) ≡ true
caller-is (Device d) h = word-append (codes "dev") (decimal d) refl (decimal-graphic d (omega (arith, h)))
caller-is (Cpu n) h = word-append (codes "cpu") (decimal n) refl (decimal-graphic n (omega (arith, h)))

-- the entry of a line that is spelled, before its events
abbrev pub begun_entry : Entry → Entry
begun_entry e = asked_entry e.caller e.call e.reply

pub entry-judged : (es : List Entry) (last : Option Entry) (e : Entry) → FitsEntry e → length (closed es last) < 2 ^ 64 →
    judge (Within es last) (entry_line (length (closed es last)) e) ≡ Ok (Within (closed es last) (Some (begun_entry e)))
entry-judged es last e h few =
    let xs = closed es last in
    let n = length xs in
    let line = entry_line n e in
    let call = call-again e.call h.call in
    let answered = reply-again (len_of e.call) e.reply h.reply in
    let rest = answered.name ∷ answered.words in
    let words = caller_text e.caller ∷ (call_words e.call ++ codes "->" ∷ rest) in
    let named : are_plain (call.name ∷ call.words) ≡ true = ap are_plain (sym call.spelled) ∙ call-plain e.call h.call in
    let plain : are_plain call.words ≡ true = and-right _ _ named in
    let is_spelled : line ≡ decimal n ++ spaced words =
    ap (λ t. decimal n ++ 32 ∷ (caller_text e.caller ++ t))
    (ap (λ t. spaced (call_words e.call) ++ (codes " -> " ++ t)) answered.spelled ∙ sym (spaced-append (call_words e.call) (codes "->" ∷ rest))) in
    let called : are_words (call_words e.call) ≡ true = ap are_words call.spelled ∙ call.are in
    let are : are_words words ≡ true =
    both-true _ _ (caller-is e.caller h.caller)
    (list_all-append is_word (call_words e.call) (codes "->" ∷ rest) ∙ both-true _ _ called (both-true _ _ refl answered.are)) in
    let read : entry words ≡ Ok (begun_entry e) =
    ap (λ ws. entry (caller_text e.caller ∷ (ws ++ codes "->" ∷ rest))) call.spelled
    ∙ (λ i. of_three (λ w r c. asked_entry w c r) (caller-again e.caller h.caller i)
    ((ap answer (behind-plain call.words rest plain) ∙ answered.read) i)
    ((ap (command call.name) (before-plain call.words rest plain) ∙ call.read) i)) in
    judged es last line (decimal n) words is_spelled (decimal-word n few) are
    ∙ entered es last line (decimal n) words (digit-first (decimal n) (decimal_nonempty n few) (decimal_is_IsNumeral n few).0.1)
    ∙ ap (λ r. of_one (λ e. Within xs (Some e)) (spelled (entry_line n) line r)) read
    ∙ ap (of_one (λ e. Within xs (Some e))) (exactly-self line (begun_entry e))
