-- The commands of scripts.
use Rattle.std.specs.Prelude.{ℕ, Bool, true, false, List, [], ◌∷◌, codes, Some, None, Ok, Err, if◌then◌else◌}
use Rattle.std.specs.declared.option.Option.{Option}
use Rattle.std.specs.declared.result.Result.{Result}
use Rattle.irq_base.specs.declared.fault.LineCause.{LineCause}
use Rattle.irq_base.specs.declared.fault.LineCause.TheVariants.{Word, Count, Number}
use Rattle.irq_base.specs.declared.call.Call.{Call}
use Rattle.irq_base.specs.declared.call.Call.TheVariants.{Line, Msi, Write, Take, Assign, Deassign, Reroute, Attach, Detach, Watch}
use Rattle.irq_base.specs.declared.call.Call.TheVariants.{Unwatch, Tick, TickMode, PortOut, PortIn, Store, Load, Ack, Inta, Eoi}
use Rattle.irq_base.specs.declared.call.Row.{Row}
use Rattle.irq_base.specs.declared.call.Row.TheVariants.{Pic, Ioapic, Msi as MsiRow}
use Rattle.irq_base.specs.declared.call.Space.{Space}
use Rattle.irq_base.specs.declared.call.Space.TheVariants.{Port, Memory}
use Rattle.script_text.specs.Causes.{of_one, of_two, of_three, of_five}
use Rattle.script_text.specs.Words.{same_text, parts_of, is_empty, none, one, two, three}
use Rattle.script_text.specs.Numbers.{hex64, hex32, hex16, number64, number16, number8}

-- one of two fixed words
abbrev pub choice : {A : Type 0} → List ℕ → A → List ℕ → A → List ℕ → Result A LineCause
choice first a second b word = if same_text word first then Ok a else if same_text word second then Ok b else Err Count

abbrev pub space : List ℕ → Result Space LineCause
space word = choice (codes "port") Port (codes "mem") Memory word

abbrev pub level : List ℕ → Result Bool LineCause
level word = choice (codes "up") true (codes "down") false word

abbrev pub switch : List ℕ → Result Bool LineCause
switch word = choice (codes "on") true (codes "off") false word

-- a fixed word
abbrev pub fixed_word : List ℕ → List ℕ → Result Bool LineCause
fixed_word fixed word = if same_text word fixed then Ok true else Err Count

-- nothing, or a fixed word and a field behind it
abbrev pub optional : {A : Type 0} → List ℕ → (List ℕ → Result A LineCause) → List (List ℕ) → Result (Option A) LineCause
optional fixed field words =
    if is_empty words then Ok None
    else two words (λ word value. of_two (λ _ v. Some v) (fixed_word fixed word) (field value))

-- `C GSI`, and then `resample C` if wanted
abbrev pub assign : List (List ℕ) → Result Call LineCause
assign (c ∷ gsi ∷ more) =
    of_three (λ c g r. Assign c g r) (number16 c) (number16 gsi) (optional (codes "resample") number16 more)
assign _ = Err Count

-- `SPACE ADDR LEN C`, and then `match VALUE` if wanted
abbrev pub binding : (Space → ℕ → ℕ → ℕ → Option ℕ → Call) → List (List ℕ) → Result Call LineCause
binding call (s ∷ address ∷ len ∷ c ∷ more) =
    of_five call (space s) (hex64 address) (number8 len) (number16 c) (optional (codes "match") hex64 more)
binding call _ = Err Count

-- a target: `pic.N`, `io.N` or `msi.ADDR.PAYLOAD`
abbrev pub to_pin : List ℕ → List ℕ → List ℕ → Result Row LineCause
to_pin gsi kind n =
    if same_text kind (codes "pic") then of_two (λ g n. Pic g n) (number16 gsi) (number8 n)
    else if same_text kind (codes "io") then of_two (λ g n. Ioapic g n) (number16 gsi) (number8 n)
    else Err Number

abbrev pub to_message : List ℕ → List ℕ → List ℕ → List ℕ → Result Row LineCause
to_message gsi kind address payload =
    if same_text kind (codes "msi") then of_three (λ g a p. MsiRow g a p) (number16 gsi) (hex64 address) (hex32 payload)
    else Err Number

abbrev pub to_target : List ℕ → List (List ℕ) → Result Row LineCause
to_target gsi (kind ∷ n ∷ []) = to_pin gsi kind n
to_target gsi (kind ∷ address ∷ payload ∷ []) = to_message gsi kind address payload
to_target gsi _ = Err Number

-- a row: a GSI, `=`, and a target
abbrev pub row_parts : List (List ℕ) → Result Row LineCause
row_parts (gsi ∷ target ∷ []) = to_target gsi (parts_of 46 target)
row_parts _ = Err Number

abbrev pub row : List ℕ → Result Row LineCause
row word = row_parts (parts_of 61 word)

-- any number of rows
abbrev pub with_row : Result Row LineCause → Result (List Row) LineCause → Result (List Row) LineCause
with_row (Ok r) (Ok rs) = Ok (r ∷ rs)
with_row (Ok r) (Err e) = Err e
with_row (Err e) rs = Err e

abbrev pub rows : List (List ℕ) → Result (List Row) LineCause
rows [] = Ok []
rows (word ∷ words) = with_row (row word) (rows words)

-- the words of a command: so many, and each of its kind
abbrev pub one_field : {A X : Type 0} → (A → X) → (List ℕ → Result A LineCause) → List (List ℕ) → Result X LineCause
one_field make a words = one words (λ v. of_one make (a v))

abbrev pub two_fields : {A B X : Type 0} → (A → B → X) → (List ℕ → Result A LineCause) → (List ℕ → Result B LineCause)
    → List (List ℕ) → Result X LineCause
two_fields make a b words = two words (λ v w. of_two make (a v) (b w))

abbrev pub three_fields : {A B C X : Type 0} → (A → B → C → X)
    → (List ℕ → Result A LineCause) → (List ℕ → Result B LineCause) → (List ℕ → Result C LineCause)
    → List (List ℕ) → Result X LineCause
three_fields make a b c words = three words (λ v w x. of_three make (a v) (b w) (c x))

-- the table of commands: the first word, and what follows it
abbrev pub command : List ℕ → List (List ℕ) → Result Call LineCause
command name words =
    if same_text name (codes "line") then three_fields (λ g l u. Line g l u) number16 number8 level words
    else if same_text name (codes "msi") then two_fields (λ a p. Msi a p) hex64 hex32 words
    else if same_text name (codes "write") then two_fields (λ c n. Write c n) number16 number64 words
    else if same_text name (codes "take") then one_field (λ c. Take c) number16 words
    else if same_text name (codes "assign") then assign words
    else if same_text name (codes "deassign") then two_fields (λ c g. Deassign c g) number16 number16 words
    else if same_text name (codes "reroute") then of_one (λ rs. Reroute rs) (rows words)
    else if same_text name (codes "attach") then binding (λ s a l c w. Attach s a l c w) words
    else if same_text name (codes "detach") then binding (λ s a l c w. Detach s a l c w) words
    else if same_text name (codes "watch") then two_fields (λ c g. Watch c g) number16 number16 words
    else if same_text name (codes "unwatch") then two_fields (λ c g. Unwatch c g) number16 number16 words
    else if same_text name (codes "tick") then none words Tick
    else if same_text name (codes "tickmode") then one_field (λ r. TickMode r) switch words
    else if same_text name (codes "out") then three_fields (λ p l v. PortOut p l v) hex16 number8 hex32 words
    else if same_text name (codes "in") then two_fields (λ p l. PortIn p l) hex16 number8 words
    else if same_text name (codes "store") then three_fields (λ a l v. Store a l v) hex64 number8 hex64 words
    else if same_text name (codes "load") then two_fields (λ a l. Load a l) hex64 number8 words
    else if same_text name (codes "ack") then none words Ack
    else if same_text name (codes "inta") then none words Inta
    else if same_text name (codes "eoi") then none words Eoi
    else Err Word
