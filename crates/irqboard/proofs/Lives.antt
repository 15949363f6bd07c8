-- A script ran on a running board, and its transcript was made.
use Rattle.std.proofs.Common.{◌≡◌, ℕ, List, [], ◌++◌, append-nil, length, take, ◌<◌, All, IfSome, Bool, is_some, Ok, Some, None, sym, ap, ◌∙◌, subst}
use Rattle.std.specs.declared.option.Option.{Option}
use Rattle.std.specs.Io.KnownBytes.{Consumes, Appends, IsAtEnd}
use Rattle.irq_base.specs.declared.lists.Entry.{Entry}
use Rattle.irq_base.specs.declared.reply.Spent.{Spent as Limit}
use Rattle.script_text.specs.Scripts.{Script, script_of}
use Rattle.transcript.specs.Text.{text_of}
use Rattle.part_board.specs.declared.desk.Desk.{Desk}
use Rattle.part_board.specs.declared.pass.Pass.{Pass}
use Rattle.live_runs.specs.Made.{HasLearnt, HasMadeJust}
use Rattle.live_runs.specs.Running.{IsRun}
use Rattle.irqboard.specs.Benches.{WorksLive}
use Rattle.irqboard.specs.Done.{answer_of_replay}
use Rattle.irqboard.specs.Runs.{RanOn, IsLiveRun, RanInPart}
use Rattle.irqboard.specs.Answers.{JudgesRightly, WritesRightly, IsAnswered}
use Rattle.irqboard.specs.Output.{AppendsPart}
use Rattle.irqboard.specs.Works.{Works}
use Rattle.irqboard.specs.declared.command.Command.{Command}
use Rattle.irqboard.specs.declared.command.Command.TheVariants.{Run}
use Rattle.irqboard.specs.declared.live.Live.{Live}
use Rattle.irqboard.specs.declared.outcome.Outcome.{Outcome}
use Rattle.irqboard.specs.declared.outcome.Outcome.TheVariants.{Fine, Usage, BadInput, ReadFault, WriteFault, NoMemory, TooLong, NotLegal, Spent}
use Rattle.irqboard.proofs.Together.{run_with}

pub live_done : (live : Live) (input : List ℕ) (s : Script) (history : List Entry) (spent : Option Limit) (ends : Bool) (text : List ℕ)
    → script_of input ≡ Ok s → IsRun s history spent → RanOn live s history → ends ≡ is_some spent → text ≡ text_of (run_with history ends)
    → WorksLive live input (answer_of_replay spent) text
live_done live input s history spent ends text reads run ran ends_so written = by spent done
  where
    done : IsLiveRun live input spent text
    done = record {
      script = s;
      reads = reads;
      history = history;
      run = run;
      ran = ran;
      written = written ∙ ap (λ t. text_of (run_with history t)) ends_so;
    }

    by : (spent : Option Limit) → IsLiveRun live input spent text → WorksLive live input (answer_of_replay spent) text
    by None d = d
    by (Some limit) d = d

-- the text is that of a run on some board
pub some_run : (live : Live) (input : List ℕ) (outcome : Outcome) (text : List ℕ) → WorksLive live input outcome text → Works Run input outcome text
some_run live input Fine text d = record { live = live; run = d }
some_run live input Usage text d = d
some_run live input (BadInput line cause) text d = d
some_run live input ReadFault text d = d
some_run live input WriteFault text d = d
some_run live input NoMemory text d = d
some_run live input (TooLong bytes) text d = d
some_run live input (NotLegal at flaw) text d = d
some_run live input (Spent limit) text d = record { live = live; run = d }

-- a limit stopped an actor, or none did
some_limit : (live : Live) (input : List ℕ) (outcome : Outcome) (text : List ℕ) → WorksLive live input outcome text → (spent : Option Limit) × IsLiveRun live input spent text
some_limit live input Fine text d = (None, d)
some_limit live input Usage text d = absurd d
some_limit live input (BadInput line cause) text d = absurd d
some_limit live input ReadFault text d = absurd d
some_limit live input WriteFault text d = absurd d
some_limit live input NoMemory text d = absurd d
some_limit live input (TooLong bytes) text d = absurd d
some_limit live input (NotLegal at flaw) text d = absurd d
some_limit live input (Spent limit) text d = (Some limit, d)

-- a front of the text of the run was written
pub ran_in_part : (live : Live) (left left' held holds : Option (List ℕ)) (bytes input text written : List ℕ) (outcome : Outcome)
    → Consumes left left' bytes → IsAtEnd left' → input ≡ bytes → WorksLive live input outcome text → written ≡ text → AppendsPart held holds written
    → RanInPart live left left' held holds
ran_in_part live left left' held holds bytes input text written outcome read end same works is front = record {
  input = input;
  spent = (some_limit live input outcome text works).0;
  text = text;
  read = subst (λ (bs : List ℕ). Consumes left left' bs) (sym same) read;
  end = end;
  run = (some_limit live input outcome text works).1;
  front = subst (λ (t : List ℕ). AppendsPart held holds t) is front;
}

-- a desk and passes that are these have made what these have
pub made_there : (there desk : Desk) (passes' passes : List Pass) → there ≡ desk → passes' ≡ passes → HasMadeJust desk passes → HasMadeJust there passes'
made_there there desk passes' passes same_desk same_passes made =
    subst (λ (d : Desk). HasMadeJust d passes') (sym same_desk) (subst (λ (ps : List Pass). HasMadeJust desk ps) (sym same_passes) made)

-- passes that are these have learnt what these have
pub learnt_there : (history : List Entry) (passes' passes : List Pass) → passes' ≡ passes → All (HasLearnt history) passes → All (HasLearnt history) passes'
learnt_there history passes' passes same learnt = subst (λ (ps : List Pass). All (HasLearnt history) ps) (sym same) learnt

-- ---- an input that was read to its end, and its work

-- what is told of the command holds of the command that the words are
pub with_command : (P : Command → Type 0) (o : Option Command) (command : Command) → o ≡ Some command → P command → IfSome o P
with_command P o command is holds = subst (λ (q : Option Command). IfSome q P) (sym is) holds

-- the bytes that were read are those that were there
all_read : (x y bytes : List ℕ) → x ≡ bytes ++ y → y ≡ [] → bytes ≡ x
all_read x y bytes read end = sym (read ∙ ap (λ (l : List ℕ). bytes ++ l) end ∙ append-nil bytes)

judged_by : (x : List ℕ) (left : Option (List ℕ)) (outcome : Outcome) (text : List ℕ) → left ≡ Some [] → Works Run x outcome text → JudgesRightly Run (Some x) left outcome
judged_by x left Fine text end w = ((text, w), end)
judged_by x left Usage text end w = tt
judged_by x left (BadInput line cause) text end w = absurd w
judged_by x left ReadFault text end w = tt
judged_by x left WriteFault text end w = absurd w
judged_by x left NoMemory text end w = tt
judged_by x left (TooLong bytes) text end w = tt
judged_by x left (NotLegal at flaw) text end w = absurd w
judged_by x left (Spent limit) text end w = ((text, w), end)

untold : (left : Option (List ℕ)) (outcome : Outcome) → JudgesRightly Run None left outcome
untold left Fine = tt
untold left Usage = tt
untold left (BadInput line cause) = tt
untold left ReadFault = tt
untold left WriteFault = tt
untold left NoMemory = tt
untold left (TooLong bytes) = tt
untold left (NotLegal at flaw) = tt
untold left (Spent limit) = tt

module _ (left left' : Option (List ℕ)) (bytes input text : List ℕ) (outcome : Outcome)
    (read : Consumes left left' bytes) (end : IsAtEnd left') (same : input ≡ bytes) (works : Works Run input outcome text) where
  abbrev OfSome : Option (List ℕ) → Option (List ℕ) → (List ℕ → Option (List ℕ) → Type 0) → Type 0
  OfSome None new P = Unit {0}
  OfSome (Some x) new P = P x new

  -- where the source tells its bytes, they are the input, and none is left
  told : (old new : Option (List ℕ)) → Consumes old new bytes → IsAtEnd new → OfSome old new (λ x now. (input ≡ x) × (now ≡ Some []))
  told None new r e = tt
  told (Some x) None r e = absurd r
  told (Some x) (Some y) r e = (same ∙ all_read x y bytes r e, ap Some e)

  pub judged : JudgesRightly Run left left' outcome
  judged = by left (told left left' read end)
    where
      by : (old : Option (List ℕ)) → OfSome old left' (λ x now. (input ≡ x) × (now ≡ Some [])) → JudgesRightly Run old left' outcome
      by None t = untold left' outcome
      by (Some x) t = judged_by x left' outcome text t.1 (subst (λ (i : List ℕ). Works Run i outcome text) t.0 works)

  pub judged_fault : JudgesRightly Run left left' WriteFault
  judged_fault = by left (told left left' read end)
    where
      by : (old : Option (List ℕ)) → OfSome old left' (λ x now. (input ≡ x) × (now ≡ Some [])) → JudgesRightly Run old left' WriteFault
      by None t = tt
      by (Some x) t = ((outcome, (text, subst (λ (i : List ℕ). Works Run i outcome text) t.0 works)), t.1)

  pub answered_so : IsAnswered Run left outcome
  answered_so = by outcome left (told left left' read end) works
    where
      some : (o : Outcome) (x : List ℕ) → input ≡ x → Works Run input o text → Works Run x o text
      some o x is w = subst (λ (i : List ℕ). Works Run i o text) is w

      by : (o : Outcome) (old : Option (List ℕ)) → OfSome old left' (λ x now. (input ≡ x) × (now ≡ Some [])) → Works Run input o text → IsAnswered Run old o
      by NoMemory old t w = tt
      by Fine None t w = tt
      by Fine (Some x) t w = (text, some Fine x t.0 w)
      by Usage None t w = tt
      by Usage (Some x) t w = absurd w
      by (BadInput line cause) None t w = tt
      by (BadInput line cause) (Some x) t w = absurd w
      by ReadFault None t w = tt
      by ReadFault (Some x) t w = absurd w
      by WriteFault None t w = tt
      by WriteFault (Some x) t w = absurd w
      by (TooLong n) None t w = tt
      by (TooLong n) (Some x) t w = absurd w
      by (NotLegal at flaw) None t w = tt
      by (NotLegal at flaw) (Some x) t w = absurd w
      by (Spent limit) None t w = tt
      by (Spent limit) (Some x) t w = (text, some (Spent limit) x t.0 w)

  -- a front of the text was written
  pub wrote_front : (held holds : Option (List ℕ)) (written : List ℕ) → written ≡ text → AppendsPart held holds written → WritesRightly Run left held holds WriteFault
  wrote_front held holds written is (n, low, wrote) = by left held holds (told left left' read end) (subst (λ (t : List ℕ). Appends held holds (take n t)) is wrote)
    where
      by : (old h k : Option (List ℕ)) → OfSome old left' (λ x now. (input ≡ x) × (now ≡ Some [])) → Appends h k (take n text) → WritesRightly Run old h k WriteFault
      by None h k t a = tt
      by (Some x) None k t a = tt
      by (Some x) (Some h) None t a = absurd a
      by (Some x) (Some h) (Some k) t a =
          (outcome, text, n, subst (λ (i : List ℕ). Works Run i outcome text) t.0 works, subst (λ (w : List ℕ). n < length w) is low, ap Some a)
