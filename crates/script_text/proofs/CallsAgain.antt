-- Each call that is spelled is read again.
use Rattle.std.proofs.Common.{[], ◌∷◌, map, codes, refl, arith}
use Rattle.std.specs.Fmt.{decimal}
use Rattle.irq_base.specs.declared.call.Call.{Call}
use Rattle.irq_base.specs.declared.call.Call.TheVariants.{Line, Msi, Write, Take, Assign, Deassign, Reroute, Attach, Detach, Watch, Unwatch, Tick, TickMode, PortOut, PortIn, Store, Load, Ack, Inta, Eoi}
use Rattle.script_text.specs.Causes.{of_one, of_two, of_three}
use Rattle.script_text.specs.Numbers.{hex_text, value_width}
use Rattle.script_text.specs.Spelling.{resample_words, binding_words, level_word, switch_word, value_text, row_word}
use Rattle.script_text.specs.Fitting.{FitsCall}
use Rattle.script_text.proofs.WordsAgain.{both-true, decimal-word, hex-word}
use Rattle.script_text.proofs.CommandsAgain.{Again, number64-again, number16-again, number8-again, hex64-again, hex32-again, hex16-again, width-fits, word16, word8, level-again, level-is, switch-again, switch-is, resample-again, resample-are, binding-are, attach-again, detach-again}
use Rattle.script_text.proofs.RowsAgain.{rows-again, rows-are}

pub call-again : (call : Call) → FitsCall call → Again call
call-again (Line gsi line up) h = record {
  name = codes "line";
  words = decimal gsi ∷ decimal line ∷ level_word up ∷ [];
  spelled = refl;
  read = λ i. of_three (λ g l u. Line g l u) (number16-again gsi h.0 i) (number8-again line h.1 i) (level-again up i);
  are = both-true _ _ (word16 gsi h.0) (both-true _ _ (word8 line h.1) (both-true _ _ (level-is up) refl));
  once = refl;
  alone = refl;
}
call-again (Msi address payload) h = record {
  name = codes "msi";
  words = hex_text 8 address ∷ hex_text 8 payload ∷ [];
  spelled = refl;
  read = λ i. of_two (λ a p. Msi a p) (hex64-again 8 address (omega arith) (omega arith) h.0 i) (hex32-again 8 payload (omega arith) (omega arith) h.1 i);
  are = both-true _ _ (hex-word 8 address (omega arith)) (both-true _ _ (hex-word 8 payload (omega arith)) refl);
  once = refl;
  alone = refl;
}
call-again (Write c n) h = record {
  name = codes "write";
  words = decimal c ∷ decimal n ∷ [];
  spelled = refl;
  read = λ i. of_two (λ c n. Write c n) (number16-again c h.0 i) (number64-again n h.1 i);
  are = both-true _ _ (word16 c h.0) (both-true _ _ (decimal-word n h.1) refl);
  once = refl;
  alone = refl;
}
call-again (Take c) h = record {
  name = codes "take";
  words = decimal c ∷ [];
  spelled = refl;
  read = λ i. of_one (λ c. Take c) (number16-again c h i);
  are = both-true _ _ (word16 c h) refl;
  once = refl;
  alone = refl;
}
call-again (Assign c gsi resample) h = record {
  name = codes "assign";
  words = decimal c ∷ decimal gsi ∷ resample_words resample;
  spelled = refl;
  read = λ i. of_three (λ c g r. Assign c g r) (number16-again c h.0 i) (number16-again gsi h.1 i) (resample-again resample h.2 i);
  are = both-true _ _ (word16 c h.0) (both-true _ _ (word16 gsi h.1) (resample-are resample h.2));
  once = refl;
  alone = refl;
}
call-again (Deassign c gsi) h = record {
  name = codes "deassign";
  words = decimal c ∷ decimal gsi ∷ [];
  spelled = refl;
  read = λ i. of_two (λ c g. Deassign c g) (number16-again c h.0 i) (number16-again gsi h.1 i);
  are = both-true _ _ (word16 c h.0) (both-true _ _ (word16 gsi h.1) refl);
  once = refl;
  alone = refl;
}
call-again (Reroute rows) h = record {
  name = codes "reroute";
  words = map row_word rows;
  spelled = refl;
  read = λ i. of_one (λ rs. Reroute rs) (rows-again rows h i);
  are = rows-are rows h;
  once = refl;
  alone = refl;
}
call-again (Attach space address len c want) h = record {
  name = codes "attach";
  words = binding_words space address len c want;
  spelled = refl;
  read = attach-again space address len c want h;
  are = binding-are space address len c want h;
  once = refl;
  alone = refl;
}
call-again (Detach space address len c want) h = record {
  name = codes "detach";
  words = binding_words space address len c want;
  spelled = refl;
  read = detach-again space address len c want h;
  are = binding-are space address len c want h;
  once = refl;
  alone = refl;
}
call-again (Watch c gsi) h = record {
  name = codes "watch";
  words = decimal c ∷ decimal gsi ∷ [];
  spelled = refl;
  read = λ i. of_two (λ c g. Watch c g) (number16-again c h.0 i) (number16-again gsi h.1 i);
  are = both-true _ _ (word16 c h.0) (both-true _ _ (word16 gsi h.1) refl);
  once = refl;
  alone = refl;
}
call-again (Unwatch c gsi) h = record {
  name = codes "unwatch";
  words = decimal c ∷ decimal gsi ∷ [];
  spelled = refl;
  read = λ i. of_two (λ c g. Unwatch c g) (number16-again c h.0 i) (number16-again gsi h.1 i);
  are = both-true _ _ (word16 c h.0) (both-true _ _ (word16 gsi h.1) refl);
  once = refl;
  alone = refl;
}
call-again Tick h = record { name = codes "tick"; words = []; spelled = refl; read = refl; are = refl; once = refl; alone = refl }
call-again (TickMode reinject) h = record {
  name = codes "tickmode";
  words = switch_word reinject ∷ [];
  spelled = refl;
  read = λ i. of_one (λ r. TickMode r) (switch-again reinject i);
  are = both-true _ _ (switch-is reinject) refl;
  once = refl;
  alone = refl;
}
call-again (PortOut port len value) h = record {
  name = codes "out";
  words = hex_text 4 port ∷ decimal len ∷ value_text len value ∷ [];
  spelled = refl;
  read = λ i. of_three (λ p l v. PortOut p l v) (hex16-again 4 port (omega arith) (omega arith) h.0 i) (number8-again len h.1 i)
      (hex32-again (value_width len) value (width-fits len).0 (width-fits len).1 h.2 i);
  are = both-true _ _ (hex-word 4 port (omega arith)) (both-true _ _ (word8 len h.1) (both-true _ _ (hex-word (value_width len) value (width-fits len).0) refl));
  once = refl;
  alone = refl;
}
call-again (PortIn port len) h = record {
  name = codes "in";
  words = hex_text 4 port ∷ decimal len ∷ [];
  spelled = refl;
  read = λ i. of_two (λ p l. PortIn p l) (hex16-again 4 port (omega arith) (omega arith) h.0 i) (number8-again len h.1 i);
  are = both-true _ _ (hex-word 4 port (omega arith)) (both-true _ _ (word8 len h.1) refl);
  once = refl;
  alone = refl;
}
call-again (Store address len value) h = record {
  name = codes "store";
  words = hex_text 8 address ∷ decimal len ∷ value_text len value ∷ [];
  spelled = refl;
  read = λ i. of_three (λ a l v. Store a l v) (hex64-again 8 address (omega arith) (omega arith) h.0 i) (number8-again len h.1 i)
      (hex64-again (value_width len) value (width-fits len).0 (width-fits len).1 h.2 i);
  are = both-true _ _ (hex-word 8 address (omega arith)) (both-true _ _ (word8 len h.1) (both-true _ _ (hex-word (value_width len) value (width-fits len).0) refl));
  once = refl;
  alone = refl;
}
call-again (Load address len) h = record {
  name = codes "load";
  words = hex_text 8 address ∷ decimal len ∷ [];
  spelled = refl;
  read = λ i. of_two (λ a l. Load a l) (hex64-again 8 address (omega arith) (omega arith) h.0 i) (number8-again len h.1 i);
  are = both-true _ _ (hex-word 8 address (omega arith)) (both-true _ _ (word8 len h.1) refl);
  once = refl;
  alone = refl;
}
call-again Ack h = record { name = codes "ack"; words = []; spelled = refl; read = refl; are = refl; once = refl; alone = refl }
call-again Inta h = record { name = codes "inta"; words = []; spelled = refl; read = refl; are = refl; once = refl; alone = refl }
call-again Eoi h = record { name = codes "eoi"; words = []; spelled = refl; read = refl; are = refl; once = refl; alone = refl }
