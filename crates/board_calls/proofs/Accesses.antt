-- Accesses of the guest are their first steps and what follows.
use Rattle.std.proofs.Common.{◌≡◌, ℕ, Bool, true, false, nat_eq, if◌then◌else◌, List, [], ◌∷◌, ◌++◌, None, refl, ap, ◌∙◌}
use Rattle.irq_base.specs.declared.event.Pin.{Pin}
use Rattle.irq_base.specs.declared.reply.Reply.{Reply}
use Rattle.irq_base.specs.declared.reply.Reply.TheVariants.{Done, Value}
use Rattle.irq_base.specs.declared.shape.Part.TheVariants.{Pic, Ioapic}
use Rattle.irq_base.specs.declared.shape.Shape.{Shape}
use Rattle.pic_8259a.specs.declared.pair.AckedPins.{AckedPins}
use Rattle.pic_8259a.specs.Pair.{write_to as pair_write_to, read_from as pair_read_from}
use Rattle.ioapic_82093aa.specs.Pins.{write_to}
use Rattle.board_model.specs.Routing.{Routing}
use Rattle.board_model.specs.Chips.{PicPart, pair_of, IoapicPart, ioapic_of}
use Rattle.board_model.specs.Plan.{done, look, reply, ◌>>=◌, ◌>>◌}
use Rattle.board_raise.proofs.Composing.{bind-assoc}
use Rattle.board_ack.specs.Acknowledge.{acknowledge, acknowledge_each}
use Rattle.board_calls.specs.Accesses.{pair_written, pair_write, pair_gave, pair_read, resend_written, ioapic_written, ioapic_store}
use Rattle.board_calls.specs.Processors.{pic_pin, cycle_pins}
use Rattle.board_calls.specs.Accessed.{pair_after, writing, pair_polled, reading, cycling, cycle_answered, ioapic_after, storing}

-- ---- pins are acknowledged

pub each_in_turn : (routing : Routing) (shape : Shape) (xs ys : List Pin) → (acknowledge_each routing shape xs >> acknowledge_each routing shape ys) ≡ acknowledge_each routing shape (xs ++ ys)
each_in_turn routing shape [] ys = refl
each_in_turn routing shape (x ∷ xs) ys =
    bind-assoc (λ _. acknowledge_each routing shape xs) (λ _. acknowledge_each routing shape ys) (acknowledge routing shape x)
    ∙ ap (λ m. acknowledge routing shape x >> m) (each_in_turn routing shape xs ys)

-- ---- the 8259A pair

module _ (routing : Routing) (shape : Shape) where
  pub write_steps : (port len value : ℕ) → (writing port len value >>= (λ pin. acknowledge_each routing shape (pic_pin pin) >> reply Done)) ≡ pair_write routing shape port len value
  write_steps port len value = λ i. look Pic (λ pic. at pic (nat_eq len 1) i)
    where
      at : (pic : PicPart) (t : Bool) → ((if t then pair_after pic (pair_write_to (pair_of pic) port value) else done None) >>= (λ pin. acknowledge_each routing shape (pic_pin pin) >> reply Done))
          ≡ ((if t then pair_written routing shape pic (pair_write_to (pair_of pic) port value) else done tt) >> reply Done)
      at pic true = refl
      at pic false = refl

  pub read_steps : (port len : ℕ) → (reading port len >>= (λ gave. acknowledge_each routing shape (pic_pin gave.1) >> reply (Value gave.0))) ≡ pair_read routing shape port len
  read_steps port len = λ i. look Pic (λ pic. at pic (nat_eq len 1) i)
    where
      at : (pic : PicPart) (t : Bool) → ((if t then pair_polled pic (pair_read_from (pair_of pic) port) else done (0, None)) >>= (λ gave. acknowledge_each routing shape (pic_pin gave.1) >> reply (Value gave.0)))
          ≡ (if t then pair_gave routing shape pic (pair_read_from (pair_of pic) port) else reply (Value 0))
      at pic true = refl
      at pic false = refl

  pub cycle_steps : (answer : ℕ → Reply) → (cycling >>= (λ (gave : ℕ × AckedPins). acknowledge_each routing shape (cycle_pins gave.1) >> reply (answer gave.0))) ≡ cycle_answered routing shape answer
  cycle_steps answer = refl

-- ---- the I/O APIC

pub store_steps : (shape : Shape) (offset len value : ℕ) → (storing offset len value >>= (λ pin. resend_written shape pin >> reply Done)) ≡ ioapic_store shape offset len value
store_steps shape offset len value = λ i. look Ioapic (λ part. at part (nat_eq len 4) i)
  where
    at : (part : IoapicPart) (t : Bool) → ((if t then ioapic_after part (write_to (ioapic_of part) offset value) else done None) >>= (λ pin. resend_written shape pin >> reply Done))
        ≡ ((if t then ioapic_written shape part (write_to (ioapic_of part) offset value) else done tt) >> reply Done)
    at part true = refl
    at part false = refl
