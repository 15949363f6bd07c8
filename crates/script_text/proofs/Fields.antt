-- Five fields are three of which the first is three.
use Rattle.std.proofs.Common.{◌≡◌, ap, ◌∙◌, Ok, Err}
use Rattle.std.specs.declared.result.Result.{Result}
use Rattle.irq_base.specs.declared.fault.LineCause.{LineCause}
use Rattle.script_text.specs.Causes.{all_three, all_five}

pub five : {A B C D E : Type 0} (a : Result A LineCause) (b : Result B LineCause) (c : Result C LineCause) (d : Result D LineCause) (x : Result E LineCause) (r : Result (A × B × C) LineCause) (e : LineCause) →
    r ≡ all_three a b c → Err e ≡ all_three r d x → Err e ≡ all_five a b c d x
five a (b) c d x r e is h =
    ap (λ s. elim s [ Ok w ↦ Ok (w.0.0, w.0.1, w.0.2, w.1, w.2) | Err e ↦ Err e ]) h ∙ ap (λ t. elim (all_three t d x) [ Ok w ↦ Ok (w.0.0, w.0.1, w.0.2, w.1, w.2) | Err e ↦ Err e ]) is
