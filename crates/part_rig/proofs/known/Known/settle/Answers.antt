use Rattle.std.proofs.Common.{refl, ◌∙◌, slice_index}
use Rattle.turn_book.specs.Views.{view_of}
use Rattle.part_rig.specs.Noted.{published_in}
use Rattle.part_rig.proofs.Telling.{settled_told}
use Rattle.part_rig.proofs.Pins.{settled_pins}
use Rattle.part_rig.proofs.known.Known.settle.Goals as goal

pub invariant_of-self : goal.invariant_of-self
invariant_of-self c =
    let v = view_of c.args.pen.now.seat in
    let places = c.args.self.now.places.items in
    record {
      count = c.args.self.now.count;
      told = λ k w e. (λ i. slice_index (published_in (view_of (c.of.ensures i).seat)) k)
          ∙ settled_told v c.args.generation places c.requires.legal c.requires.generation c.requires.right c.requires.noted k w e;
      pins = settled_pins v c.args.generation places c.requires.legal c.requires.generation c.requires.right c.requires.noted;
      low = refl;
      blank = refl;
    }
