use Rattle.std.proofs.Common.{◌≡◌, ◌<◌, get_or, set, length, slice_get, refl, sym, ap, ◌∙◌, subst, Some}
use Rattle.std.proofs.lemmas.List.{set-get_or}
use Rattle.std.proofs.lemmas.Option.{slice_get-get_or}
use Rattle.board_raise.proofs.row.LapicRow.at_mut.Goals as goal

pub returns : goal.returns
returns c =
    let place = c.index_mut-place.result.now in
    let items = c.self.inside.places.items in
    let found : place ≡ get_or items c.args.n place = c.index_mut-place.ensures.value in
    let stays : set items c.args.n place ≡ c.args.self.now = ap (λ x. set items c.args.n x) found ∙ set-get_or items c.args.n place ∙ c.self.view_is in
    let within : c.args.n < length items = subst (λ row. c.args.n < length row) (sym c.self.view_is) c.requires in (
      rw (stays, ← c.self.view_is) refl,
      record {
        lends = tt;
        value =
            ap (λ row. slice_get row c.args.n) (sym c.self.view_is)
            ∙ slice_get-get_or items c.args.n place within
            ∙ ap (λ x. Some x) (sym found ∙ sym c.as_mut.ensures.value);
      },
    )
