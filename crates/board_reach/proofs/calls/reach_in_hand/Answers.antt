use Rattle.board_reach.proofs.Basics.{refl, subst, Registry, Counters, Tick, Pic, Ioapic, registry_of, pic_of, ioapic_at_hand as ioapic_of, PartsFit}
use Rattle.board_reach.proofs.SeenParts.{seen_fits, not_whole, not_here}
use Rattle.board_reach.proofs.calls.reach_in_hand.Goals as goal
use Rattle.board_reach.proofs.calls.reach_in_hand.Goals.{in_default-via-in-Some+in-Some+in-Some+in-Some+in_default, in_default-via-in-Some+in-Some+in-Some+in_default, in_default-via-in-Some+in-Some+in_default, in_default-via-in-Some+in_default, in_default-via-in_default}

pub reach_seen-requires-clause-fits : goal.reach_seen-requires-clause-fits
reach_seen-requires-clause-fits c =
    let some = c.in-Some-Some-Some-Some-Some in
    seen_fits _ (subst (PartsFit c.args.shape.now) (λ i. record { registry = some.is-0 i; counters = some.is-1 i; tick = some.is-2 i; pic = some.is-3 i; ioapic = some.is-4 i; lapics = c.args.parts.now.lapics }) c.requires.fits)

pub unreachable-requires : goal.unreachable-requires
unreachable-requires c =
    let here = c.requires.fits.whole.each in
    let now = c.args.parts.now in
    elim c.in_default.branch [
      | in_default-via-in-Some+in-Some+in-Some+in-Some+in_default w ↦ not_whole ioapic_of now.ioapic (here Ioapic refl) w.in_default.is-4
      | in_default-via-in-Some+in-Some+in-Some+in_default w ↦ not_whole pic_of now.pic (here Pic refl) w.in_default.is-3
      | in_default-via-in-Some+in-Some+in_default w ↦ not_here now.tick (here Tick refl) w.in_default.is-2
      | in_default-via-in-Some+in_default w ↦ not_here now.counters (here Counters refl) w.in_default.is-1
      | in_default-via-in_default w ↦ not_whole registry_of now.registry (here Registry refl) w.in_default.is-0
    ]
