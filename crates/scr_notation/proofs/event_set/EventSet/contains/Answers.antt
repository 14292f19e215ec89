use Rattle.std.proofs.Common.{◌≡◌, ◌<◌, ℕ, Bool, true, false, List, length, Some, ap, sym, ◌∙◌, subst, arith}
use Rattle.std.specs.Prelude.{slice_get}
use Rattle.std.proofs.lemmas.Option.{slice_get-get_or, slice_get_within, get_or_from_slice_get}
use Rattle.scr_notation.specs.Event.{events}
use Rattle.scr_notation.specs.EventSets.{Has}
use Rattle.scr_notation.proofs.EachEvent.{one_number}
use Rattle.scr_notation.proofs.event_set.EventSet.contains.Goals as goal

pub returns : goal.returns
returns c =
    let flags : List Bool = c.self.inside.flags in
    let n : ℕ = c.number.result in
    let below : n < length events = slice_get_within events n c.args.event c.number.ensures in
    let within : n < length flags = omega (arith, c.self.told, below) in
    let P : List Bool → Type 0 = λ set. Has set c.args.event in
    let Q : ℕ → Type 0 = λ k. slice_get flags k ≡ Some true in (
      λ flag. subst P c.self.view_is (record {
        number = n;
        of_event = c.number.ensures;
        set = slice_get-get_or flags n false within ∙ ap Some flag;
      }),
      λ there.
          let has = subst P (sym c.self.view_is) there in
          get_or_from_slice_get flags n true false (subst Q (one_number has.number n c.args.event has.of_event c.number.ensures) has.set),
    )
