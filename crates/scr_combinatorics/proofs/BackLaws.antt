-- A word taken back leads back.
use Rattle.std.proofs.Common.{◌≡◌, List, [], ◌∷◌, ◌++◌, Option, Some, sym, ap, ◌∙◌}
use Rattle.std.specs.Prelude.{map}
use mathlib.Core.List.{reverse-cons}
use Rattle.scr_combinatorics.specs.Play.{play}
use Rattle.scr_combinatorics.specs.Back.{back, IsTakenBack}
use Rattle.scr_combinatorics.specs.Tidy.{Merging}
use Rattle.scr_combinatorics.specs.Lawful.{IsLawful}
use Rattle.scr_combinatorics.proofs.PlayLaws.{play-empty, play-parts, play-append, play-one}

-- the first turn is taken back last
pub back-first : {T : Type 0} (opposite : T → T) (t : T) (w : List T)
    → back opposite (t ∷ w) ≡ back opposite w ++ opposite t ∷ []
back-first opposite t w = reverse-cons (opposite t) (map opposite w)

pub IsTakenBack-lawful : {S T : Type 0} (after : S → T → Option S) (opposite : T → T) (m : Merging T) (IsValid : S → Type 0)
    → IsLawful after opposite m IsValid → IsTakenBack after opposite IsValid
IsTakenBack-lawful after opposite m IsValid l s r [] v e =
    let d = play-empty after s in let f = play-empty after r in let same : s ≡ r = cc in f ∙ ap Some (sym same)
IsTakenBack-lawful after opposite m IsValid l s r (t ∷ w) v e =
    let parts = play-parts after s r t w e in
    ap (play after r) (back-first opposite t w)
    ∙ play-append after r parts.0 (back opposite w) (opposite t ∷ [])
    (IsTakenBack-lawful after opposite m IsValid l parts.0 r w (l.keeps s parts.0 t v parts.1) parts.2)
    ∙ play-one after parts.0 (opposite t) ∙ l.undoes s parts.0 t v parts.1
