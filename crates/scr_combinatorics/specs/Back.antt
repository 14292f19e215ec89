-- Taking a word back.
use Rattle.std.specs.Prelude.{◌≡◌, List, map, reverse, Option, Some}
use Rattle.scr_combinatorics.specs.Play.{play}

-- the reversed word of opposite turns
abbrev pub back : {T : Type 0} → (T → T) → List T → List T
back opposite w = reverse (map opposite w)

-- Wherever a word is defined from a valid state, the word taken back leads back to that state.
abbrev pub IsTakenBack : {S T : Type 0} → (S → T → Option S) → (T → T) → (S → Type 0) → Type 0
IsTakenBack {S} {T} after opposite IsValid =
    (s r : S) (w : List T) → IsValid s → play after s w ≡ Some r → play after r (back opposite w) ≡ Some s
