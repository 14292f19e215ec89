-- The version of a list, and what its first bytes tell of it.
use Rattle.std.proofs.Common.{◌≡◌, ℕ, ◌<◌, ◌≤◌, Bool, true, false, List, ◌++◌, length, refl, ap, arith, length-append}
use Rattle.std.specs.Prelude.{bytes_eq}
use Rattle.std.proofs.lemmas.List.{take-append-le}
use Rattle.std.proofs.lemmas.Slice.Eq.{bytes_eq-Decides}
use Rattle.std.proofs.lemmas.Bool.{cond_both}
use Rattle.scr_notation.specs.declared.event.Event.{Event}
use Rattle.scr_notation.specs.Event.{id_of}
use Rattle.scr_notation.proofs.EachEvent.{each_alike}
use Rattle.scr_list.specs.declared.version.Version.{Version}
use Rattle.scr_list.specs.Versions.{version_1, version_2, begins_with_version_line, version_of}

-- what is so of both versions is so of a list's
pub of_version : (P : Version → Type 0) (bytes : List ℕ) → P version_1 → P version_2 → P (version_of bytes)
unfolding version_of
of_version P bytes first second =
    cond_both (begins_with_version_line bytes) version_2 version_1 P (λ is. second) (λ is. first)

-- ---- more bytes behind

not_equal : (xs ys : List ℕ) → length ys < length xs → bytes_eq xs ys ≡ false
not_equal xs ys longer = at (bytes_eq xs ys) refl
  where
    at : (b : Bool) → bytes_eq xs ys ≡ b → b ≡ false
    at true is = let same = ap length ((bytes_eq-Decides xs ys).0 is) in absurd (omega arith)
    at false is = refl

-- Behind eleven bytes no byte matters: the line that tells a version has nine, and two more end it.
pub version_of-append : (xs ys : List ℕ) → 11 ≤ length xs → version_of (xs ++ ys) ≡ version_of xs
unfolding version_of
version_of-append xs ys long = grind (arith, length-append, take-append-le, not_equal)

-- a list that begins with an event tells no version
pub version_of-id : (e : Event) (rest : List ℕ) → version_of (id_of e ++ rest) ≡ version_1
unfolding version_of
version_of-id e rest = each_alike (λ x. version_of (id_of x ++ rest)) (λ x. version_1) refl e
