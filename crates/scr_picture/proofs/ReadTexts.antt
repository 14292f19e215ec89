-- Letters are read back from their text.
use Rattle.std.proofs.Common.{◌≡◌, ℕ, zero, suc, ◌+◌, ◌*◌, ◌<◌, List, [], ◌∷◌, ◌++◌, map, get_or, refl, ap, ◌∙◌}
use Rattle.std.specs.Prelude.{All, ◌==◌, if◌then◌else◌, flat_map, codes, position, slice_index, unwrap_or}
use Rattle.std.proofs.lemmas.List.{map-append}
use Rattle.std.proofs.lemmas.List.Concat.{flat_map-cons}
use Rattle.std.proofs.lemmas.List.Elements.{All-head, All-tail, All-map}
use Rattle.scr_orbit.proofs.Parts.{ap_both}
use Rattle.scr_cube.proofs.Holds.{at_each}
use Rattle.scr_picture.specs.declared.names.Alphabet.{Alphabet}
use Rattle.scr_picture.specs.declared.names.Alphabet.TheVariants.{Cube, Pyraminx, Hours, Units}
use Rattle.scr_picture.specs.Names.{name_in, joined_text, spaced_text}

-- ---- one letter a name

-- the letter of a byte
unfoldable pub letter_of : List ℕ → ℕ → ℕ
letter_of bytes byte = unwrap_or (position (λ b. b == byte) bytes) 0

-- each name of an alphabet is the byte of its letter
abbrev pub AreBytes : Alphabet → List ℕ → ℕ → Type 0
AreBytes alphabet bytes n = (x : ℕ) → x < n → map (letter_of bytes) (name_in alphabet x) ≡ x ∷ []

pub read-joined : (alphabet : Alphabet) (bytes : List ℕ) (n : ℕ) → AreBytes alphabet bytes n → (xs : List ℕ)
    → All (λ x. x < n) xs → map (letter_of bytes) (joined_text alphabet xs) ≡ xs
read-joined alphabet bytes n are [] all = refl
read-joined alphabet bytes n are (x ∷ xs) all =
    ap (map (letter_of bytes)) (flat_map-cons (name_in alphabet) x xs)
    ∙ map-append (letter_of bytes) (name_in alphabet x) (joined_text alphabet xs)
    ∙ ap_both (λ t u. t ++ u) (are x (All-head (λ x. x < n) x xs all))
    (read-joined alphabet bytes n are xs (All-tail (λ x. x < n) x xs all))

pub cube_bytes : AreBytes Cube (codes "URFDLB") 6
unfolding letter_of
cube_bytes = at_each (λ x. map (letter_of (codes "URFDLB")) (name_in Cube x)) (λ x. x ∷ []) 6 refl

pub pyraminx_bytes : AreBytes Pyraminx (codes "FRLD") 4
unfolding letter_of
pyraminx_bytes = at_each (λ x. map (letter_of (codes "FRLD")) (name_in Pyraminx x)) (λ x. x ∷ []) 4 refl

pub unit_bytes : AreBytes Units (codes "0123456789abcdef/-") 16
unfolding letter_of
unit_bytes = at_each (λ x. map (letter_of (codes "0123456789abcdef/-")) (name_in Units x)) (λ x. x ∷ []) 16 refl

-- ---- hours with spaces between

-- the bytes between spaces, each run as a number
pub numbers_in : ℕ → List ℕ → List ℕ
numbers_in so_far [] = so_far ∷ []
numbers_in so_far (b ∷ bytes) = if b == 32 then so_far ∷ numbers_in 0 bytes else numbers_in (256 * so_far + b) bytes

-- what an hour's name is so read as, and the hour of such a number
hour_numbers : List ℕ
hour_numbers = 12594 ∷ 49 ∷ 50 ∷ 51 ∷ 52 ∷ 53 ∷ 54 ∷ 55 ∷ 56 ∷ 57 ∷ 12592 ∷ 12593 ∷ []

pub hour_of : ℕ → ℕ
hour_of number = unwrap_or (position (λ x. x == number) hour_numbers) 0

hour-reads : (x : ℕ) → x < 12 → (rest : List ℕ)
    → numbers_in 0 (name_in Hours x ++ rest) ≡ numbers_in (slice_index hour_numbers x) rest
unfolding numbers_in hour_numbers
hour-reads x lt rest =
    ap (λ f. f rest) (at_each (λ x rest. numbers_in 0 (name_in Hours x ++ rest))
    (λ x. numbers_in (slice_index hour_numbers x)) 12 refl x lt)

hour-again : (x : ℕ) → x < 12 → hour_of (slice_index hour_numbers x) ≡ x
unfolding hour_numbers hour_of
hour-again = at_each (λ x. hour_of (slice_index hour_numbers x)) (λ x. x) 12 refl

read-others : (number : ℕ) (xs : List ℕ) → All (λ x. x < 12) xs
    → map hour_of (numbers_in number (flat_map (λ other. 32 ∷ name_in Hours other) xs)) ≡ hour_of number ∷ xs
unfolding numbers_in
read-others number [] all = refl
read-others number (x ∷ xs) all =
    let lt = All-head (λ x. x < 12) x xs all in
    ap (λ t. map hour_of (numbers_in number t)) (flat_map-cons (λ other. 32 ∷ name_in Hours other) x xs)
    ∙ ap (λ t. hour_of number ∷ map hour_of t) (hour-reads x lt (flat_map (λ other. 32 ∷ name_in Hours other) xs))
    ∙ ap (λ t. hour_of number ∷ t) (read-others (slice_index hour_numbers x) xs (All-tail (λ x. x < 12) x xs all))
    ∙ ap (λ h. hour_of number ∷ h ∷ xs) (hour-again x lt)

pub read-hours : (x : ℕ) (xs : List ℕ) → All (λ x. x < 12) (x ∷ xs)
    → map hour_of (numbers_in 0 (spaced_text Hours (x ∷ xs))) ≡ x ∷ xs
read-hours x xs all =
    let lt = All-head (λ x. x < 12) x xs all in
    ap (map hour_of) (hour-reads x lt (flat_map (λ other. 32 ∷ name_in Hours other) xs))
    ∙ read-others (slice_index hour_numbers x) xs (All-tail (λ x. x < 12) x xs all)
    ∙ ap (λ h. h ∷ xs) (hour-again x lt)

-- ---- letters that are picked from some

index-below : (n : ℕ) (xs : List ℕ) → 0 < n → All (λ x. x < n) xs → (k : ℕ) → slice_index xs k < n
index-below n [] some all k = some
index-below n (x ∷ xs) some all zero = All-head (λ x. x < n) x xs all
index-below n (x ∷ xs) some all (suc k) = index-below n xs some (All-tail (λ x. x < n) x xs all) k

pub All-picked : (n : ℕ) (xs : List ℕ) → 0 < n → All (λ x. x < n) xs → (which : ℕ → ℕ) (ks : List ℕ)
    → All (λ x. x < n) (map (λ i. slice_index xs (which i)) ks)
All-picked n xs some all which ks =
    All-map (λ x. x < n) (λ i. slice_index xs (which i)) ks
    (λ k d lt. index-below n xs some all (which (get_or ks k d)))
