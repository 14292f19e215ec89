-- A Clock and a Square-1 are told by their pictures.
use Rattle.std.proofs.Common.{◌≡◌, ℕ, ◌-◌, ◌%◌, ◌<◌, Bool, true, false, cond, List, [], ◌∷◌, ◌++◌, Some, None, length, map, refl, sym, ap, ◌∙◌, subst, lit<, arith, length-append}
use Rattle.std.specs.Prelude.{All, slice_index, codes}
use Rattle.std.proofs.lemmas.List.{map-append}
use Rattle.std.proofs.lemmas.List.Elements.{All-append, All-map}
use Rattle.std.proofs.lemmas.Option.{cond_some, same_Some}
use Rattle.scr_combinatorics.specs.Lists.{pick}
use Rattle.scr_combinatorics.specs.Play.{play}
use Rattle.scr_combinatorics.proofs.PlayLaws.{map-some, play-keeps}
use Rattle.scr_orbit.proofs.Parts.{ap_both}
use Rattle.scr_notation.specs.declared.turn.Turn.{Turn}
use Rattle.scr_notation.specs.declared.turn.Turn.TheVariants.{Layers, Twist}
use Rattle.scr_notation.specs.Layers.{is_layer_turn}
use Rattle.scr_clock.specs.Dials.{IsClock, solved}
use Rattle.scr_clock.specs.Held.{clock_after, held_after}
use Rattle.scr_clock.proofs.HeldLaws.{dial_word}
use Rattle.scr_clock.proofs.Hours.{listed, clock_by_dials}
use Rattle.scr_clock.proofs.Reached.{IsClock-reached}
use Rattle.scr_sq1.specs.Units.{Sq1State, is_open, turned, twisted, sq1_after, solved_sq1, after_layers}
use Rattle.scr_picture.specs.declared.names.Alphabet.TheVariants.{Hours as HourNames, Units}
use Rattle.scr_picture.specs.Names.{joined_text, spaced_text}
use Rattle.scr_picture.specs.Pictures.{clock_hours, sq1_letters}
use Rattle.scr_picture.proofs.PlacesBelow.{All-below}
use Rattle.scr_picture.proofs.ReadTexts.{All-picked}
use Rattle.scr_picture.proofs.ReadTexts.{hour_of, letter_of, numbers_in, read-hours, read-joined, unit_bytes}
use Rattle.scr_picture.proofs.TextLaws.{append-same}

-- ---- the Clock

-- the dials stand among the hours
clock-picked : (dials : List ℕ) → IsClock dials
    → pick (clock_hours dials) (0 ∷ 1 ∷ 2 ∷ 3 ∷ 4 ∷ 5 ∷ 6 ∷ 7 ∷ 8 ∷ 10 ∷ 12 ∷ 13 ∷ 14 ∷ 16 ∷ []) ≡ dials
unfolding clock_hours
clock-picked = clock_by_dials (λ dials. pick (clock_hours dials) (0 ∷ 1 ∷ 2 ∷ 3 ∷ 4 ∷ 5 ∷ 6 ∷ 7 ∷ 8 ∷ 10 ∷ 12 ∷ 13 ∷ 14 ∷ 16 ∷ []) ≡ dials) (λ h. refl)

-- each is below twelve
hours-low : (dials : List ℕ) → IsClock dials → All (λ x. x < 12) (clock_hours dials)
unfolding clock_hours
hours-low dials c =
    let opposite : ℕ → ℕ = λ hour. (12 - hour) % 12 in
    let low : List ℕ → Type 0 = λ xs. All (λ x. x < 12) xs in
    clock_by_dials (λ d. low d → low (clock_hours d))
    (λ h all. All-picked 12 (listed h ++ map opposite (listed h)) (lit< tt)
    (All-append (λ x. x < 12) (listed h) (map opposite (listed h)) all
    (All-map (λ x. x < 12) opposite (listed h) (λ k d lt. omega arith)))
    (λ k. k) (0 ∷ 1 ∷ 2 ∷ 3 ∷ 4 ∷ 5 ∷ 6 ∷ 7 ∷ 8 ∷ 16 ∷ 9 ∷ 14 ∷ 10 ∷ 11 ∷ 12 ∷ 22 ∷ 13 ∷ 20 ∷ [])) dials c c.below

hours-read : (dials : List ℕ) → IsClock dials → map hour_of (numbers_in 0 (spaced_text HourNames (clock_hours dials))) ≡ clock_hours dials
unfolding clock_hours
hours-read dials c = read-hours (slice_index dials 0) _ (hours-low dials c)

IsClock-played : (w : List Turn) (dials : List ℕ) → clock_after solved w ≡ Some dials → IsClock dials
IsClock-played w dials e =
    let held = map-some (λ held. held.dials) (play held_after (record { dials = solved; back = false }) w) dials e in
    let word = dial_word w (record { dials = solved; back = false }) held.0 held.1 in
    subst IsClock held.2 (IsClock-reached held.0.dials (word.0, solved, refl, word.1))

pub one_clock_shown : (w v : List Turn) (dials other : List ℕ) → clock_after solved w ≡ Some dials → clock_after solved v ≡ Some other
    → spaced_text HourNames (clock_hours dials) ≡ spaced_text HourNames (clock_hours other) → dials ≡ other
one_clock_shown w v dials other e f same =
    let a = IsClock-played w dials e in
    let b = IsClock-played v other f in
    let hours : clock_hours dials ≡ clock_hours other = sym (hours-read dials a) ∙ ap (λ t. map hour_of (numbers_in 0 t)) same ∙ hours-read other b in
    sym (clock-picked dials a) ∙ ap (λ h. pick h (0 ∷ 1 ∷ 2 ∷ 3 ∷ 4 ∷ 5 ∷ 6 ∷ 7 ∷ 8 ∷ 10 ∷ 12 ∷ 13 ∷ 14 ∷ 16 ∷ [])) hours ∙ clock-picked other b

-- ---- the Square-1

abbrev AreUnits : List ℕ → Type 0
AreUnits units = All (λ u. u < 16) units

AreUnits-pick : (units ks : List ℕ) → AreUnits units → AreUnits (pick units ks)
AreUnits-pick units ks all = All-picked 16 units (lit< tt) all (λ k. k) ks

AreUnits-after : (s r : Sq1State) (t : Turn) → AreUnits s.units → sq1_after s t ≡ Some r → AreUnits r.units
unfolding sq1_after after_layers turned twisted
AreUnits-after s r (Layers top bottom) all e = by (is_layer_turn (Layers top bottom)) e
  where
    by : (b : Bool) → cond b (after_layers s top bottom) None ≡ Some r → AreUnits r.units
    by false e = absurd (cc)
    by true e =
        let same = (cond_some (is_open (turned s top bottom).units) (turned s top bottom) r e).1 in
        subst (λ (x : Sq1State). AreUnits x.units) same (AreUnits-pick s.units _ all)
AreUnits-after s r Twist all e = subst (λ (x : Sq1State). AreUnits x.units) (same_Some _ r e) (AreUnits-pick s.units _ all)
AreUnits-after s r _ all e = absurd (cc)

AreUnits-played : (w : List Turn) (r : Sq1State) → play sq1_after solved_sq1 w ≡ Some r → AreUnits r.units
AreUnits-played w r =
    play-keeps sq1_after (λ s. AreUnits s.units) AreUnits-after solved_sq1 r w (All-below 16 solved_sq1.units refl)

abbrev bytes : List ℕ
bytes = codes "0123456789abcdef/-"

abbrev sign : Bool → ℕ
sign equator = cond equator 16 17

sq1-read : (s : Sq1State) → AreUnits s.units → map (letter_of bytes) (sq1_letters s) ≡ s.units ++ sign s.equator ∷ []
unfolding sq1_letters letter_of
sq1-read s all =
    map-append (letter_of bytes) (joined_text Units s.units) (cond s.equator (codes "/") (codes "-"))
    ∙ ap_both (λ t u. t ++ u) (read-joined Units bytes 16 unit_bytes s.units all) (last s.equator)
  where
    last : (b : Bool) → map (letter_of bytes) (cond b (codes "/") (codes "-")) ≡ sign b ∷ []
    last true = refl
    last false = refl

sign-same : (a b : Bool) → sign a ≡ sign b → a ≡ b
sign-same true true e = refl
sign-same false false e = refl
sign-same true false e = absurd (omega (arith, e))
sign-same false true e = absurd (omega (arith, e))

pub one_sq1_shown : (w v : List Turn) (s r : Sq1State) → play sq1_after solved_sq1 w ≡ Some s → play sq1_after solved_sq1 v ≡ Some r
    → sq1_letters s ≡ sq1_letters r → s ≡ r
one_sq1_shown w v s r e f same =
    let e : s.units ++ sign s.equator ∷ [] ≡ r.units ++ sign r.equator ∷ [] =
    sym (sq1-read s (AreUnits-played w s e)) ∙ ap (map (letter_of bytes)) same
    ∙ sq1-read r (AreUnits-played v r f) in
    let both = append-same s.units (sign s.equator ∷ []) r.units (sign r.equator ∷ [])
    (omega (arith, ap length e, length-append {A = ℕ})) e in
    let signs : sign s.equator ≡ sign r.equator = cc in
    ap_both (λ units equator. record { units = units; equator = equator }) both.0 (sign-same s.equator r.equator signs)
