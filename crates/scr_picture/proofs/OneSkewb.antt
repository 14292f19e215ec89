-- A Skewb is told by its picture.
use Rattle.std.proofs.Common.{◌≡◌, ℕ, Bool, true, List, Some, map, refl, sym, ap, ◌∙◌, lit<}
use Rattle.std.specs.Prelude.{◌&&◌, is_none, unwrap_or, codes}
use Rattle.std.specs.List.{range_with_len}
use Rattle.std.proofs.lemmas.Bool.{and_parts}
use Rattle.scr_combinatorics.specs.Play.{play}
use Rattle.scr_combinatorics.proofs.PermutationLaws.{All-permutation}
use Rattle.scr_orbit.specs.PowerPuzzles.{after_letter}
use Rattle.scr_orbit.proofs.Parts.{ap_three}
use Rattle.scr_notation.specs.declared.turn.Turn.{Turn}
use Rattle.scr_tetra.specs.Skewb.{SkewbState, IsSkewb, skewb_powers, solved_skewb}
use Rattle.scr_tetra.proofs.SkewbLaws.{lawful_skewb}
use Rattle.scr_picture.specs.declared.names.Alphabet.TheVariants.{Cube}
use Rattle.scr_picture.specs.Names.{joined_text}
use Rattle.scr_picture.specs.Skewb.{solved_skewb_picture}
use Rattle.scr_picture.specs.Pieces.{four_stickers, three_stickers, centre_stickers, place_with, sticker_of, skewb_sticker, skewb_shown}
use Rattle.scr_picture.proofs.OrbitStickers.{ShowsOrbit, elsewhere, same_orbit, shows}
use Rattle.scr_picture.proofs.PlacesBelow.{All-below}
use Rattle.scr_picture.proofs.ReadTexts.{cube_bytes, letter_of, read-joined, All-picked}

-- of no orbit before
no_four : ℕ → Bool
no_four i = is_none (place_with four_stickers i)

no_corner : ℕ → Bool
no_corner i = is_none (place_with four_stickers i) && is_none (place_with three_stickers i)

any : ℕ → Bool
any i = true

module _ (s : SkewbState) (own : IsSkewb s) where
  abbrev at_centres : ℕ → ℕ
  at_centres i = unwrap_or (sticker_of centre_stickers s.centres i) i

  abbrev at_three : ℕ → ℕ
  at_three i = unwrap_or (sticker_of three_stickers s.three i) (at_centres i)

  shows-four : ShowsOrbit 4 3 four_stickers solved_skewb_picture (skewb_shown s) s.four
  unfolding skewb_shown skewb_sticker any solved_skewb_picture
  shows-four =
      shows 4 3 four_stickers solved_skewb_picture 30 any (skewb_sticker s) at_three s.four refl
      own.four.pieces.size (All-permutation 4 s.four.pieces own.four.pieces) own.four.size own.four.below (λ i h. refl)

  shows-three : ShowsOrbit 3 3 three_stickers solved_skewb_picture (skewb_shown s) s.three
  unfolding skewb_shown skewb_sticker no_four solved_skewb_picture
  shows-three =
      shows 3 3 three_stickers solved_skewb_picture 30 no_four (skewb_sticker s) at_centres s.three refl
      own.three.pieces.size (All-permutation 3 s.three.pieces own.three.pieces) own.three.size own.three.below
      (λ i h. elsewhere four_stickers s.four i (at_three i) h)

  shows-centres : ShowsOrbit 6 1 centre_stickers solved_skewb_picture (skewb_shown s) s.centres
  unfolding skewb_shown skewb_sticker no_corner solved_skewb_picture
  shows-centres =
      shows 6 1 centre_stickers solved_skewb_picture 30 no_corner (skewb_sticker s) (λ i. i) s.centres refl
      own.centres.pieces.size (All-permutation 6 s.centres.pieces own.centres.pieces) own.centres.size own.centres.below
      (λ i h.
      let both = and_parts (is_none (place_with four_stickers i)) (is_none (place_with three_stickers i)) h in
      elsewhere four_stickers s.four i (at_three i) both.0 ∙ elsewhere three_stickers s.three i (at_centres i) both.1)

  IsRead : map (letter_of (codes "URFDLB")) (joined_text Cube (skewb_shown s)) ≡ skewb_shown s
  unfolding skewb_shown solved_skewb_picture
  IsRead =
      read-joined Cube (codes "URFDLB") 6 cube_bytes (skewb_shown s)
      (All-picked 6 solved_skewb_picture (lit< tt) (All-below 6 solved_skewb_picture refl)
      (skewb_sticker s) (range_with_len 0 30))

one_skewb : (s r : SkewbState) → IsSkewb s → IsSkewb r → skewb_shown s ≡ skewb_shown r → s ≡ r
unfolding solved_skewb_picture
one_skewb s r own other e =
    ap_three (λ four three centres. record { four = four; three = three; centres = centres })
    (same_orbit 4 3 four_stickers solved_skewb_picture refl (skewb_shown s) (skewb_shown r) s.four r.four e (shows-four s own) (shows-four r other))
    (same_orbit 3 3 three_stickers solved_skewb_picture refl (skewb_shown s) (skewb_shown r) s.three r.three e (shows-three s own) (shows-three r other))
    (same_orbit 6 1 centre_stickers solved_skewb_picture refl (skewb_shown s) (skewb_shown r) s.centres r.centres e (shows-centres s own) (shows-centres r other))

IsSkewb-played : (w : List Turn) (s : SkewbState) → play (after_letter skewb_powers) solved_skewb w ≡ Some s → IsSkewb s
IsSkewb-played w s e = lawful_skewb.lawful.reached (λ t. 1) s (w, solved_skewb, refl, e)

pub one_skewb_shown : (w v : List Turn) (s r : SkewbState) → play (after_letter skewb_powers) solved_skewb w ≡ Some s
    → play (after_letter skewb_powers) solved_skewb v ≡ Some r
    → joined_text Cube (skewb_shown s) ≡ joined_text Cube (skewb_shown r) → s ≡ r
one_skewb_shown w v s r e f same =
    let own = IsSkewb-played w s e in
    let other = IsSkewb-played v r f in
    one_skewb s r own other (sym (IsRead s own) ∙ ap (map (letter_of (codes "URFDLB"))) same ∙ IsRead r other)
