-- Where words lead.
use Rattle.std.proofs.Common.{◌≡◌, ℕ, ◌<◌, Bool, true, false, List, [], ◌∷◌, ◌++◌, length, get_or, slice_index, Option, Some, arith}
use Rattle.std.proofs.Common.{None, refl, sym, ap, ◌∙◌, subst}
use Rattle.std.specs.Prelude.{All, option_and_then, slice_get}
use Rattle.std.specs.Option.{option_map_or}
use Rattle.std.proofs.lemmas.Bool.{cases_lt, false≢true}
use Rattle.std.proofs.lemmas.List.Elements.{All-cons, All-head, All-nil, All-tail}
use Rattle.std.proofs.lemmas.Option.{get_or_from_slice_get, same_Some, slice_get-get_or, slice_get_within}
use Rattle.scr_combinatorics.specs.Lists.{pick}
use Rattle.scr_combinatorics.specs.Play.{play}
use Rattle.scr_combinatorics.proofs.PlayLaws.{play-append, play-one, play-parts}
use Rattle.scr_orbit.specs.PowerPuzzles.{all_turns as cube_turns}
use Rattle.scr_cube.specs.Cube333.{CubeState, cube_monoid, cube_powers, solved_cube}
use Rattle.scr_cube.proofs.Laws333.{lawful_cube}
use Rattle.scr_cube.proofs.ListedTurns.{after_of-is, turn-leads}
use Rattle.scr_cube.specs.ListedTurns.{after_of}
use Rattle.scr_search.specs.Orderly.{after_turn, leads}

-- ---- where words lead

pub leads-parts : (test : CubeState → Bool) (c : CubeState) (w : List ℕ) → leads test c w ≡ true
    → (d : CubeState) × (play after_turn c w ≡ Some d) × (test d ≡ true)
leads-parts test c w e = by (play after_turn c w) refl e
  where
    by : (o : Option CubeState) → play after_turn c w ≡ o → option_map_or test o false ≡ true
        → (d : CubeState) × (play after_turn c w ≡ Some d) × (test d ≡ true)
    by None is h = absurd (false≢true h)
    by (Some d) is h = (d, is, h)

pub leads-played : (test : CubeState → Bool) (c d : CubeState) (w : List ℕ) → play after_turn c w ≡ Some d
    → leads test c w ≡ test d
leads-played test c d w e = ap (λ o. option_map_or test o false) e

-- where a word with one turn more leads to a cube that passes, the others lead there from that to which the turn leads
pub record IsStep (test : CubeState → Bool) (c : CubeState) (t : ℕ) (others : List ℕ) : Type 0 where
  pub there : CubeState
  pub to : after_turn c t ≡ Some there
  pub way : leads test there others ≡ true

pub step_of : (test : CubeState → Bool) (c : CubeState) (t : ℕ) (others : List ℕ) → leads test c (t ∷ others) ≡ true
    → IsStep test c t others
step_of test c t others way = grind (arith, play-parts, leads-played)

-- ---- words of places

-- what the turn at a place does is what the turn with its number does
pub after_of-place : (turns : List ℕ) (c : CubeState) (k : ℕ) → k < length turns
    → after_of turns c k ≡ after_turn c (slice_index turns k)
after_of-place turns c k lt = after_of-is turns c k ∙ ap (option_and_then (after_turn c)) (slice_get-get_or turns k 0 lt)

pub play-places : (turns : List ℕ) (c : CubeState) (places : List ℕ) → All (λ k. k < length turns) places
    → play (after_of turns) c places ≡ play after_turn c (pick turns places)
unfolding play
play-places turns c [] below = refl
play-places turns c (k ∷ places) below =
    ap (option_and_then (λ d. play (after_of turns) d places)) (after_of-place turns c k (All-head (λ j. j < length turns) k places below))
    ∙ rest (after_turn c (slice_index turns k)) (λ d. play-places turns d places (All-tail (λ j. j < length turns) k places below))
  where
    rest : (o : Option CubeState)
        → ((d : CubeState) → play (after_of turns) d places ≡ play after_turn d (pick turns places))
        → option_and_then (λ d. play (after_of turns) d places) o ≡ option_and_then (λ d. play after_turn d (pick turns places)) o
    rest None h = refl
    rest (Some d) h = h d

-- each of the turns leads somewhere
pub turn_leads : (c : CubeState) (t : ℕ) → t < 18 → (d : CubeState) × (after_turn c t ≡ Some d)
turn_leads c t lt = (cube_monoid.turned c (get_or (cube_turns cube_powers) t solved_cube), turn-leads c t lt)

-- there are no others
no_state : (o : Option CubeState) (d : CubeState) → o ≡ None → o ≡ Some d → ⊥
no_state o d a b = cc

pub turn-below : (c d : CubeState) (t : ℕ) → after_turn c t ≡ Some d → t < 18
turn-below c d t e = grind (arith, cases_lt, no_state, lawful_cube)

-- so the turns of a word that is played are turns of the 18
pub played-below : (c d : CubeState) (w : List ℕ) → play after_turn c w ≡ Some d → All (λ t. t < 18) w
played-below c d [] e = All-nil (λ t. t < 18)
played-below c d (t ∷ w) e =
    let parts = play-parts after_turn c d t w e in
    All-cons (λ t. t < 18) t w (turn-below c parts.0 t parts.1) (played-below parts.0 d w parts.2)

pub played-at : (c d : CubeState) (w : List ℕ) (k t : ℕ) → play after_turn c w ≡ Some d → slice_get w k ≡ Some t → t < 18
played-at c d w k t played e =
    subst (λ x. x < 18) (get_or_from_slice_get w k t 0 e) (played-below c d w played k 0 (slice_get_within w k t e))

-- and where: to what the turn with the number makes of the cube
pub after_turn-is : (c d : CubeState) (t : ℕ) → after_turn c t ≡ Some d
    → d ≡ cube_monoid.turned c (get_or (cube_turns cube_powers) t solved_cube)
after_turn-is c d t to = same_Some d (cube_monoid.turned c (get_or (cube_turns cube_powers) t solved_cube)) (sym to ∙ (turn-leads c t (turn-below c d t to)))

-- where words of turns lead behind a word
pub leads-behind : (test : CubeState → Bool) (c there : CubeState) (word v : List ℕ)
    → play after_turn c word ≡ Some there → leads test c (word ++ v) ≡ leads test there v
leads-behind test c there word v played = ap (λ o. option_map_or test o false) (play-append after_turn c there word v played)

pub played_more : (c there d : CubeState) (word : List ℕ) (t : ℕ) → play after_turn c word ≡ Some there
    → after_turn there t ≡ Some d → play after_turn c (word ++ t ∷ []) ≡ Some d
played_more c there d word t played to = play-append after_turn c there word (t ∷ []) played ∙ play-one after_turn there t ∙ to

-- ---- tests of words and numbers

pub not_so : (b : Bool) → (b ≡ true → ⊥) → b ≡ false
not_so b h0 = grind arith

pub same_test : (a b : Bool) → (a ≡ true → b ≡ true) → (b ≡ true → a ≡ true) → a ≡ b
same_test a b h0 h1 = grind arith
