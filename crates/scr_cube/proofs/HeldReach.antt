-- Which held cubes turns reach, and how many they need: as the cube alone.
use Rattle.std.proofs.Common.{◌≡◌, ℕ, zero, suc, ◌-◌, ◌*◌, ◌/◌, ◌%◌, ◌<◌, List, [], ◌++◌, Some, refl, sym, ap, ◌∙◌, subst, arith, lit<}
use Rattle.std.specs.Prelude.{◌↔◌, Contains, nat_lt, if◌then◌else◌, slice_index_or}
use Rattle.std.proofs.lemmas.Bool.{cond_both}
use Rattle.std.proofs.lemmas.List.Sums.{AllPass-from_list_all}
use Rattle.scr_combinatorics.specs.Back.{back, IsTakenBack}
use Rattle.scr_combinatorics.specs.Lists.{numbers_from}
use Rattle.scr_combinatorics.specs.Play.{play}
use Rattle.scr_combinatorics.specs.Reach.{IsReached, Needs}
use Rattle.scr_combinatorics.specs.Tidy.{IsKeptByTidy}
use Rattle.scr_combinatorics.proofs.BackLaws.{IsTakenBack-lawful}
use Rattle.scr_combinatorics.proofs.PlayLaws.{play-append, play-keeps, IsReached-play}
use Rattle.scr_combinatorics.proofs.PlayedWhere.{TellsTurns, played-turns}
use Rattle.scr_combinatorics.proofs.TidyPlay.{IsKeptByTidy-lawful}
use Rattle.scr_orbit.specs.PowerPuzzles.{after_letter, power_puzzle}
use Rattle.scr_orbit.proofs.Minima.{count_once}
use Rattle.scr_notation.specs.declared.event.Event.TheVariants.{Bf333}
use Rattle.scr_notation.specs.declared.turn.Turn.{Turn}
use Rattle.scr_notation.specs.Turning.{opposite, turn_merging}
use Rattle.scr_notation.specs.Turns.{permits}
use Rattle.scr_cube.specs.Cube333.{IsCube, solved_cube, cube_powers}
use Rattle.scr_cube.specs.Held.{HeldState, IsHeld, IsSolvedHeld, solved_upright, solved_turned, solved_held, whole_turned, held_cube_after, faces_turned, hold_word, hold_centres, hold_of, holds, held_puzzle}
use Rattle.scr_cube.specs.declared.held.TheConstants.{HOLDS}
use Rattle.scr_cube.proofs.Laws333.{cube_laws}
use Rattle.scr_cube.proofs.Holds.{at_each, of_holds, Contains-hold, Contains-whole, hold_centres-are, hold_centres-of, hold_of-lt, IsHoldWord-each, centres_played}
use Rattle.scr_cube.proofs.HeldLaws.{step-of, IsHeld-after, held_cube_after-some, IsLawful-held, same_held, played-faces, played-centres, length-faces_turned, at_places}

pub held_taken_back : IsTakenBack held_cube_after opposite IsHeld
held_taken_back = IsTakenBack-lawful held_cube_after opposite turn_merging IsHeld IsLawful-held

pub held_kept_by_tidy : IsKeptByTidy held_cube_after turn_merging IsHeld
held_kept_by_tidy = IsKeptByTidy-lawful held_cube_after opposite turn_merging IsHeld IsLawful-held

-- the letters that lead somewhere are the turns of the event
pub TellsTurns-held : TellsTurns held_cube_after IsHeld (permits Bf333)
TellsTurns-held = record {
  does = λ s t valid h. held_cube_after-some s t h valid.centres;
  only = λ s r t valid e. (step-of s r t e).permitted;
  keeps = IsHeld-after;
}

-- ---- from the hold of the solved cube

pub Contains-solved : Contains holds (numbers_from 0 6)
Contains-solved = subst (Contains holds) (hold_centres-are 0 (lit< tt)) (Contains-hold 0 (lit< tt))

-- ---- solved ones, however they are held

-- turned as a whole so often
pub turned_so_often : (place : ℕ) → place < 3 → (n : ℕ) (s : HeldState) → IsSolvedHeld s
    → IsSolvedHeld (record { cube = s.cube; centres = whole_turned place s.centres n })
unfolding whole_turned
turned_so_often place low zero s is = is
turned_so_often place low (suc n) s is =
    solved_turned place (record { cube = s.cube; centres = whole_turned place s.centres n }) low (turned_so_often place low n s is)

-- a hold's word turns the whole cube about R or F, and then about U
about : ℕ → ℕ
about first = if nat_lt first 4 then 1 else 2

amount : ℕ → ℕ
amount first = if nat_lt first 4 then first else 2 * first - 7

about-lt : (first : ℕ) → about first < 3
unfolding about
about-lt first = cond_both (nat_lt first 4) 1 2 (λ x. x < 3) (λ _. lit< tt) (λ _. lit< tt)

first_turned : ℕ → List ℕ
first_turned hold = whole_turned (about (hold % 6)) (numbers_from 0 6) (amount (hold % 6))

listed-turned : (hold : ℕ) → hold < 24 → slice_index_or HOLDS hold [] ≡ whole_turned 0 (first_turned hold) (hold / 6)
unfolding first_turned about amount whole_turned
listed-turned = at_each (λ hold. slice_index_or HOLDS hold []) (λ hold. whole_turned 0 (first_turned hold) (hold / 6)) 24 refl

solved_with : List ℕ → HeldState
solved_with centres = record { cube = solved_cube; centres = centres }

IsSolvedHeld-listed : (hold : ℕ) → hold < 24 → IsSolvedHeld (solved_with (slice_index_or HOLDS hold []))
unfolding solved_held solved_with first_turned
IsSolvedHeld-listed hold lt =
    let first = turned_so_often (about (hold % 6)) (about-lt (hold % 6)) (amount (hold % 6)) solved_held solved_upright in
    subst (λ k. IsSolvedHeld (solved_with k)) (sym (listed-turned hold lt))
    (turned_so_often 0 (lit< tt) (hold / 6) (solved_with (first_turned hold)) first)

-- They are the solved cube in each of the holds.
pub IsSolvedHeld-holds : (s : HeldState) → s.cube ≡ solved_cube → Contains holds s.centres → IsSolvedHeld s
unfolding solved_with
IsSolvedHeld-holds s is there =
    subst (λ c. IsSolvedHeld (record { cube = c; centres = s.centres })) (sym is)
    (of_holds (λ k. IsSolvedHeld (solved_with k)) IsSolvedHeld-listed s.centres there)

pub solved-cube : (s : HeldState) → IsSolvedHeld s → s.cube ≡ solved_cube
unfolding solved_held
solved-cube _ solved_upright = refl
solved-cube _ (solved_turned place s low is) = solved-cube s is

pub solved-there : (s : HeldState) → IsSolvedHeld s → Contains holds s.centres
unfolding solved_held
solved-there _ solved_upright = Contains-solved
solved-there _ (solved_turned place s low is) = Contains-whole place s.centres 1 low (solved-there s is)

-- The state before a hold's word, which is held as the solved cube is: the word taken back leads there, it turns back
-- the faces of the cube that the word turns, and the word leads on to the state.
pub record IsBefore (s b : HeldState) : Type 0 where
  pub returns : play held_cube_after s (back opposite (hold_word (hold_of s.centres))) ≡ Some b
  pub faces : play (after_letter cube_powers) s.cube (back opposite (faces_turned (numbers_from 0 6) (hold_word (hold_of s.centres)))) ≡ Some b.cube
  pub centres : b.centres ≡ numbers_from 0 6
  pub again : play held_cube_after b (hold_word (hold_of s.centres)) ≡ Some s

pub IsBefore-played : (s b : HeldState) → IsHeld s
    → play held_cube_after s (back opposite (hold_word (hold_of s.centres))) ≡ Some b → IsBefore s b
IsBefore-played s b valid e =
    let hold : ℕ = hold_of s.centres in
    let word = IsHoldWord-each hold (hold_of-lt s.centres valid.centres) in
    let own : hold_centres hold ≡ s.centres = hold_centres-of s.centres valid.centres in
    record {
      returns = e;
      faces = ap (play (after_letter cube_powers) s.cube) (sym word.faces ∙ ap (λ c. faces_turned c (back opposite (hold_word hold))) own)
          ∙ played-faces s b (back opposite (hold_word hold)) e;
      centres = sym (played-centres s b (back opposite (hold_word hold)) e) ∙ ap (λ c. centres_played c (back opposite (hold_word hold))) (sym own) ∙ word.centres;
      again = ap (play held_cube_after b) (sym word.again) ∙ held_taken_back s b (back opposite (hold_word hold)) valid e;
    }

pub before-some : (s : HeldState) → IsHeld s
    → (b : HeldState) × (play held_cube_after s (back opposite (hold_word (hold_of s.centres))) ≡ Some b)
before-some s valid =
    let word = back opposite (hold_word (hold_of s.centres)) in
    let turns = (IsHoldWord-each (hold_of s.centres) (hold_of-lt s.centres valid.centres)).back_turns in
    played-turns TellsTurns-held s word valid (AllPass-from_list_all (permits Bf333) word turns)

-- ---- reached

pub IsReached-cube : (s : HeldState) → IsReached held_puzzle s → IsHeld s × IsReached (power_puzzle cube_powers) s.cube
IsReached-cube s h =
    let start = h.1 in
    let cube = solved-cube start h.2 in
    let begins : IsHeld start = record { cube = subst IsCube (sym cube) cube_laws.solved; centres = solved-there start h.2 } in
    (play-keeps held_cube_after IsHeld IsLawful-held.keeps start s h.0 begins h.3, (faces_turned start.centres h.0, start.cube, cube, played-faces start s h.0 h.3))

pub from_solved : (s : HeldState) → IsHeld s → IsReached (power_puzzle cube_powers) s.cube
    → (w : List Turn) × (play held_cube_after solved_held w ≡ Some s)
unfolding solved_held
from_solved s valid reached =
    let b = before-some s valid in
    let before = IsBefore-played s b.0 valid b.1 in
    let there = IsReached-play (power_puzzle cube_powers) s.cube b.0.cube _ reached before.faces in
    let played : play (after_letter cube_powers) solved_cube there.0 ≡ Some b.0.cube = ap (λ c. play (after_letter cube_powers) c there.0) (sym there.2) ∙ there.3 in
    let words = at_places solved_cube b.0.cube (numbers_from 0 6) there.0 Contains-solved played in
    let first : play held_cube_after solved_held words.word ≡ Some b.0 = words.played ∙ ap Some (same_held (record { cube = b.0.cube; centres = numbers_from 0 6 }) b.0 refl (sym before.centres)) in
    (words.word ++ hold_word (hold_of s.centres), play-append held_cube_after solved_held b.0 words.word (hold_word (hold_of s.centres)) first ∙ before.again)

pub IsReached-held : (s : HeldState)
    → IsReached held_puzzle s ↔ (IsHeld s × IsReached (power_puzzle cube_powers) s.cube)
IsReached-held s = (
  IsReached-cube s,
  λ h. let w = from_solved s h.0 h.1 in (w.0, solved_held, solved_upright, w.1),
)

-- ---- needed

pub Needs-held : (s : HeldState) (least : ℕ) → Contains holds s.centres
    → Needs held_puzzle s least ↔ Needs (power_puzzle cube_powers) s.cube least
Needs-held s least there = (
  λ needs w end few played solved.
      let words = at_places s.cube end s.centres w there played in
      needs words.word (record { cube = end; centres = s.centres }) (omega (arith, few, count_once w, count_once words.word, words.size)) words.played
      (IsSolvedHeld-holds (record { cube = end; centres = s.centres }) solved there),
  λ needs w end few played solved.
      needs (faces_turned s.centres w) end.cube
      (omega (arith, few, count_once w, count_once (faces_turned s.centres w), length-faces_turned s.centres w)) (played-faces s end w played) (solved-cube end solved),
)
