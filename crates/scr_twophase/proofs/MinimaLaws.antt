-- The test of a minimum is exact.
use Rattle.std.proofs.Common.{◌≡◌, ℕ, suc, ◌-◌, ◌*◌, ◌<◌, Bool, true, false, cond, IsTrue, List, [], ◌∷◌, map, length, inl, inr, arith}
use Rattle.std.proofs.Common.{Option, Some, None, refl, sym, ap, ◌∙◌, arith}
use Rattle.std.specs.Prelude.{All, ◌↔◌, nat_lt, option_and_then}
use Rattle.std.proofs.lemmas.Bool.{cases_lt, ltb-false, false≢true}
use Rattle.std.proofs.lemmas.List.{length-map}
use Rattle.std.proofs.lemmas.List.Elements.{All-nil, All-cons}
use Rattle.scr_combinatorics.specs.Play.{play}
use Rattle.scr_combinatorics.specs.Reach.{Needs}
use Rattle.scr_combinatorics.proofs.PlayLaws.{play-empty, play-first, play-parts}
use Rattle.scr_combinatorics.proofs.FirstWordLaws.{IsGoal-empty, LeadsTo-cons, LeadsTo-empty, LeadsTo-parts}
use Rattle.scr_draw.specs.Count.{count_below}
use Rattle.scr_orbit.specs.Orbits.{solved_orbit}
use Rattle.scr_orbit.specs.PowerPuzzles.{after_letter, power_puzzle}
use Rattle.scr_orbit.proofs.Minima.{count_once}
use Rattle.scr_notation.specs.declared.turn.Turn.{Turn}
use Rattle.scr_notation.specs.TurnNumbers.{face_turn_at}
use Rattle.scr_cube.specs.Cube333.{CubeState, IsCube, cube_powers, solved_cube}
use Rattle.scr_cube.proofs.Laws333.{lawful_cube}
use Rattle.scr_search.specs.Orderly.{after_turn}
use Rattle.scr_search.proofs.Leads.{same_test}
use Rattle.scr_twophase.specs.TwoParts.{is_solved}
use Rattle.scr_table.proofs.TriedWords.{needs_test-iff}
use Rattle.scr_table.specs.Moves.{after_move, IsSolved, NeedsTurns}
use Rattle.scr_table.proofs.MovesLaws.{turned-turn}
use Rattle.scr_twophase.specs.Minima.{face_moves, needs_turns, astray, astray_most}
use Rattle.scr_twophase.proofs.CubeTests.{IsSolved-test}
use Rattle.scr_twophase.proofs.Astray.{brought_along}

-- ---- words of letters and words of numbers

same_rest : (o : Option CubeState) (w : List ℕ)
    → ((d : CubeState) → play (after_letter cube_powers) d (map face_turn_at w) ≡ play after_turn d w)
    → option_and_then (λ d. play (after_letter cube_powers) d (map face_turn_at w)) o ≡ option_and_then (λ d. play after_turn d w) o
same_rest o w h0 = grind arith

pub play-spelled : (c : CubeState) (w : List ℕ)
    → play (after_letter cube_powers) c (map face_turn_at w) ≡ play after_turn c w
unfolding play
play-spelled c [] = refl
play-spelled c (t ∷ w) = same_rest (after_turn c t) w (λ d. play-spelled d w)

-- a word of turn numbers that leads somewhere
record IsNumbered (c d : CubeState) (turns : List Turn) (w : List ℕ) : Type 0 where
  played : play after_turn c w ≡ Some d
  size : length w ≡ length turns
  below : All (λ t. t < 18) w

-- each word of letters that leads somewhere is one of numbers
numbered : (c d : CubeState) (turns : List Turn) → play (after_letter cube_powers) c turns ≡ Some d
    → (w : List ℕ) × IsNumbered c d turns w
numbered c d [] e = grind (arith, play-empty, All-nil)
numbered c d (letter ∷ turns) e =
    let parts = play-parts (after_letter cube_powers) c d letter turns e in
    let number = lawful_cube.numbers c parts.0 letter parts.1 in
    let others = numbered parts.0 d turns parts.2 in (
      number.0 ∷ others.0,
      record {
        played = play-first after_turn c parts.0 number.0 others.0 (ap (after_letter cube_powers c) number.2 ∙ parts.1) ∙ others.1.played;
        size = ap suc others.1.size;
        below = All-cons (λ t. t < 18) number.0 others.0 number.1 others.1.below;
      },
    )

-- ---- over the turns by their numbers

turned_by : (c : CubeState) (t : ℕ) (b : Bool) → nat_lt t 18 ≡ b → cond b (after_turn c t) None ≡ after_turn c t
turned_by c t b h0 = grind (arith, lawful_cube, ltb-false)

turned-after : (c : CubeState) (t : ℕ) → after_move face_moves c t ≡ after_turn c t
turned-after c t = turned_by c t (nat_lt t 18) refl

play-turned : (c : CubeState) (w : List ℕ) → play (after_move face_moves) c w ≡ play after_turn c w
unfolding play
play-turned c [] = refl
play-turned c (t ∷ w) =
    ap (option_and_then (λ d. play (after_move face_moves) d w)) (turned-after c t) ∙ others (after_turn c t) (λ d. play-turned d w)
  where
    others : (o : Option CubeState) → ((d : CubeState) → play (after_move face_moves) d w ≡ play after_turn d w)
        → option_and_then (λ d. play (after_move face_moves) d w) o ≡ option_and_then (λ d. play after_turn d w) o
    others None h = refl
    others (Some d) h = h d

pub NeedsTurns-iff : (c : CubeState) (least : ℕ)
    → NeedsTurns face_moves c least ↔ Needs (power_puzzle cube_powers) c least
NeedsTurns-iff c least = (
  λ h turns end few played solved.
      let word = numbered c end turns played in
      let long = h word.0 (record { end = end; played = play-turned c word.0 ∙ word.1.played; goal = (IsSolved-test end).1 solved }) in
      omega (arith, few, count_once turns, word.1.size, long),
  λ needs w leads.
      elim (cases_lt (length w) least) [
        | inl less ↦
            absurd (needs (map face_turn_at w) leads.end (omega (arith, less, count_once (map face_turn_at w), length-map w face_turn_at))
            (play-spelled c w ∙ sym (play-turned c w) ∙ leads.played) ((IsSolved-test leads.end).0 leads.goal))
        | inr le ↦ le
      ],
)

-- ---- how many turns words have

astray-solved : astray_most solved_cube ≡ 0
unfolding astray_most astray count_below solved_cube solved_orbit
astray-solved = refl

-- a word is long enough to bring all pieces home
pub NeedsTurns-far : (c : CubeState) (least : ℕ) → IsCube c → 4 * (least - 1) < astray_most c
    → NeedsTurns face_moves c least
NeedsTurns-far c least own far w l =
    let home = brought_along c l.end w own (sym (play-turned c w) ∙ l.played) in
    omega (arith, far, home, ap astray_most ((IsSolved-test l.end).0 l.goal) ∙ astray-solved)

-- the solved cube needs no turn
pub NeedsTurns-solved : (c : CubeState) (least : ℕ) → is_solved c ≡ true → 0 < least → NeedsTurns face_moves c least → ⊥
NeedsTurns-solved c least solved some needs =
    omega (arith, some, needs [] (LeadsTo-empty (after_move face_moves) (IsSolved face_moves) c solved))

-- any other one more than the cubes to which a turn leads
pub NeedsTurns-next : (c next : CubeState) (t least : ℕ) → after_turn c t ≡ Some next → NeedsTurns face_moves c least
    → NeedsTurns face_moves next (least - 1)
NeedsTurns-next c next t least to needs w l =
    omega (arith, needs (t ∷ w) (LeadsTo-cons (after_move face_moves) (IsSolved face_moves) c next t w (turned-after c t ∙ to) l))

pub NeedsTurns-unsolved : (c : CubeState) (least : ℕ) → is_solved c ≡ false
    → ((t : ℕ) (next : CubeState) → t < 18 → after_turn c t ≡ Some next → NeedsTurns face_moves next (least - 1))
    → NeedsTurns face_moves c least
NeedsTurns-unsolved c least unsolved next [] l =
    absurd (false≢true (sym unsolved ∙ IsGoal-empty (after_move face_moves) (IsSolved face_moves) c l))
NeedsTurns-unsolved c least unsolved next (t ∷ w) l =
    let parts = LeadsTo-parts (after_move face_moves) (IsSolved face_moves) c t w l in
    let turned = turned-turn face_moves c parts.0 t parts.1 in
    omega (arith, next t parts.0 turned.0 turned.1 w parts.2)

-- ---- the test

pub Needs-tested : (c : CubeState) (least : ℕ) → IsTrue (needs_turns c least) ↔ Needs (power_puzzle cube_powers) c least
Needs-tested c least = grind (arith, needs_test-iff, turned-turn, NeedsTurns-iff c least)

same-as_tested : (c : CubeState) (least : ℕ) (b : Bool) → IsTrue b ↔ Needs (power_puzzle cube_powers) c least
    → b ≡ needs_turns c least
same-as_tested c least b exact = grind (arith, Needs-tested, same_test)

-- what answers whether each word that leads to solved has so many turns
pub record IsTested (c : CubeState) (least : ℕ) (b : Bool) : Type 0 where
  pub test : b ≡ needs_turns c least
  pub exact : IsTrue b ↔ Needs (power_puzzle cube_powers) c least

pub IsTested-by : (c : CubeState) (least : ℕ) (b : Bool) → IsTrue b ↔ NeedsTurns face_moves c least
    → IsTested c least b
IsTested-by c least b h =
    let same = NeedsTurns-iff c least in
    let exact : IsTrue b ↔ Needs (power_puzzle cube_powers) c least =
    (λ e. same.0 (h.0 e), λ needs. h.1 (same.1 needs)) in
    record { test = same-as_tested c least b exact; exact = exact }
