-- The pictures of a 3x3x3 that is held any way: those of solved ones are what turns of the whole cube make of the net.
use Rattle.std.proofs.Common.{◌≡◌, ◌↔◌, ℕ, ◌-◌, ◌<◌, List, Some, IsSome, refl, sym, ap, ◌∙◌, subst, inl, inr, arith}
use Rattle.std.specs.Prelude.{Contains, map, nat_lt, if◌then◌else◌}
use Rattle.std.specs.List.{AllPass, range_with_len}
use Rattle.std.specs.Option.{option_map}
use Rattle.std.proofs.lemmas.Bool.{cases_lt, cond-true, cond-false, lt-ltb, le-ltb}
use Rattle.scr_combinatorics.specs.Lists.{numbers_from}
use Rattle.scr_combinatorics.specs.Play.{play}
use Rattle.scr_combinatorics.proofs.PlayedWhere.{played-iff}
use Rattle.scr_combinatorics.specs.Reach.{IsReached}
use Rattle.scr_orbit.specs.Orbits.{solved_orbit}
use Rattle.scr_notation.specs.declared.event.Event.TheVariants.{Bf333}
use Rattle.scr_notation.specs.declared.turn.Turn.{Turn}
use Rattle.scr_notation.specs.Turns.{permits}
use Rattle.scr_cube.specs.Cube333.{CubeState, solved_cube}
use Rattle.scr_cube.specs.Held.{HeldState, IsSolvedHeld, solved_upright, solved_turned, held_cube_after, held_puzzle, holds, solved_held, whole_turned}
use Rattle.scr_cube.proofs.Holds.{at_each, of_holds}
use Rattle.scr_cube.proofs.HeldReach.{TellsTurns-held, turned_so_often, solved-cube, solved-there, IsReached-cube, from_solved}
use Rattle.scr_net.specs.Nets.{Letters, net_of, net_after, quarter_net, solved_net}
use Rattle.scr_net.specs.Pieces.{cube_letter, letter_of_pieces, net_of_held}
use Rattle.scr_net_laws.proofs.HeldNets.{IsHeld-solved, held_nets, listed}
use Rattle.scr_picture.specs.Pictures.{net_letters}
use Rattle.scr_picture.proofs.OneCube.{one_held_shown}
use Rattle.scr_picture_laws.specs.Pictured.{IsSolvedAnyWay, as_solved, turned_whole}
use Rattle.scr_picture_laws.proofs.TwoModels.{TwoModels}
use Rattle.scr_picture_laws.proofs.ByWords.{EventModels, one_solved}

-- the solved cube with these centres
abbrev solved_in : List ℕ → Letters
solved_in centres = net_of_held (record { cube = solved_cube; centres = centres })

upright : solved_in (numbers_from 0 6) ≡ solved_net 3
unfolding net_of cube_letter letter_of_pieces solved_cube solved_orbit
upright = refl

-- the centres after a quarter turn of the whole cube about a face
abbrev whole_quarter : ℕ → List ℕ → List ℕ
whole_quarter face centres = if nat_lt face 3 then whole_turned face centres 1 else whole_turned (face - 3) centres 3

abbrev turned_net_at : ℕ → ℕ → Letters
turned_net_at face hold = quarter_net 3 face 3 (solved_in (listed hold))

abbrev net_at : ℕ → ℕ → Letters
net_at face hold = solved_in (whole_quarter face (listed hold))

-- such a turn makes the net with these centres
quarter-listed : (face : ℕ) → face < 6 → (hold : ℕ) → hold < 24 → turned_net_at face hold ≡ net_at face hold
unfolding net_of quarter_net cube_letter letter_of_pieces solved_cube solved_orbit whole_turned
quarter-listed face low =
    at_each (turned_net_at face) (net_at face) 24
    (at_each (λ face. map (turned_net_at face) (range_with_len 0 24)) (λ face. map (net_at face) (range_with_len 0 24)) 6 refl face low)

quarter-solved : (face : ℕ) → face < 6 → (centres : List ℕ) → Contains holds centres
    → quarter_net 3 face 3 (solved_in centres) ≡ solved_in (whole_quarter face centres)
quarter-solved face low =
    of_holds (λ k. quarter_net 3 face 3 (solved_in k) ≡ solved_in (whole_quarter face k)) (quarter-listed face low)

near_quarter : (face : ℕ) → face < 3 → (centres : List ℕ) → whole_quarter face centres ≡ whole_turned face centres 1
near_quarter face near centres =
    cond-true (nat_lt face 3) (whole_turned face centres 1) (whole_turned (face - 3) centres 3) (lt-ltb face 3 near)

-- the picture of a solved cube that is turned as a whole
quarter-held : (face : ℕ) → face < 6 → (s : HeldState) → IsSolvedHeld s
    → quarter_net 3 face 3 (net_of_held s) ≡ net_of_held (record { cube = s.cube; centres = whole_quarter face s.centres })
quarter-held face low s is =
    let P : CubeState → Type 0 = λ c. quarter_net 3 face 3 (net_of_held (record { cube = c; centres = s.centres }))
    ≡ net_of_held (record { cube = c; centres = whole_quarter face s.centres }) in
    subst P (sym (solved-cube s is)) (quarter-solved face low s.centres (solved-there s is))

-- ---- solved ones, held any way

IsSolvedHeld-quarter : (face : ℕ) → face < 6 → (s : HeldState) → IsSolvedHeld s
    → IsSolvedHeld (record { cube = s.cube; centres = whole_quarter face s.centres })
IsSolvedHeld-quarter face low s is =
    let P : List ℕ → Type 0 = λ k. IsSolvedHeld (record { cube = s.cube; centres = k }) in
    elim (cases_lt face 3) [
      | inl near ↦ subst P (sym (near_quarter face near s.centres)) (turned_so_often face near 1 s is)
      | inr far ↦
          subst P (sym (cond-false (nat_lt face 3) (whole_turned face s.centres 1) (whole_turned (face - 3) s.centres 3) (le-ltb face 3 far)))
          (turned_so_often (face - 3) (omega arith) 3 s is)
    ]

pub IsSolvedAnyWay-held : (s : HeldState) → IsSolvedHeld s → IsSolvedAnyWay (net_of_held s)
unfolding solved_held
IsSolvedAnyWay-held _ solved_upright = subst IsSolvedAnyWay (sym upright) as_solved
IsSolvedAnyWay-held _ (solved_turned place s low is) =
    let turned : List ℕ → HeldState = λ k. record { cube = s.cube; centres = k } in
    subst IsSolvedAnyWay (quarter-held place (omega arith) s is ∙ ap (λ k. net_of_held (turned k)) (near_quarter place low s.centres))
    (turned_whole place (net_of_held s) (omega arith) (IsSolvedAnyWay-held s is))

pub held_of : (r : Letters) → IsSolvedAnyWay r → (s : HeldState) × IsSolvedHeld s × (net_of_held s ≡ r)
unfolding solved_held
held_of _ as_solved = (solved_held, solved_upright, upright)
held_of _ (turned_whole face net low is) =
    let s = held_of net is in
    (record { cube = s.0.cube; centres = whole_quarter face s.0.centres }, IsSolvedHeld-quarter face low s.0 s.1, sym (quarter-held face low s.0 s.1) ∙ ap (quarter_net 3 face 3) s.2)

-- ---- the two models

pub held_plays : (w : List Turn) → IsSome (play held_cube_after solved_held w) ↔ AllPass (permits Bf333) w
held_plays w = played-iff TellsTurns-held solved_held w IsHeld-solved

pub held_played : (w : List Turn) (s : HeldState) → play held_cube_after solved_held w ≡ Some s
    → play (net_after 3) (solved_net 3) w ≡ Some (net_of_held s)
held_played w s e = held_nets w (subst IsSome (sym e) refl) ∙ ap (option_map net_of_held) e

abbrev pub helds : EventModels HeldState Letters
helds = record {
  event = Bf333;
  after = held_cube_after;
  solved = solved_held;
  turned = net_after 3;
  solved_picture = solved_net 3;
  show = net_of_held;
  text = net_letters 3;
  plays = held_plays;
  followed = held_played;
  one = one_held_shown;
}

pub reached_from : (s : HeldState) → IsReached held_puzzle s → (w : List Turn) × (play held_cube_after solved_held w ≡ Some s)
reached_from s h = let cube = IsReached-cube s h in from_solved s cube.0 cube.1

-- where any of 24 states is solved
abbrev pub held_cubes : TwoModels HeldState Letters Turn
held_cubes = record (one_solved helds) {
  IsSolved = IsSolvedHeld;
  IsSolvedPicture = IsSolvedAnyWay;
  is_solved = solved_upright;
  from_solved = reached_from;
  shows_solved = IsSolvedAnyWay-held;
  solved_shown = held_of;
}
