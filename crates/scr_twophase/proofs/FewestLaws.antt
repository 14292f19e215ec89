-- The scramble for fewest moves: a state has one, and it leads to the state.
use Rattle.std.proofs.Common.{◌≡◌, ℕ, zero, suc, ◌+◌, ◌-◌, ◌≤◌, true, IsTrue, List, [], ◌∷◌, ◌++◌, Option, Some, length, refl, sym, ap, ◌∙◌, arith, length-append, append_assoc, le-leb}
use Rattle.std.specs.Prelude.{◌&&◌, nat_le, slice_index_or, unwrap_or}
use Rattle.std.proofs.lemmas.Bool.{and_from, false≢true, leb-true}
use Rattle.scr_combinatorics.specs.Back.{back}
use Rattle.scr_combinatorics.specs.Play.{play}
use Rattle.scr_combinatorics.proofs.PlayLaws.{play-append}
use Rattle.scr_notation.specs.declared.turn.Turn.{Turn}
use Rattle.scr_notation.specs.declared.turn.Turn.TheVariants.{Face, Over}
use Rattle.scr_notation.specs.Turning.{opposite}
use Rattle.scr_notation.proofs.Below.{and_first, and_second}
use Rattle.scr_orbit.specs.PowerPuzzles.{after_letter}
use Rattle.scr_cube.specs.Cube333.{CubeState, IsCube, cube_monoid, cube_powers, solved_cube}
use Rattle.scr_cube.proofs.CompositionLaws.{IsCube-played, play-then}
use Rattle.scr_cube.proofs.Laws333.{cube_laws}
use Rattle.scr_cube.proofs.OnLiterals.{cubes_on_literals}
use Rattle.scr_twophase.proofs.PartLaws.{IsScrambleBy-unique}
use Rattle.scr_twophase.specs.Fewest.{frame, frame_back, between, is_turn, is_frame_at, is_framed, IsFramed, IsScrambleFewest}

-- ---- the frame

-- the cube to which it leads
unfoldable frame_cube : CubeState
unfolding cubes_on_literals frame
frame_cube = unwrap_or (play (after_letter cube_powers) solved_cube frame) solved_cube

frame-played : play (after_letter cube_powers) solved_cube frame ≡ Some frame_cube
unfolding cubes_on_literals frame frame_cube
frame-played = refl

pub frame_back-played : play (after_letter cube_powers) solved_cube (back opposite frame) ≡ Some frame_back
unfolding cubes_on_literals frame frame_back
frame_back-played = refl

-- as it is made
pub frame_back-made : (start : CubeState) (forth undone : List Turn) (end : Option CubeState) → start ≡ solved_cube
    → forth ≡ frame → undone ≡ back opposite forth → end ≡ play (after_letter cube_powers) start undone
    → end ≡ Some frame_back
frame_back-made start forth undone end a b c d = cc (frame_back-played)

frame_and_back : cube_monoid.turned frame_cube frame_back ≡ solved_cube
unfolding cubes_on_literals frame frame_cube frame_back
frame_and_back = refl

back_and_frame : cube_monoid.turned frame_back frame_cube ≡ solved_cube
unfolding cubes_on_literals frame frame_cube frame_back
back_and_frame = refl

IsCube-frame : IsCube frame_cube
IsCube-frame = IsCube-played frame_cube frame frame-played

pub IsCube-frame_back : IsCube frame_back
IsCube-frame_back = IsCube-played frame_back (back opposite frame) frame_back-played

-- ---- the cube between

-- The frames give the state again: each undoes one of those that were taken back.
between-again : (s : CubeState) → IsCube s → cube_monoid.turned (cube_monoid.turned frame_cube (between s)) frame_cube ≡ s
unfolding between
between-again s own =
    let rest = cube_monoid.turned s frame_back in
    let rest_is = cube_laws.kept s frame_back own IsCube-frame_back in
    let first : cube_monoid.turned frame_cube (cube_monoid.turned frame_back rest) ≡ rest =
    sym (cube_laws.grouped frame_cube frame_back rest IsCube-frame IsCube-frame_back rest_is)
    ∙ ap (λ c. cube_monoid.turned c rest) frame_and_back ∙ cube_laws.solved_first rest rest_is in
    grind (arith, first, cube_laws, IsCube-frame_back, IsCube-frame, back_and_frame)

-- as it is made
pub between-made : (s back rest b : CubeState) → back ≡ frame_back → rest ≡ cube_monoid.turned s back → b ≡ cube_monoid.turned back rest
    → b ≡ between s
unfolding between
between-made s back rest b e f g = grind arith

-- Words that lead from solved to what the frame taken back makes of a state lead on to the cube between.
pub between-played : (s : CubeState) (v : List Turn) → IsCube s
    → play (after_letter cube_powers) solved_cube v ≡ play (after_letter cube_powers) s (back opposite frame)
    → play (after_letter cube_powers) solved_cube (back opposite frame ++ v) ≡ Some (between s)
unfolding between
between-played s v own e =
    let there = play-then s frame_back (back opposite frame) own frame_back-played in
    play-append (after_letter cube_powers) solved_cube frame_back (back opposite frame) v frame_back-played
    ∙ play-then frame_back (cube_monoid.turned s frame_back) v IsCube-frame_back (e ∙ there)

-- ---- the scramble

-- turns between two frames
abbrev pub framed : List Turn → List Turn
framed middle = frame ++ middle ++ frame

-- Two frames about a word to the cube between lead to the state.
pub framed-played : (s : CubeState) (middle : List Turn) → IsCube s
    → play (after_letter cube_powers) solved_cube middle ≡ Some (between s)
    → play (after_letter cube_powers) solved_cube (framed middle) ≡ Some s
framed-played s middle own played =
    let after = after_letter cube_powers in
    let both = cube_monoid.turned frame_cube (between s) in
    let is = cube_laws.kept frame_cube (between s) IsCube-frame (IsCube-played (between s) middle played) in
    let begun = play-append after solved_cube frame_cube frame middle frame-played ∙ play-then frame_cube (between s) middle IsCube-frame played in
    play-append after solved_cube both (frame ++ middle) frame begun
    ∙ play-then both frame_cube frame is frame-played ∙ ap Some (between-again s own)

pub length-frame : length frame ≡ 3
unfolding frame
length-frame = refl

-- they have six turns more
pub length-framed : (middle : List Turn) → length (framed middle) ≡ length middle + 6
length-framed middle = grind (arith, length-append, length-frame)

-- a state has one scramble
pub IsScrambleFewest-unique : (tries : ℕ) (s : CubeState) (turns other : List Turn) → IsScrambleFewest tries s turns
    → IsScrambleFewest tries s other → turns ≡ other
IsScrambleFewest-unique tries s turns other a b = grind (arith, IsScrambleBy-unique)

-- ---- the test of frames

-- what stands in the last part of a list
at_end : (xs ys : List Turn) (n i : ℕ) → n ≡ length xs + i → slice_index_or (xs ++ ys) n Over ≡ slice_index_or ys i Over
at_end [] ys n i is = ap (λ k. slice_index_or ys k Over) (let e : n ≡ i = omega arith in e)
at_end (x ∷ xs) ys zero i is = absurd (omega arith)
at_end (x ∷ xs) ys (suc n) i is = at_end xs ys n i (omega arith)

-- three turns that pass are the frame
three-are : (a b c : Turn) → IsTrue (is_turn 1 3 a && (is_turn 0 3 b && is_turn 2 1 c)) → a ∷ b ∷ c ∷ [] ≡ frame
unfolding frame
three-are a b c is = grind arith

-- the test of a frame in the last part of a list
frame_behind : (xs ys : List Turn) (n i : ℕ) → n ≡ length xs + i → is_frame_at (xs ++ ys) n ≡ is_frame_at ys i
unfolding is_frame_at
frame_behind xs ys n i is = grind (arith, at_end)

pub is_framed-framed : (middle : List Turn) → is_framed (framed middle) ≡ true
unfolding is_framed frame is_frame_at
is_framed-framed middle =
    let n = length (framed middle) in
    let size = length-framed middle in
    let end = frame_behind (frame ++ middle) frame (n - 3) 0 (omega (arith, size, length-append frame middle, length-frame)) in
    and_from (nat_le 6 n) (is_frame_at (framed middle) 0 && is_frame_at (framed middle) (n - 3)) (le-leb 6 n (omega (arith, size))) end

-- turns whose last three pass end in the frame
ends : (turns : List Turn) (n : ℕ) → length turns ≡ n + 3 → IsTrue (is_frame_at turns n)
    → (middle : List Turn) × (turns ≡ middle ++ frame)
unfolding is_frame_at
ends [] n size is = absurd (omega (arith, size))
ends (a ∷ []) n size is = absurd (omega (arith, size))
ends (a ∷ b ∷ []) n size is = absurd (omega (arith, size))
ends (a ∷ b ∷ c ∷ []) zero size is = ([], three-are a b c is)
ends (a ∷ b ∷ c ∷ []) (suc n) size is = absurd (omega (arith, size))
ends (a ∷ b ∷ c ∷ d ∷ rest) zero size is = absurd (omega (arith, size))
ends (a ∷ b ∷ c ∷ d ∷ rest) (suc n) size is =
    let later = ends (b ∷ c ∷ d ∷ rest) n (omega (arith, size)) (sym (frame_behind (a ∷ []) (b ∷ c ∷ d ∷ rest) (suc n) n (omega arith)) ∙ is) in
    (a ∷ later.0, ap (λ turns. a ∷ turns) later.1)

-- the test tells what is between two frames
pub is_framed-is : (turns : List Turn) → IsTrue (is_framed turns) → IsFramed turns
unfolding is_framed is_frame_at
is_framed-is [] is = absurd (false≢true is)
is_framed-is (a ∷ []) is = absurd (false≢true is)
is_framed-is (a ∷ b ∷ []) is = absurd (false≢true is)
is_framed-is (a ∷ b ∷ c ∷ rest) is =
    let turns = a ∷ b ∷ c ∷ rest in
    let n = length turns - 3 in
    let tests = and_second (nat_le 6 (length turns)) (is_frame_at turns 0 && is_frame_at turns n) is in
    let long : 6 ≤ length turns = leb-true 6 (length turns) (and_first (nat_le 6 (length turns)) (is_frame_at turns 0 && is_frame_at turns n) is) in
    let first = three-are a b c (and_first (is_frame_at turns 0) (is_frame_at turns n) tests) in
    let end = and_second (is_frame_at turns 0) (is_frame_at turns n) tests in
    let m = length rest - 3 in
    let last = ends rest m (omega (arith, long)) (sym (frame_behind (a ∷ b ∷ c ∷ []) rest n m (omega (arith, long))) ∙ end) in
    record { middle = last.0; whole = ap (λ front. front ++ rest) first ∙ ap (λ end. frame ++ end) last.1 ∙ sym (append_assoc frame last.0 frame) }
