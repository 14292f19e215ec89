-- The test of a minimum is exact, and so is a search that leaves out turns of the layers right after each other, and
-- twists.
use Rattle.std.proofs.Common.{◌≡◌, ℕ, suc, ◌+◌, ◌%◌, ◌<◌, ◌≤◌, inl, inr, Bool, true, false, IsTrue, List, [], ◌∷◌, length, Some, None, refl, sym, ap, ◌∙◌, subst, arith, eq-eqb, eqb-true}
use Rattle.std.specs.Prelude.{◌↔◌, All, ◌==◌, ◌&&◌, not, nat_lt, ℤ, ◌+ℤ◌}
use Rattle.std.proofs.lemmas.Bool.{cases_eq, cases_lt, cond-true, lt-ltb, and_parts, false≢true}
use Rattle.scr_combinatorics.specs.Play.{play}
use Rattle.scr_combinatorics.specs.Reach.{Needs}
use Rattle.scr_combinatorics.proofs.PlayLaws.{play-empty, play-first, play-one, play-parts}
use Rattle.scr_orbit.proofs.Minima.{count_once}
use Rattle.scr_notation.specs.declared.event.Kind.TheVariants.{LayersAndTwist}
use Rattle.scr_notation.specs.declared.turn.Turn.{Turn}
use Rattle.scr_notation.specs.declared.turn.Turn.TheVariants.{Layers, Twist}
use Rattle.scr_notation.specs.Layers.{twelfths, are_still}
use Rattle.scr_notation.specs.TurnNumbers.{layer_turn_at, turn_at}
use Rattle.scr_notation.specs.Ranges.{same}
use Rattle.scr_notation.proofs.LayersLaws.{are_still-first, are_still-second, layers-permitted}
use Rattle.scr_notation.proofs.NumberLaws.{numbered}
use Rattle.scr_table.specs.Moves.{after_move as number_turned, NeedsTurns, NeverHelps}
use Rattle.scr_table.proofs.MovesLaws.{turned-turn}
use Rattle.scr_table.proofs.StepLaws.{taken_where}
use Rattle.scr_table.proofs.TriedWords.{needs_test-iff as tried-iff}
use Rattle.scr_sq1.specs.Units.{Sq1State, IsSq1, is_open, solved_sq1, turned, twisted, sq1_after, sq1_puzzle}
use Rattle.scr_sq1.proofs.Lawful.{turned-still, turned-sum, sq1_after-layers, sq1_after-by_layers, sq1_after-twist, twisted-twice, IsLawful-sq1}
use Rattle.scr_sq1.proofs.NumberedTurns.{number-after, top_of, bottom_of, twist_number, layers_number}
use Rattle.scr_sq1solve.specs.Minima.{is_solved_sq1, sq1_moves, needs_test_sq1}
use Rattle.scr_sq1tables.proofs.PairingStage.{same-true}

-- ---- solved states

is_solved-solved : IsTrue (is_solved_sq1 solved_sq1)
unfolding is_solved_sq1 same
is_solved-solved = refl

solved_from : (us : List ℕ) (b : Bool) → IsTrue (same us solved_sq1.units && not b)
    → (let s : Sq1State = record { units = us; equator = b } in s ≡ solved_sq1)
solved_from us true t = absurd (false≢true (and_parts (same us solved_sq1.units) false t).1)
solved_from us false t =
    ap (λ xs. let s : Sq1State = record { units = xs; equator = false } in s)
    (same-true us solved_sq1.units (and_parts (same us solved_sq1.units) true t).0)

pub is_solved-iff : (s : Sq1State) → IsTrue (is_solved_sq1 s) ↔ (s ≡ solved_sq1)
unfolding is_solved_sq1
is_solved-iff s = (λ t. solved_from s.units s.equator t, λ e. ap is_solved_sq1 e ∙ is_solved-solved)

-- ---- turns by their numbers

pub after-size : (s : Sq1State) (n : ℕ) → length s.units ≡ 24 → sq1_moves.after s n ≡ sq1_after s (layer_turn_at n)
after-size s n size = cond-true (length s.units == 24) (sq1_after s (layer_turn_at n)) None (eq-eqb (length s.units) 24 size)

turned-number : (s : Sq1State) (n : ℕ) → length s.units ≡ 24 → n < 144
    → number_turned sq1_moves s n ≡ sq1_after s (layer_turn_at n)
turned-number s n size lt = cond-true (nat_lt n 144) (sq1_moves.after s n) None (lt-ltb n 144 lt) ∙ after-size s n size

record IsMoved (s r : Sq1State) (n : ℕ) : Type 0 where
  pub below : n < 144
  pub size : length s.units ≡ 24
  pub made : sq1_after s (layer_turn_at n) ≡ Some r

IsMoved-turned : (s r : Sq1State) (n : ℕ) → number_turned sq1_moves s n ≡ Some r → IsMoved s r n
IsMoved-turned s r n e =
    let a = turned-turn sq1_moves s r n e in
    let b = taken_where (length s.units == 24) (sq1_after s (layer_turn_at n)) r a.1 in
    record { below = a.0; size = eqb-true (length s.units) 24 b.0; made = b.1 }

-- ---- two turns of the layers, or two twists, right after each other

-- what one word of at most one turn makes
abbrev MadeByOne : Sq1State → Sq1State → Type 0
MadeByOne s q = (w : List ℕ) × (length w ≤ 1) × (play (number_turned sq1_moves) s w ≡ Some q)

by_none : (s q : Sq1State) → q ≡ s → MadeByOne s q
by_none s q e = ([], omega arith, play-empty (number_turned sq1_moves) s ∙ ap Some (sym e))

by_layers : (s q : Sq1State) (x y : ℤ) (b : Bool) → are_still (twelfths x) (twelfths y) ≡ b → length s.units ≡ 24
    → IsTrue (is_open q.units) → q ≡ turned s (twelfths x) (twelfths y) → MadeByOne s q
unfolding turn_at
by_layers s q x y true still size opened is =
    by_none s q (is ∙ turned-still s (twelfths x) (twelfths y) size (are_still-first (twelfths x) (twelfths y) still) (are_still-second (twelfths x) (twelfths y) still))
by_layers s q x y false some size opened is =
    let letter = layers-permitted x y some in
    let n = numbered LayersAndTwist (Layers (twelfths x) (twelfths y)) tt letter in (
      n.0 ∷ [],
      omega arith,
      play-one (number_turned sq1_moves) s n.0 ∙ turned-number s n.0 size n.1 ∙ ap (sq1_after s) n.2
          ∙ sq1_after-by_layers s (twelfths x) (twelfths y) letter (ap (λ r. is_open r.units) (sym is) ∙ opened) ∙ ap Some (sym is),
    )

pub NeverHelps-idle : (first second : ℕ) → (first == 65) ≡ (second == 65) → NeverHelps sq1_moves first second
NeverHelps-idle first second alike = λ s r q e f.
    let a = IsMoved-turned s r first e in
    let b = IsMoved-turned r q second f in
    elim (cases_eq first 65) [
      | inl is ↦
          let other : second ≡ 65 = eqb-true second 65 (sym alike ∙ eq-eqb first 65 is) in
          let one : sq1_after s Twist ≡ Some r = sym (ap (sq1_after s) (twist_number first is)) ∙ a.made in
          let two : sq1_after r Twist ≡ Some q = sym (ap (sq1_after r) (twist_number second other)) ∙ b.made in
          by_none s q (sq1_after-twist r q two ∙ ap twisted (sq1_after-twist s r one) ∙ twisted-twice s a.size)
      | inr apart ↦
          let other : second ≡ 65 → ⊥ = λ is. apart (eqb-true first 65 (alike ∙ eq-eqb second 65 is)) in
          let x = top_of first in
          let y = bottom_of first in
          let z = top_of second in
          let w = bottom_of second in
          let one = sq1_after-layers s r x y (sym (ap (sq1_after s) (layers_number first apart)) ∙ a.made) in
          let two = sq1_after-layers r q z w (sym (ap (sq1_after r) (layers_number second other)) ∙ b.made) in
          by_layers s q (x +ℤ z) (y +ℤ w) (are_still (twelfths (x +ℤ z)) (twelfths (y +ℤ w))) refl a.size
          (ap (λ p. is_open p.units) two.is ∙ two.opened)
          (two.is ∙ ap (λ p. turned p z w) one.is ∙ turned-sum s x y z w)
    ]

-- ---- words of numbers and of turns

numbers-of : (w : List Turn) (s end : Sq1State) → IsSq1 s → play sq1_after s w ≡ Some end
    → (ns : List ℕ) × (length ns ≡ length w) × (play (number_turned sq1_moves) s ns ≡ Some end)
numbers-of [] s end valid e =
    ([], refl, play-empty (number_turned sq1_moves) s ∙ sym (play-empty sq1_after s) ∙ e)
numbers-of (t ∷ w) s end valid e =
    let parts = play-parts sq1_after s end t w e in
    let n = number-after s parts.0 t parts.1 in
    let rest = numbers-of w parts.0 end (IsLawful-sq1.keeps s parts.0 t valid parts.1) parts.2 in (
      n.0 ∷ rest.0,
      ap suc rest.1,
      play-first (number_turned sq1_moves) s parts.0 n.0 rest.0 (turned-number s n.0 valid.size n.1 ∙ ap (sq1_after s) n.2 ∙ parts.1) ∙ rest.2,
    )

turns-of : (ns : List ℕ) (s end : Sq1State) → play (number_turned sq1_moves) s ns ≡ Some end
    → (w : List Turn) × (length w ≡ length ns) × (play sq1_after s w ≡ Some end)
turns-of [] s end e =
    ([], refl, play-empty sq1_after s ∙ sym (play-empty (number_turned sq1_moves) s) ∙ e)
turns-of (n ∷ ns) s end e =
    let parts = play-parts (number_turned sq1_moves) s end n ns e in
    let m = IsMoved-turned s parts.0 n parts.1 in
    let rest = turns-of ns parts.0 end parts.2 in
    (layer_turn_at n ∷ rest.0, ap suc rest.1, play-first sq1_after s parts.0 (layer_turn_at n) rest.0 m.made ∙ rest.2)

pub NeedsTurns-iff : (s : Sq1State) (least : ℕ) → IsSq1 s → NeedsTurns sq1_moves s least ↔ Needs sq1_puzzle s least
NeedsTurns-iff s least valid = (
  λ needs. λ w end few played is.
      let ns = numbers-of w s end valid played in
      omega (arith, few, count_once w, ns.1, needs ns.0 (record { end = end; played = ns.2; goal = (is_solved-iff end).1 is })),
  λ needs. λ ns l. elim (cases_lt (length ns) least) [
    | inl few ↦
        let w = turns-of ns s l.end l.played in
        absurd (needs w.0 l.end (omega (arith, few, count_once w.0, w.1)) w.2 ((is_solved-iff l.end).0 l.goal))
    | inr le ↦ le
  ],
)

-- ---- the test

pub needs_test-iff : (s : Sq1State) (least : ℕ) → IsSq1 s → IsTrue (needs_test_sq1 s least) ↔ Needs sq1_puzzle s least
needs_test-iff s least valid =
    let tried = tried-iff 144 (number_turned sq1_moves) is_solved_sq1 (λ r q t e. (turned-turn sq1_moves r q t e).0) s least in
    let same = NeedsTurns-iff s least valid in
    (λ t. same.0 (tried.0 t), λ needs. tried.1 (same.1 needs))
