-- The turns of the big cubes by their numbers, and which of them may follow each.
use Rattle.std.proofs.Common.{◌≡◌, ◌==◌, ℕ, ◌+◌, ◌-◌, ◌*◌, ◌/◌, ◌%◌, ◌<◌, Bool, true, not, ◌||◌, List, length, Some, refl, sym, ap, ◌∙◌, subst, inl, inr, arith}
use Rattle.std.specs.Prelude.{◌≢◌, ◌⊎◌, ◌↔◌, slice_get, nat_lt, if◌then◌else◌, IsTrue}
use Rattle.std.proofs.lemmas.Bool.Decides.{nat_tests}
use Rattle.std.proofs.lemmas.Bool.{cases_eq, cond_both, or_cases, or_left, or_right, not-true}
use Rattle.std.proofs.lemmas.Option.{slice_get-get_or, slice_get_within, same_Some}
use Rattle.scr_notation.specs.declared.turn.Turn.{Turn}
use Rattle.scr_notation.specs.declared.turn.Turn.TheVariants.{Face}
use Rattle.scr_notation.specs.Turns.{permits}
use Rattle.scr_bigs.specs.BigCubes.{IsSide, cube_event, cube_turns, may_follow, turns_after}
use Rattle.scr_bigs.specs.Fairness.{AreFairTurns}
use Rattle.scr_bigs.specs.Following.{axis_of}
use Rattle.scr_bigs.specs.LeftOut.{AreLeft, number_of_choice}
use Rattle.scr_bigs.specs.Choices.{IsFairChoice}
use Rattle.scr_bigs.proofs.Listed.{listed, length-listed, listed-at, listed-same, listed-fair}

-- what holds of each of the three cubes
by_side : (P : ℕ → Type 0) (side : ℕ) → IsSide side → P 5 → P 6 → P 7 → P side
by_side P side is five six seven =
    elim (cases_eq side 5) [
      | inl e ↦ subst P (sym e) five
      | inr not_five ↦
          elim (cases_eq side 6) [
            | inl e ↦ subst P (sym e) six
            | inr not_six ↦ let e : side ≡ 7 = omega arith in subst P (sym e) seven
          ]
    ]

-- how many turns there are
abbrev pub turn_count : ℕ → ℕ
turn_count side = 9 * (side - 1)

-- the turn with a number, by the place of its slab in the order of its axis
unfoldable pub turn_numbered : ℕ → ℕ → Turn
turn_numbered side n =
    let axis = n / 3 / (side - 1) in
    let place = n / 3 % (side - 1) in
    let amount = n % 3 + 1 in
    if nat_lt place (side / 2) then Face axis (place + 1) amount else Face (axis + 3) (place - side / 2 + 1) amount

-- the number that a turn has
unfoldable turn_number : ℕ → Turn → ℕ
turn_number side (Face face layers amount) =
    3 * (face % 3 * (side - 1) + (if nat_lt face 3 then layers - 1 else layers - 1 + side / 2)) + (amount - 1)
turn_number side _ = 0

-- the turns that may not follow it, by their numbers: so many from the first on
abbrev pub first_left_out : ℕ → ℕ → ℕ
first_left_out side n = 3 * (n / 3 - n / 3 % (side - 1))

abbrev pub count_left_out : ℕ → ℕ → ℕ
count_left_out side n = 3 * (n / 3 % (side - 1) + 1)

-- the turns that are left when so many from the first on are left out
abbrev turns_left : ℕ → ℕ → ℕ → List Turn
turns_left side first count =
    listed (λ choice. turn_numbered side (number_of_choice first count choice)) (turn_count side - count)

-- it may be followed by the turn with another number: that is about another axis, or of a later slab
follows : ℕ → ℕ → ℕ → Bool
follows side m n = not (axis_of (turn_numbered side m) == axis_of (turn_numbered side n)) || nat_lt (m / 3) (n / 3)

-- ---- what is computed

turns-listed : (side : ℕ) → IsSide side → cube_turns side ≡ listed (turn_numbered side) (turn_count side)
unfolding cube_turns turn_numbered
turns-listed side is = by_side (λ s. cube_turns s ≡ listed (turn_numbered s) (turn_count s)) side is refl refl refl

-- of each turn: those that may follow it, and whether each may; its number; and whether it is one of the event
record Facts : Type 0 where
  after : List Turn
  follow : List Bool
  number : ℕ
  permitted : Bool

facts_of : ℕ → ℕ → Facts
facts_of side n = record {
  after = turns_after side (turn_numbered side n);
  follow = listed (λ m. may_follow (turn_numbered side n) (turn_numbered side m)) (turn_count side);
  number = turn_number side (turn_numbered side n);
  permitted = permits (cube_event side) (turn_numbered side n);
}

facts_told : ℕ → ℕ → Facts
facts_told side n = record {
  after = turns_left side (first_left_out side n) (count_left_out side n);
  follow = listed (follows side n) (turn_count side);
  number = n;
  permitted = true;
}

AreTold : ℕ → Type 0
AreTold side = listed (facts_of side) (turn_count side) ≡ listed (facts_told side) (turn_count side)

all_told : (side : ℕ) → IsSide side → AreTold side
unfolding AreTold facts_of facts_told cube_turns turns_after turn_numbered turn_number follows
all_told side is = by_side AreTold side is refl refl refl

told : (side n : ℕ) → IsSide side → n < turn_count side → facts_of side n ≡ facts_told side n
unfolding AreTold
told side n is below = listed-same (facts_of side) (facts_told side) (turn_count side) n (all_told side is) below

-- ---- the turns by their numbers

pub turn-at : (side n : ℕ) → IsSide side → n < turn_count side → slice_get (cube_turns side) n ≡ Some (turn_numbered side n)
turn-at side n is below =
    ap (λ turns. slice_get turns n) (turns-listed side is) ∙ listed-at (turn_numbered side) (turn_count side) n below

-- a turn that stands among them is that with the number of its place
record IsNumbered (side n : ℕ) (turn : Turn) : Type 0 where
  below : n < turn_count side
  is : turn_numbered side n ≡ turn

numbered : (side n : ℕ) (turn : Turn) → IsSide side → slice_get (cube_turns side) n ≡ Some turn → IsNumbered side n turn
numbered side n turn is there =
    let size = ap length (turns-listed side is) ∙ length-listed (turn_numbered side) (turn_count side) in
    let within = slice_get_within (cube_turns side) n turn there in
    let below : n < turn_count side = omega arith in
    record { below = below; is = same_Some _ _ (sym (turn-at side n is below) ∙ there) }

pub turn-permitted : (side n : ℕ) (turn : Turn) → IsSide side → slice_get (cube_turns side) n ≡ Some turn
    → IsTrue (permits (cube_event side) turn)
unfolding facts_of facts_told
turn-permitted side n turn is there =
    let known = numbered side n turn is there in
    rw known.is at (ap (λ (f : Facts). f.permitted) (told side n is known.below))

-- two numbers of one turn are the same
same-number : (side m n : ℕ) → IsSide side → m < turn_count side → n < turn_count side
    → turn_numbered side m ≡ turn_numbered side n → m ≡ n
unfolding facts_of facts_told
same-number side m n is below below' same =
    sym (ap (λ (f : Facts). f.number) (told side m is below)) ∙ ap (turn_number side) same
    ∙ ap (λ (f : Facts). f.number) (told side n is below')

-- ---- the turns that are left

choice-below : (side first count choice : ℕ) → choice < turn_count side - count
    → number_of_choice first count choice < turn_count side
choice-below side first count choice below =
    cond_both (nat_lt choice first) choice (choice + count) (λ n. n < turn_count side) (λ e. omega arith) (λ e. omega arith)

choice-same : (first count i j : ℕ) → number_of_choice first count i ≡ number_of_choice first count j → i ≡ j
choice-same first count i j same = grind (arith, nat_tests)

-- not all are left out
some_left : (side n : ℕ) → IsSide side → count_left_out side n < turn_count side
some_left side n is = let large = is.large in omega arith

-- those that may follow a turn
after-numbered : (side n : ℕ) (turn : Turn) → IsSide side → slice_get (cube_turns side) n ≡ Some turn
    → turns_after side turn ≡ turns_left side (first_left_out side n) (count_left_out side n)
unfolding facts_of facts_told
after-numbered side n turn is there =
    let known = numbered side n turn is there in
    ap (turns_after side) (sym known.is) ∙ ap (λ (f : Facts). f.after) (told side n is known.below)

turns_left-left : (side first count : ℕ) (choices : List Turn) → IsSide side → count < turn_count side
    → choices ≡ turns_left side first count → AreLeft side first count choices
turns_left-left side first count choices is some same = record {
  some = some;
  size = ap length same ∙ length-listed _ (turn_count side - count);
  each = λ choice below.
      ap (λ turns. slice_get turns choice) same ∙ listed-at _ (turn_count side - count) choice below
      ∙ sym (turn-at side (number_of_choice first count choice) is (choice-below side first count choice below));
}

pub left-after : (side n : ℕ) (turn : Turn) → IsSide side → slice_get (cube_turns side) n ≡ Some turn
    → AreLeft side (first_left_out side n) (count_left_out side n) (turns_after side turn)
left-after side n turn is there =
    turns_left-left side _ _ _ is (some_left side n is) (after-numbered side n turn is there)

-- at first each turn is left
all-listed : (side : ℕ) → IsSide side → cube_turns side ≡ turns_left side 0 0
unfolding cube_turns turn_numbered
all-listed side is = by_side (λ s. cube_turns s ≡ turns_left s 0 0) side is refl refl refl

pub all-left : (side : ℕ) → IsSide side → AreLeft side 0 0 (cube_turns side)
all-left side is =
    let large = is.large in
    turns_left-left side 0 0 (cube_turns side) is (omega arith) (all-listed side is)

-- ---- which may follow which

tells-follows : (a b c d : ℕ) → IsTrue (not (a == b) || nat_lt c d) ↔ ((a ≢ b) ⊎ (c < d))
tells-follows a b c d = (λ h. grind (arith, nat_tests, or_cases, not-true), λ h. grind (arith, nat_tests, or_left, or_right))

pub follow-tells : (side i j : ℕ) (before next : Turn) → IsSide side → slice_get (cube_turns side) i ≡ Some before
    → slice_get (cube_turns side) j ≡ Some next
    → IsTrue (may_follow before next) ↔ ((axis_of before ≢ axis_of next) ⊎ (i / 3 < j / 3))
unfolding facts_of facts_told follows
follow-tells side i j before next is at_i at_j =
    let first = numbered side i before is at_i in
    let second = numbered side j next is at_j in
    let same = ap (λ (f : Facts). f.follow) (told side i is first.below) in
    let here = rw (first.is, second.is) at (listed-same _ (follows side i) (turn_count side) j same second.below) in
    rw here (tells-follows (axis_of before) (axis_of next) (i / 3) (j / 3))

-- ---- fairness

turns_left-fair : (side first count : ℕ) (choices : List Turn) → IsSide side → count < turn_count side
    → choices ≡ turns_left side first count → IsFairChoice choices
turns_left-fair side first count choices is some same =
    let small = is.small in
    subst IsFairChoice (sym same)
    (listed-fair _ (turn_count side - count)
    (λ i j low_i low_j e.
    choice-same first count i j
    (same-number side _ _ is (choice-below side first count i low_i) (choice-below side first count j low_j) e))
    (omega arith) (omega arith))

pub fair-turns : (side : ℕ) → IsSide side → AreFairTurns side
fair-turns side is =
    let turns : List Turn = cube_turns side in
    let left = all-left side is in
    record {
      first = turns_left-fair side 0 0 turns is left.some (all-listed side is);
      later = λ before there.
          let here : slice_get turns there.0 ≡ Some before = slice_get-get_or turns there.0 before there.1 ∙ ap Some there.2 in
          turns_left-fair side _ _ _ is (some_left side there.0 is) (after-numbered side there.0 before is here);
    }
