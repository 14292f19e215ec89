-- The first stage: words go along with the index of shape and parity; its letters are played by parts, and so are their
-- indexes.
use Rattle.std.proofs.Common.{◌≡◌, ℕ, ◌+◌, ◌*◌, ◌/◌, ◌%◌, ◌<◌, false, List, [], ◌∷◌, Option, Some, None, refl, sym, ap, ◌∙◌, arith, lit<, ◌-◌, Bool, cond, ◌++◌}
use Rattle.std.specs.Prelude.{◌↔◌, ℤ, pos, ◌-ℤ◌, option_and_then, IfSome}
use Rattle.std.specs.Option.{option_map}
use Rattle.scr_combinatorics.specs.Digits.{mixed_digits}
use Rattle.scr_combinatorics.specs.Permutations.{IsPermutation, parity, permutation_at}
use Rattle.scr_combinatorics.specs.Play.{play}
use Rattle.scr_combinatorics.proofs.OneLetter.{IsEnding}
use Rattle.scr_combinatorics.proofs.PermutationNumbers.{IsPermutation-at}
use Rattle.scr_positions.specs.Coordinates.{StaysBelow, Coordinate}
use Rattle.scr_positions.specs.SearchSpaces.{positions, Follows, ShowsSame}
use Rattle.scr_notation.specs.declared.turn.Turn.{Turn}
use Rattle.scr_sq1.specs.Units.{Sq1State, IsSq1, solved_sq1, sq1_after, after_layers, twisted}
use Rattle.scr_sq1.specs.Shapes.{shape_of, shape_number, shape_at, half_words, half_word, half_of, ways_after, corner_counts}
use Rattle.scr_sq1.specs.Numbers.{corners_of, edges_of, laid, shape_word, sq1_of_digits}
use Rattle.scr_sq1.proofs.HalfNumbers.{halves_number, shapes_one_to_one, shape_number-known}
use Rattle.scr_sq1.proofs.Numbering.{sq1_bases}
use Rattle.scr_sq1.proofs.StatePieces.{StatePieces-valid, LaidState-pieces}
use Rattle.scr_sq1.proofs.Lawful.{IsSq1-solved, after_layers-open, turned-still}
use Rattle.scr_sq1tables.specs.Stages.{IsNormal, oddness, turn_word, shape_letter, squaring_letter, shape_stage, squaring_stage}
use Rattle.scr_sq1tables.specs.Tables.{shapes_index, shapes_state, shapes_coordinate, has_number, leads_home, shapes_numbered}
use Rattle.scr_sq1tables.specs.Spaces.{IsNormalSq1}
use Rattle.scr_sq1tables.specs.SearchTables.{shapes_table}
use Rattle.scr_sq1tables.proofs.Numbers.{at_each}
use Rattle.scr_sq1tables.proofs.Renamed.{renamed, base_of, names_of, AreNames-valid, LaidState-base, shape_of-named, play-base, keeps_sq1, oddness-renamed}
use Rattle.scr_sq1tables.proofs.Indexed.{IsIndex, Follows-index, StaysBelow-index}
use mir.Syntax.{w8}
use mir.Val.{to_z, of_z}
use Rattle.std.proofs.lemmas.Int.{ints}
use Rattle.scr_combinatorics.specs.Stages.{by_letters}
use Rattle.scr_combinatorics.proofs.PlayLaws.{play-empty, play-one}
use Rattle.scr_combinatorics.proofs.StageLaws.{by_letters-played, by_letters-parts}
use Rattle.scr_positions.proofs.IndexLaws.{StaysBelow-indexed}
use Rattle.scr_notation.specs.declared.turn.Turn.TheVariants.{Layers, Twist}
use Rattle.scr_notation.specs.Layers.{are_still}
use Rattle.scr_notation.proofs.LayersLaws.{IsTwelfths, twelfths-own, are_still-first}
use Rattle.scr_sq1.proofs.InHalves.{is_open-valid}
use Rattle.scr_sq1.proofs.LayersApart.{after_layers-apart}
use Rattle.scr_sq1tables.specs.Parts.{shape_part, shape_parts_coordinate}

-- ---- the index of states of one shape

oddness-lt : (s : Sq1State) → oddness s < 2
unfolding oddness
oddness-lt s = omega arith

pub record SameIndex (s r : Sq1State) : Type 0 where
  pub odd : oddness s ≡ oddness r
  pub shape : shape_of s.units ≡ shape_of r.units

pub SameIndex-index : (s r : Sq1State) → IsSq1 s → IsSq1 r → shapes_index s ≡ shapes_index r → SameIndex s r
unfolding shapes_index
SameIndex-index s r vs vr e =
    grind (
      arith,
      oddness-lt s,
      oddness-lt r,
      shapes_one_to_one.state_again (shape_of s.units) (StatePieces-valid s vs).shape,
      shapes_one_to_one.state_again (shape_of r.units) (StatePieces-valid r vr).shape,
    )

-- the index of a state whose pieces are called otherwise, by names that are so odd together
abbrev index_beside : ℕ → Sq1State → ℕ
index_beside odd b = (odd + oddness b) % 2 + 2 * shape_number (shape_of b.units)

-- a word's index is told by that of the state
shapes_played : (s : Sq1State) (w : List Turn) → IsSq1 s → option_map shapes_index (play sq1_after s w)
    ≡ option_map (index_beside (oddness s)) (play sq1_after (base_of (shape_of s.units)) w)
unfolding shapes_index oddness
shapes_played s w valid =
    let base : Sq1State = base_of (shape_of s.units) in
    let laid_base = LaidState-base (shape_of s.units) (StatePieces-valid s valid).shape in
    ap (option_map shapes_index) (play-base s w valid)
    ∙ beside (play sq1_after base w) (λ b e. keeps_sq1 base b w (laid_base.valid false) e)
  where
    beside : (o : Option Sq1State) → ((b : Sq1State) → o ≡ Some b → IsSq1 b)
        → option_map shapes_index (option_map (renamed (names_of s)) o) ≡ option_map (index_beside (oddness s)) o
    beside None v = refl
    beside (Some b) v =
        let are = AreNames-valid s valid in
        ap Some (omega (arith, oddness-renamed (names_of s) are b (v b refl), ap shape_number (shape_of-named (names_of s) are b.units)))

pub shapes_alike : (s r : Sq1State) (w : List Turn) → IsSq1 s → IsSq1 r → shapes_index s ≡ shapes_index r
    → option_map shapes_index (play sq1_after s w) ≡ option_map shapes_index (play sq1_after r w)
shapes_alike s r w vs vr e =
    let same = SameIndex-index s r vs vr e in
    shapes_played s w vs
    ∙ ap (λ odd. option_map (index_beside odd) (play sq1_after (base_of (shape_of s.units)) w)) same.odd
    ∙ ap (λ hs. option_map (index_beside (oddness r)) (play sq1_after (base_of hs) w)) same.shape
    ∙ sym (shapes_played r w vr)

-- ---- the states that stand for the indexes

-- the number of the state that stands for an index
abbrev pub index_state_number : ℕ → ℕ
index_state_number i = 2 * 40320 * (5040 * (i % 2) + 40320 * (i / 2))

pub state-of_index : (i : ℕ) → i < 7356 → sq1_of_digits (mixed_digits sq1_bases (index_state_number i)) ≡ shapes_state i
unfolding shapes_state
state-of_index i lt = grind arith

edges-odd : (odd : ℕ) → odd < 2 → parity (permutation_at 8 (5040 * odd)) ≡ odd
unfolding permutation_at
edges-odd = at_each (λ odd. parity (permutation_at 8 (5040 * odd))) (λ odd. odd) 2 refl

record IsStateOf (i : ℕ) : Type 0 where
  pub valid : IsSq1 (shapes_state i)
  pub index : shapes_index (shapes_state i) ≡ i

IsStateOf-below : (i : ℕ) → i < 7356 → IsStateOf i
unfolding shapes_state shapes_index oddness sq1_of_digits
IsStateOf-below i lt =
    let low : i / 2 < 3678 = omega arith in
    let odd : i % 2 < 2 = omega arith in
    let l = LaidState-pieces (shape_at (i / 2)) (permutation_at 8 0) (permutation_at 8 (5040 * (i % 2))) (shapes_one_to_one.valid (i / 2) low)
    (IsPermutation-at 8 0 (lit< tt)) (IsPermutation-at 8 (5040 * (i % 2)) (omega (arith, odd))) in
    record {
      valid = l.valid false;
      index = omega (
        arith,
        ap parity l.corners_again,
        ap parity l.edges_again,
        edges-odd 0 (lit< tt),
        edges-odd (i % 2) odd,
        ap shape_number l.shape_again,
        shapes_one_to_one.number_again (i / 2) low,
      );
    }

-- ---- normal states

pub oddness-solved : oddness solved_sq1 ≡ 0
unfolding oddness corners_of edges_of
oddness-solved = refl

-- the index of normal states
pub normal_index : shapes_index solved_sq1 ≡ 2344
unfolding shapes_index oddness corners_of edges_of halves_number ways_after corner_counts shape_of half_of half_words
normal_index = ap (λ shape. 0 + 2 * shape) (shape_number-known (7 ∷ 7 ∷ 10 ∷ 10 ∷ []) 1172 refl refl refl refl)

pub IsNormal-iff : (s : Sq1State) → IsSq1 s → IsNormal s ↔ (shapes_index s ≡ shapes_index solved_sq1)
unfolding shapes_index
IsNormal-iff s valid = (
  λ n. omega (arith, n.even, oddness-solved, ap shape_number n.shape),
  λ e. let same = SameIndex-index s solved_sq1 valid IsSq1-solved e in record { shape = same.shape; even = same.odd ∙ oddness-solved },
)

-- the state of the square shape with these corners and these edges in unit order
abbrev pub square_of : List ℕ → List ℕ → Sq1State
square_of cs es = record { units = laid (shape_word (shape_of solved_sq1.units)) cs es; equator = false }

-- It is normal where both lists have one parity.
pub record IsSquareOf (cs es : List ℕ) : Type 0 where
  pub normal : IsNormalSq1 (square_of cs es)
  pub corners : corners_of (square_of cs es).units ≡ cs
  pub edges : edges_of (square_of cs es).units ≡ es

pub IsSquareOf-lists : (cs es : List ℕ) → IsPermutation 8 cs → IsPermutation 8 es → (parity cs + parity es) % 2 ≡ 0
    → IsSquareOf cs es
unfolding oddness
IsSquareOf-lists cs es p q even =
    let hs : List ℕ = shape_of solved_sq1.units in
    let l = LaidState-pieces hs cs es (StatePieces-valid solved_sq1 IsSq1-solved).shape p q in
    record {
      normal = record {
        valid = l.valid false;
        normal = record { shape = l.shape_again; even = omega (arith, even, ap parity l.corners_again, ap parity l.edges_again) };
      };
      corners = l.corners_again;
      edges = l.edges_again;
    }

pub IsEnding-squaring : IsEnding sq1_after squaring_stage
unfolding squaring_letter turn_word
IsEnding-squaring = record { bound = refl; some = lit< tt; empty = refl }

pub IsIndex-shapes : IsIndex IsSq1 7356 shapes_index shapes_state shape_stage squaring_stage
unfolding shapes_index
IsIndex-shapes = record {
  valid = λ i lt. (IsStateOf-below i lt).valid;
  again = λ i lt. (IsStateOf-below i lt).index;
  below = λ s v. omega (arith, oddness-lt s, shapes_one_to_one.below (shape_of s.units) (StatePieces-valid s v).shape);
  alike = shapes_alike;
  kept = λ s r n v lt e. keeps_sq1 s r (shape_letter n) v e;
  ending = IsEnding-squaring;
  ended = λ s r n v lt e. IsNormal-iff r (keeps_sq1 s r (squaring_letter n) v e);
}

pub Follows-shapes : Follows shapes_table.space (positions shapes_coordinate) shapes_index
Follows-shapes = Follows-index IsIndex-shapes

pub StaysBelow-shapes : StaysBelow shapes_coordinate
StaysBelow-shapes = StaysBelow-index IsIndex-shapes

-- a word does to a normal state what it does to the solved one, but for the names of the pieces
pub play-normal : (s : Sq1State) (w : List Turn) → IsSq1 s → IsNormal s
    → play sq1_after s w ≡ option_map (renamed (names_of s)) (play sq1_after solved_sq1 w)
unfolding shape_of half_of half_words half_word shape_word
play-normal s w valid normal =
    play-base s w valid ∙ ap (λ hs. option_map (renamed (names_of s)) (play sq1_after (base_of hs) w)) normal.shape

-- ---- turns of the layers, still or not

abbrev pub amount : ℕ → ℤ
amount k = pos k -ℤ pos 5

pub IsTwelfths-amount : (k : ℕ) → k < 12 → IsTwelfths (amount k)
IsTwelfths-amount k lt = record { low = omega (arith, ints); high = omega (arith, ints) }

pub IsTwelfths-none : IsTwelfths (pos 0)
IsTwelfths-none = record { low = omega (arith, ints); high = omega (arith, ints) }

abbrev word_by : Bool → ℤ → ℤ → List Turn
word_by still x y = cond still [] (Layers x y ∷ [])

module _ (s : Sq1State) (x y : ℤ) (h : IsSq1 s) (top : IsTwelfths x) (bottom : IsTwelfths y) where
  by_still : (b : Bool) → are_still x y ≡ b → play sq1_after s (word_by b x y) ≡ after_layers s x y
  unfolding sq1_after
  by_still b h0 = grind (arith, turned-still, are_still-first, play-empty, after_layers-open, is_open-valid, play-one)

  pub play-layers : play sq1_after s (turn_word x y) ≡ after_layers s x y
  unfolding turn_word
  play-layers = grind (arith, twelfths-own, by_still)

-- ---- parts

module _ (s : Sq1State) (h : IsSq1 s) where
  pub play-top : (n : ℕ) → n < 12 → play sq1_after s (shape_part n) ≡ after_layers s (amount n) (pos 0)
  unfolding shape_part turn_word
  play-top n lt = grind (arith, at_each, play-layers s (amount n) (pos 0) h (IsTwelfths-amount n lt) IsTwelfths-none)

  pub play-bottom : (n k : ℕ) → n ≡ 12 + k → k < 12 → play sq1_after s (shape_part n) ≡ after_layers s (pos 0) (amount k)
  unfolding shape_part turn_word
  play-bottom n k is lt =
      grind (arith, at_each, play-layers s (pos 0) (amount k) h IsTwelfths-none (IsTwelfths-amount k lt))

pub play-twist : (s : Sq1State) → play sq1_after s (shape_part 24) ≡ Some (twisted s)
unfolding shape_part sq1_after
play-twist s = play-one sq1_after s Twist

-- amounts as the code reads them
pub read-amount : (k : ℕ) → k < 12 → to_z w8 (of_z w8 (to_z w8 k -ℤ pos 5)) ≡ amount k
read-amount k lt = omega (arith, ints, lt)

-- a turn by amounts that are told otherwise
pub after-amounts : (s : Sq1State) (o : Option Sq1State) (x y a b : ℤ) → o ≡ after_layers s x y → x ≡ a → y ≡ b
    → o ≡ after_layers s a b
after-amounts s o x y a b e top bottom = e ∙ ap (λ z. after_layers s z y) top ∙ ap (after_layers s a) bottom

-- ---- a letter's parts, one after the other

behind_alike : (f g : Sq1State → Option Sq1State) (o : Option Sq1State) → ((r : Sq1State) → o ≡ Some r → f r ≡ g r)
    → option_and_then f o ≡ option_and_then g o
behind_alike f g o h0 = grind arith

joined_at : (v w : List Turn) (o : Option Sq1State)
    → ((r : Sq1State) → play sq1_after r (v ++ w) ≡ option_and_then (λ q. play sq1_after q w) (play sq1_after r v))
    → option_and_then (λ r. play sq1_after r (v ++ w)) o ≡ option_and_then (λ q. play sq1_after q w) (option_and_then (λ r. play sq1_after r v) o)
joined_at v w o h0 = grind arith

play-joined : (s : Sq1State) (v w : List Turn)
    → play sq1_after s (v ++ w) ≡ option_and_then (λ q. play sq1_after q w) (play sq1_after s v)
unfolding play
play-joined s [] w = refl
play-joined s (t ∷ v) w = joined_at v w (sq1_after s t) (λ r. play-joined r v w)

module _ (s : Sq1State) (h : IsSq1 s) where
  layers-parts : (a b : ℕ) → a < 12 → b < 12 → play sq1_after s (turn_word (amount a) (amount b))
      ≡ option_and_then (λ r. play sq1_after r (shape_part (12 + b))) (play sq1_after s (shape_part a))
  layers-parts a b la lb =
      play-layers s (amount a) (amount b) h (IsTwelfths-amount a la) (IsTwelfths-amount b lb)
      ∙ after_layers-apart s (amount a) (amount b) h
      ∙ ap (option_and_then (λ r. after_layers r (pos 0) (amount b))) (sym (play-top s h a la))
      ∙ behind_alike (λ r. after_layers r (pos 0) (amount b)) (λ r. play sq1_after r (shape_part (12 + b))) (play sq1_after s (shape_part a))
      (λ r e. sym (play-bottom r (keeps_sq1 s r (shape_part a) h e) (12 + b) b refl lb))

  letter-parts : (n : ℕ) → play sq1_after s (shape_letter n)
      ≡ option_and_then (λ r. play sq1_after r (shape_part 24)) (play sq1_after s (turn_word (amount (n / 12)) (amount (n % 12))))
  unfolding shape_letter shape_part
  letter-parts n = play-joined s (turn_word (amount (n / 12)) (amount (n % 12))) (Twist ∷ [])

-- ---- indexes

-- where a part leads from an index
abbrev pub part_after : ℕ → ℕ → Option ℕ
part_after i k = option_map shapes_index (play sq1_after (shapes_state i) (shape_part k))

index-behind : (o : Option Sq1State) (k : ℕ) → ((r : Sq1State) → o ≡ Some r → IsSq1 r)
    → option_map shapes_index (option_and_then (λ r. play sq1_after r (shape_part k)) o)
    ≡ option_and_then (λ i. part_after i k) (option_map shapes_index o)
index-behind None k valid = refl
index-behind (Some r) k valid = grind (arith, valid, IsIndex-shapes, shapes_alike)

module _ (i : ℕ) (lt : i < 7356) where
  valid : IsSq1 (shapes_state i)
  valid = IsIndex-shapes.valid i lt

  pub layers-index : (a b : ℕ) → a < 12 → b < 12
      → option_map shapes_index (play sq1_after (shapes_state i) (turn_word (amount a) (amount b)))
      ≡ option_and_then (λ j. part_after j (12 + b)) (part_after i a)
  layers-index a b la lb =
      ap (option_map shapes_index) (layers-parts (shapes_state i) valid a b la lb)
      ∙ index-behind (play sq1_after (shapes_state i) (shape_part a)) (12 + b) (λ r e. keeps_sq1 (shapes_state i) r (shape_part a) valid e)

  pub letter-index : (n : ℕ) → option_map shapes_index (play sq1_after (shapes_state i) (shape_letter n))
      ≡ option_and_then (λ j. part_after j 24)
      (option_map shapes_index (play sq1_after (shapes_state i) (turn_word (amount (n / 12)) (amount (n % 12)))))
  letter-index n =
      let w : List Turn = turn_word (amount (n / 12)) (amount (n % 12)) in
      ap (option_map shapes_index) (letter-parts (shapes_state i) valid n)
      ∙ index-behind (play sq1_after (shapes_state i) w) 24 (λ r e. keeps_sq1 (shapes_state i) r w valid e)

-- what the index after one of the four turns tells that make a state normal
pub squaring-tested : (p n : ℕ) (r : Option ℕ) → n < 4
    → r ≡ option_map shapes_index (play sq1_after (shapes_state p) (turn_word (amount (5 - n % 2)) (amount (5 + n / 2))))
    → leads_home shapes_numbered squaring_stage p n ≡ has_number 2344 r
unfolding squaring_letter turn_word
squaring-tested p n r few made =
    ap (λ k. has_number k (option_map shapes_index (play sq1_after (shapes_state p) (squaring_letter n)))) normal_index
    ∙ ap (λ w. has_number 2344 (option_map shapes_index (play sq1_after (shapes_state p) w)))
    (at_each squaring_letter (λ k. turn_word (amount (5 - k % 2)) (amount (5 + k / 2))) 4 refl n few)
    ∙ ap (has_number 2344) (sym made)

-- parts that turn nothing
pub still-parts : (shape_part 5 ≡ []) × (shape_part 17 ≡ [])
unfolding shape_part turn_word
still-parts = (refl, refl)

pub still-index : (i k : ℕ) → i < 7356 → k < 25 → shape_part k ≡ []
    → Some i ≡ option_map shapes_index (by_letters sq1_after 25 shape_part (shapes_state i) k)
still-index i k at part still = grind (arith, by_letters-played, play-empty, IsIndex-shapes)

-- ---- the coordinate of the parts

pub StaysBelow-parts : StaysBelow shape_parts_coordinate
StaysBelow-parts = grind (arith, StaysBelow-indexed, IsIndex-shapes, keeps_sq1, by_letters-parts)

module _ {shown : Coordinate} (shows : ShowsSame shape_parts_coordinate shown) (i k : ℕ) (at : i < 7356) (part : k < 25) where
  pub part-seen : shown.after i k ≡ part_after i k
  part-seen = shows.after i k at part ∙ ap (option_map shapes_index) (by_letters-played sq1_after 25 shape_part (shapes_state i) k part)

pub parts-below : (i k : ℕ) (o : Option ℕ) → i < 7356 → k < 25 → o ≡ part_after i k → IfSome o (λ j. j < 7356)
parts-below i k None at part e = tt
parts-below i k (Some j) at part e =
    StaysBelow-parts i k j at part (ap (option_map shapes_index) (by_letters-played sq1_after 25 shape_part (shapes_state i) k part) ∙ sym e)

-- the part of a state that stands for an index
pub part-made : (s : Sq1State) (i k : ℕ) (o : Option Sq1State) → k < 25 → s ≡ shapes_state i
    → o ≡ play sq1_after s (shape_part k) → by_letters sq1_after 25 shape_part (shapes_state i) k ≡ o
part-made s i k o lt is made = grind (arith, by_letters-played)
