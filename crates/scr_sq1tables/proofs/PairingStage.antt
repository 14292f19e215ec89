-- The letters of the later stages: what each makes of the solved state tells what it makes of every normal state, and of
-- mates that stand opposite to each other. The second stage: where mates stand goes along with its letters, and so do the
-- numbers of the pairings.
use Rattle.std.proofs.Common.{◌≡◌, ℕ, ◌<◌, false, IsTrue, List, [], ◌∷◌, map, Option, Some, None, refl, sym, ap, ◌∙◌, subst, arith, eqb-true, eq-eqb, ltb-true}
use Rattle.std.specs.Prelude.{◌==◌, ◌↔◌, All, unwrap_or, nat_lt}
use Rattle.std.specs.Option.{option_map, option_map_or}
use Rattle.std.specs.Str.{bytes_eq}
use Rattle.std.proofs.lemmas.Slice.Eq.{bytes_eq-Decides}
use Rattle.std.proofs.lemmas.Bool.{false≢true, and_parts, and_from, eq-eqb}
use Rattle.scr_combinatorics.specs.Lists.{numbers_from, pick}
use Rattle.scr_combinatorics.specs.Permutations.{IsPermutation}
use Rattle.scr_combinatorics.specs.Play.{play}
use Rattle.scr_notation.specs.declared.turn.Turn.{Turn}
use Rattle.scr_notation.specs.Ranges.{all_below, same}
use Rattle.scr_notation.proofs.Below.{at_below}
use Rattle.scr_sq1.specs.Units.{Sq1State, IsSq1, solved_sq1, sq1_after, turn_places, twist_places, turned, after_layers, twisted}
use Rattle.scr_sq1.specs.Shapes.{half_words, half_of, shape_of}
use Rattle.scr_sq1.specs.Numbers.{corners_of, edges_of}
use Rattle.scr_sq1.proofs.StatePieces.{StatePieces-valid}
use Rattle.scr_sq1.proofs.Lawful.{IsSq1-solved}
use Rattle.scr_sq1tables.specs.declared.letter_places.Part.{Part}
use Rattle.scr_sq1tables.specs.declared.letter_places.Part.TheVariants.{Corners, Edges}
use Rattle.scr_sq1tables.specs.Stages.{IsNormal, oddness, turn_word, mates, pairing_of, quarter_word, pairing_letter, home_letter}
use Rattle.scr_sq1tables.specs.Tables.{units_after, carried_pairing, letters_by, pairings_index, pairings_view, pairings_coordinate}
use Rattle.scr_sq1tables.specs.ShapeWords.{is_normal}
use Rattle.scr_sq1tables.specs.Spaces.{IsNormalSq1, IsPairedSq1}
use Rattle.scr_sq1tables.specs.Placed.{pieces, are_normal, keeps_mates, keep_mates, IsKept, KeepsMates, move_by, moves_of}
use Rattle.scr_sq1tables.proofs.Numbers.{All-each, letter-after}
use Rattle.scr_sq1tables.proofs.Renamed.{Names, AreNames, renamed, keeps_sq1, names_of, AreNames-valid, corners_of-named, edges_of-named, shape_of-named, oddness-renamed, map_where}
use Rattle.scr_sq1tables.proofs.ShapeStage.{play-normal}
use Rattle.scr_sq1tables.proofs.Codes.{pairing_of-pick, IsPairing-of, IsPairing-carried}
use Rattle.std.proofs.lemmas.List.Elements.{All-map}
use Rattle.scr_combinatorics.specs.Pairings.{IsPairing, pairing_number, pairing_at}
use Rattle.scr_combinatorics.specs.Stages.{by_letters}
use Rattle.scr_combinatorics.proofs.Pairings.{pairings_one_to_one}
use Rattle.scr_combinatorics.proofs.PermutationLaws.{IsPermutation-numbers_from}
use Rattle.scr_combinatorics.proofs.StageLaws.{by_letters-parts}
use Rattle.scr_positions.specs.Coordinates.{StaysBelow}
use Rattle.scr_positions.specs.SearchSpaces.{positions, Follows}
use Rattle.scr_positions.proofs.ProductLaws.{Follows-product}
use Rattle.scr_coord.specs.Projections.{projection}
use Rattle.scr_coord.proofs.ListViews.{IsListView, StaysBelow-projection}
use Rattle.scr_sq1tables.specs.SearchTables.{pairings_table}

pub IsNormal-test : (s : Sq1State) → IsTrue (is_normal s) ↔ IsNormal s
IsNormal-test s =
    let shapes = bytes_eq-Decides (shape_of s.units) (shape_of solved_sq1.units) in
    let shape = bytes_eq (shape_of s.units) (shape_of solved_sq1.units) in
    let even = oddness s == 0 in (
      λ t. let both = and_parts shape even t in record { shape = shapes.0 both.0; even = eqb-true (oddness s) 0 both.1 },
      λ n. and_from shape even (shapes.1 n.shape) (eq-eqb (oddness s) 0 n.even),
    )

-- lists that pass the test are the same
pub same-true : (xs ys : List ℕ) → IsTrue (same xs ys) → xs ≡ ys
unfolding same
same-true [] [] t = refl
same-true [] (y ∷ ys) t = absurd (false≢true t)
same-true (x ∷ xs) [] t = absurd (false≢true t)
same-true (x ∷ xs) (y ∷ ys) t =
    let both = and_parts (x == y) (same xs ys) t in
    ap (λ z. z ∷ xs) (eqb-true x y both.0) ∙ ap (λ zs. y ∷ zs) (same-true xs ys both.1)

-- ---- corners, or edges

pub pieces-permutation : (part : Part) (s : Sq1State) → IsSq1 s → IsPermutation 8 (pieces part s.units)
pieces-permutation Corners s h = (StatePieces-valid s h).corners
pieces-permutation Edges s h = (StatePieces-valid s h).edges

pub pieces-paired : (part : Part) (s : Sq1State) → IsPairedSq1 s → pairing_of (pieces part s.units) ≡ mates
pieces-paired Corners s h = h.paired.0
pieces-paired Edges s h = h.paired.1

-- ---- letters that leave normal states normal

module _ (letter : ℕ → List Turn) (tested : IsTrue (are_normal letter)) where
  record IsMade (n : ℕ) : Type 0 where
    pub state : Sq1State
    pub played : play sq1_after solved_sq1 (letter n) ≡ Some state
    pub are : IsNormalSq1 state

  made_of : (n : ℕ) (o : Option Sq1State) → play sq1_after solved_sq1 (letter n) ≡ o
      → IsTrue (option_map_or is_normal o false) → IsMade n
  made_of n None e t = absurd (false≢true t)
  made_of n (Some r) e t = record {
    state = r;
    played = e;
    are = record { valid = keeps_sq1 solved_sq1 r (letter n) IsSq1-solved e; normal = (IsNormal-test r).0 t };
  }

  made : (n : ℕ) → n < 32 → IsMade n
  unfolding are_normal
  made n lt =
      made_of n (play sq1_after solved_sq1 (letter n)) refl
      (at_below (λ k. option_map_or is_normal (play sq1_after solved_sq1 (letter k)) false) 32 n tested lt)

  units-made : (n : ℕ) (lt : n < 32) → (made n lt).state.units ≡ units_after letter n
  unfolding units_after
  units-made n lt = sym (ap (λ o. (unwrap_or o solved_sq1).units) (made n lt).played)

  pub letter-permutation : (part : Part) (n : ℕ) → n < 32 → IsPermutation 8 (pieces part (units_after letter n))
  letter-permutation part n lt =
      subst (λ us. IsPermutation 8 (pieces part us)) (units-made n lt) (pieces-permutation part (made n lt).state (made n lt).are.valid)

  -- what a letter makes of a normal state
  pub record IsMovedBy (s : Sq1State) (n : ℕ) : Type 0 where
    pub state : Sq1State
    pub played : play sq1_after s (letter n) ≡ Some state
    pub are : IsNormalSq1 state
    pub moved : (part : Part) → pieces part state.units ≡ pick (pieces part s.units) (pieces part (units_after letter n))

  pub IsMovedBy-normal : (s : Sq1State) (n : ℕ) → IsNormalSq1 s → n < 32 → IsMovedBy s n
  unfolding oddness
  IsMovedBy-normal s n h lt =
      let played : play sq1_after s (letter n) ≡ Some state =
      play-normal s (letter n) h.valid h.normal ∙ ap (option_map (renamed names)) m.played in
      record {
        state = state;
        played = played;
        are = record {
          valid = keeps_sq1 s state (letter n) h.valid played;
          normal = record {
            shape = shape_of-named names are m.state.units ∙ m.are.normal.shape;
            even = omega (arith, oddness-renamed names are m.state m.are.valid, m.are.normal.even, h.normal.even);
          };
        };
        moved = moved;
      }
    where
      m : IsMade n
      m = made n lt

      names : Names
      names = names_of s

      are : AreNames (names_of s)
      are = AreNames-valid s h.valid

      state : Sq1State
      state = renamed names m.state

      moved : (part : Part) → pieces part state.units ≡ pick (pieces part s.units) (pieces part (units_after letter n))
      moved Corners =
          corners_of-named names are m.state.units (StatePieces-valid m.state m.are.valid) ∙ ap (λ us. pick names.corners (corners_of us)) (units-made n lt)
      moved Edges = edges_of-named names are m.state.units ∙ ap (λ us. pick names.edges (edges_of us)) (units-made n lt)

  -- so that is what it makes of it
  pub IsMovedBy-is : (s r : Sq1State) (n : ℕ) (m : IsMovedBy s n) → play sq1_after s (letter n) ≡ Some r → m.state ≡ r
  IsMovedBy-is s r n m e = let p = m.played in cc

pub pairing_letters_normal : IsTrue (are_normal pairing_letter)
unfolding are_normal all_below play turn_word pairing_letter sq1_after after_layers turned turn_places twisted twist_places oddness corners_of edges_of shape_of half_of half_words
pairing_letters_normal = refl

-- ---- letters that leave mates together

module _ (letter : ℕ → List Turn) (kept : IsKept letter) where
  mates-kept : (part : Part) (n : ℕ) → n < 32 → carried_pairing mates (pieces part (units_after letter n)) ≡ mates
  unfolding keep_mates
  mates-kept Corners n lt =
      same-true _ mates (and_parts _ (same (carried_pairing mates (edges_of (units_after letter n))) mates) (at_below (keeps_mates letter) 32 n kept.opposite lt)).0
  mates-kept Edges n lt =
      same-true _ mates (and_parts (same (carried_pairing mates (corners_of (units_after letter n))) mates) _ (at_below (keeps_mates letter) 32 n kept.opposite lt)).1

  pub All-kept : (part : Part) → All KeepsMates (map (λ n. pieces part (units_after letter n)) (numbers_from 0 32))
  All-kept part =
      All-each (λ n. pieces part (units_after letter n)) 32 KeepsMates
      (λ n lt. record { permutation = letter-permutation letter kept.normal part n lt; mates_kept = mates-kept part n lt })

  pub IsPaired-moved : (s : Sq1State) (n : ℕ) → IsPairedSq1 s → n < 32
      → (m : IsMovedBy letter kept.normal s n) × IsPairedSq1 m.state
  IsPaired-moved s n h lt =
      let m = IsMovedBy-normal letter kept.normal s n h.normal lt in
      let paired = λ (part : Part).
      let ks : List ℕ = pieces part (units_after letter n) in
      ap pairing_of (m.moved part)
      ∙ pairing_of-pick (pieces part s.units) (pieces-permutation part s h.normal.valid) ks (letter-permutation letter kept.normal part n lt)
      ∙ ap (λ ps. carried_pairing ps ks) (pieces-paired part s h) ∙ mates-kept part n lt in
      (m, record { normal = m.are; paired = (paired Corners, paired Edges) })

  pub IsPaired-after : (s r : Sq1State) (n : ℕ) → IsPairedSq1 s → n < 32 → play sq1_after s (letter n) ≡ Some r → IsPairedSq1 r
  IsPaired-after s r n h lt e =
      let m = IsPaired-moved s n h lt in subst IsPairedSq1 (IsMovedBy-is letter kept.normal s r n m.0 e) m.1

pub IsKept-home : IsKept home_letter
unfolding are_normal keep_mates same carried_pairing units_after all_below play turn_word quarter_word home_letter sq1_after after_layers turned turn_places twisted twist_places oddness corners_of edges_of shape_of half_of half_words
IsKept-home = record { normal = refl; opposite = refl }

pub IsKept-quarters : IsKept quarter_word
unfolding are_normal keep_mates same carried_pairing units_after all_below play turn_word quarter_word sq1_after after_layers turned turn_places twisted twist_places oddness corners_of edges_of shape_of half_of half_words
IsKept-quarters = record { normal = refl; opposite = refl }

IsListView-pairings : IsListView pairings_view (IsPairing 8) (λ turn. IsPermutation 8 turn.pieces)
unfolding pairing_of
IsListView-pairings = record {
  one_to_one = pairings_one_to_one 4;
  turned = λ xs turn h p. IsPairing-carried xs turn.pieces h p;
  goal = IsPairing-of (numbers_from 0 8) (IsPermutation-numbers_from 8);
}

pub StaysBelow-pairing_lists : (letters : List (List ℕ)) → All (IsPermutation 8) letters
    → StaysBelow (projection pairings_view (moves_of letters))
StaysBelow-pairing_lists letters each =
    StaysBelow-projection pairings_view (IsPairing 8) (λ turn. IsPermutation 8 turn.pieces) (moves_of letters) IsListView-pairings
    (All-map (λ turn. IsPermutation 8 turn.pieces) move_by letters each)

-- Corners, or edges, of normal states.
module _ (part : Part) where
  pub All-moved : All (IsPermutation 8) (map (λ n. pieces part (units_after pairing_letter n)) (numbers_from 0 32))
  All-moved =
      All-each (λ n. pieces part (units_after pairing_letter n)) 32 (IsPermutation 8) (letter-permutation pairing_letter pairing_letters_normal part)

  abbrev part_index : Sq1State → ℕ
  part_index s = pairing_number 4 (pairing_of (pieces part s.units))

  pairing : (s : Sq1State) → IsNormalSq1 s → IsPairing 8 (pairing_of (pieces part s.units))
  pairing s h = IsPairing-of (pieces part s.units) (pieces-permutation part s h.valid)

  part_moved : (s : Sq1State) (n : ℕ) → IsNormalSq1 s → n < 32
      → (projection pairings_view (letters_by (pieces part) pairing_letter)).after (part_index s) n ≡ option_map part_index (play sq1_after s (pairing_letter n))
  part_moved s n h lt =
      let m = IsMovedBy-normal pairing_letter pairing_letters_normal s n h lt in
      letter-after pairings_view IsListView-pairings (pieces part) pairing_letter (pairing_of (pieces part s.units)) (pairing s h) n lt
      ∙ ap (λ xs. Some (pairing_number 4 xs))
      (sym (ap pairing_of (m.moved part)
      ∙ pairing_of-pick (pieces part s.units) (pieces-permutation part s h.valid) (pieces part (units_after pairing_letter n))
      (letter-permutation pairing_letter pairing_letters_normal part n lt)))
      ∙ sym (ap (option_map part_index) m.played)

  Follows-part : Follows (record { IsValid = IsNormalSq1; after = by_letters sq1_after 32 pairing_letter; IsGoal = λ s. pairing_of (pieces part s.units) ≡ mates })
      (positions (projection pairings_view (letters_by (pieces part) pairing_letter))) part_index
  unfolding by_letters
  Follows-part = record {
    kept = λ s r n h e.
        let parts = by_letters-parts sq1_after 32 pairing_letter s r n e in
        let m = IsMovedBy-normal pairing_letter pairing_letters_normal s n h (ltb-true n 32 parts.0) in
        subst IsNormalSq1 (IsMovedBy-is pairing_letter pairing_letters_normal s r n m parts.1) m.are;
    valid = λ s h. (pairings_one_to_one 4).below (pairing_of (pieces part s.units)) (pairing s h);
    turned = λ s n h.
        map_where part_index (nat_lt n 32) ((projection pairings_view (letters_by (pieces part) pairing_letter)).after (part_index s) n)
        (play sq1_after s (pairing_letter n)) (λ e. part_moved s n h (ltb-true n 32 e));
    goals = λ s h. (
      λ e. eq-eqb (part_index s) (pairing_number 4 mates) (ap (pairing_number 4) e),
      λ e.
          sym ((pairings_one_to_one 4).state_again (pairing_of (pieces part s.units)) (pairing s h))
          ∙ ap (pairing_at 4) (eqb-true (part_index s) (pairing_number 4 mates) e) ∙ (pairings_one_to_one 4).state_again mates IsListView-pairings.goal,
    );
  }

-- ---- corners and edges side by side

pub Follows-pairings : Follows pairings_table.space (positions pairings_coordinate) pairings_index
Follows-pairings =
    Follows-product IsNormalSq1 (λ s. pairing_of (corners_of s.units) ≡ mates) (λ s. pairing_of (edges_of s.units) ≡ mates)
    (by_letters sq1_after 32 pairing_letter) (projection pairings_view (letters_by corners_of pairing_letter)) (projection pairings_view (letters_by edges_of pairing_letter))
    (part_index Corners) (part_index Edges) refl (Follows-part Corners) (Follows-part Edges)
