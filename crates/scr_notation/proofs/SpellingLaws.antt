-- The spellings of an event's turns differ, and each is a short word.
use Rattle.std.proofs.Common.{◌≡◌, ℕ, ◌<◌, ◌≤◌, Bool, true, false, IsTrue, List, length, refl, ap, ◌∙◌, sym, subst, arith, eqb, leb-true, ⊎_elim}
use Rattle.std.specs.Prelude.{◌&&◌, ◌==◌, not, nat_le, All}
use Rattle.std.specs.List.{list_all}
use Rattle.std.proofs.lemmas.Bool.{not-true, cases_lt}
use Rattle.scr_notation.specs.declared.event.Event.{Event}
use Rattle.scr_notation.specs.declared.event.Kind.{Kind}
use Rattle.scr_notation.specs.declared.event.Kind.TheVariants.{Faces, Axes, LayersAndTwist, PinSets, WideTurns}
use Rattle.scr_notation.specs.declared.turn.Turn.{Turn}
use Rattle.scr_notation.specs.Event.{kind_of}
use Rattle.scr_notation.specs.Kinds.{IsKind}
use Rattle.scr_notation.proofs.EachEvent.{IsKind-kind_of}
use Rattle.scr_notation.specs.Turns.{permits}
use Rattle.scr_notation.specs.TurnNumbers.{turn_count, turn_at, face_turn_at, axis_turn_at, layer_turn_at, clock_turn_at, wide_turn_at}
use Rattle.scr_notation.specs.Spelling.{hours_text, spelling}
use Rattle.scr_notation.specs.Ranges.{all_below, same}
use Rattle.scr_notation.proofs.Below.{and_first, and_second, at_below, not_same, All-from_test}
use Rattle.scr_notation.proofs.NumberLaws.{numbered}

-- ---- computed over the numbered turns

-- the spellings of two numbered turns of which the second comes first differ
abbrev differs : (ℕ → Turn) → ℕ → ℕ → Bool
differs at i j = not (same (spelling (at i)) (spelling (at j)))

-- each spelling has one to seven bytes, none of which is a space, and all of them ASCII
abbrev is_byte : ℕ → Bool
is_byte b = not (b == 32) && nat_le b 127

abbrev is_word : List ℕ → Bool
is_word w = list_all is_byte w && (nat_le 1 (length w) && nat_le (length w) 7)

-- the spellings of the turns with the numbers below the count are words, and differ
record AreSpelled (at : ℕ → Turn) (count : ℕ) : Type 0 where
  differ : IsTrue (all_below (λ i. all_below (differs at i) i) count)
  words : IsTrue (all_below (λ i. is_word (spelling (at i))) count)

-- how many turns the largest puzzle of a kind has
abbrev most_turns : Kind → ℕ
most_turns (Faces near far) = 54
most_turns (Axes tips) = 16
most_turns LayersAndTwist = 144
most_turns PinSets = 109
most_turns WideTurns = 6

AreSpelled-kind : (kind : Kind) → AreSpelled (turn_at kind) (most_turns kind)
unfolding all_below same turn_at face_turn_at axis_turn_at layer_turn_at clock_turn_at wide_turn_at spelling hours_text
AreSpelled-kind (Faces near far) = record { differ = refl; words = refl }
AreSpelled-kind (Axes tips) = record { differ = refl; words = refl }
AreSpelled-kind LayersAndTwist = record { differ = refl; words = refl }
AreSpelled-kind PinSets = record { differ = refl; words = refl }
AreSpelled-kind WideTurns = record { differ = refl; words = refl }

count_below : (kind : Kind) (n : ℕ) → IsKind kind → n < turn_count kind → n < most_turns kind
count_below (Faces near far) n k l = omega (arith, k.few, k.near_first)
count_below (Axes true) n k l = l
count_below (Axes false) n k l = omega arith
count_below LayersAndTwist n k l = l
count_below PinSets n k l = l
count_below WideTurns n k l = l

-- ---- one turn for each spelling

module _ (at : ℕ → Turn) (count : ℕ) (s : AreSpelled at count) where
  differ_at : (i j : ℕ) → i < count → j < i → spelling (at i) ≡ spelling (at j) → ⊥
  differ_at i j l m e =
      not_same (spelling (at i)) (spelling (at j)) (at_below (differs at i) i j (at_below (λ k. all_below (differs at k) k) count i s.differ l) m) e

  -- two numbered turns with one spelling have one number
  one_number : (i j : ℕ) → i < count → j < count → spelling (at i) ≡ spelling (at j) → i ≡ j
  one_number i j l m e =
      ⊎_elim (λ b. absurd (differ_at j i m b (sym e)))
      (λ b. ⊎_elim (λ d. absurd (differ_at i j l d e)) (λ d. omega arith) (cases_lt j i)) (cases_lt i j)

-- two numbered turns of an event with one spelling have one number
pub same_number : (e : Event) (n m : ℕ) → n < turn_count (kind_of e) → m < turn_count (kind_of e)
    → spelling (turn_at (kind_of e) n) ≡ spelling (turn_at (kind_of e) m) → n ≡ m
same_number e n m l k q =
    let kind = kind_of e in
    let is = IsKind-kind_of e in
    one_number (turn_at kind) (most_turns kind) (AreSpelled-kind kind) n m (count_below kind n is l) (count_below kind m is k) q

-- The spellings of an event's turns differ: each has one turn.
pub one_spelling : (e : Event) (t u : Turn) → IsTrue (permits e t) → IsTrue (permits e u) → spelling t ≡ spelling u
    → t ≡ u
one_spelling e t u h k q =
    let n = numbered (kind_of e) t (IsKind-kind_of e) h in
    let m = numbered (kind_of e) u (IsKind-kind_of e) k in
    sym n.2 ∙ ap (turn_at (kind_of e)) (same_number e n.0 m.0 n.1 m.1 (ap spelling n.2 ∙ q ∙ sym (ap spelling m.2))) ∙ m.2

-- ---- words

-- what a word of a text is: one to seven bytes, none of which is a space, and all of them ASCII
pub record IsWord (w : List ℕ) : Type 0 where
  pub no_space : All (λ b. eqb b 32 ≡ false) w
  pub ascii : All (λ b. b < 128) w
  pub some : 1 ≤ length w
  pub short : length w ≤ 7

word_of_test : (w : List ℕ) → IsTrue (is_word w) → IsWord w
word_of_test w h =
    let p = list_all is_byte w in
    let q = nat_le 1 (length w) in
    let r = nat_le (length w) 7 in
    let ends = and_second p (q && r) h in
    record {
      no_space = All-from_test is_byte (λ b. eqb b 32 ≡ false) (λ b k. not-true (eqb b 32) (and_first (not (b == 32)) (nat_le b 127) k)) w (and_first p (q && r) h);
      ascii = All-from_test is_byte (λ b. b < 128) (λ b k. let most = leb-true b 127 (and_second (not (b == 32)) (nat_le b 127) k) in omega (arith, most)) w (and_first p (q && r) h);
      some = leb-true 1 (length w) (and_first q r ends);
      short = leb-true (length w) 7 (and_second q r ends);
    }

-- a spelling is a word
pub IsWord-spelling : (e : Event) (t : Turn) → IsTrue (permits e t) → IsWord (spelling t)
IsWord-spelling e t h =
    let kind = kind_of e in
    let is = IsKind-kind_of e in
    let n = numbered kind t is h in
    let P : Turn → Type 0 = λ u. IsWord (spelling u) in
    subst P n.2
    (word_of_test (spelling (turn_at kind n.0))
    (at_below (λ k. is_word (spelling (turn_at kind k))) (most_turns kind) n.0 (AreSpelled-kind kind).words (count_below kind n.0 is n.1)))
