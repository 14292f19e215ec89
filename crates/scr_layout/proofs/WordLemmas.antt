-- How turns are written: no byte is a space or a control. And the first word of words with a space between.
use Rattle.std.proofs.Common.{◌≡◌, ℕ, ◌+◌, ◌<◌, ◌≤◌, ◌≢◌, Bool, false, IsTrue, List, [], ◌∷◌, ◌++◌, length, refl, sym, ap, ◌∙◌, subst, arith, length-append}
use Rattle.std.specs.Prelude.{All, ◌&&◌, ◌==◌, nat_le}
use Rattle.std.specs.List.{list_all, position_or_len, before_first, after_first}
use Rattle.std.proofs.lemmas.List.Sums.{position_or_len_is}
use Rattle.std.proofs.lemmas.List.Elements.{All-head}
use Rattle.std.proofs.Math.ListN.{get_or-append}
use Rattle.std.proofs.Math.Seq.{get_or-append_seam, take-append_seam, drop-append-add}
use Rattle.scr_notation.specs.declared.event.Event.{Event}
use Rattle.scr_notation.specs.declared.event.Kind.{Kind}
use Rattle.scr_notation.specs.declared.event.Kind.TheVariants.{Faces, Axes, LayersAndTwist, PinSets, WideTurns}
use Rattle.scr_notation.specs.declared.turn.Turn.{Turn}
use Rattle.scr_notation.specs.Event.{kind_of}
use Rattle.scr_notation.specs.Kinds.{IsKind}
use Rattle.scr_notation.specs.Turns.{permits}
use Rattle.scr_notation.specs.TurnNumbers.{turn_count, turn_at, face_turn_at, axis_turn_at, layer_turn_at, clock_turn_at, wide_turn_at}
use Rattle.scr_notation.specs.Spelling.{hours_text, spelling, text_of}
use Rattle.scr_notation.specs.Ranges.{all_below}
use Rattle.scr_notation.proofs.EachEvent.{IsKind-kind_of}
use Rattle.scr_notation.proofs.Below.{at_below, All-from_test}
use Rattle.scr_notation.proofs.NumberLaws.{numbered}
use Rattle.scr_notation.proofs.SpellingLaws.{IsWord-spelling}
use Rattle.scr_layout.specs.Shown.{IsPlainWord}

-- ---- no byte of a spelling is a space or a control: computed over the numbered turns

abbrev is_visible : ℕ → Bool
is_visible byte = nat_le 33 byte && nat_le byte 126

-- how many turns the largest puzzle of a kind has
abbrev most_turns : Kind → ℕ
most_turns (Faces near far) = 54
most_turns (Axes tips) = 16
most_turns LayersAndTwist = 144
most_turns PinSets = 109
most_turns WideTurns = 6

visible : (kind : Kind) → IsTrue (all_below (λ i. list_all is_visible (spelling (turn_at kind i))) (most_turns kind))
unfolding all_below turn_at face_turn_at axis_turn_at layer_turn_at clock_turn_at wide_turn_at spelling hours_text
visible kind = grind arith

count_below : (kind : Kind) (n : ℕ) → IsKind kind → n < turn_count kind → n < most_turns kind
count_below kind n k l = grind arith

abbrev IsVisibleByte : ℕ → Type 0
IsVisibleByte byte = (33 ≤ byte) × (byte ≢ 127)

visible_byte : (byte : ℕ) → IsTrue (is_visible byte) → IsVisibleByte byte
visible_byte byte is = grind arith

pub visible_spelling : (e : Event) (t : Turn) → IsTrue (permits e t) → All IsVisibleByte (spelling t)
visible_spelling e t h =
    let kind = kind_of e in
    let is = IsKind-kind_of e in
    let n = numbered kind t is h in
    let P : Turn → Type 0 = λ u. All IsVisibleByte (spelling u) in
    subst P n.2
    (All-from_test is_visible IsVisibleByte visible_byte (spelling (turn_at kind n.0))
    (at_below (λ k. list_all is_visible (spelling (turn_at kind k))) (most_turns kind) n.0 (visible kind) (count_below kind n.0 is n.1)))

pub plain_spelling : (e : Event) (t : Turn) → IsTrue (permits e t) → IsPlainWord (spelling t)
plain_spelling e t h = grind (arith, IsWord-spelling e t h, visible_spelling e t h)

-- ---- a word, and what stands behind a space

abbrev is_space : ℕ → Bool
is_space byte = byte == 32

abbrev HasNoSpace : List ℕ → Type 0
HasNoSpace w = All (λ b. is_space b ≡ false) w

place_alone : (w : List ℕ) → HasNoSpace w → position_or_len is_space w ≡ length w
place_alone w none =
    position_or_len_is is_space w (length w) 0 (omega arith) (λ k below. none k 0 below) (λ below. absurd (omega arith))

place_before : (w rest : List ℕ) → HasNoSpace w → position_or_len is_space (w ++ 32 ∷ rest) ≡ length w
place_before w rest none =
    position_or_len_is is_space (w ++ 32 ∷ rest) (length w) 0 (omega (arith, length-append w (32 ∷ rest)))
    (λ k below. ap is_space (get_or-append w (32 ∷ rest) 0 k below) ∙ none k 0 below)
    (λ below. ap is_space (get_or-append_seam w 32 rest 0))

-- the text of a turn and others: the spelling, alone or before a space
data Parted (turn : Turn) (turns : List Turn) (text : List ℕ) : Type 0 where
  Alone : turns ≡ [] → text ≡ spelling turn → Parted turn turns text
  Before : text ≡ spelling turn ++ 32 ∷ text_of turns → Parted turn turns text

parted : (turn : Turn) (turns : List Turn) → Parted turn turns (text_of (turn ∷ turns))
parted turn [] = Alone refl refl
parted turn (next ∷ turns) = Before refl

abbrev IsFirst : Turn → List Turn → List ℕ → List ℕ → Type 0
IsFirst turn turns word behind = (word ≡ spelling turn) × (behind ≡ text_of turns)

-- where a space was found, the word stands before it, and the others behind it
at_space : (turn : Turn) (turns : List Turn) (text word behind : List ℕ) → HasNoSpace (spelling turn)
    → Parted turn turns text → word ≡ before_first is_space text → behind ≡ after_first is_space text
    → position_or_len is_space text < length text → IsFirst turn turns word behind
at_space turn turns text word behind none (Alone last is) first rest below = grind (arith, place_alone)
at_space turn turns text word behind none (Before is) first rest below =
    grind (arith, place_before, take-append_seam, drop-append-add)

-- where none was, the word stands alone
at_none : (turn : Turn) (turns : List Turn) (text : List ℕ) → HasNoSpace (spelling turn)
    → Parted turn turns text → position_or_len is_space text ≡ length text → IsFirst turn turns text []
at_none turn turns text none h all = grind (arith, place_before, length-append)

abbrev AreOf : Event → List Turn → Type 0
AreOf event turns = All (λ t. IsTrue (permits event t)) turns

first_permitted : (event : Event) (turn : Turn) (turns : List Turn) → AreOf event (turn ∷ turns) → IsTrue (permits event turn)
first_permitted event turn turns are = All-head (λ t. IsTrue (permits event t)) turn turns are

pub found : (event : Event) (turn : Turn) (turns : List Turn) (text word behind : List ℕ) → AreOf event (turn ∷ turns)
    → text ≡ text_of (turn ∷ turns) → word ≡ before_first is_space text → behind ≡ after_first is_space text
    → position_or_len is_space text < length text
    → (word ≡ spelling turn) × (behind ≡ text_of turns) × IsPlainWord word
found event turn turns text word behind are is first rest below =
    let permitted = first_permitted event turn turns are in
    let both = at_space turn turns text word behind (IsWord-spelling event turn permitted).no_space (subst (Parted turn turns) (sym is) (parted turn turns)) first rest below in
    (both.0, both.1, subst IsPlainWord (sym both.0) (plain_spelling event turn permitted))

pub not_found : (event : Event) (turn : Turn) (turns : List Turn) (text : List ℕ) → AreOf event (turn ∷ turns)
    → text ≡ text_of (turn ∷ turns) → position_or_len is_space text ≡ length text
    → (text ≡ spelling turn) × ([] ≡ text_of turns) × IsPlainWord text
not_found event turn turns text are is all =
    grind (arith, first_permitted, at_none, IsWord-spelling, parted, plain_spelling)
