-- What reading the text of a scramble finds.
use Rattle.std.specs.Prelude.{◌≡◌, ℕ, ◌+◌, ◌<◌, ◌==◌, IsTrue, if◌then◌else◌, List, [], ◌∷◌, ◌++◌, length, map, take, All, Option, Some, None}
use Rattle.std.specs.List.{slice_split}
use Rattle.scr_notation.specs.declared.event.Event.{Event}
use Rattle.scr_notation.specs.declared.turn.Turn.{Turn}
use Rattle.scr_notation.specs.declared.reading.NotationFault.{NotationFault}
use Rattle.scr_notation.specs.declared.reading.NotationFault.TheVariants.{Spelling, TooLong}
use Rattle.scr_notation.specs.Turns.{permits}
use Rattle.scr_notation.specs.Spelling.{spelling, text_of}
use Rattle.scr_notation.specs.Written.{Written, IsWritten}

-- The words of a text: none of the empty text, and otherwise what stands between its spaces (byte 32). So two
-- neighbouring spaces, a leading space or a trailing space make an empty word.
unfoldable pub spaced_words : List ℕ → List (List ℕ)
spaced_words text = if length text == 0 then [] else slice_split (λ b. b == 32) text

-- the word is the spelling of one of the event's turns
abbrev pub IsSpelling : Event → List ℕ → Type 0
IsSpelling event word = (t : Turn) × IsTrue (permits event t) × (spelling t ≡ word)

-- The byte at which a word begins, behind these words: behind each of them stands a space.
unfoldable pub place_after : List (List ℕ) → ℕ
place_after [] = 0
place_after (word ∷ words) = length word + 1 + place_after words

-- A word is at fault, behind these words: it is among the first 160 and no spelling, or it is the 161st. (Spellings
-- are short, so that the place of the first word at fault always fits 32 bits.)
abbrev pub IsFault : Event → List (List ℕ) → List ℕ → NotationFault → Type 0
IsFault event before word (Spelling place) =
    (length before < 160) × (IsSpelling event word → ⊥) × (place ≡ place_after before)
IsFault event before word (TooLong place) = (length before ≡ 160) × (place ≡ place_after before)

-- the first word at fault: those before it are spellings
pub record IsFirstFault (event : Event) (text : List ℕ) (fault : NotationFault) : Type 0 where
  pub before : List (List ℕ)
  pub word : List ℕ
  pub behind : List (List ℕ)
  pub words : spaced_words text ≡ before ++ word ∷ behind
  pub spelled : All (IsSpelling event) before
  pub at_fault : IsFault event before word fault

-- A text is parsed: it is that of a scramble of the event, or of none.
abbrev pub IsParsed : Event → List ℕ → Option Written → Type 0
IsParsed event text (Some s) = IsWritten s × (s.event ≡ event) × (text_of s.turns ≡ text)
IsParsed event text None = (s : Written) → IsWritten s → s.event ≡ event → text_of s.turns ≡ text → ⊥

-- A word is read as one more turn of a scramble, and the next word begins at this place.
pub record IsReadAs (before : Written) (word : List ℕ) (after : Written) (behind : ℕ) : Type 0 where
  pub turn : Turn
  pub spelled : spelling turn ≡ word
  pub event : after.event ≡ before.event
  pub turns : after.turns ≡ before.turns ++ turn ∷ []
  pub valid : IsWritten after
  pub place : behind ≡ place_after (map spelling after.turns)

-- So many of these words are read as the turns of a scramble, and the next word begins at this place.
pub record IsReadSoFar (event : Event) (words : List (List ℕ)) (count : ℕ) (s : Written) (place : ℕ) : Type 0 where
  pub of_event : s.event ≡ event
  pub valid : IsWritten s
  pub counted : length s.turns ≡ count
  pub spelled : map spelling s.turns ≡ take count words
  pub behind : place ≡ place_after (map spelling s.turns)
