-- Laws of the texts of turns.
use Rattle.std.proofs.Common.{◌≡◌, ℕ, ◌+◌, ◌*◌, ◌≤◌, ◌<◌, IsTrue, cond, List, [], ◌∷◌, ◌++◌, length, refl, sym, ap, ◌∙◌, arith, ne_eqb, length-append, append_assoc, lit≤}
use Rattle.std.specs.Prelude.{All, ◌==◌, map}
use Rattle.std.specs.List.{slice_split, join_with_byte}
use Rattle.std.specs.Str.{IsUtf8}
use Rattle.std.proofs.lemmas.Str.{IsUtf8-from_ascii}
use Rattle.std.proofs.lemmas.Str.Ascii.{IsAscii-from_all}
use Rattle.std.proofs.lemmas.List.{length-map}
use Rattle.std.proofs.lemmas.List.Splits.{slice_split_none, slice_split_at}
use Rattle.std.proofs.lemmas.List.Elements.{All-nil, All-cons, All-append, All-head, All-tail}
use Rattle.scr_notation.specs.declared.event.Event.{Event}
use Rattle.scr_notation.specs.declared.turn.Turn.{Turn}
use Rattle.scr_notation.specs.Turns.{permits}
use Rattle.scr_notation.specs.Spelling.{spelling, text_of}
use Rattle.scr_notation.specs.Reading.{spaced_words, place_after}
use Rattle.scr_notation.proofs.SpellingLaws.{IsWord, IsWord-spelling, one_spelling}

-- words, joined and cut again
cut : (w : List ℕ) (ws : List (List ℕ)) → All IsWord (w ∷ ws)
    → slice_split (λ b. b == 32) (join_with_byte 32 (w ∷ ws)) ≡ w ∷ ws
cut w [] a = slice_split_none (λ b. b == 32) w (All-head IsWord w [] a).no_space
cut w (v ∷ ws) a =
    slice_split_at (λ b. b == 32) w 32 (join_with_byte 32 (v ∷ ws)) (All-head IsWord w (v ∷ ws) a).no_space refl
    ∙ ap (λ x. w ∷ x) (cut v ws (All-tail IsWord w (v ∷ ws) a))

not_empty : (w : List ℕ) (ws : List (List ℕ)) → All IsWord (w ∷ ws) → 1 ≤ length (join_with_byte 32 (w ∷ ws))
not_empty w [] a = (All-head IsWord w [] a).some
not_empty w (v ∷ ws) a = omega (arith, (All-head IsWord w (v ∷ ws) a).some, length-append w (32 ∷ join_with_byte 32 (v ∷ ws)))

-- a text that isn't empty is cut at its spaces
pub words_of-some : (text : List ℕ) → 1 ≤ length text → spaced_words text ≡ slice_split (λ b. b == 32) text
unfolding spaced_words
words_of-some text l = ap (λ c. cond c [] (slice_split (λ b. b == 32) text)) (ne_eqb (length text) 0 (λ e. omega arith))

words_of-joined : (ws : List (List ℕ)) → All IsWord ws → spaced_words (join_with_byte 32 ws) ≡ ws
unfolding spaced_words
words_of-joined [] a = refl
words_of-joined (w ∷ ws) a = words_of-some (join_with_byte 32 (w ∷ ws)) (not_empty w ws a) ∙ cut w ws a

pub All-words : (e : Event) (ts : List Turn) → All (λ t. IsTrue (permits e t)) ts → All IsWord (map spelling ts)
All-words e [] a = All-nil IsWord
All-words e (t ∷ ts) a =
    let P : Turn → Type 0 = λ u. IsTrue (permits e u) in
    All-cons IsWord (spelling t) (map spelling ts) (IsWord-spelling e t (All-head P t ts a)) (All-words e ts (All-tail P t ts a))

-- the words of a text of turns are their spellings
pub words_of-text_of : (e : Event) (ts : List Turn) → All (λ t. IsTrue (permits e t)) ts
    → spaced_words (text_of ts) ≡ map spelling ts
words_of-text_of e ts a = words_of-joined (map spelling ts) (All-words e ts a)

-- a text of turns is ASCII
ascii_joined : (ws : List (List ℕ)) → All IsWord ws → All (λ b. b < 128) (join_with_byte 32 ws)
ascii_joined [] a = All-nil (λ b. b < 128)
ascii_joined (w ∷ []) a = (All-head IsWord w [] a).ascii
ascii_joined (w ∷ v ∷ ws) a =
    All-append (λ b. b < 128) w (32 ∷ join_with_byte 32 (v ∷ ws)) (All-head IsWord w (v ∷ ws) a).ascii
    (All-cons (λ b. b < 128) 32 (join_with_byte 32 (v ∷ ws)) (lit≤ tt) (ascii_joined (v ∷ ws) (All-tail IsWord w (v ∷ ws) a)))

pub IsUtf8-text_of : (e : Event) (ts : List Turn) → All (λ t. IsTrue (permits e t)) ts → IsUtf8 (text_of ts)
IsUtf8-text_of e ts a = IsUtf8-from_ascii (text_of ts) (IsAscii-from_all (text_of ts) (ascii_joined (map spelling ts) (All-words e ts a)))

first_same : (t u : Turn) (ts us : List Turn) → t ≡ u → ts ≡ us → t ∷ ts ≡ u ∷ us
first_same t u ts us a b = cc

spellings-only : (e : Event) (ts us : List Turn) → All (λ t. IsTrue (permits e t)) ts
    → All (λ t. IsTrue (permits e t)) us → map spelling ts ≡ map spelling us → ts ≡ us
spellings-only e [] [] a b h = refl
spellings-only e [] (u ∷ us) a b h = absurd (cc)
spellings-only e (t ∷ ts) [] a b h = absurd (cc)
spellings-only e (t ∷ ts) (u ∷ us) a b h =
    let P : Turn → Type 0 = λ x. IsTrue (permits e x) in
    let first : spelling t ≡ spelling u = cc in
    let rest : map spelling ts ≡ map spelling us = cc in
    first_same t u ts us (one_spelling e t u (All-head P t ts a) (All-head P u us b) first)
    (spellings-only e ts us (All-tail P t ts a) (All-tail P u us b) rest)

-- Turns of an event with one text are the same turns.
pub text_of-only : (e : Event) (ts us : List Turn) → All (λ t. IsTrue (permits e t)) ts
    → All (λ t. IsTrue (permits e t)) us → text_of ts ≡ text_of us → ts ≡ us
text_of-only e ts us a b h =
    spellings-only e ts us a b (sym (words_of-text_of e ts a) ∙ ap spaced_words h ∙ words_of-text_of e us b)

-- one more word, behind a space unless it is the first
pub joined-more : (w : List ℕ) (ws : List (List ℕ)) (x : List ℕ)
    → join_with_byte 32 ((w ∷ ws) ++ x ∷ []) ≡ join_with_byte 32 (w ∷ ws) ++ 32 ∷ x
joined-more w [] x = refl
joined-more w (v ∷ ws) x = ap (λ y. w ++ 32 ∷ y) (joined-more v ws x) ∙ sym (append_assoc w (32 ∷ join_with_byte 32 (v ∷ ws)) (32 ∷ x))

-- a text of turns is at most eight bytes a turn long
joined_short : (w : List ℕ) (ws : List (List ℕ)) → All IsWord (w ∷ ws)
    → length (join_with_byte 32 (w ∷ ws)) + 1 ≤ 8 * length (w ∷ ws)
joined_short w [] a = omega (arith, (All-head IsWord w [] a).short)
joined_short w (v ∷ ws) a =
    omega (arith, (All-head IsWord w (v ∷ ws) a).short, length-append w (32 ∷ join_with_byte 32 (v ∷ ws)), joined_short v ws (All-tail IsWord w (v ∷ ws) a))

joined_fits : (ws : List (List ℕ)) → All IsWord ws → length (join_with_byte 32 ws) ≤ 8 * length ws
joined_fits [] a = omega arith
joined_fits (w ∷ ws) a = omega (arith, joined_short w ws a)

pub length-text_of : (e : Event) (ts : List Turn) → All (λ t. IsTrue (permits e t)) ts
    → length (text_of ts) ≤ 8 * length ts
length-text_of e ts a = omega (arith, joined_fits (map spelling ts) (All-words e ts a), length-map ts spelling)

-- the place behind one more word
pub place_after-more : (ws : List (List ℕ)) (w : List ℕ) → place_after (ws ++ w ∷ []) ≡ place_after ws + length w + 1
unfolding place_after
place_after-more [] w = omega arith
place_after-more (v ∷ ws) w = omega (arith, place_after-more ws w)

place_after_fits : (ws : List (List ℕ)) → All IsWord ws → place_after ws ≤ 8 * length ws
unfolding place_after
place_after_fits [] a = omega arith
place_after_fits (w ∷ ws) a = omega (arith, (All-head IsWord w ws a).short, place_after_fits ws (All-tail IsWord w ws a))

pub place_after-short : (e : Event) (ts : List Turn) → All (λ t. IsTrue (permits e t)) ts
    → place_after (map spelling ts) ≤ 8 * length ts
place_after-short e ts a = omega (arith, place_after_fits (map spelling ts) (All-words e ts a), length-map ts spelling)
