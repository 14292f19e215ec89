-- Printing and reading, turn by turn.
use Rattle.std.proofs.Common.{◌≡◌, ℕ, ◌+◌, ◌<◌, ◌≤◌, Bool, true, false, suc, IsTrue, cond, List, [], ◌∷◌, ◌++◌, length, get_or, take, drop, refl, sym, ap, ◌∙◌, subst, arith, ne_eqb, length-append, append_assoc}
use Rattle.std.specs.Prelude.{All, Ok, Result, ◌==◌, map}
use Rattle.std.specs.Bool.{OnTrue}
use Rattle.std.proofs.lemmas.Bool.{false≢true, eqb-true}
use Rattle.std.specs.List.{slice_split, join_with_byte}
use Rattle.std.proofs.Math.Nat.{le_refl}
use Rattle.std.proofs.Math.Seq.{drop-cons, get_or-append_seam}
use Rattle.std.proofs.lemmas.List.{map-append, length-map, take_more, take_all, take-append-drop, length-take-le as length_taken}
use Rattle.std.proofs.lemmas.List.Splits.{join_with_byte-slice_split}
use Rattle.std.proofs.lemmas.List.Elements.{All-nil, All-cons, All-head, All-tail, All-get_or, All-take}
use Rattle.scr_notation.specs.declared.event.Event.{Event}
use Rattle.scr_notation.specs.declared.turn.Turn.{Turn}
use Rattle.scr_notation.specs.declared.reading.NotationFault.{NotationFault}
use Rattle.scr_notation.specs.declared.reading.NotationFault.TheVariants.{Spelling, TooLong}
use Rattle.scr_notation.specs.Turns.{permits}
use Rattle.scr_notation.specs.Spelling.{spelling, text_of}
use Rattle.scr_notation.specs.Written.{Written, IsWritten, with_word}
use Rattle.scr_notation.specs.Reading.{spaced_words, place_after, IsSpelling, IsFault, IsFirstFault, IsReadAs, IsReadSoFar}
use Rattle.scr_notation.proofs.SpellingLaws.{IsWord-spelling}
use Rattle.scr_notation.proofs.TextLaws.{words_of-some, words_of-text_of, text_of-only, joined-more, length-text_of, place_after-more, place_after-short}

-- the text of turns isn't empty, unless there are none
text_of-some : (e : Event) (t : Turn) (ts : List Turn) → IsTrue (permits e t) → length (text_of (t ∷ ts)) ≡ 0 → ⊥
text_of-some e t [] p h = let w = IsWord-spelling e t p in omega (arith, w.some)
text_of-some e t (u ∷ ts) p h =
    let w = IsWord-spelling e t p in omega (arith, w.some, length-append (spelling t) (32 ∷ text_of (u ∷ ts)))

with_first : (word : List ℕ) → with_word [] word ≡ word
unfolding with_word
with_first word = refl

with_another : (text word : List ℕ) → (length text ≡ 0 → ⊥) → with_word text word ≡ text ++ 32 ∷ word
unfolding with_word
with_another text word n = ap (λ b. cond b word (text ++ 32 ∷ word)) (ne_eqb (length text) 0 n)

-- what stands before one more word
abbrev pub gap_before : List ℕ → List ℕ
gap_before text = cond (length text == 0) [] (32 ∷ [])

pub with_gap : (text word : List ℕ) → (text ++ gap_before text) ++ word ≡ with_word text word
unfolding with_word
with_gap [] word = refl
with_gap (byte ∷ text) word =
    rw (ne_eqb (length (byte ∷ text)) 0 (λ e. omega arith)) (append_assoc (byte ∷ text) (32 ∷ []) word)

-- the text of one turn more
text_of-more : (e : Event) (ts : List Turn) (t : Turn) → All (λ u. IsTrue (permits e u)) ts
    → text_of (ts ++ t ∷ []) ≡ with_word (text_of ts) (spelling t)
text_of-more e [] t a = sym (with_first (spelling t))
text_of-more e (u ∷ ts) t a =
    let P : Turn → Type 0 = λ x. IsTrue (permits e x) in
    ap (join_with_byte 32) (map-append spelling (u ∷ ts) (t ∷ []))
    ∙ joined-more (spelling u) (map spelling ts) (spelling t)
    ∙ sym (with_another (text_of (u ∷ ts)) (spelling t) (text_of-some e u ts (All-get_or P (u ∷ ts) 0 u (omega arith) a)))

-- while a scramble is printed, there is room for a space and a turn
pub print-room : (s : Written) (i : ℕ) (text : List ℕ) → IsWritten s → i < length s.turns
    → text ≡ text_of (take i s.turns) → length text + 8 ≤ 1280
print-room s i text w l e =
    let P : Turn → Type 0 = λ u. IsTrue (permits s.event u) in
    let short = length-text_of s.event (take i s.turns) (All-take P i s.turns w.permitted) in
    omega (arith, short, w.room, ap length e, length_taken i s.turns (omega arith))

pub print-more : (s : Written) (i : ℕ) (d : Turn) (text new : List ℕ) → IsWritten s → i < length s.turns
    → text ≡ text_of (take i s.turns) → new ≡ with_word text (spelling (get_or s.turns i d))
    → new ≡ text_of (take (i + 1) s.turns)
print-more s i d text new w l e h =
    let P : Turn → Type 0 = λ u. IsTrue (permits s.event u) in
    h ∙ ap (λ x. with_word x (spelling (get_or s.turns i d))) e
    ∙ sym (text_of-more s.event (take i s.turns) (get_or s.turns i d) (All-take P i s.turns w.permitted))
    ∙ ap text_of (sym (take_more s.turns i d l))

-- a word that is read is short
pub read-short : (e : Event) (t : Turn) (word : List ℕ) → IsTrue (permits e t) → spelling t ≡ word → length word ≤ 7
read-short e t word p h = let w = IsWord-spelling e t p in omega (arith, w.short, ap length h)

-- and stands at a small place
pub place-short : (s : Written) (place : ℕ) → IsWritten s → place ≡ place_after (map spelling s.turns) → place ≤ 1280
place-short s place w e = omega (arith, w.room, place_after-short s.event s.turns w.permitted)

-- the word is one more turn
pub read-as : (before after : Written) (word : List ℕ) (t : Turn) (place : ℕ) → spelling t ≡ word
    → after ≡ record { event = before.event; turns = before.turns ++ t ∷ [] } → IsWritten after
    → place ≡ place_after (map spelling before.turns) → IsReadAs before word after (place + length word + 1)
read-as before after word t place s e w p = record {
  turn = t;
  spelled = s;
  event = ap (λ x. x.event) e;
  turns = ap (λ x. x.turns) e;
  valid = w;
  place =
      let spelt = map-append spelling before.turns (t ∷ []) in
      let more = place_after-more (map spelling before.turns) (spelling t) in
      let now : place_after (map spelling after.turns) ≡ place_after (map spelling before.turns ++ spelling t ∷ []) = ap (λ x. place_after (map spelling x.turns)) e ∙ ap place_after spelt in
      omega (arith, more, now, ap length s);
}

-- nothing is read yet
pub read-none : (e : Event) (text : List ℕ) (s : Written) → s ≡ record { event = e; turns = [] } → IsWritten s
    → IsReadSoFar e (spaced_words text) 0 s 0
unfolding place_after
read-none e text s h w = record {
  of_event = ap (λ x. x.event) h;
  valid = w;
  counted = ap (λ x. length x.turns) h;
  spelled = ap (λ x. map spelling x.turns) h;
  behind = sym (ap (λ x. place_after (map spelling x.turns)) h);
}

-- one more word is read
pub read-more : (e : Event) (words : List (List ℕ)) (n : ℕ) (before after : Written) (place behind : ℕ) (word : List ℕ)
    → IsReadSoFar e words n before place → n < length words → word ≡ get_or words n word
    → IsReadAs before word after behind → IsReadSoFar e words (n + 1) after behind
read-more e words n before after place behind word r l g a = record {
  of_event = a.event ∙ r.of_event;
  valid = a.valid;
  counted = omega (arith, ap length a.turns, length-append before.turns (a.turn ∷ []), r.counted);
  spelled =
      ap (map spelling) a.turns ∙ map-append spelling before.turns (a.turn ∷ []) ∙ ap (λ x. x ++ spelling a.turn ∷ []) r.spelled
      ∙ ap (λ x. take n words ++ x ∷ []) (a.spelled ∙ g) ∙ sym (take_more words n word l);
  behind = a.place;
}

spelled_all : (e : Event) (ts : List Turn) → All (λ u. IsTrue (permits e u)) ts → All (IsSpelling e) (map spelling ts)
spelled_all e [] a = All-nil (IsSpelling e)
spelled_all e (t ∷ ts) a =
    let P : Turn → Type 0 = λ u. IsTrue (permits e u) in
    All-cons (IsSpelling e) (spelling t) (map spelling ts) (t, All-head P t ts a, refl) (spelled_all e ts (All-tail P t ts a))

spelled_of : (e : Event) (s : Written) → s.event ≡ e → IsWritten s → All (IsSpelling e) (map spelling s.turns)
spelled_of e s v w =
    let Q : Event → Type 0 = λ x. All (IsSpelling x) (map spelling s.turns) in subst Q v (spelled_all s.event s.turns w.permitted)

split_at : (words : List (List ℕ)) (n : ℕ) (word : List ℕ) (before : List (List ℕ)) → n < length words
    → word ≡ get_or words n word → before ≡ take n words → words ≡ before ++ word ∷ drop (n + 1) words
split_at words n word before l g e =
    let next : suc n ≡ n + 1 = omega arith in
    let rest : drop n words ≡ word ∷ drop (n + 1) words = drop-cons words n word l ∙ ap (λ x. x ∷ drop (suc n) words) (sym g) ∙ ap (λ k. word ∷ drop k words) next in
    sym (take-append-drop n words) ∙ ap (λ x. x ++ drop n words) (sym e) ∙ ap (λ x. before ++ x) rest

-- a fault found at the next word is the first
pub first-fault : (e : Event) (text : List ℕ) (n : ℕ) (s : Written) (place : ℕ) (word : List ℕ) (f : NotationFault)
    → IsReadSoFar e (spaced_words text) n s place → n < length (spaced_words text)
    → word ≡ get_or (spaced_words text) n word → IsFault s.event (map spelling s.turns) word f → IsFirstFault e text f
first-fault e text n s place word f r l g h = record {
  before = map spelling s.turns;
  word = word;
  behind = drop (n + 1) (spaced_words text);
  words = split_at (spaced_words text) n word (map spelling s.turns) l g r.spelled;
  spelled = spelled_of e s r.of_event r.valid;
  at_fault = let Q : Event → Type 0 = λ x. IsFault x (map spelling s.turns) word f in subst Q r.of_event h;
}

-- all words are read: the text is that of the turns
pub read-all : (e : Event) (text : List ℕ) (s : Written) (place : ℕ) → 1 ≤ length text
    → IsReadSoFar e (spaced_words text) (length (spaced_words text)) s place → text_of s.turns ≡ text
read-all e text s place l r =
    ap (join_with_byte 32) (r.spelled ∙ take_all (length (spaced_words text)) (spaced_words text) (le_refl (length (spaced_words text))) ∙ words_of-some text l) ∙ join_with_byte-slice_split 32 text

fault-none : (e : Event) (before behind : List (List ℕ)) (word : List ℕ) (f : NotationFault) (ts : List Turn)
    → All (λ u. IsTrue (permits e u)) ts → length ts ≤ 160 → map spelling ts ≡ before ++ word ∷ behind
    → IsFault e before word f → ⊥
fault-none e before behind word (Spelling place) ts a l h f =
    let k : length before < length (map spelling ts) = omega (arith, ap length h, length-append before (word ∷ behind)) in
    let Q : List ℕ → Type 0 = IsSpelling e in
    let at : get_or (map spelling ts) (length before) [] ≡ word = ap (λ x. get_or x (length before) []) h ∙ get_or-append_seam before word behind [] in
    f.1 (subst Q at (All-get_or Q (map spelling ts) (length before) [] k (spelled_all e ts a)))
fault-none e before behind word (TooLong place) ts a l h f =
    omega (arith, f.0, ap length h, length-append before (word ∷ behind), length-map ts spelling)

-- the text of a scramble has no fault
pub no-fault : (e : Event) (text : List ℕ) (f : NotationFault) (s : Written) → IsFirstFault e text f → IsWritten s
    → s.event ≡ e → text_of s.turns ≡ text → ⊥
no-fault e text f s h w v t =
    let Q : Event → Type 0 = λ x. IsFault x h.before h.word f in
    fault-none s.event h.before h.behind h.word f s.turns w.permitted w.room
    (sym (words_of-text_of s.event s.turns w.permitted) ∙ ap spaced_words t ∙ h.words)
    (subst Q (sym v) h.at_fault)

-- and is that of no other scramble of the event
pub one-scramble : (s other : Written) → IsWritten s → IsWritten other → other.event ≡ s.event
    → text_of other.turns ≡ text_of s.turns → s ≡ other
one-scramble s other w v e t =
    let Q : Event → Type 0 = λ x. All (λ u. IsTrue (permits x u)) other.turns in
    let same = text_of-only s.event s.turns other.turns w.permitted (subst Q e v.permitted) (sym t) in
    ap (λ ts. record { event = s.event; turns = ts }) same ∙ ap (λ x. record { event = x; turns = other.turns }) (sym e)

-- the same, of results
pub same-result : {E : Type 0} (s other : Written) → IsWritten s → IsWritten other → other.event ≡ s.event → text_of other.turns ≡ text_of s.turns → let r : Result Written E = Ok s in r ≡ Ok other
same-result {E = E} s other w v e t = let f : Written → Result Written E = λ x. Ok x in ap f (one-scramble s other w v e t)

-- what a call ensures where it answers true
pub on_true : (b : Bool) (P : Type 0) → IsTrue b → OnTrue b P → P
on_true true P e h = h
on_true false P e h = absurd (false≢true e)

-- the words of a text that isn't empty are those that it is split into
pub next-word : (text : List ℕ) (n : ℕ) (word : List ℕ) → 1 ≤ length text
    → (n < length (slice_split (λ b. b == 32) text)) × (word ≡ get_or (slice_split (λ b. b == 32) text) n word)
    → (n < length (spaced_words text)) × (word ≡ get_or (spaced_words text) n word)
next-word text n word l h =
    let Q : List (List ℕ) → Type 0 = λ ws. (n < length ws) × (word ≡ get_or ws n word) in subst Q (sym (words_of-some text l)) h

-- the empty text is that of the empty scramble alone
pub no-text : (text : List ℕ) (b : Bool) → b ≡ (length text == 0) → b ≡ true → text ≡ []
no-text [] b e h = refl
no-text (x ∷ xs) b e h = absurd (omega (arith, eqb-true (length (x ∷ xs)) 0 (sym e ∙ h)))

pub some-text : (text : List ℕ) (b : Bool) → b ≡ (length text == 0) → b ≡ false → 1 ≤ length text
some-text [] b e h = absurd (false≢true (sym h ∙ e))
some-text (x ∷ xs) b e h = omega arith
