-- The heads of a page.
use Rattle.std.proofs.Common.{◌≡◌, ℕ, ◌<◌, ◌^◌, Bool, true, false, IsTrue, if◌then◌else◌, List, [], ◌∷◌, ◌++◌, drop, refl, sym, ap, ◌∙◌, append_assoc, append-nil}
use Rattle.std.specs.Prelude.{All, codes, nat_lt, not}
use Rattle.std.specs.Fmt.{decimal}
use Rattle.std.specs.List.{list_all, slice_split}
use Rattle.std.proofs.lemmas.List.Elements.{All-nil, All-cons, All-head, All-tail}
use Rattle.std.proofs.lemmas.List.Sums.{AllPass-from_list_all}
use Rattle.std.proofs.lemmas.Bool.{not-true}
use Rattle.scr_notation.specs.declared.event.Event.{Event}
use Rattle.scr_notation.specs.declared.event.Event.TheVariants.{C222}
use Rattle.scr_notation.specs.Event.{name_of}
use Rattle.scr_text.specs.Lines.{has_bytes, text_of_lines, is_line_feed}
use Rattle.scr_layout.specs.Group.{Group, IsGroup}
use Rattle.scr_layout.specs.Holding.{held_as, held_of}
use Rattle.scr_layout.specs.Shown.{HasNoControl}
use Rattle.scr_layout.specs.Texts.{title_of, round_line_of, group_letter}
use Rattle.scr_text_pages.specs.Reading.{ReadLines, is_cut_line, read_lines}
use Rattle.scr_text_pages.specs.Adding.{IsPlainLine, AddsHead, AddsPlain}
use Rattle.scr_text_pages.proofs.ReadLemmas.{read-row}
use Rattle.scr_text_pages.proofs.PlainLemmas.{plain-known, plain-append, plain-decimal, plain-shown, plain-title, plain-round_line}

-- ---- no head is a line to cut at

abbrev HasNoCut : List (List ℕ) → Type 0
HasNoCut lines = All (λ line. is_cut_line line ≡ false) lines

none-read : (lines : List (List ℕ)) → HasNoCut lines → (read_lines lines).slots ≡ []
none-read [] none = refl
none-read (line ∷ lines) none =
    ap (λ (r : ReadLines). r.slots) (read-row line lines (All-head (λ l. is_cut_line l ≡ false) line lines none))
    ∙ none-read lines (All-tail (λ l. is_cut_line l ≡ false) line lines none)

title-no_cut : (event : Event) (a b c d more : List ℕ) → is_cut_line (((((name_of event ++ a) ++ b) ++ c) ++ d) ++ more) ≡ false
title-no_cut C222 a b c d more = refl
title-no_cut event a b c d more = refl

-- ---- how the puzzle is held

held_lines : Event → List (List ℕ)
held_lines event = slice_split is_line_feed (held_of event)

abbrev are_plain : List (List ℕ) → Bool
are_plain lines = list_all (λ line. list_all (λ byte. nat_lt 31 byte) line) lines

abbrev have_no_cut : List (List ℕ) → Bool
have_no_cut lines = list_all (λ line. not (is_cut_line line)) lines

record IsHeldText (event : Event) : Type 0 where
  text : text_of_lines (held_lines event) ≡ held_of event ++ 10 ∷ []
  plain : are_plain (held_lines event) ≡ true
  no_cut : have_no_cut (held_lines event) ≡ true

held-is : (event : Event) → IsHeldText event
unfolding held_lines held_as
held-is C222 = record { text = refl; plain = refl; no_cut = refl }
held-is event = record { text = refl; plain = refl; no_cut = refl }

plain-held : (event : Event) → All IsPlainLine (held_lines event)
plain-held event =
    let each = AllPass-from_list_all (λ line. list_all (λ byte. nat_lt 31 byte) line) (held_lines event) (held-is event).plain in
    λ k d below. plain-known _ (each k d below)

no_cut-held : (event : Event) → HasNoCut (held_lines event)
no_cut-held event =
    let each = AllPass-from_list_all (λ line. not (is_cut_line line)) (held_lines event) (held-is event).no_cut in
    λ k d below. not-true _ (each k d below)

-- ---- all heads

-- the competition's name, where it is not empty
abbrev name_lines : List ℕ → List (List ℕ)
name_lines name = if has_bytes name then name ∷ [] else []

abbrev other_lines : Group → List ℕ → List (List ℕ)
other_lines group more = (title_of group ++ more) ∷ round_line_of group ∷ held_lines group.event

plain-others : (group : Group) (more : List ℕ) → IsGroup group → IsPlainLine more → All IsPlainLine (other_lines group more)
plain-others group more is plain =
    All-cons IsPlainLine (title_of group ++ more) (round_line_of group ∷ held_lines group.event) (plain-append (title_of group) more (plain-title group is) plain)
    (All-cons IsPlainLine (round_line_of group) (held_lines group.event) (plain-round_line group is) (plain-held group.event))

no_cut-others : (group : Group) (more : List ℕ) → HasNoCut (other_lines group more)
no_cut-others group more =
    All-cons (λ line. is_cut_line line ≡ false) (title_of group ++ more) (round_line_of group ∷ held_lines group.event)
    (title-no_cut group.event (codes ", ") (group_letter group) (codes " of ") (decimal group.groups) more)
    (All-cons (λ line. is_cut_line line ≡ false) (round_line_of group) (held_lines group.event) refl (no_cut-held group.event))

text-others : (group : Group) (more : List ℕ) → text_of_lines (other_lines group more)
    ≡ (title_of group ++ more) ++ 10 ∷ (round_line_of group ++ 10 ∷ (held_of group.event ++ 10 ∷ []))
text-others group more =
    ap (λ t. (title_of group ++ more) ++ 10 ∷ (round_line_of group ++ 10 ∷ t)) (held-is group.event).text

-- lines behind a first one, if there is a first
abbrev behind : Bool → List ℕ → List (List ℕ) → List (List ℕ)
behind first name lines = (if first then name ∷ [] else []) ++ lines

text-behind : (first : Bool) (name : List ℕ) (lines : List (List ℕ))
    → text_of_lines (behind first name lines) ≡ (if first then name ++ 10 ∷ [] else []) ++ text_of_lines lines
text-behind true name lines = sym (append_assoc name (10 ∷ []) (text_of_lines lines))
text-behind false name lines = refl

plain-behind : (first : Bool) (name : List ℕ) (lines : List (List ℕ)) → IsPlainLine name → All IsPlainLine lines → All IsPlainLine (behind first name lines)
plain-behind true name lines plain all = All-cons IsPlainLine name lines plain all
plain-behind false name lines plain all = all

first-behind : (first : Bool) (name : List ℕ) (lines : List (List ℕ)) → IsTrue first
    → behind first name lines ≡ name ∷ drop 1 (behind first name lines)
first-behind true name lines is = refl
first-behind false name lines is = cc

read-behind : (first : Bool) (name : List ℕ) (lines : List (List ℕ)) → (read_lines lines).slots ≡ []
    → (read_lines (drop (if first then 1 else 0) (behind first name lines))).slots ≡ []
read-behind true name lines none = none
read-behind false name lines none = none

pub heads-made : (group : Group) (name old a b c d e new : List ℕ) → IsGroup group → HasNoControl name
    → a ≡ old ++ (if has_bytes name then name ++ 10 ∷ [] else []) → b ≡ a ++ title_of group → AddsPlain b c → d ≡ c ++ 10 ∷ []
    → e ≡ d ++ (round_line_of group ++ 10 ∷ []) → new ≡ e ++ (held_of group.event ++ 10 ∷ []) → AddsHead name old new
heads-made group name old a b c d e new is shown p q adds s t u =
    let others = other_lines group adds.more in
    let first = if has_bytes name then name ++ 10 ∷ [] else [] in
    let title = title_of group in
    let round = round_line_of group ++ 10 ∷ [] in
    let held = held_of group.event ++ 10 ∷ [] in
    record {
      lines = behind (has_bytes name) name others;
      text =
          u ∙ ap (λ x. x ++ held) (t ∙ ap (λ x. x ++ round) (s ∙ ap (λ x. x ++ 10 ∷ []) (adds.text ∙ ap (λ x. x ++ adds.more) (q ∙ ap (λ x. x ++ title) p))))
          ∙ joined old first title adds.more round held
          ∙ ap (λ x. old ++ (first ++ x)) (sym (text-others group adds.more ∙ split title adds.more (round_line_of group) held))
          ∙ ap (λ x. old ++ x) (sym (text-behind (has_bytes name) name others));
      plain = plain-behind (has_bytes name) name others (plain-shown name shown) (plain-others group adds.more is adds.plain);
      first = first-behind (has_bytes name) name others;
      no_slots = read-behind (has_bytes name) name others (none-read others (no_cut-others group adds.more));
    }
  where
    joined : (o f t m r h : List ℕ) → (((((o ++ f) ++ t) ++ m) ++ 10 ∷ []) ++ r) ++ h ≡ o ++ (f ++ ((t ++ m) ++ 10 ∷ (r ++ h)))
    joined o f t m r h =
        append_assoc ((((o ++ f) ++ t) ++ m) ++ 10 ∷ []) r h ∙ append_assoc (((o ++ f) ++ t) ++ m) (10 ∷ []) (r ++ h)
        ∙ ap (λ x. x ++ 10 ∷ (r ++ h)) (append_assoc (o ++ f) t m) ∙ append_assoc (o ++ f) (t ++ m) (10 ∷ (r ++ h))
        ∙ append_assoc o f ((t ++ m) ++ 10 ∷ (r ++ h))

    split : (t m r h : List ℕ) → (t ++ m) ++ 10 ∷ (r ++ 10 ∷ h) ≡ (t ++ m) ++ 10 ∷ ((r ++ 10 ∷ []) ++ h)
    split t m r h = ap (λ x. (t ++ m) ++ 10 ∷ x) (sym (append_assoc r (10 ∷ []) h))

-- ", page 1 of 2"
pub plain-number : (number count : ℕ) (old a b c new : List ℕ) → number < 2 ^ 64 → count < 2 ^ 64 → a ≡ old ++ codes ", page " → b ≡ a ++ decimal number
    → c ≡ b ++ codes " of " → new ≡ c ++ decimal count → AddsPlain old new
plain-number number count old a b c new few fits p q r s = record {
  more = ((codes ", page " ++ decimal number) ++ codes " of ") ++ decimal count;
  text =
      s ∙ ap (λ x. x ++ decimal count) (r ∙ ap (λ x. x ++ codes " of ") (q ∙ ap (λ x. x ++ decimal number) p))
      ∙ ap (λ x. (x ++ codes " of ") ++ decimal count) (append_assoc old (codes ", page ") (decimal number))
      ∙ ap (λ x. x ++ decimal count) (append_assoc old (codes ", page " ++ decimal number) (codes " of "))
      ∙ append_assoc old ((codes ", page " ++ decimal number) ++ codes " of ") (decimal count);
  plain =
      plain-append ((codes ", page " ++ decimal number) ++ codes " of ") (decimal count)
      (plain-append (codes ", page " ++ decimal number) (codes " of ")
      (plain-append (codes ", page ") (decimal number) (plain-known (codes ", page ") refl) (plain-decimal number few)) (plain-known (codes " of ") refl))
      (plain-decimal count fits);
}

pub plain-nothing : (text : List ℕ) → AddsPlain text text
plain-nothing text = record { more = []; text = sym (append-nil text); plain = All-nil (λ byte. 31 < byte) }
