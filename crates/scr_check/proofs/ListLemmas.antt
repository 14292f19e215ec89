-- What the reading of a list part took.
use Rattle.std.proofs.Common.{◌≡◌, ℕ, ◌+◌, ◌-◌, ◌≤◌, Bool, true, false, Option, Some, None, List, [], ◌∷◌, ◌++◌, length, take, drop, refl, sym, ap, ◌∙◌, append_assoc, append-nil, length-append, take-append-drop, arith}
use Rattle.std.specs.Prelude.{nat_eq, ◌↔◌}
use Rattle.std.specs.Str.{bytes_eq}
use Rattle.std.proofs.lemmas.Bool.{eqb-true}
use Rattle.std.proofs.lemmas.List.{take-append-le, drop-append-le, length-take-le, take_all, take_rest, drop_all}
use Rattle.scr_check.specs.Lines.{IsPlain}
use Rattle.scr_check.specs.Parts.{separator, ends_line, list_part, sheet_part, list_room}
use Rattle.scr_check.specs.Reading.{Reading, byte_given, Takes}
use Rattle.scr_check.specs.Shapes.{IsListText}
use Rattle.scr_check.specs.Taken.{CanFollow, TakesListPart}
use Rattle.scr_check.proofs.CutLemmas.{cut-none, cut-push, IsPlain-none, IsPlain-one, IsPlain-append, AreEnded-none, AreEnded-one, AreEnded-append}
use Rattle.scr_check.proofs.PartLemmas.{NoneSeparates-none, NoneSeparates-one, NoneSeparates-append, split-separated, split-separated_last, split-whole, split-full}

-- ---- the text so far: whole lines, none of which separates, and a part of a line

-- its whole lines end at this place
pub record IsListSoFar (start : ℕ) (text : List ℕ) : Type 0 where
  pub within : start ≤ length text
  pub whole : IsListText (take start text)
  pub plain : IsPlain (drop start text)

pub so-far-none : (text : List ℕ) → text ≡ [] → IsListSoFar 0 text
so-far-none text none = grind (arith, cut-none, AreEnded-none, NoneSeparates-none, IsPlain-none)

pub so-far-other : (start : ℕ) (text : List ℕ) (byte : ℕ) → IsListSoFar start text → nat_eq byte 10 ≡ false
    → IsListSoFar start (text ++ byte ∷ [])
so-far-other start text byte so other =
    grind (arith, length-append, take-append-le, drop-append-le, IsPlain-append, IsPlain-one)

whole-line : (whole tail : List ℕ) → IsListText whole → IsPlain tail → bytes_eq tail separator ≡ false
    → IsListText (whole ++ (tail ++ 10 ∷ []))
whole-line whole tail so plain other =
    grind (arith, cut-push, AreEnded-append, AreEnded-one, NoneSeparates-append, NoneSeparates-one)

pub so-far-feed : (start : ℕ) (text : List ℕ) (byte place : ℕ) → IsListSoFar start text → nat_eq byte 10 ≡ true →
    bytes_eq (drop start text) separator ≡ false → place ≡ length (text ++ byte ∷ []) → IsListSoFar place (text ++ byte ∷ [])
so-far-feed start text byte place so feed other is =
    let parts : text ++ byte ∷ [] ≡ take start text ++ (drop start text ++ 10 ∷ []) =
    ap (λ x. x ++ byte ∷ []) (sym (take-append-drop start text)) ∙ append_assoc (take start text) (drop start text) (byte ∷ [])
    ∙ ap (λ b. take start text ++ (drop start text ++ b ∷ [])) (eqb-true byte 10 feed) in
    record {
      within = omega (arith, is);
      whole = rw (take_all place (text ++ byte ∷ []) (omega (arith, is)), parts)
          (whole-line (take start text) (drop start text) so.whole so.plain other);
      plain = rw (drop_all place (text ++ byte ∷ []) (omega (arith, is))) IsPlain-none;
    }

-- the part of a line, as it is cut off
pub tail-is : (held text : List ℕ) (start : ℕ) → held ≡ text
    → take (length held - start) (drop start held) ≡ drop start text
tail-is held text start same = take_rest held start ∙ ap (drop start) same

-- ---- what was taken

nothing-more : (text rest : List ℕ) (ended : Bool) → ended ≡ true → CanFollow ended rest → (text ++ []) ++ rest ≡ text
nothing-more text rest ended end may = grind (arith, append-nil)

module _ {S : Type 0} (left : S → Option (List ℕ)) (faults ends : S → ℕ) where
  -- a separator was met
  pub part-separated : (before after : Reading S) (start : ℕ) (text : List ℕ) (byte : Option ℕ) (list : List ℕ) → IsListSoFar start text →
      bytes_eq (drop start text) separator ≡ true → ends_line byte ≡ true → Takes left faults ends before after (text ++ byte_given byte) →
      (byte ≡ None ↔ after.ended ≡ true) → list ≡ take list_room (take start text) → TakesListPart left faults ends before after list
  part-separated before after start text None list so separates ends_here takes end is = record {
    bytes = text ++ [];
    takes = takes;
    split = λ rest may.
        let split = split-separated_last (take start text) (drop start text) so.whole so.plain separates in
        let input : (text ++ []) ++ rest ≡ take start text ++ drop start text =
        nothing-more text rest after.ended (end.0 refl) may ∙ sym (take-append-drop start text) in
        record {
          list_is = ap (take list_room) (ap list_part input ∙ split.0) ∙ sym is;
          sheet_is = λ _. ap sheet_part input ∙ split.1 ∙ sym (may (end.0 refl));
        };
  }
  part-separated before after start text (Some byte) list so separates ends_here takes end is = record {
    bytes = text ++ byte ∷ [];
    takes = takes;
    split = λ rest may.
        let split = split-separated (take start text) (drop start text) rest so.whole so.plain separates in
        let input : (text ++ byte ∷ []) ++ rest ≡ take start text ++ (drop start text ++ 10 ∷ rest) =
        append_assoc text (byte ∷ []) rest ∙ ap (λ x. x ++ byte ∷ rest) (sym (take-append-drop start text))
        ∙ append_assoc (take start text) (drop start text) (byte ∷ rest)
        ∙ ap (λ b. take start text ++ (drop start text ++ b ∷ rest)) (eqb-true byte 10 ends_here) in
        record {
          list_is = ap (take list_room) (ap list_part input ∙ split.0) ∙ sym is;
          sheet_is = λ _. ap sheet_part input ∙ split.1;
        };
  }

  -- the input ended
  pub part-whole : (before after : Reading S) (start : ℕ) (text : List ℕ) (list : List ℕ) → IsListSoFar start text →
      bytes_eq (drop start text) separator ≡ false → Takes left faults ends before after (text ++ []) → after.ended ≡ true →
      list ≡ take list_room text → TakesListPart left faults ends before after list
  part-whole before after start text list so other takes end is = record {
    bytes = text ++ [];
    takes = takes;
    split = λ rest may.
        let split = split-whole (take start text) (drop start text) so.whole so.plain other in
        let input : (text ++ []) ++ rest ≡ take start text ++ drop start text =
        nothing-more text rest after.ended end may ∙ sym (take-append-drop start text) in
        record {
          list_is = ap (take list_room) (ap list_part input ∙ split.0 ∙ take-append-drop start text) ∙ sym is;
          sheet_is = λ _. ap sheet_part input ∙ split.1 ∙ sym (may end);
        };
  }

  -- there are too many bytes
  pub part-full : (before after : Reading S) (start : ℕ) (text : List ℕ) (list : List ℕ) → IsListSoFar start text →
      Takes left faults ends before after text → length text ≡ list_room + 5 → list ≡ take list_room text →
      TakesListPart left faults ends before after list
  part-full before after start text list so takes long is = record {
    bytes = text;
    takes = takes;
    split = λ rest may.
        let parts = take-append-drop start text in
        let input : text ++ rest ≡ take start text ++ (drop start text ++ rest) =
        ap (λ x. x ++ rest) (sym parts) ∙ append_assoc (take start text) (drop start text) rest in
        record {
          list_is = ap (λ x. take list_room (list_part x)) input
              ∙ split-full list_room (take start text) (drop start text) rest so.whole so.plain (ap length parts ∙ long)
              ∙ ap (take list_room) parts ∙ sym is;
          sheet_is = λ few. absurd (omega (arith, ap length is, length-take-le list_room text (omega arith)));
        };
  }
