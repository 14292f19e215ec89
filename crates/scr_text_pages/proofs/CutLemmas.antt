-- Lines to cut at, and lines for the eye alone.
use Rattle.std.proofs.Common.{◌≡◌, ℕ, suc, ◌+◌, ◌<◌, ◌⊎◌, inl, inr, cond, IsTrue, List, [], ◌∷◌, ◌++◌, length, drop, refl, sym, ap, ◌∙◌, subst, arith, append_assoc, replicate}
use Rattle.std.specs.Prelude.{All, codes}
use Rattle.std.specs.List.{prefix_len}
use Rattle.std.proofs.Math.Seq.{drop-append_seam}
use Rattle.std.proofs.lemmas.Bool.Decides.{nat_tests}
use Rattle.std.proofs.lemmas.List.Elements.{All-nil, All-cons, All-append, All-head, All-tail, All-replicate}
use Rattle.scr_notation.specs.declared.event.Event.{Event}
use Rattle.scr_notation.specs.declared.event.Event.TheVariants.{C222}
use Rattle.scr_notation.specs.Event.{name_of}
use Rattle.scr_layout.specs.Group.{Group, IsGroup}
use Rattle.scr_layout.specs.Texts.{tag_of}
use Rattle.scr_text_pages.specs.Reading.{is_dash, cut_text}
use Rattle.scr_text_pages.specs.Slots.{cut_text_of}
use Rattle.scr_text_pages.specs.Adding.{IsPlainLine, AddsDashes, AddsCut, AddsLines, words_read}
use Rattle.scr_text_pages.proofs.PlainLemmas.{plain-append, plain-known, plain-cut_text}

abbrev AreDashes : List ℕ → Type 0
AreDashes text = All (λ byte. IsTrue (is_dash byte)) text

-- ---- dashes

pub dashes-one : (old new : List ℕ) → new ≡ old ++ 45 ∷ [] → AddsDashes old new
dashes-one old new is = record { more = []; text = is; dashes = All-nil (λ byte. IsTrue (is_dash byte)) }

a_dash : (text : List ℕ) → (text ≡ codes "-") ⊎ (text ≡ codes " ") → AreDashes text
a_dash text (inl is) = subst AreDashes (sym is) (All-cons (λ byte. IsTrue (is_dash byte)) 45 [] refl (All-nil (λ byte. IsTrue (is_dash byte))))
a_dash text (inr is) = subst AreDashes (sym is) (All-cons (λ byte. IsTrue (is_dash byte)) 32 [] refl (All-nil (λ byte. IsTrue (is_dash byte))))

pub dashes-more : (old mid new dash : List ℕ) → AddsDashes old mid → (dash ≡ codes "-") ⊎ (dash ≡ codes " ") → new ≡ mid ++ dash → AddsDashes old new
dashes-more old mid new dash adds is new_is = record {
  more = adds.more ++ dash;
  text = new_is ∙ ap (λ t. t ++ dash) adds.text ∙ append_assoc old (45 ∷ adds.more) dash;
  dashes = All-append (λ byte. IsTrue (is_dash byte)) adds.more dash adds.dashes (a_dash dash is);
}

plain-dash : (byte : ℕ) → IsTrue (is_dash byte) → 31 < byte
plain-dash byte is = grind (arith, nat_tests)

-- ---- what the line says

prefix-front : (front rest : List ℕ) → AreDashes front → prefix_len is_dash rest ≡ 0 → prefix_len is_dash (front ++ rest) ≡ length front
prefix-front [] rest dashes none = none
prefix-front (byte ∷ front) rest dashes none =
    ap (λ b. cond b (1 + prefix_len is_dash (front ++ rest)) 0) (All-head (λ b. IsTrue (is_dash b)) byte front dashes)
    ∙ ap (λ n. 1 + n) (prefix-front front rest (All-tail (λ b. IsTrue (is_dash b)) byte front dashes) none) ∙ one_more (length front)
  where
    one_more : (n : ℕ) → 1 + n ≡ suc n
    one_more n = omega arith

no_dash : (event : Event) (rest : List ℕ) → prefix_len is_dash (name_of event ++ rest) ≡ 0
no_dash C222 rest = refl
no_dash event rest = refl

says : (front rest : List ℕ) → AreDashes front → prefix_len is_dash rest ≡ 0 → cut_text (front ++ rest) ≡ rest
says front rest dashes none =
    ap (λ n. drop n (front ++ rest)) (prefix-front front rest dashes none) ∙ drop-append_seam front rest

-- dashes, spaces, and what the scramble is of
pub cut-made : (group : Group) (old dashed new : List ℕ) → IsGroup group → AddsDashes old dashed
    → new ≡ ((((dashed ++ codes "  ") ++ name_of group.event) ++ codes ", ") ++ tag_of group) ++ 10 ∷ [] → AddsCut (cut_text_of group) old new
cut-made group old dashed new is adds new_is =
    let front = 45 ∷ adds.more ++ codes "  " in
    let name = name_of group.event in
    let rest = cut_text_of group in
    let dashes : AreDashes front =
    All-cons (λ byte. IsTrue (is_dash byte)) 45 (adds.more ++ codes "  ") refl
    (All-append (λ byte. IsTrue (is_dash byte)) adds.more (codes "  ") adds.dashes
    (All-cons (λ byte. IsTrue (is_dash byte)) 32 (32 ∷ []) refl (All-cons (λ byte. IsTrue (is_dash byte)) 32 [] refl (All-nil (λ byte. IsTrue (is_dash byte))))))
    in
    let none : prefix_len is_dash rest ≡ 0 =
    ap (prefix_len is_dash) (append_assoc name (codes ", ") (tag_of group)) ∙ no_dash group.event (codes ", " ++ tag_of group) in
    record {
      line = front ++ rest;
      text =
          new_is
          ∙ ap (λ t. ((((t ++ codes "  ") ++ name) ++ codes ", ") ++ tag_of group) ++ 10 ∷ []) adds.text
          ∙ ap (λ t. (((t ++ name) ++ codes ", ") ++ tag_of group) ++ 10 ∷ []) (append_assoc old (45 ∷ adds.more) (codes "  "))
          ∙ ap (λ t. t ++ 10 ∷ []) (ap (λ t. t ++ tag_of group) (append_assoc (old ++ front) name (codes ", ")) ∙ append_assoc (old ++ front) (name ++ codes ", ") (tag_of group))
          ∙ ap (λ t. t ++ 10 ∷ []) (append_assoc old front rest);
      plain = plain-append front rest (λ k d below. plain-dash _ (dashes k d below)) (plain-cut_text group is);
      cut = refl;
      says = says front rest dashes none;
    }

pub plain-spaces : (n : ℕ) → IsPlainLine (replicate n 32)
plain-spaces n = All-replicate (λ byte. 31 < byte) n 32 (omega arith)

-- a line of a net
pub bar-line : (line old bar filled new : List ℕ) → IsPlainLine line → bar ≡ old ++ codes "|    " → filled ≡ bar ++ line
    → new ≡ filled ++ 10 ∷ [] → AddsLines (words_read (line ∷ [])) old new
bar-line line old bar filled new plain bar_is filled_is new_is = record {
  lines = (codes "|    " ++ line) ∷ [];
  text =
      new_is ∙ ap (λ t. t ++ 10 ∷ []) (filled_is ∙ ap (λ t. t ++ line) bar_is ∙ append_assoc old (codes "|    ") line)
      ∙ append_assoc old (codes "|    " ++ line) (10 ∷ []);
  plain =
      All-cons IsPlainLine (codes "|    " ++ line) [] (plain-append (codes "|    ") line (plain-known (codes "|    ") refl) plain)
      (All-nil IsPlainLine);
  reads = refl;
}

pub five-pushed : (dashed a b c d new name name' tag tag' : List ℕ) → a ≡ dashed ++ codes "  " → b ≡ a ++ name → c ≡ b ++ codes ", " → d ≡ c ++ tag
    → new ≡ d ++ 10 ∷ [] → name ≡ name' → tag ≡ tag' → new ≡ ((((dashed ++ codes "  ") ++ name') ++ codes ", ") ++ tag') ++ 10 ∷ []
five-pushed dashed a b c d new name name' tag tag' p q r s t u v =
    t ∙ ap (λ x. x ++ 10 ∷ []) (s ∙ ap (λ x. x ++ tag) (r ∙ ap (λ x. x ++ codes ", ") (q ∙ ap (λ x. x ++ name) p)))
    ∙ ap (λ n. ((((dashed ++ codes "  ") ++ n) ++ codes ", ") ++ tag) ++ 10 ∷ []) u
    ∙ ap (λ g. ((((dashed ++ codes "  ") ++ name') ++ codes ", ") ++ g) ++ 10 ∷ []) v
