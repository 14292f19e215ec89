-- Elements that tell nothing, and pages that go on by what tells no more.
use Rattle.std.proofs.Common.{◌≡◌, ℕ, true, false, List, [], ◌∷◌, ◌++◌, refl}
use Rattle.std.specs.Prelude.{None, find}
use Rattle.std.specs.Borrow.{Bor}
use Rattle.std.specs.List.{list_all, list_any}
use Rattle.std.proofs.lemmas.Bool.{and_parts, not-true}
use Rattle.std.proofs.lemmas.List.{append-nil}
use Rattle.scr_text.specs.Lines.{is_line_feed}
use Rattle.scr_markup.specs.Tokens.{Attribute, is_name, is_class, HasNoLineFeed, IsAttribute, AreAttributes, IsToken, Leaf, Mark, mark_of, Adds}
use Rattle.scr_markup.specs.Given.{attribute_of, attributes_of}
use Rattle.scr_markup.proofs.AddsLemmas.{adds_then, adds_as}
use Rattle.scr_drawing.specs.declared.style.Element.{Element}
use Rattle.scr_drawing.specs.Outlines.{is_line}
use Rattle.scr_drawing.specs.Styles.{is_free_attribute, is_free}

-- what tells nothing goes on behind what tells some
pub adds_more : (a b c : List ℕ) (told : List Mark) → Adds a b told → Adds b c [] → Adds a c told
adds_more a b c told h k = adds_as a c (told ++ []) told (append-nil told) (adds_then a b c told [] h k)

pub line_of : (text : List ℕ) → is_line text ≡ true → HasNoLineFeed text
line_of text h = not-true (list_any is_line_feed text) h

free_attribute : (a : Attribute) → is_free_attribute a ≡ true → IsAttribute a × (is_class a ≡ false)
free_attribute a h =
    let parts = and_parts (is_name a.key) _ h in
    let more = and_parts (is_line a.value) _ parts.1 in
    (record { key = parts.0; value = line_of a.value more.0 }, not-true (is_class a) more.1)

free_attributes : (pairs : List (Bor (List ℕ) × Bor (List ℕ)))
    → list_all (λ pair. is_free_attribute (attribute_of pair)) pairs ≡ true
    → AreAttributes (attributes_of pairs) × (find is_class (attributes_of pairs) ≡ None)
free_attributes [] h = (tt, refl)
free_attributes (pair ∷ pairs) h =
    let parts = and_parts (is_free_attribute (attribute_of pair)) _ h in
    let first = free_attribute (attribute_of pair) parts.0 in
    let rest = free_attributes pairs parts.1 in
    ((first.0, rest.0), rw first.1 rest.1)

pub free_token : (element : Element) → is_free element ≡ true
    → IsToken (Leaf element.0.now (attributes_of element.1.now) element.2.now)
    × (mark_of (Leaf element.0.now (attributes_of element.1.now) element.2.now) ≡ None)
free_token element h =
    let parts = and_parts (is_name element.0.now) _ h in
    let more = and_parts (list_all (λ pair. is_free_attribute (attribute_of pair)) element.1.now) _ parts.1 in
    let attributes = free_attributes element.1.now more.0 in
    ((record { named = parts.0; valid = attributes.0 }, line_of element.2.now more.1), rw attributes.1 refl)
