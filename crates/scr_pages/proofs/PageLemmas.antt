-- Pages that go on with those of one more group.
use Rattle.std.proofs.Common.{◌≡◌, ℕ, Bool, true, false, if◌then◌else◌, codes, List, [], ◌∷◌, ◌++◌, length, refl, sym, ap, ◌∙◌, subst, arith, append-nil, length-append, flat_map}
use Rattle.std.proofs.lemmas.List.Concat.{flat_map-append}
use Rattle.scr_text.specs.Lines.{has_bytes}
use Rattle.scr_markup.specs.Tokens.{Adds, Mark, Token, Leaf, IsToken, text_of_tokens}
use Rattle.scr_markup.proofs.AddsLemmas.{adds_token, adds_then, adds_as}
use Rattle.scr_layout.specs.Shown.{HasNoControl}
use Rattle.scr_html.proofs.TextLemmas.{above_controls}
use Rattle.scr_html.specs.Pages.{page_marks, doctype, document_end, document_mark}
use Rattle.scr_layout.specs.Group.{Group}
use Rattle.scr_text_pages.specs.Reading.{slots_of_text, AreNamed}
use Rattle.scr_text_pages.specs.Slots.{slots_of_group}
use Rattle.scr_text_pages.specs.Adding.{AddsPages}
use Rattle.scr_text_pages.proofs.SplitLemmas.{no_pages, pages-between, named-none, named-between}
use Rattle.scr_pages.specs.Pages.{Look, AreTextPages, AreHtmlPages, AreBegunAs, pages_end}

pub flat_map-one : {X Y : Type 0} (f : X → List Y) (xs : List X) (x : X) → flat_map f (xs ++ x ∷ []) ≡ flat_map f xs ++ f x
flat_map-one f xs x = flat_map-append f xs (x ∷ []) ∙ ap (λ ys. flat_map f xs ++ ys) (append-nil (f x))

-- ---- HTML

-- what is added to nothing is added to any text
adds_behind : (text piece : List ℕ) (told : List Mark) → Adds [] piece told → Adds text (text ++ piece) told
adds_behind text piece told adds =
    record { tokens = adds.tokens; valid = adds.valid; text = ap (λ p. text ++ p) adds.text; tells = adds.tells }

html-on : (look : Look) (group : Group) (before : List Group) (text piece : List ℕ)
    → Adds [] piece (page_marks look.pictures look.name group) → AreHtmlPages look.pictures look.name before text
    → AreHtmlPages look.pictures look.name (before ++ group ∷ []) (text ++ piece)
html-on look group before text piece adds are =
    let tells = page_marks look.pictures look.name in
    let told = document_mark look.name ∷ flat_map tells before in
    adds_as doctype (text ++ piece) (told ++ tells group) (document_mark look.name ∷ flat_map tells (before ++ group ∷ []))
    (ap (λ marks. document_mark look.name ∷ marks) (sym (flat_map-one tells before group)))
    (adds_then doctype text (text ++ piece) told (tells group) are (adds_behind text piece (tells group) adds))

-- the begin of a document, by its title alone
abbrev title_token : List ℕ → Token
title_token name =
    Leaf (codes "title") (record { key = codes "class"; value = codes "document" } ∷ []) (if has_bytes name then name else codes "Scrambles")

has-title : (name : List ℕ) → HasNoControl name → IsToken (title_token name)
has-title [] above = (record { named = refl; valid = (record { key = refl; value = refl }, tt) }, refl)
has-title (byte ∷ name) above =
    (record { named = refl; valid = (record { key = refl; value = refl }, tt) }, above_controls (byte ∷ name) above)

begun-title : (name : List ℕ) → HasNoControl name
    → Adds doctype (doctype ++ text_of_tokens (title_token name ∷ [])) (document_mark name ∷ [])
begun-title name above =
    adds_token doctype (doctype ++ text_of_tokens (title_token name ∷ [])) (title_token name) (has-title name above) refl

-- ---- text

some_more : (before : List Group) (group : Group) (text : List ℕ) → before ++ group ∷ [] ≡ [] → text ≡ []
some_more before group text is = absurd (omega (arith, ap length is, length-append before (group ∷ [])))

-- the first group's pages
text-first : (look : Look) (group : Group) (text pages : List ℕ) → AreNamed look.name pages
    → slots_of_text (has_bytes look.name) pages ≡ slots_of_group look.pictures group
    → text ≡ [] → AreTextPages look.pictures look.name (group ∷ []) (text ++ pages)
text-first look group text pages named slots empty = record {
  named = subst (λ (t : List ℕ). AreNamed look.name (t ++ pages)) (sym empty) named;
  slots = ap (λ t. slots_of_text (has_bytes look.name) (t ++ pages)) empty ∙ slots ∙ sym (append-nil (slots_of_group look.pictures group));
  none = some_more [] group (text ++ pages);
}

-- others, behind a form feed
text-more : (look : Look) (group : Group) (before : List Group) (text pages : List ℕ)
    → AreNamed look.name pages → slots_of_text (has_bytes look.name) pages ≡ slots_of_group look.pictures group → AreTextPages look.pictures look.name before text
    → AreTextPages look.pictures look.name (before ++ group ∷ []) (text ++ 12 ∷ pages)
text-more look group before text pages named slots are = record {
  named = named-between look.name text pages are.named named;
  slots =
      pages-between (has_bytes look.name) text pages ∙ ap (λ s. s ++ slots_of_text (has_bytes look.name) pages) are.slots
      ∙ ap (λ s. flat_map (slots_of_group look.pictures) before ++ s) slots ∙ sym (flat_map-one (slots_of_group look.pictures) before group);
  none = some_more before group (text ++ 12 ∷ pages);
}

-- ---- either form

-- before the first page
pub begun-html : (html : Bool) (look : Look) (page text : List ℕ) → html ≡ true → page ≡ [] → Adds (page ++ doctype) text (document_mark look.name ∷ [])
    → AreBegunAs html look [] text
begun-html true look page text is empty adds = subst (λ (p : List ℕ). Adds (p ++ doctype) text (document_mark look.name ∷ [])) empty adds
begun-html false look page text is empty adds = cc

pub begun-text : (html : Bool) (look : Look) (page : List ℕ) → html ≡ false → page ≡ [] → AreBegunAs html look [] page
begun-text true look page is empty = cc
begun-text false look page is empty =
    record {
      named = subst (λ (p : List ℕ). AreNamed look.name p) (sym empty) (named-none look.name);
      slots = ap (slots_of_text (has_bytes look.name)) empty ∙ no_pages (has_bytes look.name);
      none = λ none. empty;
    }

-- some text is that before the first page
pub some-begun : (html : Bool) (look : Look) → HasNoControl look.name → (text : List ℕ) × AreBegunAs html look [] text
some-begun true look above = (doctype ++ text_of_tokens (title_token look.name ∷ []), begun-title look.name above)
some-begun false look above =
    ([], record { named = named-none look.name; slots = no_pages (has_bytes look.name); none = λ none. refl })

pub goes-html : (html : Bool) (look : Look) (group : Group) (page piece : List ℕ) → html ≡ true → page ≡ []
    → Adds page piece (page_marks look.pictures look.name group) → (before : List Group) (text : List ℕ)
    → AreBegunAs html look before text → AreBegunAs html look (before ++ group ∷ []) (text ++ piece)
goes-html true look group page piece is empty adds before text are =
    html-on look group before text piece (subst (λ (p : List ℕ). Adds p piece (page_marks look.pictures look.name group)) empty adds) are
goes-html false look group page piece is empty adds before text are = cc

pub goes-first : (html : Bool) (look : Look) (group : Group) (page piece : List ℕ) → html ≡ false → page ≡ []
    → AddsPages look.pictures look.name group page piece → (before : List Group) (text : List ℕ) → before ≡ []
    → AreBegunAs html look before text → AreBegunAs html look (before ++ group ∷ []) (text ++ piece)
goes-first true look group page piece is empty adds before text none are = cc
goes-first false look group page piece is empty adds before text none are =
    let whole : piece ≡ adds.pages = adds.text ∙ ap (λ p. p ++ adds.pages) empty in
    subst (λ (b : List Group). AreTextPages look.pictures look.name (b ++ group ∷ []) (text ++ piece)) (sym none)
    (subst (λ (p : List ℕ). AreTextPages look.pictures look.name (group ∷ []) (text ++ p)) (sym whole)
    (text-first look group text adds.pages adds.named adds.reads (are.none none)))

pub goes-more : (html : Bool) (look : Look) (group : Group) (page piece : List ℕ) → html ≡ false → page ≡ 12 ∷ []
    → AddsPages look.pictures look.name group page piece → (before : List Group) (text : List ℕ)
    → AreBegunAs html look before text → AreBegunAs html look (before ++ group ∷ []) (text ++ piece)
goes-more true look group page piece is fed adds before text are = cc
goes-more false look group page piece is fed adds before text are =
    let whole : piece ≡ 12 ∷ adds.pages = adds.text ∙ ap (λ p. p ++ adds.pages) fed in
    subst (λ (p : List ℕ). AreTextPages look.pictures look.name (before ++ group ∷ []) (text ++ p)) (sym whole)
    (text-more look group before text adds.pages adds.named adds.reads are)

-- behind the last page
pub ends-html : (look : Look) (page piece : List ℕ) → look.html ≡ true → page ≡ [] → piece ≡ page ++ document_end → piece ≡ pages_end look
ends-html look page piece is empty ends =
    ends ∙ ap (λ p. p ++ document_end) empty ∙ sym (ap (λ html. if html then document_end else []) is)

pub ends-text : (look : Look) (page : List ℕ) → look.html ≡ false → page ≡ [] → page ≡ pages_end look
ends-text look page is empty = empty ∙ sym (ap (λ html. if html then document_end else []) is)
