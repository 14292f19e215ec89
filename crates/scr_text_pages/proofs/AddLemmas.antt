-- What calls one after another add.
use Rattle.std.proofs.Common.{◌≡◌, ℕ, ◌<◌, ◌≤◌, Bool, IsTrue, true, false, if◌then◌else◌, List, [], ◌∷◌, ◌++◌, take, drop, length, refl, sym, ap, ◌∙◌, subst, arith, append_assoc, append-nil, length-append, flat_map}
use Rattle.std.specs.Prelude.{All}
use Rattle.std.specs.List.{position_or_len}
use Rattle.std.proofs.Math.ListN.{get_or-append}
use Rattle.std.proofs.Math.Seq.{get_or-append_seam, take-append_seam}
use Rattle.std.proofs.lemmas.List.{drop-append-le}
use Rattle.std.proofs.lemmas.List.Sums.{position_or_len_is}
use Rattle.std.proofs.lemmas.List.Elements.{All-nil, All-cons, All-append, All-head, All-tail}
use Rattle.std.proofs.lemmas.List.Splits.{slice_split_none}
use Rattle.std.proofs.lemmas.Bool.{ne_eqb}
use Rattle.scr_text.specs.Lines.{has_bytes, is_line_feed, text_of_lines}
use Rattle.scr_text.specs.Parts.{IsLine}
use Rattle.scr_text.proofs.LineLaws.{lines_of-text_of_lines, IsLine-plain}
use Rattle.scr_text.proofs.WrittenLines.{text_of_lines-append}
use Rattle.scr_text_pages.specs.Reading.{ReadSlot, ReadLines, read_lines, slots_of_page, slots_of_text, is_form_feed, first_line}
use Rattle.scr_text_pages.specs.Adding.{IsPlainLine, AddsLines, AddsCut, AddsHead, AddsSlots, words_read, slots_read}
use Rattle.scr_text_pages.proofs.ReadLemmas.{read-rows, read-slots, read-cut}
use Rattle.scr_text_pages.proofs.SplitLemmas.{pages-between, no_pages, named-one, named-none, named-between}

pub adds-none : (text : List ℕ) → AddsLines (words_read []) text text
adds-none text = record { lines = []; text = sym (append-nil text); plain = All-nil IsPlainLine; reads = refl }

pub adds-empty : (old new : List ℕ) → new ≡ old ++ 10 ∷ [] → AddsLines (words_read []) old new
adds-empty old new is =
    record { lines = [] ∷ []; text = is; plain = All-cons IsPlainLine [] [] (All-nil (λ byte. 31 < byte)) (All-nil IsPlainLine); reads = refl }

text-then : (a b c : List ℕ) (lines more : List (List ℕ)) → b ≡ a ++ text_of_lines lines → c ≡ b ++ text_of_lines more
    → c ≡ a ++ text_of_lines (lines ++ more)
text-then a b c lines more first second =
    second ∙ ap (λ t. t ++ text_of_lines more) first ∙ append_assoc a (text_of_lines lines) (text_of_lines more)
    ∙ ap (λ t. a ++ t) (sym (text_of_lines-append lines more))

-- rows, and then other lines
pub adds-rows : (words : List (List ℕ)) (read : ReadLines) (a b c : List ℕ) → AddsLines (words_read words) a b → AddsLines read b c
    → AddsLines (record { before = words ++ read.before; slots = read.slots }) a c
adds-rows words read a b c h k = record {
  lines = h.lines ++ k.lines;
  text = text-then a b c h.lines k.lines h.text k.text;
  plain = All-append IsPlainLine h.lines k.lines h.plain k.plain;
  reads =
      read-rows h.lines k.lines (ap (λ (r : ReadLines). r.slots) h.reads)
      ∙ ap (λ (r : ReadLines). record { before = r.before ++ (read_lines k.lines).before; slots = (read_lines k.lines).slots }) h.reads
      ∙ ap (λ (r : ReadLines). record { before = words ++ r.before; slots = r.slots }) k.reads;
}

-- rows, and then rows
pub adds-words : (words more : List (List ℕ)) (a b c : List ℕ) → AddsLines (words_read words) a b → AddsLines (words_read more) b c
    → AddsLines (words_read (words ++ more)) a c
adds-words words more a b c h k = adds-rows words (words_read more) a b c h k

-- the same, where no words are added
pub adds-no_words : (words : List (List ℕ)) (a b c : List ℕ) → AddsLines (words_read words) a b → AddsLines (words_read []) b c
    → AddsLines (words_read words) a c
adds-no_words words a b c h k =
    subst (λ w. AddsLines (words_read w) a c) (append-nil words) (adds-words words [] a b c h k)

-- scrambles, and then scrambles
pub adds-slots : (slots more : List ReadSlot) (a b c : List ℕ) → AddsLines (slots_read slots) a b → AddsLines (slots_read more) b c
    → AddsLines (slots_read (slots ++ more)) a c
adds-slots slots more a b c h k = record {
  lines = h.lines ++ k.lines;
  text = text-then a b c h.lines k.lines h.text k.text;
  plain = All-append IsPlainLine h.lines k.lines h.plain k.plain;
  reads =
      read-slots h.lines k.lines (ap (λ (r : ReadLines). r.before) k.reads)
      ∙ ap (λ (r : ReadLines). record { before = r.before; slots = r.slots ++ (read_lines k.lines).slots }) h.reads
      ∙ ap (λ (r : ReadLines). slots_read (slots ++ r.slots)) k.reads;
}

pub adds-no_slots : (text : List ℕ) → AddsLines (slots_read []) text text
adds-no_slots text = record { lines = []; text = sym (append-nil text); plain = All-nil IsPlainLine; reads = refl }

-- a line to cut at, and rows below it
pub adds-cut : (of : List ℕ) (words : List (List ℕ)) (a b c : List ℕ) → AddsCut of a b → AddsLines (words_read words) b c
    → AddsLines (slots_read (record { of = of; words = words } ∷ [])) a c
adds-cut of words a b c h k = record {
  lines = h.line ∷ k.lines;
  text =
      k.text ∙ ap (λ t. t ++ text_of_lines k.lines) h.text
      ∙ append_assoc (a ++ h.line) (10 ∷ []) (text_of_lines k.lines)
      ∙ append_assoc a h.line (10 ∷ text_of_lines k.lines);
  plain = All-cons IsPlainLine h.line k.lines h.plain k.plain;
  reads =
      read-cut h.line k.lines words h.cut k.reads
      ∙ ap (λ o. slots_read (record { of = o; words = words } ∷ [])) h.says;
}

-- ---- a page

plain-lines : (lines : List (List ℕ)) → All IsPlainLine lines → All IsLine lines
plain-lines [] plain = All-nil IsLine
plain-lines (line ∷ lines) plain =
    All-cons IsLine line lines (IsLine-plain line (All-head IsPlainLine line lines plain)) (plain-lines lines (All-tail IsPlainLine line lines plain))

-- no form feed stands in lines
no_feed : (line : List ℕ) → IsPlainLine line → All (λ byte. is_form_feed byte ≡ false) line
no_feed line plain = λ k d below. let above = plain k d below in ne_eqb _ 12 (λ is. omega (arith, is, above))

pub lines-no_feed : (lines : List (List ℕ)) → All IsPlainLine lines → All (λ byte. is_form_feed byte ≡ false) (text_of_lines lines)
lines-no_feed [] plain = All-nil (λ byte. is_form_feed byte ≡ false)
lines-no_feed (line ∷ lines) plain =
    All-append (λ byte. is_form_feed byte ≡ false) line (10 ∷ text_of_lines lines) (no_feed line (All-head IsPlainLine line lines plain))
    (All-cons (λ byte. is_form_feed byte ≡ false) 10 (text_of_lines lines) refl (lines-no_feed lines (All-tail IsPlainLine line lines plain)))

abbrev skipped : Bool → ℕ
skipped has_name = if has_name then 1 else 0

skip-append : (has_name : Bool) (lines more : List (List ℕ)) → (IsTrue has_name → 1 ≤ length lines)
    → drop (skipped has_name) (lines ++ more) ≡ drop (skipped has_name) lines ++ more
skip-append true lines more some = drop-append-le 1 lines more (some refl)
skip-append false lines more some = refl

-- the first line of a text
line-place : (line rest : List ℕ) → IsPlainLine line → position_or_len is_line_feed (line ++ 10 ∷ rest) ≡ length line
line-place line rest plain =
    position_or_len_is is_line_feed (line ++ 10 ∷ rest) (length line) 0 (omega (arith, length-append line (10 ∷ rest)))
    (λ k below. ap is_line_feed (get_or-append line (10 ∷ rest) 0 k below)
    ∙ ne_eqb _ 10 (λ is. let above = plain k 0 below in omega (arith, is, above)))
    (λ below. ap is_line_feed (get_or-append_seam line 10 rest 0))

first-is : (line rest : List ℕ) → IsPlainLine line → first_line (line ++ 10 ∷ rest) ≡ line
first-is line rest plain =
    ap (λ n. take n (line ++ 10 ∷ rest)) (line-place line rest plain) ∙ take-append_seam line (10 ∷ rest)

-- that of lines behind a name
first-name : (name : List ℕ) (lines more : List (List ℕ)) → lines ≡ name ∷ drop 1 lines → All IsPlainLine lines
    → first_line (text_of_lines (lines ++ more)) ≡ name
first-name name lines more is plain =
    ap (λ ls. first_line (text_of_lines (ls ++ more))) is
    ∙ first-is name (text_of_lines (drop 1 lines ++ more)) (All-head IsPlainLine name (drop 1 lines) (subst (All IsPlainLine) is plain))

-- heads and scrambles are a page, of which just these scrambles are read
pub adds-page : (name : List ℕ) (slots : List ReadSlot) (a b c : List ℕ) → AddsHead name a b → AddsLines (slots_read slots) b c
    → AddsSlots name slots a c
adds-page name slots a b c h k =
    let has_name = has_bytes name in
    let some_line : IsTrue has_name → 1 ≤ length h.lines = λ is. let first = h.first is in omega (arith, ap length first) in
    let lines = h.lines ++ k.lines in
    let plain = All-append IsPlainLine h.lines k.lines h.plain k.plain in
    let n = skipped has_name in
    let longer : IsTrue has_name → 1 ≤ length lines = λ is. let some = some_line is in omega (arith, some, length-append h.lines k.lines) in
    let behind = read-slots (drop n h.lines) k.lines (ap (λ (r : ReadLines). r.before) k.reads) in
    let read_page : (read_lines (drop n lines)).slots ≡ slots =
    ap (λ ls. (read_lines ls).slots) (skip-append has_name h.lines k.lines some_line) ∙ ap (λ (r : ReadLines). r.slots) behind
    ∙ ap (λ ss. ss ++ (read_lines k.lines).slots) h.no_slots ∙ ap (λ (r : ReadLines). r.slots) k.reads in
    let page : slots_of_page has_name (text_of_lines lines) ≡ slots =
    ap (λ ls. (read_lines (drop n ls)).slots) (lines_of-text_of_lines lines (plain-lines lines plain))
    ∙ ap (λ ls. (read_lines ls).slots) (skip-append has_name lines ([] ∷ []) longer)
    ∙ ap (λ (r : ReadLines). r.slots) (read-slots (drop n lines) ([] ∷ []) refl)
    ∙ append-nil (read_lines (drop n lines)).slots ∙ read_page in
    record {
      pages = text_of_lines lines;
      text = text-then a b c h.lines k.lines h.text k.text;
      named =
          named-one name (text_of_lines lines) (lines-no_feed lines plain)
          (λ is some. first-name name h.lines k.lines (h.first is) h.plain);
      reads =
          ap (flat_map (slots_of_page has_name)) (slice_split_none is_form_feed (text_of_lines lines) (lines-no_feed lines plain))
          ∙ append-nil (slots_of_page has_name (text_of_lines lines)) ∙ page;
    }

-- pages, a form feed, and a page
pub adds-pages : (name : List ℕ) (slots more : List ReadSlot) (a b fed c : List ℕ) → AddsSlots name slots a b → fed ≡ b ++ 12 ∷ []
    → AddsSlots name more fed c → AddsSlots name (slots ++ more) a c
adds-pages name slots more a b fed c h feed k = record {
  pages = h.pages ++ 12 ∷ k.pages;
  text =
      k.text ∙ ap (λ t. t ++ k.pages) feed ∙ ap (λ t. (t ++ 12 ∷ []) ++ k.pages) h.text
      ∙ append_assoc (a ++ h.pages) (12 ∷ []) k.pages ∙ append_assoc a h.pages (12 ∷ k.pages);
  named = named-between name h.pages k.pages h.named k.named;
  reads =
      pages-between (has_bytes name) h.pages k.pages ∙ ap (λ s. s ++ slots_of_text (has_bytes name) k.pages) h.reads
      ∙ ap (λ s. slots ++ s) k.reads;
}

-- no pages
pub adds-no_pages : (name text : List ℕ) → AddsSlots name [] text text
adds-no_pages name text =
    record { pages = []; text = sym (append-nil text); named = named-none name; reads = no_pages (has_bytes name) }

-- the first page
pub adds-first : (name : List ℕ) (slots : List ReadSlot) (old text c : List ℕ) → text ≡ old → AddsSlots name slots text c → AddsSlots name slots old c
adds-first name slots old text c same adds = subst (λ (t : List ℕ). AddsSlots name slots t c) same adds
