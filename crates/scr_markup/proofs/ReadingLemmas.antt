-- A text has at most one list of tokens: each piece ends at a byte that it can't have.
use Rattle.std.proofs.lemmas.Grind.{common_steps}
use Rattle.std.proofs.Common.{◌≡◌, ℕ, Bool, true, false, List, [], ◌∷◌, ◌++◌, refl, sym, ap, ◌∙◌, arith, append_assoc}
use Rattle.std.specs.Prelude.{not, ◌||◌, ◌==◌, codes}
use Rattle.std.specs.List.{list_any, list_all}
use Rattle.std.proofs.lemmas.Bool.Decides.{nat_tests}
use Rattle.std.proofs.lemmas.Bool.{and_parts, or_parts}
use Rattle.std.proofs.lemmas.List.{append-nil}
use Rattle.std.proofs.lemmas.List.Folds.{list_any-append}
use Rattle.scr_text.specs.Lines.{is_line_feed}
use Rattle.scr_markup.specs.Tokens.{Attribute, Token, Open, Leaf, Close, is_name_byte, is_name, HasNoLineFeed, IsAttribute, AreAttributes, IsHead, IsToken, AreTokens, escaped_byte, escaped, attribute_text, attributes_text, head_text, end_text, token_line, text_of_tokens}

-- ---- where a piece ends

later : (b c : Bool) → (b || c) ≡ false → c ≡ false
later b c h = grind arith

-- Two pieces that lack what ends them are one, if what follows them is.
pub ends_once : (stops : ℕ → Bool) (xs ys : List ℕ) (c d : ℕ) (r s : List ℕ)
    → list_any stops xs ≡ false → list_any stops ys ≡ false → stops c ≡ true → stops d ≡ true
    → xs ++ c ∷ r ≡ ys ++ d ∷ s → (xs ≡ ys) × (c ≡ d) × (r ≡ s)
ends_once stops [] [] c d r s hx hy hc hd e = (refl, cc, cc)
ends_once stops [] (y ∷ ys) c d r s hx hy hc hd e = cc
ends_once stops (x ∷ xs) [] c d r s hx hy hc hd e = cc
ends_once stops (x ∷ xs) (y ∷ ys) c d r s hx hy hc hd e =
    let same : x ≡ y = cc in
    let more : xs ++ c ∷ r ≡ ys ++ d ∷ s = cc in
    let rest = ends_once stops xs ys c d r s (later (stops x) (list_any stops xs) hx) (later (stops y) (list_any stops ys) hy) hc hd more in
    let first = rest.0 in
    (cc, rest.1, rest.2)

-- ---- escaped texts

byte_once : (b c : ℕ) (r s : List ℕ) → escaped_byte b ++ r ≡ escaped_byte c ++ s → (b ≡ c) × (r ≡ s)
byte_once b c r s e = grind arith

some_bytes : (b : ℕ) (r : List ℕ) → [] ≡ escaped_byte b ++ r → ⊥
some_bytes b r e = grind (arith, nat_tests)

pub escaped_once : (x y : List ℕ) → escaped x ≡ escaped y → x ≡ y
escaped_once [] [] e = refl
escaped_once [] (c ∷ y) e = absurd (some_bytes c (escaped y) e)
escaped_once (b ∷ x) [] e = absurd (some_bytes b (escaped x) (sym e))
escaped_once (b ∷ x) (c ∷ y) e =
    let first = byte_once b c (escaped x) (escaped y) e in
    let same = first.0 in
    let rest = escaped_once x y first.1 in
    cc

-- a byte that an escaped text lacks
escaped_lacks : (p q : ℕ → Bool) → ((b : ℕ) → p b ≡ false → list_any q (escaped_byte b) ≡ false)
    → (text : List ℕ) → list_any p text ≡ false → list_any q (escaped text) ≡ false
escaped_lacks p q each [] none = refl
escaped_lacks p q each (b ∷ text) none =
    let parts = or_parts (p b) (list_any p text) none in
    list_any-append q (escaped_byte b) (escaped text)
    ∙ rw (each b parts.0) (escaped_lacks p q each text parts.1)

nothing : ℕ → Bool
nothing b = false

lacks_nothing : (text : List ℕ) → list_any nothing text ≡ false
unfolding nothing
lacks_nothing [] = refl
lacks_nothing (b ∷ text) = lacks_nothing text

is_quote : ℕ → Bool
is_quote b = b == 34

is_less : ℕ → Bool
is_less b = b == 60

quote_named : (b : ℕ) → nothing b ≡ false → list_any is_quote (escaped_byte b) ≡ false
unfolding is_quote
quote_named b h = grind arith

less_named : (b : ℕ) → nothing b ≡ false → list_any is_less (escaped_byte b) ≡ false
unfolding is_less
less_named b h = grind arith

line_feed_named : (b : ℕ) → is_line_feed b ≡ false → list_any is_line_feed (escaped_byte b) ≡ false
line_feed_named = grind arith

-- ---- names

-- whether a byte ends a name
ends_name : ℕ → Bool
ends_name b = not (is_name_byte b)

all_but : (p q : ℕ → Bool) → ((b : ℕ) → p b ≡ true → q b ≡ false) → (xs : List ℕ) → list_all p xs ≡ true → list_any q xs ≡ false
all_but p q each [] all = refl
all_but p q each (x ∷ xs) all =
    let parts = and_parts (p x) (list_all p xs) all in
    rw (each x parts.0) (all_but p q each xs parts.1)

name_lacks : (q : ℕ → Bool) → ((b : ℕ) → is_name_byte b ≡ true → q b ≡ false) → (name : List ℕ) → is_name name ≡ true
    → list_any q name ≡ false
name_lacks q each name valid = grind (arith, all_but)

ends_no_name : (b : ℕ) → is_name_byte b ≡ true → ends_name b ≡ false
unfolding ends_name
ends_no_name b h = rw h refl

no_line_feed : (b : ℕ) → is_name_byte b ≡ true → is_line_feed b ≡ false
no_line_feed b h = grind (arith, nat_tests)

-- a name is followed by a byte that it can't have
name_once : (n m : List ℕ) (c d : ℕ) (r s : List ℕ) → is_name n ≡ true → is_name m ≡ true → is_name_byte c ≡ false
    → is_name_byte d ≡ false → n ++ c ∷ r ≡ m ++ d ∷ s → (n ≡ m) × (c ≡ d) × (r ≡ s)
unfolding ends_name
name_once n m c d r s hn hm hc hd e =
    ends_once ends_name n m c d r s (name_lacks ends_name ends_no_name n hn) (name_lacks ends_name ends_no_name m hm)
    (ap not hc) (ap not hd) e

-- ---- attributes

-- an attribute and what follows it, piece by piece
attribute_form : (a : Attribute) (t : List ℕ)
    → attribute_text a ++ t ≡ 32 ∷ (a.key ++ 61 ∷ 34 ∷ (escaped a.value ++ 34 ∷ t))
attribute_form a t = simp append_assoc

-- what follows the name of an element
after_name : List Attribute → List ℕ → List ℕ
after_name attributes r = attributes_text attributes ++ 62 ∷ r

after_name-cons : (a : Attribute) (xs : List Attribute) (r : List ℕ)
    → after_name (a ∷ xs) r ≡ 32 ∷ (a.key ++ 61 ∷ 34 ∷ (escaped a.value ++ 34 ∷ after_name xs r))
unfolding after_name
after_name-cons a xs r = grind (arith, append_assoc, attribute_form)

value_once : (v w : List ℕ) (r s : List ℕ) → escaped v ++ 34 ∷ r ≡ escaped w ++ 34 ∷ s → (v ≡ w) × (r ≡ s)
unfolding is_quote
value_once v w r s e =
    let cut = ends_once is_quote (escaped v) (escaped w) 34 34 r s
    (escaped_lacks nothing is_quote quote_named v (lacks_nothing v)) (escaped_lacks nothing is_quote quote_named w (lacks_nothing w)) refl refl e in
    (escaped_once v w cut.0, cut.2)

tails : (c d : ℕ) (r s : List ℕ) → c ∷ r ≡ d ∷ s → r ≡ s
tails c d r s e = cc

list_of_two : (a b : Attribute) (xs ys : List Attribute) → a.key ≡ b.key → a.value ≡ b.value → xs ≡ ys → a ∷ xs ≡ b ∷ ys
list_of_two a b xs ys k v more = grind arith

attributes_once : (xs ys : List Attribute) (r s : List ℕ) → AreAttributes xs → AreAttributes ys
    → after_name xs r ≡ after_name ys s → (xs ≡ ys) × (r ≡ s)
unfolding after_name
attributes_once [] [] r s ha hb e = (refl, cc)
attributes_once [] (b ∷ ys) r s ha hb e = grind arith
attributes_once (a ∷ xs) [] r s ha hb e = grind arith
attributes_once (a ∷ xs) (b ∷ ys) r s ha hb e =
    let both : 32 ∷ (a.key ++ 61 ∷ 34 ∷ (escaped a.value ++ 34 ∷ after_name xs r)) ≡ 32 ∷ (b.key ++ 61 ∷ 34 ∷ (escaped b.value ++ 34 ∷ after_name ys s)) =
    sym (after_name-cons a xs r) ∙ e ∙ after_name-cons b ys s in
    let keys = name_once a.key b.key 61 61 (34 ∷ (escaped a.value ++ 34 ∷ after_name xs r)) (34 ∷ (escaped b.value ++ 34 ∷ after_name ys s))
    ha.0.key hb.0.key refl refl (cc) in
    let values = value_once a.value b.value (after_name xs r) (after_name ys s) (tails _ _ _ _ keys.2) in
    let more = attributes_once xs ys r s ha.1 hb.1 values.1 in
    (list_of_two a b xs ys keys.0 values.0 more.0, more.1)

-- ---- tokens

-- what begins an element, and what follows it
head_form : (n : List ℕ) (xs : List Attribute) (r : List ℕ) → head_text n xs ++ r ≡ 60 ∷ (n ++ after_name xs r)
unfolding after_name
head_form n xs r = simp append_assoc

-- the byte behind a name
behind_name : (xs : List Attribute) (r : List ℕ) → (c : ℕ) × (t : List ℕ) × (after_name xs r ≡ c ∷ t) × (is_name_byte c ≡ false)
unfolding after_name
behind_name [] r = (62, r, refl, refl)
behind_name (a ∷ xs) r = (32, _, after_name-cons a xs r, refl)

same_cons : (c d : ℕ) (r s : List ℕ) → c ≡ d → r ≡ s → c ∷ r ≡ d ∷ s
same_cons c d r s h t = cc

head_once : (n m : List ℕ) (xs ys : List Attribute) (r s : List ℕ) → IsHead n xs → IsHead m ys
    → n ++ after_name xs r ≡ m ++ after_name ys s → (n ≡ m) × (xs ≡ ys) × (r ≡ s)
head_once n m xs ys r s hn hm e =
    let f = behind_name xs r in
    let g = behind_name ys s in
    let both : n ++ f.0 ∷ f.1 ≡ m ++ g.0 ∷ g.1 = ap (λ t. n ++ t) (sym f.2) ∙ e ∙ ap (λ t. m ++ t) g.2 in
    let names = name_once n m f.0 g.0 f.1 g.1 hn.named hm.named f.3 g.3 both in
    let c = names.1 in
    let t = names.2 in
    let after : after_name xs r ≡ after_name ys s = f.2 ∙ same_cons _ _ _ _ c t ∙ sym g.2 in
    let rest = attributes_once xs ys r s hn.valid hm.valid after in
    (names.0, rest.0, rest.1)

-- an element that begins and one that ends differ in the byte behind the first
begins_or_ends : (n : List ℕ) (xs : List Attribute) (r t : List ℕ) → is_name n ≡ true → 60 ∷ (n ++ after_name xs r) ≡ 60 ∷ 47 ∷ t → ⊥
begins_or_ends n xs r t named e = grind arith

not_nil : (xs ys : List ℕ) (c : ℕ) → [] ≡ xs ++ c ∷ ys → ⊥
not_nil [] ys c e = cc
not_nil (x ∷ xs) ys c e = cc

-- an element that begins and a whole one differ in what follows the attributes
begins_or_whole : (n m : List ℕ) (xs ys : List Attribute) (y : List ℕ) → IsHead n xs → IsHead m ys
    → head_text n xs ≡ head_text m ys ++ escaped y ++ end_text m → ⊥
begins_or_whole n m xs ys y hn hm e =
    let both : 60 ∷ (n ++ after_name xs []) ≡ 60 ∷ (m ++ after_name ys (escaped y ++ end_text m)) =
    sym (head_form n xs []) ∙ append-nil (head_text n xs) ∙ e ∙ append_assoc (head_text m ys) (escaped y) (end_text m) ∙ head_form m ys (escaped y ++ end_text m) in
    let rest = head_once n m xs ys [] (escaped y ++ end_text m) hn hm (tails _ _ _ _ both) in
    not_nil (escaped y) (47 ∷ (m ++ 62 ∷ [])) 60 rest.2

open_once : (n m : List ℕ) (xs ys : List Attribute) → IsHead n xs → IsHead m ys → head_text n xs ≡ head_text m ys → Open n xs ≡ Open m ys
open_once n m xs ys hn hm e =
    let both : 60 ∷ (n ++ after_name xs []) ≡ 60 ∷ (m ++ after_name ys []) =
    sym (head_form n xs []) ∙ ap (λ t. t ++ []) e ∙ head_form m ys [] in
    let rest = head_once n m xs ys [] [] hn hm (tails _ _ _ _ both) in
    let name = rest.0 in
    let attributes = rest.1 in
    cc

text_once : (x y r s : List ℕ) → escaped x ++ 60 ∷ r ≡ escaped y ++ 60 ∷ s → x ≡ y
unfolding is_less
text_once x y r s e =
    let cut = ends_once is_less (escaped x) (escaped y) 60 60 r s
    (escaped_lacks nothing is_less less_named x (lacks_nothing x)) (escaped_lacks nothing is_less less_named y (lacks_nothing y)) refl refl e in
    escaped_once x y cut.0

leaf_once : (n m : List ℕ) (xs ys : List Attribute) (x y : List ℕ) → IsHead n xs → IsHead m ys
    → head_text n xs ++ escaped x ++ end_text n ≡ head_text m ys ++ escaped y ++ end_text m → Leaf n xs x ≡ Leaf m ys y
leaf_once n m xs ys x y hn hm e = grind (arith, after_name, append_assoc, head_form, head_once, tails, text_once)

close_once : (n m : List ℕ) → is_name n ≡ true → is_name m ≡ true → end_text n ≡ end_text m → Close n ≡ Close m
close_once n m hn hm e = grind (arith, nat_tests, common_steps, name_once)

head_or_end : (n m : List ℕ) (xs : List Attribute) (r : List ℕ) → IsHead n xs → head_text n xs ++ r ≡ end_text m → ⊥
head_or_end n m xs r hn e = begins_or_ends n xs r (m ++ 62 ∷ []) hn.named (sym (head_form n xs r) ∙ e)

whole_or_end : (n m : List ℕ) (xs : List Attribute) (x : List ℕ) → IsHead n xs → head_text n xs ++ escaped x ++ end_text n ≡ end_text m → ⊥
whole_or_end n m xs x hn e = head_or_end n m xs (escaped x ++ end_text n) hn (sym (append_assoc (head_text n xs) (escaped x) (end_text n)) ∙ e)

-- a token by its kind: an element that begins, a whole one, and one that ends
same_line : (t u : Token) → IsToken t → IsToken u → token_line t ≡ token_line u → t ≡ u
same_line t u ht hu e =
    grind (arith, open_once, begins_or_whole, head_or_end, append-nil, leaf_once, whole_or_end, close_once)

-- ---- lines

-- a text in two parts lacks a byte if both lack it
lacks-append : (q : ℕ → Bool) (xs ys : List ℕ) → list_any q xs ≡ false → list_any q ys ≡ false → list_any q (xs ++ ys) ≡ false
lacks-append q xs ys hx hy = list_any-append q xs ys ∙ rw (hx, hy) refl

escaped_one_line : (text : List ℕ) → HasNoLineFeed text → HasNoLineFeed (escaped text)
escaped_one_line text h = escaped_lacks is_line_feed is_line_feed line_feed_named text h

name_one_line : (n : List ℕ) → is_name n ≡ true → HasNoLineFeed n
name_one_line n h = name_lacks is_line_feed no_line_feed n h

attribute_one_line : (a : Attribute) → IsAttribute a → HasNoLineFeed (attribute_text a)
attribute_one_line a h = grind (arith, lacks-append, name_one_line, escaped_one_line)

attributes_one_line : (xs : List Attribute) → AreAttributes xs → HasNoLineFeed (attributes_text xs)
attributes_one_line [] h = refl
attributes_one_line (a ∷ xs) h = grind (arith, lacks-append, attribute_one_line, attributes_one_line xs h.1)

head_one_line : (n : List ℕ) (xs : List Attribute) → IsHead n xs → HasNoLineFeed (head_text n xs)
head_one_line n xs h = grind (arith, lacks-append, name_one_line, attributes_one_line)

end_one_line : (n : List ℕ) → is_name n ≡ true → HasNoLineFeed (end_text n)
end_one_line n h = lacks-append is_line_feed (codes "</" ++ n) (codes ">") (name_one_line n h) refl

token_one_line : (t : Token) → IsToken t → HasNoLineFeed (token_line t)
token_one_line t h = grind (arith, head_one_line, lacks-append, escaped_one_line, end_one_line)

pub tokens_once : (ts us : List Token) → AreTokens ts → AreTokens us → text_of_tokens ts ≡ text_of_tokens us → ts ≡ us
tokens_once [] [] ht hu e = refl
tokens_once [] (u ∷ us) ht hu e = absurd (not_nil (token_line u) (text_of_tokens us) 10 e)
tokens_once (t ∷ ts) [] ht hu e = absurd (not_nil (token_line t) (text_of_tokens ts) 10 (sym e))
tokens_once (t ∷ ts) (u ∷ us) ht hu e =
    let cut = ends_once is_line_feed (token_line t) (token_line u) 10 10 (text_of_tokens ts) (text_of_tokens us)
    (token_one_line t ht.0) (token_one_line u hu.0) refl refl e in
    let first = same_line t u ht.0 hu.0 cut.0 in
    let rest = tokens_once ts us ht.1 hu.1 cut.2 in
    cc
