-- Bytes moved one piece after another.
use Rattle.std.proofs.Common.{ap₂, take_at, drop-drop, ◌≡◌, ℕ, ◌+◌, Option, Some, None, List, [], ◌++◌, take, drop, length, refl, ap, sym, ◌∙◌, append_assoc, append-nil, take-append-drop}
use Rattle.scr_outside.specs.Bytes.{appended, put_back, IsFirstPart}

pub appended-nil : (held : Option (List ℕ)) → appended held [] ≡ held
appended-nil None = refl
appended-nil (Some bytes) = ap Some (append-nil bytes)

pub appended-append : (held : Option (List ℕ)) (x y : List ℕ) → appended (appended held x) y ≡ appended held (x ++ y)
appended-append None x y = refl
appended-append (Some bytes) x y = ap Some (append_assoc bytes x y)

pub put_back-nil : (left : Option (List ℕ)) → put_back [] left ≡ left
put_back-nil None = refl
put_back-nil (Some bytes) = refl

pub put_back-append : (left : Option (List ℕ)) (x y : List ℕ) → put_back x (put_back y left) ≡ put_back (x ++ y) left
put_back-append None x y = refl
put_back-append (Some bytes) x y = ap Some (sym (append_assoc x y bytes))

-- the first i bytes of a piece are a first part
pub IsFirstPart-take : (i : ℕ) (piece : List ℕ) → IsFirstPart (take i piece) piece
IsFirstPart-take i piece = record { rest = drop i piece; parts = sym (take-append-drop i piece) }

-- the next n bytes of a list, copied to the front of a buffer, and then what follows them
pub copied-put_back : (bytes copied rest : List ℕ) (place n : ℕ) →
    copied ≡ take n (drop place bytes) → length copied ≡ n →
    drop place bytes ≡ take n (copied ++ rest) ++ drop (place + n) bytes
copied-put_back bytes copied rest place n is_next has_length =
    let front : take n (copied ++ rest) ≡ copied = take_at copied rest n has_length in
    sym (take-append-drop n (drop place bytes)) ∙ ap₂ ◌++◌ (sym (front ∙ is_next)) (drop-drop n place bytes)
