-- A letter that is no control has no byte that is one.
use Rattle.std.proofs.Common.{ℕ, ◌<◌, [], length, get_or, sym, subst, arith, encode_utf8, append-nil, inl, inr}
use Rattle.std.proofs.lemmas.Bool.{cases_lt}
use Rattle.std.proofs.lemmas.Str.{inside_one}
use Rattle.std.proofs.lemmas.List.{get_or_default}
use Rattle.scr_layout.specs.Shown.{IsNoControl, HasNoControl}

byte_of_letter : (c k : ℕ) → IsNoControl c → k < length (encode_utf8 c) → IsNoControl (get_or (encode_utf8 c) k 0)
byte_of_letter c k plain below = elim (cases_lt (get_or (encode_utf8 c) k 0) 128) [
  | inl low ↦ subst IsNoControl (inside_one c [] (encode_utf8 c) k (sym (append-nil _)) below low) plain
  | inr high ↦ (omega arith, omega arith)
]

pub bytes_of_letter : (c : ℕ) → IsNoControl c → HasNoControl (encode_utf8 c)
bytes_of_letter c plain = λ k d below. subst IsNoControl (get_or_default (encode_utf8 c) k 0 d below) (byte_of_letter c k plain below)
