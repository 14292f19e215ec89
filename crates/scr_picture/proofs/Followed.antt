-- The picture of a played puzzle of pieces is the played picture.
use Rattle.std.proofs.Common.{◌≡◌, ℕ, zero, suc, Bool, true, false, List, [], ◌∷◌, Option, Some, length, map, refl, sym, ap, ◌∙◌, subst, inl, inr, eqb-true}
use Rattle.std.specs.Prelude.{◌==◌, ◌&&◌, nat_lt, All, slice_get, slice_index, option_and_then}
use Rattle.std.specs.List.{list_all, range_with_len}
use Rattle.std.specs.Option.{option_map}
use Rattle.std.proofs.lemmas.Bool.{and_parts, false≢true}
use Rattle.std.proofs.lemmas.Option.{same_Some}
use Rattle.scr_combinatorics.specs.Lists.{pick}
use Rattle.scr_combinatorics.specs.Play.{play}
use Rattle.scr_combinatorics.specs.PowerLetters.{Power}
use Rattle.scr_combinatorics.proofs.PlayLaws.{and_then-some, play-empty, play-first, play-parts, map-some}
use Rattle.scr_orbit.specs.Monoids.{Monoid, IsMonoid, after_by, power, power_of, power_table}
use Rattle.scr_orbit.proofs.MonoidLaws.{IsValid-power}
use Rattle.scr_orbit.proofs.PowerLaws.{All-got}
use Rattle.scr_notation.specs.declared.turn.Turn.{Turn}
use Rattle.scr_notation.specs.AxisLetters.{thirds_of}
use Rattle.scr_notation.proofs.AxisLaws.{IsThirdsOf-read}
use Rattle.scr_picture.specs.Stickers.{move_of, moved_times, stickers_after}
use Rattle.scr_picture.proofs.OrbitStickers.{picked}

-- a turn about an axis is the move that it is a power of
move_of-read : (t : Turn) (p : Power) → thirds_of t ≡ Some p → move_of t ≡ Some p
move_of-read t p e =
    elim (IsThirdsOf-read t p e).is [
      | inl a ↦ ap move_of a.1
      | inr b ↦ ap move_of b.3 ∙ ap (λ g. Some (record { generator = g; exponent = p.exponent })) (sym b.2)
    ]

-- ---- tables of moves, tested sticker by sticker

module _ {S : Type 0} (count : ℕ) (comes : S → ℕ → ℕ → Bool) where
  -- a move brings to each of so many stickers what a turn does
  abbrev pub is_moved : S → List ℕ → Bool
  is_moved q from =
      (length from == count) && list_all (λ i. nat_lt (slice_index from i) count && comes q i (slice_index from i)) (range_with_len 0 count)

  abbrev pub are_moved : List S → List (List ℕ) → Bool
  are_moved [] moves = true
  are_moved (q ∷ qs) [] = false
  are_moved (q ∷ qs) (from ∷ moves) = is_moved q from && are_moved qs moves

  moved-at : (qs : List S) (moves : List (List ℕ)) → are_moved qs moves ≡ true → (k : ℕ) (q : S) → slice_get qs k ≡ Some q
      → (from : List ℕ) × (slice_get moves k ≡ Some from) × (is_moved q from ≡ true)
  moved-at [] moves h k q e = absurd (cc)
  moved-at (p ∷ qs) [] h k q e = absurd (false≢true h)
  moved-at (p ∷ qs) (from ∷ moves) h zero q e =
      (from, refl, ap (λ x. is_moved x from) (sym (same_Some p q e)) ∙ (and_parts (is_moved p from) (are_moved qs moves) h).0)
  moved-at (p ∷ qs) (from ∷ moves) h (suc k) q e = moved-at qs moves (and_parts (is_moved p from) (are_moved qs moves) h).1 k q e

-- ---- played pictures

module _ {S : Type 0} (m : Monoid S) (IsValid : S → Type 0) (l : IsMonoid m IsValid) (generators : List S) (turns : All IsValid generators)
    (moves : List (List ℕ)) (solved : List ℕ) (count : ℕ) (sticker : S → ℕ → ℕ) (comes : S → ℕ → ℕ → Bool)
    (brought : (s q : S) (i from : ℕ) → IsValid s → IsValid q → comes q i from ≡ true → sticker s from ≡ sticker (m.turned s q) i)
    (moved : are_moved count comes generators moves ≡ true) where
  abbrev shown : S → List ℕ
  shown s = map (λ i. slice_index solved (sticker s i)) (range_with_len 0 count)

  shown-once : (from : List ℕ) (q : S) → IsValid q → is_moved count comes q from ≡ true → (s : S) → IsValid s
      → pick (shown s) from ≡ shown (m.turned s q)
  shown-once from q turn h s own =
      let both = and_parts (length from == count) (list_all (λ i. nat_lt (slice_index from i) count && comes q i (slice_index from i)) (range_with_len 0 count)) h in
      picked count (λ i. slice_index solved (sticker s i)) (λ i. slice_index solved (sticker (m.turned s q) i)) from (λ i. comes q i (slice_index from i))
      (eqb-true (length from) count both.0) both.1 (λ i lt k. ap (slice_index solved) (brought s q i (slice_index from i) own turn k))

  shown-power : (from : List ℕ) (q : S) → IsValid q → is_moved count comes q from ≡ true → (amount : ℕ) (s : S) → IsValid s
      → moved_times amount from (shown s) ≡ shown (m.turned s (power m q amount))
  unfolding moved_times power
  shown-power from q turn h zero s own = sym (ap shown (l.solved_last s own))
  shown-power from q turn h (suc n) s own =
      ap (moved_times n from) (shown-once from q turn h s own)
      ∙ shown-power from q turn h n (m.turned s q) (l.kept s q own turn)
      ∙ ap shown (l.grouped s q (power m q n) own turn (IsValid-power m IsValid l q n turn))

  abbrev after : S → Turn → Option S
  after = after_by m (power_table m generators thirds_of)

  record IsFollowed (s r : S) (t : Turn) : Type 0 where
    pub valid : IsValid r
    pub shows : stickers_after moves (shown s) t ≡ Some (shown r)

  IsFollowed-after : (s r : S) (t : Turn) → IsValid s → after s t ≡ Some r → IsFollowed s r t
  unfolding power_of
  IsFollowed-after s r t own e =
      let read = map-some (m.turned s) (power_table m generators thirds_of t) r e in
      let letter = and_then-some (power_of m generators) (thirds_of t) read.0 read.1 in
      let found = map-some (λ q. power m q letter.0.exponent) (slice_get generators letter.0.generator) read.0 letter.2 in
      let made : m.turned s (power m found.0 letter.0.exponent) ≡ r = ap (m.turned s) found.2 ∙ read.2 in
      let turn = All-got IsValid generators letter.0.generator found.0 turns found.1 in
      let move = moved-at count comes generators moves moved letter.0.generator found.0 found.1 in
      record {
        valid = subst IsValid made (l.kept s (power m found.0 letter.0.exponent) own (IsValid-power m IsValid l found.0 letter.0.exponent turn));
        shows = ap (option_and_then (λ p. option_map (λ from. moved_times p.exponent from (shown s)) (slice_get moves p.generator))) (move_of-read t letter.0 letter.1)
            ∙ ap (option_map (λ from. moved_times letter.0.exponent from (shown s))) move.1
            ∙ ap Some (shown-power move.0 found.0 turn move.2 letter.0.exponent s own ∙ ap shown made);
      }

  pub shown-played : (w : List Turn) (s e : S) → IsValid s → play after s w ≡ Some e
      → play (stickers_after moves) (shown s) w ≡ Some (shown e)
  shown-played [] s e own h =
      play-empty (stickers_after moves) (shown s) ∙ ap (λ x. Some (shown x)) (same_Some s e (sym (play-empty after s) ∙ h))
  shown-played (t ∷ w) s e own h =
      let parts = play-parts after s e t w h in
      let step = IsFollowed-after s parts.0 t own parts.1 in
      play-first (stickers_after moves) (shown s) (shown parts.0) t w step.shows ∙ shown-played w parts.0 e step.valid parts.2
