-- One read after another.
use Rattle.std.proofs.Common.{◌≡◌, ℕ, ◌+◌, ◌-◌, ◌<◌, ◌≤◌, Option, Some, None, List, ◌++◌, take, drop, length, Result, Ok, Err, refl, ap, sym, ◌∙◌, arith, lit≤, append_assoc, length-append, length-drop, length-take-le, subst}
use Rattle.std.specs.Prelude.{IfOk, IfErr}
use Rattle.std.proofs.lemmas.Bool.{cases_lt}
use Rattle.std.proofs.lemmas.List.{take-append-le, take_all}
use Rattle.std.proofs.Math.Seq.{take-append-add}
use Rattle.std.proofs.lemmas.Option.{same_Some}
use borrow.Rule.Slice.PartMut.{put_mid}
use Rattle.arrayvec.specs.ArrayVec.{ArrayVec}
use Rattle.scr_outside.specs.Bytes.{put_back}
use Rattle.scr_outside.specs.Change.{Change, Gives, TellsEnd}
use Rattle.scr_outside.proofs.ChangeLemmas.{read_from_to}
use Rattle.scr_list.specs.declared.round.Round.{Round}
use Rattle.scr_list.specs.declared.version.Version.{Version}
use Rattle.scr_list.specs.declared.fault.ListFault.{ListFault}
use Rattle.scr_list.specs.declared.fault.ListFault.TheVariants.{TooLong, Line, Read}
use Rattle.scr_list.specs.Versions.{version_of}
use Rattle.scr_list.specs.Rounds.{rounds_of}
use Rattle.scr_list.specs.Reading.{listed, most_read, ReadsList, ReadsTooMany, ReadsInPart, ReadsNoList}
use Rattle.scr_list.proofs.RoundLemmas.{TellsLength, rounds_of-TellsLength, rounds_of-long}
use Rattle.scr_list.proofs.VersionLemmas.{of_version, version_of-append}

-- the first bytes of a list after another
take_past : (k n : ℕ) (xs ys zs : List ℕ) → length xs ≡ k → n ≤ length ys
    → take (k + n) (xs ++ (ys ++ zs)) ≡ xs ++ take n ys
take_past k n xs ys zs long few = grind (arith, take-append-add, take-append-le)

-- a buffer whose first bytes were read, and then the next n into what follows them
pub take-put_mid : (buffer next : List ℕ) (filled size n : ℕ) → filled ≤ length buffer → n ≤ length next →
    take (filled + n) (put_mid filled size buffer next) ≡ take filled buffer ++ take n next
take-put_mid buffer next filled size n inside few = grind (arith, take_past, length-take-le)

-- ---- where reading ends

-- the reading of a list ends in the first version's room or in the second's
pub most_read-range : (bytes : List ℕ) → (4097 ≤ most_read bytes) × (most_read bytes ≤ 16385)
most_read-range bytes =
    of_version (λ v. (4097 ≤ v.most_bytes + 1) × (v.most_bytes + 1 ≤ 16385)) bytes (lit≤ tt, lit≤ tt) (lit≤ tt, lit≤ tt)

-- behind as many bytes as the first version has room for, no byte changes where it ends
pub most_read-append : (xs ys : List ℕ) → length xs ≡ 4097 → most_read (xs ++ ys) ≡ most_read xs
most_read-append xs ys size = ap (λ (v : Version). v.most_bytes + 1) (version_of-append xs ys (omega arith))

-- as few bytes as these tell no end
pub few-most : (n : ℕ) (bytes : List ℕ) → n < 4097 → n ≤ most_read bytes
few-most n bytes few = let range = most_read-range bytes in omega (arith, range.0)

pub few-not_most : (n : ℕ) (bytes : List ℕ) → n < 4097 → n ≡ most_read bytes → ⊥
few-not_most n bytes few is = let range = most_read-range bytes in absurd (omega (arith, range.0))

-- ---- a part of a list

put_back-twice : (xs ys : List ℕ) (o : Option (List ℕ)) → put_back xs (put_back ys o) ≡ put_back (xs ++ ys) o
put_back-twice xs ys None = refl
put_back-twice xs ys (Some left) = ap Some (sym (append_assoc xs ys left))

pub in_part-few : {change : Change} (size : ℕ) → size ≤ 4097 → ReadsInPart change (λ _. size)
    → ReadsInPart change most_read
in_part-few size small part = grind (arith, most_read-range)

-- a part behind as many bytes as the first version has room for
pub in_part-after : {left left' left'' : Option (List ℕ)} {faults faults' faults'' ends ends' ends'' : ℕ} (xs : List ℕ) (size : ℕ) →
    length xs ≡ 4097 → 4097 + size ≤ most_read xs → Gives (read_from_to left faults ends left' faults' ends') xs → ends' ≡ ends →
    ReadsInPart (read_from_to left' faults' ends' left'' faults'' ends'') (λ _. size) → ReadsInPart (read_from_to left faults ends left'' faults'' ends'') most_read
in_part-after {left'' = left''} {faults'' = faults''} xs size long room first no_end part =
    grind (arith, length-append, most_read-append, put_back-twice)

-- What was read into a buffer behind as many bytes as the first version has room for: they are followed by what was
-- read, and reading ends where they say.
pub record IsReadOn (buffer front next : List ℕ) (room more : ℕ) : Type 0 where
  pub whole : take (4097 + more) (put_mid 4097 (room - 4097) (front ++ drop 4097 buffer) next) ≡ front ++ take more next
  pub most : most_read (take (4097 + more) (put_mid 4097 (room - 4097) (front ++ drop 4097 buffer) next)) ≡ room
  pub size : length (take (room - 4097) (drop 4097 (front ++ drop 4097 buffer))) ≡ room - 4097
  pub room_is : room ≡ most_read front

pub read-on : (buffer front next : List ℕ) (room more : ℕ) → length buffer ≡ 16385 → length front ≡ 4097 →
    room ≡ most_read (take 4097 (front ++ drop 4097 buffer)) → room ≤ 16385 →
    length next ≡ length (take (room - 4097) (drop 4097 (front ++ drop 4097 buffer))) → more ≤ length next → IsReadOn buffer front next room more
read-on buffer front next room more all first room_is most as_long few =
    let rest = drop 4097 buffer in
    let sizes = length-append front rest in
    let behind = length-drop 4097 buffer in
    let front_is : take 4097 (front ++ rest) ≡ front = take-append-le 4097 front rest (omega (arith, first)) ∙ take_all 4097 front (omega (arith, first)) in
    let whole : take (4097 + more) (put_mid 4097 (room - 4097) (front ++ rest) next) ≡ front ++ take more next =
    take-put_mid (front ++ rest) next 4097 (room - 4097) more (omega (arith, sizes, first)) few ∙ ap (λ l. l ++ take more next) front_is
    in
    let told : room ≡ most_read front = room_is ∙ ap most_read front_is in
    record {
      whole = whole;
      most = ap most_read whole ∙ most_read-append front (take more next) first ∙ sym told;
      size = length-take-le (room - 4097) (drop 4097 (front ++ rest)) (omega (arith, length-drop 4097 (front ++ rest), sizes, behind, all, first, most));
      room_is = told;
    }

-- ---- what a source had

-- bytes that a source gave are the first of those that it had
had : (list bytes : List ℕ) (o : Option (List ℕ)) → Some list ≡ put_back bytes o
    → (left : List ℕ) × (o ≡ Some left) × (list ≡ bytes ++ left)
had list bytes None is = let none : ⊥ = cc in absurd none
had list bytes (Some left) is = (left, refl, let whole : list ≡ bytes ++ left = cc in whole)

same_version : (list bytes left : List ℕ) → list ≡ bytes ++ left → 11 ≤ length bytes
    → version_of list ≡ version_of bytes
same_version list bytes left whole long = ap version_of whole ∙ version_of-append bytes left long

-- a list of which too many bytes were read is too long
pub too_many-refused : (change : Change) (limit : ℕ) (list : List ℕ) → ReadsTooMany change limit → change.bytes_before ≡ Some list →
    rounds_of list ≡ Err (TooLong limit)
too_many-refused change limit list refused input =
    grind (arith, had, most_read-range, same_version, length-append, rounds_of-long)

-- as many were read as its version says
pub too_many-read : (change : Change) (limit : ℕ) (before after : List ℕ) (version : Version) → ReadsTooMany change limit →
    change.bytes_before ≡ Some before → change.bytes_after ≡ Some after → version_of before ≡ version →
    (limit ≡ version.most_bytes) × (length before ≡ length after + (version.most_bytes + 1))
too_many-read change limit before after version refused input left is =
    grind (arith, had, same_Some, most_read-range, same_version, length-append)

-- no more were read than its version says
pub in_part-read : (change : Change) (before after : List ℕ) (version : Version) → ReadsInPart change most_read →
    change.bytes_before ≡ Some before → change.bytes_after ≡ Some after → version_of before ≡ version →
    length before ≤ length after + (version.most_bytes + 1)
in_part-read change before after version part input left is =
    grind (arith, had, same_Some, length-append, most_read-range, cases_lt, same_version)

-- ---- the answer

answer-by : (change : Change) (bytes : List ℕ) (r : Result (ArrayVec Round) ListFault) →
    length bytes ≤ most_read bytes → Gives change bytes → (length bytes < most_read bytes → TellsEnd change) → (length bytes ≡ most_read bytes → change.ends_after ≡ change.ends_before) →
    listed r ≡ rounds_of bytes → TellsLength (version_of bytes).most_bytes bytes (listed r) →
    IfOk r (λ rounds. ReadsList change (Ok rounds.items)) × IfErr r (λ fault. ReadsNoList change fault)
answer-by change bytes (Ok rounds) within taken end no_end answer tells = grind arith
answer-by change bytes (Err (TooLong limit)) within taken end no_end answer tells = grind arith
answer-by change bytes (Err (Line number cause)) within taken end no_end answer tells = grind arith
answer-by change bytes (Err Read) within taken end no_end answer tells = absurd tells

pub read-answer : (change : Change) (bytes : List ℕ) (n : ℕ) (r : Result (ArrayVec Round) ListFault) → length bytes ≡ n →
    n ≤ most_read bytes → Gives change bytes → (n < most_read bytes → TellsEnd change) → (n ≡ most_read bytes → change.ends_after ≡ change.ends_before) →
    listed r ≡ rounds_of bytes →
    IfOk r (λ rounds. ReadsList change (Ok rounds.items)) × IfErr r (λ fault. ReadsNoList change fault)
read-answer change bytes n r size within taken end no_end answer =
    answer-by change bytes r (omega arith) taken (λ few. end (omega arith)) (λ many. no_end (size_is many)) answer
    (subst (TellsLength (version_of bytes).most_bytes bytes) (sym answer) (rounds_of-TellsLength bytes))
  where
    size_is : length bytes ≡ most_read bytes → n ≡ most_read bytes
    size_is many = sym size ∙ many
