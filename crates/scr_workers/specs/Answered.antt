-- What workers leave in the list of results.
use Rattle.std.specs.Prelude.{ℕ, ◌≡◌, ◌<◌, List, Option, None, IsSomeAnd, length, slice_index_or}

-- Place k of a list has an answer of slot k. IsAnswer says what the answers of a slot are.
abbrev pub HasAnswer : {T : Type 0} → (ℕ → T → Type 0) → List (Option T) → ℕ → Type 0
HasAnswer IsAnswer out k = IsSomeAnd (slice_index_or out k None) (IsAnswer k)

-- each place of a list has an answer of the slot with its number
abbrev pub AreAnswered : {T : Type 0} → (ℕ → T → Type 0) → List (Option T) → Type 0
AreAnswered IsAnswer out = (k : ℕ) → k < length out → HasAnswer IsAnswer out k

-- each of so many slots has at most one answer
abbrev pub HaveOneAnswer : {T : Type 0} → ℕ → (ℕ → T → Type 0) → Type 0
HaveOneAnswer {T} slots IsAnswer =
    (slot : ℕ) (one other : T) → slot < slots → IsAnswer slot one → IsAnswer slot other → one ≡ other
