-- Words of turns over any states and letters. No puzzle stands here.
use Rattle.std.specs.Prelude.{ℕ, ◌+◌, List, [], ◌∷◌, Option, Some, option_and_then}

-- What applying the turns of a word in order makes of a state, where `after` is what one turn makes of it. A turn may
-- be barred, and then it makes nothing: a word is defined where each of its turns is, in its place.
unfoldable pub play : {S T : Type 0} → (S → T → Option S) → S → List T → Option S
play after s [] = Some s
play after s (t ∷ w) = option_and_then (λ r. play after r w) (after s t)

-- How many counted turns a word has, where `counted` is what each turn counts for.
unfoldable pub count_in : {T : Type 0} → (T → ℕ) → List T → ℕ
count_in counted [] = 0
count_in counted (t ∷ w) = counted t + count_in counted w
