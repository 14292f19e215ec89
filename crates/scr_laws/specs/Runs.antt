-- Words of a stream, one after another.
use Rattle.std.specs.Prelude.{ℕ, zero, suc, ◌+◌, List, [], ◌∷◌}
use Rattle.scr_words.specs.Stream.{stream_word}

-- n words of a stream of the seed, from a place on
abbrev pub words_from : List ℕ → ℕ → ℕ → ℕ → List ℕ
words_from seed stream place zero = []
words_from seed stream place (suc n) = stream_word seed stream place ∷ words_from seed stream (place + 1) n
