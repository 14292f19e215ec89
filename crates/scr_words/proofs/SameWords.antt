-- The stream as `rand_chacha` specifies it is the stream of the seed, in our layout of the key, the number of the block
-- and the stream.
use Rattle.std.proofs.Common.{◌≡◌, ℕ, List, refl, ap}
use Rattle.rand_core.specs.Steps.{u32_at}
use Rattle.rand_chacha.specs.Block.{block_word as chacha_word}
use Rattle.rand_chacha.specs.ChaCha.{ChaCha, key_of, next_word, word_at}
use Rattle.scr_words.specs.Stream.{key_word, input_state, block_word, stream_word}

-- the words of a stream of a seed
pub same_words : (seed : List ℕ) (stream : ℕ) → word_at 10 (key_of seed) stream ≡ stream_word seed stream
unfolding chacha_word u32_at key_word input_state block_word stream_word
same_words seed stream = refl

-- the word that a step gives
pub next_is_word : (g h : ChaCha) (x : ℕ) → (x, h) ≡ next_word 10 g → x ≡ word_at 10 g.key g.stream g.word_pos
next_is_word g h x e = ap (λ p. p.0) e
