-- The words of a stream: the blocks of ChaCha20 (RFC 8439, 2.3), one after another.
-- A word is a number below 2 ^ 32. The rounds are those that `rand_chacha` specifies.
use Rattle.std.specs.Prelude.{ℕ, ◌+◌, ◌*◌, ◌/◌, ◌%◌, ◌^◌, List, [], ◌∷◌, ◌++◌, map, slice_index}
use Rattle.std.specs.List.{range_with_len}
use Rattle.rand_chacha.specs.Block.{add32, double_rounds}

-- word k of the key: four bytes of the seed, least byte first
unfoldable pub key_word : List ℕ → ℕ → ℕ
key_word seed k =
    slice_index seed (4 * k) + slice_index seed (4 * k + 1) * 2 ^ 8
    + slice_index seed (4 * k + 2) * 2 ^ 16 + slice_index seed (4 * k + 3) * 2 ^ 24

-- The sixteen words that a block begins with: the four constants, the eight words of the key, the number of the block
-- as 64 bits and the stream as 64 bits, each low word first. RFC 8439 has 32 bits for the block and 96 for the nonce
-- in the last four words; 64 and 64 is the choice of this project.
unfoldable pub input_state : List ℕ → ℕ → ℕ → List ℕ
input_state seed stream block =
    0x61707865 ∷ 0x3320646e ∷ 0x79622d32 ∷ 0x6b206574 ∷ map (key_word seed) (range_with_len 0 8)
    ++ block % 2 ^ 32 ∷ block / 2 ^ 32 ∷ stream % 2 ^ 32 ∷ stream / 2 ^ 32 ∷ []

-- word k of a block: twenty rounds, which are ten double rounds, and then the words that the block began with are
-- added, word by word
unfoldable pub block_word : List ℕ → ℕ → ℕ → ℕ → ℕ
block_word seed stream block k =
    let begun = input_state seed stream block in
    add32 (slice_index (double_rounds 10 begun) k) (slice_index begun k)

-- the word at a place of a stream of the seed, with sixteen words to a block
unfoldable pub stream_word : List ℕ → ℕ → ℕ → ℕ
stream_word seed stream place = block_word seed stream (place / 16) (place % 16)
