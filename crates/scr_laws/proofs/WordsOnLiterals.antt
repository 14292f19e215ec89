-- What to unfold to compute words of a stream.
use Rattle.std.specs.Prelude.{⊤}
use Rattle.rand_chacha.specs.Block.{quarter_round, column_round, diagonal_round, double_rounds}
use Rattle.scr_words.specs.Stream.{key_word, input_state, block_word, stream_word}

unfoldable pub stream_on_literals : ⊤
unfolding key_word input_state block_word stream_word quarter_round column_round diagonal_round double_rounds
stream_on_literals = tt
