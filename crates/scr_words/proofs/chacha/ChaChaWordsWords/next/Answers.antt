use Rattle.scr_words.proofs.SameWords.{next_is_word}
use Rattle.scr_words.proofs.chacha.ChaChaWordsWords.next.Goals as goal

pub returns-clause-word : goal.returns-clause-word
returns-clause-word c = rw (← c.self.view_is) (next_is_word _ _ _ c.next_word.ensures)
