use Rattle.scr_text.proofs.LineLaws.{lines_of-text_of_lines, line_words-join_with_byte}
use Rattle.scr_laws.proofs.text.lines_and_words_are_read_back.Goals as goal

pub returns-clause-lines : goal.returns-clause-lines
returns-clause-lines c = lines_of-text_of_lines

pub returns-clause-words : goal.returns-clause-words
returns-clause-words c = line_words-join_with_byte
