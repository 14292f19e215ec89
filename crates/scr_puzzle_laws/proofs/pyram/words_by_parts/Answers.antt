use Rattle.scr_tetra.proofs.PyramWords.{by_parts, with_tips}
use Rattle.scr_tetra.proofs.PyramTips.{tips_word-played, length-tips_word}
use Rattle.scr_puzzle_laws.proofs.pyram.words_by_parts.Goals as goal

pub returns : goal.returns
returns c = record {
  body = λ s end w own e. (by_parts s end w own e).body;
  tips = λ s end w own e. (by_parts s end w own e).tips;
  count = λ s end w own e. (by_parts s end w own e).count;
  with_tips = with_tips;
  tips_word = tips_word-played;
  tips_turned = length-tips_word;
}
