use Rattle.wt_annotated.proofs.GroupWords.{called_word, empty_word}
use Rattle.wt_annotated.proofs.laws.group_words.Goals as goal

pub returns : goal.returns
returns c = record { called = called_word; empty = empty_word }
