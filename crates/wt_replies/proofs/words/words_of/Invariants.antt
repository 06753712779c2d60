use Rattle.std.proofs.Common.{◌≡◌, take}
use Rattle.wt_replies.specs.Words.{words_of}
use Rattle.wt_replies.proofs.words.words_of.Given as goal

abbrev pub invariant-loop-word : goal.invariant-loop-word
invariant-loop-word l = l.texts ≡ words_of (take l.word-index l.words)
