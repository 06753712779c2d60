use Rattle.wt_utf8.proofs.character.+following_len.Given as goal

abbrev pub decreases-following_len : goal.decreases-following_len
decreases-following_len l = l.more
