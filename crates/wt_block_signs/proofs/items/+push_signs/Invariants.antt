use Rattle.wt_block_signs.proofs.items.+push_signs.Given as goal

abbrev pub decreases-push_signs : goal.decreases-push_signs
decreases-push_signs l = l.number
