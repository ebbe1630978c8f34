use Rattle.bhs_cli_words.proofs.words.+arguments_within.Given as goal

abbrev pub decreases-arguments_within : goal.decreases-arguments_within
decreases-arguments_within l = l.most
