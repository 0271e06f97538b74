use Rattle.smc_num.proofs.fraction.powers.+power.Given as goal

abbrev pub decreases-power : goal.decreases-power
decreases-power l = l.k
