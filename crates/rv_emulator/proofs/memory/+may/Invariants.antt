use Rattle.rv_emulator.proofs.memory.+may.Given as goal

abbrev pub decreases-may : goal.decreases-may
decreases-may l = l.count
