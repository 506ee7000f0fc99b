use Rattle.rv_emulator.proofs.memory.+load_apart.Given as goal

abbrev pub decreases-load_apart : goal.decreases-load_apart
decreases-load_apart l = l.count
