use Rattle.rv_emulator.proofs.memory.+store_apart.Given as goal

abbrev pub decreases-store_apart : goal.decreases-store_apart
decreases-store_apart l = l.count
