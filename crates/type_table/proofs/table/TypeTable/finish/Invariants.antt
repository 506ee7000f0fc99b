use Rattle.type_table.proofs.table.TypeTable.finish.Given as goal

abbrev pub ghosts-finish_as : goal.ghosts-finish_as
ghosts-finish_as a = record { block = a.block }
