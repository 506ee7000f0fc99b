use Rattle.scheme_expand.proofs.Flags.{MarksSome}
use Rattle.scheme_expand.proofs.defined.public_names.Given as goal

-- the public ones of the names before this one are marked
abbrev pub invariant-loop-name : goal.invariant-loop-name
invariant-loop-name l = MarksSome l.words.names.keys l.names l.name-index l.public.items
