use Rattle.std.proofs.Common.{◌∙◌}
use Rattle.scheme_expand.proofs.Due.{if_ok}
use Rattle.scheme_expand.proofs.EndFault.{second_read}
use Rattle.scheme_expand.proofs.Joined.{texts_numbered}
use Rattle.scheme_expand.proofs.LibraryFacts.{each_library}
use Rattle.scheme_expand.proofs.Parts.{read_at}
use Rattle.scheme_expand.proofs.WholeCore.{text_read}
use Rattle.scheme_expand.proofs.answer.answer.Goals as goal

pub returns-clause-fault : goal.returns-clause-fault
returns-clause-fault c =
    if_ok c.core_of.result
    (λ found w ds h.
    w ds
    (read_at c.new-3.result _ _ ds c.as_slice-2.ensures
    (second_read c.new-3.result _ _ _ _ _ _ _ _ _ ds c.in_ok-words.ensures.table c.in_ok-library_words.ensures.names c.in_ok-program_words.ensures.names
    c.new-3.ensures.nodes (c.new-3.ensures.words ∙ c.deref-2.ensures.value) c.as_slice-program_nodes.ensures h)))
    c.core_of.ensures.fault

pub returns-clause-core : goal.returns-clause-core
returns-clause-core c =
    let numbered =
    texts_numbered c.in_ok-words.words c.numbers.new.self c.numbers-2.new.self _ _ _ _ c.new-2.result c.new-3.result c.in_ok-words.ensures.table c.in_ok-words.ensures.helpers
    c.in_ok-library_words.ensures.names c.in_ok-program_words.ensures.names
    (c.in_ok-program_words.ensures.helpers ∙ c.in_ok-library_words.ensures.helpers) c.new-2.ensures.nodes
    (c.new-2.ensures.words ∙ c.deref.ensures.value) c.new-3.ensures.nodes (c.new-3.ensures.words ∙ c.deref-2.ensures.value) in
    if_ok c.core_of.result
    (λ found w.
    if_ok found
    (λ core j lib ds r h k.
    j lib ds (each_library lib r) numbered
    (read_at c.new-2.result _ _ _ c.as_slice.ensures
    (text_read c.new-2.result _ _ _ _ numbered.table numbered.definitions (c.new-2.ensures.nodes ∙ c.as_slice-library_nodes.ensures) h))
    (read_at c.new-3.result _ _ ds c.as_slice-2.ensures
    (text_read c.new-3.result _ _ _ ds numbered.table numbered.forms (c.new-3.ensures.nodes ∙ c.as_slice-program_nodes.ensures) k)))
    w)
    c.core_of.ensures.core
