use Rattle.std.proofs.Common.{◌≡◌, List, Bool, map, length, refl, sym, ap, subst, ◌∙◌}
use Rattle.scheme_expand.specs.declared.answer.Texts.{Texts}
use Rattle.scheme_expand.specs.declared.source.Source.{Source}
use Rattle.scheme_expand.specs.ByWord.{HaveOneWord, Marks}
use Rattle.scheme_expand.specs.Programs.{placed, public_names}
use Rattle.scheme_expand.specs.Waiting.{ReadAll}
use Rattle.scheme_expand.proofs.Spelled.{all_spelled}
use Rattle.scheme_expand.proofs.WholeCore.{core_joined}
use Rattle.draft_form.specs.Drawn.{word_name, Names}
use Rattle.scheme_expand.proofs.answer.core_of.Goals as goal

pub returns-in-Ok-clause-core : goal.returns-in-Ok-clause-core
returns-in-Ok-clause-core c = λ lib ds is n h k.
    let library = c.args.library in
    let program = c.args.program in
    let texts : Texts = record { words = c.args.words; library = library; program = program } in
    let keys : Names = c.args.words.now.names.keys in
    let ns = c.in_ok-defined.defined.items in
    let P : Source → Type 0 = λ s. ReadAll s c.args.definitions.now (placed 1 lib) in
    let Q : Source → Type 0 = λ s. ReadAll s c.args.tops.now ds in
    let R : List Bool → Type 0 = λ flags. HaveOneWord keys (map (word_name keys) ns)
    → Marks keys (public_names (map (word_name keys) ns)) flags in
    let of_program = rw c.in-Ok.is at c.in_ok-program.ensures.core in
    core_joined lib ds texts ns c.deref-2.result.now c.in_ok-library-in-Ok.library c.in-Ok.program c.in_ok-core-in-Ok.core is n
    (c.in_ok-defined.ensures.names keys (placed 1 lib) (all_spelled keys library.words.now library.nodes.now n.definitions) h)
    (subst R (sym c.deref-2.ensures.value) (rw c.deref.ensures.value at c.in_ok-public.ensures.marks))
    (ap length c.deref-2.ensures.value ∙ c.in_ok-public.ensures.size)
    (λ κ s side unbroken. c.in_ok-library-in-Ok.ensures κ (placed 1 lib) s side (subst P s.source h) unbroken)
    (λ κ l s side marks size listed. of_program κ l ds s side marks size listed (subst Q s.source k))
    (rw c.deref-in-Ok.ensures.value at c.in_ok-core-in-Ok.ensures.made)
