use Rattle.std.proofs.Common.{ap, ◌∙◌}
use Rattle.scheme_expand.proofs.WholeMade.{whole_made}
use Rattle.scheme_expand.proofs.assemble.Whole.numbered.Goals as goal

pub returns-clause-made : goal.returns-clause-made
returns-clause-made c =
    let self = c.args.self in
    let library = c.text-library.result in
    let program = c.text-program.result in
    whole_made self.words.now.names.keys self.library.source.nodes.now self.program.source.nodes.now self.library.drafts.now
    self.program.drafts.now c.args.symbols.now library program c.args.definitions.now c.args.own_names.now self.program.forms.now
    c.new-levels.result c.add_forms.new.levels c.add_forms-2.new.levels c.new-growing.result c.add_forms.new.growing
    c.add_own_variables.new.growing c.add_forms-2.new.growing c.into_core.result
    (record {
      words = ap (λ t. t.words.now) c.text-library.ensures ∙ c.all.ensures;
      data_are = ap (λ t. t.nodes.now) c.text-library.ensures;
      drafts = ap (λ t. t.drafts.now) c.text-library.ensures;
      symbols_are = ap (λ t. t.symbols.now) c.text-library.ensures;
    })
    (record {
      words = ap (λ t. t.words.now) c.text-program.ensures ∙ c.all-2.ensures;
      data_are = ap (λ t. t.nodes.now) c.text-program.ensures;
      drafts = ap (λ t. t.drafts.now) c.text-program.ensures;
      symbols_are = ap (λ t. t.symbols.now) c.text-program.ensures;
    })
    c.new-levels.ensures.fresh c.new-levels.ensures.numbers c.new-growing.ensures.empty c.in_ok-add_forms.ensures.numbered
    c.in_ok-add_own_variables.ensures.numbered c.in_ok-add_forms-2.ensures.numbered c.into_core.ensures.exprs c.into_core.ensures.forms
    c.into_core.ensures.lits
