use Rattle.std.proofs.Common.{refl}
use Rattle.scheme_expand.proofs.Due.{none_left}
use Rattle.scheme_expand.proofs.Parts.{no_items}
use Rattle.scheme_expand.proofs.Targets.{no_name_in, no_procedure_name, no_formals, procedure_named, procedure_read}
use Rattle.scheme_expand.specs.Grammar.{words}
use Rattle.scheme_expand.specs.Shapes.{end_word}
use Rattle.scheme_expand.specs.declared.body.Defined.TheVariants as defined
use Rattle.scheme_expand.proofs.body.read_procedure.Goals as goal

pub returns-in_default : goal.returns-in_default
returns-in_default c = λ ts end ds q p h t k bs.
    no_name_in q p ts end ds bs (no_items c.args.source _ ts (none_left _ c.in_default.ensures.cases) h)

pub returns-in_default-word : goal.returns-in_default-word
returns-in_default-word c = λ ts end ds q p h t k bs.
    no_procedure_name c.args.source _ _ _ q p ts end ds _ bs h c.in-Some.ensures.cases.0 c.word.ensures c.in_default-word.is

pub returns-in_default-read_params : goal.returns-in_default-read_params
returns-in_default-read_params c = λ ts end ds q p h t k bs.
    let i = procedure_named c.args.source _ _ _ _ ts _ h c.in-Some.ensures.cases.0 c.word.ensures c.in-Some-word.is in
    no_formals c.args.source _ _ q p ts end ds bs i (c.in_default-read_params.ensures i.formals end i.read t)

pub returns : goal.returns
returns c = λ ts end ds q p h t k.
    let i = procedure_named c.args.source _ _ _ _ ts _ h c.in-Some.ensures.cases.0 c.word.ensures c.in-Some-word.is in
    let a = c.in-Some-read_params.ensures i.formals end i.read t in
    let f = c.in-Some-read_params.formals in
    procedure_read c.args.source _ _ _ f (defined.Procedure f c.args.body) q p ts end ds i a refl refl
    (words i.formals, end_word end, ds, a.1, k, refl)
