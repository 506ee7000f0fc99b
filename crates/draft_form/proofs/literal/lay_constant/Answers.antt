use Rattle.std.proofs.Common.{rules, w64, SFits, [], ◌∷◌, refl, sym, ap}
use Rattle.std.proofs.lemmas.Int.{to_z-of_z}
use Rattle.scheme_base.specs.declared.lit.Lit.TheVariants as lit
use Rattle.scheme_base.specs.Constants.{Constant as constant}
use Rattle.draft_form.specs.declared.draft.Constant.TheVariants as held
use Rattle.draft_form.proofs.LiteralsAdded.{on_ok, leaf_held}
use Rattle.draft_form.proofs.literal.lay_constant.Goals as goal

pub returns-in-Integer : goal.returns-in-Integer
returns-in-Integer c =
    let fits : SFits w64 c.in-Integer.value = search (rules, c.well_formed) in
    on_ok c.push_leaf.result
    (leaf_held _ c.args.nodes.now c.args.constant (held.Integer c.in-Integer.value) (constant.Integer c.in-Integer.value)
    _ c.args.lits.now.items c.push_leaf.new.lits.items c.in-Integer.is refl
    (λ i. ap (λ z. lit.Integer z ∷ []) (sym (to_z-of_z w64 c.in-Integer.value fits))))
    c.push_leaf.ensures

pub returns-in-Boolean : goal.returns-in-Boolean
returns-in-Boolean c =
    on_ok c.push_leaf-in-Boolean.result
    (leaf_held _ c.args.nodes.now c.args.constant (held.Boolean c.in-Boolean.value) (constant.Boolean c.in-Boolean.value)
    (lit.Boolean c.in-Boolean.value) c.args.lits.now.items c.push_leaf-in-Boolean.new.lits.items c.in-Boolean.is refl (λ i. refl))
    c.push_leaf-in-Boolean.ensures

pub returns-in-Nil : goal.returns-in-Nil
returns-in-Nil c =
    on_ok c.push_leaf-in-Nil.result
    (leaf_held _ c.args.nodes.now c.args.constant held.Nil constant.Nil lit.Nil c.args.lits.now.items
    c.push_leaf-in-Nil.new.lits.items c.in-Nil.is refl (λ i. refl))
    c.push_leaf-in-Nil.ensures

pub returns-in-Unspecified : goal.returns-in-Unspecified
returns-in-Unspecified c =
    on_ok c.push_leaf-in-Unspecified.result
    (leaf_held _ c.args.nodes.now c.args.constant held.Unspecified constant.Unspecified lit.Unspecified c.args.lits.now.items
    c.push_leaf-in-Unspecified.new.lits.items c.in-Unspecified.is refl (λ i. refl))
    c.push_leaf-in-Unspecified.ensures

pub returns-in-Undefined : goal.returns-in-Undefined
returns-in-Undefined c =
    on_ok c.push_leaf-in-Undefined.result
    (leaf_held _ c.args.nodes.now c.args.constant held.Undefined constant.Undefined lit.Undefined c.args.lits.now.items
    c.push_leaf-in-Undefined.new.lits.items c.in-Undefined.is refl (λ i. refl))
    c.push_leaf-in-Undefined.ensures
