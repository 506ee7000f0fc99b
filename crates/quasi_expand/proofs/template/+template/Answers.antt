use Rattle.std.proofs.Common.{suc, [], ◌∷◌, ◌++◌, length, None, true, false, codes, refl, sym, ap, subst, ◌∙◌, arith}
use Rattle.std.proofs.lemmas.Result.{IfOk-weaker}
use Rattle.datum_form.specs.Data.{Datum as datum}
use Rattle.datum_form.specs.Stands.{Stands}
use Rattle.datum_form.proofs.PrintedByParts.{none_left}
use Rattle.scheme_base.specs.Constants.{Constant as constant}
use Rattle.draft_form.specs.Quoted.{constants}
use Rattle.quasi_expand.specs.declared.template.Part.TheVariants as part
use Rattle.quasi_expand.specs.Making.{value}
use Rattle.quasi_expand.specs.Templates.{is_plain, marked, unquoted, template, template_list, template_chain, entry}
use Rattle.quasi_expand.proofs.Chains.{from_start, end_found, not_found, is_found, none_found, item_found, all_past}
use Rattle.quasi_expand.proofs.Giving.{node_given, at_given, at_found, vector_put, vector_given, marked_put, may_below, spliced_value}
use Rattle.quasi_expand.proofs.Listing.{none_some_listed, one_listed, all_listed, gives_as, may_as, may_found}
use Rattle.quasi_expand.proofs.PlainTemplates.{written, entry_written}
use Rattle.quasi_expand.proofs.TemplateKinds.{chain_is, row_is, atom_is}
use Rattle.quasi_expand.proofs.template.+template.Goals as goal

pub datum-returns-in-List : goal.datum-returns-in-List
datum-returns-in-List t c =
    let nodes = c.args.nodes.now in
    let n = c.args.level in
    IfOk-weaker c.chain.result _ _
    (λ found made d h.
    let i = chain_is nodes c.args.id d _ _ _ _ c.in-Some.ensures h c.in-List.is c.as_slice.ensures in
    at_given nodes c.args.id found c.args.parts.now.items c.chain.new.parts.items d n (template_chain i.items i.end n) h (i.same n)
    (made i.items i.end i.stand i.ends i.rests))
    c.chain.ensures

pub datum-returns-in-Vector : goal.datum-returns-in-Vector
datum-returns-in-Vector t c =
    let nodes = c.args.nodes.now in
    let n = c.args.level in
    IfOk-weaker c.row.result _ _
    (λ found made d h.
    let r = row_is nodes c.args.id d _ _ _ c.in-Some.ensures h c.in-Vector.is c.as_slice-in-Vector.ensures in
    gives_as nodes found c.args.parts.now.items c.row.new.parts.items (template (datum.Vector r.place r.items) n) (template d n)
    (ap (λ x. template x n) r.are) (made r.place r.items r.stand (subst (λ x. Stands nodes c.args.id x) (sym r.are) h) r.rests))
    c.row.ensures

pub datum-returns-in_ok-push-in_default-kind : goal.datum-returns-in_ok-push-in_default-kind
datum-returns-in_ok-push-in_default-kind t c = λ d h.
    let nodes = c.args.nodes.now in
    let n = c.args.level in
    let plain = atom_is nodes c.args.id d _ n c.in-Some.ensures h c.in_default-kind.not-List c.in_default-kind.not-Vector in
    node_given nodes c.args.id c.args.parts.now.items c.push.new.self.items d (template d n) h
    c.in_ok-push-in_default-kind.ensures.items (written d n) (ap is_plain plain)

pub row-returns-then-found : goal.row-returns-then-found
row-returns-then-found t c = λ p ds stand whole rests.
    let nodes = c.args.nodes.now in
    let a = c.args.parts.now.items in
    let b = c.chain.new.parts.items in
    let items = template_list ds c.args.level in
    vector_put nodes c.args.node a b c.push.new.self.items (constant.Vector (constants ds)) items
    (at_found nodes c.args.node c.in_ok-found.found true a b items c.if-found.true (c.in_ok-found.ensures ds None stand refl rests))
    c.in_ok-push.ensures.items

pub row-returns : goal.row-returns
row-returns t c = λ p ds stand whole rests.
    let nodes = c.args.nodes.now in
    let a = c.args.parts.now.items in
    let b = c.chain.new.parts.items in
    vector_given nodes c.args.node a b p ds c.args.level whole
    (at_found nodes c.args.node c.in_ok-found.found false a b (template_list ds c.args.level) c.if-found.false
    (c.in_ok-found.ensures ds None stand refl rests))

pub chain-returns-then-branch : goal.chain-returns-then-branch
chain-returns-then-branch t c = λ ds d h k rests.
    let nodes = c.args.nodes.now in
    let n = c.args.level in
    let s = c.split_end-end.ensures ds d h k in
    let a = c.args.parts.now.items in
    let b = c.elements.new.parts.items in
    let e = c.ending.new.parts.items in
    let ends =
    s.ends c.args.node (length c.args.items.now)
    (all_past nodes c.args.node c.args.items.now c.args.tail d (length c.args.items.now) rests k refl) in
    end_found nodes _ _ ds d c.in_ok-listed.listed.plain n c.in_ok-listed.listed.found a b e c.link.new.parts.items s
    (c.in_ok-listed.ensures s.items s.stand)
    (may_found nodes c.in_ok-ending.field-0 true b e (s.inside n) c.if-branch.true (c.in_ok-ending.ensures s.inside ends))
    (c.in_ok-link.ensures s.items s.stand)

pub chain-returns-then-not-listed : goal.chain-returns-then-not-listed
chain-returns-then-not-listed t c = λ ds d h k rests.
    let nodes = c.args.nodes.now in
    let n = c.args.level in
    let s = c.split_end-end.ensures ds d h k in
    let a = c.args.parts.now.items in
    let b = c.elements.new.parts.items in
    let e = c.ending.new.parts.items in
    let ends =
    s.ends c.args.node (length c.args.items.now)
    (all_past nodes c.args.node c.args.items.now c.args.tail d (length c.args.items.now) rests k refl) in
    none_found nodes c.args.node _ _ ds d c.in_ok-listed.listed.plain n c.len-start.result c.in_ok-listed.listed.found a b e
    c.truncate.new.self.items c.push.new.self.items s (c.in_ok-listed.ensures s.items s.stand)
    (may_found nodes c.in_ok-ending.field-0 false b e (s.inside n) c.if-branch.false (c.in_ok-ending.ensures s.inside ends))
    (not_found c.in_ok-listed.listed.found c.if-not-listed.true) (omega (arith, c.len-start.ensures, c.args.parts.now.ok.0))
    c.truncate.ensures.items c.in_ok-push.ensures.items

pub chain-returns : goal.chain-returns
chain-returns t c = λ ds d h k rests.
    let nodes = c.args.nodes.now in
    let n = c.args.level in
    let s = c.split_end-end.ensures ds d h k in
    let a = c.args.parts.now.items in
    let b = c.elements.new.parts.items in
    let e = c.ending.new.parts.items in
    let ends =
    s.ends c.args.node (length c.args.items.now)
    (all_past nodes c.args.node c.args.items.now c.args.tail d (length c.args.items.now) rests k refl) in
    item_found nodes c.args.node c.args.items.now _ c.in-Some.front.now c.args.tail _ ds d c.in_ok-listed.listed.plain n
    c.len-steps.result c.saturating_sub.result c.saturating_sub-made.result c.in_ok-listed.listed.found a b e
    c.truncate-2.new.self.items c.push_rest.new.parts.items c.link-2.new.parts.items s h k rests
    (c.in_ok-listed.ensures s.items s.stand)
    (may_found nodes c.in_ok-ending.field-0 false b e (s.inside n) c.if-branch.false (c.in_ok-ending.ensures s.inside ends))
    (is_found c.in_ok-listed.listed.found c.if-not-listed.false)
    (omega (arith, c.len-steps.ensures, c.ending.new.parts.ok.0)) c.saturating_sub.ensures c.truncate-2.ensures.items
    c.saturating_sub-made.ensures c.in_ok-push_rest.ensures (from_start _ _ _ c.in-Some.ensures.lookup.0.2) c.in_ok-link-2.ensures

pub elements-loop-first-init : goal.elements-loop-first-init
elements-loop-first-init t c = λ ds h.
    none_some_listed c.args.nodes.now c.args.items.now c.args.level c.args.parts.now.items ds h

pub elements-loop-first-preserved : goal.elements-loop-first-preserved
elements-loop-first-preserved t c = λ ds h.
    one_listed c.args.nodes.now c.loop-first.rest.now c.in-Some.others.now c.in-Some.first.now c.args.level c.in_ok-found.found
    c.loop-first.listed c.in_ok-listed.listed c.args.parts.now.items c.loop-first.parts.items c.element.new.parts.items ds
    (c.loop-first.invariant ds h) c.in-Some.ensures.cases.0 c.in_ok-listed.ensures c.in_ok-found.ensures

pub elements-returns : goal.elements-returns
elements-returns t c = λ ds h.
    all_listed c.args.nodes.now c.loop-first.rest.now c.args.level c.loop-first.listed.plain c.loop-first.listed.found
    c.args.parts.now.items c.loop-first.parts.items ds (c.loop-first.invariant ds h)
    (none_left c.loop-first.rest.now c.in_default.ensures.cases)

pub element-returns-in_default : goal.element-returns-in_default
element-returns-in_default t c =
    IfOk-weaker c.datum.result _ _
    (λ found made d h.
    let this = template d c.args.level in
    gives_as c.args.nodes.now found c.args.parts.now.items c.datum.new.parts.items this (value (entry d c.args.level this))
    (ap value (sym (c.in_default.ensures d h c.args.level this))) (made d h))
    c.datum.ensures

pub element-returns-then-branch : goal.element-returns-then-branch
element-returns-then-branch t c = λ d h.
    let nodes = c.args.nodes.now in
    let n = c.args.level in
    let s = c.in-Some.ensures d h in
    let this = unquoted (codes "unquote-splicing") n s.0 (template s.0) in
    may_as nodes true c.args.parts.now.items c.unquoted.new.parts.items this (value (entry d n (template d n)))
    (spliced_value n s.0 ∙ ap value (sym (s.2 n (template d n))))
    (may_found nodes c.in_ok-unquoted.field-0 true c.args.parts.now.items c.unquoted.new.parts.items this c.if-branch.true
    (c.in_ok-unquoted.ensures (codes "unquote-splicing") s.0 s.1))

pub element-returns : goal.element-returns
element-returns t c = λ d h.
    let nodes = c.args.nodes.now in
    let n = c.args.level in
    let s = c.in-Some.ensures d h in
    let this = unquoted (codes "unquote-splicing") n s.0 (template s.0) in
    let item = value (entry d n (template d n)) in
    let none =
    may_found nodes c.in_ok-unquoted.field-0 false c.args.parts.now.items c.unquoted.new.parts.items this c.if-branch.false
    (c.in_ok-unquoted.ensures (codes "unquote-splicing") s.0 s.1) in
    node_given nodes c.args.item c.args.parts.now.items c.push.new.self.items d item h
    (c.in_ok-push.ensures.items ∙ ap (λ l. l ++ part.Datum c.args.item ∷ []) none.0)
    (entry_written d n (template d n) (written d n))
    (ap is_plain (ap value (s.2 n (template d n)) ∙ sym (spliced_value n s.0)) ∙ none.1)

pub unquoted-returns : goal.unquoted-returns
unquoted-returns t c =
    IfOk-weaker c.named.result _ _
    (λ found made x e h.
    may_below c.args.nodes.now x found c.args.parts.now.items c.named.new.parts.items c.args.level _ e c.if-level-eq0.false refl
    (made x e h))
    c.named.ensures

pub quasiquoted-returns : goal.quasiquoted-returns
quasiquoted-returns t c =
    IfOk-weaker c.named.result _ _
    (λ found made e h.
    may_as c.args.nodes.now found c.args.parts.now.items c.named.new.parts.items _
    (marked (codes "quasiquote") (template e (suc c.args.level))) (ap (λ n. marked (codes "quasiquote") (template e n)) (grind (arith, c.in-Some.ensures)))
    (made (codes "quasiquote") e h))
    c.named.ensures

pub named-returns : goal.named-returns
named-returns t c = λ x e h.
    marked_put c.args.nodes.now x c.args.marked e (template e c.args.level) c.args.parts.now.items c.push.new.self.items
    c.inner.new.parts.items c.push_rest.new.parts.items c.extend_from_slice.new.self.items h c.in_ok-push.ensures.items
    (may_found c.args.nodes.now c.in_ok-inner.field-0 true c.push.new.self.items c.inner.new.parts.items (template e c.args.level)
    c.if-not-branch.false (c.in_ok-inner.ensures e h.stands))
    c.in_ok-push_rest.ensures c.in_ok-extend_from_slice.ensures.items
