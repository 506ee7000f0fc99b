use Rattle.std.proofs.Common.{refl, sym, ap, subst, ◌∙◌}
use Rattle.datum_form.specs.Data.{Datum}
use Rattle.draft_form.specs.Quoted.{constant_of}
use Rattle.scheme_expand.specs.Faults.{least, in_word}
use Rattle.scheme_expand.specs.Waiting.{Reads}
use Rattle.scheme_expand.proofs.Adding.{due}
use Rattle.scheme_expand.proofs.ByKind.{named, row, in_place, wrong_at}
use Rattle.scheme_expand.proofs.Due.{of, on_ok, any_ok}
use Rattle.scheme_expand.proofs.Lists.{list_parts}
use Rattle.scheme_expand.proofs.Coming.{turns_as}
use Rattle.scheme_expand.proofs.MadeForms.{chain_is, constant_turns, items_in, literal_is, tail_in, wrong_not_right}
use Rattle.scheme_expand.proofs.Parts.{read_in}
use Rattle.scheme_expand.specs.Forms.{Value}
use Rattle.scheme_expand.specs.Grammar.{expr}
use Rattle.scheme_expand.specs.Making.{IsRight}
use Rattle.scheme_expand.specs.Waiting.{place}
use Rattle.scheme_expand.specs.Views.{seen}
use Rattle.scheme_expand.proofs.expander.Expander.expr.Goals as goal

pub returns-in-Name-clause-fault : goal.returns-in-Name-clause-fault
returns-in-Name-clause-fault c =
    let a = c.args.self.now in
    on_ok c.name_here.result
    (λ w d h.
    let n = named a.source c.args.id d _ _ h (c.in-Some.ensures d h) c.in-Name.is in
    let P : Datum → Type 0 = λ x. Reads a.source c.args.id x in
    due a c.name_here.new.self (least (in_word n.0)) (of d) (ap of (sym n.1)) (w n.0 (subst P n.1 h)))
    c.name_here.ensures.fault

pub returns-in-List-clause-fault : goal.returns-in-List-clause-fault
returns-in-List-clause-fault c =
    let a = c.args.self.now in
    on_ok c.chain.result
    (λ w d h.
    let i = list_parts a.source c.args.id d _ _ _ _ h (c.in-Some.ensures d h) c.in-List.is c.as_slice.ensures in
    in_place a c.chain.new.self c.pos-pos.result d _ _ i (c.pos-pos.ensures d h) (w i.items i.end i.read i.ends))
    c.chain.ensures.fault

pub returns-in-Vector-clause-fault : goal.returns-in-Vector-clause-fault
returns-in-Vector-clause-fault c =
    let a = c.args.self.now in
    on_ok c.broken.result
    (λ w d h.
    due a c.broken.new.self _ (of d)
    (wrong_at c.pos-pos.result d 15 (c.pos-pos.ensures d h) (row a.source d _ _ (c.in-Some.ensures d h) c.in-Vector.is)) w)
    c.broken.ensures

pub returns-in-Name-clause-core : goal.returns-in-Name-clause-core
returns-in-Name-clause-core c =
    let a = c.args.self.now in
    on_ok c.name_here.result
    (λ w κ v d i h r.
    let k = read_in κ.source a.source c.args.id d (sym i.source) h in
    let n = named a.source c.args.id d _ _ k (c.in-Some.ensures d k) c.in-Name.is in
    let P : Datum → Type 0 = λ x. Reads κ.source c.args.id x in
    turns_as κ a c.name_here.new.self _ (seen κ (expr d) v) (ap (λ x. seen κ (expr x) v) (sym n.1))
    (w κ v n.0 i (subst P n.1 h) (sym (c.pos-pos.ensures d k ∙ ap place n.1))))
    c.name_here.ensures.core

pub returns-in-List-clause-core : goal.returns-in-List-clause-core
returns-in-List-clause-core c =
    let a = c.args.self.now in
    on_ok c.chain.result
    (λ w κ v d i h r.
    let k = read_in κ.source a.source c.args.id d (sym i.source) h in
    let l = list_parts a.source c.args.id d _ _ _ _ k (c.in-Some.ensures d k) c.in-List.is c.as_slice.ensures in
    let same = chain_is c.pos-pos.result l.at d l.items l.end (c.pos-pos.ensures d k) l.are in
    let P : Datum → Type 0 = λ x. IsRight (expr x) in
    turns_as κ a c.chain.new.self _ (seen κ (expr d) v) (ap (λ x. seen κ (expr x) v) same)
    (w κ v l.items l.end i (items_in a.source κ.source _ l.items i.source l.read) (tail_in a.source κ.source _ l.end i.source l.ends)
    (subst P (sym same) r)))
    c.chain.ensures.core

pub returns-in-Vector-clause-core : goal.returns-in-Vector-clause-core
returns-in-Vector-clause-core c =
    let a = c.args.self.now in
    any_ok c.broken.result
    (λ κ v d i h r.
    let k = read_in κ.source a.source c.args.id d (sym i.source) h in
    absurd (wrong_not_right (place d) 15 (expr d) (row a.source d _ _ (c.in-Some.ensures d k) c.in-Vector.is) r))

pub returns-in_default-kind-clause-core : goal.returns-in_default-kind-clause-core
returns-in_default-kind-clause-core c =
    let a = c.args.self.now in
    on_ok c.constant.result
    (λ w κ v d i h r.
    let k = read_in κ.source a.source c.args.id d (sym i.source) h in
    constant_turns κ a c.constant.new.self c.pos-pos.result (constant_of d) v (expr d)
    (w κ v (constant_of d) i (d, h.stands, refl))
    (literal_is a.source d _ (c.in-Some.ensures d k) c.in_default-kind.not-Name c.in_default-kind.not-List c.in_default-kind.not-Vector
    ∙ ap (λ p. Value p (constant_of d)) (sym (c.pos-pos.ensures d k))))
    c.constant.ensures.core
