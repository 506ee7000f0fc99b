use Rattle.std.proofs.Common.{◌≡◌, suc, false, refl, ap, ◌∙◌}
use Rattle.std.proofs.lemmas.List.{length-map}
use Rattle.scheme_base.specs.Constants.{Constant as constant}
use Rattle.draft_form.specs.Drafts.{Fresh, Const}
use Rattle.scheme_expand.specs.Grammar.{each_constant}
use Rattle.scheme_expand.specs.Rewriting.{is_one_of, level}
use Rattle.scheme_expand.specs.Views.{pushed, scope_of}
use Rattle.scheme_expand.proofs.AddedDrafts.{both_ok}
use Rattle.scheme_expand.proofs.Due.{none_left}
use Rattle.scheme_expand.proofs.MadeTests.{all_tested, compared, constants_held, last_tested, one_tested}
use Rattle.scheme_expand.proofs.Parts.{no_items}
use Rattle.scheme_expand.proofs.Stacks.{draws_more, is_given, redrawn}
use Rattle.scheme_expand.proofs.make.Maker.is_among.Goals as goal

pub loop-id-init : goal.loop-id-init
loop-id-init c =
    record {
      kept = c.in_ok-test.ensures.kept;
      tested =
          λ names nodes s qs h at.
          last_tested names nodes c.is_datum.new.self.drafts c.args.pos c.args.level s qs c.args.ids.now c.in-Some.others.now c.in-Some.last.now
          c.in_ok-test.test h c.in-Some.ensures.cases.0 (c.in_ok-test.ensures.drawn names nodes);
    }

pub loop-id-preserved : goal.loop-id-preserved
loop-id-preserved c =
    let m = c.is_datum-in-Some-split_last.new.self in
    let compares = c.in_ok-value.ensures.kept in
    record {
      kept = draws_more _ _ _ c.loop-id.invariant.kept (draws_more _ _ _ compares (redrawn m c.either.new.self c.in_ok-test-2.ensures.kept));
      tested =
          λ names nodes s qs h at.
          one_tested names nodes c.loop-id.self.drafts c.either.new.self c.args.pos c.args.level c.in_ok-held.held s qs c.loop-id.rest.now
          c.in-Some-split_last.before.now c.in-Some-split_last.id.now c.loop-id.test c.in_ok-test-2.test at c.in_ok-held.ensures
          (c.loop-id.invariant.tested names nodes s qs h at) c.in-Some-split_last.ensures.cases.0
          (λ q e held rest.
          c.in_ok-test-2.ensures.drawn names nodes (compared c.args.pos c.args.level q) e (c.in_ok-value.ensures.drawn names nodes q held)
          (compares.drafts.one names nodes c.loop-id.test e rest));
    }

pub returns-in_default : goal.returns-in_default
returns-in_default c =
    both_ok c.constant.result
    (λ id kept drawn k v w i e.
    let p = c.args.pos in
    let none = no_items k.source c.args.ids.now e.0 (none_left c.args.ids.now c.in_default.ensures.cases) e.1 in
    is_given k c.args.self.now _ id v w v.made (Const p (constant.Boolean false)) i (redrawn c.args.self.now c.constant.new.self kept)
    (drawn k.names k.source.nodes.now (constant.Boolean false) refl)
    (e.3 ∙ ap (λ ds. pushed (is_one_of p (scope_of k v) (Fresh c.args.level) (each_constant ds)) v) none))
    c.constant.ensures.kept c.constant.ensures.drawn

pub returns : goal.returns
returns c = λ k v w i e.
    let p = c.args.pos in
    let names = k.names in
    let nodes = k.source.nodes.now in
    let s = scope_of k v in
    let qs = each_constant e.0 in
    let at : level s ≡ suc c.args.level = length-map v.bound (λ b. b.name) ∙ e.2 in
    let tested = c.loop-id.invariant.tested names nodes s qs (constants_held nodes c.args.ids.now e.0 e.1.stand) at in
    is_given k c.args.self.now c.loop-id.self c.loop-id.test v w v.made (is_one_of p s (Fresh c.args.level) qs) i c.loop-id.invariant.kept
    (all_tested names nodes c.loop-id.self.drafts p c.args.level s qs c.loop-id.rest.now c.loop-id.test tested
    (none_left c.loop-id.rest.now c.in_default-split_last.ensures.cases))
    e.3
