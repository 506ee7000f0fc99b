use Rattle.std.proofs.Common.{ℕ, List, [], ◌∷◌, length, length-append, sym, ap, subst, arith}
use Rattle.prelude_text.specs.Closure.{AreUses}
use Rattle.scheme_expand.proofs.NumbersBehind.{use_added}
use Rattle.scheme_expand.proofs.UsesInOrder.{no_uses, more_uses, all_uses}
use Rattle.scheme_expand.proofs.assemble.Whole.uses.Goals as goal

pub loop-form-init : goal.loop-form-init
loop-form-init c =
    let P : List (List ℕ) → Type 0 = λ us. AreUses (length c.args.self.library.forms.now) us in
    record {
      count = ap length c.new-uses.ensures;
      within = subst P (sym c.new-uses.ensures) tt;
      exact = λ names nodes defined index few. no_uses names nodes c.args.self.library.drafts.now defined _ c.new-uses.ensures;
    }

pub loop-form-preserved : goal.loop-form-preserved
loop-form-preserved c =
    let h = c.loop-form.invariant in
    let e = c.in_ok-push.ensures.ok in
    record {
      count = omega (arith, h.count, ap length e, length-append c.loop-form.uses (c.in_ok-used.used ∷ []));
      within = use_added _ c.loop-form.uses c.push.new.self c.in_ok-used.used e h.within c.in_ok-used.ensures.within;
      exact = λ names nodes defined index few.
          more_uses names nodes c.args.self.library.drafts.now defined c.args.self.library.forms.now c.loop-form.form-index
          c.loop-form.uses c.push.new.self c.in_ok-used.used c.loop-form-test.true (h.exact names nodes defined index few)
          (λ d drawn. c.in_ok-used.ensures.exact names nodes defined d index few drawn) e;
    }

pub returns-clause-exact : goal.returns-clause-exact
returns-clause-exact c = λ names nodes defined ds index same all.
    all_uses names nodes c.args.self.library.drafts.now defined c.args.self.library.forms.now c.loop-form.form-index c.loop-form.uses
    (omega (arith, c.loop-form-test.false)) (c.loop-form.invariant.exact names nodes defined index (omega (arith, same))) ds all
