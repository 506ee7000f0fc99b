use Rattle.std.proofs.Common.{[], false, length, ap, sym, refl, ◌∙◌}
use Rattle.scheme_expand.specs.ByWord.{flags_where, one_flag}
use Rattle.scheme_expand.specs.Grammar.{forms}
use Rattle.scheme_expand.specs.Programs.{own_names, program_scope, public_names}
use Rattle.scheme_expand.specs.Rewriting.{OfProgram, form_cores}
use Rattle.scheme_expand.specs.Views.{empty_view}
use Rattle.scheme_expand.proofs.Bodies.{all_in}
use Rattle.scheme_expand.proofs.EndFault.{fault_is, no_fault}
use Rattle.scheme_expand.proofs.OwnNames.{length-flags_where}
use Rattle.scheme_expand.proofs.TopForms.{first_drawn, first_free, fits_own, forms_drawn, others_free, own_flags, own_length, side_ends, with_own}
use Rattle.scheme_expand.proofs.answer.expand_program.Goals as goal

pub returns-in-Some-clause-fault : goal.returns-in-Some-clause-fault
returns-in-Some-clause-fault c = λ ds h.
    let n = c.in_ok-expander.ensures.fault in
    fault_is _ c.forms.new.self ds c.in-Some.fault n.2 (c.in_ok-forms.ensures.fault ds (all_in _ _ _ ds (sym n.0) h) n.1) c.in-Some.is

pub returns-then-not-one_flag-clause-fault : goal.returns-then-not-one_flag-clause-fault
returns-then-not-one_flag-clause-fault c = λ ds h.
    let n = c.in_ok-expander.ensures.fault in
    no_fault _ c.forms.new.self ds n.2 (c.in_ok-forms.ensures.fault ds (all_in _ _ _ ds (sym n.0) h) n.1) c.in-None.is

pub returns-then-not-one_flag-clause-core : goal.returns-then-not-one_flag-clause-core
returns-then-not-one_flag-clause-core c = λ κ library ds suits side marks size listed h.
    let n = c.in_ok-expander.ensures.fault in
    let view = c.in_ok-expander.ensures.core κ suits.fits suits.source suits.helpers (first_free κ (public_names library.names) c.args.public.now side marks) size in
    let unbroken = no_fault _ c.forms.new.self ds n.2 (c.in_ok-forms.ensures.fault ds (all_in _ _ _ ds (sym (n.0 ∙ suits.source)) h) n.1) c.in-None.is in
    let ends = side_ends κ c.forms.new.self (forms ds) (OfProgram (public_names library.names) []) side (c.in_ok-forms.ensures.core κ (empty_view κ.names) ds view h n.1 unbroken refl) in
    let own = own_flags κ c.forms.new.self library (forms ds) c.args.public.now c.in_ok-own.own.items _ ends marks size listed c.in_ok-own.ensures c.deref.ensures.value in
    (own, first_drawn κ c.forms.new.self library (forms ds) c.in_ok-own.own.items ends own listed (ap one_flag (sym c.deref-2.ensures.value) ∙ sym c.one_flag.ensures ∙ c.if-not-one_flag.true))

pub returns-clause-fault : goal.returns-clause-fault
returns-clause-fault c = λ ds h.
    let n = c.in_ok-expander.ensures.fault in
    no_fault _ c.forms.new.self ds n.2 (c.in_ok-forms.ensures.fault ds (all_in _ _ _ ds (sym n.0) h) n.1) c.in-None.is

pub returns-clause-core : goal.returns-clause-core
returns-clause-core c = λ κ library ds suits side marks size listed h.
    let n = c.in_ok-expander.ensures.fault in
    let m = c.in_ok-expander-2.ensures.fault in
    let view = c.in_ok-expander.ensures.core κ suits.fits suits.source suits.helpers (first_free κ (public_names library.names) c.args.public.now side marks) size in
    let unbroken = no_fault _ c.forms.new.self ds n.2 (c.in_ok-forms.ensures.fault ds (all_in _ _ _ ds (sym (n.0 ∙ suits.source)) h) n.1) c.in-None.is in
    let ends = side_ends κ c.forms.new.self (forms ds) (OfProgram (public_names library.names) []) side (c.in_ok-forms.ensures.core κ (empty_view κ.names) ds view h n.1 unbroken refl) in
    let own = own_flags κ c.forms.new.self library (forms ds) c.args.public.now c.in_ok-own.own.items _ ends marks size listed c.in_ok-own.ensures c.deref.ensures.value in
    let others = c.deref-4.ensures.value ∙ (c.in_ok-others.ensures ∙ ap (flags_where false c.args.public.now) c.deref-3.ensures.value) in
    let many = own_length κ c.forms.new.self (form_cores (forms ds) (program_scope library [])) c.args.public.now c.in_ok-own.own.items _ ends size c.in_ok-own.ensures c.deref.ensures.value in
    let ρ = with_own κ (public_names library.names) (own_names library (forms ds)) in
    let again =
    c.in_ok-expander-2.ensures.core ρ (fits_own κ (public_names library.names) (own_names library (forms ds)) suits.fits) suits.source suits.helpers
    (others_free κ.names (public_names library.names) (own_names library (forms ds)) c.args.public.now c.in_ok-own.own.items _ marks own (sym many) others)
    (ap length others ∙ (length-flags_where false c.args.public.now c.in_ok-own.own.items (sym many) ∙ size)) in
    (own, forms_drawn ρ c.forms-2.new.self (form_cores (forms ds) (program_scope library (own_names library (forms ds)))) (c.in_ok-forms-2.ensures.core ρ (empty_view κ.names) ds again h m.1 unbroken refl))
