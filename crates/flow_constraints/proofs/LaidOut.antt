-- The layout of a program is made of its parts.
use Rattle.std.proofs.Common.{◌≡◌, ℕ, ◌-◌, List, length, map, sym, ap, ◌∙◌}
use Rattle.std.proofs.lemmas.List.{length-map}
use Rattle.named_form.specs.declared.program.Named.{Named}
use Rattle.named_form.specs.Written.{form, procedure}
use Rattle.flow_constraints.specs.declared.flow.Flow.{Flow}
use Rattle.flow_constraints.specs.declared.flow.Kind.{Kind}
use Rattle.flow_constraints.specs.declared.layout.Layout.{Layout}
use Rattle.flow_constraints.specs.declared.layout.Quoted.{Quoted}
use Rattle.flow_constraints.specs.Layout.{flow_of, joined, kinds_of, laid_all, started}
use Rattle.flow_constraints.specs.Quoted.{quoted_all, unquoted}

pub flow_is : (n : Named) (closures : ℕ) (begun laid : Layout) (kinds : List Kind) (literals : Quoted) (flow : Flow)
    → closures ≡ length n.procs - 1 → begun ≡ started n.tops closures → laid ≡ laid_all (map procedure n.procs) begun
    → kinds ≡ kinds_of laid → literals ≡ quoted_all n.lits (unquoted laid.rows kinds) → flow ≡ joined laid literals
    → flow ≡ flow_of (form n)
flow_is n closures begun laid kinds literals flow many begins lays makes quotes joins =
    joins
    ∙ (ap (joined laid) (quotes ∙ ap (λ ks. quoted_all n.lits (unquoted laid.rows ks)) makes)
    ∙ ap (λ t. joined t (quoted_all n.lits (unquoted t.rows (kinds_of t))))
    (lays
    ∙ ap (laid_all (map procedure n.procs))
    (begins ∙ ap (started n.tops) (many ∙ ap (λ m. m - 1) (sym (length-map n.procs procedure))))))
