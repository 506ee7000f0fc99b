-- The laws of the source machine's steps.
use Rattle.std.proofs.Common.{◌≡◌, ℕ, List, [], ◌++◌, Option, Some, None, refl, sym, ap, ◌∙◌, arith, length-append, length-set, append_assoc, append-nil, inl}
use Rattle.std.proofs.lemmas.List.{map-append}
use Rattle.std.proofs.Math.Seq.{map-set_same}
use Rattle.std.proofs.lemmas.Option.{get_or_from_slice_get}
use Rattle.std.specs.Prelude.{map, slice_get}
use Rattle.scheme_base.specs.declared.env.Env.{Env}
use Rattle.scheme_base.specs.Outside.{Ending}
use Rattle.scheme_base.specs.Values.{Content, Thing, Holding, Procedure}
use Rattle.scheme_base.specs.Operations.{sight, plain_store, plain_change, changed}
use Rattle.scheme_base.specs.Runs.{GrowsByOne}
use Rattle.scheme_base.proofs.OperationLaws.{calls_once}
use Rattle.scheme_base.specs.Runs.{Lawful}
use Rattle.core_form.specs.Source.{Source, World, State, Evaluates, Gives, Stopped, step, world_of, trace_of, ending_of, machine}
use Rattle.core_form.specs.Laws.{outline, Keeps}
use Rattle.core_form.proofs.WorldsKept.{Stable, step_world}

-- traces

abbrev Grown : {V : Type 0} → World V → World V → Type 0
Grown before w = GrowsByOne before.channels.calls.trace w.channels.calls.trace

grown_stable : {V : Type 0} (before : World V) → Stable (Grown before)
grown_stable before =
    record {
      tops = λ w ts h. h;
      locations = λ w vs h. h;
      assigned = λ w n v h. h;
      things = λ w ts h. h;
      changed = λ w n c h. h;
    }

pub grows : {V : Type 0} (p : Source V) (env : Env) (s : State V) → GrowsByOne (trace_of s) (trace_of (step p env s))
grows p env s =
    let w = world_of s in
    step_world (Grown w) (grown_stable w) p env s (inl refl)
    (λ o vs. calls_once env (sight plain_store w.things) w.channels o vs)

pub stays : {V : Type 0} (p : Source V) (env : Env) (s : State V) (e : Ending) → ending_of s ≡ Some e → step p env s ≡ s
stays p env (Evaluates e ρ fs w) ending h = cc
stays p env (Gives v fs w) ending h = cc
stays p env (Stopped stop w) ending h = refl

-- the machine stays where it has stopped, and makes one call a step at most
pub lawful : {V : Type 0} (p : Source V) (env : Env) → Lawful (machine p env)
lawful p env = record { stays = stays p env; grows = grows p env }

-- locations and objects

outline_changed : {P : Type 0} (ts : List (Thing P)) (n : ℕ) (c : Content) (o : Option (Thing P)) → slice_get ts n ≡ o
    → map outline (changed plain_store ts n c o) ≡ map outline ts
outline_changed {P = P} ts n c None e = refl
outline_changed {P = P} ts n c (Some t) e =
    map-set_same outline ts n (plain_change c t) t
    (same_outline t ∙ ap outline (sym (get_or_from_slice_get ts n t t e)))
  where
    same_outline : (u : Thing P) → outline (plain_change c u) ≡ outline u
    same_outline (Holding o d) = refl
    same_outline (Procedure f) = refl

keeps_stable : {V : Type 0} (before : World V) → Stable (Keeps before)
keeps_stable before =
    record {
      tops = λ w ts h. record { locations = h.locations; more = h.more; things = h.things };
      locations = λ w vs h.
          let long = length-append w.locations vs in
          record { locations = omega (arith, h.locations, long); more = h.more; things = h.things };
      assigned = λ w n v h.
          let long = length-set w.locations n v in
          record { locations = omega (arith, h.locations, long); more = h.more; things = h.things };
      things = λ w ts h.
          record {
            locations = h.locations;
            more = h.more ++ map outline ts;
            things =
                map-append outline w.things ts
                ∙ (ap (λ xs. xs ++ map outline ts) h.things
                ∙ append_assoc (map outline before.things) h.more (map outline ts));
          };
      changed = λ w n c h.
          record {
            locations = h.locations;
            more = h.more;
            things = outline_changed w.things n c (slice_get w.things n) refl ∙ h.things;
          };
    }

pub keeps : {V : Type 0} (p : Source V) (env : Env) (s : State V) → Keeps (world_of s) (world_of (step p env s))
keeps p env s =
    let w = world_of s in
    let same : Keeps w w =
    record { locations = omega arith; more = []; things = sym (append-nil (map outline w.things)) }
    in
    step_world (Keeps w) (keeps_stable w) p env s same
    (λ o vs. record { locations = same.locations; more = same.more; things = same.things })
