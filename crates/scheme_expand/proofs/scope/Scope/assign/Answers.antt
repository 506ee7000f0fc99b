use Rattle.std.proofs.Common.{◌≡◌, ◌<◌, ◌≤◌, length, get_or, refl, rules, arith}
use Rattle.std.proofs.lemmas.Grind.{common_steps}
use Rattle.std.proofs.lemmas.Option.{slice_get_read}
use Rattle.scheme_expand.proofs.Scopes.{scope_raised, none_raised}
use Rattle.scheme_expand.proofs.scope.Scope.assign.Goals as goal

pub returns-in-Some : goal.returns-in-Some
returns-in-Some c = λ names bs x h.
    let kept = c.args.self.now.bound.items in
    let within : c.args.level < length kept = first_of (search rules, grind (arith, common_steps)) in
    let read : c.in-Some.bound.now ≡ get_or kept c.args.level c.in-Some.bound.now = first_of (search rules, grind (arith, common_steps)) in
    scope_raised names c.args.self.now _ bs c.args.level x c.in-Some.bound.now h
    (slice_get_read kept (length kept) c.args.level c.in-Some.bound.now refl within read) refl refl

pub returns-in_default : goal.returns-in_default
returns-in_default c = λ names bs x h.
    let past : length c.args.self.now.bound.items ≤ c.args.level = first_of (search rules, grind (arith, common_steps)) in
    none_raised names c.args.self.now bs c.args.level x h past
