use Rattle.std.proofs.Common.{length, option_map, refl, sym, ap, ◌∙◌}
use Rattle.std.proofs.lemmas.Option.{slice_get-map, slice_get_past, slice_get_read}
use Rattle.scheme_expand.specs.KnownNames.{call_kind}
use Rattle.scheme_expand.proofs.words.call_in.Goals as goal

pub returns-in-Some : goal.returns-in-Some
returns-in-Some c =
    let known = c.args.known.now in
    let found = c.in-Some.ensures.lookup in
    sym
    (slice_get-map call_kind known c.args.at
    ∙ ap (option_map call_kind)
    (slice_get_read known (length known) c.args.at c.in-Some.field-0.now refl found.3.0 found.1))

pub returns-in-None : goal.returns-in-None
returns-in-None c =
    let known = c.args.known.now in
    sym
    (slice_get-map call_kind known c.args.at
    ∙ ap (option_map call_kind) (slice_get_past known c.args.at c.in-None.ensures.lookup.3))
