use Rattle.std.proofs.Common.{ℕ, ◌+◌, ◌*◌, ◌<◌, ap, subst, sym}
use Rattle.flow_form.specs.Shape.{size_of}
use Rattle.flow_form.specs.Valid.{GiveNames}
use Rattle.flow_form.specs.declared.rule.Give.{Give}
use Rattle.flow_workers.proofs.Gifts.{follows_row, gives_word, names_of, place_there}
use Rattle.flow_workers.proofs.rule.give_word.Goals as goal

pub load-found-requires-clause-there : goal.load-found-requires-clause-there
load-found-requires-clause-there c =
    let names = names_of c.args.c.now c.args.rule.now c.requires.listed in
    let Names : Give → Type 0 = λ g. GiveNames c.args.c.now.rows c.args.c.now.atoms g in
    let There : ℕ → Type 0 = λ s. c.args.row * s + c.args.at < size_of c.args.c.now in
    subst There (sym c.stride-stride.ensures.value)
    (place_there c.args.c.now c.args.row c.args.at (subst Names c.requires.row names.give) c.requires.there)

pub set-requires-clause-there : goal.set-requires-clause-there
set-requires-clause-there c =
    let names = names_of c.args.c.now c.args.rule.now c.requires.listed in
    let There : ℕ → Type 0 = λ s. c.args.rule.now.to * s + c.args.at < size_of c.args.c.now in
    subst There (sym c.stride-stride.ensures.value)
    (place_there c.args.c.now c.args.rule.now.to c.args.at names.to c.requires.there)

pub set-requires-clause-follows : goal.set-requires-clause-follows
set-requires-clause-follows c =
    follows_row c.args.c.now c.args.table.now c.args.pass.now c.load-found.new.pass c.args.rule.now c.args.row c.args.at
    c.load-found.result _ _ c.requires.listed c.load-found.ensures.steps c.requires.holds c.requires.row c.requires.there
    (ap (λ s. c.args.row * s + c.args.at) c.stride-stride.ensures.value)
    (ap (λ s. c.args.rule.now.to * s + c.args.at) c.stride-stride.ensures.value) c.load-found.ensures.loaded

pub returns-clause-given : goal.returns-clause-given
returns-clause-given c =
    gives_word c.args.c.now c.args.table.now.base c.set.new.pass c.args.rule.now c.args.row c.args.at c.load-found.result
    _ _ c.requires.listed c.requires.row c.requires.there (ap (λ s. c.args.row * s + c.args.at) c.stride-stride.ensures.value)
    (ap (λ s. c.args.rule.now.to * s + c.args.at) c.stride-stride.ensures.value) c.load-found.ensures.base c.set.ensures.seen
