use Rattle.image_build.proofs.front.named_of.Goals as goal

pub returns-clause-is_named : goal.returns-clause-is_named
returns-clause-is_named c =
    let a = c.in-Ok.ensures.answer in
    c.named_data.ensures.is_named c.args.source.now a.0 a.1 a.2

pub returns-clause-refused : goal.returns-clause-refused
returns-clause-refused c =
    let a = c.in-Ok.ensures.answer in
    c.named_data.ensures.refused c.args.source.now a.0 a.1 a.2
