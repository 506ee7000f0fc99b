use Rattle.std.proofs.Common.{◌≡◌, refl, subst}
use Rattle.rv_emulator.specs.States.{StaysAt}
use Rattle.rv_emulator.proofs.loading.lasting.Goals as goal

pub is_fixed-requires : goal.is_fixed-requires
is_fixed-requires c = (c.in-Some.ensures.ready c.in-Some.word refl).1

pub returns-in-Some : goal.returns-in-Some
returns-in-Some c = λ word is.
    let same : c.in-Some.word ≡ word = cc in
    let ready = c.in-Some.ensures.ready c.in-Some.word refl in
    subst (StaysAt c.args.memory.now c.args.pc) same
    (record {
      here = record { stands = c.in-Some.ensures.value; ready = ready.0; low = ready.1 };
      fixed = λ i within. c.is_fixed.ensures c.if-is_fixed.true i within;
    })
