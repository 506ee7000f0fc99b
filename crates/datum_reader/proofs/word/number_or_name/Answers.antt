use Rattle.std.proofs.Common.{sym, ap, ◌∙◌, rules, w64, SFits}
use Rattle.std.proofs.lemmas.Int.{to_z-of_z}
use Rattle.datum_form.specs.Words.{number}
use Rattle.datum_reader.specs.Numbers.{numeral_of}
use Rattle.datum_reader.proofs.RunsWithoutNumber.{no_number, one_number, outside}
use Rattle.datum_reader.proofs.word.number_or_name.Goals as goal

pub returns-in-NoNumber : goal.returns-in-NoNumber
returns-in-NoNumber c =
    let same = ap (λ t. numeral_of (number t)) (sym c.as_slice.ensures) in
    c.name_word.ensures
    ∙ sym (no_number c.args.pos c.args.text (number c.args.text) (same ∙ (sym c.number.ensures ∙ c.in-NoNumber.is)))

pub returns-in-Value : goal.returns-in-Value
returns-in-Value c =
    let same = ap (λ t. numeral_of (number t)) (sym c.as_slice.ensures) in
    let read : SFits w64 c.in-Value.value = search (rules, c.number.type_inv, c.number.auto) in
    rw (to_z-of_z w64 c.in-Value.value read)
    (sym (one_number c.args.pos c.args.text (number c.args.text) c.in-Value.value
    (same ∙ (sym c.number.ensures ∙ c.in-Value.is))))

pub returns-in-OutOfRange : goal.returns-in-OutOfRange
returns-in-OutOfRange c =
    let same = ap (λ t. numeral_of (number t)) (sym c.as_slice.ensures) in
    sym (outside c.args.pos c.args.text (number c.args.text) (same ∙ (sym c.number.ensures ∙ c.in-OutOfRange.is)))
