use Rattle.std.proofs.Common.{rules, w64, SFits, ◌∷◌, [], refl, sym, ap, ◌∙◌}
use Rattle.std.proofs.lemmas.Int.{to_z-of_z}
use Rattle.scheme_base.specs.declared.lit.Lit.TheVariants as lit
use Rattle.datum_form.specs.declared.token.Atom.TheVariants.{Integer, Boolean, Character, String, Symbol}
use Rattle.draft_form.proofs.literal.leaf.Goals as goal

pub returns-in-Integer : goal.returns-in-Integer
returns-in-Integer c =
    let fits : SFits w64 c.in-Integer.value = search (rules, c.well_formed) in (
      Integer c.in-Integer.value,
      c.in-Integer.is,
      λ i. ap (λ z. lit.Integer z ∷ []) (sym (to_z-of_z w64 c.in-Integer.value fits)),
    )

pub returns-in-Boolean : goal.returns-in-Boolean
returns-in-Boolean c = (Boolean c.in-Boolean.value, c.in-Boolean.is, λ i. refl)

pub returns-in-Char : goal.returns-in-Char
returns-in-Char c = (Character c.in-Char.byte, c.in-Char.is, λ i. refl)

pub returns-in_ok-bytes-in-Text : goal.returns-in_ok-bytes-in-Text
returns-in_ok-bytes-in-Text c = (
  String c.in-Text.bytes,
  c.in-Text.is,
  λ i. ap (λ bytes. lit.Text bytes ∷ []) (sym (c.in_ok-bytes-in-Text.ensures ∙ c.as_slice.ensures)),
)

pub returns-in_ok-name-in-Name : goal.returns-in_ok-name-in-Name
returns-in_ok-name-in-Name c = (
  Symbol c.in-Name.name,
  c.in-Name.is,
  λ i. ap (λ x. lit.Symbol x ∷ []) (sym (c.in_ok-name-in-Name.ensures ∙ c.as_slice-in-Name.ensures)),
)
