use Rattle.std.proofs.Common.{sym, ap, ◌∙◌, subst}
use Rattle.std.specs.Prelude.{OnOk}
use Rattle.scheme_base.specs.declared.lit.Lit.TheVariants as lit
use Rattle.const_data.specs.Naming.{Notes}
use Rattle.const_data.proofs.Named.{passes}
use Rattle.const_data.proofs.names.Names.note.Goals as goal

pub returns-in-Symbol : goal.returns-in-Symbol
returns-in-Symbol c =
    subst (λ l. OnOk c.note_symbol.result (Notes c.args.self.now c.note_symbol.new.self l))
    (ap lit.Symbol c.as_slice.ensures ∙ sym c.in-Symbol.is) c.note_symbol.ensures

pub returns-in_default : goal.returns-in_default
returns-in_default c = passes c.args.lit.now c.args.self.now c.in_default.not-Symbol
