use Rattle.std.proofs.Common.{if◌then◌else◌, sym, ap, ◌∙◌}
use Rattle.box_name.proofs.sure.since_form.Goals as goal

pub returns-then-is_plain_definition : goal.returns-then-is_plain_definition
returns-then-is_plain_definition c =
    λ e st.
    ap (λ t. if t then c.args.since else c.args.after) (sym c.if-is_plain_definition.true ∙ c.is_plain_definition.ensures e st)

pub returns-else-is_plain_definition : goal.returns-else-is_plain_definition
returns-else-is_plain_definition c =
    λ e st.
    ap (λ t. if t then c.args.since else c.args.after) (sym c.if-is_plain_definition.false ∙ c.is_plain_definition.ensures e st)
