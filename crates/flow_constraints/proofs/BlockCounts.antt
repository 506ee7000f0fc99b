-- How many rules the values of blocks have.
use Rattle.std.proofs.Common.{◌≡◌, ℕ, ◌+◌, ◌<◌, List, ◌∷◌, length, drop, get_or, map, sym, ap, ◌∙◌}
use Rattle.std.proofs.lemmas.List.{at_drop_more}
use Rattle.scheme_base.specs.declared.lit.Lit.{Lit}
use Rattle.scheme_base.specs.declared.pos.Pos.{Pos}
use Rattle.named_form.specs.declared.program.Act.{Act as ActType, fold-roll-Act}
use Rattle.named_form.specs.declared.program.Act.TheVariants as made
use Rattle.named_form.specs.declared.program.Act.TheOpen as layer
use Rattle.named_form.specs.declared.program.Block.{Block, out-Block}
use Rattle.named_form.specs.declared.program.Proc.{Proc}
use Rattle.named_form.specs.Code.{Code, Act}
use Rattle.named_form.specs.Written.{Onto, act_layer, act_of, block_layer, code, procedure, step_layer}
use Rattle.flow_constraints.specs.declared.flow.Flow.{Flow}
use Rattle.flow_constraints.specs.Counting.{code_count, lambdas_count, own_count, value_count}
use Rattle.flow_constraints.specs.Table.{ending}
use Rattle.flow_constraints.proofs.Endings.{ending_code}

pub choice_counted : (f : Flow) (lits : List Lit) (n test : ℕ) (act : ActType) (this that : Block) → act ≡ made.If test this that
    → own_count f lits n (act_of act) ≡ (2 + value_count (out-Block this).value) + value_count (out-Block that).value
choice_counted f lits n test act this that is =
    ap (λ a. own_count f lits n (act_of a)) is
    ∙ (ap (own_count f lits n)
    (ap act_of (sym (made.rolls-If test this that))
    ∙ fold-roll-Act (Act Pos) (Code Pos) Onto act_layer block_layer step_layer (layer.If test this that))
    ∙ (ap (λ o. (2 + value_count o) + value_count (ending (code that))) (ending_code this)
    ∙ ap (λ o. (2 + value_count (out-Block this).value) + value_count o) (ending_code that)))

pub lambdas_more : (f : Flow) (lits : List Lit) (ps : List Proc) (n : ℕ) (p : Proc) → n < length ps → p ≡ get_or ps n p
    → lambdas_count f lits (map procedure (drop n ps))
    ≡ (code_count f lits (code p.body) + value_count (out-Block p.body).value)
    + lambdas_count f lits (map procedure (drop (n + 1) ps))
lambdas_more f lits ps n p within is =
    let others = map procedure (drop (n + 1) ps) in
    at_drop_more (λ qs. lambdas_count f lits (map procedure qs)) ps n p within
    ∙ (ap (λ q. lambdas_count f lits (procedure q ∷ others)) (sym is)
    ∙ ap (λ o. (code_count f lits (code p.body) + value_count o) + lambdas_count f lits others) (ending_code p.body))
