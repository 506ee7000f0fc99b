-- What calls are, as they are made.
use Rattle.std.proofs.Common.{◌≡◌, List, sym, ◌∙◌, ap}
use Rattle.flat_form.specs.declared.program.FlatAct.{fold-roll-FlatAct}
use Rattle.flat_form.specs.declared.program.FlatAct.TheVariants as made
use Rattle.flat_form.specs.declared.program.FlatAct.TheOpen as layer
use Rattle.flat_form.specs.declared.program.Mode.{Mode}
use Rattle.flat_form.specs.declared.program.Place.{Place}
use Rattle.flat_form.specs.FlatCode as flat
use Rattle.flat_form.specs.FlatWritten.{act, Onto, act_layer, block_layer, step_layer}

pub call_is :
    (f g : Place) (ps qs : List Place) (m n : Mode)
    → f ≡ g
    → ps ≡ qs
    → m ≡ n
    → act (made.Call f ps m) ≡ flat.Call g qs n
call_is f g ps qs m n operator operands mode =
    ap act (sym (made.rolls-Call f ps m)) ∙ fold-roll-FlatAct flat.Act flat.Code Onto act_layer block_layer step_layer (layer.Call f ps m)
    ∙ ap (λ p. flat.Call p ps m) operator ∙ ap (λ p. flat.Call g p m) operands ∙ ap (λ p. flat.Call g qs p) mode

pub apply_is :
    (f g l k : Place) (m n : Mode)
    → f ≡ g
    → l ≡ k
    → m ≡ n
    → act (made.Apply f l m) ≡ flat.Apply g k n
apply_is f g l k m n operator list mode =
    ap act (sym (made.rolls-Apply f l m)) ∙ fold-roll-FlatAct flat.Act flat.Code Onto act_layer block_layer step_layer (layer.Apply f l m)
    ∙ ap (λ p. flat.Apply p l m) operator ∙ ap (λ p. flat.Apply g p m) list ∙ ap (λ p. flat.Apply g k p) mode

pub call_cc_is : (f g : Place) (m n : Mode) → f ≡ g → m ≡ n → act (made.CallCC f m) ≡ flat.CallCC g n
call_cc_is f g m n operator mode =
    ap act (sym (made.rolls-CallCC f m)) ∙ fold-roll-FlatAct flat.Act flat.Code Onto act_layer block_layer step_layer (layer.CallCC f m)
    ∙ ap (λ p. flat.CallCC p m) operator ∙ ap (λ p. flat.CallCC g p) mode
