-- A constant of a draft over some data is one constant.
use Rattle.std.proofs.Common.{◌≡◌, ℕ, List, Option, None, Some, refl, sym, ap, subst, ◌∙◌}
use Rattle.std.specs.Prelude.{drop, slice_get}
use Rattle.scheme_base.specs.Constants.{Constant, Constant as constant}
use Rattle.scheme_base.proofs.Lists.{same_item}
use Rattle.datum_form.specs.declared.datums.Kind.{Kind}
use Rattle.datum_form.specs.declared.datums.Kind.TheVariants as kind
use Rattle.datum_form.specs.declared.datums.Node.{Node}
use Rattle.datum_form.proofs.OneDatum.{one_node, one_list}
use Rattle.draft_form.specs.declared.draft.Constant.{Constant as Held}
use Rattle.draft_form.specs.declared.draft.Constant.TheVariants as held
use Rattle.draft_form.specs.Quoted.{constant_of, constant_list, IsTail, IsRest, IsHeld, IsHeldWith}

same_tail : (nodes : List Node) (tail : Option ℕ) (c d : Constant) → IsTail nodes tail c → IsTail nodes tail d → c ≡ d
same_tail nodes None c d h k = h ∙ sym k
same_tail nodes (Some id) c d h k = h.2 ∙ (ap constant_of (one_node nodes id h.0 k.0 h.1 k.1) ∙ sym k.2)

same_rest : (nodes : List Node) (from : ℕ) (k : Kind) (c d : Constant) → IsRest nodes from k c → IsRest nodes from k d → c ≡ d
same_rest nodes from (kind.List ids tail) c d h k =
    h.4
    ∙ (ap (λ is. constant_list is h.1) (one_list nodes (drop from ids) (drop from ids) refl h.0 k.0 h.2 k.2)
    ∙ (ap (constant_list k.0) (same_tail nodes tail h.1 k.1 h.3 k.3) ∙ sym k.4))
same_rest nodes from (kind.Vector ids) c d h k =
    h.2
    ∙ (ap (λ is. constant_list is constant.Nil) (one_list nodes (drop from ids) (drop from ids) refl h.0 k.0 h.1 k.1) ∙ sym k.2)
same_rest nodes from (kind.Integer z) c d h k = absurd h
same_rest nodes from (kind.Boolean b) c d h k = absurd h
same_rest nodes from (kind.Char b) c d h k = absurd h
same_rest nodes from (kind.Text b) c d h k = absurd h
same_rest nodes from (kind.Name b) c d h k = absurd h

pub same_constant : (symbols : Constant) (nodes : List Node) (h : Held) (c d : Constant) → IsHeld nodes h c
    → IsHeldWith symbols nodes h d → c ≡ d
same_constant symbols nodes (held.Datum id) c d h k = h.2 ∙ (ap constant_of (one_node nodes id h.0 k.0 h.1 k.1) ∙ sym k.2)
same_constant symbols nodes (held.Rest id from) c d h k =
    let P : Node → Type 0 = λ n. IsRest nodes from n.kind d in
    same_rest nodes from h.0.kind c d h.2 (subst P (same_item (slice_get nodes id) k.0 h.0 k.1 h.1) k.2)
same_constant symbols nodes (held.Integer z) c d h k = h ∙ sym k
same_constant symbols nodes (held.Boolean b) c d h k = h ∙ sym k
same_constant symbols nodes held.Nil c d h k = h ∙ sym k
same_constant symbols nodes held.Unspecified c d h k = h ∙ sym k
same_constant symbols nodes held.Undefined c d h k = h ∙ sym k
same_constant symbols nodes held.Symbols c d h k = absurd h
