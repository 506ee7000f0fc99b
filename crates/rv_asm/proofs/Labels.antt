-- Two labels are told apart by their parts.
use Rattle.std.proofs.Common.{◌≡◌, ℕ, Bool, true, false, refl, cond}
use Rattle.std.specs.Prelude.{Option, Some, None, if◌then◌else◌}
use Rattle.std.proofs.Math.Path.{fun_ext}
use Rattle.const_data.specs.declared.word.Label.{Label}
use Rattle.const_data.specs.declared.word.Label.TheVariants as label
use Rattle.const_data.specs.contracts.word.LabelPartialEq.TheImpl.{eq-value}
use Rattle.rv_asm.specs.Layout.{same_label, or_else}

pub label_eq : (a b : Label) → eq-value.it a b ≡ same_label a b
label_eq (label.Routine a) (label.Routine x) = refl
label_eq (label.Routine a) (label.Entry x y z) = refl
label_eq (label.Routine a) (label.Body x y) = refl
label_eq (label.Routine a) (label.Inner x y) = refl
label_eq (label.Routine a) (label.Word x) = refl
label_eq (label.Routine a) label.HeapStart = refl
label_eq (label.Routine a) label.HeapEnd = refl
label_eq (label.Entry a b c) (label.Routine x) = refl
label_eq (label.Entry a b true) (label.Entry x y true) = refl
label_eq (label.Entry a b true) (label.Entry x y false) = refl
label_eq (label.Entry a b false) (label.Entry x y true) = refl
label_eq (label.Entry a b false) (label.Entry x y false) = refl
label_eq (label.Entry a b c) (label.Body x y) = refl
label_eq (label.Entry a b c) (label.Inner x y) = refl
label_eq (label.Entry a b c) (label.Word x) = refl
label_eq (label.Entry a b c) label.HeapStart = refl
label_eq (label.Entry a b c) label.HeapEnd = refl
label_eq (label.Body a b) (label.Routine x) = refl
label_eq (label.Body a b) (label.Entry x y z) = refl
label_eq (label.Body a b) (label.Body x y) = refl
label_eq (label.Body a b) (label.Inner x y) = refl
label_eq (label.Body a b) (label.Word x) = refl
label_eq (label.Body a b) label.HeapStart = refl
label_eq (label.Body a b) label.HeapEnd = refl
label_eq (label.Inner a b) (label.Routine x) = refl
label_eq (label.Inner a b) (label.Entry x y z) = refl
label_eq (label.Inner a b) (label.Body x y) = refl
label_eq (label.Inner a b) (label.Inner x y) = refl
label_eq (label.Inner a b) (label.Word x) = refl
label_eq (label.Inner a b) label.HeapStart = refl
label_eq (label.Inner a b) label.HeapEnd = refl
label_eq (label.Word a) (label.Routine x) = refl
label_eq (label.Word a) (label.Entry x y z) = refl
label_eq (label.Word a) (label.Body x y) = refl
label_eq (label.Word a) (label.Inner x y) = refl
label_eq (label.Word a) (label.Word x) = refl
label_eq (label.Word a) label.HeapStart = refl
label_eq (label.Word a) label.HeapEnd = refl
label_eq label.HeapStart (label.Routine x) = refl
label_eq label.HeapStart (label.Entry x y z) = refl
label_eq label.HeapStart (label.Body x y) = refl
label_eq label.HeapStart (label.Inner x y) = refl
label_eq label.HeapStart (label.Word x) = refl
label_eq label.HeapStart label.HeapStart = refl
label_eq label.HeapStart label.HeapEnd = refl
label_eq label.HeapEnd (label.Routine x) = refl
label_eq label.HeapEnd (label.Entry x y z) = refl
label_eq label.HeapEnd (label.Body x y) = refl
label_eq label.HeapEnd (label.Inner x y) = refl
label_eq label.HeapEnd (label.Word x) = refl
label_eq label.HeapEnd label.HeapStart = refl
label_eq label.HeapEnd label.HeapEnd = refl

pub label_eqs : eq-value.it ≡ same_label
label_eqs = fun_ext (λ a. fun_ext (λ b. label_eq a b))

pub or_else_cond : (b : Bool) (at : ℕ) (known : Option ℕ)
    → or_else (if b then Some at else None) known ≡ cond b (Some at) known
or_else_cond true at known = refl
or_else_cond false at known = refl
