-- When two names are one.
use Rattle.std.proofs.Common.{◌≡◌, Bool, true, false, refl, sym, ap, ◌∙◌, true≢false}
use Rattle.std.specs.Bool.{Decides}
use Rattle.std.proofs.lemmas.Bool.Decides.{Decides-and}
use Rattle.std.proofs.lemmas.Slice.Eq.{bytes_eq-Decides}
use Rattle.std.specs.Str.{bytes_eq}
use Rattle.core_form.specs.declared.program.Var.{Var}
use Rattle.std.specs.Bool.{beq}
use Rattle.std.specs.Cmp.{booleans_Decides}
use Rattle.alpha_core.specs.declared.name.Name.{Name}
use Rattle.alpha_core.specs.Names.{var_of, same_name}
use Rattle.core_form.specs.Variables.{same_flag, same_var}

flag_decides : (a b : Bool) → Decides (same_flag a b) (a ≡ b)
flag_decides true true = (λ _. refl, λ _. refl)
flag_decides true false = (λ e. absurd (true≢false (sym e)), λ e. absurd (true≢false e))
flag_decides false true = (λ e. absurd (true≢false (sym e)), λ e. absurd (true≢false (sym e)))
flag_decides false false = (λ _. refl, λ _. refl)

both : (x y : Var) → x.name ≡ y.name → x.lib ≡ y.lib → x ≡ y
both x y p q = λ i. record { name = p i; lib = q i }

pub same_decides : (x y : Var) → Decides (same_var x y) (x ≡ y)
same_decides x y =
    let d = Decides-and (bytes_eq x.name y.name) (same_flag x.lib y.lib) (bytes_eq-Decides x.name y.name) (flag_decides x.lib y.lib) in
    (λ e. let h = d.0 e in both x y h.0 h.1, λ e. d.1 (ap (λ v. v.name) e, ap (λ v. v.lib) e))

agree : (a b : Bool) → (a ≡ true → b ≡ true) → (b ≡ true → a ≡ true) → a ≡ b
agree true b f g = sym (f refl)
agree false true f g = g refl
agree false false f g = refl

pub name_decides : (j k : Name) → Decides (same_name j k) (var_of j ≡ var_of k)
name_decides j k =
    let d =
    Decides-and (bytes_eq j.bytes.now k.bytes.now) (beq j.lib k.lib) (bytes_eq-Decides j.bytes.now k.bytes.now)
    (booleans_Decides j.lib k.lib)
    in
    (λ e. let h = d.0 e in both (var_of j) (var_of k) h.0 h.1, λ e. d.1 (ap (λ v. v.name) e, ap (λ v. v.lib) e))

-- a key of a variable tells whether another key's variable is that variable
pub name_tells : (j k : Name) (x : Var) → var_of j ≡ x → same_name j k ≡ same_var (var_of k) x
name_tells j k x e =
    agree (same_name j k) (same_var (var_of k) x)
    (λ h. (same_decides (var_of k) x).1 (sym ((name_decides j k).0 h) ∙ e))
    (λ h. (name_decides j k).1 (e ∙ sym ((same_decides (var_of k) x).0 h)))
