-- The items of a short list, and the faults of a conditional expression.
use Rattle.std.proofs.Common.{ℕ, ◌≡◌, ◌<◌, ◌≤◌, List, [], ◌∷◌, ◌++◌, length, get_or, refl, sym, ap, ◌∙◌, arith}
use Rattle.scheme_base.specs.declared.pos.Pos.{Pos}
use Rattle.datum_form.specs.Data.{Datum, Items}
use Rattle.datum_form.specs.Data.Items.{none, item}
use Rattle.scheme_expand.specs.declared.source.Source.{Source}
use Rattle.scheme_expand.specs.Grammar.{if_form, expr}
use Rattle.scheme_expand.specs.Faults.{least, in_exp}
use Rattle.scheme_expand.specs.Waiting.{earlier, Reads, ReadAll}
use Rattle.scheme_expand.proofs.Due.{of, backwards}
use Rattle.scheme_expand.proofs.Least.{earlier_comm, least_append}
use Rattle.scheme_expand.proofs.Parts.{no_items, first_of}

pub record One (s : Source) (ids : List ℕ) (ds : Items) : Type 0 where
  pub only : Datum
  pub are : ds ≡ item only none
  pub read : Reads s (get_or ids 0 0) only

pub one_read : (s : Source) (ids : List ℕ) (ds : Items) → 1 ≤ length ids → length ids < 2 → ReadAll s ids ds → One s ids ds
one_read s [] ds least most h = absurd (omega (arith, least))
one_read s (i ∷ []) ds least most h =
    let p = first_of s (i ∷ []) i [] ds refl h in
    record { only = p.datum; are = p.are ∙ ap (item p.datum) (no_items s [] p.others refl p.rest); read = p.first }
one_read s (i ∷ j ∷ ids) ds least most h = absurd (omega (arith, most))

pub record Two (s : Source) (ids : List ℕ) (ds : Items) : Type 0 where
  pub test : Datum
  pub yes : Datum
  pub are : ds ≡ item test (item yes none)
  pub read_test : Reads s (get_or ids 0 0) test
  pub read_yes : Reads s (get_or ids 1 0) yes

pub two_read : (s : Source) (ids : List ℕ) (ds : Items) → 2 ≤ length ids → length ids < 3 → ReadAll s ids ds → Two s ids ds
two_read s [] ds least most h = absurd (omega (arith, least))
two_read s (i ∷ []) ds least most h = absurd (omega (arith, least))
two_read s (i ∷ j ∷ []) ds least most h =
    let p = first_of s (i ∷ j ∷ []) i (j ∷ []) ds refl h in
    let q = first_of s (j ∷ []) j [] p.others refl p.rest in
    record {
      test = p.datum;
      yes = q.datum;
      are = p.are ∙ ap (item p.datum) (q.are ∙ ap (item q.datum) (no_items s [] q.others refl q.rest));
      read_test = p.first;
      read_yes = q.first;
    }
two_read s (i ∷ j ∷ k ∷ ids) ds least most h = absurd (omega (arith, most))

pub two_due : (p : Pos) (ds : Items) (d e : Datum) → ds ≡ item d (item e none)
    → earlier (of e) (of d) ≡ least (in_exp (if_form p ds))
two_due p ds d e are =
    earlier_comm (of e) (of d)
    ∙ (sym (least_append (in_exp (expr d)) (in_exp (expr e))) ∙ ap (λ l. least (in_exp (if_form p l))) (sym are))

pub record Three (s : Source) (ids : List ℕ) (ds : Items) : Type 0 where
  pub test : Datum
  pub yes : Datum
  pub no : Datum
  pub are : ds ≡ item test (item yes (item no none))
  pub read_test : Reads s (get_or ids 0 0) test
  pub read_yes : Reads s (get_or ids 1 0) yes
  pub read_no : Reads s (get_or ids 2 0) no

pub three_read : (s : Source) (ids : List ℕ) (ds : Items) → 3 ≤ length ids → length ids < 4 → ReadAll s ids ds → Three s ids ds
three_read s [] ds least most h = absurd (omega (arith, least))
three_read s (i ∷ []) ds least most h = absurd (omega (arith, least))
three_read s (i ∷ j ∷ []) ds least most h = absurd (omega (arith, least))
three_read s (i ∷ j ∷ k ∷ []) ds least most h =
    let p = first_of s (i ∷ j ∷ k ∷ []) i (j ∷ k ∷ []) ds refl h in
    let q = first_of s (j ∷ k ∷ []) j (k ∷ []) p.others refl p.rest in
    let r = first_of s (k ∷ []) k [] q.others refl q.rest in
    record {
      test = p.datum;
      yes = q.datum;
      no = r.datum;
      are =
          p.are
          ∙ ap (item p.datum) (q.are ∙ ap (item q.datum) (r.are ∙ ap (item r.datum) (no_items s [] r.others refl r.rest)));
      read_test = p.first;
      read_yes = q.first;
      read_no = r.first;
    }
three_read s (i ∷ j ∷ k ∷ l ∷ ids) ds least most h = absurd (omega (arith, most))

pub three_due : (p : Pos) (ds : Items) (d e f : Datum) → ds ≡ item d (item e (item f none))
    → earlier (of f) (earlier (of e) (of d)) ≡ least (in_exp (if_form p ds))
three_due p ds d e f are =
    backwards (of d) (of e) (of f)
    ∙ (ap (earlier (of d)) (sym (least_append (in_exp (expr e)) (in_exp (expr f))))
    ∙ (sym (least_append (in_exp (expr d)) (in_exp (expr e) ++ in_exp (expr f)))
    ∙ ap (λ l. least (in_exp (if_form p l))) (sym are)))
