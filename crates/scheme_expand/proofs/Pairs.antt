-- Bindings, pair by pair.
use Rattle.std.proofs.Common.{ℕ, ◌≡◌, ◌≤◌, ◌<◌, List, [], ◌∷◌, ◌++◌, Option, Some, None, true, false, length, get_or, refl, sym, ap, subst, ◌∙◌, append_assoc}
use Rattle.std.specs.Prelude.{slice_get, ◌&&◌}
use Rattle.std.proofs.lemmas.List.{append-nil}
use Rattle.scheme_base.specs.declared.pos.Pos.{Pos}
use Rattle.datum_form.specs.declared.token.Atom.TheVariants.{Integer, Boolean, Character, String, Symbol}
use Rattle.datum_form.specs.Data.{Datum, Datum as datum, Items}
use Rattle.datum_form.specs.Data.Items.{none, item}
use Rattle.scheme_expand.specs.declared.source.Source.{Source}
use Rattle.scheme_expand.specs.declared.binding.Bindings.{Bindings as Pairs}
use Rattle.scheme_expand.specs.Forms.{Word, Exps, no_exp, exp}
use Rattle.quasi_expand.specs.Shapes.{is_name, is_list, is_list_of, all_items}
use Rattle.scheme_expand.specs.Grammar.{word, is_binding, bound_words, expr, exprs, bindings, binding_list}
use Rattle.scheme_expand.specs.Faults.{in_exp, in_exps}
use Rattle.scheme_expand.specs.Noted.{level_in}
use Rattle.scheme_expand.specs.Shapes.{IsPair, AreBindings, value_exps}
use Rattle.scheme_expand.specs.Waiting.{named_datum, named_data, in_values, Reads, ReadAll, IsList}
use Rattle.scheme_expand.proofs.Arms.{two_read}
use Rattle.scheme_expand.proofs.Operators.{name_read}
use Rattle.scheme_expand.proofs.Parameters.{not_named}
use Rattle.scheme_expand.proofs.Parts.{no_items, first_of, joined, read_one, read_joined}

-- One pair

pub pair_read : (s : Source) (ids : List ℕ) (d : Datum) (w : ℕ) (found : Option ℕ) → IsList s ids d → 2 ≤ length ids
    → length ids < 3 → found ≡ level_in (slice_get s.words.now (get_or ids 0 0)) → found ≡ Some w
    → IsPair s (get_or ids 0 0) (get_or ids 1 0) d
pair_read s ids d w found i least most f g =
    let t = two_read s ids i.items least most i.read in
    let n = name_read s (get_or ids 0 0) t.test w found t.read_test f g in
    let P : Datum → Type 0 = λ x. Reads s (get_or ids 0 0) x in
    record {
      at = i.at;
      word = n.0;
      exp = t.yes;
      are = i.are ∙ ap (datum.List i.at) (t.are ∙ ap (λ x. item x (item t.yes none)) n.1);
      named = subst P n.1 t.read_test;
      valued = t.read_yes;
    }

no_name : (p : Pos) (d : Datum) (ds : Items) → is_name d ≡ false → is_binding (datum.List p (item d ds)) ≡ false
no_name p (datum.Atomic q (Symbol x)) ds e = absurd (cc)
no_name p (datum.Atomic q (Integer z)) ds e = refl
no_name p (datum.Atomic q (Boolean b)) ds e = refl
no_name p (datum.Atomic q (Character c)) ds e = refl
no_name p (datum.Atomic q (String t)) ds e = refl
no_name p (datum.List q is) ds e = refl
no_name p (datum.Dotted q is d) ds e = refl
no_name p (datum.Vector q is) ds e = refl

pub no_name_pair : (s : Source) (ids : List ℕ) (d : Datum) (found : Option ℕ) → IsList s ids d → 2 ≤ length ids
    → length ids < 3 → found ≡ level_in (slice_get s.words.now (get_or ids 0 0)) → found ≡ None → is_binding d ≡ false
no_name_pair s ids d found i least most f g =
    let t = two_read s ids i.items least most i.read in
    ap is_binding (i.are ∙ ap (datum.List i.at) t.are)
    ∙ no_name i.at t.test (item t.yes none) (not_named s (get_or ids 0 0) t.test found t.read_test f g)

not_two : (p : Pos) (d : Datum) (ds : Items) → ((e : Datum) → ds ≡ item e none → ⊥) → is_binding (datum.List p (item d ds)) ≡ false
not_two p (datum.Atomic q (Symbol x)) none absent = refl
not_two p (datum.Atomic q (Symbol x)) (item e none) absent = absurd (absent e refl)
not_two p (datum.Atomic q (Symbol x)) (item e (item f fs)) absent = refl
not_two p (datum.Atomic q (Integer z)) ds absent = refl
not_two p (datum.Atomic q (Boolean b)) ds absent = refl
not_two p (datum.Atomic q (Character c)) ds absent = refl
not_two p (datum.Atomic q (String t)) ds absent = refl
not_two p (datum.List q is) ds absent = refl
not_two p (datum.Dotted q is d) ds absent = refl
not_two p (datum.Vector q is) ds absent = refl

pub not_pair : (p : Pos) (ds : Items) → ((d e : Datum) → ds ≡ item d (item e none) → ⊥) → is_binding (datum.List p ds) ≡ false
not_pair p none absent = refl
not_pair p (item d ds) absent = not_two p d ds (λ e h. absent d e (ap (item d) h))

two_numbers : (s : Source) (ids : List ℕ) (d e : Datum) → ReadAll s ids (item d (item e none)) → length ids ≡ 2
two_numbers s ids d e h =
    let others = h.stand.4 in
    ap length (h.stand.2 ∙ ap (λ l. h.stand.0 ∷ l) (others.2 ∙ ap (λ l. others.0 ∷ l) others.4))

-- a list of more items, or of fewer
pub not_two_items : (s : Source) (ids : List ℕ) (d : Datum) → IsList s ids d → (length ids ≡ 2 → ⊥) → is_binding d ≡ false
not_two_items s ids d i absent =
    ap is_binding i.are
    ∙ not_pair i.at i.items
    (λ e f are. let P : Items → Type 0 = λ l. ReadAll s ids l in absurd (absent (two_numbers s ids e f (subst P are i.read))))

no_list_pair : (d : Datum) → is_list d ≡ false → is_binding d ≡ false
no_list_pair (datum.Atomic p a) h = refl
no_list_pair (datum.List p is) h = absurd (cc)
no_list_pair (datum.Dotted p is d) h = refl
no_list_pair (datum.Vector p is) h = refl

pub no_list_binding : (d : Datum) → is_list d ≡ false → is_binding d ≡ false
no_list_binding d h = no_list_pair d h

pub no_list_bindings : (d : Datum) → is_list d ≡ false → is_list_of is_binding d ≡ false
no_list_bindings (datum.Atomic p a) h = refl
no_list_bindings (datum.List p is) h = absurd (cc)
no_list_bindings (datum.Dotted p is d) h = refl
no_list_bindings (datum.Vector p is) h = refl

-- Pairs, one after another

-- the expressions of some data before others
abbrev exps_before : Items → Exps → Exps
exps_before none es = es
exps_before (item d ds) es = exp (expr d) (exps_before ds es)

before_none : (ds : Items) → exps_before ds no_exp ≡ exprs ds
before_none none = refl
before_none (item d ds) = ap (exp (expr d)) (before_none ds)

before_last : (ds : Items) (d : Datum) (es : Exps) → exps_before (joined ds (item d none)) es ≡ exps_before ds (exp (expr d) es)
before_last none d es = refl
before_last (item e ds) d es = ap (exp (expr e)) (before_last ds d es)

pub record PairsRead (s : Source) (ds : Items) (names values rest : List ℕ) : Type 0 where
  pub words : List Word
  pub exps : Items
  pub left : Items
  pub named : ReadAll s names (named_data words)
  pub valued : ReadAll s values exps
  pub read : ReadAll s rest left
  pub bound : bound_words (binding_list ds) ≡ words ++ bound_words (binding_list left)
  pub values_are : value_exps (binding_list ds) ≡ exps_before exps (value_exps (binding_list left))
  pub faults : in_values (binding_list ds) ≡ in_exps (exprs exps) ++ in_values (binding_list left)
  pub test : all_items is_binding ds ≡ all_items is_binding left

pub no_pairs_read : (s : Source) (ids names values : List ℕ) (ds : Items) → ReadAll s ids ds → names ≡ [] → values ≡ []
    → PairsRead s ds names values ids
no_pairs_read s ids names values ds h e f = record {
  words = [];
  exps = none;
  left = ds;
  named = record { named = h.named; stand = e };
  valued = record { named = h.named; stand = f };
  read = h;
  bound = refl;
  values_are = refl;
  faults = refl;
  test = refl;
}

pub behind : (ws : List Word) (v : Word) → joined (named_data ws) (item (named_datum v) none) ≡ named_data (ws ++ v ∷ [])
behind [] v = refl
behind (w ∷ ws) v = ap (item (named_datum w)) (behind ws v)

exps_behind : (ds : Items) (d : Datum) → in_exps (exprs (joined ds (item d none))) ≡ in_exps (exprs ds) ++ in_exp (expr d)
exps_behind none d = append-nil (in_exp (expr d))
exps_behind (item e es) d =
    ap (λ l. in_exp (expr e) ++ l) (exps_behind es d) ∙ sym (append_assoc (in_exp (expr e)) (in_exps (exprs es)) (in_exp (expr d)))

pub one_pair_read : (s : Source) (ds : Items) (names values names2 values2 rest others : List ℕ) (id name value : ℕ)
    → PairsRead s ds names values rest → rest ≡ id ∷ others → names2 ≡ names ++ name ∷ [] → values2 ≡ values ++ value ∷ []
    → ((d : Datum) → Reads s id d → IsPair s name value d) → PairsRead s ds names2 values2 others
one_pair_read s ds names values names2 values2 rest others id name value i e p q pair =
    let f = first_of s rest id others i.left e i.read in
    let n = pair f.datum f.first in
    let v = word n.word.place n.word.name in
    let bs = binding_list f.others in
    let same : i.left ≡ item (datum.List n.at (item (named_datum v) (item n.exp none))) f.others =
    f.are ∙ ap (λ d. item d f.others) n.are
    in
    let P : List ℕ → Type 0 = λ l. ReadAll s l (named_data (i.words ++ v ∷ [])) in
    let Q : List ℕ → Type 0 = λ l. ReadAll s l (joined i.exps (item n.exp none)) in
    let R : Items → Type 0 = λ l. ReadAll s (names ++ name ∷ []) l in
    record {
      words = i.words ++ v ∷ [];
      exps = joined i.exps (item n.exp none);
      left = f.others;
      named =
          subst P (sym p)
          (subst R (behind i.words v)
          (read_joined s names (name ∷ []) (named_data i.words) (item (named_datum v) none) i.named
          (read_one s name (named_datum v) n.named)));
      valued =
          subst Q (sym q)
          (read_joined s values (value ∷ []) i.exps (item n.exp none) i.valued (read_one s value n.exp n.valued));
      read = f.rest;
      bound =
          i.bound
          ∙ (ap (λ l. i.words ++ bound_words (binding_list l)) same ∙ sym (append_assoc i.words (v ∷ []) (bound_words bs)));
      values_are =
          i.values_are
          ∙ (ap (λ l. exps_before i.exps (value_exps (binding_list l))) same ∙ sym (before_last i.exps n.exp (value_exps bs)));
      faults =
          i.faults
          ∙ (ap (λ l. in_exps (exprs i.exps) ++ in_values (binding_list l)) same
          ∙ (sym (append_assoc (in_exps (exprs i.exps)) (in_exp (expr n.exp)) (in_values bs))
          ∙ ap (λ l. l ++ in_values bs) (sym (exps_behind i.exps n.exp))));
      test = i.test ∙ ap (all_items is_binding) same;
    }

-- one that is no pair
pub broken_pair : (s : Source) (d : Datum) (ids names values rest others : List ℕ) (id : ℕ) → (l : IsList s ids d)
    → PairsRead s l.items names values rest → rest ≡ id ∷ others → ((e : Datum) → Reads s id e → is_binding e ≡ false)
    → is_list_of is_binding d ≡ false
broken_pair s d ids names values rest others id l i e bad =
    let f = first_of s rest id others i.left e i.read in
    ap (is_list_of is_binding) l.are
    ∙ (i.test ∙ (ap (all_items is_binding) f.are ∙ ap (λ b. b && all_items is_binding f.others) (bad f.datum f.first)))

pub all_pairs_read : (s : Source) (d : Datum) (ids names values rest : List ℕ) (pairs : Pairs) → (l : IsList s ids d)
    → PairsRead s l.items names values rest → rest ≡ [] → pairs.names.items ≡ names → pairs.values.items ≡ values
    → (is_list_of is_binding d ≡ true) × AreBindings s pairs (bindings d)
all_pairs_read s d ids names values rest pairs l i e p q =
    let over = no_items s rest i.left e i.read in
    let same : bindings d ≡ binding_list l.items = ap bindings l.are in
    let all : bound_words (bindings d) ≡ i.words =
    ap bound_words same ∙ (i.bound ∙ (ap (λ x. i.words ++ bound_words (binding_list x)) over ∙ append-nil i.words))
    in
    let P : List ℕ → Type 0 = λ x. ReadAll s x (named_data (bound_words (bindings d))) in
    let Q : List ℕ → Type 0 = λ x. ReadAll s x i.exps in
    let R : List Word → Type 0 = λ ws. ReadAll s names (named_data ws) in (
      ap (is_list_of is_binding) l.are ∙ (i.test ∙ ap (all_items is_binding) over),
      record {
        names = subst P (sym p) (subst R (sym all) i.named);
        items = i.exps;
        values = subst Q (sym q) i.valued;
        exps =
            ap value_exps same
            ∙ (i.values_are ∙ (ap (λ x. exps_before i.exps (value_exps (binding_list x))) over ∙ before_none i.exps));
        same =
            ap in_values same
            ∙ (i.faults ∙ (ap (λ x. in_exps (exprs i.exps) ++ in_values (binding_list x)) over ∙ append-nil (in_exps (exprs i.exps))));
      },
    )
