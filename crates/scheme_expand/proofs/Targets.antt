-- The two forms of a definition, and what else begins with `define`.
use Rattle.std.proofs.Common.{ℕ, ◌≡◌, List, [], ◌∷◌, Option, Some, None, true, false, refl, sym, ap, subst, ◌∙◌}
use Rattle.std.specs.Prelude.{slice_get, Result, Ok, Err, if◌then◌else◌, codes}
use Rattle.scheme_base.specs.declared.pos.Pos.{Pos}
use Rattle.datum_form.specs.declared.token.Atom.TheVariants.{Integer, Boolean, Character, String, Symbol}
use Rattle.datum_form.specs.Data.{Datum, Datum as datum, Items}
use Rattle.datum_form.specs.Data.Items.{none, item}
use Rattle.scheme_expand.specs.declared.fault.Rule.{Rule}
use Rattle.scheme_expand.specs.declared.source.Source.{Source}
use Rattle.scheme_expand.specs.declared.formals.Formals.{Formals}
use Rattle.scheme_expand.specs.declared.body.Definition.{Definition}
use Rattle.scheme_expand.specs.declared.body.Defined.{Defined}
use Rattle.scheme_expand.specs.declared.body.Defined.TheVariants as defined
use Rattle.scheme_expand.specs.Forms.{Word, Bindings, broken}
use Rattle.quasi_expand.specs.Shapes.{is_name, is_list, is_word}
use Rattle.scheme_expand.specs.Grammar.{word, words, is_define, procedure_binding, procedure, expr, body, definition, definitions_before, each_definition}
use Rattle.scheme_expand.specs.Noted.{level_in, number_of}
use Rattle.scheme_expand.specs.Shapes.{IsRead, IsDefined, IsValue, IsListed, AreFormals, with_end, is_listed, all_names, end_word}
use Rattle.scheme_expand.specs.Waiting.{place, named_datum, Reads, ReadAll, IsList}
use Rattle.scheme_expand.proofs.Operators.{name_read}
use Rattle.scheme_expand.proofs.Parameters.{not_named}
use Rattle.scheme_expand.proofs.Parts.{first_of, no_items}

-- What begins with `define`

pub no_list : (d : Datum) (bs : Bindings) → is_define d ≡ true → is_list d ≡ false → definitions_before d bs ≡ broken (place d) 10 bs
no_list (datum.Atomic p a) bs h e = absurd (cc)
no_list (datum.List p is) bs h e = absurd (cc)
no_list (datum.Dotted p is d) bs h e = refl
no_list (datum.Vector p is) bs h e = absurd (cc)

defined_by : (p : Pos) (h : Datum) (ds : Items) (bs : Bindings) → is_word (codes "define") h ≡ true
    → definitions_before (datum.List p (item h ds)) bs ≡ definition p ds bs
defined_by p h ds bs e = ap (λ b. if b then definition p ds bs else each_definition ds bs) e

no_head : (d : Datum) (at : Pos) (items : Items) → d ≡ datum.List at items → items ≡ none → is_define d ≡ true → ⊥
no_head d at items are e h =
    let P : Datum → Type 0 = λ x. is_define x ≡ true in
    let k : false ≡ true = subst P (are ∙ ap (datum.List at) e) h in
    cc

-- nothing is in the list
pub nothing_in : (s : Source) (d : Datum) (ids : List ℕ) (bs : Bindings) → IsList s ids d → is_define d ≡ true → ids ≡ []
    → definitions_before d bs ≡ broken (place d) 11 bs
nothing_in s d ids bs i h e = absurd (no_head d i.at i.items i.are (no_items s ids i.items e i.read) h)

-- nothing is after the head
pub nothing_after : (s : Source) (d : Datum) (ids ops : List ℕ) (head : ℕ) (bs : Bindings) → IsList s ids d
    → is_define d ≡ true → ids ≡ head ∷ ops → ops ≡ [] → definitions_before d bs ≡ broken (place d) 11 bs
nothing_after s d ids ops head bs i h e q =
    let f = first_of s ids head ops i.items e i.read in
    let same : d ≡ datum.List i.at (item f.datum none) =
    i.are ∙ ap (datum.List i.at) (f.are ∙ ap (item f.datum) (no_items s ops f.others q f.rest))
    in
    let P : Datum → Type 0 = λ x. is_define x ≡ true in
    ap (λ x. definitions_before x bs) same
    ∙ (defined_by i.at f.datum none bs (subst P same h) ∙ ap (λ x. broken (place x) 11 bs) (sym same))

pub read_as : (s : Source) (r : Result Definition Rule) (p : Pos) (f g : Bindings → Bindings)
    → ((bs : Bindings) → g bs ≡ f bs) → IsRead s r p f → IsRead s r p g
read_as s (Ok def) p f g e i =
    record { word = i.word; exp = i.exp; binds = λ bs. e bs ∙ i.binds bs; name = i.name; is = i.is }
read_as s (Err rule) p f g e i = λ bs. e bs ∙ i bs

pub good_read : (s : Source) (r : Result Definition Rule) (def : Definition) (p : Pos) (f : Bindings → Bindings)
    → IsRead s r p f → r ≡ Ok def → IsDefined s def p f
good_read s r def p f i e = let P : Result Definition Rule → Type 0 = λ x. IsRead s x p f in subst P e i

pub bad_read : (s : Source) (r : Result Definition Rule) (rule : Rule) (p : Pos) (f : Bindings → Bindings)
    → IsRead s r p f → r ≡ Err rule → (bs : Bindings) → f bs ≡ broken p (number_of rule) bs
bad_read s r rule p f i e = let P : Result Definition Rule → Type 0 = λ x. IsRead s x p f in subst P e i

pub target_read : (s : Source) (d : Datum) (ids ops rest : List ℕ) (head target : ℕ) (r : Result Definition Rule)
    → IsList s ids d → is_define d ≡ true → ids ≡ head ∷ ops → ops ≡ target ∷ rest
    → ((t : Datum) (ds : Items) (p : Pos) → Reads s target t → ReadAll s rest ds → IsRead s r p (definition p (item t ds)))
    → IsRead s r (place d) (definitions_before d)
target_read s d ids ops rest head target r i h e q k =
    let f = first_of s ids head ops i.items e i.read in
    let g = first_of s ops target rest f.others q f.rest in
    let parts : Items = item g.datum g.others in
    let same : d ≡ datum.List i.at (item f.datum parts) = i.are ∙ ap (datum.List i.at) (f.are ∙ ap (item f.datum) g.are) in
    let P : Datum → Type 0 = λ x. is_define x ≡ true in
    let Q : Datum → Type 0 = λ x. IsRead s r (place x) (definitions_before x) in
    subst Q (sym same)
    (read_as s r i.at (definition i.at parts) (definitions_before (datum.List i.at (item f.datum parts)))
    (λ bs. defined_by i.at f.datum parts bs (subst P same h)) (k g.datum g.others i.at g.first g.rest))

-- Targets

pub name_target : (s : Source) (id w : ℕ) (d : Datum) (ds : Items) (p : Pos) (r : Result Definition Rule) (found : Option ℕ)
    → Reads s id d → found ≡ level_in (slice_get s.words.now id) → found ≡ Some w
    → ((v : Word) → Reads s id (named_datum v) → IsRead s r p (definition p (item (named_datum v) ds)))
    → IsRead s r p (definition p (item d ds))
name_target s id w d ds p r found h e f k =
    let n = name_read s id d w found h e f in
    let P : Datum → Type 0 = λ x. IsRead s r p (definition p (item x ds)) in
    let Q : Datum → Type 0 = λ x. Reads s id x in
    subst P (sym n.1) (k n.0 (subst Q n.1 h))

pub list_target : (s : Source) (ids : List ℕ) (tail : Option ℕ) (d : Datum) (ds : Items) (p : Pos)
    (r : Result Definition Rule) → (i : IsListed s ids tail d)
    → IsRead s r p (definition p (item (with_end i.at i.items i.end) ds)) → IsRead s r p (definition p (item d ds))
list_target s ids tail d ds p r i k =
    let P : Datum → Type 0 = λ x. IsRead s r p (definition p (item x ds)) in subst P (sym i.are) k

pub no_target : (d : Datum) (ds : Items) (p : Pos) (bs : Bindings) → is_name d ≡ false → is_listed d ≡ false
    → definition p (item d ds) bs ≡ broken p 11 bs
no_target (datum.Atomic q (Symbol x)) ds p bs h e = absurd (cc)
no_target (datum.Atomic q (Integer z)) ds p bs h e = refl
no_target (datum.Atomic q (Boolean b)) ds p bs h e = refl
no_target (datum.Atomic q (Character c)) ds p bs h e = refl
no_target (datum.Atomic q (String t)) ds p bs h e = refl
no_target (datum.List q is) ds p bs h e = absurd (cc)
no_target (datum.Dotted q is d) ds p bs h e = absurd (cc)
no_target (datum.Vector q is) ds p bs h e = refl

-- Values

value_read : (s : Source) (def : Definition) (w : Word) (e : Datum) (ds : Items) (p : Pos) (name id : ℕ)
    → Reads s name (named_datum w) → def.name ≡ name → def.value ≡ defined.Expr id → ds ≡ item e none → Reads s id e
    → IsDefined s def p (definition p (item (named_datum w) ds))
value_read s def w e ds p name id h q v are k =
    let P : ℕ → Type 0 = λ n. Reads s n (named_datum w) in
    let Q : Defined → Type 0 = λ x. IsValue s x p (expr e) in
    record {
      word = word w.place w.name;
      exp = expr e;
      binds = λ bs. ap (λ l. definition p (item (named_datum w) l) bs) are;
      name = subst P (sym q) h;
      is = subst Q (sym v) (e, k, refl);
    }

pub one_value : (s : Source) (def : Definition) (w : Word) (ds : Items) (p : Pos) (name id : ℕ) (rest more : List ℕ)
    → Reads s name (named_datum w) → def.name ≡ name → def.value ≡ defined.Expr id → ReadAll s rest ds → rest ≡ id ∷ more
    → more ≡ [] → IsDefined s def p (definition p (item (named_datum w) ds))
one_value s def w ds p name id rest more h q v k e f =
    let r = first_of s rest id more ds e k in
    value_read s def w r.datum ds p name id h q v (r.are ∙ ap (item r.datum) (no_items s more r.others f r.rest)) r.first

pub no_value : (s : Source) (w : Word) (ds : Items) (p : Pos) (bs : Bindings) (rest : List ℕ) → ReadAll s rest ds → rest ≡ []
    → definition p (item (named_datum w) ds) bs ≡ broken p 11 bs
no_value s w ds p bs rest k e = ap (λ l. definition p (item (named_datum w) l) bs) (no_items s rest ds e k)

pub two_values : (s : Source) (w : Word) (ds : Items) (p : Pos) (bs : Bindings) (id next : ℕ) (rest more others : List ℕ)
    → ReadAll s rest ds → rest ≡ id ∷ more → more ≡ next ∷ others
    → definition p (item (named_datum w) ds) bs ≡ broken p 11 bs
two_values s w ds p bs id next rest more others k e f =
    let r = first_of s rest id more ds e k in
    let q = first_of s more next others r.others f r.rest in
    ap (λ l. definition p (item (named_datum w) l) bs) (r.are ∙ ap (item r.datum) q.are)

-- Procedures

pub no_name_in : (q p : Pos) (ts : Items) (end : Option Datum) (ds : Items) (bs : Bindings) → ts ≡ none
    → definition p (item (with_end q ts end) ds) bs ≡ broken p 11 bs
no_name_in q p none None ds bs e = refl
no_name_in q p none (Some d) ds bs e = refl
no_name_in q p (item t ts) end ds bs e = absurd (cc)

pub other_name : (q p : Pos) (t : Datum) (ts : Items) (end : Option Datum) (ds : Items) (bs : Bindings) → is_name t ≡ false
    → definition p (item (with_end q (item t ts) end) ds) bs ≡ broken p 11 bs
other_name q p (datum.Atomic r (Symbol x)) ts end ds bs e = absurd (cc)
other_name q p (datum.Atomic r (Integer z)) ts None ds bs e = refl
other_name q p (datum.Atomic r (Boolean b)) ts None ds bs e = refl
other_name q p (datum.Atomic r (Character c)) ts None ds bs e = refl
other_name q p (datum.Atomic r (String t)) ts None ds bs e = refl
other_name q p (datum.List r is) ts None ds bs e = refl
other_name q p (datum.Dotted r is d) ts None ds bs e = refl
other_name q p (datum.Vector r is) ts None ds bs e = refl
other_name q p (datum.Atomic r (Integer z)) ts (Some f) ds bs e = refl
other_name q p (datum.Atomic r (Boolean b)) ts (Some f) ds bs e = refl
other_name q p (datum.Atomic r (Character c)) ts (Some f) ds bs e = refl
other_name q p (datum.Atomic r (String t)) ts (Some f) ds bs e = refl
other_name q p (datum.List r is) ts (Some f) ds bs e = refl
other_name q p (datum.Dotted r is d) ts (Some f) ds bs e = refl
other_name q p (datum.Vector r is) ts (Some f) ds bs e = refl

procedure_of : (q p : Pos) (v : Word) (fs : Items) (end : Option Datum) (ds : Items) (bs : Bindings)
    → definition p (item (with_end q (item (named_datum v) fs) end) ds) bs
    ≡ procedure_binding p (word v.place v.name) (all_names fs end) (words fs) (end_word end) ds (body ds) bs
procedure_of q p v fs None ds bs = refl
procedure_of q p v fs (Some d) ds bs = refl

pub record IsProcedure (s : Source) (id : ℕ) (params : List ℕ) (ts : Items) : Type 0 where
  pub word : Word
  pub formals : Items
  pub are : ts ≡ item (named_datum word) formals
  pub name : Reads s id (named_datum word)
  pub read : ReadAll s params formals

pub procedure_named : (s : Source) (ids params : List ℕ) (id w : ℕ) (ts : Items) (found : Option ℕ) → ReadAll s ids ts
    → ids ≡ id ∷ params → found ≡ level_in (slice_get s.words.now id) → found ≡ Some w → IsProcedure s id params ts
procedure_named s ids params id w ts found h e f k =
    let r = first_of s ids id params ts e h in
    let n = name_read s id r.datum w found r.first f k in
    let P : Datum → Type 0 = λ x. Reads s id x in
    record { word = n.0; formals = r.others; are = r.are ∙ ap (λ d. item d r.others) n.1; name = subst P n.1 r.first; read = r.rest }

-- the item at the head is no name
pub no_procedure_name : (s : Source) (ids params : List ℕ) (id : ℕ) (q p : Pos) (ts : Items) (end : Option Datum) (ds : Items)
    (found : Option ℕ) (bs : Bindings) → ReadAll s ids ts → ids ≡ id ∷ params → found ≡ level_in (slice_get s.words.now id)
    → found ≡ None → definition p (item (with_end q ts end) ds) bs ≡ broken p 11 bs
no_procedure_name s ids params id q p ts end ds found bs h e f k =
    let r = first_of s ids id params ts e h in
    ap (λ l. definition p (item (with_end q l end) ds) bs) r.are
    ∙ other_name q p r.datum r.others end ds bs (not_named s id r.datum found r.first f k)

pub no_formals : (s : Source) (name : ℕ) (params : List ℕ) (q p : Pos) (ts : Items) (end : Option Datum) (ds : Items)
    (bs : Bindings) → (i : IsProcedure s name params ts) → all_names i.formals end ≡ false
    → definition p (item (with_end q ts end) ds) bs ≡ broken p 3 bs
no_formals s name params q p ts end ds bs i e =
    ap (λ l. definition p (item (with_end q l end) ds) bs) i.are
    ∙ (procedure_of q p i.word i.formals end ds bs
    ∙ ap (λ b. procedure_binding p (word i.word.place i.word.name) b (words i.formals) (end_word end) ds (body ds) bs) e)

pub procedure_read : (s : Source) (def : Definition) (name : ℕ) (params : List ℕ) (f : Formals) (slice : Defined)
    (q p : Pos) (ts : Items) (end : Option Datum) (ds : Items) → (i : IsProcedure s name params ts)
    → (all_names i.formals end ≡ true) × AreFormals s f (words i.formals) (end_word end)
    → def.name ≡ name → def.value ≡ slice
    → IsValue s slice p (procedure p (words i.formals) (end_word end) ds (body ds))
    → IsDefined s def p (definition p (item (with_end q ts end) ds))
procedure_read s def name params f slice q p ts end ds i a n v k =
    let P : ℕ → Type 0 = λ x. Reads s x (named_datum i.word) in
    let whole = procedure p (words i.formals) (end_word end) ds (body ds) in
    let Q : Defined → Type 0 = λ x. IsValue s x p whole in
    record {
      word = word i.word.place i.word.name;
      exp = whole;
      binds =
          λ bs.
          ap (λ l. definition p (item (with_end q l end) ds) bs) i.are
          ∙ (procedure_of q p i.word i.formals end ds bs
          ∙ ap (λ b. procedure_binding p (word i.word.place i.word.name) b (words i.formals) (end_word end) ds (body ds) bs) a.0);
      name = subst P (sym n) i.name;
      is = subst Q (sym v) k;
    }
