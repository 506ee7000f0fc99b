-- The definitions at the head of a body, the names that they define, and what stands after them.
use Rattle.std.proofs.Common.{ℕ, ◌≡◌, List, [], ◌∷◌, ◌++◌, Bool, true, false, refl, sym, ap, subst, ◌∙◌, append_assoc}
use Rattle.std.specs.Prelude.{◌&&◌, ◌||◌, if◌then◌else◌}
use Rattle.std.proofs.lemmas.List.{append-nil}
use Rattle.datum_form.specs.Data.{Datum, Items}
use Rattle.datum_form.specs.Data.Items.{none, item}
use Rattle.scheme_expand.specs.declared.fault.Rule.{Rule}
use Rattle.scheme_expand.specs.declared.source.Source.{Source}
use Rattle.scheme_expand.specs.declared.body.Definition.{Definition}
use Rattle.scheme_expand.specs.declared.body.Body.{Body as Parts}
use Rattle.scheme_expand.specs.Forms.{Word, Bindings, Body, no_binding, broken, Of, exp}
use Rattle.quasi_expand.specs.Shapes.{all_items}
use Rattle.scheme_expand.specs.Grammar.{is_define, is_definition, is_no_body, one_is_define, bound_words, after_bindings, expr, exprs, body, definitions_before, each_definition}
use Rattle.scheme_expand.specs.Noted.{number_of}
use Rattle.scheme_expand.specs.Shapes.{IsDefined, AreDefinitions, Collects, begins_defined, IsHead, IsBody}
use Rattle.scheme_expand.specs.Waiting.{place, named_datum, named_data, Reads, ReadAll}
use Rattle.scheme_expand.proofs.Collecting.{each_joined, definitions_joined, define_is}
use Rattle.scheme_expand.proofs.Parts.{no_items, first_of, joined, read_one, read_joined}

-- Definitions at the head

same_after : (b : Body) → b ≡ after_bindings (λ bs. bs) b
same_after (Of bs es) = refl

after_after : (f g h : Bindings → Bindings) (b : Body) → ((bs : Bindings) → f (g bs) ≡ h bs)
    → after_bindings f (after_bindings g b) ≡ after_bindings h b
after_after f g h (Of bs es) e = ap (λ x. Of x es) (e bs)

after_same : (f g : Bindings → Bindings) (b : Body) → ((bs : Bindings) → f bs ≡ g bs) → after_bindings f b ≡ after_bindings g b
after_same f g (Of bs es) e = ap (λ x. Of x es) (e bs)

-- what is read of a body, and what is left
pub record Headed (s : Source) (ds : Items) (before now rest : List ℕ) : Type 0 where
  pub more : List ℕ
  pub defs : Items
  pub back : Items
  pub longer : now ≡ before ++ more
  pub are : AreDefinitions s more defs
  pub read : ReadAll s rest back
  pub no_body : is_no_body ds ≡ is_no_body back
  pub body : body ds ≡ after_bindings (λ bs. each_definition defs bs) (body back)

pub none_headed : (s : Source) (ids : List ℕ) (ds : Items) (before : List ℕ) → ReadAll s ids ds → Headed s ds before before ids
none_headed s ids ds before h = record {
  more = [];
  defs = none;
  back = ds;
  longer = sym (append-nil before);
  are = record { read = record { named = h.named; stand = refl }; define = refl };
  read = h;
  no_body = refl;
  body = same_after (body ds);
}

pub more_headed : (s : Source) (ds : Items) (before now after rest others : List ℕ) (id : ℕ) → Headed s ds before now rest
    → rest ≡ id ∷ others → ((d : Datum) → Reads s id d → Collects s d now after true) → Headed s ds before after others
more_headed s ds before now after rest others id i e collect =
    let f = first_of s rest id others i.back e i.read in
    let c = collect f.datum f.first in
    record {
      more = i.more ++ c.0;
      defs = joined i.defs c.1;
      back = f.others;
      longer = c.2 ∙ (ap (λ l. l ++ c.0) i.longer ∙ append_assoc before i.more c.0);
      are = definitions_joined s i.more c.0 i.defs c.1 i.are c.3;
      read = f.rest;
      no_body =
          i.no_body ∙ (ap is_no_body f.are ∙ ap (λ b. if b then is_no_body f.others else one_is_define f.others) c.4);
      body =
          i.body
          ∙ (ap (λ l. after_bindings (λ bs. each_definition i.defs bs) (body l)) f.are
          ∙ (ap (after_bindings (λ bs. each_definition i.defs bs))
          (ap (λ b. if b then after_bindings (λ bs. definitions_before f.datum bs) (body f.others) else Of no_binding (exp (expr f.datum) (exprs f.others))) c.4)
          ∙ after_after (λ bs. each_definition i.defs bs) (λ bs. definitions_before f.datum bs)
          (λ bs. each_definition (joined i.defs c.1) bs) (body f.others)
          (λ bs. ap (each_definition i.defs) (c.5 bs) ∙ sym (each_joined i.defs c.1 bs))));
    }

pub collects_as : (s : Source) (d : Datum) (before after : List ℕ) (b c : Bool) → b ≡ c → Collects s d before after b
    → Collects s d before after c
collects_as s d before after b c e h = let P : Bool → Type 0 = λ x. Collects s d before after x in subst P e h

pub ends_headed : (s : Source) (ds : Items) (before now after rest others : List ℕ) (id : ℕ) → Headed s ds before now rest
    → rest ≡ id ∷ others → ((d : Datum) → Reads s id d → Collects s d now after false) → IsHead s ds before after rest
ends_headed s ds before now after rest others id i e collect =
    let f = first_of s rest id others i.back e i.read in
    let c = collect f.datum f.first in
    record {
      more = i.more;
      defs = i.defs;
      back = i.back;
      longer = c.0 ∙ i.longer;
      are = i.are;
      read = i.read;
      ends = ap begins_defined f.are ∙ c.1;
      no_body = i.no_body;
      body = i.body;
    }

pub all_headed : (s : Source) (ds : Items) (before now rest : List ℕ) → Headed s ds before now rest → rest ≡ []
    → IsHead s ds before now rest
all_headed s ds before now rest i e = record {
  more = i.more;
  defs = i.defs;
  back = i.back;
  longer = i.longer;
  are = i.are;
  read = i.read;
  ends = ap begins_defined (no_items s rest i.back e i.read);
  no_body = i.no_body;
  body = i.body;
}

-- Bodies

not_define : (b : Bool) (d : Datum) → is_define d ≡ b → is_definition d ≡ false → b ≡ false
not_define true d e h = absurd (let g : true ≡ false = sym (define_is d e) ∙ h in cc)
not_define false d e h = refl

no_body_is : (ds : Items) → begins_defined ds ≡ false → one_is_define ds ≡ true → is_no_body ds ≡ true
no_body_is none h e = refl
no_body_is (item d ds) h e =
    ap (λ b. if b then is_no_body ds else one_is_define ds) h
    ∙ (sym (ap (λ b. b || one_is_define ds) (not_define (is_define d) d refl h)) ∙ e)

a_body_is : (ds : Items) → begins_defined ds ≡ false → one_is_define ds ≡ false → (ds ≡ none → ⊥) → is_no_body ds ≡ false
a_body_is none h e absent = absurd (absent refl)
a_body_is (item d ds) h e absent =
    ap (λ b. if b then is_no_body ds else one_is_define ds) h
    ∙ (sym (ap (λ b. b || one_is_define ds) (not_define (is_define d) d refl h)) ∙ e)

only_exprs : (ds : Items) → begins_defined ds ≡ false → body ds ≡ Of no_binding (exprs ds)
only_exprs none h = refl
only_exprs (item d ds) h =
    ap (λ b. if b then after_bindings (λ bs. definitions_before d bs) (body ds) else Of no_binding (exp (expr d) (exprs ds))) h

-- nothing is after the definitions
pub no_exprs : (s : Source) (ds : Items) (before now rest : List ℕ) → IsHead s ds before now rest → rest ≡ []
    → is_no_body ds ≡ true
no_exprs s ds before now rest i e = i.no_body ∙ ap is_no_body (no_items s rest i.back e i.read)

-- a definition is after an expression
pub late_definition : (s : Source) (ds : Items) (before now rest : List ℕ) → IsHead s ds before now rest
    → ((es : Items) → ReadAll s rest es → true ≡ one_is_define es) → is_no_body ds ≡ true
late_definition s ds before now rest i define =
    i.no_body ∙ no_body_is i.back i.ends (sym (define i.back i.read))

not_empty : (s : Source) (id : ℕ) (ids : List ℕ) (es : Items) → ReadAll s (id ∷ ids) es → es ≡ none → ⊥
not_empty s id ids none h e = let g : id ∷ ids ≡ [] = h.stand in cc
not_empty s id ids (item d ds) h e = cc

some_read : (s : Source) (rest : List ℕ) (es : Items) → ReadAll s rest es → (rest ≡ [] → ⊥) → es ≡ none → ⊥
some_read s [] es h absent e = absent refl
some_read s (id ∷ ids) es h absent e = not_empty s id ids es h e

pub body_read : (s : Source) (ds : Items) (before now rest names : List ℕ) (parts : Parts) → before ≡ []
    → IsHead s ds before now rest
    → ((es : Items) → ReadAll s rest es → false ≡ one_is_define es) → (rest ≡ [] → ⊥)
    → parts.definitions.items ≡ now → parts.names.items ≡ names → parts.exprs.now ≡ rest
    → ((defs : Items) → AreDefinitions s now defs → ReadAll s names (named_data (bound_words (each_definition defs no_binding))))
    → (is_no_body ds ≡ false) × IsBody s parts (body ds)
body_read s ds before now rest names parts e i define some p q r named =
    let P : List ℕ → Type 0 = λ l. AreDefinitions s l i.defs in
    let Q : List ℕ → Type 0 = λ l. ReadAll s l (named_data (bound_words (each_definition i.defs no_binding))) in
    let R : List ℕ → Type 0 = λ l. ReadAll s l i.back in
    let are : AreDefinitions s now i.defs = subst P (sym (i.longer ∙ ap (λ l. l ++ i.more) e)) i.are in (
      i.no_body ∙ a_body_is i.back i.ends (sym (define i.back i.read)) (some_read s rest i.back i.read some),
      record {
        defs = i.defs;
        items = i.back;
        are = subst P (sym p) are;
        names = subst Q (sym q) (named i.defs are);
        rest = subst R (sym r) i.read;
        is = i.body ∙ ap (after_bindings (λ bs. each_definition i.defs bs)) (only_exprs i.back i.ends);
      },
    )

-- Names that are defined

pub record NamesFound (s : Source) (ds : Items) (names rest : List ℕ) : Type 0 where
  pub found : List Word
  pub left : Items
  pub are : AreDefinitions s rest left
  pub read : ReadAll s names (named_data found)
  pub total : bound_words (each_definition ds no_binding) ≡ found ++ bound_words (each_definition left no_binding)

pub none_found : (s : Source) (ids names : List ℕ) (ds : Items) → AreDefinitions s ids ds → names ≡ [] → NamesFound s ds names ids
none_found s ids names ds h e = record {
  found = [];
  left = ds;
  are = h;
  read = record { named = h.read.named; stand = e };
  total = refl;
}

and_split : (a b : Bool) → (a && b) ≡ true → (a ≡ true) × (b ≡ true)
and_split true b h = (refl, h)
and_split false b h = absurd (cc)

names_behind : (ws : List Word) (v : Word) → joined (named_data ws) (item (named_datum v) none) ≡ named_data (ws ++ v ∷ [])
names_behind [] v = refl
names_behind (w ∷ ws) v = ap (item (named_datum w)) (names_behind ws v)

-- the first definition that is left
record FirstLeft (s : Source) (id : ℕ) (others_left : List ℕ) (left : Items) : Type 0 where
  datum : Datum
  others : Items
  are : left ≡ item datum others
  reads : Reads s id datum
  defines : is_define datum ≡ true
  rest : AreDefinitions s others_left others

first_left : (s : Source) (ids rest : List ℕ) (id : ℕ) (left : Items) → ids ≡ id ∷ rest → AreDefinitions s ids left
    → FirstLeft s id rest left
first_left s ids rest id left e h =
    let f = first_of s ids id rest left e h.read in
    let P : Items → Type 0 = λ l. all_items is_define l ≡ true in
    let t = and_split (is_define f.datum) (all_items is_define f.others) (subst P f.are h.define) in
    record {
      datum = f.datum;
      others = f.others;
      are = f.are;
      reads = f.first;
      defines = t.0;
      rest = record { read = f.rest; define = t.1 };
    }

pub good_found : (s : Source) (ds : Items) (names more rest others : List ℕ) (id : ℕ) (def : Definition)
    → NamesFound s ds names rest → rest ≡ id ∷ others → more ≡ names ++ def.name ∷ []
    → ((d : Datum) → Reads s id d → is_define d ≡ true → IsDefined s def (place d) (definitions_before d))
    → NamesFound s ds more others
good_found s ds names more rest others id def i e q read =
    let f = first_left s rest others id i.left e i.are in
    let n = read f.datum f.reads f.defines in
    let P : List ℕ → Type 0 = λ l. ReadAll s l (named_data (i.found ++ n.word ∷ [])) in
    let Q : Items → Type 0 = λ l. ReadAll s (names ++ def.name ∷ []) l in
    let after = bound_words (each_definition f.others no_binding) in
    record {
      found = i.found ++ n.word ∷ [];
      left = f.others;
      are = f.rest;
      read =
          subst P (sym q)
          (subst Q (names_behind i.found n.word)
          (read_joined s names (def.name ∷ []) (named_data i.found) (item (named_datum n.word) none) i.read
          (read_one s def.name (named_datum n.word) n.name)));
      total =
          i.total
          ∙ (ap (λ l. i.found ++ bound_words (each_definition l no_binding)) f.are
          ∙ (ap (λ bs. i.found ++ bound_words bs) (n.binds (each_definition f.others no_binding))
          ∙ sym (append_assoc i.found (n.word ∷ []) after)));
    }

pub bad_found : (s : Source) (ds : Items) (names rest others : List ℕ) (id : ℕ) (rule : Rule)
    → NamesFound s ds names rest → rest ≡ id ∷ others
    → ((d : Datum) → Reads s id d → is_define d ≡ true → (bs : Bindings) → definitions_before d bs ≡ broken (place d) (number_of rule) bs)
    → NamesFound s ds names others
bad_found s ds names rest others id rule i e read =
    let f = first_left s rest others id i.left e i.are in
    record {
      found = i.found;
      left = f.others;
      are = f.rest;
      read = i.read;
      total =
          i.total
          ∙ (ap (λ l. i.found ++ bound_words (each_definition l no_binding)) f.are
          ∙ ap (λ bs. i.found ++ bound_words bs) (read f.datum f.reads f.defines (each_definition f.others no_binding)));
    }

pub all_found : (s : Source) (ds : Items) (names rest : List ℕ) → NamesFound s ds names rest → rest ≡ []
    → ReadAll s names (named_data (bound_words (each_definition ds no_binding)))
all_found s ds names rest i e =
    let P : List Word → Type 0 = λ ws. ReadAll s names (named_data ws) in
    subst P
    (sym
    (i.total
    ∙ (ap (λ l. i.found ++ bound_words (each_definition l no_binding)) (no_items s rest i.left e i.are.read) ∙ append-nil i.found)))
    i.read
