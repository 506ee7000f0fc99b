-- Forms of data in which no fault is found are sound.
use Rattle.std.proofs.Common.{◌≡◌, ℕ, zero, suc, List, [], ◌∷◌, ◌++◌, Option, Some, None, Bool, true, false, not, ◌&&◌, ◌||◌, refl, sym, ap, ◌∙◌, bytes_eq, arith}
use Rattle.std.specs.Prelude.{nat_eq, nat_le, if◌then◌else◌, codes}
use Rattle.std.specs.List.{list_any, IsDistinct, AllByRecursion}
use Rattle.std.specs.Str.{byte}
use Rattle.scheme_base.specs.declared.pos.Pos.{Pos}
use Rattle.scheme_base.specs.Constants.{Constant, Constant as constant}
use Rattle.scheme_expand.proofs.OfData.{IsOfData, AreOfData}
use Rattle.datum_form.specs.declared.token.Atom.{Atom}
use Rattle.datum_form.specs.declared.token.Atom.TheVariants.{Integer, Boolean, Character, String, Symbol}
use Rattle.datum_form.specs.Data.{Datum, Datum as datum, Items}
use Rattle.datum_form.specs.Data.Items.{none, item}
use Rattle.datum_form.specs.Words.{is_name, is_ordinary, is_initial}
use Rattle.scheme_expand.specs.Forms.{Word, Exp, Exps, Bindings, Body, Clauses, Cases, Steps, Template, Forms, Wrong, Value, Variable, Application, Procedure, OneArmed, TwoArmed, Assignment, Cond, Case, And, Or, Let, LetStar, Letrec, Do, Named, no_exp, exp, no_binding, binding, broken, Of, no_clause, value, clause, passing, no_case, one_of, fixed, stepped, Plain, Unquoted, Spliced, Pair, Vector, evaluated, defining}
use Rattle.quasi_expand.specs.Shapes.{is_word, is_name as names_it, is_step, is_list_of, is_none, is_list, is_case, are_clauses}
use Rattle.draft_form.specs.Quoted.{atom, constant_of, constant_list, constants}
use Rattle.scheme_expand.specs.Grammar.{each_constant, word, are_names, word_of, words, twice, are_formals, params_of, rest_of, is_binding, passes, is_clause, is_definition, one_is_define, is_no_body, Check, rule, checked, bound_words, defines_twice, step_words, and_rest, procedure, lambda_of, binding_of, let_of, named_of, letrec_of, let_star_of, do_of, procedure_binding, after_bindings, cond_clause, case_clause, is_arrow, pair_of, vector_of, marked, unquoted, spliced, form, quote_form, expr, exprs, lambda_form, if_form, set_form, begin_form, case_form, let_form, let_star_form, letrec_form, do_form, quasi_form, clauses, clause_before, cases, case_before, bindings, binding_list, binding_before, steps, step_list, step_before, body, definitions_before, each_definition, definition, template, template_list, templates_before, template_before, forms}
use Rattle.scheme_expand.specs.Faults.{Fault, fault, in_word, in_words, in_exp, in_exps, in_bindings, in_body, in_clauses, in_cases, in_steps, in_template, in_forms}
use Rattle.scheme_expand.specs.Inputs.{IsAtom, IsInput, AreInputs}
use Rattle.scheme_expand.specs.Rewriting.{names}
use Rattle.scheme_expand.proofs.GoodDrafts.{is_source, AreSources}
use Rattle.scheme_expand.proofs.GoodCalls.{chosen, begun_each}
use Rattle.scheme_expand.proofs.Scoping.{apart, and_split, or_split, same_bytes}
use Rattle.scheme_expand.proofs.SoundForms.{EachOfData, Differ, HasExp, Sound, AllSound, SoundBindings, SoundBody, SoundClauses, SoundCases, SoundSteps, SoundTemplate, SoundForms}

-- Names of R4RS are no fresh variables'

initial_source : (b : ℕ) (x : List ℕ) → is_initial b ≡ true → is_source (b ∷ x) ≡ true
initial_source b [] h = refl
initial_source b (c ∷ x) h = made (nat_eq b 46) refl
  where
    made : (dot : Bool) → nat_eq b 46 ≡ dot → not (nat_eq b 46 && nat_le 48 c) ≡ true
    made true e =
        absurd (apart (sym (sym (ap is_initial (is b e)) ∙ h)))
      where
        is : (b : ℕ) → nat_eq b 46 ≡ true → b ≡ 46
        is b e = grind arith
    made false e = ap (λ d. not (d && nat_le 48 c)) e

ordinary_source : (x : List ℕ) → is_ordinary x ≡ true → is_source x ≡ true
ordinary_source [] h = absurd (apart (sym h))
ordinary_source (b ∷ x) h = initial_source b x (first (is_initial b) _ h)
  where
    first : (c d : Bool) → (c && d) ≡ true → c ≡ true
    first true d h = refl
    first false d h = absurd (apart (sym h))

this_source : (x y : List ℕ) → is_source y ≡ true → bytes_eq x y ≡ true → is_source x ≡ true
this_source x y s h = ap is_source (same_bytes x y h) ∙ s

pub name_source : (x : List ℕ) → is_name x ≡ true → is_source x ≡ true
name_source x h = made (is_ordinary x) (bytes_eq x (codes "+")) (bytes_eq x (codes "-")) (bytes_eq x (codes "...")) refl refl refl refl h
  where
    made : (a b c d : Bool) → is_ordinary x ≡ a → bytes_eq x (codes "+") ≡ b → bytes_eq x (codes "-") ≡ c
        → bytes_eq x (codes "...") ≡ d → (((a || b) || c) || d) ≡ true → is_source x ≡ true
    made true b c d ea eb ec ed h = ordinary_source x ea
    made false true c d ea eb ec ed h = this_source x (codes "+") refl eb
    made false false true d ea eb ec ed h = this_source x (codes "-") refl ec
    made false false false true ea eb ec ed h = this_source x (codes "...") refl ed
    made false false false false ea eb ec ed h = absurd (apart (sym h))

-- Literals

atom_part : (a : Atom) → IsAtom a → IsOfData (atom a)
atom_part (Integer z) h = h
atom_part (Boolean b) h = tt
atom_part (Character byte) h = tt
atom_part (String bytes) h = tt
atom_part (Symbol x) h = tt

mutual
  pub constant_part : (d : Datum) → IsInput d → IsOfData (constant_of d)
  constant_part (datum.Atomic p a) h = atom_part a h
  constant_part (datum.List p is) h = list_part is constant.Nil h tt
  constant_part (datum.Dotted p is d) h = list_part is (constant_of d) h.0 (constant_part d h.1)
  constant_part (datum.Vector p is) h = constants_part is h

  list_part : (ds : Items) (c : Constant) → AreInputs ds → IsOfData c → IsOfData (constant_list ds c)
  list_part none c h k = k
  list_part (item d ds) c h k = (constant_part d h.0, list_part ds c h.1 k)

  constants_part : (ds : Items) → AreInputs ds → AreOfData (constants ds)
  constants_part none h = tt
  constants_part (item d ds) h = (constant_part d h.0, constants_part ds h.1)

each_part : (ds : Items) → AreInputs ds → EachOfData (each_constant ds)
each_part none h = tt
each_part (item d ds) h = (constant_part d h.0, each_part ds h.1)

-- Words

words_sources : (ds : Items) → AreInputs ds → AreSources (names (words ds))
words_sources none h = tt
words_sources (item (datum.Atomic p (Symbol x)) ds) h = (name_source x h.0, words_sources ds h.1)
words_sources (item (datum.Atomic p (Integer z)) ds) h = words_sources ds h.1
words_sources (item (datum.Atomic p (Boolean b)) ds) h = words_sources ds h.1
words_sources (item (datum.Atomic p (Character b)) ds) h = words_sources ds h.1
words_sources (item (datum.Atomic p (String t)) ds) h = words_sources ds h.1
words_sources (item (datum.List p is) ds) h = words_sources ds h.1
words_sources (item (datum.Dotted p is d) ds) h = words_sources ds h.1
words_sources (item (datum.Vector p is) ds) h = words_sources ds h.1

-- a word, if there is one, has a name of the program
abbrev IsSourceWord : Option Word → Type 0
IsSourceWord None = Unit {0}
IsSourceWord (Some w) = is_source w.name ≡ true

word_source : (d : Datum) → IsInput d → IsSourceWord (word_of d)
word_source (datum.Atomic p (Symbol x)) h = name_source x h
word_source (datum.Atomic p (Integer z)) h = tt
word_source (datum.Atomic p (Boolean b)) h = tt
word_source (datum.Atomic p (Character b)) h = tt
word_source (datum.Atomic p (String t)) h = tt
word_source (datum.List p is) h = tt
word_source (datum.Dotted p is d) h = tt
word_source (datum.Vector p is) h = tt

rest_sources : (ws : List Word) (r : Option Word) → AreSources (names ws) → IsSourceWord r → AreSources (names (and_rest ws r))
rest_sources [] None h k = tt
rest_sources [] (Some w) h k = (k, tt)
rest_sources (w ∷ ws) r h k = (h.0, rest_sources ws r h.1 k)

params_sources : (d : Datum) → IsInput d → AreSources (names (params_of d))
params_sources (datum.Atomic p a) h = tt
params_sources (datum.List p is) h = words_sources is h
params_sources (datum.Dotted p is d) h = words_sources is h.0
params_sources (datum.Vector p is) h = tt

rest_source : (d : Datum) → IsInput d → IsSourceWord (rest_of d)
rest_source (datum.Atomic p a) h = word_source (datum.Atomic p a) h
rest_source (datum.List p is) h = tt
rest_source (datum.Dotted p is d) h = word_source d h.1
rest_source (datum.Vector p is) h = tt

other_words : (w : Word) (ws : List Word) → list_any (λ v. bytes_eq w.name v.name) ws ≡ false
    → AllByRecursion (λ y. bytes_eq w.name y ≡ false) (names ws)
other_words w [] h = tt
other_words w (v ∷ ws) h = let both = or_split _ _ h in (both.0, other_words w ws both.1)

differ : (ws : List Word) → twice ws ≡ false → Differ ws
unfolding IsDistinct
differ [] h = tt
differ (w ∷ ws) h = let both = or_split _ _ h in (other_words w ws both.0, differ ws both.1)

-- Faults

append_split : (xs ys : List Fault) → xs ++ ys ≡ [] → (xs ≡ []) × (ys ≡ [])
append_split [] ys h = (refl, h)
append_split (x ∷ xs) ys h = absurd (some x (xs ++ ys) h)
  where
    some : (x : Fault) (xs : List Fault) → x ∷ xs ≡ [] → ⊥
    some x xs h = cc

some_fault : (f : Fault) (fs : List Fault) → f ∷ fs ≡ [] → ⊥
some_fault f fs h = cc

-- sound, if there is no fault

abbrev Fair : Exp → Type 0
Fair e = in_exp e ≡ [] → Sound e

abbrev AllFair : Exps → Type 0
AllFair es = in_exps es ≡ [] → AllSound es

abbrev FairBindings : Bindings → Type 0
FairBindings bs = in_bindings bs ≡ [] → SoundBindings bs

-- but for names that a body defines twice
abbrev FairBody : Body → Type 0
FairBody (Of bs es) = FairBindings bs × AllFair es

abbrev HasExps : Body → Type 0
HasExps (Of bs es) = HasExp es

-- the body of these items, which has an expression if it keeps their rule
abbrev FairItems : Items → Body → Type 0
FairItems ds b = FairBody b × (is_no_body ds ≡ false → HasExps b)

abbrev FairClauses : Clauses → Type 0
FairClauses cs = in_clauses cs ≡ [] → SoundClauses cs

abbrev FairCases : Cases → Type 0
FairCases cs = in_cases cs ≡ [] → SoundCases cs

abbrev FairSteps : Steps → Type 0
FairSteps ss = in_steps ss ≡ [] → SoundSteps ss

abbrev FairTemplate : Template → Type 0
FairTemplate t = in_template t ≡ [] → SoundTemplate t

fair_wrong : (p : Pos) (n : ℕ) → Fair (Wrong p n)
fair_wrong p n h = absurd (some_fault (fault p n) [] h)

fair_one : (p : Pos) (a : Bool) (m : ℕ) (e : Exp) → (a ≡ false → Fair e) → Fair (checked p (rule a m ∷ []) e)
fair_one p true m e k h = absurd (some_fault (fault p m) [] h)
fair_one p false m e k h = k refl h

fair_more : (p : Pos) (a : Bool) (m : ℕ) (checks : List Check) (e : Exp) → (a ≡ false → Fair (checked p checks e))
    → Fair (checked p (rule a m ∷ checks) e)
fair_more p true m checks e k h = absurd (some_fault (fault p m) [] h)
fair_more p false m checks e k h = k refl h

body_sound : (b : Body) → HasExps b → FairBody b → defines_twice b ≡ false → in_body b ≡ [] → SoundBody b
body_sound (Of bs es) x h d n =
    let both = append_split (in_bindings bs) (in_exps es) n in
    (h.0 both.0, differ (bound_words bs) d, x, h.1 both.1)

fair_procedure : (p : Pos) (ws : List Word) (r : Option Word) (ds : Items) (b : Body) → AreSources (names (and_rest ws r))
    → FairItems ds b → Fair (procedure p ws r ds b)
fair_procedure p ws r ds b s k =
    fair_more p (is_no_body ds) 4 (rule (twice (and_rest ws r) || defines_twice b) 12 ∷ []) (Procedure p ws r b)
    (λ e. fair_one p (twice (and_rest ws r) || defines_twice b) 12 (Procedure p ws r b)
    (λ t n.
    let both = or_split _ _ t in
    let parts = append_split (in_words (and_rest ws r)) (in_body b) n in
    (s, differ (and_rest ws r) both.0, body_sound b (k.1 e) k.0 both.1 parts.1)))

fair_lambda : (p : Pos) (f : Datum) (ds : Items) (b : Body) → IsInput f → FairItems ds b → Fair (lambda_of p f ds b)
fair_lambda p f ds b i k =
    fair_one p (not (are_formals f)) 3 (procedure p (params_of f) (rest_of f) ds b)
    (λ e. fair_procedure p (params_of f) (rest_of f) ds b (rest_sources (params_of f) (rest_of f) (params_sources f i) (rest_source f i)) k)

-- a form with bindings, which is sound where these are, the names that must differ do, and the body is
fair_binding : (make : Pos → Bindings → Body → Exp) (p : Pos) (d : Datum) (ws : List Word) (ds : Items) (bs : Bindings) (b : Body)
    → (is_no_body ds ≡ false → twice ws ≡ false → defines_twice b ≡ false → Fair (make p bs b)) → Fair (binding_of make p d ws ds bs b)
fair_binding make p d ws ds bs b k =
    fair_more p (is_no_body ds) 4 (rule (not (is_list_of is_binding d)) 8 ∷ rule (twice ws || defines_twice b) 12 ∷ []) (make p bs b)
    (λ e. fair_more p (not (is_list_of is_binding d)) 8 (rule (twice ws || defines_twice b) 12 ∷ []) (make p bs b)
    (λ f. fair_one p (twice ws || defines_twice b) 12 (make p bs b) (λ t. let both = or_split _ _ t in k e both.0 both.1)))

fair_let : (p : Pos) (d : Datum) (ds : Items) (bs : Bindings) (b : Body) → FairBindings bs → FairItems ds b → Fair (let_of p d ds bs b)
fair_let p d ds bs b h k =
    fair_binding Let p d (bound_words bs) ds bs b
    (λ e t u n.
    let parts = append_split (in_bindings bs) (in_body b) n in
    (h parts.0, differ (bound_words bs) t, body_sound b (k.1 e) k.0 u parts.1))

fair_letrec : (p : Pos) (d : Datum) (ds : Items) (bs : Bindings) (b : Body) → FairBindings bs → FairItems ds b
    → Fair (letrec_of p d ds bs b)
fair_letrec p d ds bs b h k =
    fair_binding Letrec p d (bound_words bs) ds bs b
    (λ e t u n.
    let parts = append_split (in_bindings bs) (in_body b) n in
    (h parts.0, differ (bound_words bs) t, body_sound b (k.1 e) k.0 u parts.1))

fair_let_star : (p : Pos) (d : Datum) (ds : Items) (bs : Bindings) (b : Body) → FairBindings bs → FairItems ds b
    → Fair (let_star_of p d ds bs b)
fair_let_star p d ds bs b h k =
    fair_binding LetStar p d [] ds bs b
    (λ e t u n.
    let parts = append_split (in_bindings bs) (in_body b) n in
    (h parts.0, body_sound b (k.1 e) k.0 u parts.1))

fair_named : (p : Pos) (w : Word) (d : Datum) (ds : Items) (bs : Bindings) (b : Body) → is_source w.name ≡ true → FairBindings bs
    → FairItems ds b → Fair (named_of p w d ds bs b)
fair_named p w d ds bs b s h k =
    fair_binding (λ q. Named q w) p d (bound_words bs) ds bs b
    (λ e t u n.
    let first = append_split (in_word w) (in_bindings bs ++ in_body b) n in
    let parts = append_split (in_bindings bs) (in_body b) first.1 in
    (s, h parts.0, differ (bound_words bs) t, body_sound b (k.1 e) k.0 u parts.1))

fair_do : (p : Pos) (d : Datum) (ss : Steps) (test : Exp) (results commands : Exps) → FairSteps ss → Fair test → AllFair results
    → AllFair commands → Fair (do_of p d ss test results commands)
fair_do p d ss test results commands h i j k =
    fair_more p (not (is_list_of is_step d)) 9 (rule (twice (step_words ss)) 12 ∷ []) (Do p ss test results commands)
    (λ e. fair_one p (twice (step_words ss)) 12 (Do p ss test results commands)
    (λ t n.
    let first = append_split (in_steps ss) (in_exp test ++ (in_exps results ++ in_exps commands)) n in
    let second = append_split (in_exp test) (in_exps results ++ in_exps commands) first.1 in
    let third = append_split (in_exps results) (in_exps commands) second.1 in
    (h first.0, differ (step_words ss) t, i second.0, j third.0, k third.1)))

fair_apply : (p : Pos) (e : Exp) (es : Exps) → Fair e → AllFair es → Fair (Application p e es)
fair_apply p e es h k n = let parts = append_split (in_exp e) (in_exps es) n in (h parts.0, k parts.1)

fair_exp : (e : Exp) (es : Exps) → Fair e → AllFair es → AllFair (exp e es)
fair_exp e es h k n = let parts = append_split (in_exp e) (in_exps es) n in (h parts.0, k parts.1)

fair_assign : (p : Pos) (w : Word) (e : Exp) → is_source w.name ≡ true → Fair e → Fair (Assignment p w e)
fair_assign p w e s h n = let parts = append_split (in_word w) (in_exp e) n in (s, h parts.1)

fair_two : (p : Pos) (d e : Exp) → Fair d → Fair e → Fair (OneArmed p d e)
fair_two p d e h k n = let parts = append_split (in_exp d) (in_exp e) n in (h parts.0, k parts.1)

fair_three : (p : Pos) (d e f : Exp) → Fair d → Fair e → Fair f → Fair (TwoArmed p d e f)
fair_three p d e f h k l n =
    let first = append_split (in_exp d) (in_exp e ++ in_exp f) n in
    let second = append_split (in_exp e) (in_exp f) first.1 in
    (h first.0, k second.0, l second.1)

fair_case : (p : Pos) (e : Exp) (cs : Cases) → Fair e → FairCases cs → Fair (Case p e cs)
fair_case p e cs h k n = let parts = append_split (in_exp e) (in_cases cs) n in (h parts.0, k parts.1)

-- Clauses

fair_value : (e : Exp) (cs : Clauses) → Fair e → FairClauses cs → FairClauses (value e cs)
fair_value e cs h k n = let parts = append_split (in_exp e) (in_clauses cs) n in (h parts.0, k parts.1)

fair_clause : (e : Exp) (es : Exps) (cs : Clauses) → HasExp es → Fair e → AllFair es → FairClauses cs
    → FairClauses (clause e es cs)
fair_clause e es cs x h k l n =
    let first = append_split (in_exp e) (in_exps es ++ in_clauses cs) n in
    let second = append_split (in_exps es) (in_clauses cs) first.1 in
    (h first.0, x, k second.0, l second.1)

fair_passing : (e f : Exp) (cs : Clauses) → Fair e → Fair f → FairClauses cs → FairClauses (passing e f cs)
fair_passing e f cs h k l n =
    let first = append_split (in_exp e) (in_exp f ++ in_clauses cs) n in
    let second = append_split (in_exp f) (in_clauses cs) first.1 in
    (h first.0, k second.0, l second.1)

-- what `=>` passes to stands after it
abbrev FairReceiver : Exps → Type 0
FairReceiver (exp arrow (exp receiver es)) = Fair receiver
FairReceiver es = Unit {0}

fair_cond_clause : (is_else arrow : Bool) (e : Exp) (es : Exps) (cs : Clauses) → (is_else ≡ true → HasExp es) → Fair e → AllFair es → FairReceiver es
    → FairClauses cs → FairClauses (cond_clause is_else arrow e es cs)
fair_cond_clause true arrow e es cs x h k r l = λ n. (x refl, k n)
fair_cond_clause false true e no_exp cs x h k r l = fair_value e cs h l
fair_cond_clause false true e (exp d no_exp) cs x h k r l = fair_clause e (exp d no_exp) cs tt h k l
fair_cond_clause false true e (exp d (exp f es)) cs x h k r l = fair_passing e f cs h r l
fair_cond_clause false false e no_exp cs x h k r l = fair_value e cs h l
fair_cond_clause false false e (exp d es) cs x h k r l = fair_clause e (exp d es) cs tt h k l

fair_one_of : (constants_of : List Constant) (es : Exps) (cs : Cases) → HasExp es → EachOfData constants_of → AllFair es → FairCases cs
    → FairCases (one_of constants_of es cs)
fair_one_of constants_of es cs x c h k n =
    let parts = append_split (in_exps es) (in_cases cs) n in
    (c, x, h parts.0, k parts.1)

fair_case_clause : (is_else : Bool) (d : Datum) (es : Exps) (cs : Cases) → HasExp es → IsInput d → AllFair es → FairCases cs
    → FairCases (case_clause is_else d es cs)
fair_case_clause true d es cs x i h k = λ n. (x, h n)
fair_case_clause false (datum.List p is) es cs x i h k = fair_one_of (each_constant is) es cs x (each_part is i) h k
fair_case_clause false (datum.Atomic p a) es cs x i h k = k
fair_case_clause false (datum.Dotted p is d) es cs x i h k = k
fair_case_clause false (datum.Vector p is) es cs x i h k = k

-- Bindings and steps

fair_bound : (p : Pos) (w : Word) (e : Exp) (bs : Bindings) → is_source w.name ≡ true → Fair e → FairBindings bs
    → FairBindings (binding p w e bs)
fair_bound p w e bs s h k n =
    let first = append_split (in_word w) (in_exp e ++ in_bindings bs) n in
    let second = append_split (in_exp e) (in_bindings bs) first.1 in
    (s, h second.0, k second.1)

fair_broken : (p : Pos) (n : ℕ) (bs : Bindings) → FairBindings (broken p n bs)
fair_broken p n bs h = absurd (some_fault (fault p n) (in_bindings bs) h)

fair_defined : (p : Pos) (w : Word) (formals : Bool) (ws : List Word) (r : Option Word) (ds : Items) (b : Body) (bs : Bindings)
    → is_source w.name ≡ true → AreSources (names ws) → IsSourceWord r → FairItems ds b → FairBindings bs
    → FairBindings (procedure_binding p w formals ws r ds b bs)
fair_defined p w true ws r ds b bs s a c h k =
    fair_bound p w (procedure p ws r ds b) bs s (fair_procedure p ws r ds b (rest_sources ws r a c) h) k
fair_defined p w false ws r ds b bs s a c h k = fair_broken p 3 bs

fair_fixed : (w : Word) (e : Exp) (ss : Steps) → is_source w.name ≡ true → Fair e → FairSteps ss → FairSteps (fixed w e ss)
fair_fixed w e ss s h k n =
    let first = append_split (in_word w) (in_exp e ++ in_steps ss) n in
    let second = append_split (in_exp e) (in_steps ss) first.1 in
    (s, h second.0, k second.1)

fair_stepped : (w : Word) (e f : Exp) (ss : Steps) → is_source w.name ≡ true → Fair e → Fair f → FairSteps ss
    → FairSteps (stepped w e f ss)
fair_stepped w e f ss s h k l n =
    let first = append_split (in_word w) (in_exp e ++ (in_exp f ++ in_steps ss)) n in
    let second = append_split (in_exp e) (in_exp f ++ in_steps ss) first.1 in
    let third = append_split (in_exp f) (in_steps ss) second.1 in
    (s, h second.0, k third.0, l third.1)

fair_after : (f : Bindings → Bindings) (b : Body) → ((bs : Bindings) → FairBindings bs → FairBindings (f bs)) → FairBody b
    → FairBody (after_bindings f b)
fair_after f (Of bs es) k h = (k bs h.0, h.1)

chosen_body : (c : Bool) (b d : Body) → FairBody b → FairBody d → FairBody (if c then b else d)
chosen_body true b d h k = h
chosen_body false b d h k = k

-- Templates

fair_plain : (c : Constant) → IsOfData c → FairTemplate (Plain c)
fair_plain c h n = h

fair_pair : (s t : Template) → FairTemplate s → FairTemplate t → FairTemplate (Pair s t)
fair_pair s t h k n = let parts = append_split (in_template s) (in_template t) n in (h parts.0, k parts.1)

fair_pair_of : (s t : Template) → FairTemplate s → FairTemplate t → FairTemplate (pair_of s t)
fair_pair_of (Plain c) (Plain d) h k = λ n. (h refl, k refl)
fair_pair_of (Plain c) (Unquoted e) h k = fair_pair (Plain c) (Unquoted e) h k
fair_pair_of (Plain c) (Spliced e t) h k = fair_pair (Plain c) (Spliced e t) h k
fair_pair_of (Plain c) (Pair s t) h k = fair_pair (Plain c) (Pair s t) h k
fair_pair_of (Plain c) (Vector t) h k = fair_pair (Plain c) (Vector t) h k
fair_pair_of (Unquoted e) t h k = fair_pair (Unquoted e) t h k
fair_pair_of (Spliced e s) t h k = fair_pair (Spliced e s) t h k
fair_pair_of (Pair s u) t h k = fair_pair (Pair s u) t h k
fair_pair_of (Vector s) t h k = fair_pair (Vector s) t h k

fair_vector_of : (c : Constant) (t : Template) → IsOfData c → FairTemplate t → FairTemplate (vector_of c t)
fair_vector_of c (Plain d) h k = λ n. h
fair_vector_of c (Unquoted e) h k = k
fair_vector_of c (Spliced e t) h k = k
fair_vector_of c (Pair s t) h k = k
fair_vector_of c (Vector t) h k = k

fair_marked : (x : List ℕ) (t : Template) → FairTemplate t → FairTemplate (marked x t)
fair_marked x t h =
    fair_pair_of (Plain (constant.Symbol x)) (pair_of t (Plain constant.Nil)) (λ n. tt) (fair_pair_of t (Plain constant.Nil) h (λ n. tt))

fair_unquoted : (n : ℕ) (e : Exp) (t : ℕ → Template) → Fair e → ((m : ℕ) → FairTemplate (t m)) → FairTemplate (unquoted n e t)
fair_unquoted zero e t h k = h
fair_unquoted (suc n) e t h k = fair_marked (codes "unquote") (t n) (k n)

fair_splice : (e : Exp) (rest : Template) → Fair e → FairTemplate rest → FairTemplate (Spliced e rest)
fair_splice e rest h k n = let parts = append_split (in_exp e) (in_template rest) n in (h parts.0, k parts.1)

fair_spliced : (n : ℕ) (e : Exp) (t : ℕ → Template) (rest : Template) → Fair e → ((m : ℕ) → FairTemplate (t m))
    → FairTemplate rest → FairTemplate (spliced n e t rest)
fair_spliced zero e t rest h k l = fair_splice e rest h l
fair_spliced (suc n) e t rest h k l =
    fair_pair_of (marked (codes "unquote-splicing") (t n)) rest (fair_marked (codes "unquote-splicing") (t n) (k n)) l

-- Expressions

fair_quote : (p : Pos) (ds : Items) → AreInputs ds → Fair (quote_form p ds)
fair_quote p none i = fair_wrong p 2
fair_quote p (item d none) i = λ n. constant_part d i.0
fair_quote p (item d (item e ds)) i = fair_wrong p 2

fair_variable : (p : Pos) (x : List ℕ) → is_name x ≡ true → Fair (Variable (word p x))
fair_variable p x i n = name_source x i

has_after : (f : Bindings → Bindings) (b : Body) → HasExps b → HasExps (after_bindings f b)
has_after f (Of bs es) h = h

has_either : (c : Bool) (d : Datum) (ds : Items) → (is_no_body ds ≡ false → HasExps (body ds))
    → (if c then is_no_body ds else one_is_define ds) ≡ false
    → HasExps (if c then after_bindings (λ bs. definitions_before d bs) (body ds) else Of no_binding (exp (expr d) (exprs ds)))
has_either true d ds k h = has_after (λ bs. definitions_before d bs) (body ds) (k h)
has_either false d ds k h = tt

has_body : (ds : Items) → is_no_body ds ≡ false → HasExps (body ds)
has_body none h = absurd (apart h)
has_body (item d ds) h = has_either (is_definition d) d ds (has_body ds) h

-- Clauses of a form that keeps its rule

has_items : (ds : Items) → not (is_none ds) ≡ true → HasExp (exprs ds)
has_items none h = absurd (apart (sym h))
has_items (item d ds) h = tt

has_else : (p : Pos) (d : Datum) (ds : Items) (last : Bool) → is_clause last (datum.List p (item d ds)) ≡ true
    → is_word (codes "else") d ≡ true → HasExp (exprs ds)
has_else p d ds last h w =
    has_items ds
    (and_split last (not (is_none ds)) (sym (ap (λ b. if b then last && not (is_none ds) else passes ds) w) ∙ h)).1

has_case : (p : Pos) (d : Datum) (ds : Items) (last : Bool) → is_case last (datum.List p (item d ds)) ≡ true → HasExp (exprs ds)
has_case p d ds last h =
    has_items ds (and_split (is_list d || last && is_word (codes "else") d) (not (is_none ds)) h).1

kept : (b : Bool) → not b ≡ false → b ≡ true
kept true h = refl
kept false h = absurd (apart h)

mutual
  pub fair : (d : Datum) → IsInput d → Fair (expr d)
  fair (datum.Atomic p (Symbol x)) i = fair_variable p x i
  fair (datum.Atomic p (Integer z)) i = λ n. i
  fair (datum.Atomic p (Boolean b)) i = λ n. tt
  fair (datum.Atomic p (Character byte)) i = λ n. tt
  fair (datum.Atomic p (String bytes)) i = λ n. tt
  fair (datum.Vector p is) i = fair_wrong p 15
  fair (datum.Dotted p is d) i = fair_wrong p 10
  fair (datum.List p none) i = fair_wrong p 13
  fair (datum.List p (item (datum.Atomic q (Symbol x)) ds)) i =
      begun_each Fair x
      (form (codes "quote") (quote_form p ds)
      ∷ form (codes "quasiquote") (quasi_form p ds)
      ∷ form (codes "lambda") (lambda_form p ds)
      ∷ form (codes "if") (if_form p ds)
      ∷ form (codes "set!") (set_form p ds)
      ∷ form (codes "begin") (begin_form p ds)
      ∷ form (codes "cond") (checked p (rule (not (are_clauses is_clause ds)) 6 ∷ []) (Cond p (clauses ds)))
      ∷ form (codes "case") (case_form p ds)
      ∷ form (codes "and") (And p (exprs ds))
      ∷ form (codes "or") (Or p (exprs ds))
      ∷ form (codes "let") (let_form p ds)
      ∷ form (codes "let*") (let_star_form p ds)
      ∷ form (codes "letrec") (letrec_form p ds)
      ∷ form (codes "do") (do_form p ds)
      ∷ form (codes "define") (Wrong p 11)
      ∷ form (codes "unquote") (Wrong p 14)
      ∷ form (codes "unquote-splicing") (Wrong p 14)
      ∷ form (codes "delay") (Wrong p 16)
      ∷ [])
      (Application p (Variable (word q x)) (exprs ds)) (
        fair_quote p ds i.1,
        (
          fair_quasi p ds i.1,
          (
            fair_lambda_form p ds i.1,
            (
              fair_if p ds i.1,
              (
                fair_set p ds i.1,
                (
                  fair_begin p ds i.1,
                  (
                    fair_one p (not (are_clauses is_clause ds)) 6 (Cond p (clauses ds))
                        (λ e. fair_clauses ds i.1 (kept (are_clauses is_clause ds) e)),
                    (
                      fair_case_form p ds i.1,
                      (
                        all_fair ds i.1,
                        (
                          all_fair ds i.1,
                          (
                            fair_let_form p ds i.1,
                            (
                              fair_let_star_form p ds i.1,
                              (
                                fair_letrec_form p ds i.1,
                                (
                                  fair_do_form p ds i.1,
                                  (
                                    fair_wrong p 11,
                                    (
                                      fair_wrong p 14,
                                      (
                                        fair_wrong p 14,
                                        (fair_wrong p 16, tt),
                                      ),
                                    ),
                                  ),
                                ),
                              ),
                            ),
                          ),
                        ),
                      ),
                    ),
                  ),
                ),
              ),
            ),
          ),
        ),
      )
      (fair_apply p (Variable (word q x)) (exprs ds) (fair_variable q x i.0) (all_fair ds i.1))
  fair (datum.List p (item (datum.Atomic q (Integer z)) ds)) i =
      fair_apply p (Value q (atom (Integer z))) (exprs ds) (λ n. i.0) (all_fair ds i.1)
  fair (datum.List p (item (datum.Atomic q (Boolean b)) ds)) i =
      fair_apply p (Value q (atom (Boolean b))) (exprs ds) (λ n. tt) (all_fair ds i.1)
  fair (datum.List p (item (datum.Atomic q (Character byte)) ds)) i =
      fair_apply p (Value q (atom (Character byte))) (exprs ds) (λ n. tt) (all_fair ds i.1)
  fair (datum.List p (item (datum.Atomic q (String bytes)) ds)) i =
      fair_apply p (Value q (atom (String bytes))) (exprs ds) (λ n. tt) (all_fair ds i.1)
  fair (datum.List p (item (datum.List q is) ds)) i =
      fair_apply p (expr (datum.List q is)) (exprs ds) (fair (datum.List q is) i.0) (all_fair ds i.1)
  fair (datum.List p (item (datum.Dotted q is d) ds)) i =
      fair_apply p (expr (datum.Dotted q is d)) (exprs ds) (fair_wrong q 10) (all_fair ds i.1)
  fair (datum.List p (item (datum.Vector q is) ds)) i =
      fair_apply p (expr (datum.Vector q is)) (exprs ds) (fair_wrong q 15) (all_fair ds i.1)

  all_fair : (ds : Items) → AreInputs ds → AllFair (exprs ds)
  all_fair none i = λ n. tt
  all_fair (item d ds) i = fair_exp (expr d) (exprs ds) (fair d i.0) (all_fair ds i.1)

  fair_lambda_form : (p : Pos) (ds : Items) → AreInputs ds → Fair (lambda_form p ds)
  fair_lambda_form p none i = fair_wrong p 3
  fair_lambda_form p (item f ds) i = fair_lambda p f ds (body ds) i.0 (fair_body ds i.1, has_body ds)

  fair_if : (p : Pos) (ds : Items) → AreInputs ds → Fair (if_form p ds)
  fair_if p none i = fair_wrong p 5
  fair_if p (item d none) i = fair_wrong p 5
  fair_if p (item d (item e none)) i = fair_two p (expr d) (expr e) (fair d i.0) (fair e i.1.0)
  fair_if p (item d (item e (item f none))) i =
      fair_three p (expr d) (expr e) (expr f) (fair d i.0) (fair e i.1.0) (fair f i.1.1.0)
  fair_if p (item d (item e (item f (item g ds)))) i = fair_wrong p 5

  fair_set : (p : Pos) (ds : Items) → AreInputs ds → Fair (set_form p ds)
  fair_set p (item (datum.Atomic q (Symbol x)) (item e none)) i =
      fair_assign p (word q x) (expr e) (name_source x i.0) (fair e i.1.0)
  fair_set p ds i = fair_wrong p 5

  fair_begin : (p : Pos) (ds : Items) → AreInputs ds → Fair (begin_form p ds)
  fair_begin p none i = fair_wrong p 10
  fair_begin p (item d ds) i = λ n. (tt, fair_exp (expr d) (exprs ds) (fair d i.0) (all_fair ds i.1) n)

  fair_case_form : (p : Pos) (ds : Items) → AreInputs ds → Fair (case_form p ds)
  fair_case_form p none i = fair_wrong p 7
  fair_case_form p (item d ds) i =
      fair_one p (not (are_clauses is_case ds)) 7 (Case p (expr d) (cases ds))
      (λ e. fair_case p (expr d) (cases ds) (fair d i.0) (fair_cases ds i.1 (kept (are_clauses is_case ds) e)))

  fair_let_form : (p : Pos) (ds : Items) → AreInputs ds → Fair (let_form p ds)
  fair_let_form p none i = fair_wrong p 4
  fair_let_form p (item (datum.Atomic q (Symbol x)) none) i = fair_wrong p 4
  fair_let_form p (item (datum.Atomic q (Symbol x)) (item d ds)) i =
      fair_named p (word q x) d ds (bindings d) (body ds) (name_source x i.0) (fair_bindings d i.1.0) (fair_body ds i.1.1, has_body ds)
  fair_let_form p (item (datum.Atomic q (Integer z)) ds) i = fair_let p (datum.Atomic q (Integer z)) ds no_binding (body ds) (λ n. tt) (fair_body ds i.1, has_body ds)
  fair_let_form p (item (datum.Atomic q (Boolean b)) ds) i = fair_let p (datum.Atomic q (Boolean b)) ds no_binding (body ds) (λ n. tt) (fair_body ds i.1, has_body ds)
  fair_let_form p (item (datum.Atomic q (Character b)) ds) i = fair_let p (datum.Atomic q (Character b)) ds no_binding (body ds) (λ n. tt) (fair_body ds i.1, has_body ds)
  fair_let_form p (item (datum.Atomic q (String b)) ds) i = fair_let p (datum.Atomic q (String b)) ds no_binding (body ds) (λ n. tt) (fair_body ds i.1, has_body ds)
  fair_let_form p (item (datum.List q is) ds) i =
      fair_let p (datum.List q is) ds (bindings (datum.List q is)) (body ds) (fair_bindings (datum.List q is) i.0) (fair_body ds i.1, has_body ds)
  fair_let_form p (item (datum.Dotted q is d) ds) i = fair_let p (datum.Dotted q is d) ds no_binding (body ds) (λ n. tt) (fair_body ds i.1, has_body ds)
  fair_let_form p (item (datum.Vector q is) ds) i = fair_let p (datum.Vector q is) ds no_binding (body ds) (λ n. tt) (fair_body ds i.1, has_body ds)

  fair_let_star_form : (p : Pos) (ds : Items) → AreInputs ds → Fair (let_star_form p ds)
  fair_let_star_form p none i = fair_wrong p 4
  fair_let_star_form p (item d ds) i = fair_let_star p d ds (bindings d) (body ds) (fair_bindings d i.0) (fair_body ds i.1, has_body ds)

  fair_letrec_form : (p : Pos) (ds : Items) → AreInputs ds → Fair (letrec_form p ds)
  fair_letrec_form p none i = fair_wrong p 4
  fair_letrec_form p (item d ds) i = fair_letrec p d ds (bindings d) (body ds) (fair_bindings d i.0) (fair_body ds i.1, has_body ds)

  fair_do_form : (p : Pos) (ds : Items) → AreInputs ds → Fair (do_form p ds)
  fair_do_form p (item d (item (datum.List q (item e es)) ds)) i =
      fair_do p d (steps d) (expr e) (exprs es) (exprs ds) (fair_steps d i.0) (fair e i.1.0.0) (all_fair es i.1.0.1) (all_fair ds i.1.1)
  fair_do_form p ds i = fair_wrong p 9

  fair_quasi : (p : Pos) (ds : Items) → AreInputs ds → Fair (quasi_form p ds)
  fair_quasi p none i = fair_wrong p 2
  fair_quasi p (item d none) i = fair_template d i.0 0
  fair_quasi p (item d (item e ds)) i = fair_wrong p 2

  fair_clauses : (ds : Items) → AreInputs ds → are_clauses is_clause ds ≡ true → FairClauses (clauses ds)
  fair_clauses none i c = λ n. tt
  fair_clauses (item d none) i c = fair_clause_before d i.0 true c no_clause (λ n. tt)
  fair_clauses (item d (item e ds)) i c =
      let both = and_split (is_clause false d) (are_clauses is_clause (item e ds)) c in
      fair_clause_before d i.0 false both.0 (clauses (item e ds)) (fair_clauses (item e ds) i.1 both.1)

  fair_clause_before : (d : Datum) → IsInput d → (last : Bool) → is_clause last d ≡ true → (cs : Clauses) → FairClauses cs
      → FairClauses (clause_before d cs)
  fair_clause_before (datum.List p (item d ds)) i last c cs h =
      fair_cond_clause (is_word (codes "else") d) (is_arrow ds) (expr d) (exprs ds) cs (has_else p d ds last c) (fair d i.0)
      (all_fair ds i.1) (fair_receiver ds i.1) h
  fair_clause_before (datum.List p none) i last c cs h = h
  fair_clause_before (datum.Atomic p a) i last c cs h = h
  fair_clause_before (datum.Dotted p is d) i last c cs h = h
  fair_clause_before (datum.Vector p is) i last c cs h = h

  fair_receiver : (ds : Items) → AreInputs ds → FairReceiver (exprs ds)
  fair_receiver none i = tt
  fair_receiver (item d none) i = tt
  fair_receiver (item d (item e ds)) i = fair e i.1.0

  fair_cases : (ds : Items) → AreInputs ds → are_clauses is_case ds ≡ true → FairCases (cases ds)
  fair_cases none i c = λ n. tt
  fair_cases (item d none) i c = fair_case_before d i.0 true c no_case (λ n. tt)
  fair_cases (item d (item e ds)) i c =
      let both = and_split (is_case false d) (are_clauses is_case (item e ds)) c in
      fair_case_before d i.0 false both.0 (cases (item e ds)) (fair_cases (item e ds) i.1 both.1)

  fair_case_before : (d : Datum) → IsInput d → (last : Bool) → is_case last d ≡ true → (cs : Cases) → FairCases cs
      → FairCases (case_before d cs)
  fair_case_before (datum.List p (item d ds)) i last c cs h =
      fair_case_clause (is_word (codes "else") d) d (exprs ds) cs (has_case p d ds last c) i.0 (all_fair ds i.1) h
  fair_case_before (datum.List p none) i last c cs h = h
  fair_case_before (datum.Atomic p a) i last c cs h = h
  fair_case_before (datum.Dotted p is d) i last c cs h = h
  fair_case_before (datum.Vector p is) i last c cs h = h

  fair_bindings : (d : Datum) → IsInput d → FairBindings (bindings d)
  fair_bindings (datum.List p is) i = fair_binding_list is i
  fair_bindings (datum.Atomic p a) i = λ n. tt
  fair_bindings (datum.Dotted p is d) i = λ n. tt
  fair_bindings (datum.Vector p is) i = λ n. tt

  fair_binding_list : (ds : Items) → AreInputs ds → FairBindings (binding_list ds)
  fair_binding_list none i = λ n. tt
  fair_binding_list (item d ds) i = fair_binding_before d i.0 (binding_list ds) (fair_binding_list ds i.1)

  fair_binding_before : (d : Datum) → IsInput d → (bs : Bindings) → FairBindings bs → FairBindings (binding_before d bs)
  fair_binding_before (datum.List p (item (datum.Atomic q (Symbol x)) (item e none))) i bs h =
      fair_bound p (word q x) (expr e) bs (name_source x i.0) (fair e i.1.0) h
  fair_binding_before d i bs h = h

  fair_steps : (d : Datum) → IsInput d → FairSteps (steps d)
  fair_steps (datum.List p is) i = fair_step_list is i
  fair_steps (datum.Atomic p a) i = λ n. tt
  fair_steps (datum.Dotted p is d) i = λ n. tt
  fair_steps (datum.Vector p is) i = λ n. tt

  fair_step_list : (ds : Items) → AreInputs ds → FairSteps (step_list ds)
  fair_step_list none i = λ n. tt
  fair_step_list (item d ds) i = fair_step_before d i.0 (step_list ds) (fair_step_list ds i.1)

  fair_step_before : (d : Datum) → IsInput d → (ss : Steps) → FairSteps ss → FairSteps (step_before d ss)
  fair_step_before (datum.List p (item (datum.Atomic q (Symbol x)) (item e none))) i ss h =
      fair_fixed (word q x) (expr e) ss (name_source x i.0) (fair e i.1.0) h
  fair_step_before (datum.List p (item (datum.Atomic q (Symbol x)) (item e (item f none)))) i ss h =
      fair_stepped (word q x) (expr e) (expr f) ss (name_source x i.0) (fair e i.1.0) (fair f i.1.1.0) h
  fair_step_before d i ss h = h

  fair_body : (ds : Items) → AreInputs ds → FairBody (body ds)
  fair_body none i = ((λ n. tt), (λ n. tt))
  fair_body (item d ds) i =
      chosen_body (is_definition d) (after_bindings (λ bs. definitions_before d bs) (body ds)) (Of no_binding (exp (expr d) (exprs ds)))
      (fair_after (λ bs. definitions_before d bs) (body ds) (λ bs h. fair_definitions d i.0 bs h) (fair_body ds i.1))
      ((λ n. tt), fair_exp (expr d) (exprs ds) (fair d i.0) (all_fair ds i.1))

  fair_definitions : (d : Datum) → IsInput d → (bs : Bindings) → FairBindings bs → FairBindings (definitions_before d bs)
  fair_definitions (datum.List p (item d ds)) i bs h =
      chosen FairBindings (is_word (codes "define") d) (definition p ds bs) (each_definition ds bs)
      (fair_definition p ds i.1 bs h) (fair_each ds i.1 bs h)
  fair_definitions (datum.List p none) i bs h = h
  fair_definitions (datum.Atomic p a) i bs h = h
  fair_definitions (datum.Dotted p is d) i bs h = fair_broken p 10 bs
  fair_definitions (datum.Vector p is) i bs h = h

  fair_each : (ds : Items) → AreInputs ds → (bs : Bindings) → FairBindings bs → FairBindings (each_definition ds bs)
  fair_each none i bs h = h
  fair_each (item d ds) i bs h = fair_definitions d i.0 (each_definition ds bs) (fair_each ds i.1 bs h)

  fair_definition : (p : Pos) (ds : Items) → AreInputs ds → (bs : Bindings) → FairBindings bs → FairBindings (definition p ds bs)
  fair_definition p (item (datum.Atomic q (Symbol x)) (item e none)) i bs h =
      fair_bound p (word q x) (expr e) bs (name_source x i.0) (fair e i.1.0) h
  fair_definition p (item (datum.List q (item (datum.Atomic r (Symbol x)) fs)) ds) i bs h =
      fair_defined p (word r x) (are_names fs) (words fs) None ds (body ds) bs (name_source x i.0.0) (words_sources fs i.0.1) tt
      (fair_body ds i.1, has_body ds) h
  fair_definition p (item (datum.Dotted q (item (datum.Atomic r (Symbol x)) fs) d) ds) i bs h =
      fair_defined p (word r x) (are_names fs && names_it d) (words fs) (word_of d) ds (body ds) bs (name_source x i.0.0.0)
      (words_sources fs i.0.0.1) (word_source d i.0.1) (fair_body ds i.1, has_body ds) h
  fair_definition p ds i bs h = fair_broken p 11 bs

  fair_template : (d : Datum) → IsInput d → (n : ℕ) → FairTemplate (template d n)
  fair_template (datum.Atomic p a) i n = fair_plain (atom a) (atom_part a i)
  fair_template (datum.List p is) i n = fair_template_list is i n
  fair_template (datum.Dotted p is d) i n = fair_templates is i.0 n (template d n) (fair_template d i.1 n)
  fair_template (datum.Vector p is) i n =
      fair_vector_of (constant.Vector (constants is)) (template_list is n) (constants_part is i) (fair_template_list is i n)

  fair_template_list : (ds : Items) → AreInputs ds → (n : ℕ) → FairTemplate (template_list ds n)
  fair_template_list none i n = λ k. tt
  fair_template_list (item (datum.Atomic p (Symbol x)) (item e none)) i n =
      begun_each FairTemplate x
      (form (codes "unquote") (unquoted n (expr e) (template e))
      ∷ form (codes "quasiquote") (marked (codes "quasiquote") (template e (suc n)))
      ∷ [])
      (pair_of (Plain (constant.Symbol x)) (template_before e n (template e n) (Plain constant.Nil))) (
        fair_unquoted n (expr e) (template e) (fair e i.1.0) (fair_template e i.1.0),
        (fair_marked (codes "quasiquote") (template e (suc n)) (fair_template e i.1.0 (suc n)), tt),
      )
      (fair_pair_of (Plain (constant.Symbol x)) (template_before e n (template e n) (Plain constant.Nil)) (λ k. tt)
      (fair_before e i.1.0 n (template e n) (Plain constant.Nil) (fair_template e i.1.0 n) (λ k. tt)))
  fair_template_list (item d ds) i n =
      fair_before d i.0 n (template d n) (template_list ds n) (fair_template d i.0 n) (fair_template_list ds i.1 n)

  fair_templates : (ds : Items) → AreInputs ds → (n : ℕ) (t : Template) → FairTemplate t → FairTemplate (templates_before ds n t)
  fair_templates none i n t h = h
  fair_templates (item d ds) i n t h =
      fair_before d i.0 n (template d n) (templates_before ds n t) (fair_template d i.0 n) (fair_templates ds i.1 n t h)

  fair_before : (d : Datum) → IsInput d → (n : ℕ) (t rest : Template) → FairTemplate t → FairTemplate rest
      → FairTemplate (template_before d n t rest)
  fair_before (datum.List p (item (datum.Atomic q (Symbol x)) (item e none))) i n t rest h k =
      chosen FairTemplate (bytes_eq x (codes "unquote-splicing")) (spliced n (expr e) (template e) rest) (pair_of t rest)
      (fair_spliced n (expr e) (template e) rest (fair e i.1.0) (fair_template e i.1.0) k) (fair_pair_of t rest h k)
  fair_before d i n t rest h k = fair_pair_of t rest h k

-- Programs

unbroken_one : (b : Bool) (bs : Bindings) (e : Exp) (fs : Forms) → FairBindings bs → Fair e
    → (in_forms fs ≡ [] → SoundForms fs) → in_forms (if b then defining bs fs else evaluated e fs) ≡ []
    → SoundForms (if b then defining bs fs else evaluated e fs)
unbroken_one true bs e fs h k l n = let parts = append_split (in_bindings bs) (in_forms fs) n in (h parts.0, l parts.1)
unbroken_one false bs e fs h k l n = let parts = append_split (in_exp e) (in_forms fs) n in (k parts.0, l parts.1)

pub unbroken_sound : (ds : Items) → AreInputs ds → in_forms (forms ds) ≡ [] → SoundForms (forms ds)
unbroken_sound none i n = tt
unbroken_sound (item d ds) i n =
    unbroken_one (is_definition d) (definitions_before d no_binding) (expr d) (forms ds)
    (fair_definitions d i.0 no_binding (λ k. tt)) (fair d i.0) (unbroken_sound ds i.1) n
