-- The parts of a `do`, and their faults.
use Rattle.std.proofs.Common.{ℕ, ◌≡◌, List, [], ◌∷◌, ◌++◌, Option, Some, None, Bool, true, false, refl, sym, ap, subst, ◌∙◌, append_assoc}
use Rattle.std.specs.Prelude.{not, if◌then◌else◌}
use Rattle.std.proofs.lemmas.List.{append-nil}
use Rattle.scheme_base.specs.declared.pos.Pos.{Pos}
use Rattle.datum_form.specs.declared.token.Atom.TheVariants.{Integer, Boolean, Character, String, Symbol}
use Rattle.datum_form.specs.Data.{Datum, Datum as datum, Items}
use Rattle.datum_form.specs.Data.Items.{none, item}
use Rattle.datum_form.specs.Stands.{Stands}
use Rattle.quasi_expand.specs.Agreement.{Agree}
use Rattle.quasi_expand.specs.Loops.{IsDo, IsStep, do_of, step_of}
use Rattle.quasi_expand.specs.Shapes.{all_items, is_name, is_step}
use Rattle.quasi_expand.specs.declared.do_loop.DoBinding.{DoBinding}
use Rattle.quasi_expand.specs.declared.do_loop.DoLoop.{DoLoop}
use Rattle.scheme_expand.specs.declared.binding.Turns.{Turns}
use Rattle.scheme_expand.specs.declared.expander.Expander.{Expander}
use Rattle.scheme_expand.specs.declared.source.Source.{Source}
use Rattle.scheme_expand.specs.Forms.{Word, Exp, Exps, Steps, Wrong, Do}
use Rattle.scheme_expand.specs.Grammar.{word, rule, checked, twice, step_words, do_of as do_with, do_form, step_list, step_before, expr, exprs}
use Rattle.scheme_expand.specs.Faults.{Fault, least, in_exp, in_exps, in_word, in_words, in_steps}
use Rattle.scheme_expand.specs.Shapes.{AreSteps, AreTurns, those}
use Rattle.scheme_expand.specs.Waiting.{earlier, named_datum, named_data, IsNamed, Reads, ReadAll, Adds}
use Rattle.scheme_expand.proofs.Adding.{both, due}
use Rattle.scheme_expand.proofs.Bodies.{then_none}
use Rattle.scheme_expand.proofs.Due.{of, of_all, of_one, of_last, of_joined, backwards}
use Rattle.scheme_expand.proofs.Least.{earlier_none, earlier_assoc, earlier_swap, least_append}
use Rattle.scheme_expand.proofs.NextValues.{those_behind}
use Rattle.scheme_expand.proofs.Pairs.{behind}
use Rattle.scheme_expand.proofs.Parts.{no_items, first_of, joined, read_one, read_joined}

-- Faults of bindings

-- what is due of the names, of what they are first, and of the next turn
abbrev pub three : List Word → Items → Items → Option Fault
three ws is ns = earlier (least (in_words ws)) (earlier (of_all is) (of_all ns))

four : (a b c d : Option Fault) → earlier (earlier a b) (earlier c d) ≡ earlier (earlier a c) (earlier b d)
four a b c d =
    earlier_assoc a b (earlier c d) ∙ (ap (earlier a) (earlier_swap b c d) ∙ sym (earlier_assoc a c (earlier b d)))

words_last : (ws : List Word) (w : Word) → least (in_words (ws ++ w ∷ [])) ≡ earlier (least (in_words ws)) (least (in_word w))
words_last [] w = ap least (append-nil (in_word w))
words_last (v ∷ ws) w =
    least_append (in_word v) (in_words (ws ++ w ∷ []))
    ∙ (ap (earlier (least (in_word v))) (words_last ws w)
    ∙ (sym (earlier_assoc (least (in_word v)) (least (in_words ws)) (least (in_word w)))
    ∙ ap (λ x. earlier x (least (in_word w))) (sym (least_append (in_word v) (in_words ws)))))

-- one more behind the others
three_last : (ws : List Word) (w : Word) (is ns ms : Items) (e : Datum)
    → earlier (three ws is ns) (earlier (least (in_word w)) (earlier (of e) (of_all ms)))
    ≡ three (ws ++ w ∷ []) (joined is (item e none)) (joined ns ms)
three_last ws w is ns ms e =
    four (least (in_words ws)) (earlier (of_all is) (of_all ns)) (least (in_word w)) (earlier (of e) (of_all ms))
    ∙ (ap (λ x. earlier x (earlier (earlier (of_all is) (of_all ns)) (earlier (of e) (of_all ms)))) (sym (words_last ws w))
    ∙ ap (earlier (least (in_words (ws ++ w ∷ []))))
    (four (of_all is) (of_all ns) (of e) (of_all ms)
    ∙ (ap (λ x. earlier x (earlier (of_all ns) (of_all ms))) (sym (of_last is e))
    ∙ ap (earlier (of_all (joined is (item e none)))) (sym (of_joined ns ms)))))

-- One binding

pub record StepRead (s : Source) (b : DoBinding) (d : Datum) : Type 0 where
  pub word : Word
  pub first : Datum
  pub next : Items
  pub named : Reads s b.name (named_datum word)
  pub init : Reads s b.init first
  pub step : ReadAll s (those (b.step ∷ [])) next
  pub words : (ss : Steps) → step_words (step_before d ss) ≡ word ∷ step_words ss
  pub before : (is : List ℕ) (os : List (Option ℕ)) (ss : Steps) → AreSteps s is os ss
      → AreSteps s (b.init ∷ is) (b.step ∷ os) (step_before d ss)
  pub same : (ss : Steps) → least (in_steps (step_before d ss))
      ≡ earlier (earlier (least (in_word word)) (earlier (of first) (of_all next))) (least (in_steps ss))

named_is : (v : Datum) → is_name v ≡ true → (w : Word) × (v ≡ named_datum w)
named_is (datum.Atomic p (Symbol x)) h = (word p x, refl)
named_is (datum.Atomic p (Integer z)) h = absurd (cc)
named_is (datum.Atomic p (Boolean b)) h = absurd (cc)
named_is (datum.Atomic p (Character c)) h = absurd (cc)
named_is (datum.Atomic p (String t)) h = absurd (cc)
named_is (datum.List p is) h = absurd (cc)
named_is (datum.Dotted p is d) h = absurd (cc)
named_is (datum.Vector p is) h = absurd (cc)

no_step_read : (s : Source) (o : Option ℕ) → IsNamed s → Agree (Stands s.nodes.now) o None → ReadAll s (those (o ∷ [])) none
no_step_read s None n h = record { named = n; stand = refl }
no_step_read s (Some id) n h = absurd h

one_step_read : (s : Source) (o : Option ℕ) (f : Datum) → IsNamed s → Agree (Stands s.nodes.now) o (Some f)
    → ReadAll s (those (o ∷ [])) (item f none)
one_step_read s None f n h = absurd h
one_step_read s (Some id) f n h = read_one s id f (record { named = n; stands = h })

no_step_is : (s : Source) (o : Option ℕ) → Agree (Stands s.nodes.now) o None → o ≡ None
no_step_is s None h = refl
no_step_is s (Some id) h = absurd h

one_step_is : (s : Source) (o : Option ℕ) (f : Datum) → Agree (Stands s.nodes.now) o (Some f)
    → (id : ℕ) × (o ≡ Some id) × Stands s.nodes.now id f
one_step_is s None f h = absurd h
one_step_is s (Some id) f h = (id, refl, h)

kept : (s : Source) (b : DoBinding) (p : Pos) (v e : Datum) → IsNamed s → (c : Bool) → is_name v ≡ c
    → Agree (IsStep s.nodes.now) (Some b) (if c then Some (record { name = v; first = e; next = None }) else None)
    → StepRead s b (datum.List p (item v (item e none)))
kept s b p v e n false t h = absurd h
kept s b p v e n true t h =
    let i = named_is v t in
    let w = word i.0.place i.0.name in
    let P : Datum → Type 0 = λ x. Stands s.nodes.now b.name x in
    let Q : Datum → Type 0 = λ x. StepRead s b (datum.List p (item x (item e none))) in
    let read : StepRead s b (datum.List p (item (named_datum w) (item e none))) =
    record {
      word = w;
      first = e;
      next = none;
      named = record { named = n; stands = subst P i.1 h.name };
      init = record { named = n; stands = h.first };
      step = no_step_read s b.step n h.next;
      words = λ ss. refl;
      before =
          λ is os ss a.
          (b.init, is, os, refl, ap (λ o. o ∷ os) (no_step_is s b.step h.next), e, record { named = n; stands = h.first }, refl, a);
      same =
          λ ss.
          least_append (in_word w) (in_exp (expr e) ++ in_steps ss)
          ∙ (ap (earlier (least (in_word w)))
          (least_append (in_exp (expr e)) (in_steps ss) ∙ ap (λ x. earlier x (least (in_steps ss))) (sym (earlier_none (of e))))
          ∙ sym (earlier_assoc (least (in_word w)) (earlier (of e) None) (least (in_steps ss))));
    }
    in
    subst Q (sym i.1) read

changed : (s : Source) (b : DoBinding) (p : Pos) (v e f : Datum) → IsNamed s → (c : Bool) → is_name v ≡ c
    → Agree (IsStep s.nodes.now) (Some b) (if c then Some (record { name = v; first = e; next = Some f }) else None)
    → StepRead s b (datum.List p (item v (item e (item f none))))
changed s b p v e f n false t h = absurd h
changed s b p v e f n true t h =
    let i = named_is v t in
    let w = word i.0.place i.0.name in
    let P : Datum → Type 0 = λ x. Stands s.nodes.now b.name x in
    let Q : Datum → Type 0 = λ x. StepRead s b (datum.List p (item x (item e (item f none)))) in
    let read : StepRead s b (datum.List p (item (named_datum w) (item e (item f none)))) =
    record {
      word = w;
      first = e;
      next = item f none;
      named = record { named = n; stands = subst P i.1 h.name };
      init = record { named = n; stands = h.first };
      step = one_step_read s b.step f n h.next;
      words = λ ss. refl;
      before =
          λ is os ss a.
          let g = one_step_is s b.step f h.next in (
            b.init,
            is,
            os,
            g.0,
            refl,
            ap (λ o. o ∷ os) g.1,
            e,
            record { named = n; stands = h.first },
            refl,
            f,
            record { named = n; stands = g.2 },
            refl,
            a,
          );
      same =
          λ ss.
          least_append (in_word w) (in_exp (expr e) ++ (in_exp (expr f) ++ in_steps ss))
          ∙ (ap (earlier (least (in_word w)))
          (least_append (in_exp (expr e)) (in_exp (expr f) ++ in_steps ss)
          ∙ (ap (earlier (of e)) (least_append (in_exp (expr f)) (in_steps ss))
          ∙ (sym (earlier_assoc (of e) (of f) (least (in_steps ss)))
          ∙ ap (λ x. earlier (earlier (of e) x) (least (in_steps ss))) (sym (of_one f)))))
          ∙ sym (earlier_assoc (least (in_word w)) (earlier (of e) (of_all (item f none))) (least (in_steps ss))));
    }
    in
    subst Q (sym i.1) read

pub step_read : (s : Source) (b : DoBinding) (d : Datum) → IsNamed s → Agree (IsStep s.nodes.now) (Some b) (step_of d) → StepRead s b d
step_read s b (datum.Atomic p a) n h = absurd h
step_read s b (datum.Dotted p is d) n h = absurd h
step_read s b (datum.Vector p is) n h = absurd h
step_read s b (datum.List p none) n h = absurd h
step_read s b (datum.List p (item v none)) n h = absurd h
step_read s b (datum.List p (item v (item e none))) n h = kept s b p v e n (is_name v) refl h
step_read s b (datum.List p (item v (item e (item f none)))) n h = changed s b p v e f n (is_name v) refl h
step_read s b (datum.List p (item v (item e (item f (item g gs))))) n h = absurd h

-- Bindings, one after another

pub record TurnsRead (s : Source) (ds : Items) (names values : List ℕ) (nexts : List (Option ℕ)) (rest : List ℕ) : Type 0 where
  pub words : List Word
  pub first : Items
  pub next : Items
  pub left : Items
  pub named : ReadAll s names (named_data words)
  pub inits : ReadAll s values first
  pub steps : ReadAll s (those nexts) next
  pub read : ReadAll s rest left
  pub bound : step_words (step_list ds) ≡ words ++ step_words (step_list left)
  pub are : (is : List ℕ) (os : List (Option ℕ)) → AreSteps s is os (step_list left)
      → AreSteps s (values ++ is) (nexts ++ os) (step_list ds)
  pub total : least (in_steps (step_list ds)) ≡ earlier (three words first next) (least (in_steps (step_list left)))

pub no_turns_read : (s : Source) (ids names inits : List ℕ) (nexts : List (Option ℕ)) (ds : Items) → ReadAll s ids ds
    → names ≡ [] → inits ≡ [] → nexts ≡ [] → TurnsRead s ds names inits nexts ids
no_turns_read s ids names inits nexts ds h e f g = record {
  words = [];
  first = none;
  next = none;
  left = ds;
  named = record { named = h.named; stand = e };
  inits = record { named = h.named; stand = f };
  steps = record { named = h.named; stand = ap those g };
  read = h;
  bound = refl;
  are =
      λ is os a.
      let P : List ℕ → Type 0 = λ l. AreSteps s (l ++ is) os (step_list ds) in
      let Q : List (Option ℕ) → Type 0 = λ l. AreSteps s (inits ++ is) (l ++ os) (step_list ds) in
      subst Q (sym g) (subst P (sym f) a);
  total = refl;
}

pub one_turn_read : (s : Source) (ds : Items) (names inits names2 inits2 rest others : List ℕ) (nexts nexts2 : List (Option ℕ))
    (id : ℕ) (b : DoBinding) → TurnsRead s ds names inits nexts rest → rest ≡ id ∷ others → names2 ≡ names ++ b.name ∷ []
    → inits2 ≡ inits ++ b.init ∷ [] → nexts2 ≡ nexts ++ b.step ∷ []
    → ((d : Datum) → Reads s id d → Agree (IsStep s.nodes.now) (Some b) (step_of d)) → TurnsRead s ds names2 inits2 nexts2 others
one_turn_read s ds names inits names2 inits2 rest others nexts nexts2 id b i e p q r binding =
    let f = first_of s rest id others i.left e i.read in
    let n = step_read s b f.datum f.first.named (binding f.datum f.first) in
    let w = word n.word.place n.word.name in
    let ss = step_list f.others in
    let P : List ℕ → Type 0 = λ l. ReadAll s l (named_data (i.words ++ w ∷ [])) in
    let Q : List ℕ → Type 0 = λ l. ReadAll s l (joined i.first (item n.first none)) in
    let R : List ℕ → Type 0 = λ l. ReadAll s l (joined i.next n.next) in
    let N : Items → Type 0 = λ l. ReadAll s (names ++ b.name ∷ []) l in
    record {
      words = i.words ++ w ∷ [];
      first = joined i.first (item n.first none);
      next = joined i.next n.next;
      left = f.others;
      named =
          subst P (sym p)
          (subst N (behind i.words w)
          (read_joined s names (b.name ∷ []) (named_data i.words) (item (named_datum w) none) i.named
          (read_one s b.name (named_datum w) n.named)));
      inits =
          subst Q (sym q)
          (read_joined s inits (b.init ∷ []) i.first (item n.first none) i.inits (read_one s b.init n.first n.init));
      steps =
          subst R (sym (ap those r ∙ those_behind nexts b.step))
          (read_joined s (those nexts) (those (b.step ∷ [])) i.next n.next i.steps n.step);
      read = f.rest;
      bound =
          i.bound
          ∙ (ap (λ l. i.words ++ step_words (step_list l)) f.are
          ∙ (ap (λ l. i.words ++ l) (n.words ss) ∙ sym (append_assoc i.words (w ∷ []) (step_words ss))));
      are =
          λ is os a.
          let S : Items → Type 0 = λ l. AreSteps s (b.init ∷ is) (b.step ∷ os) (step_list l) in
          let T : List ℕ → Type 0 = λ l. AreSteps s l (nexts ++ b.step ∷ os) (step_list ds) in
          let U : List (Option ℕ) → Type 0 = λ l. AreSteps s (inits2 ++ is) l (step_list ds) in
          subst U (sym (ap (λ l. l ++ os) r ∙ append_assoc nexts (b.step ∷ []) os))
          (subst T (sym (ap (λ l. l ++ is) q ∙ append_assoc inits (b.init ∷ []) is))
          (i.are (b.init ∷ is) (b.step ∷ os) (subst S (sym f.are) (n.before is os ss a))));
      total =
          i.total
          ∙ (ap (λ l. earlier (three i.words i.first i.next) (least (in_steps (step_list l)))) f.are
          ∙ (ap (earlier (three i.words i.first i.next)) (n.same ss)
          ∙ (sym
          (earlier_assoc (three i.words i.first i.next)
          (earlier (least (in_word n.word)) (earlier (of n.first) (of_all n.next))) (least (in_steps ss)))
          ∙ ap (λ x. earlier x (least (in_steps ss))) (three_last i.words w i.first i.next n.next n.first))));
    }

pub all_turns_read : (s : Source) (ds : Items) (names inits rest : List ℕ) (nexts : List (Option ℕ)) (turns : Turns)
    → TurnsRead s ds names inits nexts rest → rest ≡ [] → turns.names.items ≡ names → turns.inits.items ≡ inits
    → turns.steps.items ≡ nexts → AreTurns s turns (step_list ds)
all_turns_read s ds names inits rest nexts turns i e p q r =
    let over = no_items s rest i.left e i.read in
    let all : step_words (step_list ds) ≡ i.words =
    i.bound ∙ (ap (λ x. i.words ++ step_words (step_list x)) over ∙ append-nil i.words)
    in
    let P : List ℕ → Type 0 = λ x. ReadAll s x (named_data (step_words (step_list ds))) in
    let Q : List ℕ → Type 0 = λ x. ReadAll s x i.first in
    let R : List ℕ → Type 0 = λ x. ReadAll s x i.next in
    let N : List Word → Type 0 = λ ws. ReadAll s names (named_data ws) in
    record {
      names = subst P (sym p) (subst N (sym all) i.named);
      first = i.first;
      next = i.next;
      inits = subst Q (sym q) i.inits;
      steps = subst R (sym (ap those r)) i.steps;
      are =
          let S : Items → Type 0 = λ l. AreSteps s [] [] (step_list l) in
          let T : List ℕ → Type 0 = λ l. AreSteps s l (nexts ++ []) (step_list ds) in
          let U : List (Option ℕ) → Type 0 = λ l. AreSteps s turns.inits.items l (step_list ds) in
          subst U (append-nil nexts ∙ sym r)
          (subst T (append-nil inits ∙ sym q) (i.are [] [] (subst S (sym over) (refl, refl))));
      same =
          i.total
          ∙ (ap (λ x. earlier (three i.words i.first i.next) (least (in_steps (step_list x)))) over
          ∙ (earlier_none (three i.words i.first i.next) ∙ ap (λ ws. three ws i.first i.next) (sym all)));
    }

-- The whole

pub record DoIs (s : Source) (l : DoLoop) (p : Pos) (ds : Items) : Type 0 where
  pub steps : Items
  pub test : Datum
  pub results : Items
  pub commands : Items
  pub shape : all_items is_step steps ≡ true
  pub read_steps : ReadAll s l.bindings.now steps
  pub read_test : Reads s l.test test
  pub read_results : ReadAll s l.results.now results
  pub read_commands : ReadAll s l.commands.now commands
  pub same : do_form p ds ≡ checked p (rule (twice (step_words (step_list steps))) 12 ∷ [])
      (Do p (step_list steps) (expr test) (exprs results) (exprs commands))

-- a `do` of these bindings and parts, whose first check is known
with_steps : (p q : Pos) (bs : Items) (ss : Steps) (t : Exp) (rs cs : Exps) (b : Bool) → all_items is_step bs ≡ b
    → do_with p (datum.List q bs) ss t rs cs ≡ checked p (rule (not b) 9 ∷ rule (twice (step_words ss)) 12 ∷ []) (Do p ss t rs cs)
with_steps p q bs ss t rs cs b e =
    ap (λ x. checked p (rule (not x) 9 ∷ rule (twice (step_words ss)) 12 ∷ []) (Do p ss t rs cs)) e

good_do : (s : Source) (l : DoLoop) (p q r : Pos) (bs : Items) (e : Datum) (es cs : Items) → IsNamed s → (b : Bool)
    → all_items is_step bs ≡ b
    → Agree (IsDo s.nodes.now) (Some l)
    (if b then Some (record { steps = bs; test = e; results = es; commands = cs }) else None)
    → DoIs s l p (item (datum.List q bs) (item (datum.List r (item e es)) cs))
good_do s l p q r bs e es cs n true t h = record {
  steps = bs;
  test = e;
  results = es;
  commands = cs;
  shape = t;
  read_steps = record { named = n; stand = h.steps };
  read_test = record { named = n; stands = h.test };
  read_results = record { named = n; stand = h.results };
  read_commands = record { named = n; stand = h.commands };
  same = with_steps p q bs (step_list bs) (expr e) (exprs es) (exprs cs) true t;
}
good_do s l p q r bs e es cs n false t h = absurd h

pub do_is : (s : Source) (l : DoLoop) (p : Pos) (w : Datum) (ds : Items) → IsNamed s
    → Agree (IsDo s.nodes.now) (Some l) (do_of (item w ds)) → DoIs s l p ds
do_is s l p w none n h = absurd h
do_is s l p w (item b none) n h = absurd h
do_is s l p w (item (datum.List q bs) (item (datum.List r (item e es)) cs)) n h = good_do s l p q r bs e es cs n (all_items is_step bs) refl h
do_is s l p w (item (datum.List q bs) (item (datum.List r none) cs)) n h = absurd h
do_is s l p w (item (datum.List q bs) (item (datum.Atomic r a) cs)) n h = absurd h
do_is s l p w (item (datum.List q bs) (item (datum.Dotted r is d) cs)) n h = absurd h
do_is s l p w (item (datum.List q bs) (item (datum.Vector r is) cs)) n h = absurd h
do_is s l p w (item (datum.Atomic q a) (item c cs)) n h = absurd h
do_is s l p w (item (datum.Dotted q is d) (item c cs)) n h = absurd h
do_is s l p w (item (datum.Vector q is) (item c cs)) n h = absurd h

bad_do : (s : Source) (p q r : Pos) (bs : Items) (e : Datum) (es cs : Items) (b : Bool) → all_items is_step bs ≡ b
    → Agree (IsDo s.nodes.now) None
    (if b then Some (record { steps = bs; test = e; results = es; commands = cs }) else None)
    → do_form p (item (datum.List q bs) (item (datum.List r (item e es)) cs)) ≡ Wrong p 9
bad_do s p q r bs e es cs true t h = absurd h
bad_do s p q r bs e es cs false t h = with_steps p q bs (step_list bs) (expr e) (exprs es) (exprs cs) false t

pub do_not : (s : Source) (p : Pos) (w : Datum) (ds : Items) → Agree (IsDo s.nodes.now) None (do_of (item w ds))
    → do_form p ds ≡ Wrong p 9
do_not s p w none h = refl
do_not s p w (item b none) h = refl
do_not s p w (item (datum.List q bs) (item (datum.List r (item e es)) cs)) h = bad_do s p q r bs e es cs (all_items is_step bs) refl h
do_not s p w (item (datum.List q bs) (item (datum.List r none) cs)) h = refl
do_not s p w (item (datum.List q bs) (item (datum.Atomic r a) cs)) h = refl
do_not s p w (item (datum.List q bs) (item (datum.Dotted r is d) cs)) h = refl
do_not s p w (item (datum.List q bs) (item (datum.Vector r is) cs)) h = refl
do_not s p w (item (datum.Atomic q a) (item (datum.List r (item e es)) cs)) h = refl
do_not s p w (item (datum.Atomic q a) (item (datum.List r none) cs)) h = refl
do_not s p w (item (datum.Atomic q a) (item (datum.Atomic r b) cs)) h = refl
do_not s p w (item (datum.Atomic q a) (item (datum.Dotted r is d) cs)) h = refl
do_not s p w (item (datum.Atomic q a) (item (datum.Vector r is) cs)) h = refl
do_not s p w (item (datum.Dotted q js f) (item (datum.List r (item e es)) cs)) h = refl
do_not s p w (item (datum.Dotted q js f) (item (datum.List r none) cs)) h = refl
do_not s p w (item (datum.Dotted q js f) (item (datum.Atomic r b) cs)) h = refl
do_not s p w (item (datum.Dotted q js f) (item (datum.Dotted r is d) cs)) h = refl
do_not s p w (item (datum.Dotted q js f) (item (datum.Vector r is) cs)) h = refl
do_not s p w (item (datum.Vector q js) (item (datum.List r (item e es)) cs)) h = refl
do_not s p w (item (datum.Vector q js) (item (datum.List r none) cs)) h = refl
do_not s p w (item (datum.Vector q js) (item (datum.Atomic r b) cs)) h = refl
do_not s p w (item (datum.Vector q js) (item (datum.Dotted r is d) cs)) h = refl
do_not s p w (item (datum.Vector q js) (item (datum.Vector r is) cs)) h = refl

pub do_twice : (s : Source) (l : DoLoop) (p : Pos) (ds : Items) (i : DoIs s l p ds) → twice (step_words (step_list i.steps)) ≡ true
    → do_form p ds ≡ Wrong p 12
do_twice s l p ds i e =
    i.same
    ∙ ap
    (λ b. checked p (rule b 12 ∷ []) (Do p (step_list i.steps) (expr i.test) (exprs i.results) (exprs i.commands))) e

pub do_good : (s : Source) (l : DoLoop) (p : Pos) (ds : Items) (i : DoIs s l p ds) → twice (step_words (step_list i.steps)) ≡ false
    → least
    (in_steps (step_list i.steps) ++ (in_exp (expr i.test) ++ (in_exps (exprs i.results) ++ in_exps (exprs i.commands))))
    ≡ least (in_exp (do_form p ds))
do_good s l p ds i e =
    ap (λ x. least (in_exp x))
    (sym
    (i.same
    ∙ ap
    (λ b. checked p (rule b 12 ∷ []) (Do p (step_list i.steps) (expr i.test) (exprs i.results) (exprs i.commands))) e))

-- names, first values, values for the next turn, commands, results and the test
pub repeat_due : (a b c d e f g h k : Expander) (turns : Turns) (ss : Steps) (t : Datum) (rs cs : Items)
    → (i : AreTurns a.source turns ss) → Adds a b (least (in_words (step_words ss))) → Adds b c None
    → Adds c d (of_all i.first) → Adds d e None → Adds e f (of_all i.next) → Adds f g (of_all cs) → Adds g h (of_all rs)
    → Adds h k (of t)
    → Adds a k (least (in_steps ss ++ (in_exp (expr t) ++ (in_exps (exprs rs) ++ in_exps (exprs cs)))))
repeat_due a b c d e f g h k turns ss t rs cs i names call inits lambda next commands results test =
    let w = least (in_words (step_words ss)) in
    let x = of_all i.first in
    let y = of_all i.next in
    let one = then_none a b c w names call in
    let two = then_none a d e (earlier w x) (both a c d w x one inits) lambda in
    let all = both a e f (earlier w x) y two next in
    let last = both f g k (of_all cs) (earlier (of_all rs) (of t)) commands (both g h k (of_all rs) (of t) results test) in
    let s = least (in_steps ss) in
    due a k (earlier (earlier (earlier w x) y) (earlier (of_all cs) (earlier (of_all rs) (of t))))
    (least (in_steps ss ++ (in_exp (expr t) ++ (in_exps (exprs rs) ++ in_exps (exprs cs)))))
    (ap (λ z. earlier z (earlier (of_all cs) (earlier (of_all rs) (of t)))) (earlier_assoc w x y ∙ sym i.same)
    ∙ (ap (earlier s) (backwards (of t) (of_all rs) (of_all cs))
    ∙ (ap (λ z. earlier s (earlier (of t) z)) (sym (least_append (in_exps (exprs rs)) (in_exps (exprs cs))))
    ∙ (ap (earlier s) (sym (least_append (in_exp (expr t)) (in_exps (exprs rs) ++ in_exps (exprs cs))))
    ∙ sym (least_append (in_steps ss) (in_exp (expr t) ++ (in_exps (exprs rs) ++ in_exps (exprs cs))))))))
    (both a f k (earlier (earlier w x) y) (earlier (of_all cs) (earlier (of_all rs) (of t))) all last)
