-- The steps of a template are put behind others, part by part.
use Rattle.std.proofs.Common.{ℕ, suc, ◌≡◌, List as Seq, [], ◌∷◌, ◌++◌, length, take, Bool, true, false, refl, sym, ap, subst, ◌∙◌, append-nil, append_assoc, length-append, arith}
use Rattle.std.proofs.Math.Seq.{take-append_seam}
use Rattle.datum_form.specs.declared.datums.Node.{Node}
use Rattle.datum_form.specs.Data.{Datum, Items}
use Rattle.datum_form.specs.Data.Items.{none, item}
use Rattle.datum_form.specs.Stands.{Stands, StandAll}
use Rattle.quasi_expand.specs.declared.template.Part.{Part}
use Rattle.quasi_expand.specs.declared.template.Part.TheVariants as part
use Rattle.quasi_expand.specs.declared.template.Listed.{Listed}
use Rattle.quasi_expand.specs.Levels.{joined}
use Rattle.quasi_expand.specs.Making.{MakeAll, value, onto}
use Rattle.quasi_expand.specs.Steps.{exprs_in, Puts, Gives, MayGive, Lists, IsNext}
use Rattle.quasi_expand.specs.Templates.{Template, Entry, template, entries, entry}
use Rattle.quasi_expand.proofs.FirstItem.{first_of, after_first}
use Rattle.quasi_expand.proofs.Stacks.{then_all, one_step, makes_as, onto_append, plain_append, all_end_live, end_live}

-- Items

pub joined_none : (ds : Items) → joined ds none ≡ ds
joined_none none = refl
joined_none (item d ds) = ap (item d) (joined_none ds)

pub joined_assoc : (ds es fs : Items) → joined (joined ds es) fs ≡ joined ds (joined es fs)
joined_assoc none es fs = refl
joined_assoc (item d ds) es fs = ap (item d) (joined_assoc ds es fs)

-- Steps

pub exprs_append : (ps qs : Seq Part) → exprs_in (ps ++ qs) ≡ exprs_in ps ++ exprs_in qs
exprs_append [] qs = refl
exprs_append (part.Expr id ∷ ps) qs = ap (λ l. id ∷ l) (exprs_append ps qs)
exprs_append (part.Datum id ∷ ps) qs = exprs_append ps qs
exprs_append (part.Rest node from ∷ ps) qs = exprs_append ps qs
exprs_append (part.Cons ∷ ps) qs = exprs_append ps qs
exprs_append (part.Join ∷ ps) qs = exprs_append ps qs
exprs_append (part.Vector ∷ ps) qs = exprs_append ps qs

-- what is taken away

pub cut_back : (a more b : Seq Part) (n : ℕ) → n ≡ length a → b ≡ a ++ more → take n b ≡ a
cut_back a more b n e f = ap (λ k. take k b) e ∙ (ap (take (length a)) f ∙ take-append_seam a more)

-- what is put

-- one after another
pub longer_twice : (a b c more further : Seq Part) → b ≡ a ++ more → c ≡ b ++ further → c ≡ a ++ (more ++ further)
longer_twice a b c more further e f = f ∙ (ap (λ l. l ++ further) e ∙ append_assoc a more further)

pub gives_as : (nodes : Seq Node) (found : Bool) (a b : Seq Part) (s t : Template) → s ≡ t → Gives nodes found a b s
    → Gives nodes found a b t
gives_as nodes found a b s t e h = let P : Template → Type 0 = λ x. Gives nodes found a b x in subst P e h

pub may_as : (nodes : Seq Node) (found : Bool) (a b : Seq Part) (s t : Template) → s ≡ t → MayGive nodes found a b s
    → MayGive nodes found a b t
may_as nodes found a b s t e h = let P : Template → Type 0 = λ x. MayGive nodes found a b x in subst P e h

pub may_found : (nodes : Seq Node) (f g : Bool) (a b : Seq Part) (t : Template) → f ≡ g → MayGive nodes f a b t → MayGive nodes g a b t
may_found nodes f g a b t e h = let P : Bool → Type 0 = λ k. MayGive nodes k a b t in subst P e h

-- Items, one after another

none_listed : (nodes : Seq Node) (a : Seq Part) → Lists nodes 0 false a a []
none_listed nodes a = record {
  front = [];
  back = [];
  first = [];
  later = [];
  are = refl;
  longer = sym (append-nil a);
  make = λ s. refl;
  make_later = λ s. refl;
  many = refl;
  steps = refl;
  plain_later = tt;
  live = λ e. absurd (cc);
  none_before = λ e. (refl, refl);
}

pub all_made : (nodes : Seq Node) (n : ℕ) (found : Bool) (a b : Seq Part) (es : Seq Entry) → (h : Lists nodes n found a b es)
    → (s : Seq Template) → MakeAll nodes (h.first ++ h.later) s (onto es s)
all_made nodes n found a b es h s =
    makes_as nodes (h.first ++ h.later) s (onto h.back (onto h.front s)) (onto es s)
    (sym (ap (λ l. onto l s) h.are ∙ onto_append h.front h.back s))
    (then_all nodes h.first h.later s (onto h.front s) (onto h.back (onto h.front s)) (h.make s) (h.make_later (onto h.front s)))

with_count : (nodes : Seq Node) (m n : ℕ) (f g : Bool) (a b : Seq Part) (es : Seq Entry) → m ≡ n → f ≡ g → Lists nodes m f a b es
    → Lists nodes n g a b es
with_count nodes m n f g a b es e r h =
    let P : ℕ → Type 0 = λ k. Lists nodes k f a b es in
    let Q : Bool → Type 0 = λ k. Lists nodes n k a b es in
    subst Q r (subst P e h)

-- steps of one more item
item_made : (nodes : Seq Node) (ps qs : Seq Part) (es : Seq Entry) (e : Entry) (s : Seq Template) → MakeAll nodes ps s (onto es s)
    → MakeAll nodes qs (onto es s) (value e ∷ onto es s) → MakeAll nodes (ps ++ qs) s (onto (es ++ e ∷ []) s)
item_made nodes ps qs es e s h k =
    then_all nodes ps qs s (onto es s) (onto (es ++ e ∷ []) s) h
    (makes_as nodes qs (onto es s) (value e ∷ onto es s) (onto (es ++ e ∷ []) s) (sym (onto_append es (e ∷ []) s)) k)

found_more : (nodes : Seq Node) (n : ℕ) (f : Bool) (a b c : Seq Part) (es : Seq Entry) (e : Entry) → Lists nodes n f a b es
    → Puts nodes b c (value e) → Lists nodes 0 true a c (es ++ e ∷ [])
found_more nodes n f a b c es e h q =
    let before : Seq Part = h.first ++ h.later in
    record {
      front = es ++ e ∷ [];
      back = [];
      first = before ++ q.more;
      later = [];
      are = sym (append-nil (es ++ e ∷ []));
      longer =
          longer_twice a b c before q.more h.longer q.longer ∙ ap (λ l. a ++ l) (sym (append-nil (before ++ q.more)));
      make = λ s. item_made nodes before q.more es e s (all_made nodes n f a b es h s) (q.make (onto es s));
      make_later = λ s. refl;
      many = refl;
      steps = refl;
      plain_later = tt;
      live = λ k rest. (all_end_live es e rest q.live, end_live es e rest q.live);
      none_before = λ k. absurd (cc);
    }

one_longer : {A : Type 0} (xs : Seq A) (x : A) (n : ℕ) → length xs ≡ n → length (xs ++ x ∷ []) ≡ suc n
one_longer xs x n e = length-append xs (x ∷ []) ∙ omega (arith, e)

plain_more : (nodes : Seq Node) (n : ℕ) (f : Bool) (a b c : Seq Part) (es : Seq Entry) (e : Entry) → Lists nodes n f a b es
    → Gives nodes false b c (value e) → Lists nodes (suc n) f a c (es ++ e ∷ [])
plain_more nodes n f a b c es e h g = record {
  front = h.front;
  back = h.back ++ e ∷ [];
  first = h.first;
  later = h.later ++ g.0 ∷ [];
  are = ap (λ l. l ++ e ∷ []) h.are ∙ append_assoc h.front h.back (e ∷ []);
  longer =
      longer_twice a b c (h.first ++ h.later) (g.0 ∷ []) h.longer g.1
      ∙ ap (λ l. a ++ l) (append_assoc h.first h.later (g.0 ∷ []));
  make = h.make;
  make_later =
      λ s.
      item_made nodes h.later (g.0 ∷ []) h.back e s (h.make_later s)
      (one_step nodes g.0 (onto h.back s) (value e ∷ onto h.back s) (g.2 (onto h.back s)));
  many = one_longer h.back e n h.many;
  steps = one_longer h.later g.0 n h.steps;
  plain_later = plain_append h.back (e ∷ []) h.plain_later (g.3, tt);
  live = h.live;
  none_before = h.none_before;
}

one_more : (nodes : Seq Node) (found : Bool) (old new : Listed) (a b c : Seq Part) (es : Seq Entry) (e : Entry) → IsNext found old new
    → Lists nodes old.plain old.found a b es → Gives nodes found b c (value e) → Lists nodes new.plain new.found a c (es ++ e ∷ [])
one_more nodes true old new a b c es e i h g =
    with_count nodes 0 new.plain true new.found a c (es ++ e ∷ []) (sym i.1) (sym i.0)
    (found_more nodes old.plain old.found a b c es e h g)
one_more nodes false old new a b c es e i h g =
    with_count nodes (suc old.plain) new.plain old.found new.found a c (es ++ e ∷ []) (sym i.1) (sym i.0)
    (plain_more nodes old.plain old.found a b c es e h g)

-- the items before those that are left are listed
pub record SomeListed (nodes : Seq Node) (rest : Seq ℕ) (n plain : ℕ) (found : Bool) (a b : Seq Part) (ds : Items) : Type 0 where
  pub past : Seq Entry
  pub left : Items
  pub stand : StandAll nodes rest left
  pub lists : Lists nodes plain found a b past
  pub total : past ++ entries left n ≡ entries ds n

pub none_some_listed : (nodes : Seq Node) (rest : Seq ℕ) (n : ℕ) (a : Seq Part) (ds : Items) → StandAll nodes rest ds
    → SomeListed nodes rest n 0 false a a ds
none_some_listed nodes rest n a ds h = record { past = []; left = ds; stand = h; lists = none_listed nodes a; total = refl }

pub one_listed : (nodes : Seq Node) (rest others : Seq ℕ) (first n : ℕ) (found : Bool) (old new : Listed) (a b c : Seq Part) (ds : Items)
    → SomeListed nodes rest n old.plain old.found a b ds → rest ≡ first ∷ others → IsNext found old new
    → ((d : Datum) → Stands nodes first d → Gives nodes found b c (value (entry d n (template d n))))
    → SomeListed nodes others n new.plain new.found a c ds
one_listed nodes rest others first n found old new a b c ds s split next one = by_left s.left s.stand s.total
  where
    by_left : (left : Items) → StandAll nodes rest left → s.past ++ entries left n ≡ entries ds n
        → SomeListed nodes others n new.plain new.found a c ds
    by_left none h total = absurd (cc)
    by_left (item d es) h total =
        let this = entry d n (template d n) in
        record {
          past = s.past ++ this ∷ [];
          left = es;
          stand = after_first nodes rest others first d es split h;
          lists =
              one_more nodes found old new a b c s.past this next s.lists
              (one d (first_of nodes rest others first d es split h));
          total = append_assoc s.past (this ∷ []) (entries es n) ∙ total;
        }

pub all_listed : (nodes : Seq Node) (rest : Seq ℕ) (n plain : ℕ) (found : Bool) (a b : Seq Part) (ds : Items)
    → SomeListed nodes rest n plain found a b ds → rest ≡ [] → Lists nodes plain found a b (entries ds n)
all_listed nodes rest n plain found a b ds s empty = by_left s.left s.stand s.total
  where
    by_left : (left : Items) → StandAll nodes rest left → s.past ++ entries left n ≡ entries ds n
        → Lists nodes plain found a b (entries ds n)
    by_left none h total =
        let P : Seq Entry → Type 0 = λ l. Lists nodes plain found a b l in
        subst P (sym (append-nil s.past) ∙ total) s.lists
    by_left (item d es) h total = absurd (let some = h.2 in cc)
