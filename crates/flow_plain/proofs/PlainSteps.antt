-- What plain steps from nothing lead to.
use Rattle.std.proofs.Common.{ℕ, List, ◌++◌, take, true, false, length, ◌≡◌, ◌+◌, ◌-◌, ◌*◌, ◌<◌, ◌≤◌, ◌⊎◌, ◌↔◌, inl, inr, sym, ap, ◌∙◌, arith, subst, add-one, replicate}
use Rattle.std.proofs.Math.Seq.{take-append_seam}
use Rattle.std.proofs.lemmas.Bool.{cases_lt}
use Rattle.std.proofs.lemmas.List.{length-replicate}
use Rattle.bit_rows.specs.Members.{IsMember, IsSubset}
use Rattle.flow_form.specs.declared.constraints.Constraints.{Constraints}
use Rattle.flow_form.specs.declared.rows.Rows.{Rows}
use Rattle.flow_form.specs.declared.rule.Rule.{Rule}
use Rattle.flow_form.specs.Least.{Pairs, Nothing, SameSet, Given, Plain, Closed, Stage, Least, IsChain}
use Rattle.flow_form.specs.Shape.{HoldsLeast, In, pairs_in, size_of, stride_of}
use Rattle.flow_form.proofs.Count.{pairs_few, pairs_grow}
use Rattle.flow_form.proofs.Least.{given_more, least_named, least_of_repeat}
use Rattle.flow_form.proofs.Places.{members_of_pairs, pairs_of_members, pairs_of_union}
use Rattle.flow_form.proofs.Words.{in_zeros}
use Rattle.flow_plain.specs.Rules.{TakesStep}

-- a list of its whole length is written over the items of a vector
pub written_back : (words rest : List ℕ) (len : ℕ) → len ≡ length words → take len (words ++ rest) ≡ words
written_back words rest len same =
    let P : ℕ → Type 0 = λ n. take n (words ++ rest) ≡ words in
    subst P (sym same) (take-append_seam words rest)

-- equal sets are closed alike
pub closed_same : (rules : List Rule) (S T : Pairs) → SameSet S T → Closed rules S → Closed rules T
closed_same rules S T same closed row atom h =
    (same row atom).0 (closed row atom (given_more rules T S (λ r a t. (same r a).1 t) row atom h))

-- and so are their plain steps
pub plain_same : (rules : List Rule) (S T : Pairs) → SameSet S T → SameSet (Plain rules S) (Plain rules T)
plain_same rules S T same row atom = (
  (λ h. elim h [
    | inl x ↦ inl ((same row atom).0 x)
    | inr y ↦ inr (given_more rules S T (λ r a s. (same r a).0 s) row atom y)
  ]),
  (λ h. elim h [
    | inl x ↦ inl ((same row atom).1 x)
    | inr y ↦ inr (given_more rules T S (λ r a t. (same r a).1 t) row atom y)
  ]),
)

-- ---- one step

-- what all rules give, put beside the words
applied :
    (c : Constraints) (words next after : List ℕ) → SameSet (In c next) (In c words)
    → ((row atom : ℕ) → In c after row atom ↔ (In c next row atom ⊎ Given c.rules (In c words) row atom))
    → SameSet (In c after) (Plain c.rules (In c words))
applied c words next after copy step row atom = (
  (λ h. elim ((step row atom).0 h) [
    | inl x ↦ inl ((copy row atom).0 x)
    | inr y ↦ inr y
  ]),
  (λ h. elim h [
    | inl x ↦ (step row atom).1 (inl ((copy row atom).1 x))
    | inr y ↦ (step row atom).1 (inr y)
  ]),
)

-- where it is within the words, they are closed and stay as they are
pub step_ends :
    (c : Constraints) (words next after : List ℕ) → SameSet (In c next) (In c words)
    → ((row atom : ℕ) → In c after row atom ↔ (In c next row atom ⊎ Given c.rules (In c words) row atom))
    → IsSubset after words → TakesStep c words words after false
step_ends c words next after copy step subset =
    let plain = applied c words next after copy step in
    let within = pairs_of_members c after words subset in
    record {
      same = λ row atom. (within row atom, (λ h. (plain row atom).1 (inl h)));
      step = λ row atom. ((λ h. inl h), (λ h. within row atom ((plain row atom).1 h)));
      tells = λ row atom h. within row atom ((plain row atom).1 (inr h));
    }

-- else they take it in
pub step_adds :
    (c : Constraints) (words next after both : List ℕ) → length after ≡ size_of c → SameSet (In c next) (In c words)
    → ((row atom : ℕ) → In c after row atom ↔ (In c next row atom ⊎ Given c.rules (In c words) row atom))
    → ¬ IsSubset after words
    → ((atom : ℕ) → IsMember both atom ↔ (IsMember words atom ⊎ IsMember after atom))
    → TakesStep c words both after true
step_adds c words next after both size copy step not_subset union =
    let plain = applied c words next after copy step in
    let pairs = pairs_of_union c words after both union in
    record {
      same = λ row atom. (
        (λ h. (pairs row atom).1 (inr h)),
        (λ h. elim ((pairs row atom).0 h) [ inl x ↦ (plain row atom).1 (inl x) | inr y ↦ y ]),
      );
      step = λ row atom. (
        (λ h. elim ((pairs row atom).0 h) [ inl x ↦ inl x | inr y ↦ (plain row atom).0 y ]),
        (λ h. (pairs row atom).1 (inr ((plain row atom).1 h))),
      );
      tells = λ closed.
          not_subset
          (members_of_pairs c after words size
          (λ row atom h. elim ((plain row atom).0 h) [ inl x ↦ x | inr y ↦ closed row atom y ]));
    }

-- the words after some number of plain steps from nothing, each of which has added a pair
pub record Progress (c : Constraints) (words next : List ℕ) (steps : ℕ) : Type 0 where
  pub size : length words ≡ size_of c
  pub next_size : length next ≡ size_of c
  pub copy : SameSet (In c next) (In c words)
  pub stage : SameSet (In c words) (Stage c.rules Nothing steps)
  pub few : steps ≤ pairs_in words
  pub goes_on : (fewer : ℕ) → fewer < steps → ¬ Closed c.rules (Stage c.rules Nothing fewer)

pub progress_start :
    (c : Constraints) (words next : List ℕ) → words ≡ replicate (size_of c) 0 → next ≡ replicate (size_of c) 0
    → Progress c words next 0
progress_start c words next zeros next_zeros =
    let Empty : List ℕ → Type 0 = λ w. (row atom : ℕ) → In c w row atom → ⊥ in
    let none : Empty words = subst Empty (sym zeros) (in_zeros c (size_of c)) in
    let next_none : Empty next = subst Empty (sym next_zeros) (in_zeros c (size_of c)) in
    record {
      size = ap length zeros ∙ length-replicate (size_of c) 0;
      next_size = ap length next_zeros ∙ length-replicate (size_of c) 0;
      copy = λ row atom. ((λ h. absurd (next_none row atom h)), (λ h. absurd (none row atom h)));
      stage = λ row atom. (none row atom, (λ h. absurd h));
      few = omega arith;
      goes_on = λ fewer below. absurd (omega arith);
    }

-- a step that adds something adds a pair
pub step_grows :
    (c : Constraints) (words words_after next_after : List ℕ) → length words ≡ size_of c → length words_after ≡ size_of c
    → TakesStep c words words_after next_after true → pairs_in words < pairs_in words_after
step_grows c words words_after next_after size size_after taken =
    pairs_grow c words words_after size size_after
    (λ row atom x. (taken.step row atom).1 (inl x))
    (λ within. taken.tells (λ row atom y. within row atom ((taken.step row atom).1 (inr y))))

-- and so fewer are left
pub pairs_left :
    (c : Constraints) (words words_after next_after : List ℕ) → length words ≡ size_of c → length words_after ≡ size_of c
    → TakesStep c words words_after next_after true
    → 64 * size_of c - pairs_in words_after < 64 * size_of c - pairs_in words
pairs_left c words words_after next_after size size_after taken =
    let grown : pairs_in words < pairs_in words_after = step_grows c words words_after next_after size size_after taken in
    let few : pairs_in words_after ≤ 64 * length words_after = pairs_few words_after in
    omega arith

pub progress_step :
    (c : Constraints) (words next words_after next_after : List ℕ) (steps : ℕ) → Progress c words next steps
    → length words_after ≡ size_of c → length next_after ≡ size_of c
    → TakesStep c words words_after next_after true → Progress c words_after next_after (steps + 1)
progress_step c words next words_after next_after steps h size next_size taken =
    let step = taken.step in
    let unclosed = taken.tells in
    let At : ℕ → Type 0 = λ n. SameSet (In c words_after) (Stage c.rules Nothing n) in
    let plain = plain_same c.rules (In c words) (Stage c.rules Nothing steps) h.stage in
    let grown : pairs_in words < pairs_in words_after = step_grows c words words_after next_after h.size size taken in
    let few : steps ≤ pairs_in words = h.few in
    record {
      size = size;
      next_size = next_size;
      copy = taken.same;
      stage =
          subst At (sym (add-one steps))
          (λ row atom. (
            (λ x. (plain row atom).0 ((step row atom).0 x)),
            (λ y. (step row atom).1 ((plain row atom).1 y)),
          ));
      few = omega arith;
      goes_on = λ fewer below.
          elim (cases_lt fewer steps) [
            | inl before ↦ h.goes_on fewer before
            | inr last ↦
                let same : fewer ≡ steps = omega arith in
                let Open : ℕ → Type 0 = λ n. ¬ Closed c.rules (Stage c.rules Nothing n) in
                subst Open (sym same)
                (λ closed.
                unclosed
                (closed_same c.rules (Stage c.rules Nothing steps) (In c words)
                (λ row atom. ((h.stage row atom).1, (h.stage row atom).0)) closed))
          ];
    }

pub progress_ends :
    (c : Constraints) (words next words_after next_after : List ℕ) (steps : ℕ) → Progress c words next steps
    → TakesStep c words words_after next_after false
    → SameSet (In c words_after) (Least c.rules) × IsChain c.rules steps
progress_ends c words next words_after next_after steps h taken =
    let plain = plain_same c.rules (In c words) (Stage c.rules Nothing steps) h.stage in
    let closed : Closed c.rules (Stage c.rules Nothing steps) =
    closed_same c.rules (In c words) (Stage c.rules Nothing steps) h.stage taken.tells in
    let least = least_of_repeat c.rules Nothing steps
    (λ row atom x. elim x [ inl old ↦ old | inr new ↦ closed row atom new ]) in (
      (λ row atom. (
        (λ x.
            elim ((plain row atom).0 ((taken.step row atom).0 x)) [
              | inl old ↦ (least row atom).1 old
              | inr new ↦ (least row atom).1 (closed row atom new)
            ]),
        (λ y. (taken.step row atom).1 ((plain row atom).1 (inl ((least row atom).0 y)))),
      )),
      record { ends = closed; goes_on = h.goes_on },
    )

-- rows of words that are the least solution hold it
pub rows_hold :
    (c : Constraints) (words : List ℕ) (rows : Rows) → SameSet (In c words) (Least c.rules)
    → length words ≡ size_of c → rows.stride ≡ stride_of c → rows.words ≡ words → HoldsLeast c rows
rows_hold c words rows exact size stride same =
    let named = least_named c Nothing (λ row atom none. absurd none) in
    let Exact : List ℕ → Type 0 = λ w. SameSet (In c w) (Least c.rules) in
    let Size : List ℕ → Type 0 = λ w. length w ≡ size_of c in
    let exact_rows : SameSet (In c rows.words) (Least c.rules) = subst Exact (sym same) exact in
    record {
      shape = record {
        stride = stride;
        size = subst Size (sym same) size;
        atoms = λ row atom x. (named row atom ((exact_rows row atom).0 x)).1;
      };
      exact = exact_rows;
    }

-- the steps are few enough to count
pub progress_few :
    (c : Constraints) (words next : List ℕ) (steps : ℕ) → Progress c words next steps → steps ≤ 64 * size_of c
progress_few c words next steps h =
    let few : steps ≤ pairs_in words = h.few in
    let pairs : pairs_in words ≤ 64 * length words = pairs_few words in
    let size : length words ≡ size_of c = h.size in
    omega arith
