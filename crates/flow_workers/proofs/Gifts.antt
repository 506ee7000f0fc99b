-- What a rule gives, word by word, among what a pass has loaded or grown.
use Rattle.std.proofs.Common.{ℕ, List, ◌≡◌, ◌+◌, ◌*◌, ◌/◌, ◌%◌, ◌^◌, ◌<◌, inl, inr, refl, sym, ◌∙◌, ap, arith, subst}
use Rattle.std.specs.Int.{bit_at}
use Rattle.std.proofs.lemmas.Bool.{cases_lt}
use Rattle.std.proofs.lemmas.Nat.{mul-add-lt, same_from_place}
use Rattle.flow_form.specs.declared.constraints.Constraints.{Constraints}
use Rattle.flow_form.specs.declared.rule.Give.{Give}
use Rattle.flow_form.specs.declared.rule.Give.TheVariants.{Atom, Row}
use Rattle.flow_form.specs.declared.rule.Rule.{Rule}
use Rattle.flow_form.specs.Least.{Given, GivesAtom, Within}
use Rattle.flow_form.specs.Race.{MaskWithin, Seen}
use Rattle.flow_form.specs.Shape.{In, size_of, stride_of}
use Rattle.flow_form.specs.Valid.{GiveNames, RuleNames}
use Rattle.flow_form.proofs.Least.{test_more}
use Rattle.flow_plain.specs.Rules.{GivesTo}
use Rattle.flow_plain.proofs.Rules.{mask_of_atom}
use Rattle.type_table.specs.SharedWords.{HasPairs}
use Rattle.type_table.specs.Tables.{Held, Opened}
use Rattle.flow_workers.specs.PassSteps.{HoldsIn, IsListed, Steps}
use Rattle.flow_workers.proofs.StepsOfPass.{seen_on, steps_trans}

pub names_of : (c : Constraints) (rule : Rule) → IsListed c rule → RuleNames c.rows c.atoms rule
names_of c rule listed = c.valid.named listed.index rule listed.listed

pub place_there :
    (c : Constraints) (row at : ℕ) → row < c.rows → at < stride_of c → row * stride_of c + at < size_of c
place_there c row at row_there at_there =
    let fits : row * stride_of c + at < stride_of c * c.rows = mul-add-lt row (stride_of c) at c.rows row_there at_there in
    omega arith

pub holds_on :
    (c : Constraints) (table : Opened) (before after : Held) (rule : Rule) → Steps c table before after
    → HoldsIn (In c before.view.worker.loaded) rule → HoldsIn (In c after.view.worker.loaded) rule
holds_on c table before after rule steps holds =
    record {
      first = test_more (In c before.view.worker.loaded) (In c after.view.worker.loaded) rule.first steps.on.loaded holds.first;
      second = test_more (In c before.view.worker.loaded) (In c after.view.worker.loaded) rule.second steps.on.loaded holds.second;
    }

-- a mask of what a rule gives follows by that rule
pub follows_gift :
    (c : Constraints) (loaded : List ℕ) (rule : Rule) (at mask : ℕ) → IsListed c rule → HoldsIn (In c loaded) rule
    → at < stride_of c
    → ((bit : ℕ) → bit < 64 → bit_at mask bit ≡ 1 → GivesAtom (In c loaded) rule.give (64 * at + bit))
    → MaskWithin c (rule.to * stride_of c + at) mask (Given c.rules (In c loaded))
follows_gift c loaded rule at mask listed holds at_there exact row atom row_there atom_there place set =
    let same = same_from_place row (atom / 64) rule.to at (stride_of c) (omega arith) at_there place in
    let word : atom / 64 ≡ at = same.1 in
    let whole : 64 * at + atom % 64 ≡ atom = omega arith in
    let Of : ℕ → Type 0 = λ n. GivesAtom (In c loaded) rule.give n in
    record {
      index = listed.index;
      rule = rule;
      listed = listed.listed;
      gives = record {
        first = holds.first;
        second = holds.second;
        to = same.0;
        gives = subst Of whole (exact (atom % 64) (omega arith) set);
      };
    }

-- what stands in the words of the rule's row below one has been seen
abbrev pub SeenBelow : Constraints → (base : List ℕ) → Held → Rule → (at : ℕ) → Type 0
SeenBelow c base pass rule at =
    (row atom : ℕ) → GivesTo c base rule row atom → atom / 64 < at → Seen c pass.view.worker row atom

-- what the rule gives in one word of its row has been seen
abbrev pub SeenWord : Constraints → (base : List ℕ) → Held → Rule → (at : ℕ) → Type 0
SeenWord c base pass rule at =
    (row atom : ℕ) → GivesTo c base rule row atom → atom / 64 ≡ at → Seen c pass.view.worker row atom

pub gift_word :
    (c : Constraints) (base : List ℕ) (after : Held) (rule : Rule) (at mask : ℕ) → rule.to < c.rows → at < stride_of c
    → ((bit : ℕ) → bit < 64 → GivesAtom (In c base) rule.give (64 * at + bit) → bit_at mask bit ≡ 1)
    → MaskWithin c (rule.to * stride_of c + at) mask (Seen c after.view.worker) → SeenWord c base after rule at
gift_word c base after rule at mask to_there at_there exact seen row atom h word =
    let whole : atom ≡ 64 * at + atom % 64 = omega arith in
    let to : row ≡ rule.to = h.to in
    let Gift : ℕ → Type 0 = λ n. GivesAtom (In c base) rule.give n in
    let place : row * stride_of c + atom / 64 ≡ rule.to * stride_of c + at =
    ap (λ r. r * stride_of c + atom / 64) to ∙ ap (λ n. rule.to * stride_of c + n) word in
    seen row atom (omega arith) (omega arith) place (exact (atom % 64) (omega arith) (subst Gift whole h.given))

-- what a loop over the words of a row keeps
pub record GivesRow (c : Constraints) (table : Opened) (before pass : Held) (rule : Rule) (at : ℕ) : Type 0 where
  pub steps : Steps c table before pass
  pub seen : SeenBelow c table.base pass rule at

-- ---- a row
pub gives_loaded :
    (c : Constraints) (loaded : List ℕ) (give : Give) (row at found : ℕ) → give ≡ Row row → row < c.rows
    → at < stride_of c → MaskWithin c (row * stride_of c + at) found (In c loaded)
    → (bit : ℕ) → bit < 64 → bit_at found bit ≡ 1 → GivesAtom (In c loaded) give (64 * at + bit)
gives_loaded c loaded give row at found is row_there at_there within bit below set =
    let low : (64 * at + bit) % 64 ≡ bit = omega arith in
    let high : (64 * at + bit) / 64 ≡ at = omega arith in
    let place : row * stride_of c + (64 * at + bit) / 64 ≡ row * stride_of c + at = ap (λ n. row * stride_of c + n) high in
    let Bit : ℕ → Type 0 = λ n. bit_at found n ≡ 1 in
    let P : Give → Type 0 = λ g. GivesAtom (In c loaded) g (64 * at + bit) in
    subst P (sym is) (within row (64 * at + bit) row_there (omega arith) place (subst Bit (sym low) set))

pub found_gives :
    (c : Constraints) (base : List ℕ) (give : Give) (row at found : ℕ) → give ≡ Row row
    → HasPairs c (row * stride_of c + at) found (In c base)
    → (bit : ℕ) → bit < 64 → GivesAtom (In c base) give (64 * at + bit) → bit_at found bit ≡ 1
found_gives c base give row at found is has bit below given =
    let low : (64 * at + bit) % 64 ≡ bit = omega arith in
    let high : (64 * at + bit) / 64 ≡ at = omega arith in
    let place : row * stride_of c + (64 * at + bit) / 64 ≡ row * stride_of c + at = ap (λ n. row * stride_of c + n) high in
    let Bit : ℕ → Type 0 = λ n. bit_at found n ≡ 1 in
    let P : Give → Type 0 = λ g. GivesAtom (In c base) g (64 * at + bit) in
    subst Bit low (has row (64 * at + bit) (subst P is given) place)

-- ---- an atom
pub follows_atom :
    (c : Constraints) (loaded : List ℕ) (rule : Rule) (given place : ℕ) → IsListed c rule → HoldsIn (In c loaded) rule
    → rule.give ≡ Atom given → place ≡ rule.to * stride_of c + given / 64
    → MaskWithin c place (1 * 2 ^ (given % 64) % 2 ^ 64) (Given c.rules (In c loaded))
follows_atom c loaded rule given place listed holds is at_place =
    let names = names_of c rule listed in
    let Names : Give → Type 0 = λ g. GiveNames c.rows c.atoms g in
    let there : given < c.atoms = subst Names is names.give in
    let at_there : given / 64 < stride_of c = omega arith in
    let Gives : Give → ℕ → Type 0 = λ g n. GivesAtom (In c loaded) g n in
    let At : ℕ → Type 0 = λ p. MaskWithin c p (1 * 2 ^ (given % 64) % 2 ^ 64) (Given c.rules (In c loaded)) in
    subst At (sym at_place)
    (follows_gift c loaded rule (given / 64) (1 * 2 ^ (given % 64) % 2 ^ 64) listed holds at_there
    (λ bit below set.
    let Of : Give → Type 0 = λ g. GivesAtom (In c loaded) g (64 * (given / 64) + bit) in
    subst Of (sym is) ((mask_of_atom given (given / 64) bit refl below).0 set)))

pub gift_atom :
    (c : Constraints) (table : Opened) (after : Held) (rule : Rule) (given place : ℕ) → IsListed c rule
    → rule.give ≡ Atom given → place ≡ rule.to * stride_of c + given / 64
    → MaskWithin c place (1 * 2 ^ (given % 64) % 2 ^ 64) (Seen c after.view.worker)
    → Within (GivesTo c table.base rule) (Seen c after.view.worker)
gift_atom c table after rule given place listed is at_place seen row atom h =
    let names = names_of c rule listed in
    let Names : Give → Type 0 = λ g. GiveNames c.rows c.atoms g in
    let there : given < c.atoms = subst Names is names.give in
    let to_there : rule.to < c.rows = names.to in
    let Of : Give → Type 0 = λ g. GivesAtom (In c table.base) g atom in
    let same : atom ≡ given = subst Of is h.given in
    let to : row ≡ rule.to = h.to in
    let word : atom / 64 ≡ given / 64 = omega arith in
    let whole : 64 * (given / 64) + atom % 64 ≡ given = omega arith in
    let here : row * stride_of c + atom / 64 ≡ place =
    ap (λ r. r * stride_of c + atom / 64) to ∙ ap (λ n. rule.to * stride_of c + n) word ∙ sym at_place in
    seen row atom (omega arith) (omega arith) here
    ((mask_of_atom given (given / 64) (atom % 64) refl (omega arith)).1 whole)

-- ---- a row, one word
pub follows_row :
    (c : Constraints) (table : Opened) (before after : Held) (rule : Rule) (row at found from place : ℕ)
    → IsListed c rule → Steps c table before after → HoldsIn (In c before.view.worker.loaded) rule
    → rule.give ≡ Row row → at < stride_of c → from ≡ row * stride_of c + at
    → place ≡ rule.to * stride_of c + at → MaskWithin c from found (In c after.view.worker.loaded)
    → MaskWithin c place found (Given c.rules (In c after.view.worker.loaded))
follows_row c table before after rule row at found from place listed steps holds is at_there at_from at_place within =
    let names = names_of c rule listed in
    let Names : Give → Type 0 = λ g. GiveNames c.rows c.atoms g in
    let row_there : row < c.rows = subst Names is names.give in
    let At : ℕ → Type 0 = λ p. MaskWithin c p found (Given c.rules (In c after.view.worker.loaded)) in
    let From : ℕ → Type 0 = λ p. MaskWithin c p found (In c after.view.worker.loaded) in
    subst At (sym at_place)
    (follows_gift c after.view.worker.loaded rule at found listed (holds_on c table before after rule steps holds) at_there
    (gives_loaded c after.view.worker.loaded rule.give row at found is row_there at_there (subst From at_from within)))

pub gives_word :
    (c : Constraints) (base : List ℕ) (after : Held) (rule : Rule) (row at found from place : ℕ) → IsListed c rule
    → rule.give ≡ Row row → at < stride_of c → from ≡ row * stride_of c + at → place ≡ rule.to * stride_of c + at
    → HasPairs c from found (In c base) → MaskWithin c place found (Seen c after.view.worker)
    → SeenWord c base after rule at
gives_word c base after rule row at found from place listed is at_there at_from at_place has seen =
    let names = names_of c rule listed in
    let From : ℕ → Type 0 = λ p. HasPairs c p found (In c base) in
    let At : ℕ → Type 0 = λ p. MaskWithin c p found (Seen c after.view.worker) in
    gift_word c base after rule at found names.to at_there
    (found_gives c base rule.give row at found is (subst From at_from has)) (subst At at_place seen)

-- ---- a row, word by word
pub gives_row_more :
    (c : Constraints) (table : Opened) (first before after : Held) (rule : Rule) (at : ℕ)
    → GivesRow c table first before rule at → Steps c table before after → SeenWord c table.base after rule at
    → GivesRow c table first after rule (at + 1)
gives_row_more c table first before after rule at so_far steps here =
    record {
      steps = steps_trans c table first before after so_far.steps steps;
      seen = λ row atom h near.
          elim (cases_lt (atom / 64) at) [
            | inl below ↦ seen_on c table before after steps row atom (so_far.seen row atom h below)
            | inr above ↦ here row atom h (omega arith)
          ];
    }
