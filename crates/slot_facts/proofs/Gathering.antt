-- What is gathered from a program is what its slots are chosen by.
use Rattle.std.proofs.Common.{◌≡◌, ℕ, Bool, true, List, length, map, Option, refl, sym, subst, ap, ◌∙◌}
use Rattle.std.specs.List.{flat_map}
use Rattle.std.proofs.lemmas.List.{length-map}
use Rattle.scheme_base.specs.declared.place.Stated.{Stated}
use Rattle.flow_constraints.specs.declared.flow.Flow.{Flow}
use Rattle.flow_constraints.specs.Layout.{flow_of}
use Rattle.flow_form.specs.declared.rows.Rows.{Rows}
use Rattle.least_set.specs.declared.links.Link.{Link}
use Rattle.least_set.specs.Least.{all_below, has}
use Rattle.named_form.specs.declared.plan.Fiction.{Fiction}
use Rattle.named_form.specs.declared.plan.Slots.{Slots}
use Rattle.named_form.specs.declared.program.Named.{Named}
use Rattle.named_form.specs.declared.program.Proc.{Proc}
use Rattle.named_form.specs.Code.{first_sites}
use Rattle.named_form.specs.Valid.{Form, numbers_from}
use Rattle.named_form.specs.Written.{form, procedure}
use Rattle.plan_facts.specs.declared.place.Place.{Place}
use Rattle.plan_facts.specs.Places.{endings_of, places_of}
use Rattle.plan_facts.specs.Slotted.{IsSlots}
use Rattle.slot_facts.specs.declared.ends.End.{End}
use Rattle.slot_facts.specs.Choice.{IsChosen, chosen_by, own_vars, placed_by}
use Rattle.slot_facts.specs.Compare.{compared_at}
use Rattle.slot_facts.specs.Ends.{ending, ends_from}
use Rattle.slot_facts.specs.Fits.{FitsSlots}
use Rattle.slot_facts.specs.Graph.{AllClose, Found}
use Rattle.slot_facts.specs.Known.{NeedOf}
use Rattle.slot_facts.specs.Marks.{MarksOf}
use Rattle.slot_facts.specs.Needs.{makings, references}
use Rattle.slot_facts.specs.Values.{stated_of}
use Rattle.slot_facts.proofs.Comparing.{compared_below, compared_is, is_compared}
use Rattle.slot_facts.proofs.Ended.{all_ended}
use Rattle.slot_facts.proofs.Whole.{Chooses, all_close, are_slots, fit_slots}

pub many_procs : (n : Named) (procs : List Proc) → procs ≡ n.procs → length procs ≡ length (form n).procs
many_procs n procs same = ap (λ ps. length ps) same ∙ sym (length-map n.procs procedure)

compared_same : (n : Named) (rows : Rows) (procs : List Proc) (flow : Flow) (steps : List Place) (compared : List ℕ) → procs ≡ n.procs
    → flow ≡ flow_of (form n) → steps ≡ places_of (form n) → compared ≡ flat_map (compared_at (length procs) flow rows) steps
    → compared ≡ flat_map (compared_at (length (form n).procs) (flow_of (form n)) rows) (places_of (form n))
compared_same n rows procs flow steps compared same_procs same_flow same_steps h =
    let many = length (form n).procs in
    h
    ∙ (ap (λ m. flat_map (compared_at m flow rows) steps) (many_procs n procs same_procs)
    ∙ (ap (λ f. flat_map (compared_at many f rows) steps) same_flow
    ∙ ap (λ ps. flat_map (compared_at many (flow_of (form n)) rows) ps) same_steps))

values_same : (n : Named) (rows : Rows) (procs : List Proc) (flow : Flow) (values : List (Option Stated)) → procs ≡ n.procs → flow ≡ flow_of (form n)
    → values ≡ map (stated_of (length procs) flow rows) (numbers_from 0 (length flow.vars))
    → values ≡ map (stated_of (length (form n).procs) (flow_of (form n)) rows) (numbers_from 0 (length (flow_of (form n)).vars))
values_same n rows procs flow values same_procs same_flow h =
    h
    ∙ (ap (λ m. map (stated_of m flow rows) (numbers_from 0 (length flow.vars))) (many_procs n procs same_procs)
    ∙ ap (λ (f : Flow). map (stated_of (length (form n).procs) f rows) (numbers_from 0 (length f.vars))) same_flow)

pub below_procs : (n : Named) (rows : Rows) (procs : List Proc) (flow : Flow) (steps : List Place) (compared : List ℕ) → procs ≡ n.procs
    → flow ≡ flow_of (form n) → steps ≡ places_of (form n) → compared ≡ flat_map (compared_at (length procs) flow rows) steps
    → all_below (length procs) compared ≡ true
below_procs n rows procs flow steps compared same_procs same_flow same_steps h =
    subst (λ m. all_below m compared ≡ true) (sym (many_procs n procs same_procs))
    (compared_below (form n) rows compared (compared_same n rows procs flow steps compared same_procs same_flow same_steps h))

pub close_procs : (n : Named) (rows : Rows) (procs : List Proc) (flow : Flow) (values : List (Option Stated)) → procs ≡ n.procs → flow ≡ flow_of (form n)
    → values ≡ map (stated_of (length procs) flow rows) (numbers_from 0 (length flow.vars)) → AllClose (length procs) values
close_procs n rows procs flow values same_procs same_flow h =
    subst (λ m. AllClose m values) (sym (many_procs n procs same_procs))
    (all_close (form n) rows values (values_same n rows procs flow values same_procs same_flow h))

chooses : (n : Named) (rows : Rows) (capturing : List ℕ) (procs : List Proc) (flow : Flow) (steps : List Place) (needed : List (List ℕ))
    (compared : List ℕ) (values : List (Option Stated)) (own marks met : List Bool)
    → procs ≡ n.procs → flow ≡ flow_of (form n) → steps ≡ places_of (form n) → NeedOf (form n) rows needed
    → compared ≡ flat_map (compared_at (length procs) flow rows) steps
    → values ≡ map (stated_of (length procs) flow rows) (numbers_from 0 (length flow.vars))
    → MarksOf (length values) (own_vars (map procedure procs) capturing) own → Found (length procs) compared values needed own marks
    → MarksOf (length procs) compared met
    → Chooses (form n) rows capturing compared values needed own marks (placed_by (length (form n).procs) (length values) marks) met
chooses n rows capturing procs flow steps needed compared values own marks met same_procs same_flow same_steps need compared_are values_are owned found met_are =
    let many = many_procs n procs same_procs in
    let all = compared_same n rows procs flow steps compared same_procs same_flow same_steps compared_are in
    record {
      need = need;
      values_are = values_same n rows procs flow values same_procs same_flow values_are;
      compares = λ q h. ap (λ xs. has xs q) all ∙ is_compared (form n) rows q h;
      is_compared = λ q h. compared_is (form n) rows q (sym (ap (λ xs. has xs q) all) ∙ h);
      owned = subst (λ ps. MarksOf (length values) (own_vars (map procedure ps) capturing) own) same_procs owned;
      found = subst (λ m. Found m compared values needed own marks) many found;
      placed_are = refl;
      met_are = subst (λ m. MarksOf m compared met) many met_are;
    }

-- what is chosen by what is gathered
pub record Gathered (n : Named) (rows : Rows) (capturing : List ℕ) (s : Slots) : Type 0 where
  pub procs : List Proc
  pub flow : Flow
  pub steps : List Place
  pub needed : List (List ℕ)
  pub compared : List ℕ
  pub values : List (Option Stated)
  pub same_procs : procs ≡ n.procs
  pub same_flow : flow ≡ flow_of (form n)
  pub same_steps : steps ≡ places_of (form n)
  pub need : NeedOf (form n) rows needed
  pub compared_are : compared ≡ flat_map (compared_at (length procs) flow rows) steps
  pub values_are : values ≡ map (stated_of (length procs) flow rows) (numbers_from 0 (length flow.vars))
  pub chosen : IsChosen (length procs) (own_vars (map procedure procs) capturing) compared values needed s

slots_are : (n : Named) (rows : Rows) (capturing : List ℕ) (s : Slots) (g : Gathered n rows capturing s)
    → s
    ≡ chosen_by (length (form n).procs) g.needed g.values g.chosen.own (placed_by (length (form n).procs) (length g.values) g.chosen.marks) g.chosen.met
slots_are n rows capturing s g =
    g.chosen.chosen
    ∙ ap (λ m. chosen_by m g.needed g.values g.chosen.own (placed_by m (length g.values) g.chosen.marks) g.chosen.met) (many_procs n g.procs g.same_procs)

all_chosen : (n : Named) (rows : Rows) (capturing : List ℕ) (s : Slots) (g : Gathered n rows capturing s)
    → Chooses (form n) rows capturing g.compared g.values g.needed g.chosen.own g.chosen.marks
    (placed_by (length (form n).procs) (length g.values) g.chosen.marks) g.chosen.met
all_chosen n rows capturing s g =
    chooses n rows capturing g.procs g.flow g.steps g.needed g.compared g.values g.chosen.own g.chosen.marks g.chosen.met
    g.same_procs g.same_flow g.same_steps g.need g.compared_are g.values_are g.chosen.owned g.chosen.found g.chosen.met_are

pub slots_exact : (n : Named) (rows : Rows) (capturing : List ℕ) (s : Slots) → Gathered n rows capturing s → IsSlots (form n) rows capturing s
slots_exact n rows capturing s g =
    subst (λ (t : Slots). IsSlots (form n) rows capturing t) (sym (slots_are n rows capturing s g))
    (are_slots (form n) rows capturing g.compared g.values g.needed g.chosen.own g.chosen.marks
    (placed_by (length (form n).procs) (length g.values) g.chosen.marks) g.chosen.met (all_chosen n rows capturing s g))

pub slots_fit : (n : Named) (rows : Rows) (capturing : List ℕ) (s : Slots) → Gathered n rows capturing s → FitsSlots (form n).procs s
slots_fit n rows capturing s g =
    subst (λ (t : Slots). FitsSlots (form n).procs t) (sym (slots_are n rows capturing s g))
    (fit_slots (form n) rows capturing g.compared g.values g.needed g.chosen.own g.chosen.marks
    (placed_by (length (form n).procs) (length g.values) g.chosen.marks) g.chosen.met (all_chosen n rows capturing s g))

-- the same of slices that stand for these lists
pub chosen_of : (n : ℕ) (own own2 compared compared2 : List ℕ) (values values2 : List (Option Stated)) (needed needed2 : List (List ℕ)) (s : Slots)
    → own2 ≡ own → compared2 ≡ compared → values2 ≡ values → needed2 ≡ needed → IsChosen n own2 compared2 values2 needed2 s
    → IsChosen n own compared values needed s
chosen_of n own own2 compared compared2 values values2 needed needed2 s a b c d h =
    subst (λ xs. IsChosen n xs compared values needed s) a
    (subst (λ xs. IsChosen n own2 xs values needed s) b
    (subst (λ xs. IsChosen n own2 compared2 xs needed s) c
    (subst (λ xs. IsChosen n own2 compared2 values2 xs s) d h)))

abbrev slots_of : (kept : List (List ℕ)) → List Fiction → (global compared : List ℕ) → Slots
slots_of kept fictions global compared = record { kept = kept; fictitious = fictions; global = global; compared = compared }

pub same_slots : (kept kept2 : List (List ℕ)) (fictions fictions2 : List Fiction) (global global2 compared compared2 : List ℕ) → kept ≡ kept2
    → fictions ≡ fictions2 → global ≡ global2 → compared ≡ compared2
    → slots_of kept fictions global compared ≡ slots_of kept2 fictions2 global2 compared2
same_slots kept kept2 fictions fictions2 global global2 compared compared2 h i j k =
    ap (λ xs. slots_of xs fictions global compared) h
    ∙ (ap (λ xs. slots_of kept2 xs global compared) i
    ∙ (ap (λ xs. slots_of kept2 fictions2 xs compared) j
    ∙ ap (λ xs. slots_of kept2 fictions2 global2 xs) k))

pub chosen_same : (s : Slots) (n : ℕ) (needed : List (List ℕ)) (values : List (Option Stated)) (own own2 placed placed2 met met2 : List Bool)
    → s ≡ chosen_by (length met2) needed values own2 placed2 met2 → own2 ≡ own → placed2 ≡ placed → met2 ≡ met → length met ≡ n
    → s ≡ chosen_by n needed values own placed met
chosen_same s n needed values own own2 placed placed2 met met2 h a b c many =
    h
    ∙ (ap (λ xs. chosen_by (length met2) needed values xs placed2 met2) a
    ∙ (ap (λ xs. chosen_by (length met2) needed values own xs met2) b
    ∙ (ap (λ xs. chosen_by (length xs) needed values own placed xs) c
    ∙ ap (λ m. chosen_by m needed values own placed met) many)))

-- what is linked, by what is gathered

pub references_same : (f : Form) (rows : Rows) (flow : Flow) (steps : List Place) (ends ends2 : List End) (links : List Link) → flow ≡ flow_of f
    → steps ≡ places_of f → ends2 ≡ ends → links ≡ references flow rows steps ends2 → links ≡ references (flow_of f) rows (places_of f) ends
references_same f rows flow steps ends ends2 links a b c h =
    h
    ∙ (ap (λ (g : Flow). references g rows steps ends2) a
    ∙ (ap (λ ps. references (flow_of f) rows ps ends2) b ∙ ap (references (flow_of f) rows (places_of f)) c))

pub makings_same : (f : Form) (rows : Rows) (flow : Flow) (steps : List Place) (links : List Link) → flow ≡ flow_of f → steps ≡ places_of f
    → links ≡ makings flow rows steps → links ≡ makings (flow_of f) rows (places_of f)
makings_same f rows flow steps links a b h = h ∙ (ap (λ (g : Flow). makings g rows steps) a ∙ ap (makings (flow_of f) rows) b)

pub ends_same : (n : Named) (procs : List Proc) (ends : List End) → procs ≡ n.procs
    → ends ≡ ends_from 0 (record { steps = 0; sites = first_sites (map procedure procs); blocks = 0 }) (map procedure procs)
    → map ending ends ≡ endings_of (form n)
ends_same n procs ends same h =
    ap (map ending) h
    ∙ (ap (λ ps. map ending (ends_from 0 (record { steps = 0; sites = first_sites (map procedure ps); blocks = 0 }) (map procedure ps))) same
    ∙ all_ended (form n))
