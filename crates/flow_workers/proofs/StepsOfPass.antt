-- What a pass knows after a load or a grow, and after several steps.
use Rattle.std.proofs.Common.{ℕ, length, ◌≡◌, ◌%◌, ◌<◌, inl, inr, sym, ap, arith, subst, bit_or}
use Rattle.bit_rows.proofs.Words.{bit_of_or}
use Rattle.flow_form.specs.declared.constraints.Constraints.{Constraints}
use Rattle.flow_form.specs.declared.event.Worker.{Worker}
use Rattle.flow_form.specs.Least.{Given, Within}
use Rattle.flow_form.specs.Race.{MaskWithin, Seen, growing, loading}
use Rattle.flow_form.specs.Shape.{In, size_of}
use Rattle.flow_form.proofs.Least.{given_more}
use Rattle.flow_form.proofs.Words.{in_kept, in_new}
use Rattle.type_table.specs.Tables.{Held, IsOf, Opened, knowing}
use Rattle.flow_workers.specs.PassSteps.{Steps, StepsOn}

-- ---- one after another
pub steps_none : (c : Constraints) (table : Opened) (pass : Held) → IsOf pass table → Steps c table pass pass
steps_none c table pass of =
    record {
      of = of;
      on = record { loaded = λ row atom h. h; grown = λ row atom h. h; done = λ block h. h };
    }

pub steps_trans :
    (c : Constraints) (table : Opened) (one two three : Held)
    → Steps c table one two → Steps c table two three → Steps c table one three
steps_trans c table one two three first second =
    record {
      of = second.of;
      on = record {
        loaded = λ row atom h. second.on.loaded row atom (first.on.loaded row atom h);
        grown = λ row atom h. second.on.grown row atom (first.on.grown row atom h);
        done = λ block h. second.on.done block (first.on.done block h);
      };
    }

pub seen_on :
    (c : Constraints) (table : Opened) (before after : Held) → Steps c table before after
    → Within (Seen c before.view.worker) (Seen c after.view.worker)
seen_on c table before after steps row atom h =
    elim h [ inl x ↦ inl (steps.on.loaded row atom x) | inr y ↦ inr (steps.on.grown row atom y) ]

-- ---- what a pass knows after a step
pub steps_knowing : (c : Constraints) (table : Opened) (before after : Held) (worker : Worker) → IsOf after table
    → after ≡ knowing before worker → StepsOn c before (knowing before worker) → Steps c table before after
steps_knowing c table before after worker of knows on =
    let P : Held → Type 0 = λ p. StepsOn c before p in record { of = of; on = subst P (sym knows) on }

-- ---- a load
pub steps_load :
    (c : Constraints) (table : Opened) (before after : Held) (word found : ℕ) → IsOf after table
    → after ≡ knowing before (loading word found before.view.worker) → Steps c table before after
steps_load c table before after word found of knows =
    steps_knowing c table before after (loading word found before.view.worker) of knows
    (record { loaded = in_kept c before.view.worker.loaded word found; grown = λ row atom h. h; done = λ block h. h })

pub loaded_load :
    (c : Constraints) (table : Opened) (before after : Held) (word found : ℕ) → table.constraints ≡ c
    → IsOf before table → word < size_of c → after ≡ knowing before (loading word found before.view.worker)
    → MaskWithin c word found (In c after.view.worker.loaded)
loaded_load c table before after word found opened of there knows row atom row_there atom_there place set =
    let same : size_of table.constraints ≡ size_of c = ap size_of opened in
    let size : length before.view.worker.loaded ≡ size_of table.constraints = of.own.loaded_size in
    let P : Held → Type 0 = λ p. In c p.view.worker.loaded row atom in
    subst P (sym knows)
    (in_new c before.view.worker.loaded word found row atom (omega arith) row_there atom_there place set)

-- ---- a grow
pub steps_grow :
    (c : Constraints) (table : Opened) (before after : Held) (word bits : ℕ) → IsOf after table
    → after ≡ knowing before (growing word bits before.view.worker) → Steps c table before after
steps_grow c table before after word bits of knows =
    steps_knowing c table before after (growing word bits before.view.worker) of knows
    (record { loaded = λ row atom h. h; grown = in_kept c before.view.worker.grown word bits; done = λ block h. h })

pub seen_grow :
    (c : Constraints) (table : Opened) (before after : Held) (word mask found : ℕ) → table.constraints ≡ c
    → IsOf before table → word < size_of c
    → after ≡ knowing before (growing word (bit_or mask found) before.view.worker)
    → MaskWithin c word mask (Seen c after.view.worker)
seen_grow c table before after word mask found opened of there knows row atom row_there atom_there place set =
    let same : size_of table.constraints ≡ size_of c = ap size_of opened in
    let size : length before.view.worker.grown ≡ size_of table.constraints = of.own.grown_size in
    let P : Held → Type 0 = λ p. In c p.view.worker.grown row atom in
    inr
    (subst P (sym knows)
    (in_new c before.view.worker.grown word (bit_or mask found) row atom (omega arith) row_there atom_there place
    ((bit_of_or mask found (atom % 64)).1 (inl set))))

-- what followed from what was loaded follows from what is loaded now
pub follows_on :
    (c : Constraints) (table : Opened) (before after : Held) (word mask : ℕ) → Steps c table before after
    → MaskWithin c word mask (Given c.rules (In c before.view.worker.loaded))
    → MaskWithin c word mask (Given c.rules (In c after.view.worker.loaded))
follows_on c table before after word mask steps follows row atom row_there atom_there place set =
    given_more c.rules (In c before.view.worker.loaded) (In c after.view.worker.loaded) steps.on.loaded row atom
    (follows row atom row_there atom_there place set)

-- and so it does with the table's own constraints
pub follows_opened :
    (c : Constraints) (table : Opened) (before after : Held) (word mask : ℕ) → table.constraints ≡ c
    → Steps c table before after → MaskWithin c word mask (Given c.rules (In c before.view.worker.loaded))
    → MaskWithin table.constraints word mask (Given table.constraints.rules (In table.constraints after.view.worker.loaded))
follows_opened c table before after word mask opened steps follows =
    let P : Constraints → Type 0 = λ d. MaskWithin d word mask (Given d.rules (In d after.view.worker.loaded)) in
    subst P (sym opened) (follows_on c table before after word mask steps follows)
