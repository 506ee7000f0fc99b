-- What a pass has seen of a block, rule by rule, and what it has done when the block is finished.
use Rattle.std.proofs.Common.{ℕ, length, ◌≡◌, ◌+◌, ◌*◌, ◌/◌, ◌%◌, ◌^◌, ◌<◌, ◌≤◌, ◌⊎◌, inl, inr, refl, sym, ap, arith, subst}
use Rattle.std.proofs.lemmas.Bool.{cases_lt}
use Rattle.std.proofs.lemmas.Nat.Bits.{bit_at-pow_same}
use Rattle.bit_rows.specs.Members.{IsMember}
use Rattle.flow_form.specs.declared.constraints.Constraints.{Constraints}
use Rattle.flow_form.specs.Least.{GivenByBlock, Within}
use Rattle.flow_form.specs.Race.{Seen, finishing}
use Rattle.flow_form.specs.Shape.{In, blocks_of, done_size_of}
use Rattle.flow_form.proofs.Words.{bit_kept, bit_new}
use Rattle.flow_plain.proofs.BitsFollowing.{block_all}
use Rattle.type_table.specs.Tables.{Held, IsOf, Opened, knowing}
use Rattle.flow_workers.specs.PassSteps.{GivenAt, Steps}
use Rattle.flow_workers.proofs.StepsOfPass.{seen_on, steps_knowing, steps_trans}

-- what the loop over the rules of a block keeps
pub record DoesRules (c : Constraints) (table : Opened) (before pass : Held) (first index : ℕ) : Type 0 where
  pub steps : Steps c table before pass
  pub seen :
      (place : ℕ) → first ≤ place → place < index
      → Within (GivenAt c.rules place (In c table.base)) (Seen c pass.view.worker)

pub rules_more :
    (c : Constraints) (table : Opened) (before pass after : Held) (first index : ℕ)
    → DoesRules c table before pass first index → Steps c table pass after
    → Within (GivenAt c.rules index (In c table.base)) (Seen c after.view.worker)
    → DoesRules c table before after first (index + 1)
rules_more c table before pass after first index so_far steps here =
    record {
      steps = steps_trans c table before pass after so_far.steps steps;
      seen = λ place from below row atom h.
          elim (cases_lt place index) [
            | inl old ↦ seen_on c table pass after steps row atom (so_far.seen place from old row atom h)
            | inr new ↦
                let same : place ≡ index = omega arith in
                let At : ℕ → Type 0 = λ p. GivenAt c.rules p (In c table.base) row atom in
                here row atom (subst At same h)
          ];
    }

pub block_seen :
    (c : Constraints) (table : Opened) (before pass : Held) (block end : ℕ) → table.constraints ≡ c
    → (length c.rules ≤ end) ⊎ (block * 1024 + 1024 ≤ end)
    → DoesRules c table before pass (block * 1024) end
    → Within (GivenByBlock table.constraints.rules block (In table.constraints table.base))
    (Seen table.constraints pass.view.worker)
block_seen c table before pass block end opened all does =
    let P : Constraints → Type 0 =
    λ d. Within (GivenByBlock d.rules block (In d table.base)) (Seen d pass.view.worker) in
    subst P (sym opened)
    (block_all c table.base (Seen c pass.view.worker) block end all
    (λ index rule from below listed row atom gives.
    does.seen index from below row atom record { rule = rule; listed = listed; gives = gives }))

-- ---- a finish
pub steps_finish :
    (c : Constraints) (table : Opened) (before after : Held) (block : ℕ) → IsOf after table
    → after ≡ knowing before (finishing block before.view.worker) → Steps c table before after
steps_finish c table before after block of knows =
    steps_knowing c table before after (finishing block before.view.worker) of knows
    (record {
      loaded = λ row atom h. h;
      grown = λ row atom h. h;
      done = λ other h.
          bit_kept before.view.worker.done (block / 64) (2 ^ (block % 64)) (other / 64) (other % 64) h;
    })

pub done_finish :
    (c : Constraints) (table : Opened) (before after : Held) (block : ℕ) → table.constraints ≡ c
    → IsOf before table → block < blocks_of c → after ≡ knowing before (finishing block before.view.worker)
    → IsMember after.view.worker.done block
done_finish c table before after block opened of there knows =
    let same : done_size_of table.constraints ≡ done_size_of c = ap done_size_of opened in
    let size : length before.view.worker.done ≡ done_size_of table.constraints = of.own.done_size in
    let P : Held → Type 0 = λ p. IsMember p.view.worker.done block in
    subst P (sym knows)
    (bit_new before.view.worker.done (block / 64) (2 ^ (block % 64)) (block / 64) (block % 64) (omega arith) refl
    (bit_at-pow_same (block % 64)))
