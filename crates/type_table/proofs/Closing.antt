-- The rows that a closed table leaves.
use Rattle.std.proofs.Common.{ℕ, zero, suc, List, [], ◌∷◌, ◌++◌, length, set, take, ◌≡◌, ◌+◌, ◌<◌, sym, ap, ◌∙◌, subst, arith, true}
use Rattle.std.proofs.Math.Seq.{take-suc-set}
use mathlib.Core.Option.{some, some-injective, some-ne-none}
use lib.ListN.{get_elem?}
use Rattle.atomic_table.specs.Table.{Final, Seen, State}
use Rattle.flow_form.specs.declared.constraints.Constraints.{Constraints}
use Rattle.flow_form.specs.Least.{Least, Nothing, Within}
use Rattle.flow_form.specs.Race.{IsBetween, IsKept}
use Rattle.flow_form.specs.Shape.{In, size_of, stride_of}
use Rattle.flow_form.proofs.Least.{least_named, least_of_restart}
use Rattle.type_table.specs.declared.shared_words.View.{View}
use Rattle.type_table.specs.SharedWords.{IsRuled}
use Rattle.type_table.specs.Tables.{IsAnswer}
use Rattle.type_table.proofs.StepsAreMoves.{is_worker, ruled_sound}

-- ---- words that are copied
take_found :
    (words : List ℕ) (at word : ℕ) → get_elem? words at ≡ some word → take (suc at) words ≡ take at words ++ word ∷ []
take_found [] at word e = absurd (some-ne-none word (sym e))
take_found (first ∷ words) zero word e = ap (λ (w : ℕ). w ∷ []) (some-injective first word e)
take_found (first ∷ words) (suc at) word e = ap (λ (ws : List ℕ). first ∷ ws) (take_found words at word e)

pub take_copied :
    (room words : List ℕ) (at word : ℕ) → at < length room → get_elem? words at ≡ some word
    → take at room ≡ take at words → take (at + 1) (set room at word) ≡ take (at + 1) words
take_copied room words at word below found before =
    let Taken : ℕ → Type 0 = λ n. take n (set room at word) ≡ take n words in
    let next : suc at ≡ at + 1 = omega arith in
    subst Taken next
    (take-suc-set room at word below ∙ ap (λ (ws : List ℕ). ws ++ word ∷ []) before ∙ sym (take_found words at word found))

-- ---- the state in which a table is closed

-- with the view that closes it
pub closes :
    (c : Constraints) (base : List ℕ) (id : ℕ) (seen view : View) (words slots rows : List ℕ)
    → Final (Seen (IsRuled c base) id seen) words slots → seen ≡ view → view.live ≡ true → rows ≡ take (size_of c) words
    → IsBetween c base rows × IsKept c base rows view.worker
closes c base id seen view words slots rows final is live taken =
    let s : State ℕ View = final.0 in
    let At : View → Type 0 = λ v. get_elem? s.views id ≡ some v in
    let at = subst At is final.1.1 in
    let sound = ruled_sound c base s final.1.0 in
    let same : take (size_of c) s.words ≡ rows = ap (λ (ws : List ℕ). take (size_of c) ws) final.2 ∙ sym taken in
    let Leaves : List ℕ → Type 0 = λ ws. IsBetween c base ws × IsKept c base ws view.worker in
    subst Leaves same (sound.between, sound.kept id view.worker (is_worker s.views id view at live))

-- rows between a base within the least solution and the least solution from it
pub answers :
    (c of : Constraints) (base words : List ℕ) (stride : ℕ) → of ≡ c → stride ≡ stride_of c → length words ≡ size_of c
    → Within (In c base) (Least c.rules) → IsBetween c base words → IsAnswer of record { stride = stride; words = words }
answers c of base words stride same fits size within between =
    let least : Within (In c words) (Least c.rules) =
    λ row atom h.
    (least_of_restart c.rules Nothing (In c base) (λ r a none. absurd none) within row atom).0 (between.below row atom h) in
    let Of : Constraints → Type 0 = λ x. IsAnswer x record { stride = stride; words = words } in
    subst Of (sym same)
    record {
      shape = record {
        stride = fits;
        size = size;
        atoms = λ row atom h. (least_named c Nothing (λ r a none. absurd none) row atom (least row atom h)).1;
      };
      within = least;
    }
