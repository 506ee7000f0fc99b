-- What a pass holds after it has finished a block or has taken in another pass.
use Rattle.std.proofs.Common.{ℕ, List, ◌++◌, drop, length, take, ◌≡◌, ◌/◌, ◌%◌, ◌^◌, ◌<◌, ◌⊎◌, ◌↔◌, inl, inr, sym, ap, ◌∙◌, subst, arith, get_or}
use Rattle.std.specs.Int.{bit_at}
use Rattle.std.proofs.Math.Seq.{take-append_seam}
use Rattle.std.proofs.lemmas.Nat.Bits.{bit_at-pow_same}
use Rattle.atomic_table.specs.Table.{Me}
use Rattle.bit_rows.specs.Members.{IsMember}
use Rattle.bit_rows.proofs.Words.{bit_of_or}
use Rattle.flow_form.specs.Race.{finishing, joined, or_words, with_bits}
use Rattle.flow_form.specs.Shape.{blocks_of, done_size_of}
use Rattle.flow_form.proofs.Words.{bit_kept, bit_new, member_more, or_words_at}
use Rattle.type_table.specs.declared.shared_words.View.{View}
use Rattle.type_table.specs.SharedWords.{joined_view, with_worker}
use Rattle.type_table.specs.Tables.{Held, IsHeld, IsOf, Opened, knowing}
use Rattle.type_table.proofs.StepsAreMoves.{own_joined}

member_with :
    (words : List ℕ) (block k : ℕ) → block / 64 < length words
    → IsMember (with_bits words (block / 64) (2 ^ (block % 64))) k ↔ (IsMember words k ⊎ (k ≡ block))
member_with words block k there = (
  member_more words block k,
  (λ h. elim h [
    | inl old ↦ bit_kept words (block / 64) (2 ^ (block % 64)) (k / 64) (k % 64) old
    | inr same ↦
        let Bit : ℕ → Type 0 = λ bit. bit_at (2 ^ (block % 64)) bit ≡ 1 in
        bit_new words (block / 64) (2 ^ (block % 64)) (k / 64) (k % 64) there (ap (λ (n : ℕ). n / 64) same)
        (subst Bit (ap (λ (n : ℕ). n % 64) (sym same)) (bit_at-pow_same (block % 64)))
  ]),
)

pub held_finish :
    (me after : Me ℕ View) (done noted : List ℕ) (block : ℕ) → IsHeld me done
    → length me.0.worker.done ≡ done_size_of me.0.constraints → block < blocks_of me.0.constraints
    → after ≡ (with_worker me.0 (finishing block me.0.worker), me.1) → length noted ≡ length done
    → ((k : ℕ) → IsMember noted k ↔ (IsMember done k ⊎ (k ≡ block))) → IsHeld after noted
held_finish me after done noted block h size below is same members =
    let Now : Me ℕ View → Type 0 = λ m. IsHeld m noted in
    let known : block / 64 < length me.0.worker.done = omega (arith, size) in
    subst Now (sym is)
    record {
      no_slots = h.no_slots;
      live = h.live;
      done_noted = λ k.
          let with = member_with me.0.worker.done block k known in (
            (λ m. elim ((members k).0 m) [
              | inl old ↦ with.1 (inl ((h.done_noted k).0 old))
              | inr new ↦ with.1 (inr new)
            ]),
            (λ m. elim (with.0 m) [
              | inl old ↦ (members k).1 (inl ((h.done_noted k).1 old))
              | inr new ↦ (members k).1 (inr new)
            ]),
          );
      done_size = same ∙ h.done_size;
    }

-- a slice of the whole length, written back over the items of a vector
pub written_back :
    (words items : List ℕ) (len : ℕ) → len ≡ length items → length words ≡ length items
    → take len (words ++ drop (length words) items) ≡ words
written_back words items len whole same =
    let Taken : ℕ → Type 0 = λ n. take n (words ++ drop (length words) items) ≡ words in
    subst Taken (same ∙ sym whole) (take-append_seam words (drop (length words) items))

member_or : (words more : List ℕ) (k : ℕ) → IsMember (or_words words more) k ↔ (IsMember words k ⊎ IsMember more k)
member_or words more k =
    let Bit : ℕ → Type 0 = λ n. bit_at n (k % 64) ≡ 1 in
    let both = bit_of_or (get_or words (k / 64) 0) (get_or more (k / 64) 0) (k % 64) in (
      (λ h. both.0 (subst Bit (or_words_at words more (k / 64)) h)),
      (λ h. subst Bit (sym (or_words_at words more (k / 64))) (both.1 h)),
    )

pub held_join :
    (me second after : Me ℕ View) (done more both : List ℕ) → IsHeld me done → IsHeld second more
    → after ≡ (joined_view me.0 second.0, me.1) → length both ≡ length done
    → ((k : ℕ) → IsMember both k ↔ (IsMember done k ⊎ IsMember more k)) → IsHeld after both
held_join me second after done more both h other is size members =
    let Now : Me ℕ View → Type 0 = λ m. IsHeld m both in
    subst Now (sym is)
    record {
      no_slots = h.no_slots;
      live = h.live;
      done_noted = λ k. (
        (λ m.
            (member_or me.0.worker.done second.0.worker.done k).1
            (elim ((members k).0 m) [
              | inl one ↦ inl ((h.done_noted k).0 one)
              | inr two ↦ inr ((other.done_noted k).0 two)
            ])),
        (λ m.
            (members k).1
            (elim ((member_or me.0.worker.done second.0.worker.done k).0 m) [
              | inl one ↦ inl ((h.done_noted k).1 one)
              | inr two ↦ inr ((other.done_noted k).1 two)
            ])),
      );
      done_size = size ∙ h.done_size;
    }

pub of_joined :
    (opened : Opened) (pass other after : Held) → IsOf pass opened → IsOf other opened
    → after ≡ knowing pass (joined pass.view.worker other.view.worker) → IsOf after opened
of_joined opened pass other after h k is =
    let Now : Held → Type 0 = λ p. IsOf p opened in
    subst Now (sym is)
    record {
      same_table = h.same_table;
      own = own_joined opened.constraints opened.base pass.view other.view h.own k.own;
    }
