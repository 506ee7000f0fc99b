-- Reading and writing whole files piece by piece: what the pieces come to.
use Rattle.std.proofs.Common.{ℕ, ◌+◌, ◌-◌, ◌<◌, ◌≤◌, ◌≡◌, refl, sym, ap, subst, ◌∙◌, List, [], ◌++◌, length, min, take, drop, Option, Some, None, inr, arith, append_assoc, length-append, length-drop, length-take}
use Rattle.std.proofs.lemmas.List.{append-nil, take-take, take_all, drop-drop}
use Rattle.std.proofs.Math.Seq.{take-add}
use Rattle.std.specs.Option.{option_map}
use Rattle.stalin_outside.specs.Shelf.{Files, WhereTold, SameFiles, ChangesOnly, AreNext, AreAll, Grows}
use Rattle.stalin_outside.specs.declared.whole_files.Reading.TheVariants as reads
use Rattle.stalin_outside.specs.declared.whole_files.Writing.TheVariants as writes
use Rattle.stalin_outside.specs.WholeFiles.{ReadsRest, LeavesRest, GrowsByFront, WritesFile, WritesRest}
use Rattle.stalin_outside.proofs.Appended.{gains_nothing, gains_both}

-- Reading

pub same_refl : (files : Option Files) → SameFiles files files
same_refl None = tt
same_refl (Some files) = λ name. refl

pub same_then : (before middle now : Option Files) → SameFiles before middle → SameFiles middle now
    → SameFiles before now
same_then None middle now one two = tt
same_then (Some before) None now one two = absurd one
same_then (Some before) (Some middle) None one two = absurd two
same_then (Some before) (Some middle) (Some now) one two = λ name. two name ∙ one name

-- pieces that were next one after the other are next together
pub next_then : (files later : Option Files) (text more before middle now : List ℕ) → SameFiles files later
    → AreNext files text before middle → AreNext later more middle now → AreNext files (text ++ more) before now
next_then None later text more before middle now same one two = tt
next_then (Some files) None text more before middle now same one two = absurd same
next_then (Some files) (Some later) text more before middle now same one two =
    one ∙ (ap (λ t. text ++ t) two ∙ sym (append_assoc text more now))

-- what was read up to the end is the whole
pub reads_whole : (most : ℕ) (files later : Option Files) (text before left : List ℕ) → SameFiles files later
    → AreNext files text before left → AreAll later left → length text ≤ most
    → ReadsRest most files before (reads.Whole text)
reads_whole most None later text before left same next all size = size
reads_whole most (Some files) None text before left same next all size = absurd same
reads_whole most (Some files) (Some later) text before left same next all size =
    (ap Some (next ∙ (ap (λ t. text ++ t) all ∙ append-nil text)), size)

pub reads_too_long : (most : ℕ) (files : Option Files) (text before left : List ℕ) → AreNext files text before left
    → most < length text → ReadsRest most files before reads.TooLong
reads_too_long most None text before left next size = tt
reads_too_long most (Some files) text before left next size =
    let e : length before ≡ length text + length left = ap length next ∙ length-append text left in
    (before, refl, omega arith)

-- a file that is too long has as many bytes left as were not read
pub leaves_others : (most : ℕ) (files : Option Files) (text before left : List ℕ) → AreNext files text before left
    → length text ≡ most + 1 → LeavesRest most files before left reads.TooLong
leaves_others most None text before left next size = tt
leaves_others most (Some files) text before left next size = (text, size, ap Some next)

-- Writing

-- so many bytes are written at the file's end, and the rest is to be written
pub record HasWritten (name bytes rest : List ℕ) (before now : Option Files) : Type 0 where
  pub count : ℕ
  pub within : count ≤ length bytes
  pub rest_is : rest ≡ drop count bytes
  pub files : WhereTold (Grows name (take count bytes)) before now

grows_none : (name : List ℕ) (files : Option Files) → WhereTold (Grows name []) files files
grows_none name None = tt
grows_none name (Some files) = record { changed = gains_nothing (files name); others = λ other apart. refl }

grows_then : (name a b : List ℕ) (before middle now : Option Files) → WhereTold (Grows name a) before middle
    → WhereTold (Grows name b) middle now → WhereTold (Grows name (a ++ b)) before now
grows_then name a b None middle now one two = tt
grows_then name a b (Some before) None now one two = absurd one
grows_then name a b (Some before) (Some middle) None one two = absurd two
grows_then name a b (Some before) (Some middle) (Some now) one two =
    record {
      changed = two.changed ∙ (ap (option_map (λ c. c ++ b)) one.changed ∙ gains_both a b (before name));
      others = λ other apart. two.others other apart ∙ one.others other apart;
    }

pub written_none : (name bytes : List ℕ) (files : Option Files) → HasWritten name bytes bytes files files
written_none name bytes files =
    record { count = 0; within = omega arith; rest_is = refl; files = grows_none name files }

pub written_more : (name bytes rest : List ℕ) (size n more : ℕ) (before middle now : Option Files)
    → HasWritten name bytes rest before middle → n ≤ length (take size rest) → length rest ≤ n + more
    → WhereTold (Grows name (take n (take size rest))) middle now
    → HasWritten name bytes (take more (drop n rest)) before now
written_more name bytes rest size n more before middle now written within all grown =
    let cut : length (take size rest) ≡ min size (length rest) = length-take size rest in
    let left : length rest ≡ length bytes - written.count =
    ap length written.rest_is ∙ length-drop written.count bytes
    in
    let after : length (drop n rest) ≡ length rest - n = length-drop n rest in
    let piece : take n (take size rest) ≡ take n (drop written.count bytes) =
    take-take n size rest (omega arith) ∙ ap (take n) written.rest_is
    in
    record {
      count = written.count + n;
      within = omega (arith, written.within);
      rest_is =
          take_all more (drop n rest) (omega arith)
          ∙ (ap (drop n) written.rest_is ∙ drop-drop n written.count bytes);
      files =
          subst (λ t. WhereTold (Grows name t) before now)
          (ap (λ t. take written.count bytes ++ t) piece ∙ sym (take-add written.count n bytes))
          (grows_then name (take written.count bytes) (take n (take size rest)) before middle now written.files grown);
    }

pub written_all : (name bytes rest : List ℕ) (before now : Option Files) → HasWritten name bytes rest before now
    → length rest ≡ 0 → WritesRest name bytes writes.Done before now
written_all name bytes rest before now written empty =
    let left : length rest ≡ length bytes - written.count =
    ap length written.rest_is ∙ length-drop written.count bytes
    in
    let all : length bytes ≤ written.count = omega (arith, written.within) in
    subst (λ t. WhereTold (Grows name t) before now) (take_all written.count bytes all) written.files

front_told : (name bytes : List ℕ) (k : ℕ) (before now : Option Files) → k ≤ length bytes
    → WhereTold (Grows name (take k bytes)) before now → WhereTold (GrowsByFront name bytes) before now
front_told name bytes k None now within grown = tt
front_told name bytes k (Some before) None within grown = absurd grown
front_told name bytes k (Some before) (Some now) within grown = (k, within, grown)

grows_same : (name a : List ℕ) (before middle now : Option Files) → WhereTold (Grows name a) before middle
    → SameFiles middle now → WhereTold (Grows name a) before now
grows_same name a None middle now one two = tt
grows_same name a (Some before) None now one two = absurd one
grows_same name a (Some before) (Some middle) None one two = absurd two
grows_same name a (Some before) (Some middle) (Some now) one two =
    record { changed = two name ∙ one.changed; others = λ other apart. two other ∙ one.others other apart }

pub written_part : (name bytes rest : List ℕ) (before middle now : Option Files)
    → HasWritten name bytes rest before middle → SameFiles middle now → WritesRest name bytes writes.Fault before now
written_part name bytes rest before middle now written same =
    front_told name bytes written.count before now written.within
    (grows_same name (take written.count bytes) before middle now written.files same)

-- a file that is emptied and then grows by bytes holds them
emptied_then : (name bytes : List ℕ) (before middle now : Files) → ChangesOnly name (Some []) before middle
    → Grows name bytes middle now → ChangesOnly name (Some bytes) before now
emptied_then name bytes before middle now one two =
    record {
      changed = two.changed ∙ ap (option_map (λ c. c ++ bytes)) one.changed;
      others = λ other apart. two.others other apart ∙ one.others other apart;
    }

pub writes_whole : (name bytes : List ℕ) (before middle now : Option Files)
    → WhereTold (ChangesOnly name (Some [])) before middle → WritesRest name bytes writes.Done middle now
    → WritesFile name bytes writes.Done before now
writes_whole name bytes None middle now one two = tt
writes_whole name bytes (Some before) None now one two = absurd one
writes_whole name bytes (Some before) (Some middle) None one two = absurd two
writes_whole name bytes (Some before) (Some middle) (Some now) one two =
    emptied_then name bytes before middle now one two

pub writes_front : (name bytes : List ℕ) (before middle now : Option Files)
    → WhereTold (ChangesOnly name (Some [])) before middle → WritesRest name bytes writes.Fault middle now
    → WritesFile name bytes writes.Fault before now
writes_front name bytes None middle now one two = inr tt
writes_front name bytes (Some before) None now one two = absurd one
writes_front name bytes (Some before) (Some middle) None one two = absurd two
writes_front name bytes (Some before) (Some middle) (Some now) one two =
    inr (two.0, two.1, emptied_then name (take two.0 bytes) before middle now one two.2)
