-- What a shelf in memory does to the files that it tells.
use Rattle.std.proofs.Common.{◌≡◌, ◌≤◌, ℕ, zero, suc, List, [], ◌++◌, length, take, min, Bool, true, false, not, ◌&&◌, refl, sym, ap, subst, ◌∙◌, arith}
use Rattle.std.specs.Prelude.{Option, Some, None, is_some}
use Rattle.std.specs.Option.{option_map}
use Rattle.std.specs.Cmp.{second_so}
use Rattle.std.specs.Str.{bytes_eq}
use Rattle.std.proofs.lemmas.Slice.Eq.{bytes_eq-Decides}
use Rattle.stalin_outside.specs.declared.shelf.Begun.{Begun}
use Rattle.stalin_outside.specs.declared.shelf.Begun.TheVariants as begins
use Rattle.stalin_outside.specs.declared.shelf.Took.{Took}
use Rattle.stalin_outside.specs.declared.shelf.Took.TheVariants as writes
use Rattle.stalin_outside.specs.Shelf.{ChangesOnly, Empties, Appends}
use Rattle.stalin_outside.specs.Stored.{Stored, stored, contents, emptied, grown, free_room, Puts}
use Rattle.stalin_outside.specs.MemShelf.{BeginsExactly, after_begin, after_write, took}

-- the files told differ in the one that was put
told :
    (name : List ℕ) (file : Option Stored) (before now : List Stored) (content : Option (List ℕ))
    → Puts name file before now → option_map (λ (f : Stored). f.bytes) file ≡ content
    → ChangesOnly name content (contents before) (contents now)
told name file before now content puts is =
    record {
      changed = ap (option_map (λ (f : Stored). f.bytes)) puts.changed ∙ is;
      others = λ other apart. ap (option_map (λ (f : Stored). f.bytes)) (puts.others other apart);
    }

-- where the file that was there is put, none differs
same_told :
    (name : List ℕ) (before now : List Stored) → Puts name (stored before name) before now
    → (other : List ℕ) → contents now other ≡ contents before other
same_told name before now puts other = ap (option_map (λ (f : Stored). f.bytes)) (go (bytes_eq other name) refl)
  where
    go : (same : Bool) → bytes_eq other name ≡ same → stored now other ≡ stored before other
    go true e =
        let is : name ≡ other = sym ((bytes_eq-Decides other name).0 e) in
        subst (λ (n : List ℕ). stored now n ≡ stored before n) is puts.changed
    go false e =
        puts.others
        other
        (λ is.
        let clash : false ≡ true = sym e ∙ (bytes_eq-Decides other name).1 is in
        cc)

emptied_content : (file : Option Stored) → is_some file ≡ true → option_map (λ (f : Stored). f.bytes) (option_map emptied file) ≡ Some []
emptied_content None there = cc
emptied_content (Some file) there = refl

pub empties :
    (name : List ℕ) (answer : Begun) (fails : Bool) (before now : List Stored)
    → BeginsExactly (not fails && is_some (stored before name)) answer
    → Puts name (after_begin answer (stored before name)) before now
    → Empties name answer (Some (contents before)) (Some (contents now))
empties name begins.Ready fails before now can puts =
    told name _ before now (Some []) puts (emptied_content (stored before name) (second_so (not fails) (is_some (stored before name)) can))
empties name begins.Failed fails before now can puts = same_told name before now puts
empties name begins.NoMemory fails before now can puts = same_told name before now puts

grown_content :
    (bytes : List ℕ) (file : Option Stored)
    → option_map (λ (f : Stored). f.bytes) (option_map (grown bytes) file)
    ≡ option_map (λ content. content ++ bytes) (option_map (λ (f : Stored). f.bytes) file)
grown_content bytes None = refl
grown_content bytes (Some file) = refl

took_count : (fails : Bool) (count n : ℕ) → writes.Bytes count ≡ took fails n → (1 ≤ count) × (count ≤ n)
took_count true count n h = cc
took_count false count zero h = cc
took_count false count (suc n) h =
    let is : count ≡ suc n = cc in
    (omega arith, omega arith)

pub appends :
    (name piece : List ℕ) (answer : Took) (fails : Bool) (before now : List Stored)
    → answer ≡ took fails (min (free_room (stored before name)) (length piece))
    → Puts name (after_write answer piece (stored before name)) before now
    → Appends name piece answer (Some (contents before)) (Some (contents now))
appends name piece (writes.Bytes count) fails before now is puts =
    let counted : (1 ≤ count) × (count ≤ min (free_room (stored before name)) (length piece)) = took_count fails count _ is in (
      record { some = counted.0; within = omega (arith, counted.1) },
      told name _ before now _ puts (grown_content (take count piece) (stored before name)),
    )
appends name piece writes.Failed fails before now is puts = same_told name before now puts
