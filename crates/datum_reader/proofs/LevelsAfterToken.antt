-- What a token does to the levels.
use Rattle.std.proofs.Common.{◌≡◌, ℕ, zero, suc, ◌<◌, ◌≤◌, Bool, true, false, List as Seq, [], ◌∷◌, ◌++◌, length, Some, Err, refl, sym, ap, subst, arith}
use Rattle.std.specs.Prelude.{reverse}
use Rattle.scheme_base.specs.declared.pos.Pos.{Pos}
use Rattle.datum_form.specs.declared.datums.Node.{Node}
use Rattle.datum_form.specs.Data.{data_of}
use Rattle.datum_form.specs.Stands.{StandAll}
use Rattle.datum_form.specs.Syntax.{Syntax}
use Rattle.datum_reader.specs.declared.level.Level.{Level}
use Rattle.datum_reader.specs.declared.level.Level.TheVariants as level
use Rattle.datum_reader.specs.declared.reading.Reading.{Reading}
use Rattle.datum_reader.specs.declared.error.ReadErr.TheVariants.{Unclosed}
use Rattle.datum_reader.specs.Answer.{max_depth}
use Rattle.datum_reader.specs.Levels.{HoldsLevel}
use Rattle.datum_reader.specs.Machine.{Frame, Run, frame_place, room, in_room, open_one}
use Rattle.datum_reader.specs.Machine.Frame.{Opened, Listing, Dotted, Tailed, InVector, Waiting}
use Rattle.datum_reader.specs.Machine.Run.{On, Stray, Deep}
use Rattle.datum_reader.specs.Reading.{HoldsLevels, IsAt, Innermost, Finishes}
use Rattle.datum_reader.proofs.AddedNodeStands.{all_grown}
use Rattle.datum_reader.proofs.LevelsAfterDatum.{levels_grown, last_first, one_longer}

-- Room

pub no_room : (nodes : Seq Node) (p : Pos) (ids : Seq ℕ) (tail : ℕ) (fs : Seq Frame)
    → Innermost nodes (Some (level.Tailed p ids tail)) fs → room fs ≡ false
no_room nodes p ids tail [] h = absurd h
no_room nodes p ids tail (Opened q ∷ fs) h = absurd h
no_room nodes p ids tail (Listing q a is ∷ fs) h = absurd h
no_room nodes p ids tail (Dotted q a is d ∷ fs) h = absurd h
no_room nodes p ids tail (Tailed q a is d t ∷ fs) h = refl
no_room nodes p ids tail (InVector q is ∷ fs) h = absurd h
no_room nodes p ids tail (Waiting q m ∷ fs) h = absurd h

pub room_else : (nodes : Seq Node) (l : Level) (fs : Seq Frame) → Innermost nodes (Some l) fs
    → ((p : Pos) (ids : Seq ℕ) (tail : ℕ) → l ≡ level.Tailed p ids tail → ⊥) → room fs ≡ true
room_else nodes l [] h other = absurd h
room_else nodes l (Opened q ∷ fs) h other = refl
room_else nodes l (Listing q a is ∷ fs) h other = refl
room_else nodes l (Dotted q a is d ∷ fs) h other = refl
room_else nodes (level.Tailed p ids tail) (Tailed q a is d t ∷ fs) h other = absurd (other p ids tail refl)
room_else nodes l (Tailed q a is d t ∷ fs) h other = absurd h
room_else nodes l (InVector q is ∷ fs) h other = refl
room_else nodes l (Waiting q m ∷ fs) h other = refl

pub room_outside : (fs : Seq Frame) → fs ≡ [] → room fs ≡ true
room_outside fs e = ap room e

pub refused : (b : Bool) (p : Pos) (r : Run) → b ≡ false → in_room b p r ≡ Stray p
refused b p r e = ap (λ c. in_room c p r) e

pub entered : (b : Bool) (p : Pos) (run : Run) (r : Reading) → b ≡ true → IsAt r run → IsAt r (in_room b p run)
entered b p run r e h =
    let P : Run → Type 0 = λ x. IsAt r x in
    subst P (sym (ap (λ c. in_room c p run) e)) h

-- A level that is opened

pub too_deep : (r : Reading) (n : ℕ) (f : Frame) (fs : Seq Frame) (us : Seq Syntax) (p : Pos) (b : Bool)
    → IsAt r (On n fs us) → b ≡ true → max_depth ≤ length r.levels.items → in_room b p (open_one n f fs us p) ≡ Deep p
too_deep r zero f fs us p b h free full = ap (λ c. in_room c p (Deep p)) free
too_deep r (suc n) f fs us p b h free full = absurd (omega (arith, h.room, full))

pub opens : (r next : Reading) (l : Level) (n : ℕ) (f : Frame) (fs : Seq Frame) (us : Seq Syntax) (p : Pos)
    → IsAt r (On n fs us) → ((nodes : Seq Node) → HoldsLevel nodes l f) → length r.levels.items < max_depth
    → next.levels.items ≡ r.levels.items ++ l ∷ [] → next.nodes ≡ r.nodes → next.tops ≡ r.tops
    → IsAt next (open_one n f fs us p)
opens r next l zero f fs us p h held room pushed nodes tops = absurd (omega (arith, h.room, room))
opens r next l (suc n) f fs us p h held room pushed nodes tops =
    let old = r.levels.items in
    let AtLevels : Seq Level → Type 0 = λ ls. HoldsLevels next.nodes ls (f ∷ fs) in
    let AtNodes : Seq Node → Type 0 = λ ns. HoldsLevels ns (reverse old) fs in
    let TopsIn : Seq Node → Type 0 = λ ns. StandAll ns r.tops (data_of us) in
    let AtTops : Seq ℕ → Type 0 = λ ids. StandAll next.nodes ids (data_of us) in
    record {
      levels =
          subst AtLevels (sym (last_first next.levels.items old l pushed))
          (held next.nodes, subst AtNodes (sym nodes) h.levels);
      tops = subst AtTops (sym tops) (subst TopsIn (sym nodes) h.tops);
      room = omega (arith, h.room, one_longer next.levels.items old l pushed);
    }

-- A datum without parts

pub more_nodes : (r next : Reading) (more : Seq Node) (n : ℕ) (fs : Seq Frame) (us : Seq Syntax) → IsAt r (On n fs us)
    → next.nodes ≡ r.nodes ++ more → next.levels.items ≡ r.levels.items → next.tops ≡ r.tops → IsAt next (On n fs us)
more_nodes r next more n fs us h whole levels tops =
    let AtLevels : Seq Level → Type 0 = λ ls. HoldsLevels next.nodes (reverse ls) fs in
    let AtNodes : Seq Node → Type 0 = λ ns. HoldsLevels ns (reverse r.levels.items) fs in
    let AtTops : Seq ℕ → Type 0 = λ ids. StandAll next.nodes ids (data_of us) in
    record {
      levels =
          subst AtLevels (sym levels)
          (subst AtNodes (sym whole) (levels_grown r.nodes more (reverse r.levels.items) fs h.levels));
      tops = subst AtTops (sym tops) (all_grown r.nodes next.nodes more r.tops (data_of us) whole h.tops);
      room = omega (arith, h.room, ap length levels);
    }

-- The end

pub still_open : (nodes : Seq Node) (l : Level) (fs : Seq Frame) (us : Seq Syntax) (p : Pos)
    → Innermost nodes (Some l) fs → ((f : Frame) → HoldsLevel nodes l f → p ≡ frame_place f)
    → Finishes (Err (Unclosed p)) fs us
still_open nodes l [] us p h place = absurd h
still_open nodes l (f ∷ fs) us p h place = place f h
