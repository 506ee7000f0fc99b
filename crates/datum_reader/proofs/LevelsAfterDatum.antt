-- What a datum does to the levels that it is given to.
use Rattle.std.proofs.Common.{◌≡◌, ℕ, suc, ◌+◌, List as Seq, [], ◌∷◌, ◌++◌, length, length-append, refl, sym, ap, subst, ◌∙◌, arith, Some}
use Rattle.std.specs.Prelude.{reverse}
use Rattle.std.proofs.lemmas.List.{reverse-append}
use Rattle.scheme_base.specs.declared.pos.Pos.{Pos}
use Rattle.datum_form.specs.declared.datums.Node.{Node}
use Rattle.datum_form.specs.Data.{Datum, Datum as datum, datum_of, data_of, mark_name}
use Rattle.datum_form.specs.Data.Items.{none, item}
use Rattle.datum_form.specs.Stands.{Stands, StandAll}
use Rattle.datum_form.specs.Syntax.{Syntax}
use Rattle.datum_form.specs.declared.token.Atom.TheVariants.{Symbol}
use Rattle.datum_form.specs.Syntax.Syntax.{Marked, Nil, Listed, Vector}
use Rattle.datum_form.specs.Syntax.Rest.{End, Tail}
use Rattle.datum_form.specs.Syntax.Elements.{Last}
use Rattle.datum_form.proofs.DataStay.{grown, grown_all}
use Rattle.datum_reader.specs.declared.level.Level.{Level}
use Rattle.datum_reader.specs.declared.level.Level.TheVariants as level
use Rattle.datum_form.specs.declared.token.Mark.{Mark}
use Rattle.datum_reader.specs.Levels.{HoldsLevel, IsLevel, with_tree, Closes}
use Rattle.datum_reader.specs.Machine.{Frame, Run, give, shut, rest_of, elements_of}
use Rattle.datum_reader.specs.Machine.Run.{On}
use Rattle.datum_reader.specs.Answer.{max_depth}
use Rattle.datum_reader.specs.declared.reading.Reading.{Reading}
use Rattle.datum_reader.specs.Machine.Frame.{Opened, Listing, Dotted, Tailed, InVector, Waiting}
use Rattle.datum_reader.specs.Nodes.{Builds}
use Rattle.datum_reader.specs.Reading.{HoldsLevels, Holds, IsAt, IsReading, Goes}
use Rattle.datum_reader.proofs.AddedNodeStands.{all_grown}
use Rattle.datum_reader.proofs.LevelTakesOrCloses.{one_more}

-- Nodes that are added

level_grown : (nodes more : Seq Node) (l : Level) (f : Frame) → HoldsLevel nodes l f → HoldsLevel (nodes ++ more) l f
level_grown nodes more (level.Opened p) (Opened q) h = h
level_grown nodes more (level.Listing p ids) (Listing q a is) h =
    (h.0, grown_all nodes more ids (data_of (a ∷ is)) h.1)
level_grown nodes more (level.Dotted p ids) (Dotted q a is d) h =
    (h.0, grown_all nodes more ids (data_of (a ∷ is)) h.1)
level_grown nodes more (level.Tailed p ids tail) (Tailed q a is d t) h =
    (h.0, grown_all nodes more ids (data_of (a ∷ is)) h.1, grown nodes more tail (datum_of t) h.2)
level_grown nodes more (level.InVector p ids) (InVector q is) h = (h.0, grown_all nodes more ids (data_of is) h.1)
level_grown nodes more (level.Waiting p m) (Waiting q k) h = h
level_grown nodes more l f h = absurd h

pub levels_grown : (nodes more : Seq Node) (ls : Seq Level) (fs : Seq Frame) → HoldsLevels nodes ls fs
    → HoldsLevels (nodes ++ more) ls fs
levels_grown nodes more [] [] h = tt
levels_grown nodes more [] (f ∷ fs) h = absurd h
levels_grown nodes more (l ∷ ls) [] h = absurd h
levels_grown nodes more (l ∷ ls) (f ∷ fs) h = (level_grown nodes more l f h.0, levels_grown nodes more ls fs h.1)

-- A mark that gets its datum

-- the frames outside a mark, and the mark's tree
pub record Outer (nodes : Seq Node) (ls : Seq Level) (p : Pos) (m : Mark) (fs : Seq Frame) (t : Syntax) : Type 0 where
  pub frames : Seq Frame
  pub holds : HoldsLevels nodes ls frames
  pub tree : Syntax
  pub is : datum_of tree ≡ datum.List p (item (datum.Atomic p (Symbol (mark_name m))) (item (datum_of t) none))
  pub same : (n : ℕ) (us : Seq Syntax) → give n fs us t ≡ give (suc n) frames us tree

mark_data : (p q : Pos) (m : Mark) (t : Syntax) → p ≡ q
    → datum_of (Marked q m t) ≡ datum.List p (item (datum.Atomic p (Symbol (mark_name m))) (item (datum_of t) none))
mark_data p q m t e =
    ap (λ r. datum.List r (item (datum.Atomic r (Symbol (mark_name m))) (item (datum_of t) none))) (sym e)

outer_mark : (nodes : Seq Node) (ls : Seq Level) (p : Pos) (m : Mark) (f : Frame) (fs : Seq Frame) (t : Syntax)
    → HoldsLevel nodes (level.Waiting p m) f → HoldsLevels nodes ls fs → Outer nodes ls p m (f ∷ fs) t
outer_mark nodes ls p m (Waiting q k) fs t h rest =
    record {
      frames = fs;
      holds = rest;
      tree = Marked q m t;
      is = mark_data p q m t h.0;
      same = λ n us. ap (λ j. give (suc n) fs us (Marked q j t)) (sym h.1);
    }
outer_mark nodes ls p m f fs t h rest = absurd h

pub outer : (nodes : Seq Node) (ls : Seq Level) (p : Pos) (m : Mark) (fs : Seq Frame) (t : Syntax)
    → HoldsLevels nodes (level.Waiting p m ∷ ls) fs → Outer nodes ls p m fs t
outer nodes ls p m [] t h = absurd h
outer nodes ls p m (f ∷ fs) t h = outer_mark nodes ls p m f fs t h.0 h.1

pub waits : (r next : Reading) (p : Pos) (m : Mark) (id given : ℕ) (us : Seq Syntax) (end : Run) → Goes r id us end
    → reverse r.levels.items ≡ level.Waiting p m ∷ reverse next.levels.items
    → length r.levels.items ≡ length next.levels.items + 1 → next.tops ≡ r.tops
    → ((d : Datum) → Stands r.nodes id d
    → Builds r.nodes next.nodes given (datum.List p (item (datum.Atomic p (Symbol (mark_name m))) (item d none))))
    → Goes next given us end
waits r next p m id given us end g popped count tops builds =
    let AtLevels : Seq Level → Type 0 = λ ls. HoldsLevels r.nodes ls g.frames in
    let o = outer r.nodes (reverse next.levels.items) p m g.frames g.tree (subst AtLevels popped g.holds.levels) in
    let b = builds (datum_of g.tree) g.stands in
    let AtNodes : Seq Node → Type 0 = λ ns. HoldsLevels ns (reverse next.levels.items) o.frames in
    let AtTops : Seq ℕ → Type 0 = λ ids. StandAll next.nodes ids (data_of us) in
    let AtDatum : Datum → Type 0 = λ d. Stands next.nodes given d in
    record {
      room = suc g.room;
      frames = o.frames;
      tree = o.tree;
      holds =
          record {
            levels =
                subst AtNodes (sym b.whole)
                (levels_grown r.nodes b.more (reverse next.levels.items) o.frames o.holds);
            tops = subst AtTops (sym tops) (all_grown r.nodes next.nodes b.more r.tops (data_of us) b.whole g.holds.tops);
            room = omega (arith, g.holds.room, count);
          };
      stands = subst AtDatum (sym o.is) b.stands;
      same = g.same ∙ o.same g.room us;
    }

-- A level that takes its datum

given_one : (nodes : Seq Node) (l : Level) (f : Frame) (fs : Seq Frame) (n : ℕ) (us : Seq Syntax) (t : Syntax)
    → HoldsLevel nodes l f → ((p : Pos) (m : Mark) → l ≡ level.Waiting p m → ⊥)
    → give n (f ∷ fs) us t ≡ On n (with_tree f t ∷ fs) us
given_one nodes l (Opened p) fs n us t h other = refl
given_one nodes l (Listing p a is) fs n us t h other = refl
given_one nodes l (Dotted p a is d) fs n us t h other = refl
given_one nodes l (Tailed p a is d s) fs n us t h other = refl
given_one nodes l (InVector p is) fs n us t h other = refl
given_one nodes (level.Waiting q m) (Waiting p k) fs n us t h other = absurd (other q m refl)
given_one nodes l (Waiting p k) fs n us t h other = absurd h

takes_at : (r next : Reading) (l taken : Level) (rest : Seq Level) (id room : ℕ) (frames : Seq Frame) (t : Syntax)
    (us : Seq Syntax) (end : Run) → HoldsLevels r.nodes (l ∷ rest) frames → StandAll r.nodes r.tops (data_of us)
    → room + length r.levels.items ≡ max_depth → Stands r.nodes id (datum_of t) → end ≡ give room frames us t
    → ((p : Pos) (m : Mark) → l ≡ level.Waiting p m → ⊥)
    → ((nodes : Seq Node) (f : Frame) (s : Syntax) → HoldsLevel nodes l f → Stands nodes id (datum_of s)
    → HoldsLevel nodes taken (with_tree f s))
    → reverse next.levels.items ≡ taken ∷ rest → length next.levels.items ≡ length r.levels.items
    → next.nodes ≡ r.nodes → next.tops ≡ r.tops → IsAt next end
takes_at r next l taken rest id room [] t us end levels tops deep stands same other takes pushed count nodes kept =
    absurd levels
takes_at r next l taken rest id room (f ∷ fs) t us end levels tops deep stands same other takes pushed count nodes kept =
    let AtRun : Run → Type 0 = λ run. IsAt next run in
    let AtLevels : Seq Level → Type 0 = λ ls. HoldsLevels next.nodes ls (with_tree f t ∷ fs) in
    let AtNodes : Seq Node → Type 0 = λ ns. HoldsLevels ns (taken ∷ rest) (with_tree f t ∷ fs) in
    let TopsIn : Seq Node → Type 0 = λ ns. StandAll ns r.tops (data_of us) in
    let AtTops : Seq ℕ → Type 0 = λ ids. StandAll next.nodes ids (data_of us) in
    let holds : Holds next room (with_tree f t ∷ fs) us =
    record {
      levels =
          subst AtLevels (sym pushed)
          (subst AtNodes (sym nodes) (takes r.nodes f t levels.0 stands, levels.1));
      tops = subst AtTops (sym kept) (subst TopsIn (sym nodes) tops);
      room = omega (arith, deep, count);
    } in
    subst AtRun (sym (same ∙ given_one r.nodes l f fs room us t levels.0 other)) holds

pub takes : (r next : Reading) (l taken : Level) (rest : Seq Level) (id : ℕ) (us : Seq Syntax) (end : Run)
    → Goes r id us end → reverse r.levels.items ≡ l ∷ rest
    → ((p : Pos) (m : Mark) → l ≡ level.Waiting p m → ⊥)
    → ((nodes : Seq Node) (f : Frame) (s : Syntax) → HoldsLevel nodes l f → Stands nodes id (datum_of s)
    → HoldsLevel nodes taken (with_tree f s))
    → reverse next.levels.items ≡ taken ∷ rest → length next.levels.items ≡ length r.levels.items
    → next.nodes ≡ r.nodes → next.tops ≡ r.tops → IsAt next end
takes r next l taken rest id us end g popped other holds pushed count nodes kept =
    let P : Seq Level → Type 0 = λ ls. HoldsLevels r.nodes ls g.frames in
    takes_at r next l taken rest id g.room g.frames g.tree us end (subst P popped g.holds.levels) g.holds.tops
    g.holds.room g.stands g.same other holds pushed count nodes kept

-- the innermost level is the last
pub last_first : (all ls : Seq Level) (l : Level) → all ≡ ls ++ l ∷ [] → reverse all ≡ l ∷ reverse ls
last_first all ls l e = ap reverse e ∙ reverse-append ls (l ∷ [])

pub one_longer : (all ls : Seq Level) (l : Level) → all ≡ ls ++ l ∷ [] → length all ≡ length ls + 1
one_longer all ls l e = omega (arith, ap length e, length-append ls (l ∷ []))

-- Outside of all levels

top_at : (r next : Reading) (id room : ℕ) (frames : Seq Frame) (t : Syntax) (us : Seq Syntax) (end : Run)
    → HoldsLevels r.nodes [] frames → StandAll r.nodes r.tops (data_of us) → room + length r.levels.items ≡ max_depth
    → Stands r.nodes id (datum_of t) → end ≡ give room frames us t → r.levels.items ≡ [] → next.levels.items ≡ []
    → next.nodes ≡ r.nodes → next.tops ≡ r.tops ++ id ∷ [] → IsAt next end
top_at r next id room [] t us end levels tops deep stands same empty left nodes added =
    let AtRun : Run → Type 0 = λ run. IsAt next run in
    let AtLevels : Seq Level → Type 0 = λ ls. HoldsLevels next.nodes (reverse ls) [] in
    let AtNodes : Seq Node → Type 0 = λ ns. StandAll ns (r.tops ++ id ∷ []) (data_of (us ++ t ∷ [])) in
    let AtTops : Seq ℕ → Type 0 = λ ids. StandAll next.nodes ids (data_of (us ++ t ∷ [])) in
    let holds : Holds next room [] (us ++ t ∷ []) =
    record {
      levels = subst AtLevels (sym left) tt;
      tops = subst AtTops (sym added) (subst AtNodes (sym nodes) (one_more r.nodes r.tops id us t tops stands));
      room = omega (arith, deep, ap length empty, ap length left);
    } in
    subst AtRun (sym same) holds
top_at r next id room (f ∷ fs) t us end levels tops deep stands same empty left nodes added = absurd levels

pub given_top : (r next : Reading) (id : ℕ) (us : Seq Syntax) (end : Run) → Goes r id us end → r.levels.items ≡ []
    → next.levels.items ≡ [] → next.nodes ≡ r.nodes → next.tops ≡ r.tops ++ id ∷ [] → IsAt next end
given_top r next id us end g empty left nodes added =
    let P : Seq Level → Type 0 = λ ls. HoldsLevels r.nodes (reverse ls) g.frames in
    top_at r next id g.room g.frames g.tree us end (subst P empty g.holds.levels) g.holds.tops g.holds.room g.stands
    g.same empty left nodes added

-- A `)`

-- the tree that a `)` closes, and what it is given to
pub record Closed (before after : Seq Node) (id n : ℕ) (f : Frame) (fs : Seq Frame) (us : Seq Syntax) (q : Pos) : Type 0 where
  pub tree : Syntax
  pub builds : Builds before after id (datum_of tree)
  pub same : shut n (f ∷ fs) us q ≡ give (suc n) fs us tree

closed_frame : (before after : Seq Node) (id n : ℕ) (f : Frame) (fs : Seq Frame) (us : Seq Syntax) (q : Pos)
    → Closes before after (Some id) f → Closed before after id n f fs us q
closed_frame before after id n (Opened p) fs us q h = record { tree = Nil p q; builds = h q; same = refl }
closed_frame before after id n (Listing p a is) fs us q h =
    record { tree = Listed p a (rest_of is End) q; builds = h q; same = refl }
closed_frame before after id n (Dotted p a is d) fs us q h = absurd (cc)
closed_frame before after id n (Tailed p a is d t) fs us q h =
    record { tree = Listed p a (rest_of is (Tail d t)) q; builds = h q; same = refl }
closed_frame before after id n (InVector p is) fs us q h =
    record { tree = Vector p (elements_of is Last) q; builds = h q; same = refl }
closed_frame before after id n (Waiting p m) fs us q h = absurd (cc)

closes_at : (before : Seq Node) (mid end : Reading) (l : Level) (ls : Seq Level) (id n : ℕ) (fs : Seq Frame)
    (us : Seq Syntax) (q : Pos) → HoldsLevels before (l ∷ reverse ls) fs → StandAll before mid.tops (data_of us)
    → n + (length ls + 1) ≡ max_depth → mid.levels.items ≡ ls
    → ((f : Frame) → HoldsLevel before l f → Closes before mid.nodes (Some id) f)
    → ((m : ℕ) (gs : Seq Frame) (vs : Seq Syntax) (s : Syntax) → IsAt mid (On m gs vs) → Stands mid.nodes id (datum_of s)
    → IsAt end (give m gs vs s))
    → IsAt end (shut n fs us q)
closes_at before mid end l ls id n [] us q h tops room left closes gives = absurd h
closes_at before mid end l ls id n (f ∷ fs) us q h tops room left closes gives =
    let c = closed_frame before mid.nodes id n f fs us q (closes f h.0) in
    let AtRun : Run → Type 0 = λ run. IsAt end run in
    let AtNodes : Seq Node → Type 0 = λ ns. HoldsLevels ns (reverse ls) fs in
    let AtLevels : Seq Level → Type 0 = λ all. HoldsLevels mid.nodes (reverse all) fs in
    let holds : Holds mid (suc n) fs us =
    record {
      levels = subst AtLevels (sym left) (subst AtNodes (sym c.builds.whole) (levels_grown before c.builds.more (reverse ls) fs h.1));
      tops = all_grown before mid.nodes c.builds.more mid.tops (data_of us) c.builds.whole tops;
      room = omega (arith, room, ap length left);
    } in
    subst AtRun (sym c.same) (gives (suc n) fs us c.tree holds c.builds.stands)

pub closes : (r mid end : Reading) (l : Level) (ls : Seq Level) (id n : ℕ) (fs : Seq Frame) (us : Seq Syntax) (q : Pos)
    → IsAt r (On n fs us) → r.levels.items ≡ ls ++ l ∷ [] → mid.levels.items ≡ ls → mid.tops ≡ r.tops
    → ((f : Frame) → HoldsLevel r.nodes l f → Closes r.nodes mid.nodes (Some id) f)
    → ((m : ℕ) (gs : Seq Frame) (vs : Seq Syntax) (s : Syntax) → IsAt mid (On m gs vs) → Stands mid.nodes id (datum_of s)
    → IsAt end (give m gs vs s))
    → IsAt end (shut n fs us q)
closes r mid end l ls id n fs us q h popped left kept closed gives =
    let P : Seq Level → Type 0 = λ all. HoldsLevels r.nodes all fs in
    let Q : Seq ℕ → Type 0 = λ ids. StandAll r.nodes ids (data_of us) in
    closes_at r.nodes mid end l ls id n fs us q (subst P (last_first r.levels.items ls l popped) h.levels)
    (subst Q (sym kept) h.tops) (omega (arith, h.room, one_longer r.levels.items ls l popped)) left closed gives

first_level : (nodes : Seq Node) (l : Level) (ls : Seq Level) (fs : Seq Frame) → HoldsLevels nodes (l ∷ ls) fs
    → IsLevel nodes l
first_level nodes l ls [] h = absurd h
first_level nodes l ls (f ∷ fs) h = (f, h.0)

pub last_level : (r : Reading) (l : Level) (ls : Seq Level) → IsReading r → r.levels.items ≡ ls ++ l ∷ []
    → IsLevel r.nodes l
last_level r l ls h popped =
    let P : Seq Level → Type 0 = λ all. HoldsLevels r.nodes all h.frames in
    first_level r.nodes l (reverse ls) h.frames (subst P (last_first r.levels.items ls l popped) h.holds.levels)
