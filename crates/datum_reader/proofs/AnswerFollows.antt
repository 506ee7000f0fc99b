-- What is left of a text, and what is answered at its end or at its fault.
use Rattle.std.proofs.Common.{◌≡◌, ℕ, ◌≤◌, List as Seq, [], ◌∷◌, length, Option, Some, None, Result, Ok, Err, inl, inr, refl, sym, ap, subst, ◌∙◌}
use Rattle.scheme_base.specs.declared.pos.Pos.{Pos}
use Rattle.datum_form.specs.declared.datums.Datums.{Datums}
use Rattle.datum_form.specs.Data.{Items, data_of}
use Rattle.datum_form.specs.declared.token.Token.{Token}
use Rattle.datum_form.specs.Syntax.{Syntax, place_of}
use Rattle.datum_form.specs.Text.{Ending, Lexed, lexed}
use Rattle.datum_form.specs.Text.Ending.{Clean}
use Rattle.datum_reader.specs.declared.error.ReadErr.{ReadErr}
use Rattle.datum_reader.specs.declared.error.ReadErr.TheVariants.{Unclosed, Stray, BadToken, NumberRange, TooDeep, TooLong, NoMemory}
use Rattle.datum_reader.specs.declared.lexer.Next.{Next}
use Rattle.datum_reader.specs.declared.lexer.Next.TheVariants.{Token as NextToken}
use Rattle.datum_reader.specs.declared.lexer.Spot.{Spot}
use Rattle.datum_reader.specs.declared.reading.Reading.{Reading}
use Rattle.datum_reader.specs.declared.reading.Taken.{Taken}
use Rattle.datum_reader.specs.Answer.{max_length, max_depth, Reads, ReadFault, Answers, AreData, OrNoMemory}
use Rattle.datum_reader.specs.Lexing.{Scans, lexed_at, token_then, ends}
use Rattle.datum_reader.specs.Machine.{Frame, Run, step, run, start}
use Rattle.datum_reader.specs.Machine.Run.{On, Stray as StrayRun, Deep as DeepRun}
use Rattle.datum_reader.specs.Reading.{Follows, Holds, IsAt, IsReading, Finishes}
use Rattle.datum_reader.proofs.WholeTreesAreRead.{text_run}
use Rattle.datum_reader.proofs.OneAnswer.{scanned, told, short_told, answered, data_told, some_answer, none_or_some, some_same, same_data, same_fault, data_or_fault}

-- what is told of a reading and what is left
abbrev pub told_left : Run → Lexed → Option ReadErr
told_left r lex = told (run r lex.tokens) lex.ending

-- The answer to a text that is not too long

pub fault_read : (text : Seq ℕ) (e : ReadErr) → length text ≤ max_length
    → told_left (start max_depth) (lexed text) ≡ Some e → ReadFault text e
fault_read text e short h =
    elim (some_answer text) [
      | inl d ↦ absurd (none_or_some e (sym (data_told text d.0 d.1) ∙ short_told text (Some e) short h))
      | inr f ↦
          let P : ReadErr → Type 0 = λ x. ReadFault text x in
          subst P (some_same f.0 e (sym (answered text f.0 f.1) ∙ short_told text (Some e) short h)) f.1
    ]

same_trees : (n m : ℕ) (us vs : Seq Syntax) → On n [] us ≡ On m [] vs → us ≡ vs
same_trees n m us vs e = cc

pub data_read : (text : Seq ℕ) (n : ℕ) (us : Seq Syntax) → length text ≤ max_length
    → run (start max_depth) (lexed text).tokens ≡ On n [] us → (lexed text).ending ≡ Clean → Reads text (data_of us)
data_read text n us short same clean =
    elim (some_answer text) [
      | inl d ↦
          let P : Items → Type 0 = λ x. Reads text x in
          let s = scanned text d.0 d.1 in
          let trees = same_trees max_depth n s.trees us (sym (text_run max_depth (lexed text).tokens s.trees s.is_text) ∙ same) in
          subst P (s.read ∙ ap data_of trees) d.1
      | inr f ↦
          let none : told_left (start max_depth) (lexed text) ≡ None =
          ap (λ r. told r (lexed text).ending) same ∙ ap (told (On n [] us)) clean in
          absurd (none_or_some f.0 (sym (short_told text None short none) ∙ answered text f.0 f.1))
    ]

pub finished : (text : Seq ℕ) (answer : Result Datums ReadErr) (n : ℕ) (fs : Seq Frame) (us : Seq Syntax)
    → length text ≤ max_length → run (start max_depth) (lexed text).tokens ≡ On n fs us
    → (lexed text).ending ≡ Clean → Finishes answer fs us → Answers text answer
finished text (Ok datums) n fs us short same clean h =
    (data_of us, data_read text n us short (same ∙ ap (λ gs. On n gs us) h.0) clean, h.1)
finished text (Err (Unclosed p)) n [] us short same clean h = absurd h
finished text (Err (Unclosed p)) n (f ∷ fs) us short same clean h =
    fault_read text (Unclosed p) short
    (ap (λ r. told r (lexed text).ending) same
    ∙ (ap (told (On n (f ∷ fs) us)) clean ∙ ap (λ q. Some (Unclosed q)) (sym h)))
finished text (Err (Stray p)) n fs us short same clean h = absurd h
finished text (Err (BadToken p)) n fs us short same clean h = absurd h
finished text (Err (NumberRange p)) n fs us short same clean h = absurd h
finished text (Err (TooDeep p)) n fs us short same clean h = absurd h
finished text (Err (TooLong k)) n fs us short same clean h = absurd h
finished text (Err NoMemory) n fs us short same clean h = tt

-- What is left

-- the reading of what is left ends as the reading of the text does
pub record Pending (lex : Lexed) (reading : Reading) (spot : Spot) : Type 0 where
  pub state : IsReading reading
  pub same : run (start max_depth) lex.tokens ≡ run (On state.room state.frames state.trees) (lexed_at spot).tokens
  pub ending : lex.ending ≡ (lexed_at spot).ending

pub told_then : (lex rest : Lexed) (reading : Reading) (spot : Spot) (p : Pending lex reading spot)
    → lexed_at spot ≡ rest → told_left (start max_depth) lex ≡ told_left (On p.state.room p.state.frames p.state.trees) rest
told_then lex rest reading spot p e =
    let now : Run = On p.state.room p.state.frames p.state.trees in
    ap (λ r. told r lex.ending) p.same
    ∙ (ap (told (run now (lexed_at spot).tokens)) p.ending ∙ ap (told_left now) e)

abbrev tokens : Lexed → Seq Token
tokens lex = lex.tokens

-- a reader that is in a state of this machine
record Stands (reading : Reading) (r : Run) : Type 0 where
  state : IsReading reading
  is : r ≡ On state.room state.frames state.trees

stands : (reading : Reading) (r : Run) → IsAt reading r → Stands reading r
stands reading (On n fs us) h = record { state = record { room = n; frames = fs; trees = us; holds = h }; is = refl }
stands reading (StrayRun p) h = absurd h
stands reading (DeepRun p) h = absurd h

pub goes_on : (lex : Lexed) (reading next : Reading) (spot after : Spot) (t : Token) (p : Pending lex reading spot)
    → lexed_at spot ≡ token_then t (lexed_at after) → IsAt next (step p.state.room p.state.frames p.state.trees t)
    → Pending lex next after
goes_on lex reading next spot after t p e at =
    let g = stands next (step p.state.room p.state.frames p.state.trees t) at in
    let left : Seq Token = (lexed_at after).tokens in
    record {
      state = g.state;
      same =
          p.same
          ∙ (ap (λ l. run (On p.state.room p.state.frames p.state.trees) (tokens l)) e ∙ ap (λ r. run r left) g.is);
      ending = p.ending ∙ ap (λ l. l.ending) e;
    }

-- where no token comes any more, the answer is what this end tells
pub stop_read : (text : Seq ℕ) (reading : Reading) (spot : Spot) (end : Ending) (e : ReadErr) {x y : Next}
    (p : Pending (lexed text) reading spot) → length text ≤ max_length → Scans spot x → x ≡ y
    → (Scans spot y → lexed_at spot ≡ ends end)
    → told_left (On p.state.room p.state.frames p.state.trees) (ends end) ≡ Some e → ReadFault text e
stop_read text reading spot end e p short scans is at tells =
    fault_read text e short
    (told_then (lexed text) (ends end) reading spot p (at (subst (Scans spot) is scans)) ∙ tells)

-- and where a token is refused, what the machine tells of it
pub refused_read : (text : Seq ℕ) (reading next : Reading) (spot after : Spot) (t : Token) (e : Pos → ReadErr)
    (stops : Pos → Run) (q : Pos) {x : Next} {u v : Taken} (p : Pending (lexed text) reading spot)
    → length text ≤ max_length → Scans spot x → x ≡ NextToken t after → q ≡ place_of t → u ≡ v
    → ((n : ℕ) (fs : Seq Frame) (us : Seq Syntax) → Holds reading n fs us → Follows u next (place_of t) (step n fs us t))
    → ((r : Run) → Follows v next (place_of t) r → r ≡ stops (place_of t))
    → told_left (stops (place_of t)) (lexed_at after) ≡ Some (e (place_of t)) → ReadFault text (e q)
refused_read text reading next spot after t e stops q p short scans is place taken follows at tells =
    let s = p.state in
    let end : Run = step s.room s.frames s.trees t in
    let F : Taken → Type 0 = λ w. Follows w next (place_of t) end in
    let P : Pos → Type 0 = λ r. ReadFault text (e r) in
    subst P (sym place)
    (fault_read text (e (place_of t)) short
    (told_then (lexed text) (token_then t (lexed_at after)) reading spot p (subst (Scans spot) is scans)
    ∙ (ap (λ r. told_left r (lexed_at after)) (at end (subst F taken (follows s.room s.frames s.trees s.holds)))
    ∙ tells)))

pub all_read : (text : Seq ℕ) (answer : Result Datums ReadErr) (reading : Reading) (spot : Spot)
    (p : Pending (lexed text) reading spot) → length text ≤ max_length → lexed_at spot ≡ ends Clean
    → Finishes answer p.state.frames p.state.trees → Answers text answer
all_read text answer reading spot p short e h =
    finished text answer p.state.room p.state.frames p.state.trees short
    (p.same ∙ ap (λ l. run (On p.state.room p.state.frames p.state.trees) (tokens l)) e) (p.ending ∙ ap (λ l. l.ending) e) h

-- Whatever the answer is, it is the only one

pub only_data : (text : Seq ℕ) (answer : Result Datums ReadErr) (d : Items) → Answers text answer → Reads text d
    → OrNoMemory (AreData d) answer
only_data text (Ok datums) d h reads =
    let P : Items → Type 0 = λ x. AreData x (Ok datums) in
    inl (subst P (same_data text h.0 d h.1 reads) h.2)
only_data text (Err (Unclosed p)) d h reads = absurd (data_or_fault text d (Unclosed p) reads h)
only_data text (Err (Stray p)) d h reads = absurd (data_or_fault text d (Stray p) reads h)
only_data text (Err (BadToken p)) d h reads = absurd (data_or_fault text d (BadToken p) reads h)
only_data text (Err (NumberRange p)) d h reads = absurd (data_or_fault text d (NumberRange p) reads h)
only_data text (Err (TooDeep p)) d h reads = absurd (data_or_fault text d (TooDeep p) reads h)
only_data text (Err (TooLong k)) d h reads = absurd (data_or_fault text d (TooLong k) reads h)
only_data text (Err NoMemory) d h reads = inr refl

abbrev Is : ReadErr → Result Datums ReadErr → Type 0
Is e answer = answer ≡ Err e

pub only_fault : (text : Seq ℕ) (answer : Result Datums ReadErr) (e : ReadErr) → Answers text answer
    → ReadFault text e → OrNoMemory (Is e) answer
only_fault text (Ok datums) e h fault = absurd (data_or_fault text h.0 e h.1 fault)
only_fault text (Err (Unclosed p)) e h fault = inl (ap Err (same_fault text (Unclosed p) e h fault))
only_fault text (Err (Stray p)) e h fault = inl (ap Err (same_fault text (Stray p) e h fault))
only_fault text (Err (BadToken p)) e h fault = inl (ap Err (same_fault text (BadToken p) e h fault))
only_fault text (Err (NumberRange p)) e h fault = inl (ap Err (same_fault text (NumberRange p) e h fault))
only_fault text (Err (TooDeep p)) e h fault = inl (ap Err (same_fault text (TooDeep p) e h fault))
only_fault text (Err (TooLong k)) e h fault = inl (ap Err (same_fault text (TooLong k) e h fault))
only_fault text (Err NoMemory) e h fault = inr refl
