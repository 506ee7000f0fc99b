-- A text reads as one list of data, or has one fault: its length, the reading of its tokens and how they
-- end tell which.
use Rattle.std.proofs.Common.{◌≡◌, ℕ, zero, suc, ◌<◌, ◌≤◌, Bool, true, false, List, [], ◌∷◌, length, Option, Some, None, ◌⊎◌, inl, inr, refl, sym, ap, subst, ◌∙◌, arith}
use Rattle.std.specs.Prelude.{nat_lt}
use Rattle.scheme_base.specs.declared.pos.Pos.{Pos}
use Rattle.datum_form.specs.declared.token.Token.{Token}
use Rattle.datum_form.specs.Syntax.{Syntax, IsText, Begins}
use Rattle.datum_form.specs.Data.{Items, data_of}
use Rattle.datum_form.specs.Grammar.{IsSpelled}
use Rattle.datum_form.specs.Faults.{Fault as TokenFault, HasFault}
use Rattle.datum_form.specs.Faults.Fault.{IsStray, IsDeep, IsUnclosed}
use Rattle.datum_form.specs.Text.{Ending, Lexed, lexed}
use Rattle.datum_form.specs.Text.Ending.{Clean, BadAt, RangeAt, OpenAt}
use Rattle.datum_reader.specs.declared.error.ReadErr.{ReadErr}
use Rattle.datum_reader.specs.declared.error.ReadErr.TheVariants.{Unclosed, Stray, BadToken, NumberRange, TooDeep, TooLong, NoMemory}
use Rattle.datum_reader.specs.Answer.{max_length, max_depth, Reads, Breaks, Fault, ReadFault}
use Rattle.datum_reader.specs.Machine.{Frame, Run, frame_place, run, start}
use Rattle.datum_reader.specs.Machine.Run.{On, Stray as StrayRun, Deep as DeepRun}
use Rattle.datum_reader.proofs.TokensFoundAreSpelled.{tokens_lexed, lexed_tokens}
use Rattle.datum_reader.proofs.WholeTreesAreRead.{text_run, one_text}
use Rattle.datum_reader.proofs.DeeperReadsTheSame.{IsOn}
use Rattle.datum_reader.proofs.ReadingGoesOnOrFaults.{begins_on, on_begins, Shows}
use Rattle.datum_reader.proofs.OneReading.{outcome, fault_shown}

-- The fault that is told

-- of a reading and of how the tokens end
abbrev pub told : Run → Ending → Option ReadErr
told (StrayRun p) g = Some (Stray p)
told (DeepRun p) g = Some (TooDeep p)
told (On m fs tops) (BadAt p) = Some (BadToken p)
told (On m fs tops) (RangeAt p) = Some (NumberRange p)
told (On m fs tops) (OpenAt p) = Some (Unclosed p)
told (On m [] tops) Clean = None
told (On m (f ∷ fs) tops) Clean = Some (Unclosed (frame_place f))

-- of a text that is too long or not
abbrev pub told_of : Bool → ℕ → Run → Ending → Option ReadErr
told_of true n r g = Some (TooLong n)
told_of false n r g = told r g

abbrev pub reading : Lexed → Run
reading lex = run (start max_depth) lex.tokens

abbrev pub answer : List ℕ → Option ReadErr
answer text = told_of (nat_lt max_length (length text)) (length text) (reading (lexed text)) (lexed text).ending

too_long : (m n : ℕ) → m < n → nat_lt m n ≡ true
too_long m n h = grind arith

not_too_long : (m n : ℕ) → n ≤ m → nat_lt m n ≡ false
not_too_long m n h = grind arith

-- Faults of tokens

stray_run : (r : Run) (p : Pos) → Shows r (IsStray p) → r ≡ StrayRun p
stray_run (On m [] tops) p h = absurd h
stray_run (On m (f ∷ fs) tops) p h = absurd (cc)
stray_run (StrayRun q) p h = cc
stray_run (DeepRun q) p h = absurd (cc)

deep_run : (r : Run) (p : Pos) → Shows r (IsDeep p) → r ≡ DeepRun p
deep_run (On m [] tops) p h = absurd h
deep_run (On m (f ∷ fs) tops) p h = absurd (cc)
deep_run (StrayRun q) p h = absurd (cc)
deep_run (DeepRun q) p h = cc

unclosed_told : (r : Run) (p : Pos) → Shows r (IsUnclosed p) → told r Clean ≡ Some (Unclosed p)
unclosed_told (On m [] tops) p h = absurd h
unclosed_told (On m (f ∷ fs) tops) p h = cc
unclosed_told (StrayRun q) p h = absurd (cc)
unclosed_told (DeepRun q) p h = absurd (cc)

-- Each fault is told

on_told : (r : Run) (g : Ending) (e : ReadErr) → IsOn r
    → ((m : ℕ) (fs : List Frame) (tops : List Syntax) → told (On m fs tops) g ≡ Some e) → told r g ≡ Some e
on_told (On m fs tops) g e h f = f m fs tops
on_told (StrayRun p) g e h f = absurd h
on_told (DeepRun p) g e h f = absurd h

breaks_told : (lex : Lexed) (g : Ending) (e : ReadErr) → Breaks lex g
    → ((m : ℕ) (fs : List Frame) (tops : List Syntax) → told (On m fs tops) g ≡ Some e)
    → told (reading lex) lex.ending ≡ Some e
breaks_told lex g e h f =
    ap (told (reading lex)) h.is ∙ on_told (reading lex) g e (begins_on max_depth lex.tokens h.begins) f

fault_told : (lex : Lexed) (e : ReadErr) → Fault lex e → told (reading lex) lex.ending ≡ Some e
fault_told lex (Stray p) h =
    ap (λ r. told r lex.ending) (stray_run (reading lex) p (fault_shown max_depth lex.tokens (IsStray p) h))
fault_told lex (TooDeep p) h =
    ap (λ r. told r lex.ending) (deep_run (reading lex) p (fault_shown max_depth lex.tokens (IsDeep p) h))
fault_told lex (BadToken p) h = breaks_told lex (BadAt p) (BadToken p) h (λ m fs tops. refl)
fault_told lex (NumberRange p) h = breaks_told lex (RangeAt p) (NumberRange p) h (λ m fs tops. refl)
fault_told lex (Unclosed p) h =
    elim h [
      | inl inside ↦
          ap (told (reading lex)) inside.clean
          ∙ unclosed_told (reading lex) p (fault_shown max_depth lex.tokens (IsUnclosed p) inside.unclosed)
      | inr breaks ↦ breaks_told lex (OpenAt p) (Unclosed p) breaks (λ m fs tops. refl)
    ]
fault_told lex (TooLong n) h = absurd h
fault_told lex NoMemory h = absurd h

pub short_told : (text : List ℕ) (o : Option ReadErr) → length text ≤ max_length
    → told (reading (lexed text)) (lexed text).ending ≡ o → answer text ≡ o
short_told text o short e =
    ap (λ b. told_of b (length text) (reading (lexed text)) (lexed text).ending)
    (not_too_long max_length (length text) short)
    ∙ e

pub answered : (text : List ℕ) (e : ReadErr) → ReadFault text e → answer text ≡ Some e
answered text (TooLong n) h =
    ap (λ b. told_of b (length text) (reading (lexed text)) (lexed text).ending)
    (too_long max_length (length text) h.0)
    ∙ ap (λ k. Some (TooLong k)) (sym h.1)
answered text (Stray p) h = short_told text (Some (Stray p)) h.0 (fault_told (lexed text) (Stray p) h.1)
answered text (TooDeep p) h = short_told text (Some (TooDeep p)) h.0 (fault_told (lexed text) (TooDeep p) h.1)
answered text (BadToken p) h = short_told text (Some (BadToken p)) h.0 (fault_told (lexed text) (BadToken p) h.1)
answered text (NumberRange p) h =
    short_told text (Some (NumberRange p)) h.0 (fault_told (lexed text) (NumberRange p) h.1)
answered text (Unclosed p) h = short_told text (Some (Unclosed p)) h.0 (fault_told (lexed text) (Unclosed p) h.1)
answered text NoMemory h = absurd h.1

-- Data are where no fault is told

-- a text reads as these data, by its first tokens
pub record Scanned (text : List ℕ) (d : Items) : Type 0 where
  pub clean : (lexed text).ending ≡ Clean
  pub trees : List Syntax
  pub is_text : IsText max_depth (lexed text).tokens trees
  pub read : d ≡ data_of trees

pub scanned : (text : List ℕ) (d : Items) → Reads text d → Scanned text d
scanned text d h =
    let e = tokens_lexed (record { line = 1; col = 1 }) text h.tokens h.spelled in
    let P : List Token → Type 0 = λ ts. IsText max_depth ts h.trees in
    record {
      clean = ap (λ l. l.ending) e;
      trees = h.trees;
      is_text = subst P (sym (ap (λ l. l.tokens) e)) h.is_text;
      read = h.read;
    }

spelled : (text : List ℕ) (ts : List Token) (g : Ending) → lexed text ≡ record { tokens = ts; ending = g } → g ≡ Clean
    → IsSpelled text ts
spelled text ts g e clean =
    lexed_tokens (record { line = 1; col = 1 }) text ts (e ∙ ap (λ x. record { tokens = ts; ending = x }) clean)

pub reads_of : (text : List ℕ) (d : Items) → length text ≤ max_length → Scanned text d → Reads text d
reads_of text d short h =
    record {
      short = short;
      tokens = (lexed text).tokens;
      spelled = spelled text (lexed text).tokens (lexed text).ending refl h.clean;
      trees = h.trees;
      is_text = h.is_text;
      read = h.read;
    }

pub data_told : (text : List ℕ) (d : Items) → Reads text d → answer text ≡ None
data_told text d h =
    let s = scanned text d h in
    short_told text None h.short
    (ap (told (reading (lexed text))) s.clean
    ∙ ap (λ r. told r Clean) (text_run max_depth (lexed text).tokens s.trees s.is_text))

pub some_same : (d e : ReadErr) → Some d ≡ Some e → d ≡ e
some_same d e h = cc

pub none_or_some : (e : ReadErr) → None ≡ Some e → ⊥
none_or_some e h = cc

pub same_data : (text : List ℕ) (d e : Items) → Reads text d → Reads text e → d ≡ e
same_data text d e h k =
    let s = scanned text d h in
    let r = scanned text e k in
    s.read
    ∙ (ap data_of (one_text max_depth (lexed text).tokens s.trees r.trees s.is_text r.is_text) ∙ sym r.read)

pub same_fault : (text : List ℕ) (d e : ReadErr) → ReadFault text d → ReadFault text e → d ≡ e
same_fault text d e h k = some_same d e (sym (answered text d h) ∙ answered text e k)

pub data_or_fault : (text : List ℕ) (d : Items) (e : ReadErr) → Reads text d → ReadFault text e → ⊥
data_or_fault text d e h k = none_or_some e (sym (data_told text d h) ∙ answered text e k)

-- There is an answer

abbrev pub Answered : List ℕ → Type 0
Answered text = ((d : Items) × Reads text d) ⊎ ((e : ReadErr) × ReadFault text e)

-- a text whose tokens begin a text, by how they end
broken : (text : List ℕ) (g : Ending) → (lexed text).ending ≡ g → length text ≤ max_length
    → Begins max_depth (lexed text).tokens → (g ≡ Clean → Answered text) → Answered text
broken text Clean e short begins clean = clean refl
broken text (BadAt p) e short begins clean = inr (BadToken p, (short, record { begins = begins; is = e }))
broken text (RangeAt p) e short begins clean = inr (NumberRange p, (short, record { begins = begins; is = e }))
broken text (OpenAt p) e short begins clean = inr (Unclosed p, (short, inr (record { begins = begins; is = e })))

text_begins : (n : ℕ) (ts : List Token) (ss : List Syntax) → IsText n ts ss → Begins n ts
text_begins n ts ss text =
    let P : Run → Type 0 = λ r. IsOn r in
    on_begins n ts (subst P (sym (text_run n ts ss text)) tt)

tokens_answered : (text : List ℕ) (d : TokenFault) → HasFault max_depth (lexed text).tokens d
    → length text ≤ max_length → Answered text
tokens_answered text (IsStray p) h short = inr (Stray p, (short, h))
tokens_answered text (IsDeep p) h short = inr (TooDeep p, (short, h))
tokens_answered text (IsUnclosed p) h short =
    broken text (lexed text).ending refl short h.begins
    (λ clean. inr (Unclosed p, (short, inl (record { clean = clean; unclosed = h }))))

short_answered : (text : List ℕ) → length text ≤ max_length → Answered text
short_answered text short =
    elim (outcome max_depth (lexed text).tokens) [
      | inl t ↦
          broken text (lexed text).ending refl short (text_begins max_depth (lexed text).tokens t.0 t.1)
          (λ clean.
          inl (
            data_of t.0,
            reads_of text (data_of t.0) short (record { clean = clean; trees = t.0; is_text = t.1; read = refl }),
          ))
      | inr f ↦ tokens_answered text f.0 f.1 short
    ]

le_or_lt : (m n : ℕ) → (m ≤ n) ⊎ (n < m)
le_or_lt zero n = inl (omega arith)
le_or_lt (suc m) zero = inr (omega arith)
le_or_lt (suc m) (suc n) = elim (le_or_lt m n) [ inl h ↦ inl (omega (arith, h)) | inr h ↦ inr (omega (arith, h)) ]

pub some_answer : (text : List ℕ) → Answered text
some_answer text =
    elim (le_or_lt (length text) max_length) [
      | inl short ↦ short_answered text short
      | inr long ↦ inr (TooLong (length text), (long, refl))
    ]
