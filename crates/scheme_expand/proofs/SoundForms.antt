-- Forms that are sound: nothing in them is broken, their words are names of R4RS, and what they bind differs.
use Rattle.std.proofs.Common.{◌≡◌, List, [], ◌∷◌, true, bytes_eq}
use Rattle.std.specs.List.{IsDistinct}
use Rattle.scheme_base.specs.Constants.{Constant}
use Rattle.scheme_expand.proofs.OfData.{IsOfData}
use Rattle.scheme_expand.specs.Forms.{Word, Exp, Exps, Bindings, Body, Clauses, Cases, Steps, Template, Forms, Wrong, Value, Variable, Application, Procedure, OneArmed, TwoArmed, Assignment, Cond, Case, And, Or, Let, LetStar, Letrec, Begin, Do, Named, Quasi, no_exp, exp, no_binding, binding, broken, Of, no_clause, otherwise, value, clause, passing, no_case, others, one_of, no_step, fixed, stepped, Plain, Unquoted, Spliced, Pair, Vector, no_form, evaluated, defining}
use Rattle.scheme_expand.specs.Grammar.{and_rest, bound_words, step_words}
use Rattle.scheme_expand.specs.Rewriting.{names}
use Rattle.scheme_expand.proofs.GoodDrafts.{is_source, AreSources}

abbrev pub EachOfData : List Constant → Type 0
EachOfData [] = Unit {0}
EachOfData (c ∷ cs) = IsOfData c × EachOfData cs

-- the names of these words differ
abbrev pub Differ : List Word → Type 0
Differ ws = IsDistinct bytes_eq (names ws)

abbrev pub HasExp : Exps → Type 0
HasExp no_exp = ⊥
HasExp (exp e es) = Unit {0}

abbrev mutual
  pub Sound : Exp → Type 0
  Sound (Wrong p n) = ⊥
  Sound (Value p c) = IsOfData c
  Sound (Variable w) = is_source w.name ≡ true
  Sound (Application p e es) = Sound e × AllSound es
  Sound (Procedure p ws r b) = AreSources (names (and_rest ws r)) × Differ (and_rest ws r) × SoundBody b
  Sound (OneArmed p test this) = Sound test × Sound this
  Sound (TwoArmed p test this that) = Sound test × Sound this × Sound that
  Sound (Assignment p w e) = (is_source w.name ≡ true) × Sound e
  Sound (Cond p cs) = SoundClauses cs
  Sound (Case p e cs) = Sound e × SoundCases cs
  Sound (And p es) = AllSound es
  Sound (Or p es) = AllSound es
  Sound (Let p bs b) = SoundBindings bs × Differ (bound_words bs) × SoundBody b
  Sound (LetStar p bs b) = SoundBindings bs × SoundBody b
  Sound (Letrec p bs b) = SoundBindings bs × Differ (bound_words bs) × SoundBody b
  Sound (Begin p es) = HasExp es × AllSound es
  Sound (Do p ss test results commands) =
      SoundSteps ss × Differ (step_words ss) × Sound test × AllSound results × AllSound commands
  Sound (Named p w bs b) = (is_source w.name ≡ true) × SoundBindings bs × Differ (bound_words bs) × SoundBody b
  Sound (Quasi p t) = SoundTemplate t

  pub AllSound : Exps → Type 0
  AllSound no_exp = Unit {0}
  AllSound (exp e es) = Sound e × AllSound es

  pub SoundBindings : Bindings → Type 0
  SoundBindings no_binding = Unit {0}
  SoundBindings (binding p w e bs) = (is_source w.name ≡ true) × Sound e × SoundBindings bs
  SoundBindings (broken p n bs) = ⊥

  pub SoundBody : Body → Type 0
  SoundBody (Of bs es) = SoundBindings bs × Differ (bound_words bs) × HasExp es × AllSound es

  pub SoundClauses : Clauses → Type 0
  SoundClauses no_clause = Unit {0}
  SoundClauses (otherwise es) = HasExp es × AllSound es
  SoundClauses (value test cs) = Sound test × SoundClauses cs
  SoundClauses (clause test es cs) = Sound test × HasExp es × AllSound es × SoundClauses cs
  SoundClauses (passing test e cs) = Sound test × Sound e × SoundClauses cs

  pub SoundCases : Cases → Type 0
  SoundCases no_case = Unit {0}
  SoundCases (others es) = HasExp es × AllSound es
  SoundCases (one_of constants es cs) = EachOfData constants × HasExp es × AllSound es × SoundCases cs

  pub SoundSteps : Steps → Type 0
  SoundSteps no_step = Unit {0}
  SoundSteps (fixed w e ss) = (is_source w.name ≡ true) × Sound e × SoundSteps ss
  SoundSteps (stepped w e f ss) = (is_source w.name ≡ true) × Sound e × Sound f × SoundSteps ss

  pub SoundTemplate : Template → Type 0
  SoundTemplate (Plain c) = IsOfData c
  SoundTemplate (Unquoted e) = Sound e
  SoundTemplate (Spliced e rest) = Sound e × SoundTemplate rest
  SoundTemplate (Pair s t) = SoundTemplate s × SoundTemplate t
  SoundTemplate (Vector t) = SoundTemplate t

abbrev pub SoundForms : Forms → Type 0
SoundForms no_form = Unit {0}
SoundForms (evaluated e fs) = Sound e × SoundForms fs
SoundForms (defining bs fs) = SoundBindings bs × SoundForms fs
