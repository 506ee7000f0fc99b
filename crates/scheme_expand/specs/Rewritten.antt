-- How known calls are made: operations at once, and what is written over fresh variables that hold the operands.
use Rattle.std.specs.Prelude.{ℕ, ◌≡◌, List, map, Option, Some, None, MatchOption}
use Rattle.scheme_base.specs.declared.pos.Pos.{Pos}
use Rattle.scheme_expand.specs.declared.words.Known.{Known}
use Rattle.scheme_expand.specs.declared.words.Known.TheVariants as known
use Rattle.scheme_base.specs.declared.op.Op.{Op}
use Rattle.scheme_expand.specs.Calls.{count, negated, symbol_call, bound_first, way, references, Sums, Differs, Compares, Lists}
use Rattle.scheme_expand.specs.Making.{comparing, known_draft}
use Rattle.draft_form.specs.declared.draft.Variable.{Variable}
use Rattle.draft_form.specs.Drafts.{Draft, Drafts, Ref, Prim}
use Rattle.draft_form.specs.Drawn.{Names, name_of}

-- references to variables
abbrev pub refs : Names → Pos → List Variable → List Draft
refs names p vs = map (λ v. Ref p (name_of names v)) vs

-- what a known call does with what its operands are, where that is no operation at once
abbrev pub over : Pos → Known → List Draft → Option Draft
over p (known.Fold o n) ts = way p (Sums o n) ts
over p known.Subtract ts = way p Differs ts
over p (known.Compare c) ts = way p (Compares (comparing c)) ts
over p known.List ts = way p Lists ts
over p k ts = None

-- a known call that is no operation at once
abbrev pub rewritten : Pos → (level : ℕ) → Known → Drafts → Option Draft
rewritten p k known.Not es = negated p es
rewritten p k known.Symbols es = symbol_call p es
rewritten p k call es = bound_first p k es (over p call (references p k es))

-- a call of so many operands is this operation at once, or is rewritten
abbrev pub IsAtOnce : Option Op → Known → (many : ℕ) → Type 0
IsAtOnce o call n =
    (p : Pos) (k : ℕ) (es : Drafts) → count es ≡ n
    → MatchOption o (known_draft p k call es ≡ rewritten p k call es)
    (λ op. (d : Draft) → known_draft p k call es ≡ Some d → d ≡ Prim p op es)
