-- What the compiler answers: the analysis and the file of a program, or why there is none.
use Rattle.std.specs.Prelude.{◌≡◌, ℕ, ◌<◌, ◌≤◌, ◌^◌, List, [], ◌∷◌, ◌⊎◌, map, length, Some, None}
use Rattle.std.specs.List.{range_with_len}
use Rattle.scheme_base.specs.declared.error.LimitErr.{LimitErr}
use Rattle.scheme_base.specs.declared.error.LimitErr.TheVariants as limited
use Rattle.scheme_base.specs.declared.limit.Limit.{Limit}
use Rattle.scheme_base.specs.declared.limit.LimitKind.TheVariants as kind
use Rattle.scheme_base.specs.declared.lit.Lit.{Lit}
use Rattle.core_form.specs.declared.program.Program.{Program}
use Rattle.scheme_base.specs.declared.pos.Pos.{Pos}
use Rattle.core_form.specs.declared.program.Var.{Var}
use Rattle.core_form.specs.Trees.{Holds, Trees}
use Rattle.alpha_core.specs.Answers.{most}
use Rattle.alpha_core.specs.Depth.{deepest}
use Rattle.alpha_core.specs.Renaming.{all_renamed}
use Rattle.box_name.specs.Told.{all_told}
use Rattle.box_name.specs.Whole.{named as named_form}
use Rattle.datum_form.specs.Data.{Items}
use Rattle.datum_form.specs.declared.error.FormErr.{FormErr}
use Rattle.datum_form.specs.declared.error.FormErr.TheVariants as broken
use Rattle.datum_reader.specs.Answer.{Reads, ReadFault}
use Rattle.datum_reader.specs.declared.error.ReadErr.{ReadErr}
use Rattle.datum_reader.specs.declared.error.ReadErr.TheVariants as fault
use Rattle.scheme_expand.specs.Programs.{Expands, FormFault}
use Rattle.elf_write.specs.File.{file_of}
use Rattle.elf_write.specs.Valid.{IsValid}
use Rattle.rv_form.specs.declared.image.Image.{Image}
use Rattle.named_form.specs.Code.{program}
use Rattle.named_form.specs.Valid.{Form as NamedForm, WellFormed}
use Rattle.named_form.specs.Written.{form}
use Rattle.named_form.specs.declared.plan.Plan.{Plan}
use Rattle.named_form.specs.declared.program.Named.{Named}
use Rattle.flow_form.specs.declared.constraints.Constraints.{Constraints}
use Rattle.flow_form.specs.Shape.{HoldsLeast, IsMadeOf}
use Rattle.flow_form.specs.declared.rows.Rows.{Rows}
use Rattle.flow_constraints.specs.Limits.{atom_count, passed, row_count}
use Rattle.flow_constraints.specs.Listed.{rules_of}
use Rattle.flow_workers.specs.Rounds.{IsSolved}
use Rattle.flat_form.specs.FlatWritten.{form as flat_form_of}
use Rattle.flat_form.specs.declared.program.Flat.{Flat}
use Rattle.closure_conv.specs.FlatOf.{flat_of}
use Rattle.const_data.specs.Words.{data_words, offsets_of}
use Rattle.const_data.specs.declared.offsets.Offsets.{Offsets}
use Rattle.const_data.specs.declared.word.Word.{Word}
use Rattle.rv_asm.specs.declared.item.AsmItem.{AsmItem}
use Rattle.rv_asm.specs.Layout.{image_of, image_size, cut}
use Rattle.image_support.specs.Text.{text as routines}
use Rattle.tail_codegen.specs.Written.{code_of}
use Rattle.image_build.specs.Planned.{Plans}
use Rattle.image_build.specs.declared.analysis.Analysis.{Analysis}
use Rattle.image_build.specs.declared.error.BuildErr.{BuildErr}
use Rattle.image_build.specs.declared.error.BuildErr.TheVariants.{Read, Form, Limit as Passed, NoMemory}

-- What each pass's refusal is told as

abbrev pub told_read : ReadErr → BuildErr
told_read (fault.TooLong n) = Passed (record { which = kind.Source; count = n })
told_read (fault.TooDeep p) = Passed (record { which = kind.Nesting; count = 1001 })
told_read fault.NoMemory = NoMemory
told_read e = Read e

abbrev pub told_form : FormErr → BuildErr
told_form broken.NoMemory = NoMemory
told_form e = Form e

abbrev pub told_limit : LimitErr → BuildErr
told_limit (limited.Limit l) = Passed l
told_limit limited.NoMemory = NoMemory

-- What is built

-- These are the core of the program that a text is, and its forms.
pub record HasCore (source : List ℕ) (core : Program Var) (forms : Trees Var) : Type 0 where
  -- the text reads as these data
  pub ds : Items
  pub reads : Reads source ds
  -- no form of them is broken, and this is what they are expanded to
  pub expands : Expands ds core
  pub holds : Holds core forms

-- the named form of the program in core forms with these forms and literals: its local variables have numbers
abbrev pub form_of : Trees Var → List Lit → NamedForm
form_of forms lits = named_form (all_told lits (all_renamed [] 0 forms)) lits

-- The named form of the program that a text is: that of its core, which is not too deep.
pub record IsNamed (source : List ℕ) (named : Named) : Type 0 where
  pub core : Program Var
  pub forms : Trees Var
  pub has_core : HasCore source core forms
  pub shallow : deepest forms ≤ most
  pub is : form named ≡ form_of forms core.lits
  pub well_formed : WellFormed (form named)

-- the constraints of a program: those that its rows, its atoms and the list of its rules make
pub record IsRuled (named : Named) (constraints : Constraints) : Type 0 where
  pub made : IsMadeOf constraints (row_count (form named)) (atom_count (form named)) (rules_of (form named))
  -- it passes no limit of the analysis
  pub few : passed (form named) ≡ None

-- The analysis of the program that a text is: its constraints, and their least solution.
pub record IsAnalysed (source : List ℕ) (analysis : Analysis) : Type 0 where
  pub is_named : IsNamed source analysis.named
  pub ruled : IsRuled analysis.named analysis.constraints
  pub solved : IsSolved analysis.constraints analysis.closed

-- the storage plan of a named program, by the least solution of its constraints
pub record IsPlanned (named : Named) (plan : Plan) : Type 0 where
  pub constraints : Constraints
  pub ruled : IsRuled named constraints
  pub rows : Rows
  pub least : HoldsLeast constraints rows
  pub plans : Plans (form named) rows plan

-- the flat program of a named one under its storage plan
pub record IsFlat (named : Named) (flat : Flat) : Type 0 where
  pub plan : Plan
  pub is_planned : IsPlanned named plan
  pub is : flat_form_of flat ≡ flat_of plan named.tops (program (form named).procs (form named).lits)

abbrev pub Pieces : Type 0
Pieces = List (List AsmItem)

-- the code of so many procedures of a flat program, whose data words stand at these offsets, from one on
abbrev pub codes_from : Flat → Offsets → (first count : ℕ) → Pieces
codes_from flat offsets first count = map (code_of flat offsets) (range_with_len first count)

-- the text of a program: the routines, then the code of each procedure in their order
abbrev pub text_with : Flat → Offsets → Pieces
text_with flat offsets = routines ∷ codes_from flat offsets 0 (length flat.procs)

abbrev pub text_of : Flat → Pieces
text_of flat = text_with flat (offsets_of (flat_form_of flat))

abbrev pub words_of : Flat → List Word
words_of flat = data_words (flat_form_of flat)

-- the bytes of a program's text and data
abbrev pub size_of : Flat → ℕ
size_of flat = image_size (text_of flat) (words_of flat)

-- the image of a flat program with a heap of so many bytes, which may be loaded
pub record IsImage (flat : Flat) (heap : ℕ) (image : Image) : Type 0 where
  pub small : size_of flat ≤ 2 ^ 28
  pub laid : image ≡ image_of (text_of flat) (words_of flat) heap
  pub valid : IsValid image

-- The file of the program that a text is, with a heap of so many bytes. Whoever worked on it, and how many,
-- has no part in it.
pub record Emitted (source : List ℕ) (heap : ℕ) (file : List ℕ) : Type 0 where
  pub named : Named
  pub is_named : IsNamed source named
  pub flat : Flat
  pub is_flat : IsFlat named flat
  pub image : Image
  pub is_image : IsImage flat heap image
  pub written : file ≡ file_of image

-- Why there is none

-- the core of a text is nested deeper than it may be, and so deep as the limit says
pub record IsTooDeep (source : List ℕ) (limit : Limit) : Type 0 where
  pub which : limit.which ≡ kind.Depth
  pub core : Program Var
  pub forms : Trees Var
  pub has_core : HasCore source core forms
  pub count : limit.count ≡ deepest forms
  pub deep : most < deepest forms

-- text and data of a flat program have so many bytes as the limit says, more than 2^28
pub record IsTooLarge (flat : Flat) (limit : Limit) : Type 0 where
  pub which : limit.which ≡ kind.Image
  pub large : 2 ^ 28 < size_of flat
  pub count : limit.count ≡ cut (size_of flat)

-- why the layout of a flat program has no image
abbrev pub IsUnlaid : Flat → LimitErr → Type 0
IsUnlaid flat (limited.Limit l) = IsTooLarge flat l
IsUnlaid flat limited.NoMemory = Unit {0}

-- a limit past which a text is not analysed: the depth of its core, or the first of the analysis that its program passes
abbrev pub PassesEarly : List ℕ → Limit → Type 0
PassesEarly source l = IsTooDeep source l ⊎ ((named : Named) × IsNamed source named × (passed (form named) ≡ Some l))

-- a limit past which it has no file: one of these, or that of the image
abbrev pub PassesLate : List ℕ → Limit → Type 0
PassesLate source l =
    PassesEarly source l
    ⊎ ((named : Named) × IsNamed source named × (flat : Flat) × IsFlat named flat × IsTooLarge flat l)

-- a refusal of a pass behind the expansion, of which these limits may be passed
abbrev pub IsLater : (Limit → Type 0) → BuildErr → Type 0
IsLater Passes (Read e) = ⊥
IsLater Passes (Form e) = ⊥
IsLater Passes (Passed l) = Passes l
IsLater Passes NoMemory = Unit {0}

-- a text does not read as data
abbrev pub IsUnread : List ℕ → BuildErr → Type 0
IsUnread source error = (e : ReadErr) × ReadFault source e × (error ≡ told_read e)

-- a form of the data that a text reads as is broken: the first that is, by its least rule
abbrev pub IsBroken : List ℕ → BuildErr → Type 0
IsBroken source error =
    (ds : Items) × Reads source ds × (p : Pos) × (n : ℕ) × FormFault ds p n × (error ≡ Form (broken.Broken p n))

-- why a text is refused: at the reader, at the expansion, or behind it; only want of memory has no cause
abbrev pub RefusedBy : (Limit → Type 0) → List ℕ → BuildErr → Type 0
RefusedBy Passes source error = IsUnread source error ⊎ IsBroken source error ⊎ IsLater Passes error

-- why a text has no analysis
abbrev pub Unanalysed : List ℕ → BuildErr → Type 0
Unanalysed source error = RefusedBy (PassesEarly source) source error

-- why it has no file
abbrev pub Refuses : List ℕ → (heap : ℕ) → BuildErr → Type 0
Refuses source heap error = RefusedBy (PassesLate source) source error
