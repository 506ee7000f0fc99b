-- The grammar of a command's words, and what they say.
--
-- Words are counted from 1, without the program's own name. Word 1 names the command. A later word that
-- begins with `--` is an option, and the next word is its value, whatever it begins with; all other words
-- are operands, in order. The first broken word from the left is told; a word that is missing has the
-- number that the next one would have.
use Rattle.std.specs.Prelude.{ℕ, ◌+◌, ◌%◌, ◌^◌, Bool, true, false, not, ◌&&◌, leb, is_some, if◌then◌else◌, List, [], ◌∷◌, ◌++◌, length, slice_get, Option, Some, None, Result, Ok, Err, codes, decimal, nat_eq, unwrap_or}
use Rattle.std.specs.List.{starts_with}
use Rattle.std.specs.Option.{option_map}
use Rattle.std.specs.Str.{bytes_eq}
use Rattle.std.specs.Str.Parse.{digits_value}
use Rattle.stalin_top.specs.declared.shape.Operand.{Operand}
use Rattle.stalin_top.specs.declared.shape.Operand.TheVariants.{File, Count}
use Rattle.stalin_top.specs.declared.shape.Options.{Options}
use Rattle.stalin_top.specs.declared.shape.Range.{Range}
use Rattle.stalin_top.specs.declared.shape.Setting.{Setting}
use Rattle.stalin_top.specs.declared.shape.Setting.TheVariants.{Workers, Heap, Steps}
use Rattle.stalin_top.specs.declared.shape.Settings.{Settings}
use Rattle.stalin_top.specs.declared.shape.Verb.{Verb}
use Rattle.stalin_top.specs.declared.shape.Verb.TheVariants as verbs

-- The table

abbrev pub verb_of : List ℕ → Option Verb
verb_of name =
    if bytes_eq name (codes "compile") then Some verbs.Compile
    else if bytes_eq name (codes "run") then Some verbs.Run
    else if bytes_eq name (codes "emulate") then Some verbs.Emulate
    else if bytes_eq name (codes "facts") then Some verbs.Facts
    else if bytes_eq name (codes "make") then Some verbs.Make
    else None

-- what a command takes: its operands in order, and its options
pub record Shape : Type 0 where
  pub operands : List Operand
  pub options : Options

abbrev pub shape_of : Verb → Shape
shape_of verbs.Compile =
    record { operands = File ∷ File ∷ []; options = record { workers = true; heap = true; steps = false } }
shape_of verbs.Run = record { operands = File ∷ []; options = record { workers = true; heap = true; steps = true } }
shape_of verbs.Emulate =
    record { operands = File ∷ []; options = record { workers = false; heap = false; steps = true } }
shape_of verbs.Facts = record { operands = File ∷ []; options = record { workers = true; heap = false; steps = false } }
shape_of verbs.Make = record { operands = Count ∷ []; options = record { workers = true; heap = true; steps = false } }

abbrev pub setting_of : List ℕ → Option Setting
setting_of word =
    if bytes_eq word (codes "--workers") then Some Workers
    else if bytes_eq word (codes "--heap") then Some Heap
    else if bytes_eq word (codes "--steps") then Some Steps
    else None

-- which numbers may follow an option, and which one it is where the option is not given

abbrev pub range_of : Setting → Range
range_of Workers = record { least = 1; most = 32; multiple = 1 }
range_of Heap = record { least = 4096; most = 2 ^ 30; multiple = 16 }
range_of Steps = record { least = 1; most = 10 ^ 18; multiple = 1 }

abbrev pub default_of : Setting → ℕ
default_of Workers = 1
default_of Heap = 67108864
default_of Steps = 10 ^ 9

abbrev pub takes : Options → Setting → Bool
takes options Workers = options.workers
takes options Heap = options.heap
takes options Steps = options.steps

abbrev pub given : Settings → Setting → Option ℕ
given settings Workers = settings.workers
given settings Heap = settings.heap
given settings Steps = settings.steps

abbrev pub with_setting : Setting → ℕ → Settings → Settings
with_setting Workers n settings = record settings { workers = Some n }
with_setting Heap n settings = record settings { heap = Some n }
with_setting Steps n settings = record settings { steps = Some n }

abbrev pub value_of : Settings → Setting → ℕ
value_of settings setting = unwrap_or (given settings setting) (default_of setting)

-- The reading of the words

-- the number of a range that a word is, in decimal without a leading 0
abbrev pub is_in : Range → ℕ → Bool
is_in range n = leb range.least n && (leb n range.most && nat_eq (n % range.multiple) 0)

abbrev pub number_in : Range → List ℕ → Option ℕ
number_in range word =
    let n = digits_value 10 word in if bytes_eq word (decimal n) && is_in range n then Some n else None

-- how many procedures may be made
abbrev pub counts : Range
counts = record { least = 0; most = 1000; multiple = 1 }

-- what the words so far say; `pending` is an option whose value comes next
pub record Said : Type 0 where
  pub operands : List (List ℕ)
  pub settings : Settings
  pub pending : Option Setting

abbrev pub nothing_said : Said
nothing_said = record { operands = []; settings = record { workers = None; heap = None; steps = None }; pending = None }

-- what is said after one word more; None where it is broken

abbrev pub with_value : Setting → List ℕ → Said → Option Said
with_value setting word said =
    option_map (λ n. record said { settings = with_setting setting n said.settings; pending = None })
    (number_in (range_of setting) word)

abbrev pub with_option : Options → Option Setting → Said → Option Said
with_option options None said = None
with_option options (Some setting) said =
    if takes options setting && not (is_some (given said.settings setting)) then
    Some (record said { pending = Some setting })
    else None

abbrev pub is_operand : Option Operand → List ℕ → Bool
is_operand None word = false
is_operand (Some File) [] = false
is_operand (Some File) (byte ∷ bytes) = true
is_operand (Some Count) word = is_some (number_in counts word)

abbrev pub with_operand : Option Operand → List ℕ → Said → Option Said
with_operand operand word said =
    if is_operand operand word then Some (record said { operands = said.operands ++ word ∷ [] }) else None

abbrev pub is_option : List ℕ → Bool
is_option word = starts_with nat_eq word (codes "--")

abbrev pub with_word : Shape → Option Setting → List ℕ → Said → Option Said
with_word shape (Some setting) word said = with_value setting word said
with_word shape None word said =
    if is_option word then with_option shape.options (setting_of word) said
    else with_operand (slice_get shape.operands (length said.operands)) word said

-- a command, as its words say it
pub data Task : Type 0 where
  Compile : (source image : List ℕ) (workers heap : ℕ) → Task
  Run : (source : List ℕ) (workers heap steps : ℕ) → Task
  Emulate : (image : List ℕ) (steps : ℕ) → Task
  Facts : (source : List ℕ) (workers : ℕ) → Task
  Make : (count workers heap : ℕ) → Task

-- what is to be done where no word is missing
abbrev pub task_of : Verb → List (List ℕ) → Settings → Option Task
task_of verbs.Compile (source ∷ image ∷ []) settings =
    Some (Compile source image (value_of settings Workers) (value_of settings Heap))
task_of verbs.Run (source ∷ []) settings =
    Some (Run source (value_of settings Workers) (value_of settings Heap) (value_of settings Steps))
task_of verbs.Emulate (image ∷ []) settings = Some (Emulate image (value_of settings Steps))
task_of verbs.Facts (source ∷ []) settings = Some (Facts source (value_of settings Workers))
task_of verbs.Make (count ∷ []) settings =
    option_map (λ n. Make n (value_of settings Workers) (value_of settings Heap)) (number_in counts count)
task_of verb operands settings = None

abbrev pub task_said : Verb → (pending : Option Setting) → Said → Option Task
task_said verb (Some setting) said = None
task_said verb None said = task_of verb said.operands said.settings

abbrev pub or_missing : (n : ℕ) → Option Task → Result Task ℕ
or_missing n None = Err n
or_missing n (Some task) = Ok task

abbrev pub go_on : (n : ℕ) → (Said → Result Task ℕ) → Option Said → Result Task ℕ
go_on n rest None = Err n
go_on n rest (Some said) = rest said

-- What words say that come after others and of which the first has the number n: what is to be done, or the
-- number of the first word that is broken or missing.
abbrev pub reading : Verb → (n : ℕ) → List (List ℕ) → Said → Result Task ℕ
reading verb n [] said = or_missing n (task_said verb said.pending said)
reading verb n (word ∷ words) said =
    go_on n (reading verb (n + 1) words) (with_word (shape_of verb) said.pending word said)

abbrev pub of_verb : Option Verb → List (List ℕ) → Result Task ℕ
of_verb None words = Err 1
of_verb (Some verb) words = reading verb 2 words nothing_said

abbrev pub task_in : List (List ℕ) → Result Task ℕ
task_in [] = Err 1
task_in (name ∷ words) = of_verb (verb_of name) words
