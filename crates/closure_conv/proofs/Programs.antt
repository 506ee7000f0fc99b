-- Procedures one by one.
use Rattle.std.proofs.Common.{◌≡◌, ◌<◌, ℕ, zero, suc, Bool, true, not, ◌||◌, Option, Some, is_some, slice_get, refl, append_assoc, add-one, ◌++◌, ◌+◌, List, [], ◌∷◌, length, map, drop, get_or, sym, ◌∙◌, ap, arith}
use Rattle.named_form.specs.declared.program.Proc.{Proc}
use Rattle.std.specs.List.{filter}
use Rattle.std.specs.Option.{option_map}
use Rattle.std.proofs.lemmas.List.{map-append}
use Rattle.std.proofs.lemmas.Option.{slice_get-map, slice_get_read}
use Rattle.scheme_base.specs.declared.lit.Lit.{Lit}
use Rattle.flat_form.specs.declared.program.FlatProc.{FlatProc}
use Rattle.flat_form.specs.FlatCode as flat
use Rattle.flat_form.specs.FlatWritten as flat_written
use Rattle.named_form.specs.declared.plan.Plan.{Plan}
use Rattle.named_form.specs.Code.{Counts, Written, labelled, rest_lists, option_list, but_first, first_sites, bound_in, past_code, procedures, program}
use Rattle.named_form.specs.Storage.{captures, bound, frame_vars, is_fictitious, is_global}
use Rattle.named_form.specs.ValidPlan.{block_reached}
use Rattle.named_form.specs.Written.{code, procedure}
use Rattle.closure_conv.specs.declared.numbering.Numbering.{Numbering}
use Rattle.closure_conv.specs.declared.tables.Tables.{Tables}
use Rattle.closure_conv.specs.FlatOf.{index_of, flat_code, part, parts, greatest, flat_proc, flat_procs}
use Rattle.closure_conv.specs.Tables.{Runs, Numbers, number_of, scene, lambda, next_block, slotted_of}
use Rattle.closure_conv.proofs.Homes.{is_member}
use Rattle.closure_conv.proofs.Linked.{drop_item}

-- one procedure more is counted
pub lists_one :
    (procs : List Proc) (i : ℕ) (p : Proc) (lists next whole : ℕ)
    → i < length procs
    → p ≡ get_or procs i p
    → next ≡ lists + length (option_list p.rest)
    → lists + rest_lists (map procedure (drop i procs)) ≡ whole
    → next + rest_lists (map procedure (drop (i + 1) procs)) ≡ whole
lists_one procs i p lists next whole within is moves was =
    let left = ap (λ ps. rest_lists (map procedure ps)) (drop_item procs i p within is) in
    omega (arith, moves, was, left)

pub proc_is :
    (plan : Plan) (t : Tables) (at : Counts) (site : ℕ) (w : Written) (p : FlatProc)
    → Runs plan t
    → p.reached ≡ block_reached plan at.blocks
    → p.capturing ≡ is_some (number_of t.capturing t.proc)
    → p.slots ≡ suc (length t.slotted)
    → p.least ≡ length w.params
    → p.greatest ≡ greatest w.rest p.least
    → map flat_written.part p.parts
    ≡ parts p.reached (part (scene plan t) w.params w.rest site (flat_code (scene plan t) (labelled (next_block at) true w.body)))
    → flat_written.procedure p ≡ flat_proc (scene plan t) (lambda at site w)
proc_is plan t at site w p runs reached capturing slots least most its_parts =
    let body = part (scene plan t) w.params w.rest site (flat_code (scene plan t) (labelled (next_block at) true w.body)) in
    ap (λ ps. one p.reached p.capturing p.slots p.least p.greatest ps) its_parts
    ∙ ap (λ b. one b p.capturing p.slots p.least p.greatest (parts b body)) reached
    ∙ ap (λ b. one (block_reached plan at.blocks) b p.slots p.least p.greatest (parts (block_reached plan at.blocks) body)) (capturing ∙ is_member _ plan.capturing.procs t.proc (runs.tells.capturing t.proc))
    ∙ ap (λ n. one (block_reached plan at.blocks) (captures plan t.proc) n p.least p.greatest (parts (block_reached plan at.blocks) body)) slots
    ∙ ap (λ g. one (block_reached plan at.blocks) (captures plan t.proc) (suc (length t.slotted)) p.least g (parts (block_reached plan at.blocks) body)) most
    ∙ ap (λ n. one (block_reached plan at.blocks) (captures plan t.proc) (suc (length t.slotted)) n (greatest w.rest n) (parts (block_reached plan at.blocks) body)) least
  where
    one : Bool → Bool → ℕ → ℕ → Option ℕ → List flat.Part → flat.Procedure
    one reached capturing slots least most ps =
        record { reached = reached; capturing = capturing; slots = slots; least = least; greatest = most; parts = ps }

-- a numbering of a list is one of an equal list
pub same_list : (n : Numbering) (xs ys : List ℕ) → xs ≡ ys → Numbers n xs → Numbers n ys
same_list n xs ys same numbers = λ x. numbers x ∙ ap (λ l. index_of l x) same

-- the procedure of a number binds what it binds as it is written
bound_at :
    (all : List Written) (q site : ℕ) (at : Counts) (ws : List Written) (i : ℕ) (w : Written)
    → slice_get ws i ≡ Some w
    → bound (slice_get (procedures all q site at ws) i) ≡ bound_in w
bound_at all q site at [] i w is = cc
bound_at all q site at (v ∷ ws) zero w is = let same : v ≡ w = cc is in ap bound_in same
bound_at all q site at (v ∷ ws) (suc i) w is =
    bound_at all (suc q) (site + length (option_list v.rest)) (past_code (next_block at) v.body) ws i w is

frame_is :
    (plan : Plan) (ws : List Written) (lits : List Lit) (i : ℕ) (w : Written)
    → slice_get ws i ≡ Some w
    → frame_vars plan (program ws lits) i ≡ slotted_of plan w
frame_is plan ws lits i w is =
    ap (filter (λ x. not (is_fictitious plan x || is_global plan x)))
    (bound_at ws 0 (length (but_first ws)) (record { steps = 0; sites = first_sites ws; blocks = 0 }) ws i w is)

pub procs_one :
    (plan : Plan) (tops : ℕ) (all : List Proc) (lits : List Lit) (procs : List Proc) (i number many : ℕ) (p : Proc)
    (site next_site : ℕ) (at next : Counts) (done more : List FlatProc) (made : FlatProc) (whole : List flat.Procedure)
    → procs ≡ all
    → i < length procs
    → p ≡ get_or procs i p
    → number ≡ i
    → many ≡ tops
    → flat_written.procedure made
    ≡ flat_proc (record { plan = plan; tops = many; proc = number; slots = slotted_of plan (procedure p) }) (lambda at site (procedure p))
    → next_site ≡ site + length (option_list p.rest)
    → next ≡ past_code (next_block at) (code p.body)
    → more ≡ done ++ made ∷ []
    → map flat_written.procedure done
    ++ flat_procs plan tops (program (map procedure all) lits) i
    (procedures (map procedure all) i site at (map procedure (drop i procs)))
    ≡ whole
    → map flat_written.procedure more
    ++ flat_procs plan tops (program (map procedure all) lits) (i + 1)
    (procedures (map procedure all) (i + 1) next_site next (map procedure (drop (i + 1) procs)))
    ≡ whole
procs_one plan tops all lits procs i number many p site next_site at next done more made whole same within is counted topped flat site_is moves pushes was =
    let ws = map procedure all in
    let prog = program ws lits in
    let behind = map procedure (drop (i + 1) procs) in
    let there : slice_get procs i ≡ Some p = slice_get_read procs (length procs) i p refl within is in
    let written : slice_get ws i ≡ Some (procedure p) =
    slice_get-map procedure all i ∙ ap (λ ps. option_map procedure (slice_get ps i)) (sym same) ∙ ap (option_map procedure) there in
    let rest = λ (n site : ℕ) (at : Counts). flat_procs plan tops prog n (procedures ws n site at behind) in
    let this = λ (many number : ℕ) (slots : List ℕ). flat_proc (record { plan = plan; tops = many; proc = number; slots = slots }) (lambda at site (procedure p)) in
    ap (λ fs. map flat_written.procedure fs ++ rest (i + 1) next_site next) pushes
    ∙ ap (λ fs. fs ++ rest (i + 1) next_site next) (map-append flat_written.procedure done (made ∷ []))
    ∙ append_assoc (map flat_written.procedure done) (flat_written.procedure made ∷ []) (rest (i + 1) next_site next)
    ∙ ap (λ f. map flat_written.procedure done ++ (f ∷ rest (i + 1) next_site next))
    (flat ∙ ap (λ n. this n number (slotted_of plan (procedure p))) topped ∙ ap (λ n. this tops n (slotted_of plan (procedure p))) counted
    ∙ ap (this tops i) (sym (frame_is plan ws lits i (procedure p) written)))
    ∙ ap (λ n. map flat_written.procedure done ++ (this tops i (frame_vars plan prog i) ∷ rest n next_site next)) (add-one i)
    ∙ ap (λ n. map flat_written.procedure done ++ (this tops i (frame_vars plan prog i) ∷ rest (suc i) n next)) site_is
    ∙ ap (λ c. map flat_written.procedure done ++ (this tops i (frame_vars plan prog i) ∷ rest (suc i) (site + length (option_list p.rest)) c)) moves
    ∙ sym (ap (λ ps. map flat_written.procedure done ++ flat_procs plan tops prog i (procedures ws i site at (map procedure ps))) (drop_item procs i p within is))
    ∙ was
