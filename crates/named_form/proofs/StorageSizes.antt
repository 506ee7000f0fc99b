-- The bytes of each thing that a state holds, in one table. Numbers are worked out by hand: a word has 8 bytes, a
-- string and a vector have a word for their length, a frame has a return address, a link and the closure beside its
-- slots.
use Rattle.std.proofs.Common.{◌≡◌, ℕ, ◌+◌, List, [], ◌∷◌, true, false, Some, None, refl}
use Rattle.std.specs.Prelude.{map, pos}
use Rattle.scheme_base.specs.declared.place.Mark.TheVariants.{Local, Global}
use Rattle.scheme_base.specs.declared.place.Stated.TheVariants as stated
use Rattle.scheme_base.specs.Values.{Integer, Nil, Object, Pair, String, Vector, Symbol, Blank, Holding, Procedure, OfLiteral, ByRun}
use Rattle.scheme_base.proofs.Fixtures.{at, quiet}
use Rattle.named_form.specs.declared.plan.Plan.{Plan}
use Rattle.named_form.specs.Code.{Written, Ends, program}
use Rattle.named_form.specs.NamedRun.{Closes, Continues, Entry, Maker, Point, start}
use Rattle.named_form.specs.Storage.{boxed_bytes, content_bytes, entry_bytes, frame_bytes, open_bytes, point_bytes, thing_bytes}
use Rattle.named_form.proofs.PlanParts.{plan}
use Rattle.named_form.proofs.Programs.{lambda, main}

-- what an object holds
contents : map content_bytes
    (Pair Nil Nil
    ∷ String []
    ∷ String (97 ∷ 98 ∷ 99 ∷ [])
    ∷ Vector []
    ∷ Vector (Nil ∷ Integer (pos 1) ∷ [])
    ∷ Symbol (Object 0)
    ∷ Blank
    ∷ [])
    ≡ 16 ∷ 8 ∷ 32 ∷ 8 ∷ 24 ∷ 16 ∷ 0 ∷ []
contents = refl

-- Four procedures of three variables each: procedure 1 keeps nothing, 2 is compared, 3 keeps two variables, 4 keeps
-- one and is compared.
abbrev three : ℕ → Written
three x = lambda (at 1 1) (x ∷ x ∷ x ∷ []) (Ends (Some x))

abbrev procs : List Written
procs = main (Ends None) ∷ three 0 ∷ three 1 ∷ three 2 ∷ three 3 ∷ []

abbrev kinds : Plan
kinds =
    let p = plan procs ([] ∷ [] ∷ [] ∷ (7 ∷ 8 ∷ []) ∷ (7 ∷ []) ∷ []) (Global ∷ Local ∷ []) in
    record p {
      slots = record p.slots {
        compared = 2 ∷ 4 ∷ [];
        fictitious = record { var = 1; value = stated.Nil } ∷ [];
        global = 2 ∷ [];
      };
      capturing = record { procs = []; recording = 5 ∷ [] };
    }

procedures : map (λ q. thing_bytes kinds (Procedure (Closes q []))) (1 ∷ 2 ∷ 3 ∷ 4 ∷ []) ≡ 0 ∷ 8 ∷ 24 ∷ 16 ∷ []
procedures = refl

continuation : thing_bytes kinds (Procedure (Continues [])) ≡ 16
continuation = refl

data_object : thing_bytes kinds (Holding ByRun (Pair Nil Nil)) ≡ 16
data_object = refl

-- frames: of no slot, of three, of none of three that have stated values, and of none of three that have cells
frames : map (frame_bytes kinds (program procs [])) (0 ∷ 1 ∷ 2 ∷ 3 ∷ []) ≡ 24 ∷ 48 ∷ 24 ∷ 24 ∷ []
frames = refl

-- objects by who made them: a literal; made at a global site and at a local one, by an activation that has not ended
-- and by one that has
abbrev pair_by : (site activation : ℕ) → Entry
pair_by site activation =
    record {
      thing = Holding ByRun (Pair Nil Nil);
      maker = Some (record { site = site; activation = activation });
    }

makers : map (entry_bytes kinds (3 ∷ 1 ∷ []))
    (record { thing = Holding OfLiteral (Pair Nil Nil); maker = None }
    ∷ pair_by 0 1
    ∷ pair_by 0 2
    ∷ pair_by 1 1
    ∷ pair_by 1 2
    ∷ pair_by 1 3
    ∷ [])
    ≡ 0 ∷ 16 ∷ 16 ∷ 16 ∷ 0 ∷ 16 ∷ []
makers = refl

-- boxes likewise
boxes : map (λ (m : Maker). boxed_bytes kinds (3 ∷ 1 ∷ []) (record { value = Nil; maker = m }))
    (record { site = 0; activation = 2 }
    ∷ record { site = 1; activation = 1 }
    ∷ record { site = 1; activation = 2 }
    ∷ [])
    ≡ 8 ∷ 8 ∷ 0 ∷ []
boxes = refl

-- return points of procedure 1: of a call in stack mode and of one in record mode, as a frame and as a record
abbrev point_of : (var : ℕ) → Point
point_of x =
    record {
      var = x;
      rest = Ends None;
      arms = [];
      activation = record { number = 1; proc = 1; closure = None; vars = [] };
    }

as_frames : map (point_bytes kinds (program procs []) false) (point_of 4 ∷ point_of 5 ∷ []) ≡ 48 ∷ 0 ∷ []
as_frames = refl

as_records : map (point_bytes kinds (program procs []) true) (point_of 4 ∷ point_of 5 ∷ []) ≡ 0 ∷ 48 ∷ []
as_records = refl

-- the sum: the running frame, two return points, three objects, two boxes and a record
summed : (let p = program procs [] in
    let s = start p quiet in
    open_bytes kinds p
    (record s {
      now = record s.now { points = point_of 4 ∷ point_of 5 ∷ [] };
      world =
          record s.world {
            entries = pair_by 0 7 ∷ pair_by 1 1 ∷ pair_by 1 7 ∷ [];
            boxes =
                record { value = Nil; maker = record { site = 0; activation = 0 } }
                ∷ record { value = Nil; maker = record { site = 1; activation = 7 } }
                ∷ [];
            points = point_of 5 ∷ [];
          };
    }))
    ≡ 24 + 48 + 32 + 8 + 48
summed = refl
