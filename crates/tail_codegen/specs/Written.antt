-- Which procedure the code's own types stand for.
use Rattle.std.specs.Prelude.{ℕ, ◌+◌, ◌*◌, [], slice_get, Option, Some, None}
use Rattle.const_data.specs.declared.offsets.Offsets.{Offsets}
use Rattle.flat_form.specs.declared.program.Flat.{Flat}
use Rattle.flat_form.specs.declared.program.FlatProc.{FlatProc}
use Rattle.flat_form.specs.FlatWritten.{procedure as written_procedure}
use Rattle.tail_codegen.specs.declared.unit.Unit.{Unit as Given}
use Rattle.tail_codegen.specs.declared.block.End.{End as GivenEnd}
use Rattle.tail_codegen.specs.declared.block.End.TheVariants as given
use Rattle.tail_codegen.specs.declared.unit.Spot.{Spot as GivenSpot}
use Rattle.tail_codegen.specs.Values.{Unit}
use Rattle.tail_codegen.specs.Templates.{Spot, End, Return, Goes, Finish, procedure}
use Rattle.tail_codegen.specs.Items.{Text}

abbrev pub unit : Given → Unit
unit u =
    record { proc = u.proc; capturing = u.capturing; frame = u.frame; lits = u.lits.now; offsets = u.offsets.now }

abbrev pub end_of : GivenEnd → End
end_of given.Return = Return
end_of (given.Goes to) = Goes to
end_of given.Finish = Finish

abbrev pub known : GivenSpot → Spot
known s = record { pos = s.pos; checked = s.checked }

-- the code of procedure p of a program, which is empty where there is none
abbrev pub code_in : Flat → Offsets → (p : ℕ) → Option FlatProc → Text
code_in f offsets p None = []
code_in f offsets p (Some proc) =
    procedure
    (record {
      proc = p;
      capturing = proc.capturing;
      frame = 8 * (2 + proc.slots);
      lits = f.lits;
      offsets = offsets;
    })
    (written_procedure proc)

abbrev pub code_of : Flat → Offsets → (p : ℕ) → Text
code_of f offsets p = code_in f offsets p (slice_get f.procs p)
