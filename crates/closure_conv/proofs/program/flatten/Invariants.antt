use Rattle.std.proofs.Common.{◌≡◌, ◌++◌, map, drop}
use Rattle.flat_form.specs.FlatWritten as flat_written
use Rattle.named_form.specs.Code.{procedures, program}
use Rattle.named_form.specs.Written.{form, procedure}
use Rattle.closure_conv.specs.FlatOf.{flat_procs}
use Rattle.closure_conv.specs.Tables.{Rests, counts}
use Rattle.closure_conv.proofs.program.flatten.Given as goal

abbrev pub invariant-loop-proc : goal.invariant-loop-proc
invariant-loop-proc l =
    record {
      rests : Rests l.plan l.tables;
      number : l.tables.proc ≡ l.proc-index;
      tops : l.tables.tops ≡ l.named.tops;
      done :
          map flat_written.procedure l.procs
          ++ flat_procs l.plan l.named.tops (program (form l.named).procs (form l.named).lits) l.proc-index
          (procedures (form l.named).procs l.proc-index l.list_site (counts l.at) (map procedure (drop l.proc-index l.proc-items)))
          ≡ flat_procs l.plan l.named.tops (program (form l.named).procs (form l.named).lits) 0
          (program (form l.named).procs (form l.named).lits).procs;
    }
