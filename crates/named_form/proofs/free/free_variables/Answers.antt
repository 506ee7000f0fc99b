use Rattle.std.proofs.Common.{◌≡◌, ◌-◌, length, map, List, get_or, length-set, subst, sym, ap, ◌∙◌, arith}
use Rattle.std.proofs.lemmas.List.{length-map}
use Rattle.named_form.specs.declared.program.Proc.{Proc}
use Rattle.named_form.specs.Needs.{listed, needs_in, among}
use Rattle.named_form.specs.Written.{code, procedure}
use Rattle.named_form.proofs.Kept.{Listed}
use Rattle.named_form.proofs.KeptByEach.{first_at, none_listed, one_more, all_listed}
use Rattle.named_form.proofs.free.free_variables.Goals as goal

many : (procs : List Proc) → length (map procedure procs) ≡ length procs
many procs = rw length-map

pub loop-q-init : goal.loop-q-init
loop-q-init c =
    let same = many c.args.procs.now in
    let long : length c.in_ok-free.free.items ≡ length c.args.procs.now = sym c.in_ok-free.free.ok.0 ∙ c.in_ok-free.ensures in
    let start = none_listed (map procedure c.args.procs.now) c.in_ok-free.free.items (long ∙ sym same) in
    (omega arith, long, λ h. subst (λ n. Listed (map procedure c.args.procs.now) n c.in_ok-free.free.items) same start)

pub loop-q-preserved : goal.loop-q-preserved
loop-q-preserved c =
    let same = many c.args.procs.now in
    let made = c.in_ok-free-2.ensures ∙ ap (λ lists. among (get_or c.args.firsts.now (c.loop-q.q - 1) 0) (needs_in (listed lists) (code c.index-procs-q.result.body))) c.as_slice.ensures.value in (
      omega arith,
      length-set c.loop-q.free.items (c.loop-q.q - 1) c.in_ok-free-2.field-0 ∙ c.loop-q.invariant.1,
      λ h.
          let first = first_at (map procedure c.args.procs.now) c.args.firsts.now (c.loop-q.q - 1) 0 h.begins (omega (arith, same, c.loop-q.invariant.0, c.loop-q-test.true)) in
          one_more c.args.procs.now h.numbered h.made h.scoped c.loop-q.q
          (get_or c.args.firsts.now (c.loop-q.q - 1) 0) c.index-procs-q.result c.loop-q.free.items c.in_ok-free-2.field-0
          c.loop-q-test.true c.loop-q.invariant.0 c.index-procs-q.is first (c.loop-q.invariant.2 h) made,
    )

pub returns : goal.returns
returns c =
    λ h.
    let at : c.loop-q.q ≡ 0 = omega (arith, c.loop-q-test.false) in
    c.from_vec.ensures
    ∙ all_listed (map procedure c.args.procs.now) c.loop-q.free.items
    (subst (λ n. Listed (map procedure c.args.procs.now) n c.loop-q.free.items) at (c.loop-q.invariant.2 h))
