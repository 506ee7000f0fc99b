use Rattle.std.proofs.Common.{◌≡◌, false, refl, sym, subst, drop, length}
use Rattle.std.specs.Bool.{OnTrue}
use Rattle.rv_form.specs.Machine.{store}
use Rattle.rv_emulator.specs.Memory.{Laid, all_flagged, cells}
use Rattle.rv_words.specs.Widths.{bytes_of}
use Rattle.rv_emulator.specs.States.{Kept}
use Rattle.rv_emulator.proofs.InsideMemory.{put_back, rewritten, seen}
use Rattle.rv_emulator.proofs.memory.Memory.store.Goals as goal

pub store-requires-clause-front : goal.store-requires-clause-front
store-requires-clause-front c = rw c.deref.ensures.value c.self.invariant.1

pub store-requires-clause-laid : goal.store-requires-clause-laid
store-requires-clause-laid c = rw (c.deref.ensures.value, c.deref_mut.ensures.value) c.self.invariant.0

pub invariant_of-self : goal.invariant_of-self
invariant_of-self c =
    let back =
    put_back c.self.inside.regions.items c.deref.result.now c.self.inside.bytes.items c.deref_mut.result.now c.store.new.bytes
    (drop (length c.store.new.bytes) c.self.inside.bytes.items) c.self.inside.bytes.len c.self.invariant.0 c.deref.ensures.value
    c.deref_mut.ensures.value c.store.ensures.laid c.deref_mut.ensures.len
    in (
      subst (Laid c.self.inside.regions.items) (sym back)
          (subst (λ regions. Laid regions c.store.new.bytes) c.deref.ensures.value c.store.ensures.laid),
      c.self.invariant.1,
    )

pub returns-clause-answer : goal.returns-clause-answer
returns-clause-answer c =
    seen (λ memory. c.store.result ≡ all_flagged memory.regions 2 (bytes_of c.args.width) c.args.a)
    c.args.self.now c.self.inside.regions.items c.deref.result.now c.self.inside.bytes.items c.deref_mut.result.now
    c.self.view_is c.deref.ensures.value c.deref_mut.ensures.value c.store.ensures.answer

pub returns-clause-stored : goal.returns-clause-stored
returns-clause-stored c =
    rewritten (λ old new. OnTrue c.store.result (cells new ≡ store (bytes_of c.args.width) (cells old) c.args.a c.args.value))
    c.args.self.now c.self.inside.regions.items c.deref.result.now c.self.inside.bytes.items c.deref_mut.result.now c.store.new.bytes _ _
    c.self.view_is c.self.invariant.0 c.deref.ensures.value c.deref_mut.ensures.value c.store.ensures.laid c.deref_mut.ensures.len c.store.ensures.stored

pub returns-clause-refused : goal.returns-clause-refused
returns-clause-refused c =
    rewritten (λ old new. c.store.result ≡ false → cells new ≡ cells old)
    c.args.self.now c.self.inside.regions.items c.deref.result.now c.self.inside.bytes.items c.deref_mut.result.now c.store.new.bytes _ _
    c.self.view_is c.self.invariant.0 c.deref.ensures.value c.deref_mut.ensures.value c.store.ensures.laid c.deref_mut.ensures.len c.store.ensures.refused

pub returns-clause-kept : goal.returns-clause-kept
returns-clause-kept c =
    rewritten Kept
    c.args.self.now c.self.inside.regions.items c.deref.result.now c.self.inside.bytes.items c.deref_mut.result.now c.store.new.bytes _ _
    c.self.view_is c.self.invariant.0 c.deref.ensures.value c.deref_mut.ensures.value c.store.ensures.laid c.deref_mut.ensures.len (record { regions = refl; fixed = c.store.ensures.fixed })
