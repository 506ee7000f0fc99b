use Rattle.std.proofs.Common.{List as Seq, ℕ, subst, sym}
use Rattle.datum_form.specs.Stands.{StandAll}
use Rattle.datum_form.proofs.PrintedByParts.{list_printed, vector_printed}
use Rattle.datum_form.proofs.text.write_kind.Goals as goal

pub returns-in_ok-push_items-in-List : goal.returns-in_ok-push_items-in-List
returns-in_ok-push_items-in-List c = λ nodes d rest h k.
    list_printed nodes c.args.kind.now d rest c.in-List.items c.in-List.tail c.args.parts.now.items
    c.push_tail.new.parts.items c.push_items.new.parts.items c.args.text.now.items c.push.new.self.items c.in-List.is h k
    c.in_ok-push-in-List.ensures.items c.in_ok-push_tail-in-List.ensures.none c.in_ok-push_tail-in-List.ensures.some
    (λ is r hs hr.
    c.in_ok-push_items-in-List.ensures nodes is r
    (let Q : Seq ℕ → Type 0 = λ ids. StandAll nodes ids is in subst Q (sym c.as_slice-in-List.ensures) hs) hr)

pub returns-in_ok-push_items-in-Vector : goal.returns-in_ok-push_items-in-Vector
returns-in_ok-push_items-in-Vector c = λ nodes d rest h k.
    vector_printed nodes c.args.kind.now d rest c.in-Vector.items c.args.parts.now.items c.push-in-Vector.new.self.items
    c.push_items-in-Vector.new.parts.items c.args.text.now.items c.extend_from_slice-in-Vector.new.self.items c.in-Vector.is
    h k c.in_ok-extend_from_slice-in-Vector.ensures.items c.in_ok-push-in-Vector.ensures.items
    (λ is r hs hr.
    c.in_ok-push_items-in-Vector.ensures nodes is r
    (let Q : Seq ℕ → Type 0 = λ ids. StandAll nodes ids is in subst Q (sym c.as_slice-in-Vector.ensures) hs) hr)
