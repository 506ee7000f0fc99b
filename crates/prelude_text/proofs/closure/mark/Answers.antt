use Rattle.prelude_text.proofs.Marked.{marks_new, marks_old}
use Rattle.prelude_text.proofs.closure.mark.Goals as goal

pub returns-in_ok-push : goal.returns-in_ok-push
returns-in_ok-push c =
    marks_new c.args.id c.args.marked.now c.args.waiting.now.items c.push.new.self.items c.requires.some c.requires.within
    c.if-not-marked-at.true c.in_ok-push.ensures.items

pub returns-else-not-marked-at : goal.returns-else-not-marked-at
returns-else-not-marked-at c =
    marks_old c.args.id c.args.marked.now c.args.waiting.now.items c.requires.some c.if-not-marked-at.false
