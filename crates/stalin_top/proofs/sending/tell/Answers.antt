use Rattle.stalin_top.proofs.sending.tell.Goals as goal

pub returns-in-Usage : goal.returns-in-Usage
returns-in-Usage g c =
    rw (c.in-Usage.is, ← c.format.ensures.text, ← c.as_bytes-word.ensures.value) c.send_all.ensures
