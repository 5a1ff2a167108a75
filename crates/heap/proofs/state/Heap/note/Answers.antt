use Rattle.heap.proofs.state.Heap.note.Goals as goal

pub returns-in-Err-clause-noted : goal.returns-in-Err-clause-noted
returns-in-Err-clause-noted g c = λ ws. rw (c.in-Err.is, ← c.cause.ensures) (c.remember.ensures ws)
