use Rattle.event_stream.proofs.writing.write_stream.Goals as goal

pub returns-in-Ok-clause-whole : goal.returns-in-Ok-clause-whole
returns-in-Ok-clause-whole g c = c.in-Ok.ensures.whole _ _ c.in_ok-machine.ensures.ok

pub returns-in-Err-clause-unfinished : goal.returns-in-Err-clause-unfinished
returns-in-Err-clause-unfinished g c = c.in-Err.ensures.unfinished _ _ c.in_ok-machine.ensures.ok
