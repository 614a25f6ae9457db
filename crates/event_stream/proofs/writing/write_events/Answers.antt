use Rattle.event_stream.proofs.Wholes.{all_written, closing_fails, opening_fails, telling_fails}
use Rattle.event_stream.proofs.writing.write_events.Goals as goal

pub returns-in-Err-clause-unfinished : goal.returns-in-Err-clause-unfinished
returns-in-Err-clause-unfinished g c = λ image config is. opening_fails c.args.names.now _ image config _ _ _ _ _ _ c.new-page.ensures c.trace.ensures is c.in-Err.ensures

pub returns-in-Err-tell-clause-unfinished : goal.returns-in-Err-tell-clause-unfinished
returns-in-Err-tell-clause-unfinished g c = λ image config is.
    telling_fails c.args.names.now _ image config _ _ _ _ _ _ _ _ _ c.tell.new.page c.in-Err-tell.error c.new-page.ensures c.trace.ensures is c.in_default.ensures c.in-Err-tell.ensures.told

pub returns-in-Err-put_closing-clause-unfinished : goal.returns-in-Err-put_closing-clause-unfinished
returns-in-Err-put_closing-clause-unfinished g c = λ image config is.
    closing_fails c.args.names.now _ image config _ _ _ _ _ _ _ _ _ _ _ c.new-page.ensures c.trace.ensures is c.in_default.ensures c.in_default-tell.ensures.told
    c.in-Err-put_closing.ensures

pub returns-in-Ok-clause-whole : goal.returns-in-Ok-clause-whole
returns-in-Ok-clause-whole g c = λ image config is.
    all_written c.args.names.now _ image config _ _ _ _ _ _ _ _ _ _ _ c.new-page.ensures c.trace.ensures is c.in_default.ensures c.in_default-tell.ensures.told
    c.in-Ok.ensures
