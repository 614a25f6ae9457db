use Rattle.text_fields.proofs.Written.{stops}
use Rattle.event_stream.proofs.Paging.{paged_writes_all}
use Rattle.event_stream.proofs.writing.put_closing.Goals as goal

pub returns-in_err-put_statuses : goal.returns-in_err-put_statuses
returns-in_err-put_statuses g c = stops _ _ _ _ c.from_residual.ensures.0 c.in_err-put_statuses.ensures

pub returns : goal.returns
returns g c = paged_writes_all _ _ _ _ _ _ _ c.in_ok-put_statuses.ensures c.hand_on.ensures.sent
