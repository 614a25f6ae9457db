use Rattle.log_text.proofs.Expanding.{opening_put}
use Rattle.log_text.specs.Opened.{seen}
use Rattle.log_text.proofs.meant.put_opening.Goals as goal

pub returns : goal.returns
returns c = opening_put (seen c.args.opening) _ _ _ _ _ _ _ _ _ c.asks_text-asks.ensures c.gives_text-gives.ensures
    c.in_ok-put_message.ensures c.in_ok-put_message-2.ensures c.in_ok-put_message-3.ensures c.in_ok-put_message-4.ensures c.in_ok-put_message-5.ensures c.in_ok-put_message-6.ensures
