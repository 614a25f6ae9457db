use Rattle.coherent_log.proofs.Listed.{client_turned}
use Rattle.coherent_log.proofs.lines.LineLog.note.Goals as goal

pub returns-clause-clients : goal.returns-clause-clients
returns-clause-clients c = client_turned c.reach.new.clients.items c.args.self.now.clients.items c.from-client.result c.args.entry.now.hart c.args.index c.args.entry.now c.index_mut.result.now c.note.new.self
    c.from-client.ensures c.in_ok-reach.ensures.reaches c.in_ok-reach.ensures.same c.index_mut.ensures.value c.note.ensures
