use Rattle.open_questions.proofs.Listed.{client_turned}
use Rattle.open_questions.proofs.answers.LineAnswers.note.Goals as goal

pub returns : goal.returns
returns c = client_turned c.reach.new.clients.items c.args.self.now.clients.items c.from-client.result c.args.entry.now.hart c.args.entry.now c.index_mut.result.now c.note.new.self
    c.from-client.ensures c.in_ok-reach.ensures.reaches c.in_ok-reach.ensures.same c.index_mut.ensures.value c.note.ensures
