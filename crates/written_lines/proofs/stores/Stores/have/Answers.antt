use Rattle.written_lines.proofs.Looked.{none_wrote, some_wrote}
use Rattle.written_lines.proofs.stores.Stores.have.Goals as goal

pub returns-in-Some : goal.returns-in-Some
returns-in-Some c = λ performed are. some_wrote c.args.self.now.by_byte c.args.hart c.args.at c.args.byte performed are c.in-Some.stores.now c.as_slice.result.now c.have_written.result c.in-Some.ensures.value c.as_slice.ensures.value c.have_written.ensures

pub returns-in-None : goal.returns-in-None
returns-in-None c = λ performed are. none_wrote c.args.self.now.by_byte c.args.hart c.args.at c.args.byte performed are c.in-None.ensures.value
