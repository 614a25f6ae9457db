use Rattle.std.proofs.Common.{List, OnErr, OnOk, subst, ℕ}
use Rattle.std.specs.Io.KnownBytes.{Appends}
use Rattle.explore_command.proofs.Ways.{way_is}
use Rattle.text_fields.specs.Writing.{Begins}
use Rattle.explore_command.proofs.until.print_way.Goals as goal

pub returns-clause-printed : goal.returns-clause-printed
returns-clause-printed g c =
    subst (λ (t : List ℕ). OnOk c.print_script.result (Appends (g.O.Write.contents c.args.out.now) (g.O.Write.contents c.print_script.new.out) t))
    (way_is c.args.config c.args.kib c.args.met c.in-Some.met c.script_of-script.result c.in-Some.is c.script_of-script.ensures.script) c.print_script.ensures.printed

pub returns-clause-begun : goal.returns-clause-begun
returns-clause-begun g c =
    subst (λ (t : List ℕ). OnErr c.print_script.result (Begins (g.O.Write.contents c.args.out.now) (g.O.Write.contents c.print_script.new.out) t))
    (way_is c.args.config c.args.kib c.args.met c.in-Some.met c.script_of-script.result c.in-Some.is c.script_of-script.ensures.script) c.print_script.ensures.begun
