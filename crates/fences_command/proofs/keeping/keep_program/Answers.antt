use Rattle.std.proofs.Common.{inl, refl, subst, sym}
use Rattle.fences_command.specs.Keeping.{IsProgramFile}
use Rattle.search_files.proofs.Files.{spares_more}
use Rattle.fences_command.proofs.keeping.keep_program.Goals as goal

pub returns-clause-spared : goal.returns-clause-spared
returns-clause-spared g c =
    let held = g.F.Files.held c.args.files.now in
    let name = c.in-Some.name.now in
    spares_more held (g.F.Files.held c.write_program.new.files) name c.write_program.ensures.others (IsProgramFile c.args.wanted.write) held (subst (λ w. IsProgramFile w name) (sym c.in-Some.is) refl) (λ other. inl refl)
