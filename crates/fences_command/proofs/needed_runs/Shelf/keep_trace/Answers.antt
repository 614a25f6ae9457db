use Rattle.std.proofs.Common.{◌≢◌, ◌∙◌, IfSome, List, inl, subst, sym, ℕ}
use Rattle.fences_command.proofs.Shown.{both_stay, none_stay, unwritten_stays}
use Rattle.fences_command.specs.Witnesses.{IsFileOf}
use Rattle.search_files.proofs.Files.{on_ok, spared, spares_more}
use Rattle.fences_command.proofs.needed_runs.Shelf.keep_trace.Goals as goal

pub returns-in_err-path-clause-spared : goal.returns-in_err-path-clause-spared
returns-in_err-path-clause-spared g c = spared (IsFileOf c.args.self.now.folder.name.now c.args.number) _ _ c.in_err-path.ensures.stays

pub returns-clause-spared : goal.returns-clause-spared
returns-clause-spared g c =
    let held = g.F.Files.held in
    let is_file = IsFileOf c.args.self.now.folder.name.now c.args.number in
    spares_more (held c.spared.new.files) (held c.write_trace.new.files) c.deref.result.now c.write_trace.ensures.others is_file (held c.args.files.now) (inl (c.deref.ensures ∙ c.in_ok-path.ensures.path)) (spared is_file _ _ c.in_ok-path.ensures.stays)

pub returns-clause-written : goal.returns-clause-written
returns-clause-written g c =
    let held = g.F.Files.held in
    let write = c.args.self.now.wanted.write in
    let apart = subst (λ (path : List ℕ). IfSome write (λ w. path ≢ w.now)) (sym (c.deref.ensures ∙ c.in_ok-path.ensures.path)) c.in_ok-path.ensures.spare.unwritten in
    on_ok _ _ c.write_trace.result
    (λ _. both_stay write (held c.args.files.now) (held c.spared.new.files) (held c.write_trace.new.files) (none_stay write (held c.args.files.now) (held c.spared.new.files) c.in_ok-path.ensures.stays) (unwritten_stays write (held c.spared.new.files) (held c.write_trace.new.files) c.deref.result.now c.write_trace.ensures.others apart))
    c.write_trace.ensures.kept
