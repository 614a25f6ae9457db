use Rattle.std.proofs.Common.{◌∙◌, ap, length, ℕ, ◌/◌}
use Rattle.directory.specs.Directory.{opening}
use Rattle.machine_parts.proofs.parts.opening_memory.Goals as goal

pub returns-clause-notes : goal.returns-clause-notes
returns-clause-notes c =
    let config = c.args.config.now in
    c.in_ok-directory.ensures
    ∙ (ap (λ (size : ℕ). opening config.harts (size / c.bytes.result)) c.size.ensures.exact ∙ ap (λ (bytes : ℕ). opening config.harts (length c.args.image.now.bytes / bytes)) c.bytes.ensures)
