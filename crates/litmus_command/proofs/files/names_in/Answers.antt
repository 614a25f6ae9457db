use Rattle.std.proofs.Common.{◌∙◌, List, ap, drop, take, ℕ, ◌++◌}
use Rattle.litmus_command.specs.Listing.{names_of_line, texts_of}
use Rattle.litmus_command.proofs.Lines.{line_read}
use Rattle.litmus_command.proofs.files.names_in.Goals as goal

pub loop-folder-preserved : goal.loop-folder-preserved
loop-folder-preserved c =
    let folder = c.folder_of-folder.result.now in
    let rest = c.loop-folder.rest.now in
    let old = texts_of c.loop-folder.names.items in
    line_read folder rest c.split_at.result.0.now c.behind_end-rest.result.now _ old (texts_of c.add_name.new.names.items) c.loop-folder.invariant
    (c.split_at.ensures.front ∙ ap (λ (n : ℕ). take n rest) c.length_before.ensures.value)
    (c.behind_end-rest.ensures ∙ ap (drop 1) (c.split_at.ensures.back ∙ ap (λ (n : ℕ). drop n rest) c.length_before.ensures.value))
    (c.in_ok-add_name.ensures ∙ ap (λ (l : List ℕ). old ++ names_of_line folder l) c.trimmed.ensures)
