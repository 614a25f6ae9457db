use Rattle.std.proofs.Common.{inl, inr, refl}
use Rattle.fences_command.proofs.Shown.{both_stay, image_is_no_script, unwritten_stays, written_stays}
use Rattle.fences_command.specs.Keeping.{format_of}
use Rattle.fences_command.specs.Witnesses.{IsFileOf, IsSpare, image_path, script_path}
use Rattle.search_files.proofs.Files.{on_ok, spares_more}
use Rattle.fences_command.proofs.needed_runs.Shelf.keep_run.Goals as goal

pub returns-in_err-keep_image-clause-spared : goal.returns-in_err-keep_image-clause-spared
returns-in_err-keep_image-clause-spared g c =
    let folder = c.args.self.now.folder.name.now in
    let before = g.F.Files.held c.args.files.now in
    spares_more before (g.F.Files.held c.keep_image.new.files) (image_path folder c.args.number) c.keep_image.ensures.others (IsFileOf folder c.args.number) before (inr (inr refl)) (λ other. inl refl)

pub returns-clause-spared : goal.returns-clause-spared
returns-clause-spared g c =
    let folder = c.args.self.now.folder.name.now in
    let before = g.F.Files.held c.args.files.now in
    let mid = g.F.Files.held c.keep_image.new.files in
    spares_more mid (g.F.Files.held c.keep_script.new.files) (script_path folder c.args.number) c.keep_script.ensures.others (IsFileOf folder c.args.number) before (inr (inl refl))
    (spares_more before mid (image_path folder c.args.number) c.keep_image.ensures.others (IsFileOf folder c.args.number) before (inr (inr refl)) (λ other. inl refl))

-- the script is another file than the program
pub returns-clause-kept : goal.returns-clause-kept
returns-clause-kept g c =
    let shelf = c.args.self.now in
    let folder = shelf.folder.name.now in
    on_ok _ _ c.keep_script.result
    (λ led. (led, written_stays (g.F.Files.held c.keep_image.new.files) (g.F.Files.held c.keep_script.new.files) (format_of shelf.wanted.raw) shelf.file.now shelf.image.now c.args.words.now (image_path folder c.args.number) (c.keep_script.ensures.others (image_path folder c.args.number) (image_is_no_script folder c.args.number)) c.in_ok-keep_image.ensures.kept))
    c.keep_script.ensures.kept

pub returns-clause-written : goal.returns-clause-written
returns-clause-written g c =
    let shelf = c.args.self.now in
    let folder = shelf.folder.name.now in
    let before = g.F.Files.held c.args.files.now in
    let mid = g.F.Files.held c.keep_image.new.files in
    let left = g.F.Files.held c.keep_script.new.files in
    on_ok _ _ c.keep_script.result
    (λ (apart : IsSpare shelf.wanted (script_path folder c.args.number)). both_stay shelf.wanted.write before mid left (unwritten_stays shelf.wanted.write before mid (image_path folder c.args.number) c.keep_image.ensures.others c.in_ok-keep_image.ensures.apart.unwritten)
    (unwritten_stays shelf.wanted.write mid left (script_path folder c.args.number) c.keep_script.ensures.others apart.unwritten))
    c.keep_script.ensures.apart
