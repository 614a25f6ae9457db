use Rattle.std.proofs.Common.{IfOk, subst}
use Rattle.std.proofs.lemmas.List.Elements.{All-weaker}
use Rattle.elf_loader.specs.Image.{HasWord, Initial}
use Rattle.fence_audit.proofs.Found.{searched_more, shows_same}
use Rattle.fence_audit.specs.Answers.{IsSearchIn}
use Rattle.image_orderings.specs.Replaced.{IsPatchOf}
use Rattle.image_orderings.specs.declared.replacing.Patch.{Patch}
use Rattle.fence_audit.proofs.searches.explore_within.Goals as goal

pub patched-requires : goal.patched-requires
patched-requires g c =
    let image = c.args.question.image.now in
    record { inside = All-weaker (IsPatchOf image) (λ (p : Patch). HasWord image p.address) (λ p is. is.place) c.args.patches.now c.requires.of_image }

pub search_world-requires : goal.search_world-requires
search_world-requires g c = record {
  room = c.requires.room;
  words = shows_same c.args.question.image.now c.in_ok-image.image c.args.question.addresses.now c.in_ok-image.ensures.size c.requires.ready.words;
}

pub returns : goal.returns
returns g c =
    let question = c.args.question in
    subst (λ (i : Initial). IfOk c.search_world.result (IsSearchIn question.world i question.config question.addresses.now question.window question.limit)) c.in_ok-image.ensures.made
    (searched_more c.in_ok-image.image question.config question.addresses.now question.window c.args.limit question.limit c.requires.few question.world c.search_world.result c.search_world.ensures)
