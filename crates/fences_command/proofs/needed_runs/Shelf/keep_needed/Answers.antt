use Rattle.std.proofs.Common.{◌≡◌, ◌+◌, ◌<◌, ◌≤◌, ◌^◌, ap, arith, length, refl, rules}
use Rattle.fences_command.proofs.Shown.{all_shown, both_stay, few_left, few_more, first_is, none_shown, none_stay, one_step}
use Rattle.fences_command.specs.Witnesses.{IsFileOf, IsNeededFile}
use Rattle.search_files.proofs.Files.{spared, spares_then, spares_wider}
use Rattle.fences_command.proofs.needed_runs.Shelf.keep_needed.Goals as goal

pub loop-rest-init : goal.loop-rest-init
loop-rest-init g c =
    let shelf = c.args.self.now in
    let held = g.F.Files.held c.args.files.now in
    record {
      shown = none_shown shelf.wanted shelf.folder.config shelf.folder.kib shelf.image.now shelf.file.now c.args.audit.now shelf.folder.name.now held c.as_slice-rest.result.now c.as_slice-rest.ensures.value;
      few = omega (arith, ap length c.as_slice-rest.ensures.value);
      spared = spared (IsNeededFile shelf.folder.name.now) held held refl;
      written = none_stay shelf.wanted.write held held refl;
    }

pub keep_ordering-requires-clause-room : goal.keep_ordering-requires-clause-room
keep_ordering-requires-clause-room g c =
    let small : length c.args.audit.now.met.items < 2 ^ 64 = search rules in
    let few = c.loop-rest.invariant.few in
    let some = c.in-len1-up.len_at_least in
    omega (arith, few, some, small)

pub loop-rest-preserved : goal.loop-rest-preserved
loop-rest-preserved g c =
    let shelf = c.args.self.now in
    let audit = c.args.audit.now in
    let folder = shelf.folder.name.now in
    let held = g.F.Files.held in
    let small : length audit.met.items < 2 ^ 64 = search rules in
    let few = c.loop-rest.invariant.few in
    let some = c.in-len1-up.len_at_least in
    let first = first_is c.loop-rest.rest.now _ some in
    let room : c.loop-rest.number + 1 ≤ length audit.met.items = omega (arith, few, some) in
    record {
      shown = one_step shelf.wanted shelf.folder.config shelf.folder.kib shelf.image.now shelf.file.now audit folder (held c.loop-rest.files) (held c.keep_ordering.new.files) (length audit.met.items) c.loop-rest.number _ _ _ _ small room first c.in_ok-number.ensures.kept c.keep_ordering.ensures.spared c.loop-rest.invariant.shown;
      few = few_left _ c.loop-rest.number _ _ _ _ first (few_more shelf.wanted shelf.folder.config shelf.folder.kib shelf.image.now shelf.file.now audit folder (held c.loop-rest.files) (held c.keep_ordering.new.files) c.loop-rest.number _ _ _ c.in_ok-number.ensures.kept) few;
      spared = spares_then (IsNeededFile folder) (held c.args.files.now) (held c.loop-rest.files) (held c.keep_ordering.new.files) c.loop-rest.invariant.spared
          (spares_wider (IsFileOf folder (c.loop-rest.number + 1)) (IsNeededFile folder) (held c.loop-rest.files) (held c.keep_ordering.new.files) (λ name is. (c.loop-rest.number + 1, is)) c.keep_ordering.ensures.spared);
      written = both_stay shelf.wanted.write (held c.args.files.now) (held c.loop-rest.files) (held c.keep_ordering.new.files) c.loop-rest.invariant.written c.in_ok-number.ensures.written;
    }
