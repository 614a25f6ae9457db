-- What a page's fault is not, and what page and telling leave together.
use Rattle.std.proofs.Common.{◌≡◌, ◌⊎◌, ◌∙◌, ℕ, List, Option, ap, inl, inr, sym}
use Rattle.command_files.specs.Contents.{Contents}
use Rattle.command_files.specs.Status.{status_of}
use Rattle.command_files.specs.declared.fault.Fault.{Fault}
use Rattle.command_files.specs.declared.fault.Fault.TheVariants.{CannotWrite, OutOfMemory}
use Rattle.command_settings.specs.declared.wanted.Replay.{Replay}
use Rattle.command_files.specs.TheVariants.{Lenient}
use Rattle.trace_commands.proofs.Told.{telling_never_misused}
use Rattle.trace_commands.specs.Pages.{IsPageFault}

-- no fault of a page is one of words
pub page_never_misused : (held : Contents) (replay : Replay) (old new : Option (List ℕ)) (fault : Fault) → IsPageFault held replay old new fault → status_of fault ≡ 2 → ⊥
page_never_misused held replay old new fault (inl (inl is)) two =
    let bad : 1 ≡ 2 = sym (ap status_of is) ∙ two in cc
page_never_misused held replay old new fault (inl (inr is)) two =
    let bad : 4 ≡ 2 = sym (ap status_of is) ∙ two in cc
page_never_misused held replay old new fault (inr so) two = telling_never_misused held replay Lenient so.between new fault so.behind two
