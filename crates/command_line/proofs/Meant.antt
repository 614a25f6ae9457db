-- What the words' settings allow to be done, and what faults say of them.
use Rattle.std.proofs.Common.{Err, IfErr, Ok, Result, ◌≡◌, ◌≢◌, ◌∙◌, ◌⊎◌, ◌∷◌, ◌++◌, ℕ, [], Bool, IsSomeAnd, List, None, Option, Some, arith, false, true, inl, inr, subst, sym, ap, refl}
use Rattle.std.proofs.lemmas.Bool.{false≢true}
use Rattle.std.proofs.lemmas.Slice.Eq.{bytes_eq-Decides}
use Rattle.std.specs.Str.{bytes_eq}
use Rattle.explore_command.specs.Searching.{IsSearchFault}
use Rattle.command_files.specs.Addresses.{address}
use Rattle.script_commands.specs.Charting.{IsNoAddress}
use Rattle.clap.specs.Words.{Text}
use Rattle.command_files.proofs.Left.{only_configuration}
use Rattle.command_files.specs.Faults.{LeavesAtFault, Name}
use Rattle.command_files.specs.Contents.{Contents}
use Rattle.command_files.specs.Sizes.{IsOutside}
use Rattle.command_files.specs.Status.{status_of}
use Rattle.command_files.specs.declared.fault.Fault.{Fault}
use Rattle.command_files.specs.declared.fault.Fault.TheVariants.{BadAddress, BadEvent, BytesAfterTrace, CannotMake, CannotRead, CannotShow, CannotWrite, Check as NoOrder, Configuration, Event, Image, Mismatch, NoThread, NothingHappens, OtherImage, OutOfMemory, Text as NoText, TooManyRows}
use Rattle.command_files.specs.declared.fault.Unshown.{Unshown}
use Rattle.command_line.specs.Running.{MeetsSomeState, ShowsElsewhere}
use Rattle.command_line.specs.Telling.{ComesBeforeFiles, IsShowingFault}
use Rattle.command_settings.specs.Settings.{IsNamed}
use Rattle.command_settings.specs.declared.wanted.Explore.{Explore as Sought}
use Rattle.command_settings.specs.declared.wanted.Audit.{Audit}
use Rattle.command_settings.specs.declared.wanted.Run.{Run as Asked}
use Rattle.command_settings.specs.declared.wanted.Settings.{Settings}
use Rattle.command_settings.specs.declared.wanted.Show.{Show as Shown}
use Rattle.command_settings.specs.declared.wanted.Settings.TheVariants.{Chart, Check, Explain, Explore, Fences, Page, Replay, Run, Show}
use Rattle.explore_command.specs.Exploring.{IsExploreFault, LeavesPart}
use Rattle.explore_command.specs.Keeping.{SparesOthers}
use Rattle.fences_command.specs.Fencing.{HasUnshown as LacksWord, IsFencesFault}
use Rattle.run_command.specs.Running.{IsRunFault}
use Rattle.explore_command.specs.Asking.{HasUnshown}

-- the words give an exploration a state at least
pub some_states : (words : List Text) (wanted : Settings) → IsNamed words wanted → MeetsSomeState wanted
some_states words (Explore explore) named = omega (arith, named.5.0.1.states.1)
some_states words (Show show) named = omega (arith, named.5.1.explore.states.1)
some_states words (Replay replay) named = tt
some_states words (Explain explain) named = tt
some_states words (Chart chart) named = tt
some_states words (Page replay) named = tt
some_states words (Run run) named = tt
some_states words (Fences audit) named = omega (arith, named.5.1.fences.states.1)
some_states words (Check check) named = tt

-- a fault of status 2 tells of a machine that can't be, and leaves the output as it was
pub beyond_run : (held : Contents) (old new : Option (List ℕ)) (run : Asked) (broken : Type 0) (fault : Fault) → IsRunFault held run fault → LeavesAtFault fault old new broken → status_of fault ≡ 2
    → IsOutside run.machine × (new ≡ old)
beyond_run held old new run broken fault told leaves two =
    let at = only_configuration fault (λ word address. subst (IsRunFault held run) address told) (λ word cause shown. subst (IsRunFault held run) shown told) two in
    (subst (IsRunFault held run) at told, subst (λ f. LeavesAtFault f old new broken) at leaves)

pub beyond_explore : (held : Contents) (old new : Option (List ℕ)) (explore : Sought) (Has : (List ℕ → Type 0) → Type 0) (fault : Fault) → IsExploreFault held explore fault → LeavesPart fault old new Has → status_of fault ≡ 2
    → IsOutside explore.machine × (new ≡ old)
beyond_explore held old new explore Has fault told leaves two =
    let at = only_configuration fault (λ word address. subst (IsExploreFault held explore) address told) (λ word cause shown. subst (IsExploreFault held explore) shown told) two in
    (subst (IsExploreFault held explore) at told, subst (λ f. LeavesPart f old new Has) at leaves)

-- what an image hasn't is a fault of status 1
one_is_not_two : (fault other : Fault) → fault ≡ other → status_of other ≡ 1 → status_of fault ≡ 2 → ⊥
one_is_not_two fault other is one two =
    let bad : 1 ≡ 2 = sym one ∙ (ap status_of (sym is) ∙ two) in cc

unshown_once : (held : Contents) (explore : Sought) (words : List Name) (fault : Fault) → HasUnshown held explore words fault → status_of fault ≡ 2 → ⊥
unshown_once held explore words fault unshown two = elim unshown.unplaced [
  | inl at ↦ one_is_not_two fault _ at.1 refl two
  | inr at ↦ one_is_not_two fault _ at.3 refl two
]

-- where no words are to be shown, none can't be
pub none_unshown : (held : Contents) (explore : Sought) (words : List Name) (fault : Fault) → words ≡ [] → IsSearchFault held explore words fault → IsExploreFault held explore fault
none_unshown held explore words fault none (inl so) = so
none_unshown held explore words fault none (inr unshown) = absurd (behind_none unshown.first.before (unshown.first.whole ∙ none))
  where
    behind_none : (before : List Name) → before ++ unshown.word ∷ unshown.first.later ≡ [] → ⊥
    behind_none [] is = cc
    behind_none (x ∷ xs) is = cc

pub told_alone : {T : Type 0} (r : Result T Fault) (held : Contents) (explore : Sought) (words : List Name) → words ≡ [] → IfErr r (IsSearchFault held explore words) → IfErr r (IsExploreFault held explore)
told_alone (Ok done) held explore words none told = tt
told_alone (Err fault) held explore words none told = none_unshown held explore words fault none told

pub beyond_show : (architecture : Bool) (held : Contents) (old new : Option (List ℕ)) (show : Shown) (Has : (List ℕ → Type 0) → Type 0) (fault : Fault) → IsShowingFault architecture held show fault → LeavesPart fault old new Has → status_of fault ≡ 2
    → (IsOutside show.explore.machine ⊎ ShowsElsewhere architecture show.explore) × (new ≡ old)
beyond_show true held old new show Has fault (inl told) leaves two =
    let it = beyond_explore held old new show.explore Has fault told leaves two in (inl it.0, it.1)
beyond_show true held old new show Has fault (inr unshown) leaves two = absurd (unshown_once held show.explore show.words.items fault unshown two)
beyond_show false held old new show Has fault (inl told) leaves two =
    let it = beyond_explore held old new show.explore Has fault told leaves two in (inl it.0, it.1)
beyond_show false held old new show Has fault (inr (inl unshown)) leaves two = absurd (unshown_once held show.explore show.words.items fault unshown two)
beyond_show false held old new show Has fault (inr (inr (word, first, is, elsewhere))) leaves two = (inr elsewhere, subst (λ f. LeavesPart f old new Has) is leaves)

-- the word names no address
pub no_address : (line : Option Name) (fault : Fault) → IsNoAddress line fault → IsSomeAnd line (λ word. address word.now ≡ None)
no_address None fault is = absurd is
no_address (Some word) fault is = is.0

-- P holds of each fault of status 2
misused_so : (P : Fault → Type 0) → P Configuration → ((word : Name) → P (BadAddress word)) → ((word : Name) (cause : Unshown) → P (CannotShow word cause)) → (fault : Fault) → status_of fault ≡ 2 → P fault
misused_so P size address shown Configuration two = size
misused_so P size address shown (BadAddress word) two = address word
misused_so P size address shown (CannotShow word cause) two = shown word cause
misused_so P size address shown CannotWrite two = cc
misused_so P size address shown OutOfMemory two = cc
misused_so P size address shown (CannotRead file) two = cc
misused_so P size address shown (CannotMake file) two = cc
misused_so P size address shown (Image file error) two = cc
misused_so P size address shown (NoText file error) two = cc
misused_so P size address shown (Event file line error) two = cc
misused_so P size address shown (BytesAfterTrace file) two = cc
misused_so P size address shown (NothingHappens file line outcome) two = cc
misused_so P size address shown (NoOrder file error) two = cc
misused_so P size address shown (OtherImage file place) two = cc
misused_so P size address shown (TooManyRows file) two = cc
misused_so P size address shown NoThread two = cc
misused_so P size address shown Mismatch two = cc
misused_so P size address shown BadEvent two = cc

-- an audit has one of a machine that can't be alone
word_is_lacked : (held : Contents) (audit : Audit) (fault : Fault) → LacksWord held audit fault → status_of fault ≡ 2 → ⊥
word_is_lacked held audit fault unshown two = elim unshown.unplaced [
  | inl at ↦ one_is_not_two fault _ at.1 refl two
  | inr at ↦ one_is_not_two fault _ at.3 refl two
]

pub beyond_fences : (held : Contents) (old new : Option (List ℕ)) (audit : Audit) (Has : (List ℕ → Type 0) → Type 0) (fault : Fault) → IsFencesFault held audit fault → LeavesPart fault old new Has → status_of fault ≡ 2
    → IsOutside audit.fences.machine × (new ≡ old)
beyond_fences held old new audit Has fault told leaves two =
    misused_so (λ (f : Fault). IsFencesFault held audit f → LeavesPart f old new Has → status_of f ≡ 2 → IsOutside audit.fences.machine × (new ≡ old)) (λ told leaves two. (told, leaves)) (λ word told leaves two. absurd told)
    (λ word cause told leaves two. absurd (word_is_lacked held audit (CannotShow word cause) told two)) fault two told leaves two

-- it comes before any file is written
pub misused_early : (wanted : Settings) (fault : Fault) → status_of fault ≡ 2 → ComesBeforeFiles wanted fault
misused_early (Run run) fault two = misused_so (ComesBeforeFiles (Run run)) tt (λ _. tt) (λ _ _. tt) fault two
misused_early (Explore explore) fault two = misused_so (ComesBeforeFiles (Explore explore)) tt (λ _. tt) (λ _ _. tt) fault two
misused_early (Show show) fault two = misused_so (ComesBeforeFiles (Show show)) tt (λ _. tt) (λ _ _. tt) fault two
misused_early (Replay replay) fault two = tt
misused_early (Explain explain) fault two = tt
misused_early (Chart chart) fault two = tt
misused_early (Page replay) fault two = tt
misused_early (Fences audit) fault two = misused_so (ComesBeforeFiles (Fences audit)) tt (λ _. tt) (λ _ _. tt) fault two
misused_early (Check check) fault two = tt

-- a file that changed is one of those that are written
pub written : (held left : Contents) (IsWritten : Text → Type 0) → SparesOthers IsWritten held left → (name : Text) → left name ≢ held name → IsWritten name
written held left IsWritten spares name changed = elim (spares name) [
  | inl same ↦ absurd (changed same)
  | inr so ↦ so
]

-- no file changed
pub unwritten : (held left : Contents) (IsWritten : Text → Type 0) → left ≡ held → (name : Text) → left name ≢ held name → IsWritten name
unwritten held left IsWritten same name changed = absurd (changed (ap (λ (h : Contents). h name) same))

-- none but the journal, where the program stays
pub journal_alone : (held left : Contents) (journal program : Text) → ((other : Text) → other ≢ journal → left other ≡ held other) → left program ≡ held program → (name : Text) → left name ≢ held name → (name ≡ journal) × (name ≢ program)
journal_alone held left journal program others stays name changed = (go (bytes_eq name journal) refl, λ is. changed (subst (λ (n : Text). left n ≡ held n) (sym is) stays))
  where
    go : (b : Bool) → bytes_eq name journal ≡ b → name ≡ journal
    go true same = (bytes_eq-Decides name journal).0 same
    go false other = absurd (changed (others name (λ same. false≢true (sym other ∙ (bytes_eq-Decides name journal).1 same))))
