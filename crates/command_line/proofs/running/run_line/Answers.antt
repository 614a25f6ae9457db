use Rattle.std.proofs.Common.{◌≡◌, ◌≢◌, ◌∙◌, ◌<◌, ◌⊎◌, ℕ, List, Option, arith, inl, inr, refl, rules, subst, sym}
use Rattle.clap.specs.Words.{Text, kind_of}
use Rattle.clap.specs.declared.error.Error.{Error}
use Rattle.clap.specs.declared.error.kind.ErrorKind.{ErrorKind}
use Rattle.clap.specs.declared.error.kind.ErrorKind.TheVariants.{ArgumentConflict, DisplayHelp, DisplayVersion}
use Rattle.command_files.specs.Contents.{Contents}
use Rattle.command_files.specs.Messages.{IsLost, IsToldOf}
use Rattle.command_files.specs.Status.{status_of}
use Rattle.command_files.specs.declared.fault.Fault.{Fault}
use Rattle.command_line.proofs.Leaving.{either_of}
use Rattle.command_line.proofs.Meant.{misused_early, some_states}
use Rattle.command_line.specs.Running.{AreMisused, Came, HasNamed, HasNoted, IsHalfPrinted, IsCarriedOut, IsNotLegal, IsNoted, IsOutOfRange, IsUnprinted}
use Rattle.command_line.specs.Telling.{ComesBeforeFiles, HasFault, HasToldFault, HasToldMisuse, HasToldWant, IsFaultOfCommand, IsNotedAt, LeavesOf}
use Rattle.command_settings.specs.Refusals.{IsFitting, IsForHelp, IsHelp, IsRefused, IsUnfit}
use Rattle.command_settings.specs.Settings.{AreConflicting, IsNamed}
use Rattle.command_settings.specs.declared.wanted.Settings.{Settings}
use Rattle.command_settings.specs.declared.wanted.SettingsError.{SettingsError}
use Rattle.command_settings.specs.declared.wanted.SettingsError.TheVariants.{Usage}
use Rattle.command_line.proofs.running.run_line.Goals as goal
use Rattle.command_line.proofs.running.run_line.Goals.{in-Ok+in-Err, in-Err-NoMemory}

-- a text about the program was asked for: settings that don't go together are no such
is_for_help : (words : List Text) (refusal : SettingsError) (usage : Error) → refusal ≡ Usage usage → IsRefused words refusal → IsHelp (kind_of usage) → IsForHelp words
is_for_help words refusal usage is refused asks =
    let told : IsRefused words (Usage usage) = subst (IsRefused words) is refused in
    elim told [
      | inl kinds ↦ (kinds.0, kinds.1, (kind_of usage, kinds.2, asks))
      | inr conflict ↦ absurd (never (kind_of usage) conflict.0 asks)
    ]
  where
    never : (kind : ErrorKind) → kind ≡ ArgumentConflict → IsHelp kind → ⊥
    never kind is (inl help) = let bad : ArgumentConflict ≡ DisplayHelp = sym is ∙ help in cc
    never kind is (inr version) = let bad : ArgumentConflict ≡ DisplayVersion = sym is ∙ version in cc

refused_words : (words : List Text) (refusal : SettingsError) (usage : Error) → refusal ≡ Usage usage → IsRefused words refusal → ¬ IsHelp (kind_of usage) → IsUnfit words ⊎ HasNamed words AreConflicting
refused_words words refusal usage is refused other =
    let told : IsRefused words (Usage usage) = subst (IsRefused words) is refused in
    elim told [
      | inl kinds ↦ inl (kinds.0, kinds.1, (kind_of usage, kinds.2, other))
      | inr conflict ↦ let found = conflict.1 in inr (found.0, found.1, found.2, found.3)
    ]

misused : (words : List Text) → IsUnfit words ⊎ HasNamed words AreConflicting → IsUnfit words ⊎ HasNamed words AreMisused
misused words (inl unfit) = inl unfit
misused words (inr found) = inr (found.0, found.1, found.2, inl found.3)

either_misuse : (words : List Text) (Other : Type 0) → IsUnfit words ⊎ HasNamed words AreConflicting → IsUnfit words ⊎ HasNamed words AreConflicting ⊎ Other
either_misuse words Other (inl unfit) = inl unfit
either_misuse words Other (inr found) = inr (inl found)

-- settings that go together and are in range
well_used : (wanted : Settings) → (AreConflicting wanted → ⊥) → ¬ IsOutOfRange wanted → ¬ AreMisused wanted
well_used wanted agreeing inside (inl conflict) = agreeing conflict
well_used wanted agreeing inside (inr outside) = inside outside

stopped : (words : List Text) (held left : Contents) (old new : Option (List ℕ)) (wanted : Settings) → IsNamed words wanted → IsFitting words → (new ≡ old) ⊎ IsHalfPrinted held left old new wanted
    → IsUnprinted words held left old new
unfolding IsUnprinted
stopped words held left old new wanted named fitting so = elim so [
  | inl same ↦ inl same
  | inr broken ↦ inr (inr (wanted, named, fitting, broken))
]

lost_as : (before after : Option (List ℕ)) (status n : ℕ) → status ≡ n → 0 < n → n ≢ 2 → (0 < status → status ≢ 2 → IsLost before after status) → IsLost before after n
lost_as before after status n is some other lost = subst (IsLost before after) is (lost (subst (λ (k : ℕ). 0 < k) (sym is) some) (λ two. other (sym is ∙ two)))

-- a fault of what the words name, and its message behind what the command had put there
has_fault : (words : List Text) (held left : Contents) (old new before between after : Option (List ℕ)) (n : ℕ) (wanted : Settings) (fault : Fault) → IsNamed words wanted → IsFitting words → (AreConflicting wanted → ⊥)
    → IsFaultOfCommand held old new wanted fault → LeavesOf held left old new wanted fault → (ComesBeforeFiles wanted fault → left ≡ held) → (IsOutOfRange wanted → status_of fault ≡ 2)
    → IsNotedAt held old new before between wanted fault → IsToldOf fault between after → status_of fault ≡ n → HasNamed words (HasFault held left old new before after n)
has_fault words held left old new before between after n wanted fault named fitting agreeing told leaves untouched outside noted message is = (
  wanted,
  named,
  fitting,
  record {
    fault = fault;
    told = told;
    leaves = leaves;
    untouched = untouched;
    of_status = is;
    inside = λ other. well_used wanted agreeing (λ out. other (sym is ∙ outside out));
    between = between;
    noted = noted;
    message = message;
  },
)

pub carry_out-requires : goal.carry_out-requires
carry_out-requires g c = (search rules, (search rules, some_states _ c.in-Ok.wanted c.in-Ok.ensures.named))

pub returns-in-Ok-Allowed-clause-carried_out : goal.returns-in-Ok-Allowed-clause-carried_out
unfolding IsCarriedOut
returns-in-Ok-Allowed-clause-carried_out g c =
    λ _. inr (c.in-Ok.wanted, c.in-Ok.ensures.named, c.in-Ok.ensures.fitting, (well_used c.in-Ok.wanted c.in-Ok.ensures.agreeing c.in-Ok-Allowed.ensures.inside, subst (Came _ _ _ _ c.in-Ok.wanted) c.in-Ok-Allowed.field-0-is c.in-Ok-Allowed.ensures.came))

pub returns-in-Ok-Allowed-clause-noted : goal.returns-in-Ok-Allowed-clause-noted
unfolding HasNoted
returns-in-Ok-Allowed-clause-noted g c = λ _. inr (c.in-Ok.wanted, c.in-Ok.ensures.named, c.in-Ok.ensures.fitting, subst (λ j. IsNoted (g.F.Files.held c.args.files.now) (g.F.Files.held c.carry_out.new.files) (g.O.Write.contents c.args.out.now) (g.O.Write.contents c.carry_out.new.out) (g.E.Write.contents c.args.err.now) (g.E.Write.contents c.carry_out.new.err) j c.in-Ok.wanted) c.in-Ok-Allowed.field-0-is c.in-Ok-Allowed.ensures.noted)

pub returns-in-Ok-NotAllowed-clause-noted : goal.returns-in-Ok-NotAllowed-clause-noted
returns-in-Ok-NotAllowed-clause-noted g c = λ none. let bad : 3 ≡ 0 = none in cc

pub returns-in-Ok-NotAllowed-clause-judged_noted : goal.returns-in-Ok-NotAllowed-clause-judged_noted
returns-in-Ok-NotAllowed-clause-judged_noted g c = λ _. (c.in-Ok.wanted, c.in-Ok.ensures.named, c.in-Ok.ensures.fitting, subst (λ j. IsNoted (g.F.Files.held c.args.files.now) (g.F.Files.held c.carry_out.new.files) (g.O.Write.contents c.args.out.now) (g.O.Write.contents c.carry_out.new.out) (g.E.Write.contents c.args.err.now) (g.E.Write.contents c.carry_out.new.err) j c.in-Ok.wanted) c.in-Ok-NotAllowed.field-0-is c.in-Ok-NotAllowed.ensures.noted)

pub returns-in-Ok-Allowed-clause-judged_noted : goal.returns-in-Ok-Allowed-clause-judged_noted
returns-in-Ok-Allowed-clause-judged_noted g c = λ three. let bad : 0 ≡ 3 = three in cc

pub returns-in-Err-Usage-clause-noted : goal.returns-in-Err-Usage-clause-noted
unfolding HasNoted
returns-in-Err-Usage-clause-noted g c = λ done. elim (rw c.in-Err-Usage.field-0-is at c.explain.ensures.help) [
  | inl two ↦ let no : 0 ≡ 2 = sym done ∙ two in cc
  | inr asks ↦ inl (is_for_help _ c.in-Err-Usage.field-0 c.in-Err-Usage.usage c.in-Err-Usage.field-0-is c.in-Err-Usage.ensures.refused asks, c.explain.ensures.silent done)
]

pub returns-in-Ok-NotAllowed-clause-not_legal : goal.returns-in-Ok-NotAllowed-clause-not_legal
unfolding IsNotLegal
returns-in-Ok-NotAllowed-clause-not_legal g c =
    λ _. (c.in-Ok.wanted, c.in-Ok.ensures.named, c.in-Ok.ensures.fitting, (well_used c.in-Ok.wanted c.in-Ok.ensures.agreeing c.in-Ok-NotAllowed.ensures.inside, subst (Came _ _ _ _ c.in-Ok.wanted) c.in-Ok-NotAllowed.field-0-is c.in-Ok-NotAllowed.ensures.came))

-- what isn't allowed has not the status 0, and what is allowed not 3
pub returns-in-Ok-NotAllowed-clause-carried_out : goal.returns-in-Ok-NotAllowed-clause-carried_out
returns-in-Ok-NotAllowed-clause-carried_out g c = λ none. let bad : 3 ≡ 0 = none in cc

pub returns-in-Ok-Allowed-clause-not_legal : goal.returns-in-Ok-Allowed-clause-not_legal
returns-in-Ok-Allowed-clause-not_legal g c = λ three. let bad : 0 ≡ 3 = three in cc

pub returns-in-Ok-Allowed-clause-spared : goal.returns-in-Ok-Allowed-clause-spared
returns-in-Ok-Allowed-clause-spared g c = λ name changed. (c.in-Ok.wanted, c.in-Ok.ensures.named, c.in-Ok.ensures.fitting, c.in-Ok-Allowed.ensures.spared name changed)

pub returns-in-Ok-NotAllowed-clause-spared : goal.returns-in-Ok-NotAllowed-clause-spared
returns-in-Ok-NotAllowed-clause-spared g c =
    λ name changed. (c.in-Ok.wanted, c.in-Ok.ensures.named, c.in-Ok.ensures.fitting, c.in-Ok-NotAllowed.ensures.spared name changed)

pub returns-in-Err-Usage-clause-carried_out : goal.returns-in-Err-Usage-clause-carried_out
unfolding IsCarriedOut
returns-in-Err-Usage-clause-carried_out g c = λ done. elim (rw c.in-Err-Usage.field-0-is at c.explain.ensures.help) [
  | inl two ↦ let no : 0 ≡ 2 = sym done ∙ two in cc
  | inr asks ↦ inl (is_for_help _ c.in-Err-Usage.field-0 c.in-Err-Usage.usage c.in-Err-Usage.field-0-is c.in-Err-Usage.ensures.refused asks)
]

pub returns-in-Err-Usage-clause-unprinted : goal.returns-in-Err-Usage-clause-unprinted
unfolding IsUnprinted
returns-in-Err-Usage-clause-unprinted g c = λ some other. elim (rw c.in-Err-Usage.field-0-is at c.explain.ensures.help) [
  | inl two ↦ inl ((c.explain.ensures.misused two).1)
  | inr asks ↦ inr (inl (is_for_help _ c.in-Err-Usage.field-0 c.in-Err-Usage.usage c.in-Err-Usage.field-0-is c.in-Err-Usage.ensures.refused asks))
]

pub returns-clause-unprinted : goal.returns-clause-unprinted
unfolding IsUnprinted
returns-clause-unprinted g c = λ some other. elim c.match-settings.branch [
  | in-Ok+in-Err w ↦ rw (w.out-is, w.files-is) (stopped _ _ _ _ _ w.in-Ok.wanted w.in-Ok.ensures.named w.in-Ok.ensures.fitting (either_of _ _ _ _ w.in-Ok.wanted w.in-Err.fault w.in-Err.ensures.leaves))
  | in-Err-NoMemory w ↦ rw (w.out-is) (inl refl)
]

pub returns-in-Err-Usage-clause-misused : goal.returns-in-Err-Usage-clause-misused
returns-in-Err-Usage-clause-misused g c = λ two.
    let told = rw c.in-Err-Usage.field-0-is at c.explain.ensures.misused two in
    (misused _ (refused_words _ c.in-Err-Usage.field-0 c.in-Err-Usage.usage c.in-Err-Usage.field-0-is c.in-Err-Usage.ensures.refused told.0), told.1)

pub returns-clause-misused : goal.returns-clause-misused
returns-clause-misused g c = λ two. elim c.match-settings.branch [
  | in-Ok+in-Err w ↦ rw (w.out-is)
      (let told = w.in-Err.ensures.beyond (rw (← w.fault-is) (sym c.tell.ensures.status ∙ two)) in (inr (w.in-Ok.wanted, w.in-Ok.ensures.named, w.in-Ok.ensures.fitting, inr told.0), told.1))
  | in-Err-NoMemory w ↦
      let four : c.tell.result ≡ 4 = rw w.fault-is at c.tell.ensures.status in
      let bad : 4 ≡ 2 = sym four ∙ two in cc
]

pub returns-clause-spared : goal.returns-clause-spared
returns-clause-spared g c = elim c.match-settings.branch [
  | in-Ok+in-Err w ↦ rw (w.files-is) (λ name changed. (w.in-Ok.wanted, w.in-Ok.ensures.named, w.in-Ok.ensures.fitting, w.in-Err.ensures.spared name changed))
  | in-Err-NoMemory w ↦ rw (w.files-is) (λ name other. absurd (other refl))
]

-- a fault of status 2 comes before any file is written
pub returns-clause-untouched : goal.returns-clause-untouched
returns-clause-untouched g c = λ two. elim c.match-settings.branch [
  | in-Ok+in-Err w ↦ rw (w.files-is) (w.in-Err.ensures.untouched (misused_early w.in-Ok.wanted w.in-Err.fault (rw (← w.fault-is) (sym c.tell.ensures.status ∙ two))))
  | in-Err-NoMemory w ↦ rw (w.files-is) refl
]

-- words that fit are carried out, and others are told of with status 2
pub returns-in-Ok-Allowed-clause-unfit : goal.returns-in-Ok-Allowed-clause-unfit
returns-in-Ok-Allowed-clause-unfit g c = λ unfit no_help. absurd (unfit c.in-Ok.ensures.fitting)

pub returns-in-Ok-NotAllowed-clause-unfit : goal.returns-in-Ok-NotAllowed-clause-unfit
returns-in-Ok-NotAllowed-clause-unfit g c = λ unfit no_help. absurd (unfit c.in-Ok.ensures.fitting)

pub returns-in-Err-Usage-clause-unfit : goal.returns-in-Err-Usage-clause-unfit
returns-in-Err-Usage-clause-unfit g c = λ unfit no_help. elim (rw c.in-Err-Usage.field-0-is at c.explain.ensures.help) [
  | inl two ↦ inl two
  | inr asks ↦ absurd (no_help (is_for_help _ c.in-Err-Usage.field-0 c.in-Err-Usage.usage c.in-Err-Usage.field-0-is c.in-Err-Usage.ensures.refused asks))
]

pub returns-clause-unfit : goal.returns-clause-unfit
returns-clause-unfit g c = λ unfit no_help. elim c.match-settings.branch [
  | in-Ok+in-Err w ↦ absurd (unfit w.in-Ok.ensures.fitting)
  | in-Err-NoMemory w ↦
      let four : c.tell.result ≡ 4 = rw w.fault-is at c.tell.ensures.status in inr four
]

-- status 1 is that of a fault of what the words name, or of help that did not go out
pub returns-in-Ok-Allowed-clause-faulted : goal.returns-in-Ok-Allowed-clause-faulted
returns-in-Ok-Allowed-clause-faulted g c = λ one. let bad : 0 ≡ 1 = one in cc

pub returns-in-Ok-NotAllowed-clause-faulted : goal.returns-in-Ok-NotAllowed-clause-faulted
returns-in-Ok-NotAllowed-clause-faulted g c = λ one. let bad : 3 ≡ 1 = one in cc

pub returns-in-Err-Usage-clause-faulted : goal.returns-in-Err-Usage-clause-faulted
unfolding HasToldFault
returns-in-Err-Usage-clause-faulted g c = λ one. elim (rw c.in-Err-Usage.field-0-is at c.explain.ensures.help) [
  | inl two ↦ let no : 1 ≡ 2 = sym one ∙ two in cc
  | inr asks ↦ inl (is_for_help _ c.in-Err-Usage.field-0 c.in-Err-Usage.usage c.in-Err-Usage.field-0-is c.in-Err-Usage.ensures.refused asks, lost_as _ _ c.explain.result 1 one (omega arith) (λ bad. cc) c.explain.ensures.lost)
]

pub returns-clause-faulted : goal.returns-clause-faulted
unfolding HasToldFault
returns-clause-faulted g c = λ one. elim c.match-settings.branch [
  | in-Ok+in-Err w ↦ rw (w.out-is, w.files-is) (inr (has_fault _ _ _ _ _ _ _ _ 1 w.in-Ok.wanted w.in-Err.fault w.in-Ok.ensures.named w.in-Ok.ensures.fitting w.in-Ok.ensures.agreeing w.in-Err.ensures.told w.in-Err.ensures.leaves
      w.in-Err.ensures.untouched w.in-Err.ensures.outside w.in-Err.ensures.silent (rw (w.fault-is, w.err-is) at c.tell.ensures.told) (rw (← w.fault-is) (sym c.tell.ensures.status ∙ one))))
  | in-Err-NoMemory w ↦
      let four : c.tell.result ≡ 4 = rw w.fault-is at c.tell.ensures.status in
      let bad : 4 ≡ 1 = sym four ∙ one in cc
]

-- status 4 is that of want of memory, for the words, for help, or for what the words name
pub returns-in-Ok-Allowed-clause-starved : goal.returns-in-Ok-Allowed-clause-starved
returns-in-Ok-Allowed-clause-starved g c = λ four. let bad : 0 ≡ 4 = four in cc

pub returns-in-Ok-NotAllowed-clause-starved : goal.returns-in-Ok-NotAllowed-clause-starved
returns-in-Ok-NotAllowed-clause-starved g c = λ four. let bad : 3 ≡ 4 = four in cc

pub returns-in-Err-Usage-clause-starved : goal.returns-in-Err-Usage-clause-starved
unfolding HasToldWant HasToldFault
returns-in-Err-Usage-clause-starved g c = λ four. elim (rw c.in-Err-Usage.field-0-is at c.explain.ensures.help) [
  | inl two ↦ let no : 4 ≡ 2 = sym four ∙ two in cc
  | inr asks ↦ inr (inl (is_for_help _ c.in-Err-Usage.field-0 c.in-Err-Usage.usage c.in-Err-Usage.field-0-is c.in-Err-Usage.ensures.refused asks, lost_as _ _ c.explain.result 4 four (omega arith) (λ bad. cc) c.explain.ensures.lost))
]

pub returns-clause-starved : goal.returns-clause-starved
unfolding HasToldWant HasToldFault
returns-clause-starved g c = λ four. elim c.match-settings.branch [
  | in-Ok+in-Err w ↦ rw (w.out-is, w.files-is) (inr (inr (has_fault _ _ _ _ _ _ _ _ 4 w.in-Ok.wanted w.in-Err.fault w.in-Ok.ensures.named w.in-Ok.ensures.fitting w.in-Ok.ensures.agreeing w.in-Err.ensures.told w.in-Err.ensures.leaves
      w.in-Err.ensures.untouched w.in-Err.ensures.outside w.in-Err.ensures.silent (rw (w.fault-is, w.err-is) at c.tell.ensures.told) (rw (← w.fault-is) (sym c.tell.ensures.status ∙ four)))))
  | in-Err-NoMemory w ↦ rw (w.out-is, w.files-is) (inl (record { stays = refl; unprinted = refl; message = rw (w.fault-is, w.err-is) at c.tell.ensures.told }))
]

-- status 2 is that of words that don't fit, or of a fault of what they name
pub returns-in-Ok-Allowed-clause-refused : goal.returns-in-Ok-Allowed-clause-refused
returns-in-Ok-Allowed-clause-refused g c = λ two. let bad : 0 ≡ 2 = two in cc

pub returns-in-Ok-NotAllowed-clause-refused : goal.returns-in-Ok-NotAllowed-clause-refused
returns-in-Ok-NotAllowed-clause-refused g c = λ two. let bad : 3 ≡ 2 = two in cc

pub returns-in-Err-Usage-clause-refused : goal.returns-in-Err-Usage-clause-refused
unfolding HasToldMisuse
returns-in-Err-Usage-clause-refused g c = λ two.
    let told = rw c.in-Err-Usage.field-0-is at c.explain.ensures.misused two in
    either_misuse _ _ (refused_words _ c.in-Err-Usage.field-0 c.in-Err-Usage.usage c.in-Err-Usage.field-0-is c.in-Err-Usage.ensures.refused told.0)

pub returns-clause-refused : goal.returns-clause-refused
unfolding HasToldMisuse
returns-clause-refused g c = λ two. elim c.match-settings.branch [
  | in-Ok+in-Err w ↦ rw (w.out-is, w.files-is) (inr (inr (has_fault _ _ _ _ _ _ _ _ 2 w.in-Ok.wanted w.in-Err.fault w.in-Ok.ensures.named w.in-Ok.ensures.fitting w.in-Ok.ensures.agreeing w.in-Err.ensures.told w.in-Err.ensures.leaves
      w.in-Err.ensures.untouched w.in-Err.ensures.outside w.in-Err.ensures.silent (rw (w.fault-is, w.err-is) at c.tell.ensures.told) (rw (← w.fault-is) (sym c.tell.ensures.status ∙ two)))))
  | in-Err-NoMemory w ↦
      let four : c.tell.result ≡ 4 = rw w.fault-is at c.tell.ensures.status in
      let bad : 4 ≡ 2 = sym four ∙ two in cc
]
