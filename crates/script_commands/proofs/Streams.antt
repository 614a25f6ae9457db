-- What of a stream went out before a last flush, and how its end is told.
use Rattle.std.proofs.Common.{◌≡◌, ◌⊎◌, ℕ, Bool, Err, IfErr, IsErrAnd, List, [], Ok, OnOk, Option, Result, ap, inl, inr, refl, subst, sym}
use Rattle.std.specs.Io.KnownBytes.{Appends, Keeps}
use Rattle.event_stream.specs.Machine.{Refuses}
use Rattle.elf_loader.specs.Image.{Initial}
use Rattle.event_stream.specs.Reports.{StreamEnding, ending}
use Rattle.event_stream.specs.Streams.{stream_up_to}
use Rattle.event_stream.specs.Writing.{IsCut, IsStreamUnfinished, IsWholeStream}
use Rattle.event_stream.specs.declared.errors.StreamError.{StreamError}
use Rattle.event_stream.specs.declared.errors.StreamError.TheVariants as stream
use Rattle.event_stream.specs.declared.strictness.Strictness.{Strictness}
use Rattle.machine_types.specs.declared.config.Config.{Config}
use Rattle.machine_types.specs.declared.event.Event.{Event}
use Rattle.event_stream.specs.Events.{Verdict}
use Rattle.event_stream.specs.Events.Verdict.{Keeps as Stays}
use Rattle.event_stream.specs.Views.{State, opening}
use Rattle.event_stream.specs.ApplyErrorVariants as applying
use Rattle.text_fields.specs.Writing.{Begins}
use Rattle.text_fields.proofs.Written.{appends_none, appends_then, begins_first, begins_then}
use Rattle.trace_text.specs.declared.script.Script.{Script}
use Rattle.command_files.specs.Sizes.{config_of}
use Rattle.command_files.specs.Files.{HoldsScript}
use Rattle.elf_symbols.specs.Named.{Named}
use Rattle.command_files.specs.Named.{HoldsNamedImage}
use Rattle.command_files.specs.Contents.{Contents}
use Rattle.script_commands.specs.Explaining.{IsExplainFault, IsPartOfStream, IsWholeExplanation, LeavesOfStream, explanation, state_behind, state_if}
use Rattle.command_files.specs.Faults.{Name}
use Rattle.command_files.specs.Status.{IsStreamFault}
use Rattle.command_files.specs.declared.fault.Fault.{Fault}
use Rattle.command_files.specs.declared.fault.Fault.TheVariants.{CannotWrite, OutOfMemory}
use Rattle.command_settings.specs.declared.wanted.Replay.{Replay}
use Rattle.command_files.proofs.Written.{all_begun, kept_on}

begun_on : (old mid new : Option (List ℕ)) (text : List ℕ) → Begins old mid text → Keeps mid new → Begins old new text
begun_on old mid new text begun kept = record {
  front = begun.front;
  rest = begun.rest;
  parts = begun.parts;
  sent = kept_on old mid new begun.front begun.sent kept;
}

module _ (names : List Named) (strictness : Strictness) (with_state : Bool) (image : Initial) (config : Config) (events : List Event) where
  -- ---- the stream, and what the machine holds behind it

  -- a beginning of the stream is one of all
  pub part_of_stream : (old new : Option (List ℕ)) (error : StreamError) → IsStreamUnfinished names strictness image config events old new error → IsPartOfStream names strictness with_state image config events old new error
  part_of_stream old new stream.NoMemory so = subst (λ (o : Option (List ℕ)). Appends old o []) (sym so) (appends_none old)
  part_of_stream old new (stream.Refused index error) so = so
  part_of_stream old new (stream.Idle index outcome) so = so
  part_of_stream old new (stream.Writing error) so = begins_first old new _ _ so

  held_at_end : (s : State) → ending strictness 0 (opening image config) events ≡ StreamEnding.Reached s → state_if with_state s ≡ state_behind with_state (ending strictness 0 (opening image config) events)
  held_at_end s leads = sym (ap (state_behind with_state) leads)

  pub with_its_state : (old mid new : Option (List ℕ)) (s : State) → IsWholeStream names strictness image config events old mid s → Appends mid new (state_if with_state s) → IsWholeExplanation names strictness with_state image config events old new
  with_its_state old mid new s whole now = record {
    reached = s;
    leads = whole.leads;
    sent = appends_then old mid new _ _ whole.sent (subst (Appends mid new) (held_at_end s whole.leads) now);
  }

  pub part_of_state : (old mid new : Option (List ℕ)) (s : State) → IsWholeStream names strictness image config events old mid s → Begins mid new (state_if with_state s) → Begins old new (explanation names strictness with_state image config events)
  part_of_state old mid new s whole now = begins_then old mid new _ _ whole.sent (subst (Begins mid new) (held_at_end s whole.leads) now)

  -- ---- behind a last flush

  cut_on : (old mid new : Option (List ℕ)) (index : ℕ) (IsSuch : Verdict → Type 0) → Keeps mid new → IsCut strictness (opening image config) events index IsSuch (stream_up_to names strictness image config) old mid
      → IsCut strictness (opening image config) events index IsSuch (stream_up_to names strictness image config) old new
  cut_on old mid new index IsSuch kept cut = record {
    before = cut.before;
    event = cut.event;
    later = cut.later;
    state = cut.state;
    whole = cut.whole;
    place = cut.place;
    leads = cut.leads;
    such = cut.such;
    sent = kept_on old mid new _ cut.sent kept;
  }

  pub part_on : (old mid new : Option (List ℕ)) (error : StreamError) → Keeps mid new → IsPartOfStream names strictness with_state image config events old mid error → IsPartOfStream names strictness with_state image config events old new error
  part_on old mid new stream.NoMemory kept so = kept_on old mid new [] so kept
  part_on old mid new (stream.Refused index error) kept so = cut_on old mid new index (Refuses error) kept so
  part_on old mid new (stream.Idle index outcome) kept so = (so.0, cut_on old mid new index (λ v. v ≡ Stays outcome) kept so.1)
  part_on old mid new (stream.Writing error) kept so = begun_on old mid new _ so kept

  -- whatever became of it, where what went out last was not passed on
  pub part_of : (old mid new : Option (List ℕ)) (told : Result (Unit {0}) StreamError) (lost : StreamError) → (Begins old new (explanation names strictness with_state image config events) → IsPartOfStream names strictness with_state image config events old new lost) → Keeps mid new
      → OnOk told (IsWholeExplanation names strictness with_state image config events old mid) → IfErr told (IsPartOfStream names strictness with_state image config events old mid) → (error : StreamError) × IsPartOfStream names strictness with_state image config events old new error
  part_of old mid new (Ok _) lost begun kept whole so = (lost, begun (all_begun old mid new _ whole.sent kept))
  part_of old mid new (Err error) lost begun kept whole so = (error, part_on old mid new error kept so)

-- an error that is passed on
pub passed_on : {T : Type 0} (P : StreamError → Type 0) (r : Result T StreamError) (error : StreamError) → IsErrAnd r (λ told. told ≡ error) → P error → IfErr r P
passed_on P (Ok x) error is so = absurd is
passed_on P (Err told) error is so = subst P (sym is) so

-- of the configuration and events that the script names
pub part_at : (names : List Named) (strictness : Strictness) (with_state : Bool) (image : Initial) (config wanted : Config) (events given : List Event) (old new : Option (List ℕ)) (error : StreamError) → config ≡ wanted → events ≡ given
    → IsPartOfStream names strictness with_state image config events old new error → IsPartOfStream names strictness with_state image wanted given old new error
part_at names strictness with_state image config wanted events given old new error same_config same_events part =
    subst (λ (c : Config). IsPartOfStream names strictness with_state image c given old new error) same_config
    (subst (λ (e : List Event). IsPartOfStream names strictness with_state image config e old new error) same_events part)

pub whole_at : (names : List Named) (strictness : Strictness) (with_state : Bool) (image : Initial) (config wanted : Config) (events given : List Event) (old mid new : Option (List ℕ)) → config ≡ wanted → events ≡ given → Keeps mid new
    → IsWholeExplanation names strictness with_state image config events old mid → IsWholeExplanation names strictness with_state image wanted given old new
whole_at names strictness with_state image config wanted events given old mid new same_config same_events kept whole =
    let here : IsWholeExplanation names strictness with_state image config events old new = record { reached = whole.reached; leads = whole.leads; sent = kept_on old mid new _ whole.sent kept } in
    subst (λ (c : Config). IsWholeExplanation names strictness with_state image c given old new) same_config
    (subst (λ (e : List Event). IsWholeExplanation names strictness with_state image config e old new) same_events here)

-- what a stream's end is told as
pub told_as : (names : List Named) (held : Contents) (replay : Replay) (strictness : Strictness) (with_state : Bool) (script : Script) (image : Initial) (old new : Option (List ℕ)) (error : StreamError) (fault : Fault)
    → HoldsScript held replay.script.now script → HoldsNamedImage held replay.raw replay.image.now script.kib image names
    → IsPartOfStream names strictness with_state image (config_of script replay.model) script.events old new error
    → IsStreamFault replay.script error fault → IsExplainFault held replay strictness old new fault
told_as names held replay strictness with_state script image old new stream.NoMemory fault script_file image_file part told = subst (IsExplainFault held replay strictness old new) (sym told) tt
told_as names held replay strictness with_state script image old new (stream.Refused index applying.NoMemory) fault script_file image_file part told = subst (IsExplainFault held replay strictness old new) (sym told) tt
told_as names held replay strictness with_state script image old new (stream.Refused index applying.BadEvent) fault script_file image_file part told =
    subst (IsExplainFault held replay strictness old new) (sym told)
    (refl, record { script = script; image = image; names = names; script_file = script_file; image_file = image_file; index = index; place = refl; cut = part })
told_as names held replay strictness with_state script image old new (stream.Refused index applying.Limit) fault script_file image_file part told =
    subst (IsExplainFault held replay strictness old new) (sym told)
    (refl, record { script = script; image = image; names = names; script_file = script_file; image_file = image_file; index = index; place = refl; cut = part })
told_as names held replay strictness with_state script image old new (stream.Idle index outcome) fault script_file image_file part told =
    subst (IsExplainFault held replay strictness old new) (sym told)
    (refl, (part.0, record { script = script; image = image; names = names; script_file = script_file; image_file = image_file; index = index; place = refl; cut = part.1 }))
told_as names held replay strictness with_state script image old new (stream.Writing error) fault script_file image_file part told = elim told.0 [
  | inl at ↦ subst (IsExplainFault held replay strictness old new) (sym at) tt
  | inr at ↦ subst (IsExplainFault held replay strictness old new) (sym at) tt
]

pub lost_told : (held : Contents) (replay : Replay) (strictness : Strictness) (old new : Option (List ℕ)) (fault : Fault) → (fault ≡ CannotWrite) ⊎ (fault ≡ OutOfMemory) → IsExplainFault held replay strictness old new fault
lost_told held replay strictness old new fault is = elim is [
  | inl at ↦ subst (IsExplainFault held replay strictness old new) (sym at) tt
  | inr at ↦ subst (IsExplainFault held replay strictness old new) (sym at) tt
]

-- ---- what a fault leaves

-- the fault of a writer leaves what was cut off
pub lost_left : (old new : Option (List ℕ)) (cut : Type 0) (fault : Fault) → (fault ≡ CannotWrite) ⊎ (fault ≡ OutOfMemory) → cut → LeavesOfStream fault old new cut
lost_left old new cut fault is so = elim is [
  | inl at ↦ subst (λ f. LeavesOfStream f old new cut) (sym at) so
  | inr at ↦ subst (λ f. LeavesOfStream f old new cut) (sym at) (inr so)
]

-- and so does what a stream's end is told as
pub cut_left : (script : Name) (old new : Option (List ℕ)) (cut : Type 0) (error : StreamError) (fault : Fault) → IsStreamFault script error fault → cut → LeavesOfStream fault old new cut
cut_left script old new cut stream.NoMemory fault told so = subst (λ f. LeavesOfStream f old new cut) (sym told) (inr so)
cut_left script old new cut (stream.Refused index applying.NoMemory) fault told so = subst (λ f. LeavesOfStream f old new cut) (sym told) (inr so)
cut_left script old new cut (stream.Refused index applying.BadEvent) fault told so = subst (λ f. LeavesOfStream f old new cut) (sym told) so
cut_left script old new cut (stream.Refused index applying.Limit) fault told so = subst (λ f. LeavesOfStream f old new cut) (sym told) so
cut_left script old new cut (stream.Idle index outcome) fault told so = subst (λ f. LeavesOfStream f old new cut) (sym told) so
cut_left script old new cut (stream.Writing error) fault told so = lost_left old new cut fault told.0 so
