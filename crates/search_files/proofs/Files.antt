-- Files that were written stay where further ones are written, and which files that leaves.
use Rattle.std.proofs.Common.{◌≡◌, ◌≢◌, ◌∙◌, ◌⊎◌, [], Bool, Err, IfSome, List, None, Ok, OnOk, Option, Result, Some, ap, false, inl, inr, refl, subst, sym, true, ℕ}
use Rattle.std.specs.Io.KnownBytes.{Appends}
use Rattle.std.specs.List.{AllByRecursion}
use Rattle.std.specs.Str.{bytes_eq}
use Rattle.std.proofs.lemmas.List.{append-nil}
use Rattle.std.proofs.lemmas.Slice.Eq.{bytes_eq-Decides}
use Rattle.command_files.proofs.Limits.{script_within}
use Rattle.command_files.specs.Allowing.{IsNamedBy}
use Rattle.command_files.specs.Contents.{Contents, HoldsBytes}
use Rattle.command_files.specs.Faults.{Name}
use Rattle.command_files.specs.Files.{HoldsScript, HoldsTrace}
use Rattle.command_files.specs.Sizes.{script_for}
use Rattle.command_files.specs.declared.fault.Fault.{Fault}
use Rattle.command_files.specs.declared.fault.Fault.TheVariants.{CannotWrite, OutOfMemory}
use Rattle.elf_loader.specs.Size.{IsMemoryKib}
use Rattle.machine_types.specs.declared.config.Config.{Config}
use Rattle.machine_types.specs.declared.event.Event.{Event}
use Rattle.search_files.specs.Faults.{ComesBeforeScripts, IsFolderFault, LeavesPart}
use Rattle.search_files.specs.Folders.{FileName, SparesOthers}
use Rattle.text_fields.specs.Writing.{Begins}
use Rattle.trace_recorder.specs.History.{History}
use Rattle.trace_text.specs.Scripts.{IsEvent, text}
use Rattle.trace_text.specs.Traces.{text as trace_of}
use Rattle.trace_text.specs.declared.script.Script.{Script as Text}

-- ---- one file

pub on_ok : {T E : Type 0} (P Q : Type 0) (r : Result T E) → (P → Q) → OnOk r P → OnOk r Q
on_ok P Q (Ok x) more so = more so
on_ok P Q (Err e) more so = tt

-- a file of such a script's text has the script
pub script_held : (left : Contents) (path : FileName) (config : Config) (kib : ℕ) (script : Text) (items events : List Event) → script ≡ script_for config kib items → items ≡ events
    → IsMemoryKib kib → AllByRecursion IsEvent script.events → HoldsBytes left path (text script) → HoldsScript left path (script_for config kib events)
script_held left path config kib script items events script_is items_is sized spelt bytes =
    subst (HoldsScript left path) (script_is ∙ ap (script_for config kib) items_is) (record {
      is_script = record { head = script_within script (subst (λ (s : Text). IsMemoryKib s.kib) (sym script_is) sized); events = spelt };
      bytes = bytes;
    })

-- ---- what another file's writing leaves

module _ (before after : Contents) where
  pub bytes_stay : (name bytes : FileName) → after name ≡ before name → HoldsBytes before name bytes → HoldsBytes after name bytes
  bytes_stay name bytes same held = subst (λ (o : Option (List ℕ)). IfSome o (λ known. known ≡ bytes)) (sym same) held

  pub script_stays : (name : FileName) (script : Text) → after name ≡ before name → HoldsScript before name script → HoldsScript after name script
  script_stays name script same held = record { is_script = held.is_script; bytes = bytes_stay name (text script) same held.bytes }

  pub trace_stays : (name : FileName) (trace : History) → after name ≡ before name → HoldsTrace before name trace → HoldsTrace after name trace
  trace_stays name trace same held = record { is_trace = held.is_trace; bytes = bytes_stay name (trace_of trace) same held.bytes }

module _ (before after : Contents) (path : FileName) (others : (other : FileName) → other ≢ path → after other ≡ before other) where
  pub spares_more : (IsWritten : FileName → Type 0) (held : Contents) → IsWritten path → SparesOthers IsWritten held before → SparesOthers IsWritten held after
  spares_more IsWritten held is spared other = go (bytes_eq other path) refl
    where
      go : (b : Bool) → bytes_eq other path ≡ b → (after other ≡ held other) ⊎ IsWritten other
      go true same = inr (subst IsWritten (sym ((bytes_eq-Decides other path).0 same)) is)
      go false differs = elim (spared other) [
        | inl still ↦ inl (others other (λ same. never differs ((bytes_eq-Decides other path).1 same)) ∙ still)
        | inr written ↦ inr written
      ]
        where
          never : {b : Bool} → b ≡ false → b ≡ true → ⊥
          never is also =
              let bad : false ≡ true = sym is ∙ also in cc

-- ---- which files are spared

-- files that are all as before
pub spared : (IsWritten : FileName → Type 0) (held left : Contents) → left ≡ held → SparesOthers IsWritten held left
spared IsWritten held left same name = inl (ap (λ (h : Contents). h name) same)

-- and those that one step spares behind others that leave all as before
pub spared_after : (IsWritten : FileName → Type 0) (held mid left : Contents) → mid ≡ held → SparesOthers IsWritten mid left → SparesOthers IsWritten held left
spared_after IsWritten held mid left same spares name = elim (spares name) [
  | inl still ↦ inl (still ∙ ap (λ (h : Contents). h name) same)
  | inr is ↦ inr is
]

-- more files may be written
pub spares_wider : (IsWritten MayBe : FileName → Type 0) (held left : Contents) → ((name : FileName) → IsWritten name → MayBe name) → SparesOthers IsWritten held left → SparesOthers MayBe held left
spares_wider IsWritten MayBe held left wider spares name = elim (spares name) [
  | inl still ↦ inl still
  | inr is ↦ inr (wider name is)
]

-- what spares others twice spares them
pub spares_then : (IsWritten : FileName → Type 0) (held mid left : Contents) → SparesOthers IsWritten held mid → SparesOthers IsWritten mid left → SparesOthers IsWritten held left
spares_then IsWritten held mid left first second name = elim (second name) [
  | inr is ↦ inr is
  | inl still ↦ elim (first name) [
    | inr is ↦ inr is
    | inl before ↦ inl (still ∙ before)
  ]
]

-- what wasn't written over is as it was
pub unwritten : (IsWritten : FileName → Type 0) (held left : Contents) (name : FileName) → SparesOthers IsWritten held left → (IsWritten name → ⊥) → left name ≡ held name
unwritten IsWritten held left name spares never = elim (spares name) [
  | inl still ↦ still
  | inr is ↦ absurd (never is)
]

-- ---- what is printed, and what comes behind it

-- all of a text is a beginning of it
pub all_of : (old new : Option (List ℕ)) (text : List ℕ) → Appends old new text → Begins old new text
all_of old new text sent = record { front = text; rest = []; parts = sym (append-nil text); sent = sent }

pub output_left : (fault : Fault) (old new : Option (List ℕ)) (Has : (List ℕ → Type 0) → Type 0) → (fault ≡ CannotWrite) ⊎ (fault ≡ OutOfMemory) → Has (Begins old new) → LeavesPart fault old new Has
output_left fault old new Has is so = elim is [
  | inl at ↦ subst (λ f. LeavesPart f old new Has) (sym at) so
  | inr at ↦ subst (λ f. LeavesPart f old new Has) (sym at) (inr so)
]

pub folder_late : (folder : Option Name) (fault : Fault) → IsNamedBy folder IsFolderFault fault → ComesBeforeScripts fault → ⊥
folder_late None fault so early = so
folder_late (Some name) fault (inl is) early = subst ComesBeforeScripts is early
folder_late (Some name) fault (inr is) early = subst ComesBeforeScripts is early
