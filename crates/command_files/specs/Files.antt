-- What the program's files are read as.
use Rattle.std.specs.Prelude.{◌≡◌, ℕ, ◌*◌, Bool, List, Ok, Result, Some, if◌then◌else◌}
use Rattle.elf_loader.specs.Load.{load_answer}
use Rattle.elf_loader.specs.Raw.{raw_answer}
use Rattle.elf_loader.specs.Image.{Initial}
use Rattle.elf_loader.specs.declared.error.LoadError.{LoadError}
use Rattle.trace_recorder.specs.History.{History}
use Rattle.trace_text.specs.Scripts as scripts
use Rattle.trace_text.specs.Scripts.{IsScript}
use Rattle.trace_text.specs.TraceLimits.{IsTrace}
use Rattle.trace_text.specs.Traces as traces
use Rattle.trace_text.specs.declared.script.Script.{Script}
use Rattle.command_files.specs.Contents.{Contents, HoldsBytes}

-- the file has the text of this script, and nothing else
pub record HoldsScript (held : Contents) (name : List ℕ) (script : Script) : Type 0 where
  pub is_script : IsScript script
  pub bytes : HoldsBytes held name (scripts.text script)

-- whatever script has the bytes of the file as its text, it is this one
abbrev pub IsTheScriptIn : Contents → List ℕ → Script → Type 0
IsTheScriptIn held name script = (other : Script) → IsScript other → held name ≡ Some (scripts.text other) → script ≡ other

abbrev pub image_answer : Bool → List ℕ → ℕ → Result Initial LoadError
image_answer is_raw bytes size = if is_raw then raw_answer bytes size else load_answer bytes size

-- the file, of bare words or an ELF file, is loaded as this image into so many KiB
pub record HoldsImage (held : Contents) (is_raw : Bool) (name : List ℕ) (kib : ℕ) (image : Initial) : Type 0 where
  pub file : List ℕ
  pub bytes : HoldsBytes held name file
  pub loaded : image_answer is_raw file (1024 * kib) ≡ Ok image

-- the file has the text of this trace, and nothing else
pub record HoldsTrace (held : Contents) (name : List ℕ) (trace : History) : Type 0 where
  pub is_trace : IsTrace trace
  pub bytes : HoldsBytes held name (traces.text trace)
