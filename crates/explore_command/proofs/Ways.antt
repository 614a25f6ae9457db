-- What is known of random runs that were looked through for a message, and what they leave.
use Rattle.std.proofs.Common.{◌≡◌, [], ℕ, Err, List, Ok, Option, Result, Some, ap, subst, sym, ◌∙◌}
use Rattle.std.proofs.lemmas.List.{append-nil}
use Rattle.command_files.specs.Contents.{Contents}
use Rattle.command_files.specs.Files.{HoldsImage}
use Rattle.command_files.specs.Sizes.{IsInside, config_named, script_for}
use Rattle.command_settings.specs.declared.wanted.Explore.{Explore}
use Rattle.elf_loader.specs.Image.{Initial}
use Rattle.explore_command.specs.Until.{AreLookedThrough, OfWay, runs_wanted, told_of, way_text}
use Rattle.machine_types.specs.declared.config.Config.{Config}
use Rattle.message_pattern.specs.declared.pattern.MessagePattern.{MessagePattern}
use Rattle.message_search.specs.declared.met.Met.{Met}
use Rattle.message_search.specs.declared.met.Searched.{Searched}
use Rattle.text_fields.specs.Writing.{Begins, Writes}
use Rattle.trace_text.specs.Scripts.{text}
use Rattle.trace_text.specs.declared.script.Script.{Script}

-- whatever was answered, a beginning went out
begun : {T E : Type 0} (a b : Option (List ℕ)) (text : List ℕ) (r : Result T E) → Writes a b text r → Begins a b text
begun a b text (Ok x) sent = record { front = text; rest = []; parts = sym (append-nil text); sent = sent }
begun a b text (Err e) front = front

pub told_at : {T E : Type 0} (a b : Option (List ℕ)) (runs : ℕ) (events known : Option ℕ) (r : Result T E) → events ≡ known → Writes a b (told_of runs events) r → Begins a b (told_of runs known)
told_at a b runs events known r same sent = subst (λ (n : Option ℕ). Begins a b (told_of runs n)) same (begun a b (told_of runs events) r sent)

pub of_way : (held : Contents) (wanted : Explore) (message : MessagePattern) (config : Config) (image : Initial) (found : Searched) (inside : IsInside wanted.machine) → config ≡ config_named wanted.machine inside
    → HoldsImage held wanted.raw wanted.image.now wanted.machine.memory image → AreLookedThrough image config message (runs_wanted wanted.sample) found → (P : Config → Searched → Type 0) → P config found → OfWay held wanted message P
of_way held wanted message config image found inside is file looked P so = record {
  image = image;
  found = found;
  image_file = file;
  inside = inside;
  looked = subst (λ (c : Config). AreLookedThrough image c message (runs_wanted wanted.sample) found) is looked;
  so = subst (λ (c : Config). P c found) is so;
}

-- what the script of the way spells
pub way_is : (config : Config) (kib : ℕ) (found : Option Met) (met : Met) (script : Script) → found ≡ Some met → script ≡ script_for config kib met.events.items → text script ≡ way_text config kib found
way_is config kib found met script is made = ap text made ∙ sym (ap (way_text config kib) is)
