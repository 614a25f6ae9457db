use Rattle.std.proofs.Common.{◌≡◌, ◌∙◌, ℕ, IfErr, IfSome, List, None, Ok, Option, Result, Some, ap, subst, sym}
use Rattle.std.specs.Prelude.{unwrap_or}
use Rattle.trace_text.specs.Reading.{IsNoMemory}
use Rattle.trace_text.specs.Refusals.{IsScriptRefusal}
use Rattle.trace_text.specs.declared.fault.TextError.{TextError}
use Rattle.trace_text.specs.declared.script.Script.{Script}
use Rattle.command_files.proofs.NoScript.{no_script_told}
use Rattle.command_files.proofs.reading.script_from.Goals as goal

abbrev script_or : Script → Result Script TextError → Script
script_or d (Ok s) = s
script_or d _ = d

held_bytes : (o : Option (List ℕ)) (bytes file : List ℕ) → IfSome o (λ known. known ≡ bytes) → o ≡ Some file → bytes ≡ file
held_bytes None bytes file is held = cc
held_bytes (Some known) bytes file is held = sym is ∙ ap (λ x. unwrap_or x known) held

one_script : (r : Result Script TextError) (script other : Script) → r ≡ Ok script → (¬ IsNoMemory r → r ≡ Ok other) → script ≡ other
one_script r script other is only = ap (script_or script) (sym is ∙ only (subst (λ (x : Result Script TextError). ¬ IsNoMemory x) (sym is) (λ never. never)))

pub returns-in-Ok-clause-only : goal.returns-in-Ok-clause-only
returns-in-Ok-clause-only g c = λ other is held.
    one_script c.read_script.result c.in-Ok.script other c.in-Ok.is (c.read_script.ensures.only other is (held_bytes _ _ _ c.requires held))

pub returns-after-of-clause-fault : goal.returns-after-of-clause-fault
returns-after-of-clause-fault g c =
    no_script_told c.args.bytes.now c.read_script.result c.in-Err.error c.in-Err.is
    (λ s is_script e. c.read_script.ensures.only s is_script e)
    (λ other. c.read_script.ensures.refused other)
    (g.F.Files.held c.args.files.now) c.args.name c.text.result c.requires c.text.ensures.told c.text.ensures.memory
