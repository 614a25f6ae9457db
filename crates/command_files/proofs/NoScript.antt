-- Which faults tell of a file that was read and holds no script.
use Rattle.std.proofs.Common.{◌≡◌, ◌≢◌, ◌∙◌, ◌⊎◌, ◌↔◌, ℕ, Err, IfErr, List, Ok, Result, inl, inr, refl, subst, sym}
use Rattle.command_files.specs.Faults.{IsScriptFault, Name}
use Rattle.command_files.specs.Contents.{Contents, HoldsBytes}
use Rattle.command_files.specs.declared.fault.Fault.{Fault}
use Rattle.command_files.specs.declared.fault.Fault.TheVariants.{OutOfMemory, Text}
use Rattle.trace_text.specs.Reading.{IsNoMemory}
use Rattle.trace_text.specs.Refusals.{IsScriptRefusal}
use Rattle.trace_text.specs.Scripts.{IsScript, text}
use Rattle.trace_text.specs.declared.fault.TextCode.TheVariants.{NoMemory}
use Rattle.trace_text.specs.declared.fault.TextError.{TextError}
use Rattle.trace_text.specs.declared.script.Script.{Script}

module _ (bytes : List ℕ) (r : Result Script TextError) (error : TextError) (is : r ≡ Err error)
    (only : (s : Script) → IsScript s → bytes ≡ text s → ¬ IsNoMemory r → r ≡ Ok s) (refused : ¬ IsNoMemory r → IfErr r (IsScriptRefusal bytes)) where
  aside : error.code ≢ NoMemory → ¬ IsNoMemory r
  aside other = subst (λ (x : Result Script TextError). ¬ IsNoMemory x) (sym is) other

  no_script : error.code ≢ NoMemory → (s : Script) → IsScript s → bytes ≢ text s
  no_script other s is_script e = let bad = sym is ∙ only s is_script e (aside other) in cc

  at_line : error.code ≢ NoMemory → IsScriptRefusal bytes error
  at_line other = subst (λ (x : Result Script TextError). IfErr x (IsScriptRefusal bytes)) is (refused (aside other))

  pub no_script_told : (held : Contents) (name : Name) (fault : Fault) → HoldsBytes held name.now bytes
      → (fault ≡ Text name error) ⊎ (fault ≡ OutOfMemory) → (fault ≡ OutOfMemory) ↔ (error.code ≡ NoMemory) → IsScriptFault held name fault
  no_script_told held name fault holds told memory = elim told [
    | inl at ↦
        let other : error.code ≢ NoMemory = λ no. let bad : Text name error ≡ OutOfMemory = sym at ∙ memory.1 no in cc in
        subst (IsScriptFault held name) (sym at) (refl, inr (record { file = bytes; bytes = holds; none = no_script other; refused = at_line other }))
    | inr at ↦ subst (IsScriptFault held name) (sym at) tt
  ]
