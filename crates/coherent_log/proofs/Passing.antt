-- One pass over a log: each entry that breaks no rule leaves it coherent, and the first that breaks one is found.
use Rattle.std.proofs.Common.{ℕ, ◌+◌, ◌<◌, ◌≤◌, List, [], ◌∷◌, ◌++◌, ◌≡◌, Some, None, refl, ap, sym, ◌∙◌, subst, length, take, drop, get_or}
use Rattle.std.specs.Prelude.{◌↔◌, Option}
use Rattle.std.proofs.lemmas.List.{append_assoc, take-append-drop, take_all, take_more}
use Rattle.std.proofs.lemmas.Option.{slice_get-get_or}
use Rattle.coherent_log.proofs.Entries.{beginning_coherent, coherent_with}
use Rattle.coherent_log.specs.Followed.{FindsBreach, Follows}
use Rattle.coherent_log.specs.Laws.{IsCoherentLog, IsFirstBreach, rule_of}
use Rattle.coherent_log.specs.declared.followed.Followed.{Followed}
use Rattle.coherent_log.specs.declared.verdict.Breach.{Breach}
use Rattle.coherent_log.specs.declared.verdict.CoherenceVerdict.TheVariants.{Coherent, Incoherent}
use Rattle.elf_loader.specs.Image.{Initial}
use Rattle.trace_recorder.specs.declared.logged.Logged.{Logged}

module _ (image : Option Initial) (log : List Logged) (i : ℕ) (d : Logged) (within : i < length log) where
  pub first_breach : (breach : Breach) (o : Option Breach) → IsCoherentLog image (take i log) → o ≡ Some breach → FindsBreach image (take i log) (get_or log i d) o → IsFirstBreach image log breach i
  first_breach breach o coherent is found =
      let here : FindsBreach image (take i log) (get_or log i d) (Some breach) = subst (FindsBreach image (take i log) (get_or log i d)) is found in
      record {
        entry = get_or log i d;
        stands = slice_get-get_or log i d within;
        coherent_before = coherent;
        broken = here.0;
        first = here.1;
        cause = here.2;
      }

  -- one entry further, where it breaks no rule
  pub passes : (o : Option Breach) (next : Followed) → IsCoherentLog image (take i log) → o ≡ None → FindsBreach image (take i log) (get_or log i d) o
      → Follows next (take i log ++ get_or log i d ∷ []) → Follows next (take (i + 1) log) × IsCoherentLog image (take (i + 1) log)
  passes o next coherent is found noted =
      let none : FindsBreach image (take i log) (get_or log i d) None = subst (FindsBreach image (take i log) (get_or log i d)) is found in
      (subst (Follows next) (sym (take_more log i d within)) noted, subst (IsCoherentLog image) (sym (take_more log i d within)) (coherent_with image (take i log) (get_or log i d) coherent none))

  -- a breach tells that the log isn't coherent
  pub breach_decides : (breach : Breach) (o : Option Breach) → o ≡ Some breach → FindsBreach image (take i log) (get_or log i d) o → (Incoherent breach i ≡ Coherent) ↔ IsCoherentLog image log
  breach_decides breach o is found =
      let here : FindsBreach image (take i log) (get_or log i d) (Some breach) = subst (FindsBreach image (take i log) (get_or log i d)) is found in
      (λ same. cc same, λ all. absurd (here.0 (all (rule_of breach) (take i log) (drop (i + 1) log) (get_or log i d) seam)))
    where
      seam : take i log ++ get_or log i d ∷ drop (i + 1) log ≡ log
      seam = sym (append_assoc (take i log) (get_or log i d ∷ []) (drop (i + 1) log)) ∙ ap (λ (l : List Logged). l ++ drop (i + 1) log) (sym (take_more log i d within)) ∙ take-append-drop (i + 1) log

pub coherent_decides : (image : Option Initial) (log : List Logged) (i : ℕ) → length log ≤ i → IsCoherentLog image (take i log) → (Coherent ≡ Coherent) ↔ IsCoherentLog image log
coherent_decides image log i past coherent = (λ same. subst (IsCoherentLog image) (take_all i log past) coherent, λ all. refl)
