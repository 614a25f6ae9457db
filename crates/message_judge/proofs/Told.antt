-- What both judges say of a log, by what each says.
use Rattle.std.proofs.Common.{ℕ, ◌+◌, ◌<◌, ◌≤◌, List, Option, ◌≡◌, arith, drop, refl, subst, sym, take}
use Rattle.std.proofs.lemmas.List.{take-append-drop, take-take}
use Rattle.coherent_log.proofs.Entries.{beginning_coherent}
use Rattle.coherent_log.specs.Laws.{IsCoherentLog}
use Rattle.coherent_log.specs.declared.verdict.Breach.{Breach}
use Rattle.coherent_log.specs.declared.verdict.CoherenceVerdict.TheVariants.{Coherent, Incoherent}
use Rattle.elf_loader.specs.Image.{Initial}
use Rattle.lawful_log.proofs.Behind.{beginning_lawful}
use Rattle.lawful_log.specs.Rules.{IsLawfulBy}
use Rattle.lawful_log.specs.declared.profile.Profile.{Profile}
use Rattle.lawful_log.specs.declared.rule.LogRule.{LogRule}
use Rattle.lawful_log.specs.declared.rule.LogVerdict.TheVariants.{Lawful, Unlawful}
use Rattle.message_judge.specs.Laws.{IsCoherenceVerdict, IsLogVerdict, IsMessageVerdict}
use Rattle.message_judge.specs.declared.verdict.MessageBreach.TheVariants as breaks
use Rattle.message_judge.specs.declared.verdict.MessageVerdict.TheVariants as message
use Rattle.trace_recorder.specs.declared.logged.Logged.{Logged}

module _ (profile : Profile) (image : Option Initial) (log : List Logged) where
  lawful_up_to : (n : ℕ) → IsLawfulBy profile log → IsLawfulBy profile (take n log)
  lawful_up_to n all = beginning_lawful profile (take n log) (drop n log) (subst (IsLawfulBy profile) (sym (take-append-drop n log)) all)

  coherent_up_to : (n : ℕ) → IsCoherentLog image log → IsCoherentLog image (take n log)
  coherent_up_to n all = beginning_coherent image (take n log) (drop n log) (subst (IsCoherentLog image) (sym (take-append-drop n log)) all)

  -- no judge objects
  pub both_lawful : IsLogVerdict profile log Lawful → IsCoherenceVerdict image log Coherent → IsMessageVerdict profile image log message.Lawful
  both_lawful order copies = record { lawful = (λ same. (order.lawful.0 refl, copies.coherent.0 refl), λ all. refl); unlawful = tt }

  -- one alone does
  pub unlawful_alone : (rule : LogRule) (index : ℕ) → IsLogVerdict profile log (Unlawful rule index) → IsCoherenceVerdict image log Coherent → IsMessageVerdict profile image log (message.Unlawful (breaks.Unlawful rule) index)
  unlawful_alone rule index order copies = record {
    lawful = (λ same. cc same, λ all. let bad : Unlawful rule index ≡ Lawful = order.lawful.1 all.0 in cc);
    unlawful = (order.unlawful, coherent_up_to index (copies.coherent.0 refl));
  }

  pub incoherent_alone : (breach : Breach) (index : ℕ) → IsLogVerdict profile log Lawful → IsCoherenceVerdict image log (Incoherent breach index) → IsMessageVerdict profile image log (message.Unlawful (breaks.Incoherent breach) index)
  incoherent_alone breach index order copies = record {
    lawful = (λ same. cc same, λ all. let bad : Incoherent breach index ≡ Coherent = copies.coherent.1 all.1 in cc);
    unlawful = (copies.incoherent, lawful_up_to (index + 1) (order.lawful.0 refl));
  }

module _ (profile : Profile) (image : Option Initial) (log : List Logged) (rule : LogRule) (breach : Breach) (index other : ℕ) (order : IsLogVerdict profile log (Unlawful rule index)) (copies : IsCoherenceVerdict image log (Incoherent breach other)) where
  -- both do: what was lawful before a message was so before an earlier one
  pub unlawful_first : index ≤ other → IsMessageVerdict profile image log (message.Unlawful (breaks.Unlawful rule) index)
  unlawful_first before = record {
    lawful = (λ same. cc same, λ all. let bad : Unlawful rule index ≡ Lawful = order.lawful.1 all.0 in cc);
    unlawful = (order.unlawful, subst (IsCoherentLog image) (take-take index other log before) (coherent_up_to profile image (take other log) index copies.incoherent.coherent_before));
  }

  pub incoherent_first : other < index → IsMessageVerdict profile image log (message.Unlawful (breaks.Incoherent breach) other)
  incoherent_first before = record {
    lawful = (λ same. cc same, λ all. let bad : Unlawful rule index ≡ Lawful = order.lawful.1 all.0 in cc);
    unlawful = (copies.incoherent, subst (IsLawfulBy profile) (take-take (other + 1) index log (omega arith)) (lawful_up_to profile image (take index log) (other + 1) order.unlawful.lawful_before));
  }
