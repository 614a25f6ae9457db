-- A log that goes on behind its first message that breaks a rule.
use Rattle.std.proofs.Common.{ℕ, ◌+◌, ◌<◌, ◌≤◌, List, ◌++◌, Option, Some, ◌≡◌, ◌∙◌, ap, arith, get_or, length, refl, subst, sym, take}
use Rattle.std.specs.Prelude.{slice_get}
use Rattle.std.proofs.lemmas.List.{get_or_append_left, length-append, take-append-le}
use Rattle.std.proofs.lemmas.Option.{slice_get-get_or, slice_get_within}
use Rattle.coherent_log.proofs.Entries.{beginning_coherent}
use Rattle.coherent_log.specs.Laws as coherence
use Rattle.coherent_log.specs.Laws.{IsCoherentLog}
use Rattle.coherent_log.specs.Rules.{Keeps, rank as coherent_rank}
use Rattle.coherent_log.specs.Told.{brought_of, client_of}
use Rattle.coherent_log.specs.declared.rule.CoherenceRule.{CoherenceRule}
use Rattle.coherent_log.specs.declared.verdict.Breach.{Breach}
use Rattle.elf_loader.specs.Image.{Initial}
use Rattle.lawful_log.proofs.Behind.{beginning_lawful}
use Rattle.lawful_log.specs.Laws as order
use Rattle.lawful_log.specs.Rules.{IsLawfulBy, Obeys, rank as order_rank}
use Rattle.lawful_log.specs.declared.profile.Profile.{Profile}
use Rattle.lawful_log.specs.declared.rule.LogRule.{LogRule}
use Rattle.message_judge.specs.Laws.{IsFirstFault, IsMessageVerdict}
use Rattle.message_judge.specs.declared.verdict.MessageBreach.{MessageBreach}
use Rattle.message_judge.specs.declared.verdict.MessageBreach.TheVariants.{Incoherent, Unanswered, Unlawful, Unwritten}
use Rattle.message_judge.specs.declared.verdict.MessageVerdict.TheVariants as message
use Rattle.trace_recorder.specs.declared.logged.Logged.{Logged}

module _ (profile : Profile) (image : Option Initial) (log more : List Logged) where
  stands_still : (index : ℕ) (e : Logged) → slice_get log index ≡ Some e → slice_get (log ++ more) index ≡ Some e
  stands_still index e stands =
      let within : index < length log = slice_get_within log index e stands in
      let further : index < length (log ++ more) = omega (arith, within, length-append log more) in
      slice_get-get_or (log ++ more) index e further ∙ ap (λ x. Some x) (get_or_append_left log more e index within) ∙ sym (slice_get-get_or log index e within) ∙ stands

  -- what stands before is the same
  before : (n : ℕ) → n ≤ length log → take n log ≡ take n (log ++ more)
  before n some = sym (take-append-le n log more some)

  order_still : (rule : LogRule) (index : ℕ) → order.IsFirstBreach profile log rule index → order.IsFirstBreach profile (log ++ more) rule index
  order_still rule index first =
      let within : index < length log = slice_get_within log index first.entry first.stands in
      let same = before index (omega (arith, within)) in
      let same_with = before (index + 1) (omega (arith, within)) in
      record {
        entry = first.entry;
        stands = stands_still index first.entry first.stands;
        lawful_before = subst (IsLawfulBy profile) same first.lawful_before;
        unlawful_with = subst (λ (l : List Logged). ¬ IsLawfulBy profile l) same_with first.unlawful_with;
        broken = subst (λ (l : List Logged). ¬ Obeys profile rule l first.entry) same first.broken;
        first = subst (λ (l : List Logged). (r : LogRule) → order_rank r < order_rank rule → Obeys profile r l first.entry) same first.first;
      }

  fault_still : (breach : MessageBreach) (index : ℕ) → IsFirstFault profile image log breach index → IsFirstFault profile image (log ++ more) breach index
  fault_still (Unlawful rule) index (first, coherent) =
      let within : index < length log = slice_get_within log index first.entry first.stands in
      (order_still rule index first, subst (IsCoherentLog image) (before index (omega (arith, within))) coherent)
  fault_still (Incoherent breach) index (first, lawful) =
      let within : index < length log = slice_get_within log index first.entry first.stands in
      (coherent_still breach index first, subst (IsLawfulBy profile) (before (index + 1) (omega (arith, within))) lawful)
    where
      coherent_still : (b : Breach) (i : ℕ) → coherence.IsFirstBreach image log b i → coherence.IsFirstBreach image (log ++ more) b i
      coherent_still b i broken =
          let inside : i < length log = slice_get_within log i broken.entry broken.stands in
          let same = before i (omega (arith, inside)) in
          record {
            entry = broken.entry;
            stands = stands_still i broken.entry broken.stands;
            coherent_before = subst (IsCoherentLog image) same broken.coherent_before;
            broken = subst (λ (l : List Logged). ¬ Keeps (coherence.rule_of b) image l broken.entry) same broken.broken;
            first = subst (λ (l : List Logged). (r : CoherenceRule) → coherent_rank r < coherent_rank (coherence.rule_of b) → Keeps r image l broken.entry) same broken.first;
            cause = subst (λ (l : List Logged). coherence.IsCause b broken.entry.hart broken.entry.message.body (λ k. client_of k broken.entry.message.line l) (brought_of broken.entry.message.line l)) same broken.cause;
          }
  fault_still Unanswered index is = absurd is
  fault_still (Unwritten address) index is = absurd is

  pub stays : (breach : MessageBreach) (index : ℕ) → IsMessageVerdict profile image log (message.Unlawful breach index) → IsMessageVerdict profile image (log ++ more) (message.Unlawful breach index)
  stays breach index verdict = record {
    lawful = (λ same. cc same, λ all. let bad : message.Unlawful breach index ≡ message.Lawful = verdict.lawful.1 (beginning_lawful profile log more all.0, beginning_coherent image log more all.1) in cc);
    unlawful = fault_still breach index verdict.unlawful;
  }
