-- One pass over a log: each entry that breaks no rule leaves it lawful, and the first that breaks one is found.
use Rattle.std.proofs.Common.{ℕ, ◌+◌, ◌<◌, ◌≤◌, List, [], ◌∷◌, ◌++◌, ◌≡◌, Some, None, refl, sym, subst, length, take, drop, get_or}
use Rattle.std.specs.Prelude.{◌↔◌, Option}
use Rattle.std.proofs.lemmas.List.{take-append-drop, take_all, take_more}
use Rattle.std.proofs.lemmas.Option.{slice_get-get_or}
use Rattle.lawful_log.proofs.Behind.{beginning_lawful, lawful_with}
use Rattle.lawful_log.proofs.Judged.{keeps_by_facts}
use Rattle.lawful_log.proofs.Waiting.{first_lawful}
use Rattle.lawful_log.specs.Facts.{FindsBreach, KeepsBy, known_of}
use Rattle.lawful_log.specs.Followed.{Follows, waits_first}
use Rattle.lawful_log.specs.Laws.{IsFirstBreach}
use Rattle.lawful_log.specs.Rules.{IsLawfulBy, Obeys}
use Rattle.lawful_log.specs.declared.followed.Followed.{Followed}
use Rattle.lawful_log.specs.declared.profile.Profile.{Profile}
use Rattle.lawful_log.specs.declared.rule.LogRule.{LogRule}
use Rattle.lawful_log.specs.declared.rule.LogVerdict.TheVariants.{Lawful, Unlawful}
use Rattle.tl_types.specs.declared.message.Msg.{Msg}
use Rattle.trace_recorder.specs.declared.logged.Logged.{Logged}

module _ (profile : Profile) where
  -- the first rule that an entry breaks behind a log
  abbrev pub BreaksFirst : List Logged → Logged → Option LogRule → Type 0
  BreaksFirst log e o = FindsBreach profile (waits_first e.hart e.message log) (known_of e.hart e.message.line log) e o

  -- behind a lawful log that is a matter of the rules
  keeps_by_first : (rule : LogRule) (e : Logged) (log : List Logged) → IsLawfulBy profile log → KeepsBy profile rule (waits_first e.hart e.message log) (known_of e.hart e.message.line log) e ↔ Obeys profile rule log e
  keeps_by_first rule e log lawful = subst (λ (front : Option Msg). KeepsBy profile rule front (known_of e.hart e.message.line log) e ↔ Obeys profile rule log e) (sym (first_lawful profile e.hart e.message log lawful)) (keeps_by_facts profile rule e log lawful)

  -- no rule is broken
  pub keeps_all : (log : List Logged) (e : Logged) (o : Option LogRule) → IsLawfulBy profile log → o ≡ None → BreaksFirst log e o → (rule : LogRule) → Obeys profile rule log e
  keeps_all log e o lawful is found rule =
      let none : BreaksFirst log e None = subst (BreaksFirst log e) is found in
      (keeps_by_first rule e log lawful).0 (none rule)

  module _ (log : List Logged) (i : ℕ) (d : Logged) (within : i < length log) where
    lawful_further : IsLawfulBy profile (take i log) → ((rule : LogRule) → Obeys profile rule (take i log) (get_or log i d)) → IsLawfulBy profile (take (i + 1) log)
    lawful_further lawful each = subst (IsLawfulBy profile) (sym (take_more log i d within)) (lawful_with profile (take i log) (get_or log i d) lawful each)

    follows_further : (f : Followed) → Follows f (take i log ++ get_or log i d ∷ []) → Follows f (take (i + 1) log)
    follows_further f follows = subst (Follows f) (sym (take_more log i d within)) follows

    pub first_breach : (rule : LogRule) (o : Option LogRule) → IsLawfulBy profile (take i log) → o ≡ Some rule → BreaksFirst (take i log) (get_or log i d) o → IsFirstBreach profile log rule i
    first_breach rule o lawful is found =
        let here : BreaksFirst (take i log) (get_or log i d) (Some rule) = subst (BreaksFirst (take i log) (get_or log i d)) is found in
        record {
          entry = get_or log i d;
          stands = slice_get-get_or log i d within;
          lawful_before = lawful;
          unlawful_with = λ all. here.0 ((keeps_by_first rule (get_or log i d) (take i log) lawful).1 (all rule (take i log) [] (get_or log i d) (sym (take_more log i d within))));
          broken = λ kept. here.0 ((keeps_by_first rule (get_or log i d) (take i log) lawful).1 kept);
          first = λ r below. (keeps_by_first r (get_or log i d) (take i log) lawful).0 (here.1 r below);
        }

    -- one entry further, where it breaks no rule
    pub passes : (o : Option LogRule) (next : Followed) → IsLawfulBy profile (take i log) → o ≡ None → BreaksFirst (take i log) (get_or log i d) o
        → Follows next (take i log ++ get_or log i d ∷ []) → Follows next (take (i + 1) log) × IsLawfulBy profile (take (i + 1) log)
    passes o next lawful is found noted =
        let each : (rule : LogRule) → Obeys profile rule (take i log) (get_or log i d) = keeps_all (take i log) (get_or log i d) o lawful is found in
        (follows_further next noted, lawful_further lawful each)

  -- a breach tells that the log isn't lawful
  pub breach_decides : (log : List Logged) (rule : LogRule) (i : ℕ) → IsFirstBreach profile log rule i → (Unlawful rule i ≡ Lawful) ↔ IsLawfulBy profile log
  breach_decides log rule i breach = (λ same. cc same, λ all. absurd (breach.unlawful_with (beginning_lawful profile (take (i + 1) log) (drop (i + 1) log) (subst (IsLawfulBy profile) (sym (take-append-drop (i + 1) log)) all))))

  pub lawful_decides : (log : List Logged) (i : ℕ) → length log ≤ i → IsLawfulBy profile (take i log) → (Lawful ≡ Lawful) ↔ IsLawfulBy profile log
  lawful_decides log i past lawful = (λ same. subst (IsLawfulBy profile) (take_all i log past) lawful, λ all. refl)
