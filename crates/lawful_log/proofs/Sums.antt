-- In a log that is lawful by either profile the numbers of a line's messages, whatever their harts, agree exactly where those of every hart do: no answer is taken before its question was sent.
use Rattle.std.proofs.Common.{ℕ, ◌≤◌, Bool, true, List, [], ◌∷◌, ◌++◌, ◌≡◌, arith, refl, sym, subst}
use Rattle.std.specs.Prelude.{IsTrue}
use Rattle.std.proofs.lemmas.Bool.{ltb-true}
use Rattle.std.proofs.lemmas.List.{append-nil, append_assoc}
use Rattle.machine_model.proofs.log.Counts.{NoneTooMany, Owes, none_in, none_out}
use Rattle.machine_model.proofs.log.manager.Numbers.{grant_acks_on, grants_on, probe_acks_on, probes_on}
use Rattle.machine_model.proofs.log.manager.Queues.{GoesOn, few_taken}
use Rattle.machine_model.proofs.log.manager.Sums.{sums_settle}
use Rattle.machine_model.specs.LawfulLog.{concerns, is_grant, is_grant_ack, is_probe, is_probe_ack, sent_count, taken_count}
use Rattle.machine_model.specs.LogLaws.{AgreeInSum}
use Rattle.lawful_log.proofs.Behind.{in_order}
use Rattle.lawful_log.specs.Rules.{IsLawfulBy, KeepsGoing, has_question}
use Rattle.lawful_log.specs.declared.profile.Profile.{Profile}
use Rattle.lawful_log.specs.declared.rule.LogRule.TheVariants.{Question}
use Rattle.tl_types.specs.declared.message.Body.{Body}
use Rattle.tl_types.specs.declared.message.Body.TheVariants.{ProbeAck, ProbeAckData, GrantAck}
use Rattle.tl_types.specs.declared.message.Channel.{Channel}
use Rattle.tl_types.specs.declared.message.Channel.TheVariants.{B, C, D, E}
use Rattle.tl_types.specs.declared.message.Msg.{Msg}
use Rattle.trace_recorder.specs.declared.logged.Direction.{Direction}
use Rattle.trace_recorder.specs.declared.logged.Direction.TheVariants.{Sent, Taken}
use Rattle.trace_recorder.specs.declared.logged.Logged.{Logged}

-- an answer is only sent where it is owed
abbrev OwedToSend : (question answer : Body → Bool) → Type 0
OwedToSend question answer = (body : Body) (h l : ℕ) (log : List Logged) → answer body ≡ true → IsTrue (has_question body h l log) → Owes question answer h l log

module _ (profile : Profile) (question answer : Body → Bool) (owed : OwedToSend question answer) where
  one_behind : (d : Direction) (h : ℕ) (m : Msg) (done : List Logged) → KeepsGoing profile d Question h m done → NoneTooMany question answer done → NoneTooMany question answer (done ++ (record { direction = d; hart = h; message = m }) ∷ [])
  one_behind Sent h m done keeps few = none_in question answer done h m few (λ is. owed m.body h m.line done is keeps)
  one_behind Taken h m done keeps few = none_out question answer done h m few

  all_behind : (rest done : List Logged) → IsLawfulBy profile (done ++ rest) → NoneTooMany question answer done → NoneTooMany question answer (done ++ rest)
  all_behind [] done lawful few = subst (NoneTooMany question answer) (sym (append-nil done)) few
  all_behind (e ∷ rest) done lawful few =
      let seam : (done ++ e ∷ []) ++ rest ≡ done ++ e ∷ rest = append_assoc done (e ∷ []) rest in
      subst (NoneTooMany question answer) seam (all_behind rest (done ++ e ∷ []) (subst (IsLawfulBy profile) (sym seam) lawful) (one_behind e.direction e.hart e.message done (lawful Question done rest e refl) few))

  none_early : (asks tells : Channel) → GoesOn question asks → GoesOn answer tells → (l : ℕ) (log : List Logged) → IsLawfulBy profile log → (k : ℕ) → taken_count answer (concerns k l) log ≤ sent_count question (concerns k l) log
  none_early asks tells on to l log lawful k =
      let answers = few_taken answer tells to k l log (in_order profile log lawful tells k log [] (append-nil log)) in
      let questions = few_taken question asks on k l log (in_order profile log lawful asks k log [] (append-nil log)) in
      let between : sent_count answer (concerns k l) log ≤ taken_count question (concerns k l) log = all_behind log [] lawful (λ k l. omega arith) k l in
      omega (arith, answers, questions, between)

probe_owed : OwedToSend is_probe is_probe_ack
probe_owed (ProbeAck change) h l log is may = ltb-true _ _ may
probe_owed (ProbeAckData change bytes) h l log is may = ltb-true _ _ may
probe_owed _ h l log is may = cc is

grant_owed : OwedToSend is_grant is_grant_ack
grant_owed GrantAck h l log is may = ltb-true _ _ may
grant_owed _ h l log is may = cc is

pub sums_agree : (profile : Profile) (line : ℕ) (log : List Logged) → IsLawfulBy profile log → AgreeInSum line log
sums_agree profile line log lawful = record {
  probes = sums_settle is_probe is_probe_ack line log (none_early profile is_probe is_probe_ack probe_owed B C probes_on probe_acks_on line log lawful);
  grants = sums_settle is_grant is_grant_ack line log (none_early profile is_grant is_grant_ack grant_owed D E grants_on grant_acks_on line log lawful);
}
