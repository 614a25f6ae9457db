-- The verdict on a log that has ended or may go on, in words of whole lines.
use Rattle.std.proofs.Common.{ℕ, ◌+◌, Bool, true, false, List, [], ◌∷◌, ◌++◌, ◌≡◌, ◌∙◌, Ok, Err, Option, Some, None, ap, map, refl, subst, sym}
use Rattle.std.specs.Prelude.{◌&&◌, IfOk, Result, if◌then◌else◌, nat_lt}
use Rattle.std.specs.List.{AllByRecursion}
use Rattle.coherent_log.specs.Laws as coherence
use Rattle.lawful_log.specs.declared.profile.Profile.{Profile}
use Rattle.message_judge.specs.Laws.{AreLawfulMessages, IsFirstFaultAtEnd, IsEndedVerdict}
use Rattle.message_judge.specs.declared.verdict.MessageBreach.{MessageBreach}
use Rattle.message_judge.specs.declared.verdict.MessageBreach.TheVariants.{Incoherent, Unanswered, Unlawful, Unwritten}
use Rattle.message_judge.specs.declared.verdict.MessageVerdict.{MessageVerdict}
use Rattle.message_judge.specs.declared.verdict.MessageVerdict.TheVariants as message
use Rattle.parted_judge.proofs.Splits.{coherent_at, coherent_up_to, lawful_first, ordered_up_to}
use Rattle.parted_judge.proofs.Verdicts.{whole_verdict}
use Rattle.parted_judge.specs.Laws.{IsFirstWideFault, IsVerdictOnWide, IsWideEndedVerdict, IsWideFaultAtEnd, IsWideVerdict}
use Rattle.parted_judge.specs.Parts.{IsEarlierVerdict, IsPartsVerdict, IsToldAtEnd, earlier}
use Rattle.parted_judge.specs.Rules.{AreLawfulWide}
use Rattle.tl_types.specs.declared.line.LineData.{LineData}
use Rattle.trace_recorder.specs.declared.logged.Logged.{Logged}
use Rattle.wide_logs.specs.Entries.{IsEntry, IsSecond, first_of, has_data, second_of}
use Rattle.wide_logs.specs.Logs.{IsLog, IsReadAs, Log, first_part}
use Rattle.wide_logs.specs.Shapes.{has_halves}
use Rattle.wide_logs.specs.declared.entry.WideLogged.{WideLogged}
use Rattle.wide_logs.specs.declared.reading.WideLog.{WideLog}
use Rattle.wide_logs.specs.declared.shape.Shape.{Shape}
use Rattle.wide_logs.specs.declared.shape.Width.{Width}

-- ---- at the end

module _ (profile : Profile) (log : List WideLogged) where
  -- a rule can't be broken where all messages are lawful
  no_fault : (breach : MessageBreach) (index : ℕ) → AreLawfulWide profile log → IsFirstFaultAtEnd profile None (map first_of log) breach index → IsWideFaultAtEnd profile log breach index
  no_fault Unanswered index all fault = (all, fault.1, fault.2)
  no_fault (Unlawful rule) index all fault = absurd (fault.0.unlawful_with (ordered_up_to (map first_of log) (index + 1) profile (lawful_first profile log all).0))
  no_fault (Incoherent breach) index all fault =
      absurd (fault.0.broken (coherent_at (map first_of log) index fault.0.entry fault.0.stands (coherent_up_to (map first_of log) (index + 1) (lawful_first profile log all).1) (coherence.rule_of breach)))
  no_fault (Unwritten address) index all fault = fault

  told_at_end : (v : MessageVerdict) → AreLawfulWide profile log → IsEndedVerdict profile None (map first_of log) v → IsWideEndedVerdict profile log v
  told_at_end message.Lawful all told = record { lawful = (λ same. (all, (told.lawful.0 same).1), λ both. refl); unlawful = tt }
  told_at_end (message.Unlawful breach index) all told = record {
    lawful = (λ same. cc same, λ both. told.lawful.1 (lawful_first profile log all, both.1));
    unlawful = no_fault breach index all told.unlawful;
  }

  fault_at_end : (breach : MessageBreach) (index : ℕ) → IsFirstWideFault profile log breach index → IsWideFaultAtEnd profile log breach index
  fault_at_end (Unlawful rule) index fault = fault
  fault_at_end (Incoherent breach) index fault = fault
  fault_at_end Unanswered index fault = absurd fault.broken
  fault_at_end (Unwritten address) index fault = absurd fault.broken

  ended_verdict : (by_messages v : MessageVerdict) → IsWideVerdict profile log by_messages → IsToldAtEnd profile (map first_of log) by_messages v → IsWideEndedVerdict profile log v
  ended_verdict message.Lawful v whole told = told_at_end v (whole.lawful.0 refl) told
  ended_verdict (message.Unlawful breach index) v whole told = subst (IsWideEndedVerdict profile log) (sym told) (record {
    lawful = (λ same. cc same, λ both. whole.lawful.1 both.0);
    unlawful = fault_at_end breach index whole.unlawful;
  })

  earlier_whole : (v : MessageVerdict) → IsEarlierVerdict profile (map first_of log) (map second_of log) v → IsWideVerdict profile log v
  earlier_whole v h = subst (IsWideVerdict profile log) (sym h.told) (whole_verdict profile log h.one h.two h.first_judged h.second_judged)

  pub parts_whole : (ended : Bool) (v : MessageVerdict) → IsPartsVerdict ended profile (map first_of log) (map second_of log) v → IsVerdictOnWide ended profile log v
  parts_whole false v h = earlier_whole v h
  parts_whole true v h = ended_verdict h.0 v (earlier_whole h.0 h.1) h.2

-- ---- a log whose lines have no halves is its first part

none_there : {X : Type 0} → (before rest : List X) (x : X) → before ++ x ∷ rest ≡ [] → ⊥
none_there [] rest x e = cc e
none_there (y ∷ before) rest x e = cc e

nothing_lawful : (profile : Profile) → AreLawfulMessages profile None []
nothing_lawful profile = (λ rule before rest e is. absurd (none_there before rest e is), λ rule before rest e is. absurd (none_there before rest e is))

earlier_none : (v : MessageVerdict) → earlier v message.Lawful ≡ v
earlier_none message.Lawful = refl
earlier_none (message.Unlawful breach index) = refl

earlier_same : (v : MessageVerdict) → earlier v v ≡ v
earlier_same message.Lawful = refl
earlier_same (message.Unlawful breach index) = go (nat_lt index index) refl
  where
    go : (b : Bool) → nat_lt index index ≡ b → (if b then message.Unlawful breach index else message.Unlawful breach index) ≡ message.Unlawful breach index
    go true is = refl
    go false is = refl

module _ (profile : Profile) (first : List Logged) where
  alone : (v : MessageVerdict) → IsEarlierVerdict profile first [] v → IsEarlierVerdict profile first first v
  alone v h =
      let none : h.two ≡ message.Lawful = h.second_judged.lawful.1 (nothing_lawful profile) in
      record { one = h.one; two = h.one; first_judged = h.first_judged; second_judged = h.first_judged; told = h.told ∙ ap (earlier h.one) none ∙ earlier_none h.one ∙ sym (earlier_same h.one) }

  pub parts_alone : (ended : Bool) (v : MessageVerdict) → IsPartsVerdict ended profile first [] v → IsPartsVerdict ended profile first first v
  parts_alone false v h = alone v h
  parts_alone true v h = (h.0, alone h.0 h.1, h.2)

module _ (s : Shape) (plain : has_halves s.width ≡ false) where
  no_second : (width : Width) (e : WideLogged) → has_halves width ≡ false → (bytes : Option LineData) → e.second ≡ bytes → IsSecond width e.first.message.body bytes → second_of e ≡ first_of e
  no_second width e whole None is fits = rw is refl
  no_second width e whole (Some bytes) is fits = let carries : has_halves width && has_data e.first.message.body ≡ true = fits.0 in absurd (go (has_halves width) whole carries)
    where
      go : (b : Bool) → b ≡ false → b && has_data e.first.message.body ≡ true → ⊥
      go true whole carries = cc whole
      go false whole carries = cc carries

  halves_same : (log : List WideLogged) → AllByRecursion (IsEntry s) log → map second_of log ≡ map first_of log
  halves_same [] all = refl
  halves_same (e ∷ log) all = λ i. no_second s.width e plain e.second refl all.0.second i ∷ halves_same log all.1 i

-- ---- the log that was read

module _ (ended : Bool) (profile : Profile) (w : WideLog) (log : Log) (is : IsLog log) (read : IsReadAs w log) (v : MessageVerdict) where
  with_halves : (b : Bool) → has_halves log.shape.width ≡ b → IsPartsVerdict ended profile (first_part log) (if b then map second_of log.entries else []) v → IsVerdictOnWide ended profile log.entries v
  with_halves true halves h = parts_whole profile log.entries ended v h
  with_halves false halves h =
      parts_whole profile log.entries ended v (subst (λ (l : List Logged). IsPartsVerdict ended profile (first_part log) l v) (sym (halves_same log.shape halves log.entries is.entries)) (parts_alone profile (first_part log) ended v h))

  pub read_verdict : IsPartsVerdict ended profile w.first.items w.second.items v → IsVerdictOnWide ended profile log.entries v
  read_verdict h = with_halves (has_halves log.shape.width) refl
      (subst (λ (l : List Logged). IsPartsVerdict ended profile (first_part log) l v) read.second (subst (λ (l : List Logged). IsPartsVerdict ended profile l w.second.items v) read.first h))

-- so of what is answered, by the items of both parts
pub read_judged : {E : Type 0} → (ended : Bool) (profile : Profile) (w : WideLog) (first second : List Logged) (r : Result MessageVerdict E) → first ≡ w.first.items → second ≡ w.second.items → IfOk r (IsPartsVerdict ended profile first second)
    → IfOk r (λ v. (read : Log) → IsLog read → IsReadAs w read → IsVerdictOnWide ended profile read.entries v)
read_judged ended profile w first second (Ok v) one two judged =
    λ log is read. read_verdict ended profile w log is read v (subst (λ (l : List Logged). IsPartsVerdict ended profile w.first.items l v) two (subst (λ (l : List Logged). IsPartsVerdict ended profile l second v) one judged))
read_judged ended profile w first second (Err error) one two judged = tt
