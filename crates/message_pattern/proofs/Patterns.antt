-- What is read is spelled so, and what is spelled so is read.
use Rattle.std.proofs.Common.{ℕ, ◌≡◌, ◌≢◌, ◌∙◌, ◌^◌, ◌<◌, ◌≤◌, ◌∷◌, ◌++◌, [], IfSome, IsNone, List, None, Option, Some, ap, arith, codes, inl, inr, refl, subst, sym}
use Rattle.std.specs.Option.{option_or}
use Rattle.std.proofs.lemmas.List.{append-nil, append_assoc}
use Rattle.message_pattern.specs.Reading.{address_at, any_at, ended, hart_at, known_name_at, known_names, name_at, pattern_at, pattern_in}
use Rattle.message_pattern.specs.Spelling.{IsPattern, Spells, address_text, hart_text, known_name, name_text, or_any, spelled}
use Rattle.message_pattern.specs.declared.pattern.MessageName.{MessageName}
use Rattle.message_pattern.specs.declared.pattern.MessageName.TheVariants as name
use Rattle.message_pattern.specs.declared.pattern.MessagePattern.{MessagePattern}
use Rattle.text_fields.specs.Fields.{number, word}
use Rattle.text_fields.specs.Reading.{◌>>=◌, after, number_at, pair_at, seen_at, table_at, word_at}
use Rattle.text_fields.proofs.Laws.{Reads, after_again, after_takes, bind_some, either_takes, number_reads, pair_reads, seen_again, seen_reads, seen_takes, some_is, table_reads, word_reads}

-- what a reader takes, or this text, which it doesn't take
any_reads : {A : Type 0} {s : A → List ℕ} {f : A → Type 0} {r : List ℕ → Option (A × List ℕ)} (any : List ℕ) → ((rest : List ℕ) → r (any ++ rest) ≡ None) → Reads s f r
    → Reads (or_any any s) (λ o. IfSome o f) (any_at any r)
any_reads {A} {s} {f} {r} any apart a = record { takes = takes; again = again }
  where
    takes : (bytes : List ℕ) (o : Option A) (rest : List ℕ) → any_at any r bytes ≡ Some (o, rest) → (bytes ≡ or_any any s o ++ rest) × IfSome o f
    takes bytes o rest e = elim (either_takes (seen_at (λ x. Some x) r bytes) (after any bytes >>= λ t. Some (None, t)) (o, rest) e) [
      | inl y ↦ seen_takes a (λ x. Some x) (or_any any s) (λ (o : Option A). IfSome o f) (λ x h. (refl, h)) bytes o rest y
      | inr n ↦
          let p = bind_some (after any bytes) (λ t. Some (None, t)) (o, rest) n.1 in
          let made : Option A × List ℕ = (None, p.0) in
          subst (λ (z : Option A × List ℕ). (bytes ≡ or_any any s z.0 ++ z.1) × IfSome z.0 f) (some_is made (o, rest) p.2) (after_takes any bytes p.0 p.1, tt)
    ]

    again : (o : Option A) (rest : List ℕ) → IfSome o f → any_at any r (or_any any s o ++ rest) ≡ Some (o, rest)
    again None rest h = rw (apart rest, after_again any rest) refl
    again (Some x) rest h = rw (a.again x rest h) refl

known_again : (x : MessageName) (rest : List ℕ) → table_at known_names (known_name x ++ rest) ≡ Some (x, rest)
known_again name.AcquireBlock rest = refl
known_again name.ProbeBlock rest = refl
known_again name.ProbeAck rest = refl
known_again name.ProbeAckData rest = refl
known_again name.Release rest = refl
known_again name.ReleaseData rest = refl
known_again name.Grant rest = refl
known_again name.GrantData rest = refl
known_again name.ReleaseAck rest = refl
known_again name.GrantAck rest = refl

known_reads : Reads known_name (λ x. Unit {0}) known_name_at
known_reads = table_reads known_name known_names (refl, (refl, (refl, (refl, (refl, (refl, (refl, (refl, (refl, (refl, tt)))))))))) known_again

name_reads : Reads name_text (λ o. IfSome o (λ x. Unit {0})) name_at
unfolding name_at
name_reads = any_reads (codes "* ") (λ rest. refl) known_reads

no_number : (rest : List ℕ) → number_at 32 7 (codes "* " ++ rest) ≡ None
unfolding number_at
no_number rest = refl

hart_reads : Reads hart_text (λ o. IfSome o (λ n. n ≤ 7)) hart_at
unfolding hart_at
hart_reads = any_reads (codes "* ") no_number (number_reads 32 7 (omega arith) (omega arith))

no_word : (rest : List ℕ) → word_at (codes "*" ++ rest) ≡ None
unfolding word_at
no_word rest = refl

address_reads : Reads address_text (λ o. IfSome o (λ n. n < 2 ^ 32)) address_at
unfolding address_at
address_reads = any_reads (codes "*") no_word word_reads

any_name : (o : Option MessageName) → IfSome o (λ x. Unit {0})
any_name None = tt
any_name (Some x) = tt

pattern_reads : Reads spelled IsPattern pattern_at
unfolding pattern_at
pattern_reads =
    seen_reads spelled IsPattern (λ p. record { name = p.0; hart = p.1.0; address = p.1.1 }) (λ p. (p.name, (p.hart, p.address)))
    (λ x h. (refl, record { hart = h.1.0; address = h.1.1 })) (λ p h. (refl, (any_name p.name, (h.hart, h.address))))
    (pair_reads name_reads (pair_reads hart_reads address_reads))

ended_read : (x : MessagePattern × List ℕ) (pattern : MessagePattern) → ended x ≡ Some pattern → x ≡ (pattern, [])
ended_read (read, []) pattern is = ap (λ (p : MessagePattern). (p, [])) (some_is read pattern is)
ended_read (read, b ∷ rest) pattern is = absurd cc

read : (text : List ℕ) (pattern : MessagePattern) → Some pattern ≡ pattern_in text → Spells text pattern
read text pattern is =
    let p = bind_some (pattern_at text) ended pattern (sym is) in
    let it = pattern_reads.takes text pattern [] (p.1 ∙ ap (λ (x : MessagePattern × List ℕ). Some x) (ended_read p.0 pattern p.2)) in (it.1, it.0 ∙ append-nil (spelled pattern))

unread : (text : List ℕ) (pattern : MessagePattern) → None ≡ pattern_in text → Spells text pattern → ⊥
unread text pattern none is =
    let whole : pattern_at text ≡ Some (pattern, []) = ap pattern_at (is.1 ∙ sym (append-nil (spelled pattern))) ∙ pattern_reads.again pattern [] is.0 in
    let bad : None ≡ Some pattern = none ∙ ap (λ (o : Option (MessagePattern × List ℕ)). o >>= ended) whole in cc

pub all_read : (text : List ℕ) (found : Option MessagePattern) → found ≡ pattern_in text → IfSome found (Spells text)
all_read text None is = tt
all_read text (Some pattern) is = read text pattern is

pub all_unread : (text : List ℕ) (found : Option MessagePattern) → found ≡ pattern_in text → IsNone found → (pattern : MessagePattern) → Spells text pattern → ⊥
all_unread text None is none pattern spells = unread text pattern is spells
all_unread text (Some found) is none pattern spells = absurd (cc (none))
