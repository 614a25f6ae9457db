-- Counting the messages of a line and a hart, entry by entry.
use Rattle.std.proofs.Common.{ℕ, ◌+◌, ◌<◌, ◌^◌, List, ◌≡◌, sym, subst, ap, ◌∙◌, length, take, get_or, arith, eq-eqb}
use Rattle.std.specs.Prelude.{if◌then◌else◌}
use Rattle.std.proofs.lemmas.Bool.{ne_eqb}
use Rattle.std.proofs.lemmas.List.{take_more, length-take}
use Rattle.machine_model.specs.LawfulLog.{concerns}
use Rattle.lawful_log.proofs.Counted.{have_room, tallies_more}
use Rattle.lawful_log.specs.Facts.{HaveRoom, counted, tallies_of}
use Rattle.lawful_log.specs.declared.tallies.Tallies.{Tallies}
use Rattle.trace_recorder.specs.declared.logged.Logged.{Logged}

module _ (h line : ℕ) (log : List Logged) (i : ℕ) where
  pub have_room_so_far : (t : Tallies) → t ≡ tallies_of (concerns h line) (take i log) → i + 1 < 2 ^ 64 → HaveRoom t
  have_room_so_far t known small = subst HaveRoom (sym known) (have_room (concerns h line) (take i log) (omega (arith, length-take i log, small)))

  one_more : (d : Logged) (t t' : Tallies) → i < length log → t ≡ tallies_of (concerns h line) (take i log) → t' ≡ (if concerns h line (get_or log i d) then counted (get_or log i d) t else t) → t' ≡ tallies_of (concerns h line) (take (i + 1) log)
  one_more d t t' within known is =
      is ∙ ap (λ (t : Tallies). if concerns h line (get_or log i d) then counted (get_or log i d) t else t) known
      ∙ sym (tallies_more (concerns h line) (take i log) (get_or log i d)) ∙ ap (tallies_of (concerns h line)) (sym (take_more log i d within))

  pub counts_here : (d : Logged) (t t' : Tallies) → i < length log → t ≡ tallies_of (concerns h line) (take i log) → (get_or log i d).hart ≡ h → (get_or log i d).message.line ≡ line → t' ≡ counted (get_or log i d) t
      → t' ≡ tallies_of (concerns h line) (take (i + 1) log)
  counts_here d t t' within known same_hart same_line is = one_more d t t' within known (rw (eq-eqb _ _ same_hart, eq-eqb _ _ same_line) is)

  pub another_line : (d : Logged) (t t' : Tallies) → i < length log → t ≡ tallies_of (concerns h line) (take i log) → (get_or log i d).hart ≡ h → ((get_or log i d).message.line ≡ line → ⊥) → t' ≡ t
      → t' ≡ tallies_of (concerns h line) (take (i + 1) log)
  another_line d t t' within known same_hart other is = one_more d t t' within known (rw (eq-eqb _ _ same_hart, ne_eqb _ _ other) is)

  pub another_hart : (d : Logged) (t t' : Tallies) → i < length log → t ≡ tallies_of (concerns h line) (take i log) → ((get_or log i d).hart ≡ h → ⊥) → t' ≡ t → t' ≡ tallies_of (concerns h line) (take (i + 1) log)
  another_hart d t t' within known other is = one_more d t t' within known (rw (ne_eqb _ _ other) is)
