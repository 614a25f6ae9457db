-- What an access of a line ends of the flat reservations, the machine has lost before: another hart that reserved a word of it would hold Trunk, and where sets hold one line, the own one's line would be this.
use Rattle.std.proofs.Common.{◌≡◌, ◌≢◌, ℕ, ◌+◌, ◌<◌, ◌≤◌, Bool, true, false, Option, Some, None, refl, sym, ap, ◌∙◌, subst, cond, not, ◌&&◌, ◌⊎◌, inl, inr, arith}
use Rattle.std.specs.Prelude.{nat_eq, nat_le, nat_lt}
use Rattle.std.proofs.lemmas.Bool.{and_parts, eqb-true, eq-eqb, false_from_ne_true, leb-true, ltb-true}
use Rattle.std.proofs.lemmas.Bool.Decides.{eqb_tells}
use Rattle.client_cache.specs.Cache.{copy_at}
use Rattle.client_cache.specs.Held.{perm_of}
use Rattle.client_cache.specs.Shape.{set_of}
use Rattle.client_cache.specs.declared.held.Held.{Held}
use Rattle.client_cache.specs.declared.held.Held.TheVariants as held
use Rattle.client_cache.specs.declared.shape.Shape.{Shape}
use Rattle.flat_model.specs.Changing.{are_rivals, reservation_after, set_at, without_rival}
use Rattle.flat_model.proofs.OneWay.{AloneIn, holds_uses, node_alone, uses}
use Rattle.flat_model.proofs.Plans.{HasLine, HasLines}
use Rattle.flat_model.proofs.Sees.{Outlasts}
use Rattle.machine_model.specs.Coherent.{IsCoherent, perm_at}
use Rattle.machine_model.specs.Laws.{ReservedIsTrunk}
use Rattle.machine_model.specs.Ready.{shape_of}
use Rattle.machine_model.specs.Views.{State, line_size, node_at}
use Rattle.machine_types.specs.declared.config.Config.{Config}
use Rattle.machine_model.specs.Reservation.{lies_in, without_line}
use Rattle.tl_types.specs.Line.{length_of, line_of}
use Rattle.tl_types.specs.declared.line.LineSize.{LineSize}
use Rattle.tl_types.specs.declared.line.LineSize.TheVariants.{Bytes16, Bytes64}
use Rattle.tl_types.specs.declared.permission.Perm.TheVariants.{Nothing, Trunk}

some_held : (o : Option Held) → perm_of o ≡ Trunk → (x : Held) × (o ≡ Some x)
some_held None e = absurd cc
some_held (Some x) e = (x, refl)

not_nothing : (x : Held) → perm_of (Some x) ≡ Nothing → ⊥
not_nothing (held.Branch bytes) e = cc
not_nothing (held.Trunk dirty bytes) e = cc

same_line : (size : LineSize) (address word : ℕ) → line_of size address ≤ word → word < line_of size address + length_of size → line_of size word ≡ line_of size address
same_line Bytes16 address word l h = omega (arith, l, h)
same_line Bytes64 address word l h = omega (arith, l, h)

module _ (s : State) (coherent : IsCoherent s) (trunk : ReservedIsTrunk s) (shapes : (h : ℕ) → (node_at s h).cache.shape ≡ shape_of s) (alone : AloneIn s) where
  abbrev config : Config
  config = s.views.config

  -- a reserved word's line is held
  pub reserved_line : (h word : ℕ) → (node_at s h).reserved ≡ Some word → HasLine (node_at s h) word
  reserved_line h word e = let x = some_held (copy_at (node_at s h).cache (line_of (line_size s) word)) (trunk h word e) in (x.0, ap (λ (z : Shape). copy_at (node_at s h).cache (line_of z.size word)) (shapes h) ∙ x.1)

  here : (h address : ℕ) → HasLine (node_at s h) address → (x : Held) × (copy_at (node_at s h).cache (line_of (line_size s) address) ≡ Some x)
  here h address x = (x.0, sym (ap (λ (z : Shape). copy_at (node_at s h).cache (line_of z.size address)) (shapes h)) ∙ x.1)

  used : (h address : ℕ) → HasLine (node_at s h) address → uses (node_at s h).cache (line_of config.line address) ≡ true
  used h address x = let y = here h address x in holds_uses (node_at s h).cache (line_of (line_size s) address) y.0 y.1

  not_rivals : (h address word : ℕ) → HasLine (node_at s h) address → HasLine (node_at s h) word → are_rivals config address word ≡ false
  not_rivals h address word x y = false_from_ne_true (are_rivals config address word) (λ e.
      let p = and_parts (nat_eq config.ways 1 && nat_eq (set_at config address) (set_at config word)) (not (nat_eq (line_of config.line address) (line_of config.line word))) e in
      let q = and_parts (nat_eq config.ways 1) (nat_eq (set_at config address) (set_at config word)) p.0 in
      let one : (node_at s h).cache.shape.ways ≡ 1 = ap (λ (z : Shape). z.ways) (shapes h) ∙ eqb-true config.ways 1 q.0 in
      let sets : set_of (node_at s h).cache.shape (line_of config.line address) ≡ set_of (node_at s h).cache.shape (line_of config.line word) = ap (λ z. set_of z (line_of config.line address)) (shapes h) ∙ (eqb-true (set_at config address) (set_at config word) q.1 ∙ sym (ap (λ z. set_of z (line_of config.line word)) (shapes h))) in
      let lines : line_of config.line address ≡ line_of config.line word = (node_alone s h alone).alone one (line_of config.line address) (line_of config.line word) (used h address x) (used h word y) sets in
      let equal : nat_eq (line_of config.line address) (line_of config.line word) ≡ true = eq-eqb (line_of config.line address) (line_of config.line word) lines in
      no (nat_eq (line_of config.line address) (line_of config.line word)) equal p.1)
    where
      no : (b : Bool) → b ≡ true → not b ≡ true → ⊥
      no true e f = cc
      no false e f = cc

  not_there : (h k address word : ℕ) → k ≢ h → HasLine (node_at s h) address → (node_at s k).reserved ≡ Some word → lies_in (line_of config.line address) (line_size s) word ≡ false
  not_there h k address word ne x e = false_from_ne_true (lies_in (line_of config.line address) (line_size s) word) (λ t.
      let p = and_parts (nat_le (line_of config.line address) word) (nat_lt word (line_of config.line address + length_of (line_size s))) t in
      let line : line_of (line_size s) word ≡ line_of (line_size s) address = same_line (line_size s) address word (leb-true (line_of config.line address) word p.0) (ltb-true word (line_of config.line address + length_of (line_size s)) p.1) in
      let writer : perm_at s k (line_of (line_size s) address) ≡ Trunk = subst (λ z. perm_at s k z ≡ Trunk) line (trunk k word e) in
      let none : perm_at s h (line_of (line_size s) address) ≡ Nothing = coherent.one_writer k h (line_of (line_size s) address) ne writer in
      let y = here h address x in
      not_nothing y.0 (sym (ap perm_of y.1) ∙ none))

  pub outlasts : (h : ℕ) (o : Option ℕ) → HasLines (node_at s h) o → Outlasts s config h o
  outlasts h None x = tt
  outlasts h (Some address) x = λ k word b e. go k word e (eqb_tells k h)
    where
      go : (k word : ℕ) → (node_at s k).reserved ≡ Some word → ((nat_eq k h ≡ true) × (k ≡ h)) ⊎ ((nat_eq k h ≡ false) × (k ≢ h)) → reservation_after config h address k (Some word) ≡ Some word
      go k word e (inl q) =
          let y : HasLine (node_at s h) word = reserved_line h word (subst (λ j. (node_at s j).reserved ≡ Some word) q.1 e) in
          ap (λ b. cond b (without_rival config address (Some word)) (without_line (line_of config.line address) (line_size s) (Some word))) q.0
          ∙ ap (λ b. cond b None (Some word)) (not_rivals h address word x y)
      go k word e (inr q) =
          ap (λ b. cond b (without_rival config address (Some word)) (without_line (line_of config.line address) (line_size s) (Some word))) q.0
          ∙ ap (λ b. cond b None (Some word)) (not_there h k address word q.1 x e)
