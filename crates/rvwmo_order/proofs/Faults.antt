-- The operations of a fault break its code's rule.
use Rattle.std.proofs.Common.{◌≡◌, ℕ, List, [], ◌∷◌, Bool, true, Option, Some, None, refl, sym, ap, ◌∙◌, subst, not, ◌&&◌, inl, inr, find}
use Rattle.std.specs.Prelude.{nat_eq}
use Rattle.std.specs.List.{list_any}
use Rattle.std.proofs.lemmas.Bool.{and_from, or_left}
use Rattle.std.proofs.lemmas.Option.{same_Some}
use Rattle.machine_types.specs.declared.model.MemoryModel.{MemoryModel}
use Rattle.memory_model.specs.declared.operation.Operation.{Operation}
use Rattle.memory_model.specs.Items.{Item}
use Rattle.memory_model.specs.Legal.{returns_sources}
use Rattle.memory_model.specs.Operations.{same}
use Rattle.memory_model.proofs.Named.{EachOnce}
use Rattle.memory_model.specs.Order.{before}
use Rattle.memory_model.specs.Rules.{asked_by}
use Rattle.memory_model.specs.Traces.{image_of, instructions, operations_at}
use Rattle.memory_model.specs.Verdict.{Breaks, Code, codes}
use Rattle.memory_model.proofs.Forms.{same-self}
use Rattle.memory_model.proofs.Lists.{Contains-from_Member, Member}
use Rattle.memory_model.specs.History.{History}
use Rattle.memory_model.specs.OpId.{OpId}
use Rattle.rvwmo_order.specs.Answers.{IsSoundVerdict}
use Rattle.rvwmo_order.specs.Codes.{code_number}
use Rattle.rvwmo_order.specs.Rules.{rule_of}
use Rattle.rvwmo_order.specs.Scans.{all_rules, first_broken_pair, first_broken_rule, first_out_of_order, found_or, is_broken_pair, judged, ruled_or, verdict_by, wrong_load}
use Rattle.rvwmo_order.specs.declared.verdict.Code.TheVariants.{Order}
use Rattle.rvwmo_order.specs.declared.rule.Rule.{Rule}
use Rattle.rvwmo_order.specs.declared.rule.Rule.TheVariants.{OverlappingStore, SameByteLoads, AtomicSource, Fence, Acquire, Release, Annotations, Pair, Address, Data, Control, DependentStore, DependentAddress}
use Rattle.rvwmo_order.proofs.Judged.{OutOfOrder, found, out_of_order, pair}

abbrev pub ruled : Rule → Operation → Operation → Rule × Operation × Operation
ruled r a b = (r, a, b)

-- the pair is one of a code of this number
abbrev pub is_named_by : MemoryModel → (ℕ → ℕ) → List (List Item) → List Operation → ℕ → Operation → Operation → Bool
is_named_by model image harts order number a b = list_any (λ (c : Code). nat_eq c.number number && c.broken a b) (codes model image harts order)

module _ (model : MemoryModel) (image : ℕ → ℕ) (harts : List (List Item)) (order : List Operation) where
  rule_named : (r : Rule) (a b : Operation) → (asked_by model harts order (rule_of r) a b && not (before order a b)) ≡ true → is_named_by model image harts order (code_number (Order r)) a b ≡ true
  rule_named OverlappingStore a b e = or_left _ _ e
  rule_named SameByteLoads a b e = or_left _ _ e
  rule_named AtomicSource a b e = or_left _ _ e
  rule_named Fence a b e = or_left _ _ e
  rule_named Acquire a b e = or_left _ _ e
  rule_named Release a b e = or_left _ _ e
  rule_named Annotations a b e = or_left _ _ e
  rule_named Pair a b e = or_left _ _ e
  rule_named Address a b e = or_left _ _ e
  rule_named Data a b e = or_left _ _ e
  rule_named Control a b e = or_left _ _ e
  rule_named DependentStore a b e = or_left _ _ e
  rule_named DependentAddress a b e = or_left _ _ e

  load_named : (a : Operation) → (same a a && not (returns_sources image order a)) ≡ true → is_named_by model image harts order 14 a a ≡ true
  load_named a e = or_left _ _ e

  pair_named : (a b : Operation) → is_broken_pair harts order a b ≡ true → is_named_by model image harts order 15 a b ≡ true
  pair_named a b e = or_left _ _ e

  rule_found : (rs : List Rule) (r : Rule) (a b : Operation) → EachOnce order → first_broken_rule model harts order rs ≡ Some (r, a, b) → OutOfOrder (asked_by model harts order (rule_of r)) order a b
  rule_found [] r a b d e = cc
  rule_found (q ∷ rs) r a b d e = go (first_out_of_order (asked_by model harts order (rule_of q)) order) refl e (rule_found rs r a b d)
    where
      go : (o : Option (Operation × Operation)) → first_out_of_order (asked_by model harts order (rule_of q)) order ≡ o → ruled_or q o (first_broken_rule model harts order rs) ≡ Some (r, a, b)
          → (first_broken_rule model harts order rs ≡ Some (r, a, b) → OutOfOrder (asked_by model harts order (rule_of r)) order a b)
          → OutOfOrder (asked_by model harts order (rule_of r)) order a b
      go None f e ih = ih e
      go (Some p) f e ih =
          let all = same_Some (ruled q p.0 p.1) (ruled r a b) e in
          let same_rule : q ≡ r = ap (λ (v : Rule × Operation × Operation). v.0) all in
          let same_pair : pair p.0 p.1 ≡ pair a b = ap (λ (v : Rule × Operation × Operation). pair v.1 v.2) all in
          let at_q : first_out_of_order (asked_by model harts order (rule_of q)) order ≡ Some (pair a b) = f ∙ ap Some same_pair in
          out_of_order (asked_by model harts order (rule_of r)) order a b d (subst (λ (z : Rule). first_out_of_order (asked_by model harts order (rule_of z)) order ≡ Some (pair a b)) same_rule at_q)

  rule_breaks : (r : Rule) (a b : Operation) → OutOfOrder (asked_by model harts order (rule_of r)) order a b → Breaks model image harts order (code_number (Order r)) a b
  rule_breaks r a b o = record {
    has_a = Contains-from_Member order a o.has_a;
    has_b = Contains-from_Member order b o.has_b;
    broken = rule_named r a b (and_from _ _ o.asked (ap (λ (c : Bool). not c) o.behind));
  }

  load_breaks : (a : Operation) → wrong_load image order ≡ Some a → Breaks model image harts order 14 a a
  load_breaks a e =
      let f = found (λ a. not (returns_sources image order a)) order a e in
      record { has_a = Contains-from_Member order a f.1; has_b = Contains-from_Member order a f.1; broken = load_named a (and_from _ _ (same-self a) f.0) }

  pair_breaks : (ws : List Operation) (a b : Operation) → first_broken_pair harts order ws ≡ Some (a, b) → (is_broken_pair harts order a b ≡ true) × Member a order × Member b ws
  pair_breaks [] a b e = cc
  pair_breaks (w ∷ ws) a b e = go (find (λ r. is_broken_pair harts order r w) order) refl e (pair_breaks ws a b)
    where
      go : (o : Option Operation) → find (λ r. is_broken_pair harts order r w) order ≡ o → found_or o w (first_broken_pair harts order ws) ≡ Some (a, b)
          → (first_broken_pair harts order ws ≡ Some (a, b) → (is_broken_pair harts order a b ≡ true) × Member a order × Member b ws)
          → (is_broken_pair harts order a b ≡ true) × Member a order × Member b (w ∷ ws)
      go None f e ih = let t = ih e in (t.0, t.1, inr t.2)
      go (Some r) f e ih =
          let pairs = same_Some (pair r w) (pair a b) e in
          let same_r : r ≡ a = ap (λ (v : Operation × Operation). v.0) pairs in
          let same_w : w ≡ b = ap (λ (v : Operation × Operation). v.1) pairs in
          let t = found (λ r. is_broken_pair harts order r w) order r f in
          (subst (λ (y : Operation). is_broken_pair harts order a y ≡ true) same_w (subst (λ (x : Operation). is_broken_pair harts order x w ≡ true) same_r t.0), subst (λ (x : Operation). Member x order) same_r t.1, inl (sym same_w))

pub sound : (model : MemoryModel) (t : History) (names : List OpId) → EachOnce (operations_at (instructions t) names)
    → IsSoundVerdict model t names (judged model (image_of t) (instructions t) (operations_at (instructions t) names))
sound model t names d =
    go (first_broken_rule model (instructions t) (operations_at (instructions t) names) all_rules) refl (wrong_load (image_of t) (operations_at (instructions t) names)) refl (first_broken_pair (instructions t) (operations_at (instructions t) names) (operations_at (instructions t) names)) refl
  where
    go : (f : Option (Rule × Operation × Operation)) → first_broken_rule model (instructions t) (operations_at (instructions t) names) all_rules ≡ f
        → (v : Option Operation) → wrong_load (image_of t) (operations_at (instructions t) names) ≡ v
        → (p : Option (Operation × Operation)) → first_broken_pair (instructions t) (operations_at (instructions t) names) (operations_at (instructions t) names) ≡ p
        → IsSoundVerdict model t names (verdict_by f v p)
    go (Some f) e v g p h = record {
      first = f.1;
      second = f.2;
      first_name = refl;
      second_name = refl;
      breaks = rule_breaks model (image_of t) (instructions t) (operations_at (instructions t) names) f.0 f.1 f.2 (rule_found model (image_of t) (instructions t) (operations_at (instructions t) names) all_rules f.0 f.1 f.2 d e);
    }
    go None e (Some a) g p h = record {
      first = a;
      second = a;
      first_name = refl;
      second_name = refl;
      breaks = load_breaks model (image_of t) (instructions t) (operations_at (instructions t) names) a g;
    }
    go None e None g (Some p) h =
        let b = pair_breaks model (image_of t) (instructions t) (operations_at (instructions t) names) (operations_at (instructions t) names) p.0 p.1 h in
        record {
          first = p.0;
          second = p.1;
          first_name = refl;
          second_name = refl;
          breaks = record {
            has_a = Contains-from_Member (operations_at (instructions t) names) p.0 b.1;
            has_b = Contains-from_Member (operations_at (instructions t) names) p.1 b.2;
            broken = pair_named model (image_of t) (instructions t) (operations_at (instructions t) names) p.0 p.1 b.0;
          };
        }
    go None e None g None h = tt
