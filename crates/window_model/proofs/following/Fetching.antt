-- Fetching keeps what is kept, instruction by instruction.
use Rattle.std.proofs.Common.{◌≡◌, ℕ, ◌+◌, ◌<◌, List, [], ◌∷◌, ◌++◌, Bool, true, false, Option, Some, None, refl, cond, sym, ap, ◌∙◌, not, ◌&&◌, ◌||◌, ◌⊎◌, inl, inr, ⊎_elim, arith, length, subst}
use Rattle.std.specs.Prelude.{nat_eq, nat_lt, slice_get}
use Rattle.std.specs.List.{Contains, list_any}
use Rattle.std.specs.Option.{option_map, option_to_list}
use Rattle.std.proofs.lemmas.Bool.{false≢true, and_from, and_parts, eq-eqb, eqb-true, lt-ltb, or_from, or_left, or_right}
use Rattle.std.proofs.lemmas.List.{append-nil, append_assoc}
use Rattle.std.proofs.lemmas.List.Folds.{list_any-append}
use Rattle.hart.specs.declared.retired.Retired.{Retired}
use Rattle.machine_types.specs.declared.model.MemoryModel.{MemoryModel}
use Rattle.memory_model.specs.declared.operation.Kind.{Kind}
use Rattle.memory_model.specs.declared.operation.Kind.TheVariants.{Load, Store, Lr, Sc, Amo}
use Rattle.memory_model.specs.declared.operation.Operation.{Operation}
use Rattle.memory_model.specs.Dependencies.{between, has_address_dependency, has_control_dependency, has_data_dependency, has_dependent_address_between, instr_in, sources, steers, uses_at, uses_in}
use Rattle.memory_model.specs.Items.{Item}
use Rattle.memory_model.specs.Operations.{has_acquire, has_rcsc, has_release, is_lr, is_sc, overlap, precedes, reads, writes}
use Rattle.memory_model.specs.Reaching.{Reaches, ReachesOne}
use Rattle.memory_model.specs.Reaching.Reaches.{directly, through}
use Rattle.memory_model.specs.Rules.{fences, has_read, has_write, is_in_set, is_lr_or_sc, paired}
use Rattle.memory_model.proofs.Lists.{Member, Contains-from_Member, Member-from_Contains, Each-append}
use Rattle.memory_model.proofs.Reaching.{dependency_forms_agree}
use Rattle.rv32_decode.specs.declared.instruction.Instr.{Instr}
use Rattle.rv32_decode.specs.declared.instruction.Instr.TheVariants as instr
use Rattle.rv32_exec.specs.Uses.{Uses}
use Rattle.trace_operations.specs.Placed.{IsPlaced}
use Rattle.window_model.specs.Fetching.{acquired, fetched_as, itself, loads_behind, must_precede, needs_of, registers_behind, reservation_behind, reserves, stores_behind, waiting_with, window_behind}
use Rattle.window_model.specs.Nodes.{Node, Reserved, address_of, lr_of, own_of}
use Rattle.window_model.specs.Pairs.{Pairs}
use Rattle.window_model.specs.Reserving.{is_reserved, may_do}
use Rattle.window_model.specs.Waiting.{Waiting, is_store, overlaps}
use Rattle.window_model.specs.Waits.{Waits, of_registers, only, those, when, ◌∪◌}
use Rattle.window_model.proofs.Pairs.{pairs_append, pairs_left, pairs_length, pairs_right, pairs_weaker}
use Rattle.window_model.proofs.Positions.{at_end, at_longer}
use Rattle.window_model.proofs.Waits.{At, Only, either, only_longer, only_none, only_one, only_registers, only_union, only_weaker, only_when, those_are, those_at}
use Rattle.window_model.proofs.following.Given.{IsOf, has_acquire-unplaced, has_rcsc-unplaced, has_release-unplaced, unplaced}
use Rattle.window_model.proofs.following.Kept.{Feeds, Fills, IsOwn, IsReserving, Kept, Leads, Precedes, Reserving, Shows, Stands}
use Rattle.window_model.proofs.following.Rules.{Asks, by_1, by_4, by_5, by_6, by_7, by_8, by_9, by_10, by_11, by_13}
use Rattle.window_model.proofs.following.Stretches.{stretch, stretch_next, stretch_none, stretch_split}

-- ---- an instruction of the list, and where it stands

pub record Next (model : MemoryModel) (items : List Item) (hart p : ℕ) (m : Item) : Type 0 where
  pub placed : IsPlaced 0 items
  pub stands : slice_get items p ≡ Some m
  -- its operation is the hart's own, at its place
  pub own : (b : Operation) → m.operation ≡ Some b → (b.hart ≡ hart) × (b.place ≡ p) × IsOf m.instr b
  -- it writes one of x0 to x31
  pub written : (r : ℕ) → list_any (nat_eq r) (uses_in m.instr).written ≡ true → r < 32

-- ---- lists

member_any : (r : ℕ) (rs : List ℕ) → list_any (nat_eq r) rs ≡ true → Member r rs
member_any r [] e = absurd (false≢true e)
member_any r (q ∷ rest) e = go (nat_eq r q) refl e (member_any r rest)
  where
    go : (b : Bool) → nat_eq r q ≡ b → (b || list_any (nat_eq r) rest) ≡ true → (list_any (nat_eq r) rest ≡ true → Member r rest) → Member r (q ∷ rest)
    go true f h later = inl (eqb-true r q f)
    go false f h later = inr (later h)

any_member : (r : ℕ) (rs : List ℕ) → Member r rs → list_any (nat_eq r) rs ≡ true
any_member r [] m = absurd m
any_member r (q ∷ rest) (inl e) = or_left (nat_eq r q) (list_any (nat_eq r) rest) (eq-eqb r q e)
any_member r (q ∷ rest) (inr m) = or_right (nat_eq r q) (list_any (nat_eq r) rest) (any_member r rest m)

contains_any : (r : ℕ) (rs : List ℕ) → list_any (nat_eq r) rs ≡ true → Contains rs r
contains_any r rs e = Contains-from_Member rs r (member_any r rs e)

pub any_middle : {X : Type 0} (test : X → Bool) (xs : List X) (x : X) (ys : List X) → test x ≡ true → list_any test (xs ++ x ∷ ys) ≡ true
any_middle test [] x ys t = or_left (test x) (list_any test ys) t
any_middle test (y ∷ xs) x ys t = or_right (test y) (list_any test (xs ++ x ∷ ys)) (any_middle test xs x ys t)

-- in a list with what an instruction gives, an operation stood there or is that one
at_more : (ops : List Operation) (o : Option Operation) (k : ℕ) (a : Operation) → slice_get (ops ++ option_to_list o) k ≡ Some a → (slice_get ops k ≡ Some a) ⊎ (o ≡ Some a)
at_more ops None k a e = inl (sym (ap (λ ys. slice_get ys k) (append-nil ops)) ∙ e)
at_more ops (Some b) k a e = at_longer (λ c. c ≡ a → (slice_get ops k ≡ Some a) ⊎ (Some b ≡ Some a)) ops b k a e (λ f g. inl f) (λ f g. inr (ap (λ c. Some c) g)) refl

-- ---- what reaches a register goes on to do so

reaches_past : (first : Uses) (before : List Item) (m : Item) (r : ℕ) → (list_any (nat_eq r) (uses_in m.instr).written ≡ true → ⊥) → Reaches first before r → Reaches first (before ++ m ∷ []) r
reaches_past first before m r free (directly _ _ within wrote unwritten) =
    directly (before ++ m ∷ []) r within wrote (Each-append (λ (i : Item). Contains (uses_in i.instr).written r → ⊥) before (m ∷ []) unwritten ((λ c. free (any_member r (uses_in m.instr).written (Member-from_Contains (uses_in m.instr).written r c))), tt))
reaches_past first _ m r free (through front i behind q _ reaches reading within wrote unwritten) =
    subst (λ ms. Reaches first ms r) (sym (append_assoc front (i ∷ behind) (m ∷ [])))
    (through front i (behind ++ m ∷ []) q r reaches reading within wrote
    (Each-append (λ (j : Item). Contains (uses_in j.instr).written r → ⊥) behind (m ∷ []) unwritten ((λ c. free (any_member r (uses_in m.instr).written (Member-from_Contains (uses_in m.instr).written r c))), tt)))

-- ---- fences by kinds

fences_reads : (i : Option Instr) (a b : Kind) → fences i a Load ≡ true → reads b ≡ true → fences i a b ≡ true
fences_reads None a b e t = absurd (false≢true e)
fences_reads (Some (instr.Fence sets)) a Load e t = e
fences_reads (Some (instr.Fence sets)) a Lr e t = e
fences_reads (Some (instr.Fence sets)) a Amo e t =
    let h = and_parts (is_in_set sets.before a) (is_in_set sets.after Load) e in
    and_from (is_in_set sets.before a) (is_in_set sets.after Amo) h.0 (or_left (has_read sets.after) (has_write sets.after) (only_left (has_read sets.after) h.1))
  where
    only_left : (x : Bool) → (x || false) ≡ true → x ≡ true
    only_left true k = refl
    only_left false k = k
fences_reads (Some (instr.Fence sets)) a Store e t = absurd (false≢true t)
fences_reads (Some (instr.Fence sets)) a Sc e t = absurd (false≢true t)
fences_reads (Some instr.FenceTso) a b e t = go (reads a) (writes a) e
  where
    go : (x y : Bool) → (x || (y && false)) ≡ true → (x || (y && writes b)) ≡ true
    go true y h = refl
    go false true h = absurd (false≢true h)
    go false false h = absurd (false≢true h)
fences_reads (Some (instr.Upper op rd imm)) a b e t = absurd (false≢true e)
fences_reads (Some (instr.Jal rd offset)) a b e t = absurd (false≢true e)
fences_reads (Some (instr.Jalr rd rs1 offset)) a b e t = absurd (false≢true e)
fences_reads (Some (instr.Branch op rs1 rs2 offset)) a b e t = absurd (false≢true e)
fences_reads (Some (instr.Load op rd rs1 offset)) a b e t = absurd (false≢true e)
fences_reads (Some (instr.Store op rs1 rs2 offset)) a b e t = absurd (false≢true e)
fences_reads (Some (instr.Immediate op rd rs1 imm)) a b e t = absurd (false≢true e)
fences_reads (Some (instr.Shift op rd rs1 amount)) a b e t = absurd (false≢true e)
fences_reads (Some (instr.Register op rd rs1 rs2)) a b e t = absurd (false≢true e)
fences_reads (Some (instr.System op)) a b e t = absurd (false≢true e)
fences_reads (Some (instr.Lr rd rs1 bits)) a b e t = absurd (false≢true e)
fences_reads (Some (instr.Sc rd rs1 rs2 bits)) a b e t = absurd (false≢true e)
fences_reads (Some (instr.Amo op rd rs1 rs2 bits)) a b e t = absurd (false≢true e)

fences_writes : (i : Option Instr) (a b : Kind) → fences i a Store ≡ true → writes b ≡ true → fences i a b ≡ true
fences_writes None a b e t = absurd (false≢true e)
fences_writes (Some (instr.Fence sets)) a Store e t = e
fences_writes (Some (instr.Fence sets)) a Sc e t = e
fences_writes (Some (instr.Fence sets)) a Amo e t =
    let h = and_parts (is_in_set sets.before a) (is_in_set sets.after Store) e in
    and_from (is_in_set sets.before a) (is_in_set sets.after Amo) h.0 (or_right (has_read sets.after) (has_write sets.after) h.1)
fences_writes (Some (instr.Fence sets)) a Load e t = absurd (false≢true t)
fences_writes (Some (instr.Fence sets)) a Lr e t = absurd (false≢true t)
fences_writes (Some instr.FenceTso) a b e t = go (reads a) (writes a) e
  where
    go : (x y : Bool) → (x || (y && true)) ≡ true → (x || (y && writes b)) ≡ true
    go true y h = refl
    go false true h = t
    go false false h = absurd (false≢true h)
fences_writes (Some (instr.Upper op rd imm)) a b e t = absurd (false≢true e)
fences_writes (Some (instr.Jal rd offset)) a b e t = absurd (false≢true e)
fences_writes (Some (instr.Jalr rd rs1 offset)) a b e t = absurd (false≢true e)
fences_writes (Some (instr.Branch op rs1 rs2 offset)) a b e t = absurd (false≢true e)
fences_writes (Some (instr.Load op rd rs1 offset)) a b e t = absurd (false≢true e)
fences_writes (Some (instr.Store op rs1 rs2 offset)) a b e t = absurd (false≢true e)
fences_writes (Some (instr.Immediate op rd rs1 imm)) a b e t = absurd (false≢true e)
fences_writes (Some (instr.Shift op rd rs1 amount)) a b e t = absurd (false≢true e)
fences_writes (Some (instr.Register op rd rs1 rs2)) a b e t = absurd (false≢true e)
fences_writes (Some (instr.System op)) a b e t = absurd (false≢true e)
fences_writes (Some (instr.Lr rd rs1 bits)) a b e t = absurd (false≢true e)
fences_writes (Some (instr.Sc rd rs1 rs2 bits)) a b e t = absurd (false≢true e)
fences_writes (Some (instr.Amo op rd rs1 rs2 bits)) a b e t = absurd (false≢true e)

-- ---- what stands between

uses_there : (items : List Item) (b : Operation) (p : ℕ) (m : Item) → b.place ≡ p → slice_get items p ≡ Some m → uses_at items b ≡ uses_in m.instr
uses_there items b p m e f = ap (λ (o : Option Item). uses_in (instr_in o)) (ap (slice_get items) e ∙ f)

pub precedes_by : (a b : Operation) → a.hart ≡ b.hart → a.place < b.place → precedes a b ≡ true
precedes_by a b h l = and_from (nat_eq a.hart b.hart) (nat_lt a.place b.place) (eq-eqb a.hart b.hart h) (lt-ltb a.place b.place l)

-- the instruction at p stands between a and b
between_at : (items : List Item) (a b : Operation) (p : ℕ) (m : Item) → IsPlaced 0 items → slice_get items p ≡ Some m → a.place < p → p < b.place → between items a b ≡ stretch items a.place p ++ m ∷ stretch items p b.place
between_at items a b p m h e l k = stretch_split items a.place p b.place m h e l k

-- what reaches one of these registers before p
reaches_one : (items : List Item) (a : Operation) (p q : ℕ) (rs : List ℕ) → list_any (nat_eq q) rs ≡ true → Fills items p q a → ReachesOne (uses_at items a) (stretch items a.place p) rs
reaches_one items a p q rs e h = record { register = q; read = contains_any q rs e; reaches = h }

-- ---- each field, behind the instruction m at place p

record Before (model : MemoryModel) (items : List Item) (hart p : ℕ) (m : Item) (n : Node) (ops : List Operation) : Type 0 where
  next : Next model items hart p m
  kept : Kept model items hart p n ops

-- what waits at a position, as an operation
record Waiter (model : MemoryModel) (items : List Item) (hart p : ℕ) (ops : List Operation) (w : Waiting) (k : ℕ) : Type 0 where
  operation : Operation
  stands : slice_get ops k ≡ Some operation
  shows : Shows model w operation
  own : IsOwn items hart p operation

waiter : (model : MemoryModel) (items : List Item) (hart p : ℕ) (n : Node) (ops : List Operation) (k : ℕ) (w : Waiting) → Kept model items hart p n ops → slice_get n.window k ≡ Some w → Waiter model items hart p ops w k
waiter model items hart p n ops k w h e =
    let b = pairs_left (Stands model items ops) n.window ops k w h.window e in
    record { operation = b.other; stands = b.stands; shows = b.belongs.shows; own = h.own k b.other b.stands }

-- ---- registers

fills_more : (items : List Item) (p r : ℕ) (m : Item) (a : Operation) → IsPlaced 0 items → slice_get items p ≡ Some m → a.place < p → Reaches (uses_at items a) (stretch items a.place p ++ m ∷ []) r → Fills items (p + 1) r a
fills_more items p r m a h e l f = subst (λ ms. Reaches (uses_at items a) ms r) (sym (stretch_next items a.place p m h e l)) f

fills_itself : (items : List Item) (p r : ℕ) (m : Item) (b : Operation) → slice_get items p ≡ Some m → b.place ≡ p → r < 32 → list_any (nat_eq r) (uses_in m.instr).written ≡ true → Fills items (p + 1) r b
fills_itself items p r m b e at within wrote =
    subst (λ q. Reaches (uses_at items b) (stretch items b.place (q + 1)) r) at
    (subst (λ ms. Reaches (uses_at items b) ms r) (sym (stretch_none items b.place))
    (directly [] r within (subst (λ (u : Uses). Contains u.written r) (sym (uses_there items b p m at e)) (contains_any r (uses_in m.instr).written wrote)) tt))

registers_kept : (model : MemoryModel) (items : List Item) (hart p : ℕ) (m : Item) (n : Node) (ops : List Operation) → Before model items hart p m n ops
    → (r : ℕ) → Only (Fills items (p + 1) r) (ops ++ option_to_list m.operation) (registers_behind n m.instr (option_map unplaced m.operation) r)
registers_kept model items hart p m n ops b r = go (list_any (nat_eq r) (uses_in m.instr).written) refl
  where
    more : List Operation
    more = option_to_list m.operation

    through_m : (q k : ℕ) → r < 32 → list_any (nat_eq r) (uses_in m.instr).written ≡ true → list_any (nat_eq q) (sources (uses_in m.instr)) ≡ true → n.registers q k ≡ true → At (Fills items (p + 1) r) ops k
    through_m q k within wrote read e =
        let h = b.kept.registers q k e in
        let own = b.kept.own k h.element h.stands in
        record {
          element = h.element;
          stands = h.stands;
          is = fills_more items p r m h.element b.next.placed b.next.stands own.before (through (stretch items h.element.place p) m [] q r h.is (contains_any q (sources (uses_in m.instr)) read) within (contains_any r (uses_in m.instr).written wrote) tt);
        }

    itself_fills : (o : Option Operation) → m.operation ≡ o → r < 32 → list_any (nat_eq r) (uses_in m.instr).written ≡ true → Only (Fills items (p + 1) r) (ops ++ option_to_list o) (itself (length n.window) (option_map unplaced o))
    itself_fills None f within wrote = only_none (Fills items (p + 1) r) (ops ++ [])
    itself_fills (Some c) f within wrote =
        only_one (Fills items (p + 1) r) (ops ++ c ∷ []) (length n.window) c
        (ap (slice_get (ops ++ c ∷ [])) (pairs_length (Stands model items ops) n.window ops b.kept.window) ∙ at_end ops c)
        (fills_itself items p r m c b.next.stands (b.next.own c f).1 within wrote)

    stays : (list_any (nat_eq r) (uses_in m.instr).written ≡ true → ⊥) → (k : ℕ) (a : Operation) → slice_get ops k ≡ Some a → Fills items p r a → Fills items (p + 1) r a
    stays free k a e h = fills_more items p r m a b.next.placed b.next.stands (b.kept.own k a e).before (reaches_past (uses_at items a) (stretch items a.place p) m r free h)

    go : (c : Bool) → list_any (nat_eq r) (uses_in m.instr).written ≡ c → Only (Fills items (p + 1) r) (ops ++ more) (cond c (of_registers n.registers (sources (uses_in m.instr)) ∪ itself (length n.window) (option_map unplaced m.operation)) (n.registers r))
    go true wrote =
        let within = b.next.written r wrote in
        only_union (Fills items (p + 1) r) (ops ++ more) (of_registers n.registers (sources (uses_in m.instr))) (itself (length n.window) (option_map unplaced m.operation))
        (only_longer (Fills items (p + 1) r) ops more (of_registers n.registers (sources (uses_in m.instr))) (only_registers (Fills items (p + 1) r) ops n.registers (sources (uses_in m.instr)) (λ q k read e. through_m q k within wrote read e)))
        (itself_fills m.operation refl within wrote)
    go false free =
        only_longer (Fills items (p + 1) r) ops more (n.registers r)
        (only_weaker (Fills items p r) (Fills items (p + 1) r) ops (n.registers r) (stays (λ e. false≢true (sym free ∙ e))) (b.kept.registers r))

-- ---- what later operations are behind

leads_on : (model : MemoryModel) (items : List Item) (test : Kind → Bool) (p : ℕ) (a : Operation) → Leads model items test p a → Leads model items test (p + 1) a
leads_on model items test p a h b same l t = h b same (omega arith) t

fence_leads : (model : MemoryModel) (items : List Item) (hart p : ℕ) (m : Item) (n : Node) (ops : List Operation) → Before model items hart p m n ops
    → (test : Kind → Bool) (kind : Kind) → ((i : Option Instr) (a b : Kind) → fences i a kind ≡ true → test b ≡ true → fences i a b ≡ true)
    → Only (Leads model items test (p + 1)) ops (those (λ (w : Waiting). fences m.instr w.kind kind) n.window)
fence_leads model items hart p m n ops b test kind weaker k e =
    let t = those_are (λ (w : Waiting). fences m.instr w.kind kind) n.window k e in
    let w = waiter model items hart p n ops k t.element b.kept t.stands in
    record {
      element = w.operation;
      stands = w.stands;
      is = λ c same l passes.
          let own = w.own in
          by_4 model items w.operation c
          (ap (list_any (λ (i : Item). fences i.instr w.operation.kind c.kind)) (between_at items w.operation c p m b.next.placed b.next.stands own.before (omega arith))
          ∙ any_middle (λ (i : Item). fences i.instr w.operation.kind c.kind) (stretch items w.operation.place p) m (stretch items p c.place)
          (weaker m.instr w.operation.kind c.kind (ap (λ a. fences m.instr a kind) (sym w.shows.kind_is) ∙ t.passes) passes));
    }

acquire_leads : (model : MemoryModel) (items : List Item) (hart p : ℕ) (m : Item) (n : Node) (ops : List Operation) → Before model items hart p m n ops
    → (test : Kind → Bool) (o : Option Operation) → Only (Leads model items test (p + 1)) (ops ++ option_to_list o) (acquired model (length n.window) (option_map unplaced o))
acquire_leads model items hart p m n ops b test None = only_none (Leads model items test (p + 1)) (ops ++ [])
acquire_leads model items hart p m n ops b test (Some a) =
    only_when (Leads model items test (p + 1)) (ops ++ a ∷ []) (has_acquire model (unplaced a)) (only (length n.window))
    (λ e. only_one (Leads model items test (p + 1)) (ops ++ a ∷ []) (length n.window) a
    (ap (slice_get (ops ++ a ∷ [])) (pairs_length (Stands model items ops) n.window ops b.kept.window) ∙ at_end ops a)
    (λ c same l passes. by_5 model items a c (sym (has_acquire-unplaced model a) ∙ e)))

loads_kept : (model : MemoryModel) (items : List Item) (hart p : ℕ) (m : Item) (n : Node) (ops : List Operation) → Before model items hart p m n ops
    → Only (Leads model items reads (p + 1)) (ops ++ option_to_list m.operation) (loads_behind model n m.instr (option_map unplaced m.operation))
loads_kept model items hart p m n ops b =
    only_union P all n.loads _ (only_longer P ops more n.loads (only_weaker (Leads model items reads p) P ops n.loads (λ k a e h. leads_on model items reads p a h) b.kept.loads))
    (only_union P all (those (λ (w : Waiting). fences m.instr w.kind Load) n.window) (acquired model (length n.window) (option_map unplaced m.operation))
    (only_longer P ops more (those (λ (w : Waiting). fences m.instr w.kind Load) n.window) (fence_leads model items hart p m n ops b reads Load fences_reads))
    (acquire_leads model items hart p m n ops b reads m.operation))
  where
    P : Operation → Type 0
    P = Leads model items reads (p + 1)

    more : List Operation
    more = option_to_list m.operation

    all : List Operation
    all = ops ++ more

-- rule 11: a branch or a JALR at p depends on what these registers have
steering_leads : (model : MemoryModel) (items : List Item) (hart p : ℕ) (m : Item) (n : Node) (ops : List Operation) → Before model items hart p m n ops
    → Only (Leads model items writes (p + 1)) ops (when (steers m.instr) (of_registers n.registers (sources (uses_in m.instr))))
steering_leads model items hart p m n ops b =
    only_when (Leads model items writes (p + 1)) ops (steers m.instr) (of_registers n.registers (sources (uses_in m.instr))) (λ steering.
    only_registers (Leads model items writes (p + 1)) ops n.registers (sources (uses_in m.instr)) (λ q k read e.
    let h = b.kept.registers q k e in
    let own = b.kept.own k h.element h.stands in
    record {
      element = h.element;
      stands = h.stands;
      is = λ c same l passes.
          by_11 model items h.element c
          (and_from (writes c.kind) (has_control_dependency items h.element c) passes
          ((dependency_forms_agree items h.element c).control.1 (
            precedes_by h.element c same (omega (arith, own.before)),
            record {
              before = stretch items h.element.place p;
              met = m;
              behind = stretch items p c.place;
              split = between_at items h.element c p m b.next.placed b.next.stands own.before (omega arith);
              counts = steering;
              reaches = reaches_one items h.element p q (sources (uses_in m.instr)) read h.is;
            },
          )));
    }))

-- rule 13: an access at p has an address dependency on what these registers have
address_leads : (model : MemoryModel) (items : List Item) (hart p : ℕ) (m : Item) (n : Node) (ops : List Operation) → Before model items hart p m n ops
    → Only (Leads model items writes (p + 1)) ops (of_registers n.registers (uses_in m.instr).address)
address_leads model items hart p m n ops b =
    only_registers (Leads model items writes (p + 1)) ops n.registers (uses_in m.instr).address (λ q k read e.
    let h = b.kept.registers q k e in
    let own = b.kept.own k h.element h.stands in
    record {
      element = h.element;
      stands = h.stands;
      is = λ c same l passes.
          by_13 model items h.element c
          (and_from (writes c.kind) (has_dependent_address_between items h.element c) passes
          ((dependency_forms_agree items h.element c).address_between.1 (
            precedes_by h.element c same (omega (arith, own.before)),
            record {
              before = stretch items h.element.place p;
              met = m;
              behind = stretch items p c.place;
              split = between_at items h.element c p m b.next.placed b.next.stands own.before (omega arith);
              counts = tt;
              reaches = reaches_one items h.element p q (uses_in m.instr).address read h.is;
            },
          )));
    })

stores_kept : (model : MemoryModel) (items : List Item) (hart p : ℕ) (m : Item) (n : Node) (ops : List Operation) → Before model items hart p m n ops
    → Only (Leads model items writes (p + 1)) (ops ++ option_to_list m.operation) (stores_behind model n m.instr (option_map unplaced m.operation))
stores_kept model items hart p m n ops b =
    only_union P all n.stores _ (longer n.stores (only_weaker (Leads model items writes p) P ops n.stores (λ k a e h. leads_on model items writes p a h) b.kept.stores))
    (only_union P all fenced _ (longer fenced (fence_leads model items hart p m n ops b writes Store fences_writes))
    (only_union P all (acquired model (length n.window) (option_map unplaced m.operation)) _ (acquire_leads model items hart p m n ops b writes m.operation)
    (only_union P all steered addressed (longer steered (steering_leads model items hart p m n ops b)) (longer addressed (address_leads model items hart p m n ops b)))))
  where
    P : Operation → Type 0
    P = Leads model items writes (p + 1)

    all : List Operation
    all = ops ++ option_to_list m.operation

    fenced : Waits
    fenced = those (λ (w : Waiting). fences m.instr w.kind Store) n.window

    steered : Waits
    steered = when (steers m.instr) (of_registers n.registers (sources (uses_in m.instr)))

    addressed : Waits
    addressed = of_registers n.registers (uses_in m.instr).address

    longer : (s : Waits) → Only P ops s → Only P all s
    longer s f = only_longer P ops (option_to_list m.operation) s f

-- ---- the hart's own operations

own_on : (items : List Item) (hart p : ℕ) (a : Operation) → IsOwn items hart p a → IsOwn items hart (p + 1) a
own_on items hart p a h = let l = h.before in record { item = h.item; stands = h.stands; gives = h.gives; hart_is = h.hart_is; before = omega arith; is = h.is }

own_new : (model : MemoryModel) (items : List Item) (hart p : ℕ) (m : Item) (a : Operation) → Next model items hart p m → m.operation ≡ Some a → IsOwn items hart (p + 1) a
own_new model items hart p m a h e =
    let o = h.own a e in
    let at = o.1 in
    record { item = m; stands = ap (slice_get items) at ∙ h.stands; gives = e; hart_is = o.0; before = omega arith; is = o.2 }

own_kept : (model : MemoryModel) (items : List Item) (hart p : ℕ) (m : Item) (n : Node) (ops : List Operation) → Before model items hart p m n ops
    → (k : ℕ) (a : Operation) → slice_get (ops ++ option_to_list m.operation) k ≡ Some a → IsOwn items hart (p + 1) a
own_kept model items hart p m n ops b k a e = ⊎_elim (λ f. own_on items hart p a (b.kept.own k a f)) (λ f. own_new model items hart p m a b.next f) (at_more ops m.operation k a e)

overlaps_is : (model : MemoryModel) (w : Waiting) (a b : Operation) → Shows model w a → overlaps b.address b.size w ≡ overlap a b
overlaps_is model w a b s =
    ap (λ x. nat_lt x (b.address + b.size) && nat_lt b.address (x + w.size)) s.address_is
    ∙ ap (λ y. nat_lt a.address (b.address + b.size) && nat_lt b.address (a.address + y)) s.size_is

-- ---- the reservation

pairs_none : (xs : List Item) (m : Item) → list_any (λ (i : Item). is_lr_or_sc i.instr) xs ≡ false → is_lr_or_sc m.instr ≡ false → list_any (λ (i : Item). is_lr_or_sc i.instr) (xs ++ m ∷ []) ≡ false
pairs_none xs m e f = list_any-append (λ (i : Item). is_lr_or_sc i.instr) xs (m ∷ []) ∙ or_from (list_any (λ (i : Item). is_lr_or_sc i.instr) xs) (list_any (λ (i : Item). is_lr_or_sc i.instr) (m ∷ [])) e (or_from (is_lr_or_sc m.instr) false f refl)

reservation_stays : (model : MemoryModel) (items : List Item) (hart p : ℕ) (m : Item) (ops : List Operation) → Next model items hart p m → is_lr_or_sc m.instr ≡ false → (r : Option Reserved) → IsReserving items hart ops p r → IsReserving items hart (ops ++ option_to_list m.operation) (p + 1) r
reservation_stays model items hart p m ops next other None h = tt
reservation_stays model items hart p m ops next other (Some r) h = record {
  lr = h.lr;
  own = own_on items hart p h.lr h.own;
  is = h.is;
  address_is = h.address_is;
  alone = ap (list_any (λ (i : Item). is_lr_or_sc i.instr)) (stretch_next items h.lr.place p m next.placed next.stands h.own.before) ∙ pairs_none (stretch items h.lr.place p) m h.alone other;
  only = only_longer (λ (a : Operation). a ≡ h.lr) ops (option_to_list m.operation) r.lr h.only;
  waits = λ k e. ⊎_elim (λ f. h.waits k f) (λ f. let at = (next.own h.lr f).1 in let l = h.own.before in absurd (omega (arith, at, l))) (at_more ops m.operation k h.lr e);
  stores = λ k s e l t v. ⊎_elim (λ f. h.stores k s f l t v) (λ f. let at = (next.own s f).1 in let below = h.own.before in absurd (omega (arith, at, l, below))) (at_more ops m.operation k s e);
}

reserves_new : (model : MemoryModel) (items : List Item) (hart p : ℕ) (m : Item) (n : Node) (ops : List Operation) → Before model items hart p m n ops
    → (a : Operation) → m.operation ≡ Some a → is_lr a.kind ≡ true
    → Reserving items hart (ops ++ a ∷ []) (p + 1) (record { address = a.address; lr = only (length n.window); own = those (λ (w : Waiting). writes w.kind && overlaps a.address a.size w) n.window })
reserves_new model items hart p m n ops b a f e = record {
  lr = a;
  own = own_new model items hart p m a b.next f;
  is = e;
  address_is = refl;
  alone = ap (λ q. list_any (λ (i : Item). is_lr_or_sc i.instr) (stretch items a.place (q + 1))) (sym at) ∙ ap (list_any (λ (i : Item). is_lr_or_sc i.instr)) (stretch_none items a.place);
  only = only_one (λ (c : Operation). c ≡ a) (ops ++ a ∷ []) (length n.window) a (ap (slice_get (ops ++ a ∷ [])) as_many ∙ at_end ops a) refl;
  waits = λ k h.
      at_longer (λ (c : Operation). c ≡ a → only (length n.window) k ≡ true) ops a k a h
      (λ g same. let l = (b.kept.own k a g).before in absurd (omega (arith, l, at)))
      (λ g same. eq-eqb k (length n.window) (g ∙ sym as_many))
      refl;
  stores = λ k s h l t v.
      at_longer (λ (c : Operation). c.place < a.place → writes c.kind ≡ true → overlap c a ≡ true → those test n.window k ≡ true) ops a k s h
      (λ g l t v.
      let w = pairs_right (Stands model items ops) n.window ops k s b.kept.window g in
      those_at test n.window k w.other w.stands
      (and_from (writes w.other.kind) (overlaps a.address a.size w.other) (ap writes w.belongs.shows.kind_is ∙ t) (overlaps_is model w.other s a w.belongs.shows ∙ v)))
      (λ g l t v. absurd (omega (arith, l)))
      l t v;
}
  where
    at : a.place ≡ p
    at = (b.next.own a f).1

    as_many : length n.window ≡ length ops
    as_many = pairs_length (Stands model items ops) n.window ops b.kept.window

    test : Waiting → Bool
    test w = writes w.kind && overlaps a.address a.size w

reserved_kept : (model : MemoryModel) (items : List Item) (hart p : ℕ) (m : Item) (n : Node) (ops : List Operation) → Before model items hart p m n ops
    → IsReserving items hart (ops ++ option_to_list m.operation) (p + 1) (reservation_behind n m.instr (option_map unplaced m.operation))
reserved_kept model items hart p m n ops b = go (is_lr_or_sc m.instr) refl
  where
    made : (o : Option Operation) → m.operation ≡ o → IsReserving items hart (ops ++ option_to_list o) (p + 1) (reserves n.window (option_map unplaced o))
    made None f = tt
    made (Some a) f = first (is_lr a.kind) refl
      where
        first : (c : Bool) → is_lr a.kind ≡ c → IsReserving items hart (ops ++ a ∷ []) (p + 1) (cond c (Some (record { address = a.address; lr = only (length n.window); own = those (λ (w : Waiting). writes w.kind && overlaps a.address a.size w) n.window })) None)
        first true e = reserves_new model items hart p m n ops b a f e
        first false e = tt

    go : (c : Bool) → is_lr_or_sc m.instr ≡ c → IsReserving items hart (ops ++ option_to_list m.operation) (p + 1) (cond c (reserves n.window (option_map unplaced m.operation)) n.reserved)
    go true e = made m.operation refl
    go false e = reservation_stays model items hart p m ops b.next e n.reserved b.kept.reserved

-- ---- what waits: an operation a of the instruction m at place p

address_dependency : (items : List Item) (a c : Operation) (p q : ℕ) (m : Item) → a.place ≡ p → slice_get items p ≡ Some m → c.hart ≡ a.hart → c.place < p → list_any (nat_eq q) (uses_in m.instr).address ≡ true → Fills items p q c → has_address_dependency items c a ≡ true
address_dependency items a c p q m at e same l read h =
    (dependency_forms_agree items c a).address.1 (
      precedes_by c a same (omega (arith, at, l)),
      record {
        register = q;
        read = subst (λ (u : Uses). Contains u.address q) (sym (uses_there items a p m at e)) (contains_any q (uses_in m.instr).address read);
        reaches = subst (λ r. Reaches (uses_at items c) (stretch items c.place r) q) (sym at) h;
      },
    )

data_dependency : (items : List Item) (a c : Operation) (p q : ℕ) (m : Item) → a.place ≡ p → slice_get items p ≡ Some m → c.hart ≡ a.hart → c.place < p → list_any (nat_eq q) (uses_in m.instr).stored ≡ true → Fills items p q c → has_data_dependency items c a ≡ true
data_dependency items a c p q m at e same l read h =
    (dependency_forms_agree items c a).data_stored.1 (
      precedes_by c a same (omega (arith, at, l)),
      record {
        register = q;
        read = subst (λ (u : Uses). Contains u.stored q) (sym (uses_there items a p m at e)) (contains_any q (uses_in m.instr).stored read);
        reaches = subst (λ r. Reaches (uses_at items c) (stretch items c.place r) q) (sym at) h;
      },
    )

-- the LR of a reservation
record Pairing (items : List Item) (hart p : ℕ) (ops : List Operation) (a : Operation) (r : Option Reserved) : Type 0 where
  lr : Operation
  own : IsOwn items hart p lr
  is : is_lr lr.kind ≡ true
  alone : list_any (λ (i : Item). is_lr_or_sc i.instr) (stretch items lr.place p) ≡ false
  address_is : lr.address ≡ a.address
  waits : (k : ℕ) → slice_get ops k ≡ Some lr → lr_of r k ≡ true
  stores : (k : ℕ) (s : Operation) → slice_get ops k ≡ Some s → s.place < lr.place → writes s.kind ≡ true → overlap s lr ≡ true → own_of r k ≡ true

pairing : (items : List Item) (hart p : ℕ) (ops : List Operation) (a : Operation) (r : Option Reserved) → IsReserving items hart ops p r → is_reserved (address_of r) a.address ≡ true → Pairing items hart p ops a r
pairing items hart p ops a None h e = absurd (false≢true e)
pairing items hart p ops a (Some r) h e = record {
  lr = h.lr;
  own = h.own;
  is = h.is;
  alone = h.alone;
  address_is = sym h.address_is ∙ eqb-true r.address a.address e;
  waits = h.waits;
  stores = h.stores;
}

paired_by : (items : List Item) (hart p : ℕ) (lr a : Operation) → IsOwn items hart p lr → is_lr lr.kind ≡ true → list_any (λ (i : Item). is_lr_or_sc i.instr) (stretch items lr.place p) ≡ false → a.hart ≡ hart → a.place ≡ p → is_sc a.kind ≡ true → paired items lr a ≡ true
paired_by items hart p lr a own e alone of_hart at t =
    let l = own.before in
    and_from (precedes lr a && is_lr lr.kind && is_sc a.kind) (not (list_any (λ (i : Item). is_lr_or_sc i.instr) (between items lr a)))
    (and_from (precedes lr a && is_lr lr.kind) (is_sc a.kind) (and_from (precedes lr a) (is_lr lr.kind) (precedes_by lr a (own.hart_is ∙ sym of_hart) (omega (arith, l, at))) e) t)
    (ap (λ q. not (list_any (λ (i : Item). is_lr_or_sc i.instr) (stretch items lr.place q))) at ∙ ap (λ b. not b) alone)

precede : (model : MemoryModel) (items : List Item) (hart p : ℕ) (m : Item) (n : Node) (ops : List Operation) → Before model items hart p m n ops → (a : Operation) → m.operation ≡ Some a
    → Only (Precedes model items a) ops (needs_of model n (uses_in m.instr) (unplaced a))
precede model items hart p m n ops b a f =
    only_union P ops (those (must_precede model (unplaced a)) n.window) _ musts
    (only_union P ops (when (is_sc a.kind) (lr_of n.reserved)) _ (only_when P ops (is_sc a.kind) (lr_of n.reserved) (λ e. lr_precedes e n.reserved b.kept.reserved))
    (only_union P ops (of_registers n.registers u.address) _ (only_registers P ops n.registers u.address addressed)
    (only_union P ops (of_registers n.registers u.stored) _ (only_registers P ops n.registers u.stored stored)
    (only_union P ops (when (reads a.kind) n.loads) (when (writes a.kind) n.stores)
    (only_when P ops (reads a.kind) n.loads (λ e. only_weaker (Leads model items reads p) P ops n.loads (λ k c s h. (earlier k c s, h a (of_one k c s) (omega (arith, at)) e)) b.kept.loads))
    (only_when P ops (writes a.kind) n.stores (λ e. only_weaker (Leads model items writes p) P ops n.stores (λ k c s h. (earlier k c s, h a (of_one k c s) (omega (arith, at)) e)) b.kept.stores))))))
  where
    P : Operation → Type 0
    P = Precedes model items a

    u : Uses
    u = uses_in m.instr

    of_hart : a.hart ≡ hart
    of_hart = (b.next.own a f).0

    at : a.place ≡ p
    at = (b.next.own a f).1

    earlier : (k : ℕ) (c : Operation) → slice_get ops k ≡ Some c → c.place < a.place
    earlier k c s = let l = (b.kept.own k c s).before in omega (arith, l, at)

    of_one : (k : ℕ) (c : Operation) → slice_get ops k ≡ Some c → c.hart ≡ a.hart
    of_one k c s = (b.kept.own k c s).hart_is ∙ sym of_hart

    musts : Only P ops (those (must_precede model (unplaced a)) n.window)
    musts k e =
        let t = those_are (must_precede model (unplaced a)) n.window k e in
        let w = waiter model items hart p n ops k t.element b.kept t.stands in
        record {
          element = w.operation;
          stands = w.stands;
          is = (
            earlier k w.operation w.stands,
            either (Asks model items w.operation a) (writes a.kind && overlaps a.address a.size t.element) (has_release model (unplaced a) || (t.element.rcsc && has_rcsc model (unplaced a))) t.passes
                (λ h. let s = and_parts (writes a.kind) (overlaps a.address a.size t.element) h in by_1 model items w.operation a (and_from (writes a.kind) (overlap w.operation a) s.0 (sym (overlaps_is model t.element w.operation a w.shows) ∙ s.1)))
                (λ h. either (Asks model items w.operation a) (has_release model (unplaced a)) (t.element.rcsc && has_rcsc model (unplaced a)) h
                (λ g. by_6 model items w.operation a (sym (has_release-unplaced model a) ∙ g))
                (λ g. let s = and_parts t.element.rcsc (has_rcsc model (unplaced a)) g in by_7 model items w.operation a (and_from (has_rcsc model w.operation) (has_rcsc model a) (sym w.shows.rcsc_is ∙ s.0) (sym (has_rcsc-unplaced model a) ∙ s.1)))),
          );
        }

    lr_precedes : is_sc a.kind ≡ true → (r : Option Reserved) → IsReserving items hart ops p r → Only P ops (lr_of r)
    lr_precedes e None h = only_none P ops
    lr_precedes e (Some r) h =
        only_weaker (λ (c : Operation). c ≡ h.lr) P ops r.lr
        (λ k c s same. (earlier k c s, subst (λ (d : Operation). Asks model items d a) (sym same) (by_8 model items h.lr a (paired_by items hart p h.lr a h.own h.is h.alone of_hart at e))))
        h.only

    addressed : (q k : ℕ) → list_any (nat_eq q) u.address ≡ true → n.registers q k ≡ true → At P ops k
    addressed q k read e =
        let h = b.kept.registers q k e in
        let own = b.kept.own k h.element h.stands in
        record { element = h.element; stands = h.stands; is = (earlier k h.element h.stands, by_9 model items h.element a (address_dependency items a h.element p q m at b.next.stands (of_one k h.element h.stands) own.before read h.is)) }

    stored : (q k : ℕ) → list_any (nat_eq q) u.stored ≡ true → n.registers q k ≡ true → At P ops k
    stored q k read e =
        let h = b.kept.registers q k e in
        let own = b.kept.own k h.element h.stands in
        record { element = h.element; stands = h.stands; is = (earlier k h.element h.stands, by_10 model items h.element a (data_dependency items a h.element p q m at b.next.stands (of_one k h.element h.stands) own.before read h.is)) }

feeding : (model : MemoryModel) (items : List Item) (hart p : ℕ) (m : Item) (n : Node) (ops : List Operation) → Before model items hart p m n ops → (a : Operation) → m.operation ≡ Some a
    → Only (Feeds items a) ops (of_registers n.registers (uses_in m.instr).address ∪ of_registers n.registers (uses_in m.instr).stored)
feeding model items hart p m n ops b a f =
    only_union (Feeds items a) ops (of_registers n.registers (uses_in m.instr).address) (of_registers n.registers (uses_in m.instr).stored)
    (only_registers (Feeds items a) ops n.registers (uses_in m.instr).address (λ q k read e.
    let h = b.kept.registers q k e in
    let own = b.kept.own k h.element h.stands in
    record { element = h.element; stands = h.stands; is = or_left (has_address_dependency items h.element a) (has_data_dependency items h.element a) (address_dependency items a h.element p q m (b.next.own a f).1 b.next.stands (own.hart_is ∙ sym (b.next.own a f).0) own.before read h.is) }))
    (only_registers (Feeds items a) ops n.registers (uses_in m.instr).stored (λ q k read e.
    let h = b.kept.registers q k e in
    let own = b.kept.own k h.element h.stands in
    record { element = h.element; stands = h.stands; is = or_right (has_address_dependency items h.element a) (has_data_dependency items h.element a) (data_dependency items a h.element p q m (b.next.own a f).1 b.next.stands (own.hart_is ∙ sym (b.next.own a f).0) own.before read h.is) }))

-- a successful SC has found its word reserved
found_reserved : (r : Option ℕ) (a : Operation) → may_do r (Some (unplaced a)) ≡ true → is_sc a.kind ≡ true → is_reserved r a.address ≡ true
found_reserved r a e t = go (is_sc a.kind) t e
  where
    go : (c : Bool) → c ≡ true → (not c || is_reserved r a.address) ≡ true → is_reserved r a.address ≡ true
    go true t h = h
    go false t h = absurd (false≢true t)

pushed : (model : MemoryModel) (items : List Item) (hart p : ℕ) (m : Item) (n : Node) (ops : List Operation) → Before model items hart p m n ops → (a : Operation) → m.operation ≡ Some a
    → may_do (address_of n.reserved) (Some (unplaced a)) ≡ true → Stands model items (ops ++ a ∷ []) (waiting_with model n (uses_in m.instr) (unplaced a)) a
pushed model items hart p m n ops b a f e = record {
  shows = record { kind_is = refl; address_is = refl; size_is = refl; read_is = refl; written_is = refl; rcsc_is = has_rcsc-unplaced model a };
  needs = only_longer (Precedes model items a) ops (a ∷ []) (needs_of model n (uses_in m.instr) (unplaced a)) (precede model items hart p m n ops b a f);
  source = only_longer (Feeds items a) ops (a ∷ []) (when (is_store a.kind) fed) (only_when (Feeds items a) ops (is_store a.kind) fed (λ t. feeding model items hart p m n ops b a f));
  pair = λ t.
      let h = pairing items hart p ops a n.reserved b.kept.reserved (found_reserved (address_of n.reserved) a e t) in
      let l = h.own.before in
      record {
        lr = h.lr;
        own = subst (λ q. IsOwn items a.hart q h.lr) (sym at) (subst (λ o. IsOwn items o p h.lr) (sym (b.next.own a f).0) h.own);
        pairs = paired_by items hart p h.lr a h.own h.is h.alone (b.next.own a f).0 at t;
        address_is = h.address_is;
        size_is = h.own.is.word (or_left (is_lr h.lr.kind) (is_sc h.lr.kind) h.is) ∙ sym ((b.next.own a f).2.word (or_right (is_lr a.kind) (is_sc a.kind) t));
        waits = λ k s.
            at_longer (λ (c : Operation). c ≡ h.lr → (is_sc a.kind && lr_of n.reserved k) ≡ true) ops a k h.lr s
            (λ g same. and_from (is_sc a.kind) (lr_of n.reserved k) t (h.waits k g))
            (λ g same. let q = ap (λ (c : Operation). c.place) same in absurd (omega (arith, q, l, at)))
            refl;
        stores = λ k s g below w v.
            at_longer (λ (c : Operation). c.place < h.lr.place → writes c.kind ≡ true → overlap c h.lr ≡ true → (is_sc a.kind && own_of n.reserved k) ≡ true) ops a k s g
            (λ j below w v. and_from (is_sc a.kind) (own_of n.reserved k) t (h.stores k s j below w v))
            (λ j below w v. absurd (omega (arith, below, l, at)))
            below w v;
      };
}
  where
    at : a.place ≡ p
    at = (b.next.own a f).1

    fed : Waits
    fed = of_registers n.registers (uses_in m.instr).address ∪ of_registers n.registers (uses_in m.instr).stored

stands_on : (model : MemoryModel) (items : List Item) (hart p : ℕ) (m : Item) (ops : List Operation) → Next model items hart p m → (w : Waiting) (c : Operation) → IsOwn items hart p c → Stands model items ops w c → Stands model items (ops ++ option_to_list m.operation) w c
stands_on model items hart p m ops next w c own s = record {
  shows = s.shows;
  needs = only_longer (Precedes model items c) ops more w.needs s.needs;
  source = only_longer (Feeds items c) ops more w.source s.source;
  pair = λ t.
      let h = s.pair t in
      let l = h.own.before in
      let below = own.before in
      record {
        lr = h.lr;
        own = h.own;
        pairs = h.pairs;
        address_is = h.address_is;
        size_is = h.size_is;
        waits = λ k e. ⊎_elim (λ f. h.waits k f) (λ f. let at = (next.own h.lr f).1 in absurd (omega (arith, at, l, below))) (at_more ops m.operation k h.lr e);
        stores = λ k d e before x v. ⊎_elim (λ f. h.stores k d f before x v) (λ f. let at = (next.own d f).1 in absurd (omega (arith, at, l, below, before))) (at_more ops m.operation k d e);
      };
}
  where
    more : List Operation
    more = option_to_list m.operation

window_kept : (model : MemoryModel) (items : List Item) (hart p : ℕ) (m : Item) (n : Node) (ops : List Operation) → Before model items hart p m n ops → may_do (address_of n.reserved) (option_map unplaced m.operation) ≡ true
    → Pairs (Stands model items (ops ++ option_to_list m.operation)) (window_behind model n m.instr (option_map unplaced m.operation)) (ops ++ option_to_list m.operation)
window_kept model items hart p m n ops b e =
    pairs_append (Stands model items (ops ++ option_to_list m.operation)) n.window ops (option_to_list (option_map (waiting_with model n (uses_in m.instr)) (option_map unplaced m.operation))) (option_to_list m.operation)
    (pairs_weaker (Stands model items ops) (Stands model items (ops ++ option_to_list m.operation)) n.window ops (λ k w c s h. stands_on model items hart p m ops b.next w c (b.kept.own k c s) h) b.kept.window)
    (go m.operation refl e)
  where
    go : (o : Option Operation) → m.operation ≡ o → may_do (address_of n.reserved) (option_map unplaced o) ≡ true → Pairs (Stands model items (ops ++ option_to_list o)) (option_to_list (option_map (waiting_with model n (uses_in m.instr)) (option_map unplaced o))) (option_to_list o)
    go None f g = tt
    go (Some a) f g = (pushed model items hart p m n ops b a f g, tt)

-- nothing is pinned, as nothing was placed
unpinned_kept : (model : MemoryModel) (n : Node) (i : Option Instr) (o : Option Operation) → ((k : ℕ) (w : Waiting) (x : ℕ) → slice_get n.window k ≡ Some w → w.pinned x ≡ false) → (k : ℕ) (w : Waiting) (x : ℕ) → slice_get (window_behind model n i o) k ≡ Some w → w.pinned x ≡ false
unpinned_kept model n i None h k w x e = h k w x (sym (ap (λ ws. slice_get ws k) (append-nil n.window)) ∙ e)
unpinned_kept model n i (Some b) h k w x e = at_longer (λ (v : Waiting). v.pinned x ≡ false) n.window (waiting_with model n (uses_in i) b) k w e (h k w x) (λ f. refl)

-- ---- the node behind the instruction m at place p

pub fetched_kept : (model : MemoryModel) (items : List Item) (hart p : ℕ) (m : Item) (n : Node) (ops : List Operation) (entry : Retired) → Next model items hart p m → Kept model items hart p n ops → may_do (address_of n.reserved) (option_map unplaced m.operation) ≡ true
    → Kept model items hart (p + 1) (fetched_as model n entry m.instr (option_map unplaced m.operation)) (ops ++ option_to_list m.operation)
fetched_kept model items hart p m n ops entry next kept e = record {
  own = own_kept model items hart p m n ops both;
  window = window_kept model items hart p m n ops both e;
  registers = registers_kept model items hart p m n ops both;
  loads = loads_kept model items hart p m n ops both;
  stores = stores_kept model items hart p m n ops both;
  reserved = reserved_kept model items hart p m n ops both;
  unpinned = unpinned_kept model n m.instr (option_map unplaced m.operation) kept.unpinned;
}
  where
    both : Before model items hart p m n ops
    both = record { next = next; kept = kept }
