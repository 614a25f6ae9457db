-- What a log says last, one entry further, of any functions that say what stands before it.
use Rattle.std.proofs.Common.{ℕ, Bool, true, false, List, [], ◌∷◌, ◌++◌, ◌≡◌, Option, Some, None, refl, ap, sym, ◌∙◌, subst, length}
use Rattle.std.specs.Prelude.{if◌then◌else◌}
use Rattle.std.specs.Option.{option_or}
use Rattle.coherent_log.proofs.Latest.{latest_next}
use Rattle.coherent_log.specs.Rules.{IsOfImage, MayGoBy, perm_in}
use Rattle.coherent_log.specs.Told.{at_client, at_manager, brought, brought_at, brought_of, client_of, concerns, held_since, is_of_line, tells_bytes, tells_held}
use Rattle.coherent_log.specs.declared.clients.Held.{Held}
use Rattle.coherent_log.specs.declared.lines.Brought.{Brought}
use Rattle.coherent_log.specs.declared.rule.CoherenceRule.{CoherenceRule}
use Rattle.elf_loader.specs.Image.{Initial}
use Rattle.machine_model.proofs.log.Counts.{EachSent, one_sent, one_taken}
use Rattle.machine_model.proofs.log.Lists.{comes_out, goes_in}
use Rattle.tl_types.specs.Line.{bytes_of}
use Rattle.tl_types.specs.Permission.{left_by}
use Rattle.tl_types.specs.declared.line.LineData.{LineData}
use Rattle.tl_types.specs.declared.message.Body.{Body}
use Rattle.tl_types.specs.declared.message.Body.TheVariants.{Release, ReleaseData}
use Rattle.tl_types.specs.declared.message.Msg.{Msg}
use Rattle.tl_types.specs.declared.permission.Perm.{Perm}
use Rattle.tl_types.specs.declared.permission.Perm.TheVariants.{Nothing}
use Rattle.trace_recorder.specs.declared.logged.Logged.{Logged}

-- what stands then, where a message may tell something new
abbrev pub after : {T : Type 0} → Option T → (here : Bool) → (old : T) → T
after None here old = old
after (Some new) here old = if here then new else old

perm_after : (o : Option Perm) (here : Bool) (i : ℕ) (x : Option Held) → perm_in (option_or (if here then held_since i o else None) x) ≡ after o here (perm_in x)
perm_after None true i x = refl
perm_after None false i x = refl
perm_after (Some p) true i x = refl
perm_after (Some p) false i x = refl

-- the line's bytes at the manager, where the log brought some, and else the image's
abbrev pub IsHome : Initial → (line : ℕ) → Option Brought → LineData → Type 0
IsHome image line None home = IsOfImage image line (bytes_of home)
IsHome image line (Some brought) home = home ≡ brought.bytes

home_after : (image : Initial) (line : ℕ) (o : Option LineData) (here : Bool) (i : ℕ) (x : Option Brought) (home : LineData) → IsHome image line x home → IsHome image line (option_or (if here then brought_at i o else None) x) (after o here home)
home_after image line None true i x home is = is
home_after image line None false i x home is = is
home_after image line (Some bytes) true i x home is = refl
home_after image line (Some bytes) false i x home is = is

-- a Release leaves nothing
abbrev pub LeavesNothing : Body → Type 0
LeavesNothing (Release change) = left_by change ≡ Nothing
LeavesNothing (ReleaseData change bytes) = left_by change ≡ Nothing
LeavesNothing _ = Unit {0}

-- a message that is sent keeps each rule
abbrev pub MayGo : Initial → ℕ → Msg → List Logged → Type 0
MayGo image h m log = ((r : CoherenceRule) → MayGoBy r (Some image) h m.line m.body (λ k. client_of k m.line log) (brought_of m.line log)) × LeavesNothing m.body

-- the log tells these permissions of clients, and of lines that are there what the manager knows and its bytes; and each message kept the rules
pub record IsTold (image : Initial) (on : ℕ → Bool) (log : List Logged) (held noted : ℕ → ℕ → Perm) (home : ℕ → LineData) : Type 0 where
  pub clients : (k l : ℕ) → perm_in (client_of k l log).held ≡ held k l
  pub notes : (k l : ℕ) → on l ≡ true → perm_in (client_of k l log).noted ≡ noted k l
  pub bytes : (l : ℕ) → on l ≡ true → IsHome image l (brought_of l log) (home l)
  pub each : EachSent (MayGo image) log

-- the same functions in other words
pub told_as : {image : Initial} {on : ℕ → Bool} {log : List Logged} {held noted : ℕ → ℕ → Perm} {home : ℕ → LineData} (held2 noted2 : ℕ → ℕ → Perm) (home2 : ℕ → LineData) → IsTold image on log held noted home
    → ((k l : ℕ) → held2 k l ≡ held k l) → ((k l : ℕ) → on l ≡ true → noted2 k l ≡ noted k l) → ((l : ℕ) → on l ≡ true → home2 l ≡ home l) → IsTold image on log held2 noted2 home2
told_as {image} {on} {log} held2 noted2 home2 i same_held same_noted same_home = record {
  clients = λ k l. i.clients k l ∙ sym (same_held k l);
  notes = λ k l o. i.notes k l o ∙ sym (same_noted k l o);
  bytes = λ l o. subst (IsHome image l (brought_of l log)) (sym (same_home l o)) (i.bytes l o);
  each = i.each;
}

module _ {image : Initial} {on : ℕ → Bool} {log : List Logged} {held noted : ℕ → ℕ → Perm} {home : ℕ → LineData} (i : IsTold image on log held noted home) (e : Logged) (a m : Option Perm) (b : Option LineData)
    (at_a : at_client e.direction e.message.body ≡ a) (at_m : at_manager e.direction e.message.body ≡ m) (at_b : brought e.direction e.message.body ≡ b) where
  told_next : EachSent (MayGo image) (log ++ e ∷ []) → IsTold image on (log ++ e ∷ []) (λ k l. after a (concerns k l e) (held k l)) (λ k l. after m (concerns k l e) (noted k l)) (λ l. after b (is_of_line l e) (home l))
  told_next each = record {
    clients = λ k l. ap perm_in (latest_next (tells_held at_client k l) log e (length log) refl)
        ∙ ap (λ o. perm_in (option_or (if concerns k l e then held_since (length log) o else None) (client_of k l log).held)) at_a
        ∙ perm_after a (concerns k l e) (length log) (client_of k l log).held
        ∙ ap (after a (concerns k l e)) (i.clients k l);
    notes = λ k l o. ap perm_in (latest_next (tells_held at_manager k l) log e (length log) refl)
        ∙ ap (λ o. perm_in (option_or (if concerns k l e then held_since (length log) o else None) (client_of k l log).noted)) at_m
        ∙ perm_after m (concerns k l e) (length log) (client_of k l log).noted
        ∙ ap (after m (concerns k l e)) (i.notes k l o);
    bytes = λ l o. subst (λ x. IsHome image l x (after b (is_of_line l e) (home l)))
        (sym (latest_next (tells_bytes l) log e (length log) refl ∙ ap (λ o. option_or (if is_of_line l e then brought_at (length log) o else None) (brought_of l log)) at_b))
        (home_after image l b (is_of_line l e) (length log) (brought_of l log) (home l) (i.bytes l o));
    each = each;
  }

module _ {image : Initial} {on : ℕ → Bool} {log : List Logged} {held noted : ℕ → ℕ → Perm} {home : ℕ → LineData} (i : IsTold image on log held noted home) (h : ℕ) (x : Msg) (a m : Option Perm) (b : Option LineData) where
  -- a message goes out
  pub told_sent : at_client (goes_in h x).direction x.body ≡ a → at_manager (goes_in h x).direction x.body ≡ m → brought (goes_in h x).direction x.body ≡ b → MayGo image h x log
      → IsTold image on (log ++ goes_in h x ∷ []) (λ k l. after a (concerns k l (goes_in h x)) (held k l)) (λ k l. after m (concerns k l (goes_in h x)) (noted k l)) (λ l. after b (is_of_line l (goes_in h x)) (home l))
  told_sent at_a at_m at_b may = told_next i (goes_in h x) a m b at_a at_m at_b (one_sent (MayGo image) log h x i.each may)

  -- a message comes in
  pub told_taken : at_client (comes_out h x).direction x.body ≡ a → at_manager (comes_out h x).direction x.body ≡ m → brought (comes_out h x).direction x.body ≡ b
      → IsTold image on (log ++ comes_out h x ∷ []) (λ k l. after a (concerns k l (comes_out h x)) (held k l)) (λ k l. after m (concerns k l (comes_out h x)) (noted k l)) (λ l. after b (is_of_line l (comes_out h x)) (home l))
  told_taken at_a at_m at_b = told_next i (comes_out h x) a m b at_a at_m at_b (one_taken (MayGo image) log h x i.each)
