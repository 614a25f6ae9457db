-- What a log says last, behind one more entry.
use Rattle.std.proofs.Common.{ℕ, ◌+◌, Bool, true, false, List, [], ◌∷◌, ◌++◌, ◌≡◌, None, Some, refl, ap, sym, ◌∙◌, length, arith}
use Rattle.std.specs.Prelude.{Option, if◌then◌else◌}
use Rattle.std.specs.Option.{option_or}
use Rattle.coherent_log.specs.Followed.{client_noted}
use Rattle.coherent_log.specs.Told.{at_client, at_manager, brought, brought_at, brought_of, client_of, concerns, held_since, is_of_line, latest_from, probed, probed_at, tells_bytes, tells_held, tells_probe}
use Rattle.coherent_log.specs.declared.clients.ClientLog.{ClientLog}
use Rattle.coherent_log.specs.declared.lines.Brought.{Brought}
use Rattle.trace_recorder.specs.declared.logged.Logged.{Logged}

or_none : {T : Type 0} → (o : Option T) → option_or o None ≡ o
or_none None = refl
or_none (Some x) = refl

or_or : {T : Type 0} → (a b c : Option T) → option_or (option_or a b) c ≡ option_or a (option_or b c)
or_or None b c = refl
or_or (Some x) b c = refl

latest_more : {T : Type 0} → (i : ℕ) (tells : ℕ → Logged → Option T) (log : List Logged) (e : Logged) → latest_from i tells (log ++ e ∷ []) ≡ option_or (tells (i + length log) e) (latest_from i tells log)
latest_more i tells [] e =
    let here : i ≡ i + 0 = omega arith in
    ap (λ n. tells n e) here ∙ sym (or_none (tells (i + 0) e))
latest_more i tells (x ∷ log) e =
    let there : (i + 1) + length log ≡ i + length (x ∷ log) = omega arith in
    ap (λ o. option_or o (tells i x)) (latest_more (i + 1) tells log e)
    ∙ or_or (tells ((i + 1) + length log) e) (latest_from (i + 1) tells log) (tells i x)
    ∙ ap (λ n. option_or (tells n e) (option_or (latest_from (i + 1) tells log) (tells i x))) there

pub latest_next : {T : Type 0} → (tells : ℕ → Logged → Option T) (log : List Logged) (e : Logged) (i : ℕ) → i ≡ length log → latest_from 0 tells (log ++ e ∷ []) ≡ option_or (tells i e) (latest_from 0 tells log)
latest_next tells log e i is =
    let there : 0 + length log ≡ i = omega (arith, is) in
    latest_more 0 tells log e ∙ ap (λ n. option_or (tells n e) (latest_from 0 tells log)) there

pub client_more : (h line : ℕ) (log : List Logged) (e : Logged) (i : ℕ) → i ≡ length log → client_of h line (log ++ e ∷ []) ≡ (if concerns h line e then client_noted e i (client_of h line log) else client_of h line log)
client_more h line log e i is = (λ k. record {
  held = latest_next (tells_held at_client h line) log e i is k;
  noted = latest_next (tells_held at_manager h line) log e i is k;
  probe = latest_next (tells_probe h line) log e i is k;
}) ∙ go (concerns h line e)
  where
    before : ClientLog
    before = client_of h line log

    go : (b : Bool) → record {
      held = option_or (if b then held_since i (at_client e.direction e.message.body) else None) before.held;
      noted = option_or (if b then held_since i (at_manager e.direction e.message.body) else None) before.noted;
      probe = option_or (if b then probed_at i (probed e.direction e.message.body) else None) before.probe;
    } ≡ (if b then client_noted e i before else before)
    go true = refl
    go false = refl

pub bytes_more : (line : ℕ) (log : List Logged) (e : Logged) (i : ℕ) → i ≡ length log
    → brought_of line (log ++ e ∷ []) ≡ (if is_of_line line e then option_or (brought_at i (brought e.direction e.message.body)) (brought_of line log) else brought_of line log)
bytes_more line log e i is = latest_next (tells_bytes line) log e i is ∙ go (is_of_line line e)
  where
    before : Option Brought
    before = brought_of line log

    go : (b : Bool) → option_or (if b then brought_at i (brought e.direction e.message.body) else None) before ≡ (if b then option_or (brought_at i (brought e.direction e.message.body)) before else before)
    go true = refl
    go false = refl
