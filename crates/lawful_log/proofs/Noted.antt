-- The maps say of a log what the rules ask for, and go on to when it grows by an entry.
use Rattle.std.proofs.Common.{ℕ, Bool, true, false, List, [], ◌∷◌, ◌++◌, ◌≡◌, Option, Some, None, refl, ap, sym, ◌∙◌, subst, arith}
use Rattle.std.specs.Prelude.{if◌then◌else◌, slice_get}
use Rattle.machine_model.specs.LawfulLog.{concerns, is_of_line}
use Rattle.lawful_log.proofs.Asked.{asked_more, asks_next}
use Rattle.lawful_log.proofs.Counted.{lost_more, tallies_more}
use Rattle.lawful_log.proofs.Waiting.{waiting_more}
use Rattle.lawful_log.specs.Facts.{FindsBreach, FindsBroken, GoesBy, Known, MayComeBy, counted, known_of}
use Rattle.lawful_log.specs.Followed.{Follows, HartKnown, all_in, hart_known_of, known_from, known_in, noted, waiting_after, waiting_on, waits_first}
use Rattle.lawful_log.specs.declared.followed.Followed.{Followed}
use Rattle.lawful_log.specs.declared.profile.Profile.{Profile}
use Rattle.lawful_log.specs.declared.rule.LogRule.{LogRule}
use Rattle.lawful_log.specs.declared.rule.LogRule.TheVariants.{InOrder, Question, Permission, Data, AcquireOnce, ProbeOnce, GrantAlone, ReleaseAlone}
use Rattle.lawful_log.specs.declared.tallies.Tallies.{Tallies}
use Rattle.tl_types.specs.Message.{channel_of}
use Rattle.tl_types.specs.declared.message.Channel.{Channel}
use Rattle.tl_types.specs.declared.message.Msg.{Msg}
use Rattle.trace_recorder.specs.declared.logged.Direction.{Direction}
use Rattle.trace_recorder.specs.declared.logged.Direction.TheVariants.{Sent, Taken}
use Rattle.trace_recorder.specs.declared.logged.Logged.{Logged}

-- what the next message is judged by
pub judged_by : (f : Followed) (log : List Logged) (h line : ℕ) → Follows f log → known_from (known_in f.lines h line) (all_in f.lines line) ≡ known_of h line log
judged_by f log h line follows = (λ k. known_from (follows.harts h line k) (follows.lines line k)) ∙ asks_next h line log

pub in_front : (f : Followed) (log : List Logged) (h : ℕ) (m : Msg) → Follows f log → slice_get (waiting_on f.queues (channel_of m) h) 0 ≡ waits_first h m log
in_front f log h m follows = ap (λ (q : List Msg). slice_get q 0) (follows.queues (channel_of m) h)

-- what stands against a message that is sent stands against the entry
pub breaks_sent : (profile : Profile) (f : Followed) (log : List Logged) (e : Logged) (o : Option LogRule) → Follows f log → e.direction ≡ Sent → FindsBroken profile (known_from (known_in f.lines e.hart e.message.line) (all_in f.lines e.message.line)) e.message.body o
    → FindsBreach profile (waits_first e.hart e.message log) (known_of e.hart e.message.line log) e o
breaks_sent profile f log e o follows sent found = go o (subst (λ (k : Known). FindsBroken profile k e.message.body o) (judged_by f log e.hart e.message.line follows) found)
  where
    known : Known
    known = known_of e.hart e.message.line log

    front : Option Msg
    front = waits_first e.hart e.message log

    go : (o : Option LogRule) → FindsBroken profile known e.message.body o → FindsBreach profile front known e o
    go None all = λ r. subst (λ (d : Direction). GoesBy profile d r e.message front known) (sym sent) (all r)
    go (Some rule) first = (
      λ kept. (let yes = subst (λ (d : Direction). GoesBy profile d rule e.message front known) sent kept in let no = first.0 in cc (yes, no)),
      λ r below. subst (λ (d : Direction). GoesBy profile d r e.message front known) (sym sent) (first.1 r below),
    )

-- one that is taken as its queue's front keeps each rule, and any other breaks the first
pub keeps_front : (profile : Profile) (f : Followed) (log : List Logged) (e : Logged) → Follows f log → e.direction ≡ Taken → slice_get (waiting_on f.queues (channel_of e.message) e.hart) 0 ≡ Some e.message
    → FindsBreach profile (waits_first e.hart e.message log) (known_of e.hart e.message.line log) e None
keeps_front profile f log e follows taken first = λ r. subst (λ (d : Direction). GoesBy profile d r e.message front known) (sym taken) (go r)
  where
    known : Known
    known = known_of e.hart e.message.line log

    front : Option Msg
    front = waits_first e.hart e.message log

    go : (r : LogRule) → MayComeBy r e.message front
    go InOrder = sym (in_front f log e.hart e.message follows) ∙ first
    go Question = refl
    go Permission = refl
    go Data = refl
    go AcquireOnce = refl
    go ProbeOnce = refl
    go GrantAlone = refl
    go ReleaseAlone = refl

pub breaks_order : (profile : Profile) (f : Followed) (log : List Logged) (e : Logged) → Follows f log → e.direction ≡ Taken → (slice_get (waiting_on f.queues (channel_of e.message) e.hart) 0 ≡ Some e.message → ⊥)
    → FindsBreach profile (waits_first e.hart e.message log) (known_of e.hart e.message.line log) e (Some InOrder)
breaks_order profile f log e follows taken other = (
  λ kept. other (in_front f log e.hart e.message follows ∙ subst (λ (d : Direction). GoesBy profile d InOrder e.message (waits_first e.hart e.message log) (known_of e.hart e.message.line log)) taken kept),
  λ r below. absurd (omega arith),
)

-- what is known of a line and a hart behind one more entry
pub hart_more : (h line : ℕ) (log : List Logged) (e : Logged) → hart_known_of h line (log ++ e ∷ []) ≡ (if concerns h line e then noted e (hart_known_of h line log) else hart_known_of h line log)
hart_more h line log e = (λ k. record {
  tallies = tallies_more (concerns h line) log e k;
  asked = asked_more h line log e k;
  lost = lost_more h line false log e k;
}) ∙ go (concerns h line e)
  where
    before : HartKnown
    before = hart_known_of h line log

    go : (b : Bool) → record {
      tallies = (if b then counted e before.tallies else before.tallies);
      asked = (if b then (noted e before).asked else before.asked);
      lost = (if b then (noted e before).lost else before.lost);
    } ≡ (if b then noted e before else before)
    go true = refl
    go false = refl

-- the maps and the queues behind an entry
pub record IsNoted (f g : Followed) (e : Logged) : Type 0 where
  pub harts : (h line : ℕ) → known_in g.lines h line ≡ (if concerns h line e then noted e (known_in f.lines h line) else known_in f.lines h line)
  pub lines : (line : ℕ) → all_in g.lines line ≡ (if is_of_line line e then counted e (all_in f.lines line) else all_in f.lines line)
  pub queues : (c : Channel) (h : ℕ) → waiting_on g.queues c h ≡ waiting_after c h e (waiting_on f.queues c h)

pub noted_follows : (f g : Followed) (log : List Logged) (e : Logged) → Follows f log → IsNoted f g e → Follows g (log ++ e ∷ [])
noted_follows f g log e old now = record {
  harts = λ h line. now.harts h line ∙ (ap (λ (k : HartKnown). if concerns h line e then noted e k else k) (old.harts h line) ∙ sym (hart_more h line log e));
  lines = λ line. now.lines line ∙ (ap (λ (t : Tallies). if is_of_line line e then counted e t else t) (old.lines line) ∙ sym (tallies_more (is_of_line line) log e));
  queues = λ c h. now.queues c h ∙ (ap (waiting_after c h e) (old.queues c h) ∙ sym (waiting_more c h [] log e));
}
