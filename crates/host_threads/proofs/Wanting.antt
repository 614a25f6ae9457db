-- Only a full set is remembered, with the line that was wanted.
use Rattle.std.proofs.Common.{◌≡◌, ◌≢◌, ℕ, Option, None, Some, refl, ap, subst, sym}
use Rattle.std.specs.Option.{option_or}
use Rattle.hart.specs.declared.state.Hart.{Hart}
use Rattle.host_threads.specs.Asked.{full_after, wanted_by_event}
use Rattle.host_threads.specs.Route.{Route}
use Rattle.machine_types.specs.declared.outcome.Outcome.{Outcome}
use Rattle.machine_types.specs.declared.outcome.Outcome.TheVariants as outcome

pub is_full : (r : Route) (hart : Hart) (last : Option Outcome) (wanted : Option ℕ) → last ≡ Some outcome.SetFull → wanted ≡ wanted_by_event r.image hart r.picked → option_or wanted r.full ≡ full_after r hart last
is_full r hart last wanted is same = subst (λ (l : Option Outcome). option_or wanted r.full ≡ full_after r hart l) (sym is) (ap (λ (w : Option ℕ). option_or w r.full) same)

pub not_full : (r : Route) (hart : Hart) (last : Option Outcome) → last ≢ Some outcome.SetFull → full_after r hart last ≡ r.full
not_full r hart None not = refl
not_full r hart (Some outcome.SetFull) not = absurd (not refl)
not_full r hart (Some outcome.Retired) not = refl
not_full r hart (Some (outcome.Stopped code)) not = refl
not_full r hart (Some (outcome.Exited code)) not = refl
not_full r hart (Some outcome.Drained) not = refl
not_full r hart (Some outcome.Delivered) not = refl
not_full r hart (Some outcome.Evicted) not = refl
not_full r hart (Some (outcome.Missed line)) not = refl
not_full r hart (Some outcome.Halted) not = refl
not_full r hart (Some outcome.WaitRelease) not = refl
not_full r hart (Some outcome.WaitGrant) not = refl
not_full r hart (Some outcome.NoTracker) not = refl
not_full r hart (Some outcome.BufferFull) not = refl
not_full r hart (Some outcome.MustDrain) not = refl
not_full r hart (Some outcome.NoEntry) not = refl
not_full r hart (Some outcome.NotOldest) not = refl
not_full r hart (Some outcome.Empty) not = refl
not_full r hart (Some outcome.Busy) not = refl
not_full r hart (Some outcome.Releasing) not = refl
not_full r hart (Some outcome.AckFull) not = refl
not_full r hart (Some outcome.NotHeld) not = refl
not_full r hart (Some outcome.AcquirePending) not = refl
not_full r hart (Some outcome.ReleaseFull) not = refl
not_full r hart (Some outcome.NotLocal) not = refl
