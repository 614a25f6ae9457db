-- What a turn that is taken under one lock does to the fabric, and to a worker's seat and share.
use Rattle.std.specs.Prelude.{◌≡◌, ◌+◌, ◌⊎◌, ◌^◌, ◌<◌, ◌≤◌, ℕ, Bool, true, false, [], ◌∷◌, ◌++◌, length, Option, Some, None}
use Rattle.std.specs.List.{All}
use Rattle.machine_types.specs.declared.event.Event.{Event}
use Rattle.machine_model.specs.Views.{State}
use Rattle.progress_board.specs.declared.view.View.{View}
use Rattle.locked_fabric.specs.declared.taken.Taken.{Taken}
use Rattle.locked_fabric.specs.declared.taken.Taken.TheVariants.{Nothing, Over, HeldBack, Tried}
use Rattle.locked_fabric.specs.FabricState.{Answered, FabricState}

-- the seat's view, once it drew this number
abbrev pub with_number : View → ℕ → View
with_number v number = record v { drawn = v.drawn ++ number ∷ [] }

-- the seat drew this number, which is below the limit and above all that it drew before
pub record DrewNumber (limit number : ℕ) (old new : View) : Type 0 where
  pub low : number < limit
  pub rising : All (λ earlier. earlier < number) old.drawn
  pub drawn : new ≡ with_number old number

-- the seat drew a number that isn't below the limit, or it draws no more
abbrev pub DrewInVain : ℕ → View → View → Type 0
DrewInVain limit old new = ((number : ℕ) × (limit ≤ number) × (new ≡ with_number old number)) ⊎ ((length old.drawn ≡ 2 ^ 32) × (new ≡ old))

-- on this machine it was picked
abbrev pub IsPick : (State → Option Event → Type 0) → Taken → State → Type 0
IsPick Picks Nothing found = Picks found None
IsPick Picks Over found = (event : Event) × Picks found (Some event)
IsPick Picks (HeldBack number event) found = Picks found (Some event)
IsPick Picks (Tried number event came) found = Picks found (Some event)

-- it is held back exactly where the turn's answer is that it is
abbrev pub IsHeldAsAnswered : (Answers : Bool → Type 0) → Taken → Type 0
IsHeldAsAnswered Answers (HeldBack number event) = Answers true
IsHeldAsAnswered Answers (Tried number event came) = Answers false
IsHeldAsAnswered Answers _ = Unit {0}

-- an event that is tried is applied, and nothing else is
abbrev pub Leaves : Taken → (old new : FabricState) → Type 0
Leaves (Tried number event came) old new = Answered old event came new
Leaves _ old new = new ≡ old

-- a number below the limit is drawn for an event, held back or tried
abbrev pub Draws : ℕ → Taken → (old new : View) → Type 0
Draws limit Nothing old new = new ≡ old
Draws limit Over old new = DrewInVain limit old new
Draws limit (HeldBack number event) old new = DrewNumber limit number old new
Draws limit (Tried number event came) old new = DrewNumber limit number old new

-- a turn came to this: it found a fabric and left one, drew from a seat, and a share that counted so many events counts so many
pub record Takes (Picks : State → Option Event → Type 0) (Answers : Bool → Type 0) (limit : ℕ) (taken : Taken) (old new : FabricState) (before after : View) (count counted : ℕ) : Type 0 where
  pub pick : IsPick Picks taken old.machine
  pub held : IsHeldAsAnswered Answers taken
  pub leaves : Leaves taken old new
  pub draws : Draws limit taken before after
  pub counts : counted + old.book ≡ count + new.book
