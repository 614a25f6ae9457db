-- What is kept of a run, as lists that grow at their ends.
use Rattle.std.specs.Prelude.{ℕ, ◌-◌, List, [], ◌∷◌, ◌++◌, slice_index, slice_index_or, slice_set, replicate}
use Rattle.hart.specs.Image.{Initial}
use Rattle.hart.specs.declared.retired.Retired.{Retired}
use Rattle.hart.specs.declared.status.Status.{Status}
use Rattle.hart.specs.declared.status.Status.TheVariants.{Running}
use Rattle.tl_types.specs.declared.line.LineSize.{LineSize}
use Rattle.trace_recorder.specs.declared.operation.OpId.{OpId}
use Rattle.trace_recorder.specs.declared.logged.Logged.{Logged}

-- the image that was run, the size of lines; for each hart its retired instructions and its status; the performed order; the message log
pub record History : Type 0 where
  pub image : Initial
  pub line : LineSize
  pub entries : List (List Retired)
  pub statuses : List Status
  pub performed : List OpId
  pub log : List Logged

-- how much more can be kept without memory
pub record Room : Type 0 where
  pub entries : List ℕ
  pub performed : ℕ
  pub log : ℕ

pub record Recorded : Type 0 where
  pub history : History
  pub room : Room

-- nothing has happened yet
abbrev pub opening : Initial → LineSize → ℕ → History
opening image line harts = record { image = image; line = line; entries = replicate harts []; statuses = replicate harts Running; performed = []; log = [] }

abbrev pub entries_of : History → ℕ → List Retired
entries_of t hart = slice_index_or t.entries hart []

-- one more retired instruction of a hart
abbrev pub with_entry : ℕ → Retired → History → History
with_entry hart entry t = record t { entries = slice_set t.entries hart (entries_of t hart ++ entry ∷ []) }

-- one more performed operation
abbrev pub with_performed : OpId → History → History
with_performed op t = record t { performed = t.performed ++ op ∷ [] }

-- one more message sent or taken
abbrev pub with_logged : Logged → History → History
with_logged entry t = record t { log = t.log ++ entry ∷ [] }

-- a hart has another status
abbrev pub with_status : ℕ → Status → History → History
with_status hart status t = record t { statuses = slice_set t.statuses hart status }

abbrev pub listed : ℕ → Retired → Recorded → Recorded
listed hart entry r = record { history = with_entry hart entry r.history; room = record r.room { entries = slice_set r.room.entries hart (slice_index r.room.entries hart - 1) } }

abbrev pub performed : OpId → Recorded → Recorded
performed op r = record { history = with_performed op r.history; room = record r.room { performed = r.room.performed - 1 } }

abbrev pub logged : Logged → Recorded → Recorded
logged entry r = record { history = with_logged entry r.history; room = record r.room { log = r.room.log - 1 } }

abbrev pub halted : ℕ → Status → Recorded → Recorded
halted hart status r = record { history = with_status hart status r.history; room = r.room }
