-- Where a chart has its lanes and lines, in pixels from its upper left corner.
use Rattle.std.specs.Prelude.{ℕ, ◌+◌, ◌*◌, nat_le, if◌then◌else◌}
use Rattle.run_chart.specs.declared.plan.Plan.{Plan}

-- from one line to the next
abbrev pub step : ℕ
step = 15

-- where a line begins
abbrev pub line_top : ℕ → ℕ
line_top line = 128 + step * line

-- where the text of a line stands
abbrev pub baseline : ℕ → ℕ
baseline line = line_top line + 11

-- where the arrow of a line leaves, or arrives
abbrev pub wire : ℕ → ℕ
wire line = line_top line + 13

-- below the last line
abbrev pub bottom : Plan → ℕ
bottom p = line_top p.lines

-- a cache's lane has a bar for each line of memory
abbrev pub cache_width : Plan → ℕ
cache_width p = 16 + 12 * p.columns

-- by the number of harts: how wide what a core did is, the labels of what a cache sends, and a hart's wires
abbrev pub note_width : Plan → ℕ
note_width p = if nat_le p.harts 1 then 430 else if nat_le p.harts 2 then 272 else if nat_le p.harts 4 then 138 else if nat_le p.harts 6 then 100 else 68

abbrev pub message_width : Plan → ℕ
message_width p = if nat_le p.harts 2 then 150 else if nat_le p.harts 4 then 42 else 6

abbrev pub wires_width : Plan → ℕ
wires_width p = if nat_le p.harts 2 then 70 else if nat_le p.harts 4 then 40 else 22

-- how many bytes there is room for in a line of what a core did, at 6.02 pixels each, five pixels behind its lane
abbrev pub note_room : Plan → ℕ
note_room p = if nat_le p.harts 1 then 69 else if nat_le p.harts 2 then 44 else if nat_le p.harts 4 then 21 else if nat_le p.harts 6 then 15 else 10

-- and in the label of what a cache sends, up to the next cache's bars: no other text stands on its line up to there
abbrev pub message_room : Plan → ℕ
message_room p = if nat_le p.harts 4 then 35 else if nat_le p.harts 6 then 20 else 15

-- in the label of what the manager sends, an event's text, where an instruction lies, and the name of a line of memory
abbrev pub answer_room : ℕ
answer_room = 27

abbrev pub label_room : ℕ
label_room = 27

abbrev pub site_room : ℕ
site_room = 17

abbrev pub column_room : ℕ
column_room = 12

-- all that a hart has
abbrev pub hart_width : Plan → ℕ
hart_width p = note_width p + cache_width p + message_width p + wires_width p

abbrev pub core : Plan → ℕ → ℕ
core p hart = 286 + hart * hart_width p

abbrev pub cache : Plan → ℕ → ℕ
cache p hart = core p hart + note_width p

-- where a cache's arrows leave and arrive
abbrev pub cache_side : Plan → ℕ → ℕ
cache_side p hart = cache p hart + cache_width p

-- where a hart's wires begin and end
abbrev pub wires : Plan → ℕ → ℕ
wires p hart = cache_side p hart + message_width p

abbrev pub wires_end : Plan → ℕ → ℕ
wires_end p hart = wires p hart + wires_width p

-- behind the labels of what the manager sends
abbrev pub manager : Plan → ℕ
manager p = core p p.harts + 170

abbrev pub width : Plan → ℕ
width p = manager p + 50

abbrev pub height : Plan → ℕ
height p = bottom p + 16

-- where a bar stands
abbrev pub bar : Plan → ℕ → ℕ → ℕ
bar p hart column = cache p hart + 8 + 12 * column
