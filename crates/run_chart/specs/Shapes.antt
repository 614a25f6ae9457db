-- The elements of a chart.
use Rattle.std.specs.Prelude.{ℕ, ◌+◌, ◌-◌, ◌&&◌, Bool, true, false, List, [], ◌∷◌, ◌++◌, Option, Some, None, codes, length, nat_le, if◌then◌else◌}
use Rattle.std.specs.Str.{bytes_eq}
use Rattle.tl_types.specs.declared.message.Channel.{Channel}
use Rattle.tl_types.specs.declared.message.Channel.TheVariants.{A, B, C, D, E}
use Rattle.run_chart.specs.declared.plan.Plan.{Plan}
use Rattle.run_chart.specs.declared.shapes.Hold.{Hold}
use Rattle.run_chart.specs.declared.shapes.Hold.TheVariants.{Nothing, Branch, Trunk, Dirty}
use Rattle.run_chart.specs.declared.shapes.Message.{Message}
use Rattle.run_chart.specs.Fitting.{fitted}
use Rattle.run_chart.specs.Markup.{closed, element, escaped, number_attribute, numbers_attribute, opened, text_attribute}
use Rattle.run_chart.specs.Plan as place

abbrev pub hold_class : Hold → List ℕ
hold_class Nothing = codes "nothing"
hold_class Branch = codes "branch"
hold_class Trunk = codes "trunk"
hold_class Dirty = codes "dirty"

abbrev pub channel_class : Channel → List ℕ
channel_class A = codes "a"
channel_class B = codes "b"
channel_class C = codes "c"
channel_class D = codes "d"
channel_class E = codes "e"

-- of a message that was never taken
abbrev pub open_class : Channel → List ℕ
open_class c = channel_class c ++ codes " open"

-- A, C and E lead from a hart's cache to the manager, B and D from the manager to the cache
abbrev pub is_from_cache : Channel → Bool
is_from_cache A = true
is_from_cache B = false
is_from_cache C = true
is_from_cache D = false
is_from_cache E = true

-- a line between two places
abbrev pub line : List ℕ → ℕ × ℕ → ℕ × ℕ → List ℕ
line class from to = element (codes "line")
    (text_attribute (codes "class") class
    ++ (number_attribute (codes "x1") from.0 ++ (number_attribute (codes "y1") from.1 ++ (number_attribute (codes "x2") to.0 ++ (number_attribute (codes "y2") to.1 ++ [])))))
    []

-- a text that begins at a place
abbrev pub text : List ℕ → ℕ × ℕ → List ℕ → List ℕ
text class at content = element (codes "text")
    (text_attribute (codes "class") class ++ (number_attribute (codes "x") at.0 ++ (number_attribute (codes "y") at.1 ++ [])))
    content

-- a whole text that a browser tells of a short one, under the pointer
abbrev pub title : List ℕ → List ℕ
title whole = opened (codes "title") [] ++ (escaped whole ++ codes "</title>")

abbrev pub titled : List ℕ → ℕ × ℕ → List ℕ → List ℕ → List ℕ
titled class at short whole =
    opened (codes "text") (text_attribute (codes "class") class ++ (number_attribute (codes "x") at.0 ++ (number_attribute (codes "y") at.1 ++ [])))
    ++ (escaped short ++ (title whole ++ closed (codes "text")))

-- a short text, cut where there is no room for it, with the whole one, where it is another
abbrev pub told : List ℕ → ℕ × ℕ → ℕ → List ℕ → List ℕ → List ℕ
told class at room short whole = if nat_le (length short) room && bytes_eq short whole then text class at short else titled class at (fitted room short) whole

-- an element of corners, x and y in turn
abbrev pub corners : List ℕ → List ℕ → List ℕ → List ℕ
corners name class points = element name (text_attribute (codes "class") class ++ (numbers_attribute (codes "points") points ++ [])) []

abbrev pub core_lane : ℕ → ℕ → ℕ → List ℕ
core_lane x bottom digit = text (codes "head") (x, 44) (codes "core " ++ digit ∷ []) ++ line (codes "lane") (x, 50) (x, bottom)

abbrev pub cache_lane : ℕ → ℕ → ℕ → ℕ → List ℕ
cache_lane x side bottom digit = text (codes "head") (x, 44) (codes "cache " ++ digit ∷ []) ++ line (codes "lane") (side, 50) (side, bottom)

-- the lanes of a hart's core and its cache, with their names
abbrev pub lanes : Plan → ℕ → List ℕ
lanes p hart =
    core_lane (place.core p hart) (place.bottom p) (48 + hart)
    ++ cache_lane (place.cache p hart) (place.cache_side p hart) (place.bottom p) (48 + hart)

abbrev pub column : Plan → ℕ → ℕ → List ℕ → List ℕ → List ℕ
column p hart number short whole = told (codes "address") (place.bar p hart number, 54) place.column_room short whole

-- a rule across the chart, and a text at its left side
abbrev pub label : Plan → ℕ → List ℕ → List ℕ → List ℕ
label p row short whole =
    line (codes "rule") (0, place.line_top row) (place.width p, place.line_top row)
    ++ told (codes "label") (6, place.baseline row) place.label_room short whole

abbrev pub note : Plan → ℕ → ℕ → List ℕ → List ℕ → List ℕ
note p row hart short whole = told (codes "note") (place.core p hart + 5, place.baseline row) (place.note_room p) short whole

-- a text that ends before the first core's lane
abbrev pub site : ℕ → List ℕ → List ℕ → List ℕ
site row short whole = told (codes "site") (280, place.baseline row) place.site_room short whole

abbrev pub bar : Plan → ℕ → ℕ → ℕ × ℕ → Hold → List ℕ
bar p hart number rows hold =
    line (hold_class hold) (place.bar p hart number, place.line_top rows.0) (place.bar p hart number, place.line_top rows.1)

-- from a place to another, and slanting between two others
abbrev pub bends : ℕ × ℕ → ℕ × ℕ → ℕ × ℕ → List ℕ
bends from wires to = from.0 ∷ from.1 ∷ wires.0 ∷ from.1 ∷ wires.1 ∷ to.1 ∷ to.0 ∷ to.1 ∷ []

abbrev pub right_arrow : List ℕ → ℕ × ℕ → ℕ × ℕ → ℕ × ℕ → List ℕ
right_arrow class from wires to =
    corners (codes "polyline") class (bends from wires to)
    ++ corners (codes "polygon") class (to.0 ∷ to.1 ∷ (to.0 - 7) ∷ (to.1 - 4) ∷ (to.0 - 7) ∷ (to.1 + 4) ∷ [])

abbrev pub left_arrow : List ℕ → ℕ × ℕ → ℕ × ℕ → ℕ × ℕ → List ℕ
left_arrow class from wires to =
    corners (codes "polyline") class (bends from wires to)
    ++ corners (codes "polygon") class (to.0 ∷ to.1 ∷ (to.0 + 7) ∷ (to.1 - 4) ∷ (to.0 + 7) ∷ (to.1 + 4) ∷ [])

-- dashed to the bottom
abbrev pub open_arrow : List ℕ → ℕ × ℕ → ℕ × ℕ → ℕ → List ℕ
open_arrow class from wires bottom = corners (codes "polyline") class (from.0 ∷ from.1 ∷ wires.0 ∷ from.1 ∷ wires.1 ∷ bottom ∷ [])

-- from the cache, on the line on which the message was sent, by the hart's wires to the manager, on the line on which it was taken
abbrev pub upward_to : Plan → Message → Option ℕ → List ℕ
upward_to p m (Some row) =
    right_arrow (channel_class m.channel) (place.cache_side p m.hart, place.wire m.sent) (place.wires p m.hart, place.wires_end p m.hart) (place.manager p, place.wire row)
upward_to p m None =
    open_arrow (open_class m.channel) (place.cache_side p m.hart, place.wire m.sent) (place.wires p m.hart, place.wires_end p m.hart) (place.bottom p)

abbrev pub upward : Plan → Message → List ℕ
upward p m = upward_to p m m.taken

-- from the manager to the cache, likewise
abbrev pub downward_to : Plan → Message → Option ℕ → List ℕ
downward_to p m (Some row) =
    left_arrow (channel_class m.channel) (place.manager p, place.wire m.sent) (place.wires_end p m.hart, place.wires p m.hart) (place.cache_side p m.hart, place.wire row)
downward_to p m None =
    open_arrow (open_class m.channel) (place.manager p, place.wire m.sent) (place.wires_end p m.hart, place.wires p m.hart) (place.bottom p)

abbrev pub downward : Plan → Message → List ℕ
downward p m = downward_to p m m.taken

-- the arrow, and its label above where it leaves
abbrev pub arrow : Plan → Message → List ℕ → List ℕ → List ℕ
arrow p m short whole =
    if is_from_cache m.channel then upward p m ++ told (channel_class m.channel) (place.cache_side p m.hart + 5, place.baseline m.sent) (place.message_room p) short whole
    else downward p m ++ told (channel_class m.channel) (place.core p p.harts + 5, place.baseline m.sent) place.answer_room short whole
