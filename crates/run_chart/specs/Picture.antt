-- The picture of a run.
use Rattle.std.specs.Prelude.{◌≡◌, ℕ, zero, suc, ◌+◌, List, [], ◌∷◌, ◌++◌, Option, Some, None, length}
use Rattle.std.specs.List.{flat_map}
use Rattle.run_chart.specs.Shapes as shape
use Rattle.run_chart.specs.Sheet as sheet
use Rattle.run_chart.specs.declared.plan.Plan.{Plan}
use Rattle.run_chart.specs.declared.shapes.Hold.TheVariants.{Nothing}
use Rattle.elf_symbols.specs.Named.{Named}
use Rattle.run_chart.specs.Names.{address, line}
use Rattle.run_chart.specs.declared.naming.Manner.TheVariants.{Short, Whole}
use Rattle.tl_types.specs.declared.line.LineSize.{LineSize}
use Rattle.run_chart.specs.Arrows.{arrows}
use Rattle.run_chart.specs.Bars.{bars, bottom}
use Rattle.run_chart.specs.Texts as text
use Rattle.run_chart.specs.declared.bars.Place.{Place}
use Rattle.run_chart.specs.declared.rows.Noted.{Noted}
use Rattle.run_chart.specs.declared.rows.Posted.{Posted}
use Rattle.run_chart.specs.declared.rows.Row.{Row}
use Rattle.run_chart.specs.declared.rows.Story.{Story}

-- where the instruction lies of which a note tells, if it tells of one
unfoldable pub site : List Named → ℕ → Option ℕ → List ℕ
site names line None = []
site names line (Some pc) = shape.site line (address Short names pc) (address Whole names pc)

-- what the core did, and at the left side where the instruction lies
abbrev pub note_text : Plan → List Named → ℕ → Noted → List ℕ
note_text p names hart n = shape.note p n.line hart (text.note Short names n.note) (text.note Whole names n.note)

unfoldable pub noted : Plan → List Named → ℕ → Noted → List ℕ
noted p names hart n = note_text p names hart n ++ site names n.line (text.site_of n.note)

-- the event at the left side, and what the core did
abbrev pub event_text : Plan → List Named → LineSize → Row → List ℕ
event_text p names size r = shape.label p r.line (text.row Short names size r) (text.row Whole names size r)

unfoldable pub row : Plan → List Named → LineSize → Row → List ℕ
row p names size r = event_text p names size r ++ flat_map (noted p names r.hart) r.notes.items

-- the name of a line of memory above its bars, and the bars
abbrev pub head : Plan → List Named → LineSize → Place → List ℕ
head p names size at = shape.column p at.hart at.column (line Short names size at.line) (line Whole names size at.line)

unfoldable pub place : Plan → List Named → LineSize → Place → ℕ → List Row → List ℕ
place p names size at end rows = head p names size at ++ bars p at end 0 Nothing rows

-- the lines of memory from this number on
abbrev pub columns : Plan → List Named → LineSize → ℕ → ℕ → List Row → ℕ → List ℕ → List ℕ
columns p names size hart end rows column [] = []
columns p names size hart end rows column (line ∷ lines) =
    place p names size (record { hart = hart; line = line; column = column }) end rows ++ columns p names size hart end rows (column + 1) lines

unfoldable pub hart : Plan → List Named → LineSize → Story → ℕ → List ℕ
hart p names size s h = shape.lanes p h ++ columns p names size h (bottom 0 s.rows.items) s.rows.items 0 s.columns.items

-- the first so many harts
abbrev pub harts : Plan → List Named → LineSize → Story → ℕ → List ℕ
harts p names size s zero = []
harts p names size s (suc h) = harts p names size s h ++ hart p names size s h

-- the messages of all rows, in their order
abbrev pub posts : List Row → List Posted
posts rows = flat_map (λ r. r.log.items) rows

unfoldable pub opened : Plan → Story → List ℕ → List ℕ
opened p s style = sheet.opening p (text.title s.harts) (text.description s) style

-- the whole document of this size, in this style, with these names for addresses
abbrev pub drawn : Plan → List Named → Story → List ℕ → List ℕ
drawn p names s style =
    (((opened p s style ++ harts p names s.size s s.harts) ++ flat_map (row p names s.size) s.rows.items) ++ arrows p names s.size (posts s.rows.items) 0 (posts s.rows.items))
    ++ sheet.ending

-- the document, with as many harts, bars and lines as there are
pub record IsPicture (names : List Named) (s : Story) (style bytes : List ℕ) : Type 0 where
  pub plan : Plan
  pub harts_are : plan.harts ≡ s.harts
  pub columns_are : plan.columns ≡ length s.columns.items
  pub lines_are : plan.lines ≡ bottom 0 s.rows.items
  pub text_is : bytes ≡ drawn plan names s style
