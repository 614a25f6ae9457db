-- The sheet that a chart is drawn on: an SVG document (Scalable Vector Graphics 2, sections 5.1, 5.7 and 6.6).
use Rattle.std.specs.Prelude.{ℕ, ◌+◌, List, [], ◌∷◌, ◌++◌, codes}
use Rattle.run_chart.specs.declared.plan.Plan.{Plan}
use Rattle.run_chart.specs.Markup.{closed, element, number_attribute, numbers_attribute, opened, text_attribute}
use Rattle.run_chart.specs.Plan as place
use Rattle.run_chart.specs.Shapes.{line, text}

-- what a pattern or a colour means
abbrev pub key : ℕ → List ℕ → List ℕ → List ℕ
key x class name = line class (x, 16) (x + 22, 16) ++ text (codes "note") (x + 28, 20) name

abbrev pub permissions : List ℕ
permissions =
    key 6 (codes "nothing") (codes "Nothing") ++ (key 96 (codes "branch") (codes "Branch")
    ++ (key 180 (codes "trunk") (codes "Trunk") ++ key 258 (codes "dirty") (codes "Trunk, dirty")))

abbrev pub questions : List ℕ
questions = key 390 (codes "a") (codes "A, Acquire") ++ (key 498 (codes "b") (codes "B, Probe") ++ key 594 (codes "c") (codes "C, ProbeAck and Release"))

abbrev pub answers : List ℕ
answers = key 780 (codes "d") (codes "D, Grant and ReleaseAck") ++ (key 966 (codes "e") (codes "E, GrantAck") ++ key 1080 (codes "open") (codes "not taken"))

-- what the patterns and colours mean
abbrev pub legend : List ℕ
legend = permissions ++ (questions ++ answers)

abbrev pub manager_lane : Plan → List ℕ
manager_lane p =
    text (codes "head") (place.manager p, 44) (codes "manager")
    ++ line (codes "lane") (place.manager p, 50) (place.manager p, place.bottom p)

-- the tag that begins the document
abbrev pub frame : List ℕ → List ℕ → List ℕ → ℕ → ℕ → List ℕ
frame namespace role labels width height = opened (codes "svg")
    (text_attribute (codes "xmlns") namespace
    ++ (text_attribute (codes "role") role
    ++ (text_attribute (codes "aria-labelledby") labels
    ++ (number_attribute (codes "width") width
    ++ (number_attribute (codes "height") height
    ++ (numbers_attribute (codes "viewBox") (0 ∷ 0 ∷ width ∷ height ∷ []) ++ []))))))

abbrev pub ground : List ℕ → ℕ → ℕ → List ℕ
ground class width height = element (codes "rect")
    (text_attribute (codes "class") class ++ (number_attribute (codes "width") width ++ (number_attribute (codes "height") height ++ []))) []

-- what is told of the document, and its style
abbrev pub about : List ℕ → List ℕ → List ℕ → List ℕ
about title description style =
    element (codes "title") (text_attribute (codes "id") (codes "title") ++ []) title
    ++ (element (codes "desc") (text_attribute (codes "id") (codes "description") ++ []) description
    ++ element (codes "style") [] style)

-- a document of this width and height, up to what is drawn on it
abbrev pub beginning : ℕ × ℕ → List ℕ → List ℕ → List ℕ → List ℕ
beginning size title description style =
    frame (codes "http://www.w3.org/2000/svg") (codes "img") (codes "title description") size.0 size.1
    ++ (about title description style ++ ground (codes "ground") size.0 size.1)

-- the document up to the lanes of the harts; of the style only that it is a text is said
abbrev pub opening : Plan → List ℕ → List ℕ → List ℕ → List ℕ
opening p title description style =
    (beginning (place.width p, place.height p) title description style ++ legend) ++ manager_lane p

-- and its end
abbrev pub ending : List ℕ
ending = closed (codes "svg")
