-- The object graphs of the worked examples.
use Rattle.std.specs.Prelude.{ℕ, List, [], ◌∷◌, map}
use Rattle.serialize.specs.declared.link.LinkWidth.TheVariants.{Two, Four}
use Rattle.serialize.specs.Objects.{Node}
use Rattle.coverage_writers.specs.Formats.{bytes_of}

-- a vertex of these words, with links of two bytes at these positions to these vertices
abbrev pub vertex : List ℕ → List (ℕ × ℕ) → Node
vertex ws ls = record { bytes = bytes_of ws; links = map (λ (l : ℕ × ℕ). record { position = l.0; child = l.1; width = Two }) ls }

-- an extension of the subtable at a vertex
abbrev pub extension_of : ℕ → Node
extension_of v = record { bytes = bytes_of (1 ∷ 4 ∷ 0 ∷ 0 ∷ []); links = record { position = 4; child = v; width = Four } ∷ [] }

-- an anchor of six bytes
abbrev pub anchor : ℕ → Node
anchor n = vertex (1 ∷ n ∷ n ∷ []) []

-- the subtable of a table: its class count, and its parts at vertices 2 to 5
abbrev pub subtable : ℕ → Node
subtable k = vertex (1 ∷ 0 ∷ 0 ∷ k ∷ 0 ∷ 0 ∷ []) ((2, 2) ∷ (4, 3) ∷ (8, 4) ∷ (10, 5) ∷ [])

-- a lookup with one subtable
abbrev pub lookup : Node
lookup = vertex (4 ∷ 0 ∷ 1 ∷ 0 ∷ []) ((6, 1) ∷ [])

-- table A: marks 10 and 12 in classes 0 and 1, one base, four distinct anchors
abbrev pub table_a : List Node
table_a =
    lookup
    ∷ subtable 2
    ∷ vertex (1 ∷ 2 ∷ 10 ∷ 12 ∷ []) []
    ∷ vertex (1 ∷ 1 ∷ 5 ∷ []) []
    ∷ vertex (2 ∷ 0 ∷ 0 ∷ 1 ∷ 0 ∷ []) ((4, 6) ∷ (8, 7) ∷ [])
    ∷ vertex (1 ∷ 0 ∷ 0 ∷ []) ((2, 8) ∷ (4, 9) ∷ [])
    ∷ anchor 0
    ∷ anchor 1
    ∷ anchor 2
    ∷ anchor 3
    ∷ []

-- marks 10, 11, 12, 13 in classes 0, 0, 1, 2, one base, and its anchors by these links
abbrev pub four_marks : List (ℕ × ℕ) → List Node
four_marks bases =
    lookup
    ∷ subtable 3
    ∷ vertex (1 ∷ 4 ∷ 10 ∷ 11 ∷ 12 ∷ 13 ∷ []) []
    ∷ vertex (1 ∷ 1 ∷ 5 ∷ []) []
    ∷ vertex (4 ∷ 0 ∷ 0 ∷ 0 ∷ 0 ∷ 1 ∷ 0 ∷ 2 ∷ 0 ∷ []) ((4, 6) ∷ (8, 7) ∷ (12, 8) ∷ (16, 9) ∷ [])
    ∷ vertex (1 ∷ 0 ∷ 0 ∷ 0 ∷ []) bases
    ∷ anchor 0
    ∷ anchor 1
    ∷ anchor 2
    ∷ anchor 3
    ∷ anchor 4
    ∷ anchor 5
    ∷ []

-- table B: classes 0 and 1 share one base anchor
abbrev pub table_b : List Node
table_b = four_marks ((2, 10) ∷ (4, 10) ∷ (6, 11) ∷ [])

-- table C: class 1's base anchor is null
abbrev pub table_c : List Node
table_c = four_marks ((2, 10) ∷ (6, 11) ∷ [])

-- table D, as A but for its anchors: that of mark 10 has device tables below it, two links down, and those of the bases lead to each other in a circle
abbrev pub table_d : List Node
table_d =
    lookup
    ∷ subtable 2
    ∷ vertex (1 ∷ 2 ∷ 10 ∷ 12 ∷ []) []
    ∷ vertex (1 ∷ 1 ∷ 5 ∷ []) []
    ∷ vertex (2 ∷ 0 ∷ 0 ∷ 1 ∷ 0 ∷ []) ((4, 6) ∷ (8, 7) ∷ [])
    ∷ vertex (1 ∷ 0 ∷ 0 ∷ []) ((2, 8) ∷ (4, 9) ∷ [])
    ∷ vertex (3 ∷ 0 ∷ 0 ∷ 0 ∷ []) ((6, 10) ∷ [])
    ∷ anchor 1
    ∷ vertex (3 ∷ 2 ∷ 2 ∷ 0 ∷ []) ((6, 9) ∷ [])
    ∷ vertex (3 ∷ 3 ∷ 3 ∷ 0 ∷ []) ((6, 8) ∷ [])
    ∷ vertex (7 ∷ 0 ∷ []) ((2, 11) ∷ [])
    ∷ vertex (9 ∷ 9 ∷ 9 ∷ []) []
    ∷ []

-- table X: table A in type 9, the extension of its subtable at vertex 10
abbrev pub table_x : List Node
table_x =
    vertex (9 ∷ 0 ∷ 1 ∷ 0 ∷ []) ((6, 10) ∷ [])
    ∷ subtable 2
    ∷ vertex (1 ∷ 2 ∷ 10 ∷ 12 ∷ []) []
    ∷ vertex (1 ∷ 1 ∷ 5 ∷ []) []
    ∷ vertex (2 ∷ 0 ∷ 0 ∷ 1 ∷ 0 ∷ []) ((4, 6) ∷ (8, 7) ∷ [])
    ∷ vertex (1 ∷ 0 ∷ 0 ∷ []) ((2, 8) ∷ (4, 9) ∷ [])
    ∷ anchor 0
    ∷ anchor 1
    ∷ anchor 2
    ∷ anchor 3
    ∷ extension_of 1
    ∷ []

-- table E: the marks 10 to 17, one range of format 2, in classes 0 and 1 by turns; every anchor is null
abbrev pub table_e : List Node
table_e =
    lookup
    ∷ subtable 2
    ∷ vertex (2 ∷ 1 ∷ 10 ∷ 17 ∷ 0 ∷ []) []
    ∷ vertex (1 ∷ 1 ∷ 5 ∷ []) []
    ∷ vertex (8 ∷ 0 ∷ 0 ∷ 1 ∷ 0 ∷ 0 ∷ 0 ∷ 1 ∷ 0 ∷ 0 ∷ 0 ∷ 1 ∷ 0 ∷ 0 ∷ 0 ∷ 1 ∷ 0 ∷ []) []
    ∷ vertex (1 ∷ 0 ∷ 0 ∷ []) []
    ∷ []
