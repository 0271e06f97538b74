-- The text of a ring of stations, after Herman's self-stabilising ring.
use Rattle.std.specs.Prelude.{ℕ, ◌+◌, ◌-◌, List, ◌++◌, codes, decimal, flat_map}
use Rattle.std.specs.List.{range_with_len}

-- the name of a station's variable: `x` and the station's number
abbrev pub variable : ℕ → List ℕ
variable station = codes "x" ++ decimal station

-- one where two stations' variables are the same, and nothing else: a token is there
unfoldable pub token : ℕ → ℕ → List ℕ
token one other = codes "(" ++ (variable one ++ (codes "=" ++ (variable other ++ codes "?1:0)")))

-- the stations but the last, from 1 on
abbrev pub all_but_last : ℕ → List ℕ
all_but_last stations = range_with_len 1 (stations - 1)

-- the line of the number of tokens: each station is compared with the next one, and the last with the first
unfoldable pub formula_line : ℕ → List ℕ
formula_line stations = codes "formula tokens = " ++ (flat_map (λ station. token station (station + 1) ++ codes "+") (all_but_last stations)
    ++ (token stations 1 ++ codes ";\n"))

-- the lines of the first station, which compares its variable with that of the last: where they are the same it draws a new value,
-- and otherwise it takes the other's
unfoldable pub first_station : ℕ → List ℕ
first_station stations = codes "module process1\nx1 : [0..1];\n"
    ++ (codes "[step] x1=" ++ (variable stations ++ (codes " -> 0.5 : (x1'=0) + 0.5 : (x1'=1);\n"
    ++ (codes "[step] !x1=" ++ (variable stations ++ (codes " -> (x1'=" ++ (variable stations ++ codes ");\nendmodule\n")))))))

-- the line of the station after another one, which is the first with its variables renamed
unfoldable pub station_after : ℕ → ℕ → List ℕ
station_after stations station = codes "module process" ++ (decimal (station + 1) ++ (codes " = process1 [ x1=" ++ (variable (station + 1)
    ++ (codes ", " ++ (variable stations ++ (codes "=" ++ (variable station ++ codes " ] endmodule\n")))))))

-- the text of a ring of so many stations: they have come to rest where one token is left
abbrev pub ring : ℕ → List ℕ
ring stations = codes "dtmc\n" ++ (formula_line stations ++ (first_station stations
    ++ (flat_map (station_after stations) (all_but_last stations) ++ codes "label \"stable\" = tokens=1;\n")))
