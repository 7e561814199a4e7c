-- Where the numbers of a tableau stand in its words: the denominator, the limit of each row, and then the rows one after another.
use Rattle.std.specs.Prelude.{ℕ, ◌+◌, ◌*◌, List, drop, ℤ}
use Rattle.rows.specs.Cells.{cell}
use Rattle.words.specs.Bounds.{most_commands, most_limits, most_readings}
use Rattle.words.specs.declared.counts.Shape.{Shape}

-- A row has a gain, a number for each command, and a number for each limit.
abbrev pub row_width : Shape → ℕ
row_width c = 1 + c.commands + c.limits

-- The column of a limit, which counts from 0.
abbrev pub limit_column : Shape → ℕ → ℕ
limit_column c j = 1 + c.commands + j

-- There is a row for each limit of the basis, and then one for the constants and one for each reading.
abbrev pub row_count : Shape → ℕ
row_count c = c.commands + (1 + c.readings)

abbrev pub first_row : Shape → ℕ
first_row c = 1 + c.commands

abbrev pub size : Shape → ℕ
size c = first_row c + row_count c * row_width c

-- The number of row s in column i.
abbrev pub number_at : Shape → List ℤ → ℕ → ℕ → ℤ
number_at c ws s i = cell (row_width c) (drop (first_row c) ws) s i

-- The size at the greatest counts.
abbrev pub most_size : ℕ
most_size = size (record { commands = most_commands; limits = most_limits; readings = most_readings })
