-- Addresses.
use Rattle.std.specs.Prelude.{ℕ, ◌+◌, ◌*◌, ◌%◌}

-- "The reference table (PRT) starts at 64R."
abbrev pub table_start : ℕ → ℕ
table_start r = 64 * r

-- The address of a cell of it.
abbrev pub cell_address : ℕ → ℕ → ℕ
cell_address r cell = table_start r + cell

-- "adds .. to A's address, modulo 32,768"
abbrev pub sum_of : ℕ → ℕ → ℕ
sum_of a b = (a + b) % 32768
