-- "All share arithmetic is modulo q, results 0 to q − 1."
use Rattle.std.specs.Prelude.{ℕ, ◌+◌, ◌-◌, ◌*◌, ◌%◌}

-- "q = 8,380,417"
abbrev pub q : ℕ
q = 8380417

-- sum, difference and product modulo m
abbrev pub add : ℕ → ℕ → ℕ → ℕ
add m a b = (a + b) % m

abbrev pub sub : ℕ → ℕ → ℕ → ℕ
sub m a b = (a + (m - b % m)) % m

abbrev pub mul : ℕ → ℕ → ℕ → ℕ
mul m a b = a * b % m
