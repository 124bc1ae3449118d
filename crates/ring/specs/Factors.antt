-- The factor list: powers of the root 1,753.
use Rattle.std.specs.Prelude.{ℕ, zero, suc, ◌+◌, ◌*◌, ◌/◌, ◌%◌, ◌^◌, List}
use Rattle.lists.specs.Lists.{list_to}
use Rattle.field.specs.Field.{q}

-- the lowest n bits of i in reverse order: the lowest of them becomes the highest
unfoldable pub reversed : ℕ → ℕ → ℕ
reversed zero i = 0
reversed (suc n) i = i % 2 * 2 ^ n + reversed n (i / 2)

-- "entry i being 1,753 to the power of i with its eight bits reversed, modulo q" (02); FIPS 204's zetas[i] for i = 1 .. 255
unfoldable pub factor : ℕ → ℕ
factor i = 1753 ^ reversed 8 i % q

-- "The factor list has 256 entries" (02)
unfoldable pub factor_list : List ℕ
factor_list = list_to 256 factor

-- the 256 roots of X^256 + 1, in the order of the transform's entries
unfoldable pub root : ℕ → ℕ
root i = 1753 ^ (2 * reversed 8 i + 1) % q
