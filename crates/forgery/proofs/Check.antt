-- What an accepted opening says of the receiver's keys: the change of a part is key × the change of the share, modulo q.
use Prim.Native.Nat.{ℕ, ◌+◌, ◌-◌, ◌*◌, ◌%◌, ◌<◌}
use mathlib.Core.Path.{◌≡◌, sym, ◌∙◌}
use mathlib.Core.Logic.{◌⊎◌, inl, inr}
use mathlib.Core.Bool.{true, false}
use mathlib.Core.List.{List}
use native.Mathlib.Nat.{one-mul}
use native.Mathlib.Omega.{arith}
use lib.ListN.{get_or}
use lib.Seq.{ext_get_or}
use Rattle.lists.proofs.Members.{refuted}
use Rattle.field.specs.Field.{q}
use Rattle.field.specs.Congruence.{◌⊩◌≈◌}
use Rattle.field.proofs.Congruence.{≈_refl, ≈_eq, ≈_sym, ≈_add, ≈_mul, ≈_lt}
use Rattle.field.proofs.Solve.{at, ◌⊕◌, ◌⊗◌, ◌⊖◌, solve_by}
use Rattle.field.proofs.Prime.{no_zero_divisors}
use Rattle.opening.specs.Check.{Given, accepts}
use Rattle.opening.proofs.Checks.{check-passes}
use Rattle.forgery.specs.Choices.{Choice}
use Rattle.forgery.proofs.Choices.{key_below}

pub some-q : 0 < q
some-q = omega arith

-- ---- The check, as a congruence for each key

abbrev Fits : List ℕ → Given → Given → ℕ → Type 0
Fits keys own other key = q ⊩ own.part key + other.part key ≈ get_or keys key 0 * (own.share + other.share)

pub fits : (k : ℕ) (keys : List ℕ) (own other : Given) → accepts k keys own other ≡ true → (key : ℕ) → key < k → Fits keys own other key
fits k keys own other h key l = (check-passes.passed k keys own other h key l).total

pub accepting : (k : ℕ) (keys : List ℕ) (own other : Given) → ((key : ℕ) → key < k → Fits keys own other key) → accepts k keys own other ≡ true
accepting k keys own other h =
    check-passes.honest k keys own other (own.share + other.share)
    (record { total = ≈_eq (sym (one-mul (own.share + other.share))) }) (λ key l. record { total = h key l })

-- two openings that pass beside the same own numbers
both_pass : (k : ℕ) (keys : List ℕ) (own sent other : Given) → accepts k keys own sent ≡ true → accepts k keys own other ≡ true → (key : ℕ) → key < k
    → q ⊩ get_or keys key 0 * other.share + sent.part key ≈ get_or keys key 0 * sent.share + other.part key
both_pass k keys own sent other h g key l =
    solve_by q some-q
    ((at (own.part key) ⊕ at (sent.part key)) ⊕ at (get_or keys key 0) ⊗ (at own.share ⊕ at other.share))
    (at (get_or keys key 0) ⊗ (at own.share ⊕ at sent.share) ⊕ (at (own.part key) ⊕ at (other.part key)))
    (≈_add (fits k keys own sent h key l) (≈_sym (fits k keys own other g key l)))
    (at (get_or keys key 0) ⊗ at other.share ⊕ at (sent.part key))
    (at (get_or keys key 0) ⊗ at sent.share ⊕ at (other.part key))
    (omega arith)

-- ---- One key

-- a difference that is 0
no_difference : (x y : ℕ) → (x + (q - y % q)) % q ≡ 0 → q ⊩ x ≈ y
no_difference x y e = solve_by q some-q (at x ⊖ at y) (at 0) (record { path = e }) (at x) (at y) (omega arith)

-- one change of share and part, from y to y' and from d to d', fits one key alone
key-same : (a b y y' d d' : ℕ) → a < q → b < q → (q ⊩ y' ≈ y → ⊥)
    → q ⊩ a * y' + d ≈ a * y + d' → q ⊩ b * y' + d ≈ b * y + d' → a ≡ b
key-same a b y y' d d' la lb differ ha hb = go (no_zero_divisors (a + (q - b % q)) (y' + (q - y % q)) none.path)
  where
    none : q ⊩ (a + (q - b % q)) * (y' + (q - y % q)) ≈ 0
    none =
        solve_by q some-q
        ((at a ⊗ at y' ⊕ at d) ⊕ (at b ⊗ at y ⊕ at d'))
        ((at a ⊗ at y ⊕ at d') ⊕ (at b ⊗ at y' ⊕ at d))
        (≈_add ha (≈_sym hb))
        ((at a ⊖ at b) ⊗ (at y' ⊖ at y))
        (at 0)
        (omega arith)

    go : (((a + (q - b % q)) % q ≡ 0) ⊎ ((y' + (q - y % q)) % q ≡ 0)) → a ≡ b
    go (inl e) = ≈_lt (no_difference a b e) la lb
    go (inr e) = absurd (differ (no_difference y' y e))

-- ---- All keys

-- another share that passes beside the own numbers of two choices: they are one
pub choice_same : (k : ℕ) (a b : List ℕ) (own own' sent other : Given) → Choice k a → Choice k b → (q ⊩ other.share ≈ sent.share → ⊥)
    → accepts k a own sent ≡ true → accepts k a own other ≡ true → accepts k b own' sent ≡ true → accepts k b own' other ≡ true → a ≡ b
choice_same k a b own own' sent other ca cb differ h g h' g' =
    ext_get_or 0 a b (ca.size ∙ sym cb.size) (λ i l.
    let l' : i < k = omega (arith, ca.size) in
    key-same (get_or a i 0) (get_or b i 0) sent.share other.share (sent.part i) (other.part i)
    (key_below k a ca i l') (key_below k b cb i l') differ
    (both_pass k a own sent other h g i l') (both_pass k b own' sent other h' g' i l'))

-- the same share with another part passes beside no own numbers
pub part-refused : (k : ℕ) (keys : List ℕ) (own sent other : Given) (key : ℕ) → key < k
    → q ⊩ other.share ≈ sent.share → (q ⊩ other.part key ≈ sent.part key → ⊥)
    → accepts k keys own sent ≡ true → accepts k keys own other ≡ false
part-refused k keys own sent other key l same differ h =
    refuted (accepts k keys own other) (λ g. differ (
    solve_by q some-q
    ((at (get_or keys key 0) ⊗ at sent.share ⊕ at (other.part key)) ⊕ at (get_or keys key 0) ⊗ at other.share)
    ((at (get_or keys key 0) ⊗ at other.share ⊕ at (sent.part key)) ⊕ at (get_or keys key 0) ⊗ at sent.share)
    (≈_add (≈_sym (both_pass k keys own sent other h g key l)) (≈_mul (≈_refl (get_or keys key 0)) same))
    (at (other.part key))
    (at (sent.part key))
    (omega arith)))
