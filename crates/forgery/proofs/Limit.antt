-- The limit on the check (Limit): one opening, a message of many, and that the limit is reached.
use Prim.Native.Nat.{ℕ, ◌+◌, ◌%◌, ◌<◌}
use mathlib.Core.Path.{◌≡◌}
use mathlib.Core.Bool.{true, false}
use mathlib.Core.List.{List}
use native.Mathlib.Nat.{mod-lt}
use native.Mathlib.Omega.{arith}
use lib.ListN.{get_or}
use Rattle.lists.proofs.Every.{all_to-at, all_to_no}
use Rattle.field.specs.Field.{q}
use Rattle.field.specs.Congruence.{◌⊩◌≈◌}
use Rattle.field.proofs.Congruence.{≈_lt}
use Rattle.field.proofs.Solve.{at, ◌⊕◌, ◌⊗◌, ◌⊖◌, red, solve, solve_by}
use Rattle.opening.specs.Check.{Given, accepts}
use Rattle.forgery.specs.Choices.{Choice, AtMostOne, None}
use Rattle.forgery.specs.Forgery.{Opening, following, changed, NonZero, PartsOnly, believed, believed_all, guessing}
use Rattle.forgery.specs.Theorems.{Limit}
use Rattle.forgery.proofs.Choices.{at_most_one, none, one}
use Rattle.forgery.proofs.Check.{some-q, fits, accepting, choice_same, part-refused}

-- a field with an amount added that is no multiple of q is another, with a multiple it is the same
moved : (x amount : ℕ) → NonZero amount → q ⊩ (x + amount) % q ≈ x → ⊥
moved x amount h e = h (solve_by q some-q (red (at x ⊕ at amount)) (at x) e (at amount) (at 0) (omega arith)).path

kept : (x amount : ℕ) → amount % q ≡ 0 → q ⊩ (x + amount) % q ≈ x
kept x amount h = solve_by q some-q (at amount) (at 0) (record { path = h }) (red (at x ⊕ at amount)) (at x) (omega arith)

module _ (k : ℕ) where
  unchanged : (keys : List ℕ) (opening : Opening) → accepts k keys (following keys opening) opening.sent ≡ true
  unchanged keys opening =
      accepting k keys (following keys opening) opening.sent (λ key l.
      solve q some-q
      (red (red (at (get_or keys key 0) ⊗ red (at opening.share ⊕ at opening.sent.share)) ⊖ at (opening.sent.part key)) ⊕ at (opening.sent.part key))
      (at (get_or keys key 0) ⊗ (at opening.share ⊕ at opening.sent.share))
      (omega arith))

  no_other : (keys : List ℕ) (own sent : Given) → accepts k keys own sent ≡ true → (key : ℕ) → key < k → own.part key < q
      → own.part key ≡ (following keys (record { share = own.share; sent = sent })).part key
  no_other keys own sent h key l below =
      ≈_lt
      (solve_by q some-q
      (at (own.part key) ⊕ at (sent.part key))
      (at (get_or keys key 0) ⊗ (at own.share ⊕ at sent.share))
      (fits k keys own sent h key l)
      (at (own.part key))
      (red (red (at (get_or keys key 0) ⊗ red (at own.share ⊕ at sent.share)) ⊖ at (sent.part key)))
      (omega arith))
      below (mod-lt _ some-q)

  -- ---- One opening

  module _ (opening : Opening) (amounts : Given) where
    two_same : NonZero amounts.share → (a b : List ℕ) → Choice k a → Choice k b
        → believed k opening amounts a ≡ true → believed k opening amounts b ≡ true → a ≡ b
    unfolding believed
    two_same h a b ca cb ha hb =
        choice_same k a b (following a opening) (following b opening) opening.sent (changed opening.sent amounts) ca cb
        (moved opening.sent.share amounts.share h)
        (unchanged a opening) ha (unchanged b opening) hb

    refused : PartsOnly k amounts → (keys : List ℕ) → Choice k keys → believed k opening amounts keys ≡ false
    unfolding believed
    refused h keys c =
        part-refused k keys (following keys opening) opening.sent (changed opening.sent amounts) h.key h.inside
        (kept opening.sent.share amounts.share h.share) (moved (opening.sent.part h.key) (amounts.part h.key) h.part)
        (unchanged keys opening)

    one_opening : NonZero amounts.share → AtMostOne k (believed k opening amounts)
    one_opening h = at_most_one k (believed k opening amounts) (two_same h)

  reached : (opening : Opening) (keys : List ℕ) (amount : ℕ) → believed k opening (guessing keys amount) keys ≡ true
  unfolding believed
  reached opening keys amount =
      accepting k keys (following keys opening) (changed opening.sent (guessing keys amount)) (λ key l.
      solve q some-q
      (red (red (at (get_or keys key 0) ⊗ red (at opening.share ⊕ at opening.sent.share)) ⊖ at (opening.sent.part key))
      ⊕ red (at (opening.sent.part key) ⊕ at (get_or keys key 0) ⊗ at amount))
      (at (get_or keys key 0) ⊗ (at opening.share ⊕ red (at opening.sent.share ⊕ at amount)))
      (omega arith))

  -- ---- A message of many

  module _ (n : ℕ) (openings : ℕ → Opening) (amounts : ℕ → Given) (o : ℕ) (l : o < n) where
    message : NonZero (amounts o).share → AtMostOne k (believed_all k n openings amounts)
    unfolding believed_all
    message h =
        at_most_one k (believed_all k n openings amounts) (λ a b ca cb ha hb.
        two_same (openings o) (amounts o) h a b ca cb (all_to-at n _ o ha l) (all_to-at n _ o hb l))

    message_parts : PartsOnly k (amounts o) → None k (believed_all k n openings amounts)
    unfolding believed_all
    message_parts h =
        none k (believed_all k n openings amounts) (λ keys c. all_to_no n _ o l (refused (openings o) (amounts o) h keys c))

  pub limit : Limit k
  limit =
      record {
        unchanged = unchanged;
        no_other = no_other;
        one_opening = one_opening;
        parts_only = λ opening amounts h. none k (believed k opening amounts) (refused opening amounts h);
        message = message;
        message_parts = message_parts;
        reached = reached;
        reached_once = λ opening keys c amount h.
            let amounts = guessing keys amount in
            one k (believed k opening amounts) (one_opening opening amounts h) keys c (reached opening keys amount);
      }
