-- No output line is longer than one with the largest draw.
use Prim.Native.Nat.{ℕ, zero, suc, ◌+◌, ◌*◌, ◌/◌, ◌≤◌, ◌<◌}
use mathlib.Core.Path.{◌≡◌, refl}
use mathlib.Core.Bool.{Bool, true, false, cond}
use mathlib.Core.List.{List, [], ◌∷◌, ◌++◌}
use native.Mathlib.Omega.{arith}
use native.Mathlib.Decide.{dec_lt}
use lib.Dec.{eqb, ltb, lit<}
use lib.IntN.{ℤ, pos, negsuc}
use lib.ListN.{length, get_or, take, drop, replicate, length-append, length-replicate, get_or-eq_default}
use lib.Seq.{get_or-drop}
use mir.Syntax.{w32}
use mir.Val.{Fits}
use borrow.Author.Tests.{eqb-true, eqb-false}
use Rattle.text.specs.Decimal.{too_large}
use Rattle.text.specs.Text.{decimal, numbers_text}
use Rattle.text.proofs.Decimals.{length-decimal, length_decimal_32, length-numbers}
use Rattle.lists.proofs.Lists.{length-list_from, get_d_list_to, get_d_zeros}
use Rattle.lists.proofs.Every.{below_at}
use Rattle.field.specs.Field.{q}
use Rattle.settings.specs.declared.Shape.{Shape}
use Rattle.settings.specs.Sizes.{key_count, width, draw_size}
use Rattle.settings.proofs.Sizes.{shared-most}
use Rattle.settings.proofs.Ready.{shape-ready}
use Rattle.settings.specs.Refusals.{Outcome, Gives, No}
use Rattle.rounding.specs.declared.HighLow.{HighLow}
use Rattle.rounding.specs.Calls.{parts_call, verdict_call}
use Rattle.stock.specs.Stock.{stocked_size, books_of, both_stocks, is_least, first_of, best_of, ask_stocks, choose_no, chosen}
use Rattle.stock.proofs.Meaning.{choice}
use Rattle.generator.specs.declared.Generator.{Generator}
use Rattle.generator.specs.Step.{outputs}
use Rattle.generator.specs.Calls.{seed_call, draw_no, Drew, draw_call}
use Rattle.generator.proofs.Steps.{inside, outputs_length, outputs_below}
use Rattle.generator.proofs.Door.{refusal, drawn-all}
use Rattle.desk.specs.declared.words.CallName.{CallName}
use Rattle.desk.specs.Desk.{refusal_text, malformed_text, signed_text, high_low_text, decomposed_text, verdict_text, part_text, choose_text, drawn_text, draw_text, parts_result, verdict_result, stocks_text, choose_result, draw_result, call_result, most_draw, longest_result}
use Rattle.desk.proofs.Draws.{draw-most}

-- ---- numbers of 32 bits in a list, in a part of it, and in a book

abbrev Below : List ℕ → Type 0
Below l = (i : ℕ) → get_or l i 0 < too_large

none_below : Below []
none_below zero = lit< tt
none_below (suc i) = lit< tt

behind-below : (n : ℕ) (l : List ℕ) → Below l → Below (drop n l)
behind-below n l h i = rw (get_or-drop n l i 0) (h (n + i))

front_below : (n : ℕ) (l : List ℕ) → Below l → Below (take n l)
front_below zero l h i = none_below i
front_below (suc n) [] h i = none_below i
front_below (suc n) (x ∷ l) h zero = h zero
front_below (suc n) (x ∷ l) h (suc i) = front_below n l (λ j. h (suc j)) i

-- the front of a slice of such numbers
pub front_fits : (n : ℕ) (l : List ℕ) → ((i : ℕ) → Fits w32 (get_or l i 0)) → Below (take n l)
front_fits n l h = front_below n l (λ i. omega (arith, h i))

abbrev AllBelow : List (List ℕ) → Type 0
AllBelow books = (j : ℕ) → Below (get_or books j [])

books-below : (size : ℕ) (stock : List ℕ) → Below stock → AllBelow (books_of size stock)
books-below size stock h j = go (dec_lt j (length stock / size))
  where
    book : ℕ → List ℕ
    book b = take size (drop (b * size) stock)

    go : Dec (j < length stock / size) → Below (get_or (books_of size stock) j [])
    go (yes l) = rw (get_d_list_to (length stock / size) book j [] l) (front_below size _ (behind-below (j * size) stock h))
    go (no l) = rw (get_or-eq_default (books_of size stock) [] {n = j} (omega (arith, length-list_from 0 (length stock / size) book))) none_below

both_below : (xs ys : List (List ℕ)) → AllBelow xs → AllBelow ys → AllBelow (xs ++ ys)
both_below [] ys h k j = k j
both_below (x ∷ xs) ys h k zero = h zero
both_below (x ∷ xs) ys h k (suc j) = both_below xs ys (λ i. h (suc i)) k j

first_below : (f : List ℕ → Bool) (books : List (List ℕ)) → AllBelow books → Below (first_of f books)
unfolding first_of
first_below f [] h = none_below
first_below f (b ∷ bs) h = go (f b) (first_below f bs (λ j. h (suc j)))
  where
    go : (t : Bool) → Below (first_of f bs) → Below (cond t b (first_of f bs))
    go true ih = h 0
    go false ih = ih

chosen-below : (k : ℕ) (a : Shape) (first second : List ℕ) (last : ℕ) → Below first → Below second → Below (chosen k a first second last)
unfolding chosen best_of
chosen-below k a first second last h l = go (eqb (choose_no k a first second last) 0)
  where
    books : List (List ℕ)
    books = both_stocks (stocked_size k a) first second

    go : (t : Bool) → Below (cond t (best_of last (stocked_size k a) first second) [])
    go true =
        first_below (is_least last books) books
        (both_below (books_of (stocked_size k a) first) (books_of (stocked_size k a) second) (books-below (stocked_size k a) first h) (books-below (stocked_size k a) second l))
    go false = none_below

-- ---- results

either : (t : Bool) (xs ys : List ℕ) → length xs ≤ longest_result → length ys ≤ longest_result → length (cond t xs ys) ≤ longest_result
either true xs ys h k = h
either false xs ys h k = k

length-refusal : (n : ℕ) → length (refusal_text n) ≤ 21
unfolding refusal_text
length-refusal n = omega (arith, length-decimal n)

pub length-malformed : length malformed_text ≤ longest_result
length-malformed = omega (arith, length-refusal 12)

length_signed : (z : ℤ) → length (signed_text z) ≤ 21
unfolding signed_text
length_signed (pos n) = omega (arith, length-decimal n)
length_signed (negsuc n) = omega (arith, length-decimal (suc n))

length_decomposed : (r : Outcome HighLow) → length (decomposed_text r) ≤ longest_result
unfolding decomposed_text high_low_text
length_decomposed (Gives parts) =
    omega (arith, length-append (decimal parts.high) (32 ∷ signed_text parts.low), length-decimal parts.high, length_signed parts.low)
length_decomposed (No n) = omega (arith, length-refusal n)

length-verdict : (r : Outcome ℕ) → length (verdict_text r) ≤ longest_result
unfolding verdict_text
length-verdict (Gives n) = omega (arith, length-decimal n)
length-verdict (No n) = omega (arith, length-refusal n)

length_part : (ns : List ℕ) → Below ns → length (part_text ns) ≤ length ns * 11
unfolding part_text
length_part [] h = omega arith
length_part (n ∷ ns) h =
    omega (arith, length-append (decimal n) (numbers_text ns), length_decimal_32 n (h 0), length-numbers ns (λ i. h (suc i)))

-- a chosen part: its serial, and the numbers of at most 1,320 shared numbers
chosen-most : (a : Shape) (first second : List ℕ) (last : ℕ) → choose_no key_count a first second last ≡ 0
    → length (chosen key_count a first second last) ≤ 1 + 1320 * width
unfolding choose_no ask_stocks
chosen-most a first second last e =
    let ready = shape-ready a _ e in
    omega (arith, ((choice key_count a first second last).chose e).size, shared-most a ready.sets ready.most)

length-choose : (a : Shape) (first second : List ℕ) (last : ℕ) → Below first → Below second → length (choose_text a first second last) ≤ longest_result
unfolding choose_text
length-choose a first second last h l = go (eqb (choose_no key_count a first second last) 0) refl
  where
    go : (t : Bool) → eqb (choose_no key_count a first second last) 0 ≡ t
        → length (cond t (part_text (chosen key_count a first second last)) (refusal_text (choose_no key_count a first second last))) ≤ longest_result
    go true e =
        omega (
          arith,
          length_part (chosen key_count a first second last) (chosen-below key_count a first second last h l),
          chosen-most a first second last (eqb-true (choose_no key_count a first second last) 0 e),
        )
    go false e = omega (arith, length-refusal (choose_no key_count a first second last))

-- ---- draws

zeros-below : (n : ℕ) → Below (replicate n 0)
zeros-below n i = rw (get_d_zeros n i) (lit< tt)

length_drew : (d : Drew) → Below d.out → length d.out ≤ most_draw → d.state < too_large → length (drawn_text d) ≤ longest_result
unfolding drawn_text
length_drew d h l s =
    either (eqb d.refused 0) (part_text d.out ++ 32 ∷ decimal d.state) (refusal_text d.refused)
    (omega (arith, length-append (part_text d.out) (32 ∷ decimal d.state), length_part d.out h, length_decimal_32 d.state s))
    (omega (arith, length-refusal d.refused))

-- a refused draw leaves the zeros and the state
length-draw : (state : ℕ) (a : Shape) → state < too_large → length (drawn_text (draw_call key_count state a (replicate (draw_size a) 0))) ≤ longest_result
length-draw state a s = go (eqb (draw_no key_count a zeros) 0) refl
  where
    zeros : List ℕ
    zeros = replicate (draw_size a) 0

    most : length zeros ≤ most_draw
    most = rw (length-replicate {A = ℕ} (draw_size a) 0) (draw-most a)

    go : (t : Bool) → eqb (draw_no key_count a zeros) 0 ≡ t → length (drawn_text (draw_call key_count state a zeros)) ≤ longest_result
    go true e =
        rw (drawn-all key_count state a zeros (eqb-true (draw_no key_count a zeros) 0 e))
        (length_drew _ (λ i. omega (arith, below_at q (outputs q state (length zeros)) i (lit< tt) (outputs_below state (length zeros))))
        (rw (outputs_length q state (length zeros)) most) (inside state (length zeros) s))
    go false e =
        rw (← refusal key_count state a zeros (draw_no key_count a zeros) refl (eqb-false (draw_no key_count a zeros) 0 e))
        (length_drew _ (zeros-below (draw_size a)) most s)

length_seeded : (seed : ℕ) (a : Shape) → seed < too_large → length (draw_text (seed_call seed) a) ≤ longest_result
unfolding seed_call draw_text
length_seeded seed a s = go (record { state = seed }) s (ltb 0 seed)
  where
    go : (generator : Generator) → generator.state < too_large → (t : Bool) → length (draw_text (cond t (Gives generator) (No 16)) a) ≤ longest_result
    go generator l true = length-draw generator.state a l
    go generator l false = omega (arith, length-refusal 16)

-- ---- calls

length_stocks : (a : Shape) (last count : ℕ) (stocks : List ℕ) → Below stocks → length (stocks_text a last count stocks) ≤ longest_result
unfolding stocks_text
length_stocks a last count stocks h =
    either (ltb (length stocks) count) malformed_text (choose_text a (take count stocks) (drop count stocks) last) length-malformed
    (length-choose a (take count stocks) (drop count stocks) last (front_below count stocks h) (behind-below count stocks h))

pub length-call : (call : CallName) (ns : List ℕ) → Below ns → length (call_result call ns) ≤ longest_result
unfolding call_result parts_result verdict_result choose_result draw_result
length-call CallName.Parts ns h =
    let r = parts_call (get_or ns 0 0) (get_or ns 1 0) in
    either (eqb (length ns) 2) (decomposed_text r) malformed_text (length_decomposed r) length-malformed
length-call CallName.BoundVerdict ns h =
    let r = verdict_call (get_or ns 0 0) (get_or ns 1 0) (drop 2 ns) in
    either (ltb (length ns) 2) malformed_text (verdict_text r) length-malformed (length-verdict r)
length-call CallName.Choose ns h =
    let a : Shape = record { set = get_or ns 0 0; kind = get_or ns 1 0; n = get_or ns 2 0 } in
    either (ltb (length ns) 5) malformed_text (stocks_text a (get_or ns 3 0) (get_or ns 4 0) (drop 5 ns)) length-malformed
    (length_stocks a (get_or ns 3 0) (get_or ns 4 0) (drop 5 ns) (behind-below 5 ns h))
length-call CallName.Draw ns h =
    let a : Shape = record { set = get_or ns 1 0; kind = get_or ns 2 0; n = get_or ns 3 0 } in
    either (eqb (length ns) 4) (draw_text (seed_call (get_or ns 0 0)) a) malformed_text (length_seeded (get_or ns 0 0) a (h 0)) length-malformed
