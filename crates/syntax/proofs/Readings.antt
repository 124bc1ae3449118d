-- Words taken one by one give the request of all of them.
use Prim.Native.Nat.{ℕ, suc, ◌+◌, ◌-◌, ◌≤◌}
use mathlib.Core.Path.{◌≡◌, refl, sym, ap, ◌∙◌}
use mathlib.Core.Bool.{Bool, true, false, cond}
use mathlib.Core.List.{List, [], ◌∷◌, ◌++◌, append-nil, append_assoc}
use Rattle.std.proofs.Common.{Option, Some, None}
use Rattle.std.specs.Option.{option_map, option_and_then}
use native.Mathlib.Numerals.{add-one}
use native.Mathlib.Omega.{arith}
use lib.Dec.{ltb}
use borrow.Author.Tests.{le-ltb}
use lib.ListN.{length, get_or, set, drop, length-append}
use lib.Seq.{get_or-drop}
use Rattle.lists.specs.Lists.{list_from}
use Rattle.syntax.specs.Rows.{row}
use Rattle.syntax.specs.Line.{field_at, fields_from, values_of, order_of, requested, words, line_of}
use Rattle.syntax.specs.Reading.{start_words, with_word, with_words, finish}
use Rattle.syntax.specs.declared.Request.{Request}
use Rattle.syntax.specs.declared.WordsRead.{WordsRead}
use Rattle.syntax.proofs.Rows.{set-row, get_d_row, row_cong}

abbrev pub reading : ℕ → List ℕ → WordsRead
reading n vs = record { count = n; values = vs }

same_reading : {n m : ℕ} {vs us : List ℕ} → n ≡ m → vs ≡ us → reading n vs ≡ reading m us
same_reading q r = rw (q, r) refl

-- words behind values that are known: the values of all, as far as they are kept
abbrev read_on : (m : ℕ) (vs : List ℕ) → Option (List ℕ) → Option WordsRead
read_on m vs o = option_map (λ (us : List ℕ). reading m (row 11 (vs ++ us))) o

one_more : (n m : ℕ) (vs : List ℕ) (v : ℕ) (o : Option (List ℕ))
    → read_on (n + m) (vs ++ v ∷ []) o ≡ read_on (n + m) vs (option_map (λ (us : List ℕ). v ∷ us) o)
one_more n m vs v None = refl
one_more n m vs v (Some us) = ap Some (same_reading refl (ap (row 11) (append_assoc vs (v ∷ []) us)))

words_on : (vs : List ℕ) (ws : List (List ℕ))
    → with_words (reading (length vs) (row 11 vs)) ws ≡ read_on (length vs + length ws) vs (values_of (fields_from (length vs) ws))
unfolding with_words with_word fields_from values_of
words_on vs [] = ap Some (same_reading (omega arith) (ap (row 11) (sym (append-nil vs))))
words_on vs (w ∷ ws) = go (field_at (length vs) w) (λ us. words_on us ws)
  where
    n : ℕ
    n = length vs

    go : (f : Option ℕ) → ((us : List ℕ) → with_words (reading (length us) (row 11 us)) ws ≡ read_on (length us + length ws) us (values_of (fields_from (length us) ws)))
        → option_and_then (λ (r : WordsRead). with_words r ws) (option_map (λ (v : ℕ). reading (n + 1) (set (row 11 vs) n v)) f)
        ≡ read_on (n + suc (length ws)) vs (option_and_then (λ (v : ℕ). option_map (λ (us : List ℕ). v ∷ us) (values_of (fields_from (suc n) ws))) f)
    go None ih = refl
    go (Some v) ih =
        let us : List ℕ = vs ++ v ∷ [] in
        let l : length us ≡ suc n = length-append vs (v ∷ []) ∙ add-one _ in
        let m : suc n + length ws ≡ n + suc (length ws) = omega arith in
        let s : reading (n + 1) (set (row 11 vs) n v) ≡ reading (length us) (row 11 us) =
        same_reading (sym (length-append vs (v ∷ []))) (set-row 11 vs v) in
        ap (λ r. with_words r ws) s
        ∙ ih us
        ∙ ap (λ (k : ℕ). read_on (k + length ws) us (values_of (fields_from k ws))) l
        ∙ one_more (suc n) (length ws) vs v (values_of (fields_from (suc n) ws))
        ∙ ap (λ (k : ℕ). read_on k vs (option_map (λ (zs : List ℕ). v ∷ zs) (values_of (fields_from (suc n) ws)))) m

-- a request from the eleven values
pub order_is : (n : ℕ) (v : List ℕ)
    → ◌≡◌ {A = Request}
    (record {
      kind = get_or v 0 0;
      set = get_or v 1 0;
      bound = get_or v 2 0;
      count = n - 3;
      numbers = get_or v 3 0 ∷ get_or v 4 0 ∷ get_or v 5 0 ∷ get_or v 6 0 ∷ get_or v 7 0 ∷ get_or v 8 0 ∷ get_or v 9 0 ∷ get_or v 10 0 ∷ [];
    })
    (requested n v)
unfolding requested row list_from
order_is n v = rw (get_or-drop 3 v 0 0, get_or-drop 3 v 1 0, get_or-drop 3 v 2 0, get_or-drop 3 v 3 0, get_or-drop 3 v 4 0, get_or-drop 3 v 5 0, get_or-drop 3 v 6 0, get_or-drop 3 v 7 0) refl

-- a request keeps no more than eleven values
kept : (vs : List ℕ) → row 8 (drop 3 (row 11 vs)) ≡ row 8 (drop 3 vs)
kept vs = row_cong 8 (drop 3 (row 11 vs)) (drop 3 vs) (λ x h. get_or-drop 3 (row 11 vs) x 0 ∙ get_d_row 11 vs (3 + x) (omega (arith, h)) ∙ sym (get_or-drop 3 vs x 0))

ordered_row : (n : ℕ) (vs : List ℕ) → requested n (row 11 vs) ≡ requested n vs
unfolding requested
ordered_row n vs =
    rw (get_d_row 11 vs 0 (omega arith), get_d_row 11 vs 1 (omega arith), get_d_row 11 vs 2 (omega arith), kept vs) refl

start-row : start_words ≡ reading 0 (row 11 [])
unfolding row list_from
start-row = refl

pub read_all : (ws : List (List ℕ)) → option_and_then finish (with_words start_words ws) ≡ order_of ws
unfolding order_of finish
read_all ws = ap (option_and_then finish) (ap (λ r. with_words r ws) start-row ∙ words_on [] ws) ∙ go (values_of (fields_from 0 ws))
  where
    none : (b : Bool) → ◌≡◌ {A = Option Request} None (cond b None None)
    none true = refl
    none false = refl

    go : (o : Option (List ℕ)) → option_and_then finish (read_on (0 + length ws) [] o) ≡ cond (ltb (length ws) 3) None (option_map (requested (length ws)) o)
    go None = none (ltb (length ws) 3)
    go (Some us) = let z : 0 + length ws ≡ length ws = omega arith in rw (z, ordered_row) refl

-- a line of a length that is read
pub line_read : (line : List ℕ) → length line ≤ 1024 → option_and_then finish (with_words start_words (words line)) ≡ line_of line
unfolding line_of
line_read line h = rw (le-ltb 1024 (length line) h) (read_all (words line))

-- ---- the loop over words: behind `count` words with these values, w is the next

module _ (values : List ℕ) (count : ℕ) (w : List ℕ) (ws : List (List ℕ)) (t : Option WordsRead) (e : with_words (reading count values) (w ∷ ws) ≡ t) where
  pub words_more : (v : ℕ) (placed : List ℕ) → Some v ≡ field_at count w → placed ≡ set values count v → with_words (reading (count + 1) placed) ws ≡ t
  unfolding with_words with_word
  words_more v placed p q = rw q (rw (← p) at e)

  pub words_stop : None ≡ field_at count w → None ≡ t
  unfolding with_words with_word
  words_stop p = rw (← p) at e

pub words-done : (s : WordsRead) (t : Option WordsRead) → with_words s [] ≡ t → Some s ≡ t
unfolding with_words
words-done s t e = e
