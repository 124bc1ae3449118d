-- The lines of a page put one behind another, and how long a page is.
use Prim.Native.Nat.{ℕ, zero, suc, ◌+◌, ◌≤◌, ◌<◌}
use mathlib.Core.Path.{◌≡◌, refl, sym, ap, ◌∙◌}
use mathlib.Core.Bool.{cond}
use mathlib.Core.List.{List, [], ◌∷◌, ◌++◌, append_assoc, append-nil}
use native.Mathlib.Omega.{arith}
use native.Mathlib.Decide.{dec_lt}
use lib.Dec.{ltb}
use lib.ListN.{length, get_or, take}
use lib.Seq.{length-take-le}
use Rattle.std.proofs.lemmas.List.{take_more}
use borrow.Author.Tests.{leb-true, lt-ltb, le-ltb}
use Rattle.lists.specs.Lists.{list_from}
use Rattle.text.specs.declared.TextBuffer.{TextBuffer}
use Rattle.text.specs.Text.{text_at, puts, Puts, decimal, decimal_in}
use Rattle.text.specs.Decimal.{number_in}
use Rattle.std.proofs.Common.{Option, Some, None}
use Rattle.std.specs.Option.{option_map_or}
use Rattle.text.proofs.Puts.{puts_then, front-put, within-put}
use Rattle.settings.specs.Sets.{top, top_digits}
use Rattle.top_digits.specs.Page.{head_text, entry_line, entry_lines, page_text, refusal_line, page_for, page_length}

-- ---- the loop over the list

entries-push : (i : ℕ) (ts : List ℕ) (t : ℕ) → entry_lines i (ts ++ t ∷ []) ≡ entry_lines i ts ++ entry_line (i + length ts) t
unfolding entry_lines
entries-push i [] t = let e : i + 0 ≡ i = omega arith in rw e (append-nil (entry_line i t))
entries-push i (u ∷ ts) t =
    let e : suc i + length ts ≡ i + suc (length ts) = omega arith in
    ap (λ (r : List ℕ). entry_line i u ++ r) (rw e at (entries-push (suc i) ts t)) ∙ sym (append_assoc (entry_line i u) (entry_lines (suc i) ts) _)

pub entries-more : {s a b : TextBuffer} (list : List ℕ) (d : ℕ) → d < length list → Puts s a (entry_lines 0 (take d list)) → Puts a b (entry_line d (get_or list d 0))
    → Puts s b (entry_lines 0 (take (d + 1) list))
entries-more list d h p q =
    let l : 0 + length (take d list) ≡ d = omega (arith, length-take-le d list (omega arith)) in
    rw (take_more list d 0 h, entries-push, l) (puts_then (entry_lines 0 (take d list)) (entry_line d (get_or list d 0)) p q)

-- ---- lengths, computed

page_most : (set : ℕ) → set < 2 → length (page_text set) ≤ page_length
unfolding page_text head_text entry_lines entry_line decimal decimal_in top_digits list_from top
page_most zero h = leb-true _ _ refl
page_most (suc zero) h = leb-true _ _ refl
page_most (suc (suc set)) h = absurd (omega arith)

pub page_fits : (word : List ℕ) → length (page_for word) ≤ page_length
unfolding page_for refusal_line decimal decimal_in
page_fits word = go (number_in word)
  where
    one : (set : ℕ) → Dec (set < 2) → length (cond (ltb set 2) (page_text set) (refusal_line 1)) ≤ page_length
    one set (yes h) = rw (lt-ltb set 2 h) (page_most set h)
    one set (no h) = rw (le-ltb set 2 (omega (arith, h))) (leb-true _ _ refl)

    go : (o : Option ℕ) → length (option_map_or (λ (set : ℕ). cond (ltb set 2) (page_text set) (refusal_line 1)) o (refusal_line 12)) ≤ page_length
    go None = leb-true _ _ refl
    go (Some set) = one set (dec_lt set 2)

-- ---- a word by its number

pub page_malformed : (word : List ℕ) → None ≡ number_in word → page_for word ≡ refusal_line 12
unfolding page_for
page_malformed word e = rw (← e)

module _ (word : List ℕ) (set : ℕ) (e : Some set ≡ number_in word) where
  pub page_refused : 2 ≤ set → page_for word ≡ refusal_line 1
  unfolding page_for
  page_refused h = rw (← e, le-ltb set 2 h)

  pub page_printed : set < 2 → page_for word ≡ page_text set
  unfolding page_for
  page_printed h = rw (← e, lt-ltb set 2 h)

-- the page stands in front of a slice that is long enough
pub in-front : (word out now : List ℕ) (r : ℕ) → page_length ≤ length out → text_at now r ≡ puts (text_at out 0) (page_for word)
    → (take r now ≡ page_for word) × (r ≤ length now)
in-front word out now r room p =
    let fits : length (page_for word) ≤ page_length = page_fits word in
    (front-put out 0 (page_for word) now r p (omega arith), within-put out 0 (page_for word) now r p (omega arith))
