-- The draw that follows tried keys of the phone: it is possible, opens the same numbers, and leaves the server's book.
use Prim.Native.Nat.{ℕ, zero, suc, ◌*◌, ◌<◌}
use mathlib.Core.Path.{◌≡◌, refl, fun_ext}
use mathlib.Core.List.{List}
use native.Mathlib.Nat.{mod-lt}
use native.Mathlib.Omega.{arith}
use lib.ListN.{get_or}
use Rattle.lists.proofs.Lists.{list_to_cong}
use Rattle.field.specs.Field.{q, sub}
use Rattle.field.proofs.Congruence.{≈_lt}
use Rattle.field.proofs.Solve.{at, ◌⊗◌, ◌⊖◌, red, solve}
use Rattle.settings.specs.declared.Settings.{Settings}
use Rattle.settings.specs.Settings.{Params, Terms, params_in, terms_of}
use Rattle.settings.specs.Sizes.{width_of, shared}
use Rattle.book.specs.Book.{phone_number, book_value}
use Rattle.book.specs.Books.{multipliers, server_number, server_book}
use Rattle.column.specs.Run.{plain_book, plain_start, opened_from, plain_after, plain_opened}
use Rattle.runs.specs.Demands.{Possible}
use Rattle.secrecy.proofs.Parts.{drawn-draw_from, phone-draw_from, draw_from-is}
use Rattle.secrecy.proofs.Moves.{in_order_lem, Good, Same, value_same}
use Rattle.secrecy.proofs.Pairs.{drawn-below, phone_below, good_from}
use Rattle.secrecy.proofs.Shapes.{good, able}
use Rattle.forgery.specs.Runs.{phone_following}
use Rattle.forgery.proofs.Check.{some-q}

-- ---- The plain run looks at the book's values alone

module _ (T : Terms) (width : ℕ) (d d' x : List ℕ) (same : (e : ℕ) → e < shared T.params → book_value T.params width d e ≡ book_value T.params width d' e) where
  book-same : plain_book T width d x ≡ plain_book T width d' x
  unfolding plain_book
  book-same = list_to_cong (shared T.params) _ _ same

  after_same : (rounds : ℕ) → plain_after T width d x rounds ≡ plain_after T width d' x rounds
  unfolding plain_after plain_start opened_from
  after_same zero = rw book-same refl
  after_same (suc rounds) = rw (after_same rounds) refl

  opened-same : plain_opened T width d x ≡ plain_opened T width d' x
  unfolding plain_opened opened_from
  opened-same = fun_ext (λ rounds. rw (after_same rounds) refl)

-- ---- What is missing

-- what is missing to f × v from what is missing is what was there
missing_back : (f v h : ℕ) → h < q → sub q (f * v) (sub q (f * v) h) ≡ h
missing_back f v h l =
    ≈_lt (solve q some-q (red (at f ⊗ at v ⊖ red (at f ⊗ at v ⊖ at h))) (at h) (omega arith)) (mod-lt _ some-q) l

-- ---- The draw

module _ (k : ℕ) (s : Settings) (keys0 keys1 draw : List ℕ) (possible-draw : Possible k s draw) where
  abbrev p : Params
  p = params_in s

  abbrev width : ℕ
  width = width_of k

  abbrev number_of : ℕ → ℕ → ℕ
  number_of e c = server_number p width (multipliers keys0 keys1) draw e c

  ok : Good (terms_of s) width draw
  ok = good k s draw possible-draw

  number-below : (e c : ℕ) → number_of e c < q
  unfolding server_number
  number-below e c = mod-lt _ some-q

  phone_missing : (e c : ℕ) → sub q (get_or (multipliers keys0 keys1) c 0 * book_value p width draw e) (number_of e c) ≡ phone_number p width draw e c
  unfolding server_number
  phone_missing e c =
      missing_back (get_or (multipliers keys0 keys1) c 0) (book_value p width draw e) (phone_number p width draw e c)
      (phone_below (terms_of s) width some-q draw ok e c)

  module _ (tried : List ℕ) where
    abbrev new : List ℕ
    new = phone_following k s keys0 keys1 draw tried

    abbrev factor : ℕ → ℕ
    factor c = get_or (multipliers keys0 tried) c 0

    drawn-same : Same (terms_of s) width new draw
    unfolding phone_following
    drawn-same e h i = drawn-draw_from p width _ _ e h i

    phone_is : (e c : ℕ) → e < shared p → c < width → phone_number p width new e c ≡ sub q (factor c * book_value p width draw e) (number_of e c)
    unfolding phone_following
    phone_is e c h l = phone-draw_from p width _ _ e c h l

    value-is : (e : ℕ) → e < shared p → book_value p width new e ≡ book_value p width draw e
    value-is e h = value_same (terms_of s) width new draw drawn-same e h

    pub possible : Possible k s new
    unfolding phone_following
    possible =
        able k s _ (good_from (terms_of s) width some-q _ _ (drawn-below (terms_of s) width some-q draw ok) (λ e c. mod-lt _ some-q))

    pub numbers-same : (secret : List ℕ) → plain_opened (terms_of s) width new secret ≡ plain_opened (terms_of s) width draw secret
    numbers-same secret = opened-same (terms_of s) width new draw secret value-is

    back_from : (e c number : ℕ) → e < shared p → number < q → phone_number p width new e c ≡ sub q (factor c * book_value p width draw e) number
        → server_number p width (multipliers keys0 tried) new e c ≡ number
    unfolding server_number
    back_from e c number h below i = rw (i, value-is e h) (missing_back (factor c) (book_value p width draw e) number below)

    number_same : (e c : ℕ) → e < shared p → c < width → server_number p width (multipliers keys0 tried) new e c ≡ number_of e c
    number_same e c h l = back_from e c (number_of e c) h (number-below e c) (phone_is e c h l)

    -- what is missing from the server's number is the phone's
    phone-back : (e c : ℕ) → e < shared p → c < width
        → sub q (get_or (multipliers keys0 keys1) c 0 * book_value p width new e) (server_number p width (multipliers keys0 tried) new e c) ≡ phone_number p width draw e c
    phone-back e c h l = rw (number_same e c h l, value-is e h) (phone_missing e c)

    pub server-same : server_book p width (multipliers keys0 tried) new ≡ server_book p width (multipliers keys0 keys1) draw
    unfolding server_book
    server-same = in_order_lem (shared p) width _ _ (omega arith) number_same

    -- the keys dealt, tried in turn, lead back
    pub back : phone_following k s keys0 tried new keys1 ≡ draw
    unfolding phone_following
    back = draw_from-is p width _ _ draw ok.size drawn-same (λ e c h l. phone-back e c h l)

  -- with the keys dealt
  pub as_dealt : phone_following k s keys0 keys1 draw keys1 ≡ draw
  unfolding phone_following
  as_dealt = draw_from-is p width _ _ draw ok.size (λ e h i. refl) (λ e c h l. phone_missing e c)
