-- The facts of an honest run, from ColumnsJoin, the messages' round trip and the books' laws.
use Prim.Native.Nat.{ℕ, zero, suc, ◌+◌, ◌*◌, ◌<◌}
use mathlib.Core.Path.{◌≡◌, refl, sym, ap, ◌∙◌}
use mathlib.Core.List.{List, [], ◌∷◌}
use native.Mathlib.Omega.{arith}
use lib.ListN.{length, get_or, length-append, get_or-append}
use lib.Seq.{get_or-append-add}
use Rattle.lists.specs.Lists.{list_to}
use Rattle.lists.proofs.Every.{all-below}
use Rattle.field.specs.Field.{q}
use Rattle.field.specs.Forms.{Adds}
use Rattle.field.proofs.Forms.{adds-swap}
use Rattle.settings.specs.Sizes.{width_of, openings, shared}
use Rattle.message.specs.Theorems.{RoundTrip}
use Rattle.book.specs.Books.{multipliers}
use Rattle.book.specs.Theorems.{Laws}
use Rattle.slice.specs.Layout.{column, masked_in}
use Rattle.steps.specs.Steps.{public_of}
use Rattle.steps.specs.Work.{opening_on}
use Rattle.column.specs.Run.{opened_from, plain_after, plain_opened}
use Rattle.column.specs.Theorems.{SlicesJoin}
use Rattle.opening.specs.Opening.{part_column}
use Rattle.settings.specs.declared.Settings.{Settings}
use Rattle.settings.specs.Settings.{params_in, terms_of}
use Rattle.runs.specs.Records.{PartyInput, party_input, missing_shares}
use Rattle.runs.specs.Demands.{Fixed, Numbers, Secret, Shares, Possible, observer_input, peer_input}
use Rattle.runs.specs.Progress.{work_at, message_at}
use Rattle.runs.specs.Honest.{SideRuns, Runs}
use Rattle.runs.proofs.Start.{length_missing, below_missing, missing_adds}
use Rattle.runs.proofs.Slices.{Joint, Slices, opening-below, slices}
use Rattle.runs.specs.Messages.{own_number}
use Rattle.runs.proofs.Opens.{Facing, meets}

-- the keys among what the columns add up to
first_keys : (keys0 keys1 : List ℕ) (k i : ℕ) → length keys0 ≡ k → i < k → get_or (multipliers keys0 keys1) (part_column k 0 i) 0 ≡ get_or keys0 i 0
first_keys keys0 keys1 k i e l =
    let z : part_column k 0 i ≡ suc i = omega arith in
    rw z (get_or-append keys0 keys1 0 i (omega arith))

second_keys : (keys0 keys1 : List ℕ) (k i : ℕ) → length keys0 ≡ k → get_or (multipliers keys0 keys1) (part_column k 1 i) 0 ≡ get_or keys1 i 0
second_keys keys0 keys1 k i e =
    let z : part_column k 1 i ≡ suc (length keys0 + i) = omega arith in
    rw z (get_or-append-add keys0 keys1 i 0)

-- opening j of round R + 1 in the plain run
abbrev pub plain_opening : ℕ → Settings → List ℕ → List ℕ → ℕ → ℕ → ℕ
plain_opening k s draw secret R j =
    let work : List ℕ = plain_after (terms_of s) (width_of k) draw secret R in
    opening_on (public_of (terms_of s) (masked_in work)) (suc R) 1 (column work 0) j

module _ (t : SlicesJoin) (b : Laws) (k : ℕ) (s : Settings) (serial : ℕ)
    (keys0 keys1 secret draw in_a in_b : List ℕ) (g : Joint k s serial keys0 keys1 secret draw in_a in_b) where
  abbrev numbers : ℕ → List ℕ
  numbers R = plain_opened (terms_of s) (width_of k) draw secret R

  abbrev A : PartyInput
  A = party_input k s 0 keys0 keys1 draw in_a

  abbrev B : PartyInput
  B = party_input k s 1 keys0 keys1 draw in_b

  abbrev column-at : ℕ → List ℕ
  column-at R = plain_after (terms_of s) (width_of k) draw secret R

  z : Slices k s serial numbers column-at keys0 keys1 A B
  z = slices t b k s serial keys0 keys1 secret draw in_a in_b g

  abbrev plain : ℕ → ℕ → ℕ
  plain R j = plain_opening k s draw secret R j

  -- ColumnsJoin: what the two sides have for an opening
  shares_add : (R c j : ℕ) → c < 1 + 2 * k
      → Adds q (get_or (multipliers keys0 keys1) c 0) (own_number k s serial numbers A R c j) (own_number k s serial numbers B R c j) (plain R j)
  unfolding own_number
  shares_add R c j l =
      rw g.fixed.server_count at
      (t.opening (terms_of s) keys0 keys1 _ _ (column-at R) (omega arith) (g.fixed.server_count ∙ sym g.fixed.phone_count)
      (z.joined R) (suc R) c j (omega (arith, length-append keys0 keys1, g.fixed.server_count, g.fixed.phone_count)))

  opens_plain : (R : ℕ) → numbers R ≡ list_to (openings (params_in s) (suc R)) (plain R)
  unfolding plain_opened opened_from
  opens_plain R = refl

  plain_below : (R j : ℕ) → j < openings (params_in s) (suc R) → plain R j < q
  plain_below R j l =
      opening-below t s (suc R) (1 ∷ []) (column-at R) z.fair_a.most z.fair_a.some (omega (arith, (z.joined R).exact)) (z.plain_low R) 0 j (omega arith) l

  facing_a : Facing k s serial numbers (multipliers keys0 keys1) plain A B
  facing_a =
      record {
        faces = refl;
        observer = z.fair_a;
        peer = z.fair_b;
        adds = shares_add;
        unit = refl;
        keyed = λ i l. first_keys keys0 keys1 k i g.fixed.server_count l;
        opens = opens_plain;
        low = plain_below;
      }

  facing_b : Facing k s serial numbers (multipliers keys0 keys1) plain B A
  facing_b =
      record {
        faces = refl;
        observer = z.fair_b;
        peer = z.fair_a;
        adds = λ R c j l. adds-swap (shares_add R c j l);
        unit = refl;
        keyed = λ i l. second_keys keys0 keys1 k i g.fixed.server_count;
        opens = opens_plain;
        low = plain_below;
      }

  side-runs : RoundTrip → (h o : PartyInput) → Facing k s serial numbers (multipliers keys0 keys1) plain h o → Shares k s h.inputs
      → Numbers (shared (params_in s) * width_of k) h.book → SideRuns k s serial numbers h (message_at k s serial numbers o)
  side-runs m h o v ins bk =
      record {
        exact = λ R l. v.observer.exact R;
        low = λ R l. all-below q (work_at k s serial numbers h R) (v.observer.low R);
        inputs = ins;
        book = bk;
        meets = meets t m k s serial numbers (multipliers keys0 keys1) plain h o g.fixed.settings g.fixed.fits v;
      }

  runs_a : RoundTrip → SideRuns k s serial numbers A (message_at k s serial numbers B)
  runs_a m = side-runs m A B facing_a g.server_ok z.book_a

  runs-b : RoundTrip → SideRuns k s serial numbers B (message_at k s serial numbers A)
  runs-b m = side-runs m B A facing_b g.phone_ok z.book-b

-- the other side's inputs
missing_ok : (k : ℕ) (s : Settings) (factors secret inputs : List ℕ) → Secret s secret → Shares k s (missing_shares (width_of k) factors secret inputs)
missing_ok k s factors secret inputs x =
    record {
      size_is = length_missing (width_of k) factors secret inputs ∙ ap (λ (n : ℕ). n * width_of k) x.size_is;
      below = below_missing (width_of k) factors secret inputs;
    }

-- the own side is the server, or the phone
module _ (k : ℕ) (s : Settings) (serial : ℕ) (keys0 keys1 : List ℕ) (f : Fixed k s serial keys0 keys1)
    (secret inputs draw : List ℕ) (x : Secret s secret) (y : Shares k s inputs) (d : Possible k s draw) where
  abbrev rest : List ℕ
  rest = missing_shares (width_of k) (multipliers keys0 keys1) secret inputs

  rest_adds : (j c : ℕ) → j < s.shape.n → c < width_of k
      → Adds q (get_or (multipliers keys0 keys1) c 0) (get_or inputs (j * width_of k + c) 0) (get_or rest (j * width_of k + c) 0) (get_or secret j 0)
  rest_adds j c h i = missing_adds (width_of k) (multipliers keys0 keys1) secret inputs j c (omega (arith, x.size_is)) i

  server-own : Joint k s serial keys0 keys1 secret draw inputs rest
  server-own =
      record { fixed = f; secret_ok = x; draw_ok = d; server_ok = y; phone_ok = missing_ok k s _ secret inputs x; adds = rest_adds }

  phone-own : Joint k s serial keys0 keys1 secret draw rest inputs
  phone-own =
      record { fixed = f; secret_ok = x; draw_ok = d; server_ok = missing_ok k s _ secret inputs x; phone_ok = y; adds = λ j c h i. adds-swap (rest_adds j c h i) }

pub runs : (k : ℕ) → SlicesJoin → RoundTrip → Laws → Runs k
runs k t m b s serial keys0 keys1 f zero l secret inputs draw x y d =
    let g = server-own k s serial keys0 keys1 f secret inputs draw x y d in
    (runs_a t b k s serial keys0 keys1 secret draw _ _ g m, runs-b t b k s serial keys0 keys1 secret draw _ _ g m)
runs k t m b s serial keys0 keys1 f (suc zero) l secret inputs draw x y d =
    let g = phone-own k s serial keys0 keys1 f secret inputs draw x y d in
    (runs-b t b k s serial keys0 keys1 secret draw _ _ g m, runs_a t b k s serial keys0 keys1 secret draw _ _ g m)
runs k t m b s serial keys0 keys1 f (suc (suc number)) l secret inputs draw x y d = absurd (omega arith)

-- what a side faces
pub facing : (k : ℕ) → SlicesJoin → Laws
    → (s : Settings) (serial : ℕ) (keys0 keys1 : List ℕ) → Fixed k s serial keys0 keys1
    → (number : ℕ) → number < 2
    → (secret inputs draw : List ℕ) → Secret s secret → Shares k s inputs → Possible k s draw
    → Facing k s serial (plain_opened (terms_of s) (width_of k) draw secret) (multipliers keys0 keys1)
    (plain_opening k s draw secret) (observer_input k s number keys0 keys1 inputs draw) (peer_input k s number keys0 keys1 inputs secret draw)
facing k t b s serial keys0 keys1 f zero l secret inputs draw x y d =
    facing_a t b k s serial keys0 keys1 secret draw _ _ (server-own k s serial keys0 keys1 f secret inputs draw x y d)
facing k t b s serial keys0 keys1 f (suc zero) l secret inputs draw x y d =
    facing_b t b k s serial keys0 keys1 secret draw _ _ (phone-own k s serial keys0 keys1 f secret inputs draw x y d)
facing k t b s serial keys0 keys1 f (suc (suc number)) l secret inputs draw x y d = absurd (omega arith)
