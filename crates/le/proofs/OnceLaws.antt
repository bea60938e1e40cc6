-- Many bytes at once: a test of a number is a test of each of its bytes. Over the width, the places and the test: that a byte is 0, that it is another
-- text's, that it is below 128.
-- Assumes nothing.
use mathlib.Core.Path.{◌≡◌, refl, sym, ap, ◌∙◌}
use mathlib.Core.Bool.{Bool, true, ◌&&◌}
use mathlib.Core.List.{List, []}
use lib.Bits.{bit_and, and_block, and_le_l}
use Prim.Native.Nat.{ℕ, zero, suc, ◌+◌, ◌*◌, ◌/◌, ◌%◌, ◌^◌, ◌<◌, suc-le-suc}
use native.Mathlib.Nat.{add-zero, add-suc, suc-add, zero-lt-suc, not-suc-le-zero, le_of_suc-le-suc}
use native.Mathlib.Omega.{arith}
use borrow.Author.Tests.{eq-eqb, ne_eqb, eqb-true, eqb-false}
use lib.Dec.{eqb, lit<}
use lib.ListN.{get_or}
use Rattle.le.specs.Le.{Bytes, le_at, le_bytes}
use Rattle.le.proofs.TestLaws.{Tested, passes, fails, tested, and_left, and_right, and_assoc, and-pairs}

-- `word w` tests numbers of w bytes and `byte` one byte: the number passes where its lowest byte does, and the number of w bytes above it. Each is held
-- against a second one: another text's, a mask's, or one that the test does not look at.
pub record ByBytes (byte : ℕ → ℕ → Bool) (word : ℕ → ℕ → ℕ → Bool) : Type 0 where
  pub nothing : word 0 0 0 ≡ true
  pub lowest : (w b c v k : ℕ) → b < 256 → c < 256 → word (suc w) (b + 256 * v) (c + 256 * k) ≡ byte b c && word w v k

-- each of the w bytes of s from a on passes, held against those of t from b on
unfoldable pub each : (ℕ → ℕ → Bool) → ℕ → List ℕ → ℕ → List ℕ → ℕ → Bool
each byte zero s a t b = true
each byte (suc w) s a t b = byte (get_or s a 0) (get_or t b 0) && each byte w s (suc a) t (suc b)

module _ (byte : ℕ → ℕ → Bool) (s t : List ℕ) where
  -- the test of the j-th byte
  abbrev nth : ℕ → ℕ → ℕ → Bool
  nth a b j = byte (get_or s (a + j) 0) (get_or t (b + j) 0)

  nth-first : (a b : ℕ) → nth a b 0 ≡ byte (get_or s a 0) (get_or t b 0)
  nth-first a b = rw (add-zero a, add-zero b)

  nth-next : (a b j : ℕ) → nth a b (suc j) ≡ nth (suc a) (suc b) j
  nth-next a b j = rw (add-suc a j, add-suc b j, suc-add a j, suc-add b j)

  each-asked : (w a b : ℕ) (left : ℕ → Bool) → ((j : ℕ) → j < w → left j ≡ nth a b j && left (suc j)) → left 0 ≡ each byte w s a t b && left w
  unfolding each
  each-asked zero a b left on = refl
  each-asked (suc w) a b left on =
      on zero (zero-lt-suc w)
      ∙ rw (nth-first a b, each-asked w (suc a) (suc b) (λ j. left (suc j)) (λ j l. on (suc j) (suc-le-suc l) ∙ ap (λ (x : Bool). x && left (suc (suc j))) (nth-next a b j)))
      (sym (and_assoc (byte (get_or s a 0) (get_or t b 0)) (each byte w s (suc a) t (suc b)) (left (suc w))))

module _ (byte : ℕ → ℕ → Bool) (word : ℕ → ℕ → ℕ → Bool) (p : ByBytes byte word) (s t : List ℕ) (hs : Bytes s) (ht : Bytes t) where
  -- The law: a number of w bytes passes just where each of its bytes does.
  pub at_once : (w a b : ℕ) → word w (le_at w s a) (le_at w t b) ≡ each byte w s a t b
  unfolding le_at each
  at_once zero a b = p.nothing
  at_once (suc w) a b =
      p.lowest w (get_or s a 0) (get_or t b 0) (le_at w s (suc a)) (le_at w t (suc b)) (omega (arith, hs a)) (omega (arith, ht b))
      ∙ rw (at_once w (suc a) (suc b))

  -- What loops do with it: where each byte is asked to pass, the number is. `left j` is what the bytes from the j-th on give.
  pub asked-at-once : (w a b : ℕ) (left : ℕ → Bool) → ((j : ℕ) → j < w → left j ≡ byte (get_or s (a + j) 0) (get_or t (b + j) 0) && left (suc j))
      → left 0 ≡ word w (le_at w s a) (le_at w t b) && left w
  asked-at-once w a b left on = each-asked byte s t w a b left on ∙ ap (λ (x : Bool). x && left w) (sym (at_once w a b))

-- of a number that passes, held against 0: what is so of each byte that passes is so of each of its bytes
module _ (byte : ℕ → ℕ → Bool) (word : ℕ → ℕ → ℕ → Bool) (p : ByBytes byte word) (P : ℕ → Type 0) (is : (b : ℕ) → b < 256 → byte b 0 ≡ true → P b) where
  parted : (w v : ℕ) → word (suc w) v 0 ≡ true → byte (v % 256) 0 && word w (v / 256) 0 ≡ true
  parted w v e =
      let x : v % 256 + 256 * (v / 256) ≡ v = omega arith in
      sym (p.lowest w (v % 256) 0 (v / 256) 0 (omega arith) (lit< tt)) ∙ rw x e

  pub passed-byte : (w v : ℕ) → word w v 0 ≡ true → (k : ℕ) → k < w → P (get_or (le_bytes w v) k 0)
  unfolding le_bytes
  passed-byte zero v e k l = absurd (not-suc-le-zero l)
  passed-byte (suc w) v e zero l = is (v % 256) (omega arith) (and_left (byte (v % 256) 0) _ (parted w v e))
  passed-byte (suc w) v e (suc k) l = passed-byte w (v / 256) (and_right (byte (v % 256) 0) _ (parted w v e)) k (le_of_suc-le-suc l)

-- where there is no second text
pub no_bytes : Bytes []
no_bytes i = record { fits = lit< tt }

-- ---- tests that go by bytes

-- two bytes are the same; held against nothing, a byte is 0
abbrev pub same_word : ℕ → ℕ → ℕ → Bool
same_word w v k = eqb v k

pub same-by-bytes : ByBytes eqb same_word
same-by-bytes = record { nothing = refl; lowest = λ w b c v k hb hc. go b c v k hb hc (tested (eqb b c)) (tested (eqb v k)) }
  where
    go : (b c v k : ℕ) → b < 256 → c < 256 → Tested (eqb b c) → Tested (eqb v k) → eqb (b + 256 * v) (c + 256 * k) ≡ eqb b c && eqb v k
    go b c v k hb hc (passes e) (passes f) =
        rw (e, f) (eq-eqb (b + 256 * v) (c + 256 * k) (omega (arith, eqb-true b c e, eqb-true v k f)))
    go b c v k hb hc (passes e) (fails f) =
        rw (e, f) (ne_eqb (b + 256 * v) (c + 256 * k) (λ q. eqb-false v k f (omega arith)))
    go b c v k hb hc (fails e) y =
        rw e (ne_eqb (b + 256 * v) (c + 256 * k) (λ q. eqb-false b c e (omega arith)))

-- a byte has none of a mask's bits: of the mask 128, where it is below 128
abbrev pub clear : ℕ → ℕ → Bool
clear b c = eqb (bit_and b c) 0

abbrev pub clear-word : ℕ → ℕ → ℕ → Bool
clear-word w v k = clear v k

-- the bits of two numbers: those of their lowest bytes, and those above
pub and_bytes : (b c v k : ℕ) → b < 256 → c < 256 → bit_and (b + 256 * v) (c + 256 * k) ≡ bit_and b c + 256 * bit_and v k
and_bytes b c v k hb hc =
    let x : b + 256 * v ≡ v * 2 ^ 8 + b = omega arith in
    let y : c + 256 * k ≡ k * 2 ^ 8 + c = omega arith in
    rw (x, y) (and_block 8 v k b c hb hc ∙ omega arith)

pub clear-by-bytes : ByBytes clear clear-word
clear-by-bytes =
    record { nothing = refl; lowest = λ w b c v k hb hc. rw (and_bytes b c v k hb hc) (same-by-bytes.lowest w (bit_and b c) 0 (bit_and v k) 0 (omega (arith, and_le_l b c)) (lit< tt)) }

-- two tests together
pub both-by-bytes : {byte also : ℕ → ℕ → Bool} {word too : ℕ → ℕ → ℕ → Bool} → ByBytes byte word → ByBytes also too
    → ByBytes (λ b c. byte b c && also b c) (λ w v k. word w v k && too w v k)
both-by-bytes {byte} {also} {word} {too} p q = record {
  nothing = rw (p.nothing, q.nothing);
  lowest = λ w b c v k hb hc. rw (p.lowest w b c v k hb hc, q.lowest w b c v k hb hc) (and-pairs (byte b c) (word w v k) (also b c) (too w v k));
}
