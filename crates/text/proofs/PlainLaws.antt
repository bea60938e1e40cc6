-- Many bytes at once: those below 128 do not change whether a text is UTF-8, and plain ones, from 32 to 126, not whether it has a byte that may not stand there, by
-- either rule.
-- Assumes nothing.
use mathlib.Core.Path.{◌≡◌, refl, sym, subst, ◌∙◌}
use mathlib.Core.Bool.{Bool, true, ◌&&◌}
use mathlib.Core.List.{List}
use Prim.Native.Nat.{ℕ, zero, suc, ◌+◌, ◌*◌, ◌/◌, ◌%◌, ◌^◌, ◌≤◌, ◌<◌}
use native.Mathlib.Nat.{add-zero, add-suc}
use native.Mathlib.Omega.{arith}
use borrow.Author.Tests.{eq-eqb, eqb-true, ne_eqb, le-leb}
use lib.Bits.{bit_and, and_high, and_le_r}
use lib.Pow.{shr_mod}
use lib.Dec.{eqb, leb, leb→le, lit<}
use lib.ListN.{length, get_or, drop}
use Rattle.le.specs.Le.{Bytes, le_at, le_bytes}
use Rattle.le.proofs.LeLaws.{byte-read}
use Rattle.le.proofs.SpliceLaws.{drop_head}
use Rattle.le.proofs.OnceLaws.{ByBytes, passed-byte, same-by-bytes, clear, clear-by-bytes, and_bytes, both-by-bytes}
use Rattle.le.proofs.TestLaws.{and_both}
use Rattle.text.specs.Utf8.{utf8}
use Rattle.text.specs.declared.topic.Rule.{Rule}
use Rattle.text.specs.declared.topic.Rule.TheVariants.{Called, Kept}
use Rattle.text.specs.Topic.{may_stand, no_control}
use Rattle.text.proofs.Table.{each, left, right, implies, implied}
use Rattle.text.proofs.Utf8Laws.{utf8-low}

-- the number of w bytes that are all c
abbrev pub alike : ℕ → ℕ → ℕ
alike zero c = 0
alike (suc w) c = c + 256 * alike w c

-- ---- below 128

abbrev low : ℕ → ℕ → Bool
low b c = clear b 128

abbrev low_word : ℕ → ℕ → ℕ → Bool
low_word w v k = clear v (alike w 128)

low-by-bytes : ByBytes low low_word
low-by-bytes = record { nothing = refl; lowest = λ w b c v k hb hc. clear-by-bytes.lowest w b 128 v (alike w 128) hb (lit< tt) }

low-is : (b : ℕ) → b < 256 → low b 0 ≡ true → b < 128
low-is b h e =
    let z : (b / 2 ^ 7 % 2 ^ 1) * 2 ^ 7 ≡ 0 = sym (and_high b 1 7) ∙ eqb-true (bit_and b 128) 0 e in
    let y = shr_mod {n = b} 1 7 h in
    omega (arith, y)

-- ---- the lower seven bits with c added: the highest bit is then t

abbrev lifted : ℕ → ℕ → ℕ → ℕ → Bool
lifted c t b x = eqb (bit_and (bit_and b 127 + c) 128) t

abbrev lifted-word : ℕ → ℕ → ℕ → ℕ → ℕ → Bool
lifted-word c t w v k = eqb (bit_and (bit_and v (alike w 127) + alike w c) (alike w 128)) (alike w t)

lifted-by-bytes : (c t : ℕ) → c ≤ 128 → t < 256 → ByBytes (lifted c t) (lifted-word c t)
lifted-by-bytes c t hc ht = record { nothing = refl; lowest = λ w b x v k hb hx. go w b v hb }
  where
    go : (w b v : ℕ) → b < 256 → lifted-word c t (suc w) (b + 256 * v) 0 ≡ lifted c t b 0 && lifted-word c t w v 0
    go w b v hb =
        let x = and_bytes b 127 v (alike w 127) hb (lit< tt) in
        let y : bit_and b 127 + 256 * bit_and v (alike w 127) + (c + 256 * alike w c) ≡ (bit_and b 127 + c) + 256 * (bit_and v (alike w 127) + alike w c) = omega arith in
        let z = and_bytes (bit_and b 127 + c) 128 (bit_and v (alike w 127) + alike w c) (alike w 128) (omega (arith, and_le_r b 127)) (lit< tt) in
        rw (x, y, z)
        (same-by-bytes.lowest w (bit_and (bit_and b 127 + c) 128) t (bit_and (bit_and v (alike w 127) + alike w c) (alike w 128)) (alike w t) (omega (arith, and_le_r (bit_and b 127 + c) 128)) ht)

-- ---- from 32 to 126: below 128, and then 96 more has the highest bit, and 1 more has not

abbrev pub Plain : ℕ → Type 0
Plain b = (32 ≤ b) × (b ≤ 126)

abbrev plain : ℕ → ℕ → Bool
plain b x = low b x && (lifted 96 128 b x && lifted 1 0 b x)

abbrev plain_word : ℕ → ℕ → ℕ → Bool
plain_word w v k = low_word w v k && (lifted-word 96 128 w v k && lifted-word 1 0 w v k)

plain-by-bytes : ByBytes plain plain_word
plain-by-bytes = both-by-bytes low-by-bytes (both-by-bytes (lifted-by-bytes 96 128 (omega arith) (lit< tt)) (lifted-by-bytes 1 0 (omega arith) (lit< tt)))

-- antt computes it byte by byte
plain-is : (b : ℕ) → b < 256 → plain b 0 ≡ true → Plain b
plain-is b h e =
    let t = implied (plain b 0) _ e (each (λ k. implies (plain k 0) (leb 32 k && leb k 126)) 256 tt b h) in
    (leb→le 32 b (left (leb 32 b) (leb b 126) t), leb→le b 126 (right (leb 32 b) (leb b 126) t))

-- by either rule it may stand
pub plain-stands : (rule : Rule) (b : ℕ) → Plain b → may_stand rule b ≡ true
plain-stands Kept b p = le-leb 32 b p.0
plain-stands Called b p = rw (le-leb 32 b p.0, ne_eqb b 127 (λ q. absurd (omega arith)))

-- each byte of a number that passes the three tests
pub plain-number : (v : ℕ) → bit_and v 0x8080808080808080 ≡ 0 → bit_and (bit_and v 0x7F7F7F7F7F7F7F7F + 0x6060606060606060) 0x8080808080808080 ≡ 0x8080808080808080
    → eqb (bit_and (bit_and v 0x7F7F7F7F7F7F7F7F + 0x0101010101010101) 0x8080808080808080) 0 ≡ true → (k : ℕ) → k < 8 → Plain (get_or (le_bytes 8 v) k 0)
plain-number v d e f =
    let lower = bit_and v 0x7F7F7F7F7F7F7F7F in
    passed-byte plain plain_word plain-by-bytes Plain plain-is 8 v
    (and_both (clear v 0x8080808080808080) _ (eq-eqb (bit_and v 0x8080808080808080) 0 d)
    (and_both (eqb (bit_and (lower + 0x6060606060606060) 0x8080808080808080) 0x8080808080808080) _
    (eq-eqb (bit_and (lower + 0x6060606060606060) 0x8080808080808080) 0x8080808080808080 e) f))

-- ---- for the loops: `all` is what the whole text gives

-- w steps that change nothing
on : (left : ℕ → Bool) (all : Bool) (w i : ℕ) → ((k : ℕ) → k < w → left (i + k) ≡ left (suc (i + k))) → left i ≡ all → left (i + w) ≡ all
on left all zero i f inv = rw (add-zero i) inv
on left all (suc w) i f inv = rw (add-suc i w) (sym (f w (omega arith)) ∙ on left all w i (λ k q. f k (omega arith)) inv)

module _ (w : ℕ) (s : List ℕ) (i : ℕ) (all : Bool) (l : i + w ≤ length s) where
  utf8-on : ((k : ℕ) → k < w → get_or s (i + k) 0 < 128) → utf8 (drop i s) ≡ all → utf8 (drop (i + w) s) ≡ all
  utf8-on p =
      on (λ j. utf8 (drop j s)) all w i
      (λ k q. rw (drop_head s (i + k) (suc (i + k)) (omega arith) refl, utf8-low (get_or s (i + k) 0) (drop (suc (i + k)) s) (p k q)))

  -- a number that holds the w bytes, and above them y, has only plain bytes
  module _ (h : Bytes s) (m : w ≤ 8) (v y : ℕ) (e : v ≡ le_at w s i + y * 256 ^ w) (p : (k : ℕ) → k < 8 → Plain (get_or (le_bytes 8 v) k 0)) where
    each-plain : (k : ℕ) → k < w → Plain (get_or s (i + k) 0)
    each-plain k q = subst Plain (byte-read w 8 s i y v k h e q m) (p k (omega arith))

    pub utf8-plain : utf8 (drop i s) ≡ all → utf8 (drop (i + w) s) ≡ all
    utf8-plain = utf8-on (λ k q. omega (arith, (each-plain k q).1))

    pub control-plain : (rule : Rule) → no_control rule (drop i s) ≡ all → no_control rule (drop (i + w) s) ≡ all
    unfolding no_control
    control-plain rule =
        on (λ j. no_control rule (drop j s)) all w i
        (λ k q. rw (drop_head s (i + k) (suc (i + k)) (omega arith) refl, plain-stands rule (get_or s (i + k) 0) (each-plain k q)))

-- eight bytes, of which only the highest bits are looked at
pub utf8-eight : (s : List ℕ) (i : ℕ) (all : Bool) → Bytes s → i + 8 ≤ length s → bit_and (le_at 8 s i) 0x8080808080808080 ≡ 0
    → utf8 (drop i s) ≡ all → utf8 (drop (i + 8) s) ≡ all
utf8-eight s i all h l e =
    utf8-on 8 s i all l
    (λ k q. subst (λ (b : ℕ). b < 128) (byte-read 8 8 s i 0 (le_at 8 s i) k h (omega arith) q (omega arith))
    (passed-byte low low_word low-by-bytes (λ b. b < 128) low-is 8 (le_at 8 s i) (eq-eqb (bit_and (le_at 8 s i) 0x8080808080808080) 0 e) k q))
