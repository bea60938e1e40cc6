-- The laws of `field_sum`: a turn of the loop, and its end.
-- Assumes nothing.
use Rattle.std.proofs.Common.{◌≡◌, ℕ, suc, ◌+◌, ◌-◌, ◌*◌, ◌%◌, ◌^◌, ◌<◌, ◌≤◌, List, arith}
use Rattle.le.specs.Le.{le_at}
use Rattle.gauge.specs.Fields.{field_sum}

-- pair i read and added
pub sum-turn : (s : List ℕ) (n i sum a b x y t : ℕ) → i < n → a ≡ le_at 4 s (12 * i) → b ≡ le_at 8 s (12 * i + 4) → x ≡ (sum + a) % 2 ^ 64 → y ≡ (x + b) % 2 ^ 64
    → field_sum (n - i) s (12 * i) sum ≡ t → field_sum (n - (i + 1)) s (12 * (i + 1)) y ≡ t
unfolding field_sum
sum-turn s n i sum a b x y t p ea eb ex ey e =
    let el : n - i ≡ suc (n - (i + 1)) = omega arith in
    let ep : 12 * (i + 1) ≡ 12 * i + 12 = omega arith in
    rw (ep, ey, ex, ea, eb) (rw el at e)

-- nothing left
pub sum-end : (s : List ℕ) (n i at sum t : ℕ) → n ≤ i → field_sum (n - i) s at sum ≡ t → sum ≡ t
unfolding field_sum
sum-end s n i at sum t z e = let el : n - i ≡ 0 = omega arith in rw el at e
