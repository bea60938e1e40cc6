-- A line that is cut off behind 65,536 bytes is answered as the whole line is: what is not kept of a line decides nothing.
-- Assumes nothing.
use mathlib.Core.Path.{◌≡◌, refl}
use mathlib.Core.Bool.{false}
use mathlib.Core.List.{List}
use Prim.Native.Nat.{ℕ, ◌+◌, ◌<◌}
use native.Mathlib.Omega.{arith}
use lib.Dec.{leb}
use lib.ListN.{length, take}
use lib.Seq.{take_all, length-take-le}
use borrow.Author.Tests.{leb-true, leb-false, lt-leb}
use Rattle.le.proofs.TestLaws.{Tested, tested, passes, fails}
use Rattle.text.proofs.CompareLaws.{same-length-differs}
use Rattle.script.specs.Words.{go_word}
use Rattle.session.specs.Sessions.{is_go, playing, manifest_line, listing, refused_mount, in_phase, answered}
use Rattle.session.specs.declared.Buffers.{Buffers}
use Rattle.session.specs.declared.Phase.{Phase}
use Rattle.session.specs.declared.Phase.TheVariants.{Listing, Overfull, Playing, Over}
use Rattle.session.specs.declared.Session.{Session}

-- a long line is not `go`
not-go : (line : List ℕ) → 2 < length line → is_go line ≡ false
unfolding go_word
not-go line h = same-length-differs line go_word (λ e. omega arith)

pub cut-same : (s : Session) (b : Buffers) (line : List ℕ) → answered s b (take 65536 line) ≡ answered s b line
unfolding answered in_phase listing manifest_line refused_mount playing
cut-same s b line = go (tested (leb (length line) 65536))
  where
    long : (p : Phase) → 65536 < length line → length (take 65536 line) ≡ 65536 → in_phase p s b (take 65536 line) ≡ in_phase p s b line
    long Listing h e =
        rw
        (not-go (take 65536 line) (omega arith), not-go line (omega arith), lt-leb (s.size + length (take 65536 line)) 65535 (omega arith), lt-leb (s.size + length line) 65535 (omega arith))
    long Overfull h e = rw (not-go (take 65536 line) (omega arith), not-go line (omega arith))
    long Playing h e = rw (lt-leb (length (take 65536 line)) 65535 (omega arith), lt-leb (length line) 65535 (omega arith))
    long Over h e = refl

    go : Tested (leb (length line) 65536) → in_phase s.phase s b (take 65536 line) ≡ in_phase s.phase s b line
    go (passes e) = rw (take_all 65536 line (leb-true (length line) 65536 e))
    go (fails e) =
        let h : 65536 < length line = leb-false (length line) 65536 e in
        long s.phase h (length-take-le 65536 line (omega arith))
