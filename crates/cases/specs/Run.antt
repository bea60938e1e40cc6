-- A program's run over its input.
-- Assumes nothing.
use Rattle.std.specs.Prelude.{◌≡◌, ◌≤◌, ◌↔◌, ℕ, List, take, length, Result, IsOk, IsNone, IfErr, Some}
use Rattle.std.specs.Fn.{Mut, CalledWithState}
use Rattle.std.specs.List.{FoldsTo}
use denote.Ref.{Bor, MutBor}
use Rattle.std.specs.declared.io.Error.{Error}
use Rattle.streams.specs.declared.Streams.{Streams}
use Rattle.text.specs.Lines.{lines}

-- one call: the case and the streams before it, the line, and both after it
abbrev pub Called : {F : Type 0} → Mut F (MutBor Streams × (Bor (List ℕ) × Unit {0})) (Unit {0} × (MutBor Streams × Unit {0})) → F × Streams → List ℕ → F × Streams → Type 0
Called g p l q = (x : Bor (List ℕ)) × (x.now ≡ l) × CalledWithState g p.0 p.1 x tt q.0 q.1

-- the case is called with each line of what was read, in turn; what the streams then come to is answered
abbrev pub Runs : {F : Type 0} → Mut F (MutBor Streams × (Bor (List ℕ) × Unit {0})) (Unit {0} × (MutBor Streams × Unit {0})) → F → List ℕ → Result (Unit {0}) Error → Type 0
Runs {F} g case buffer result = (n : ℕ) × (n ≤ length buffer) × (from last : F × Streams) × (from.0 ≡ case) × FoldsTo (Called g) from (lines (take n buffer)) last × (IsOk result ↔ IsNone last.1.failed) × IfErr result (λ e. last.1.failed ≡ Some e)
