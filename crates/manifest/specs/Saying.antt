-- 01, "The manifest": what a whole text says. Callers' proofs use the laws of `proofs/SayingLaws.antt`, and not the text.
-- Assumes nothing.
use Rattle.std.specs.Prelude.{Bool, true, false, ◌&&◌, cond, List, [], ◌∷◌, map, ℕ, leb, ltb, length}
use Rattle.text.specs.Lines.{closed}
use Rattle.manifest.specs.declared.charge.Charge.{Charge}
use Rattle.manifest.specs.declared.charge.Charge.TheVariants.{First}
use Rattle.manifest.specs.declared.head.Head.{Head}
use Rattle.manifest.specs.Rights.{Right, granted}
use Rattle.manifest.specs.Line.{holder_in, right_in}
use Rattle.manifest.specs.Charge.{charge_by}
use Rattle.manifest.specs.Head.{modules_of, head_of, grant_lines}

-- nothing, as the manifest is bad; or its head, and what the grants give
pub data Said : Type 0 where
  bad : Said
  good : Head → List Right → Said

-- what callers ask of it
abbrev pub is_good : Said → Bool
is_good bad = false
is_good (good h gs) = true

abbrev pub modules_said : Said → ℕ
modules_said bad = 0
modules_said (good h gs) = h.modules

-- of a bad one the first: check 1 refuses the call, so that nothing is paid by it
abbrev pub charge_said : Said → Charge
charge_said bad = First
charge_said (good h gs) = h.charge

abbrev pub rights_said : Said → List Right
rights_said bad = []
rights_said (good h gs) = gs

-- every line is a grant
unfoldable pub all_grants : ℕ → List (List ℕ) → Bool
all_grants modules [] = true
all_grants modules (l ∷ ls) = ltb 0 (holder_in modules l) && all_grants modules ls

-- "Then 0 to 64 lines": repeats are counted too
unfoldable pub good_grants : ℕ → List (List ℕ) → Bool
good_grants modules ls = leb (length ls) 64 && all_grants modules ls

-- "manifest at most 65,536", "Lines of text, each closed by byte 10", and line one
unfoldable pub good_head : List ℕ → Bool
good_head text = leb (length text) 65536 && (closed text && ltb 0 (modules_of text))

-- what the lines of grants behind a head say with it
unfoldable pub grants_said : Head → List (List ℕ) → Said
grants_said h ls = cond (good_grants h.modules ls) (good h (map (right_in h.modules) ls)) bad

-- what the bytes of a manifest say
unfoldable pub manifest_of : List ℕ → Said
manifest_of text = cond (good_head text) (grants_said (head_of text) (grant_lines text)) bad

-- The charge rule that it names: from a record's length to units.
unfoldable pub charge_of : List ℕ → ℕ → ℕ
charge_of text = charge_by (charge_said (manifest_of text))

-- Whether module k is granted `in` on exactly this topic by the manifest that the text is: no module is by a bad one.
unfoldable pub may_read : List ℕ → ℕ → List ℕ → Bool
may_read text k topic = granted (rights_said (manifest_of text)) k false topic

-- Whether it is granted `out`. A bad manifest leaves the two core topics; check 1 refuses it before anybody asks.
unfoldable pub may_write : List ℕ → ℕ → List ℕ → Bool
may_write text k topic = granted (rights_said (manifest_of text)) k true topic
