-- A manifest as the code keeps it: the grants by the places of their topics in the text, so that nothing is copied and each question is a comparison of
-- bytes. `read-says` of `proofs/PlacesLaws.antt`: it says what `manifest_of` says.
-- Assumes nothing.
use Rattle.std.specs.Prelude.{true, false, cond, List, [], ◌∷◌, map, ℕ, ◌+◌, ◌-◌, eqb, length, take, drop, replicate}
use Rattle.std.proofs.lemmas.List.Edits.{sets}
use Rattle.le.specs.Splice.{part}
use Rattle.text.specs.Compare.{same_bytes}
use Rattle.text.specs.Lines.{lines, line_at, field}
use Rattle.manifest.specs.declared.grant.Grant.{Grant}
use Rattle.manifest.specs.declared.charge.Charge.TheVariants.{First}
use Rattle.manifest.specs.declared.head.Head.{Head}
use Rattle.manifest.specs.declared.Manifest.{Manifest}
use Rattle.manifest.specs.Words.{out_word}
use Rattle.manifest.specs.Rights.{Right}
use Rattle.manifest.specs.Line.{charge_in, holder_in}
use Rattle.manifest.specs.Charge.{charge_named}
use Rattle.manifest.specs.Head.{modules_of}
use Rattle.manifest.specs.Saying.{good_grants, good_head}

-- room for 64 grants, none of it taken
unfoldable pub no_grants : List Grant
no_grants = replicate 64 (record { holder = 0; out = false; start = 0; len = 0 })

-- the grant of a line that ends at `end` of the text: its topic is the line's last field
unfoldable pub grant_at : ℕ → ℕ → List ℕ → Grant
grant_at modules end line =
    record { holder = holder_in modules line; out = same_bytes (field 2 line) out_word; start = end - length (field 3 line); len = length (field 3 line) }

-- the grants of lines, the first of which starts at `at`; the next starts behind its byte 10
unfoldable pub grants_at : ℕ → ℕ → List (List ℕ) → List Grant
grants_at modules at [] = []
grants_at modules at (l ∷ ls) = grant_at modules (at + length l) l ∷ grants_at modules (at + length l + 1) ls

-- what a bad manifest is read as
unfoldable pub refused : Manifest
refused = record { good = false; head = record { modules = 0; charge = First }; count = 0; grants = no_grants }

-- what lines of grants behind a head are read as, the first of which starts at `at`
unfoldable pub read_lines : Head → ℕ → List (List ℕ) → Manifest
read_lines h at ls =
    cond (good_grants h.modules ls)
    (record { good = true; head = h; count = length ls; grants = sets no_grants 0 (grants_at h.modules at ls) })
    refused

-- where the lines go on behind one of n bytes that starts at `at` and may be left out: it has said 0 where it is another line
unfoldable pub passed : ℕ → ℕ → ℕ → ℕ
passed said at n = cond (eqb said 0) at (at + n + 1)

unfoldable pub onward : (List ℕ → ℕ) → ℕ → List ℕ → ℕ
onward says at text = passed (says (line_at at text)) at (length (line_at at text))

-- what the lines behind line one are read as, the first of which starts at `at`
unfoldable pub read_rest : ℕ → ℕ → List ℕ → Manifest
read_rest modules' at text =
    read_lines (record { modules = modules'; charge = charge_named (charge_in (line_at at text)) }) (onward charge_in at text)
    (lines (drop (onward charge_in at text) text))

-- what a text is read as
unfoldable pub read_of : List ℕ → Manifest
read_of text = cond (good_head text) (read_rest (modules_of text) (length (line_at 0 text) + 1) text) refused

-- what a grant gives, its topic read off the text
unfoldable pub right_at : List ℕ → Grant → Right
right_at text g = record { holder = g.holder; out = g.out; topic = part g.start g.len text }

-- what the grants of a manifest give: the first `count`, of which there are at most the 64 of the array
unfoldable pub rights_of : Manifest → List ℕ → List Right
rights_of m text = map (right_at text) (take m.count m.grants)
