-- 01, "Cases at the edges", and 02's, as one table. `edges-hold` of proofs/EdgesHold.antt proves it under one claim.
-- Assumes nothing.
use Rattle.std.specs.Prelude.{◌≡◌, Bool, true, false, List, [], ◌∷◌, ◌++◌, ℕ, ◌+◌, ◌/◌, ◌≤◌, ℤ, pos, length}
use Rattle.le.specs.Splice.{zeros}
use Rattle.text.specs.Utf8.{utf8}
use Rattle.text.specs.Topic.{good_topic, good_filter, card_topic}
use Rattle.text.specs.Span.{inside}
use Rattle.text.specs.Sizes.{total_len}
use Rattle.text.specs.Flags.{good_flags}
use Rattle.value.specs.Cells.{cell_bytes}
use Rattle.value.specs.Scalars.{canonical}
use Rattle.value.specs.Forms.{payload}
use Rattle.manifest.specs.declared.charge.Charge.{Charge}
use Rattle.manifest.specs.declared.charge.Charge.TheVariants.{First, Second}
use Rattle.manifest.specs.Charge.{charge_by}
use Rattle.card.specs.Pick.{All}
use Rattle.card.specs.declared.Cursor.{Cursor}
use Rattle.weave.specs.declared.Code.{Code}
use Rattle.weave.specs.declared.Code.TheVariants.{NoRoom, Bad}
use Rattle.weave.specs.declared.Spoiled.TheVariants.{Not}
use Rattle.weave.specs.Codes.{number}
use Rattle.weave.specs.Moves.{cursor_of}
use Rattle.weave.specs.Args.{next_args}
use Rattle.host.specs.declared.Fate.TheVariants.{Discarded}
use Rattle.promises.specs.Box.{World, Indexed, Next, Return, Ended, step, said_number}
use Rattle.promises.specs.Checks.{Passed, check_at, index_asks, gate, next_first}
use Rattle.promises.specs.Outcome.{Returns}
use Rattle.promises.specs.Turn.{list_left}

-- a case: what is asked, and the answer last
pub data Case : Type 0 where
  total : ℕ → ℕ → ℕ → Case
  stored : List ℕ → ℕ → ℕ → Case
  flags : ℕ → Bool → Case
  span : ℕ → ℕ → ℕ → Bool → Case
  float : ℕ → ℕ → Case
  topic : List ℕ → Bool → Case
  filter : List ℕ → Bool → Case
  kept : List ℕ → Bool → Case
  text : List ℕ → Bool → Case
  window : ℕ → ℕ → ℕ → ℤ → Case
  two_left : ℕ → ℤ → Case
  returned : ℤ → Code → Case
  costs : Charge → ℕ → ℕ → Case

-- a next that passes its checks before it looks at the card, and could pay for n bytes
pub record Ready (w : World) (m : List ℕ) (a n : ℕ) : Type 0 where
  pub passed : All Passed (check_at (index_asks w) 254 ∷ (gate w m ++ next_first w m a))
  pub budget : w.host.weave.units + (1 + n / 8) ≤ w.host.weave.resmax

-- the cursor that it asks for
abbrev pub cursor_at : World → List ℕ → ℕ → Cursor
cursor_at w m a = cursor_of w.host.weave (next_args m a).handle

-- what a case says: the total_len of a topic and a payload of these lengths; the data_len of the value at p of memory m; good flags; a span inside; a
-- float's bits as they are stored (`float-canonical` of value's proofs/ScalarLaws.antt ties `canonical` to the code's float); a good topic, a good filter, a topic
-- that a card may keep; UTF-8; whatever the box, with a damaged card too, what a next answers whose cursor has this window and limit, and, on a sound card, one into so many bytes where two records of 152 are left; and what becomes of a weave that is
-- not spoiled by a return with this code; what a write costs by an edition of the charge rule, by the length of its record
abbrev pub Holds : Case → Type 0
Holds (total t d n) = total_len t d ≡ n
Holds (stored m p n) = length (payload m p) ≡ n
Holds (flags f b) = good_flags f ≡ b
Holds (span ptr len m b) = inside ptr len m ≡ b
Holds (float x n) = canonical x ≡ n
Holds (topic s b) = good_topic s ≡ b
Holds (filter s b) = good_filter s ≡ b
Holds (kept s b) = card_topic s ≡ b
Holds (text s b) = utf8 s ≡ b
Holds (window from to limit z) =
    (w : World) (m : List ℕ) (a : ℕ) → Ready w m a 0 → (cursor_at w m a).from.0 ≡ from → (cursor_at w m a).to.0 ≡ to → (cursor_at w m a).limit ≡ limit
    → said_number (step w (Next m a)).said ≡ z
Holds (two_left cap z) =
    (w : World) (m : List ℕ) (a : ℕ) (r s : List ℕ) → Ready w m a 304 → Indexed w → (next_args m a).out.len ≡ cap → list_left w (next_args m a).handle ≡ r ∷ s ∷ []
    → length r ≡ 152 → length s ≡ 152 → said_number (step w (Next m a)).said ≡ z
Holds (costs c t n) = charge_by c t ≡ n
Holds (returned code c) = (w : World) → Returns w → w.host.weave.spoiled.0 ≡ Not → (step w (Return code)).said ≡ Ended (Discarded c)

-- a memory with a string at 8, and the string's 3 bytes, `abc`, behind its 32
abbrev string3 : List ℕ
string3 = zeros 8 ++ (cell_bytes (record { kind = 5; flags = 0; first = 40; second = 3 }) ++ (97 ∷ 98 ∷ 99 ∷ []))

unfoldable pub edges : List Case
edges =
    -- P1: topic 9, raw 5: total 152
    total 9 5 152
    -- P2: topic 1, raw 0: total 136
    ∷ total 1 0 136
    -- P3: topic 8, string 3: data_len 35, total 176
    ∷ stored string3 8 35 ∷ total 8 35 176
    -- P4: flags 0, 3, 5 refused; 9 accepted
    ∷ flags 0 false ∷ flags 3 false ∷ flags 5 false ∷ flags 9 true
    -- P5: memory 65,536: (65,536, 0) and (65,528, 8) inside, (65,529, 8) not
    ∷ span 65536 0 65536 true ∷ span 65528 8 65536 true ∷ span 65529 8 65536 false
    -- P6: (0, 0) inside, (0, 1) not
    ∷ span 0 0 65536 true ∷ span 0 1 65536 false
    -- P7: 0xFFF0000000000001 stored canonical; 0x7FF0000000000000 kept
    ∷ float 0xFFF0_0000_0000_0001 0x7FF8_0000_0000_0000 ∷ float 0x7FF0_0000_0000_0000 0x7FF0_0000_0000_0000
    -- P8: topic byte 31 refused, 32 accepted
    ∷ topic (31 ∷ []) false ∷ topic (32 ∷ []) true
    -- P9: C0 80, ED A0 80, F4 90 80 80 not UTF-8; F4 8F BF BF is
    ∷ text (0xC0 ∷ 0x80 ∷ []) false
    ∷ text (0xED ∷ 0xA0 ∷ 0x80 ∷ []) false
    ∷ text (0xF4 ∷ 0x90 ∷ 0x80 ∷ 0x80 ∷ []) false
    ∷ text (0xF4 ∷ 0x8F ∷ 0xBF ∷ 0xBF ∷ []) true
    -- P10: window 5 to 5, or limit 0: first next answers 0
    ∷ window 5 5 9 (pos 0) ∷ window 1 9 0 (pos 0)
    -- P11: two records of 152: cap 151 gives -4, 303 one, 304 two
    ∷ two_left 151 (number NoRoom) ∷ two_left 303 (pos 152) ∷ two_left 304 (pos 304)
    -- P12: return 2: discard -5
    ∷ returned (pos 2) Bad
    -- 02, A2: byte 127 refused, 126 accepted, and C2 80, which is not ASCII; on a card 127 too
    ∷ topic (126 ∷ []) true ∷ topic (127 ∷ []) false ∷ topic (0xC2 ∷ 0x80 ∷ []) true
    ∷ filter (126 ∷ []) true ∷ filter (127 ∷ []) false ∷ filter (0xC2 ∷ 0x80 ∷ []) true
    ∷ kept (31 ∷ []) false ∷ kept (126 ∷ []) true ∷ kept (127 ∷ []) true ∷ kept (0xC2 ∷ 0x80 ∷ []) true
    -- 02, A11: a record of 192 bytes, three times 64, costs 25 by the first edition and 7 by the second; one of 200 costs 26 and 8
    ∷ costs First 192 25 ∷ costs Second 192 7 ∷ costs First 200 26 ∷ costs Second 200 8
    ∷ []
