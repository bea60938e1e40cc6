-- A rehearsal, line by line: "Manifest lines run up to `go`", then one line in and its lines out.
-- Assumes nothing.
use Rattle.std.specs.Prelude.{◌≡◌, Bool, true, false, cond, List, [], ◌∷◌, ◌++◌, ℕ, ◌+◌, leb, length, take}
use Rattle.le.specs.Splice.{splice, zeros}
use Rattle.text.specs.Compare.{same_bytes}
use Rattle.text.specs.Lines.{field}
use Rattle.weave.specs.declared.Code.TheVariants.{Bad as BadManifest}
use Rattle.weave.specs.Codes.{is_fine}
use Rattle.weave.specs.Sums.{added}
use Rattle.host.specs.declared.Host.{Host}
use Rattle.host.specs.declared.Mounted.{Mounted}
use Rattle.host.specs.Hosts.{Lent, lent_as, no_host}
use Rattle.mounts.specs.Mount.{mounted, mount_index}
use Rattle.host.specs.Ending.{return_index}
use Rattle.script.specs.Words.{go_word}
use Rattle.script.specs.Forms.{code_of, line_of}
use Rattle.script.specs.Laying.{write_laid, open_laid, next_laid}
use Rattle.script.specs.Saying.{Put, said_bad, said_mount}
use Rattle.session.specs.Calls.{After, begin_after, write_after, open_after, next_after, return_after}
use Rattle.script.specs.declared.forms.Line.{Line}
use Rattle.script.specs.declared.forms.Line.TheVariants.{Begin, Write, Open, Next, Return, Bad}
use Rattle.session.specs.declared.Buffers.{Buffers}
use Rattle.session.specs.declared.Phase.{Phase}
use Rattle.session.specs.declared.Phase.TheVariants.{Listing, Overfull, Playing, Over}
use Rattle.session.specs.declared.Session.{Session}

-- before the first line
unfoldable pub no_bytes : Buffers
no_bytes = record { memory = zeros 65536; staging = zeros 65536; card = zeros 65536; text = zeros 65536; index = zeros 481 }

-- the session and the buffers after a line, and the bytes printed for it
pub record Answered : Type 0 where
  pub next : Session
  pub buffers : Buffers
  pub said : List ℕ

-- s, b and the n bytes that were printed over the buffer o are just that
pub record Answers (a : Answered) (s : Session) (b : Buffers) (o o' : List ℕ) (n : ℕ) : Type 0 where
  pub next : s ≡ a.next
  pub buffers : b ≡ a.buffers
  pub said : Put o o' 0 a.said n

-- ---- the next session

-- "its number": the line's number in the whole input, from 1 (R3)
abbrev pub counted : Session → ℕ
counted s = added s.lines 1 0xFFFF_FFFF_FFFF_FFFF

unfoldable pub became : Session → Phase → ℕ → Host → Session
became s phase' size' host' = record { phase = phase'; lines = counted s; size = size'; host = host' }

-- before the first line
unfoldable pub fresh_session : Session
fresh_session = record { phase = Listing; lines = 0; size = 0; host = no_host }

-- ---- behind `go`

abbrev pub lent_of : Session → Buffers → Lent
lent_of s b = lent_as b.staging b.card (take s.size b.text)

-- "A line of another form prints `bad` and its number .. both end the session"
unfoldable pub bad_answer : Session → Buffers → Answered
bad_answer s b = record { next = became s Over s.size s.host; buffers = b; said = said_bad (counted s) }

-- a line's call, with what it left behind, in the index too
unfoldable pub called : Session → Buffers → After → List ℕ → Answered
called s b a index' =
    record {
      next = became s Playing s.size a.host;
      buffers = record { memory = a.memory; staging = a.staging; card = a.card; text = b.text; index = index' };
      said = a.said;
    }

unfoldable pub played : Session → Buffers → List ℕ → Line → Answered
played s b line (Begin units time) = called s b (begin_after (lent_of s b) s.host b.memory units time.0) b.index
played s b line Write = called s b (write_after (lent_of s b) s.host (write_laid b.memory (field 1 line) (field 2 line))) b.index
played s b line (Open w) = called s b (open_after (lent_of s b) s.host (open_laid b.memory (field 1 line) w)) b.index
played s b line (Next handle cap) = called s b (next_after (lent_of s b) b.index s.host (next_laid b.memory handle cap)) b.index
played s b line Return =
    called s b (return_after (lent_of s b) b.index s.host b.memory (code_of (field 1 line))) (return_index (lent_of s b) b.index s.host (code_of (field 1 line)))
played s b line Bad = bad_answer s b

-- a line that with its byte 10 is longer than a buffer has no form (R16)
unfoldable pub playing : Session → Buffers → List ℕ → Answered
playing s b line = cond (leb (length line) 65535) (played s b line (line_of line)) (bad_answer s b)

-- ---- up to `go`

abbrev pub is_go : List ℕ → Bool
is_go line = same_bytes line go_word

-- "a refused mount `mount` and its code"
unfoldable pub mount_answer : Session → Buffers → Mounted → Answered
mount_answer s b m =
    cond (is_fine m.code)
    (record { next = became s Playing s.size m.host; buffers = b; said = [] })
    (record { next = became s Over s.size s.host; buffers = b; said = said_mount m.code })

-- the buffers after it: an empty card has no entry to set
unfoldable pub with_index : Buffers → List ℕ → Buffers
with_index b index' = record b { index = index' }

-- one more line of the manifest, closed by byte 10 (R4): with that, "manifest at most 65,536" bytes. Of one that is longer the lines are only counted
unfoldable pub manifest_line : Session → Buffers → List ℕ → Answered
manifest_line s b line =
    cond (leb (s.size + length line) 65535)
    (record {
      next = became s Listing (s.size + length line + 1) s.host;
      buffers = record b { text = splice b.text s.size (line ++ (10 ∷ [])) };
      said = [];
    })
    (record { next = became s Overfull s.size s.host; buffers = b; said = [] })

-- a manifest above 65,536 bytes is refused when `go` asks for it (R7)
unfoldable pub refused_mount : Session → Buffers → List ℕ → Answered
refused_mount s b line =
    cond (is_go line)
    (record { next = became s Over s.size s.host; buffers = b; said = said_mount BadManifest })
    (record { next = became s Overfull s.size s.host; buffers = b; said = [] })

-- ---- a line

unfoldable pub listing : Session → Buffers → List ℕ → Answered
listing s b line =
    cond (is_go line) (mount_answer s (with_index b (mount_index (lent_of s b) b.index 0)) (mounted (lent_of s b) b.index 0)) (manifest_line s b line)

unfoldable pub in_phase : Phase → Session → Buffers → List ℕ → Answered
in_phase Listing s b line = listing s b line
in_phase Overfull s b line = refused_mount s b line
in_phase Playing s b line = playing s b line
-- "both end the session": after that no line says anything (R15)
in_phase Over s b line = record { next = s; buffers = b; said = [] }

unfoldable pub answered : Session → Buffers → List ℕ → Answered
answered s b line = in_phase s.phase s b line

-- the end of the input: "Without `go` there is no mount. The program prints `bad` and the number of lines plus 1" (R5)
unfoldable pub end_in : Phase → Session → List ℕ
end_in Listing s = said_bad (counted s)
end_in Overfull s = said_bad (counted s)
end_in Playing s = []
end_in Over s = []

-- nothing more is answered
abbrev pub is_over : Phase → Bool
is_over Listing = false
is_over Overfull = false
is_over Playing = false
is_over Over = true
