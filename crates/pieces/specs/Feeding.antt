-- Input that comes in pieces, and its lines answered one by one, whatever the pieces are.
-- Assumes nothing.
use Rattle.std.specs.Prelude.{◌≡◌, Bool, true, false, not, ◌&&◌, ◌||◌, cond, List, [], ◌∷◌, ◌++◌, ℕ, ◌-◌, leb, ltb, eqb, length, take}
use Rattle.text.specs.Compare.{prefix_of}
use Rattle.text.specs.Lines.{before}
use Rattle.script.specs.Saying.{Put}
use Rattle.session.specs.declared.Buffers.{Buffers}
use Rattle.session.specs.declared.Session.{Session}
use Rattle.session.specs.Sessions.{Answered, answered, fresh_session, no_bytes, end_in, is_over}
use Rattle.pieces.specs.declared.Play.{Play}

-- what a reading has come to: the session, whether sessions follow one another under names and whether one has been named, the bytes of the line that is
-- under way, and the session's buffers
pub record Stand : Type 0 where
  pub session : Session
  pub many : Bool
  pub named : Bool
  pub held : List ℕ
  pub buffers : Buffers

abbrev pub stand_as : Session → Bool → Bool → List ℕ → Buffers → Stand
stand_as s m n h b = record { session = s; many = m; named = n; held = h; buffers = b }

-- a play, with the line that is under way at the front of its buffer
abbrev pub stand_of : Play → Stand
stand_of p = stand_as p.session p.many p.named (take p.held p.line) p.buffers

-- before the first byte
unfoldable pub fresh_stand : Bool → Stand
fresh_stand m = stand_as fresh_session m false [] no_bytes

-- what some bytes of input do: what the reading comes to, and the bytes printed
pub record Heard : Type 0 where
  pub stand : Stand
  pub said : List ℕ

abbrev pub quiet : Stand → Heard
quiet s = record { stand = s; said = [] }

-- the one, then the other
abbrev pub followed : Heard → Heard → Heard
followed h g = record { stand = g.stand; said = h.said ++ g.said }

-- s and the n bytes that were printed over the buffer o are just that
pub record Hears (h : Heard) (s : Stand) (o o' : List ℕ) (n : ℕ) : Type 0 where
  pub stand : s ≡ h.stand
  pub said : Put o o' 0 h.said n

-- ---- bytes of a line

-- What a line has beyond a buffer is not kept: such a line has no form (`cut-same` of session's proofs: it is answered as the whole of it would be).
unfoldable pub holding : Stand → List ℕ → Stand
holding s l = stand_as s.session s.many s.named (s.held ++ take (65536 - length s.held) l) s.buffers

-- ---- a whole line

-- `== `
unfoldable pub name_mark : List ℕ
name_mark = 61 ∷ 61 ∷ 32 ∷ []

-- Where sessions follow one another, a line of at most 1,024 bytes that begins with `== ` names the next one.
unfoldable pub is_name : Bool → List ℕ → Bool
is_name m line = (m && leb (length line) 1024) && prefix_of name_mark line

-- what the end of a session prints; before the first name there is none
unfoldable pub end_said : Bool → Bool → Session → List ℕ
end_said m n s = cond (m && not n) [] (end_in s.phase s)

-- a name: the session before it ends, the name is printed, and a fresh session begins
unfoldable pub titled : Stand → Heard
titled s =
    record {
      stand = stand_as fresh_session s.many true [] s.buffers;
      said = end_said s.many s.named s.session ++ (s.held ++ (10 ∷ []));
    }

-- any other line is the session's
unfoldable pub spoken : Stand → Answered → Heard
spoken s a = record { stand = stand_as a.next s.many s.named [] a.buffers; said = a.said }

-- the line that is held is whole
unfoldable pub closed : Stand → Heard
closed s = cond (is_name s.many s.held) (titled s) (spoken s (answered s.session s.buffers s.held))

-- ---- the input

-- byte by byte: byte 10 closes the line
unfoldable pub fed : Stand → List ℕ → Heard
fed s [] = quiet s
fed s (b ∷ bs) = cond (eqb b 10) (followed (closed s) (fed (closed s).stand bs)) (fed (holding s (b ∷ [])) bs)

-- piece by piece (`pieces-joined` of proofs/PieceLaws.antt: the same as all of them in one)
unfoldable pub fed_all : Stand → List (List ℕ) → Heard
fed_all s [] = quiet s
fed_all s (p ∷ ps) = followed (fed s p) (fed_all (fed s p).stand ps)

unfoldable pub over : Stand → Heard
over s = record { stand = s; said = end_said s.many s.named s.session }

-- the last line of the input may lack byte 10
unfoldable pub last_line : Stand → Heard
last_line s = cond (ltb 0 (length s.held)) (closed s) (quiet s)

-- the end of the input: its last line, then the session's end
unfoldable pub ended : Stand → Heard
ended s = followed (last_line s) (over (last_line s).stand)

-- a whole input
unfoldable pub heard : Stand → List ℕ → Heard
heard s input = followed (fed s input) (ended (fed s input).stand)

-- the same, line by line (`lines-answered` of proofs/LineLaws.antt)
unfoldable pub line_by_line : Stand → List (List ℕ) → Heard
line_by_line s [] = over s
line_by_line s (l ∷ ls) = followed (closed (holding s l)) (line_by_line (closed (holding s l)).stand ls)

-- ---- one step: the line at the head of the input, or what there is of it

unfoldable pub one_line : Stand → List ℕ → Heard
one_line s x = cond (ltb (length (before 10 x)) (length x)) (closed (holding s (before 10 x))) (quiet (holding s (before 10 x)))

-- ---- what a reading of standard input comes to, whatever it hands over

-- one piece was fed; there is no more where it is empty, or where a session that stands alone is over
pub record Read (s s' : Stand) (stops : Bool) : Type 0 where
  pub piece : List ℕ
  pub stand : s' ≡ (fed s piece).stand
  pub last : stops ≡ (eqb (length piece) 0 || (not s'.many && is_over s'.session.phase))

-- some pieces were fed
pub record ReadAll (s s' : Stand) : Type 0 where
  pub pieces : List (List ℕ)
  pub stand : s' ≡ (fed_all s pieces).stand
