-- `script::forms::Line::read` meets its contract. Assumes nothing.
use Rattle.script.specs.Forms.{is_write, line_of}
use Rattle.script.specs.Words.{write_word}
use Rattle.script.proofs.forms.Line.read.Goals as goal

pub returns-then-is_begin : goal.returns-then-is_begin
unfolding line_of
returns-then-is_begin c = simp (← c.is_begin.ensures, c.if-is_begin.true, ← c.value_at.ensures, ← c.value_at-then-is_begin.ensures)

pub returns-then-formed : goal.returns-then-formed
unfolding line_of is_write write_word
returns-then-formed c = simp (← c.is_begin.ensures, c.if-is_begin.false, ← c.formed.ensures, c.if-formed.true)

pub returns-then-is_open : goal.returns-then-is_open
unfolding line_of is_write write_word
returns-then-is_open c = simp (← c.is_begin.ensures, c.if-is_begin.false, ← c.formed.ensures, c.if-formed.false, ← c.is_open.ensures, c.if-is_open.true, ← c.value_at-then-is_open.ensures, ← c.value_at-then-is_open-2.ensures, ← c.value_at-then-is_open-3.ensures, ← c.value_at-then-is_open-4.ensures)

pub returns-then-is_next : goal.returns-then-is_next
unfolding line_of is_write write_word
returns-then-is_next c = simp (← c.is_begin.ensures, c.if-is_begin.false, ← c.formed.ensures, c.if-formed.false, ← c.is_open.ensures, c.if-is_open.false, ← c.is_next.ensures, c.if-is_next.true, ← c.value_at-then-is_next.ensures, ← c.value_at-then-is_next-2.ensures)

pub returns-then-is_return : goal.returns-then-is_return
unfolding line_of is_write write_word
returns-then-is_return c = simp (← c.is_begin.ensures, c.if-is_begin.false, ← c.formed.ensures, c.if-formed.false, ← c.is_open.ensures, c.if-is_open.false, ← c.is_next.ensures, c.if-is_next.false, ← c.is_return.ensures, c.if-is_return.true)

pub returns : goal.returns
unfolding line_of is_write write_word
returns c = simp (← c.is_begin.ensures, c.if-is_begin.false, ← c.formed.ensures, c.if-formed.false, ← c.is_open.ensures, c.if-is_open.false, ← c.is_next.ensures, c.if-is_next.false, ← c.is_return.ensures, c.if-is_return.false)
