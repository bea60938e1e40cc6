-- One run of two modules, so that no promise holds because nothing happens: what is lent, what is asked, and what is said. Module 1 writes an event, module 2 reads it
-- while it is staged, and it is committed; in the next weave module 1 opens a cursor, is handed the event, is told the end, and closes.
-- Assumes nothing.
use Rattle.std.specs.Prelude.{List, [], ◌∷◌, ◌++◌, ℕ, pos}
use Rattle.le.specs.Le.{le_bytes}
use Rattle.le.specs.Splice.{zeros}
use Rattle.weave.specs.declared.Code.TheVariants.{Fine}
use Rattle.host.specs.declared.Fate.TheVariants.{Running, Committed}
use Rattle.promises.specs.Box.{World, Op, Begin, Write, Read, Open, Next, Close, Return, Said, Answered, Ended, step}

-- what a sequence of calls is told
abbrev pub said_over : World → List Op → List Said
said_over w [] = []
said_over w (o ∷ os) = (step w o).said ∷ said_over (step w o).world os

-- `modules` 2; `grant` 1 `out` t; `grant` 1 `in` t; `grant` 2 `in` t
abbrev pub two_modules : List ℕ
two_modules =
    109 ∷ 111 ∷ 100 ∷ 117 ∷ 108 ∷ 101 ∷ 115 ∷ 9 ∷ 50 ∷ 10
    ∷ 103 ∷ 114 ∷ 97 ∷ 110 ∷ 116 ∷ 9 ∷ 49 ∷ 9 ∷ 111 ∷ 117 ∷ 116 ∷ 9 ∷ 116 ∷ 10
    ∷ 103 ∷ 114 ∷ 97 ∷ 110 ∷ 116 ∷ 9 ∷ 49 ∷ 9 ∷ 105 ∷ 110 ∷ 9 ∷ 116 ∷ 10
    ∷ 103 ∷ 114 ∷ 97 ∷ 110 ∷ 116 ∷ 9 ∷ 50 ∷ 9 ∷ 105 ∷ 110 ∷ 9 ∷ 116 ∷ 10
    ∷ []

-- begin's 128 bytes: a budget of 100 units, time and trace 0
abbrev pub hundred : List ℕ
hundred = zeros 24 ++ (100 ∷ zeros 103)

-- numbers of 8 bytes, one after the other
abbrev pub words : List ℕ → List ℕ
words [] = []
words (n ∷ ns) = le_bytes 8 n ++ words ns

-- the memory of both modules: argument records at 8 (write), 48 (read), 88 (open), 136 (next), 160 (close); the topic `t` at 168; 136 bytes of room at 176
unfoldable pub memory : List ℕ
memory =
    words (0 ∷ 168 ∷ 1 ∷ 0 ∷ 0 ∷ 1 ∷ 168 ∷ 1 ∷ 1 ∷ 176 ∷ 136 ∷ 168 ∷ 1 ∷ 1 ∷ 9 ∷ 9 ∷ 0 ∷ 1 ∷ 176 ∷ 136 ∷ 1 ∷ 116 ∷ []) ++ zeros 136

abbrev pub the_calls : List Op
the_calls =
    Begin hundred ∷ Write memory 8 ∷ Return (pos 0) ∷ Read memory 48 ∷ Return (pos 0)
    ∷ Begin hundred ∷ Open memory 88 ∷ Next memory 136 ∷ Next memory 136 ∷ Close memory 160 ∷ Return (pos 0) ∷ []

abbrev pub the_answers : List Said
the_answers =
    Answered Fine 0 ∷ Answered Fine 0 ∷ Ended Running ∷ Answered Fine 136 ∷ Ended (Committed 1 136)
    ∷ Answered Fine 0 ∷ Answered Fine 1 ∷ Answered Fine 136 ∷ Answered Fine 0 ∷ Answered Fine 0 ∷ Ended Running ∷ []
