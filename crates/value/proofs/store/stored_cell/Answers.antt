-- `value::store::stored_cell` meets its contract: each arm is the definition's. Assumes nothing.
use mathlib.Core.Path.{sym, ap, ◌∙◌}
use Rattle.value.specs.Forms.{cell_of}
use Rattle.value.proofs.store.stored_cell.Goals as goal

pub returns-in-Plain : goal.returns-in-Plain
returns-in-Plain c = c.scalar_cell.ensures ∙ ap (cell_of c.args.flags 32) (sym c.in-Plain.is)

pub returns-in-Text : goal.returns-in-Text
returns-in-Text c = ap (cell_of c.args.flags 32) (sym c.in-Text.is)

pub returns-in-Array : goal.returns-in-Array
returns-in-Array c = ap (cell_of c.args.flags 32) (sym c.in-Array.is)

pub returns-in-Wrong : goal.returns-in-Wrong
returns-in-Wrong c = ap (cell_of c.args.flags 32) (sym c.in-Wrong.is)
