-- `value::form::good_stored` meets its contract: `GoodLaws` has a law for each return. Assumes nothing.
use mathlib.Core.Path.{sym, ap, ◌∙◌}
use Prim.Native.Nat.{ℕ}
use Rattle.std.specs.Prelude.{Result, Ok}
use Rattle.std.specs.Result.{result_unwrap_or}
use Rattle.value.specs.declared.Fault.{Fault}
use Rattle.value.specs.Cells.{same_cell}
use Rattle.value.proofs.GoodLaws.{good-short, good-other, good-differs, good-rest}
use borrow.Author.Rules.{rules}
use Rattle.value.proofs.form.good_stored.Goals as goal

pub returns-then-b-lt-SIZE : goal.returns-then-b-lt-SIZE
returns-then-b-lt-SIZE c = good-short _ c.if-b-lt-SIZE.true

pub returns-in_default : goal.returns-in_default
returns-in_default c =
    good-other _ c.type_inv.b (search rules) _ _ _ c.read_cell-c.ensures c.decode-v.ensures c.check_decoded.ensures (c.in_default.not-Ok _)

pub returns-then-len-b : goal.returns-then-len-b
returns-then-len-b c =
    good-other _ c.type_inv.b (search rules) _ _ _ c.read_cell-c.ensures c.decode-v.ensures c.check_decoded.ensures
    (λ e. c.if-len-b.true (ap (λ (r : Result ℕ Fault). result_unwrap_or r 0) (sym c.in-Ok.is ∙ e)))

pub returns-then-eq : goal.returns-then-eq
unfolding same_cell
returns-then-eq c =
    good-rest _ c.type_inv.b (search rules) _ _ _ c.read_cell-c.ensures c.decode-v.ensures c.check_decoded.ensures _ _
    c.stored_cell-d.ensures c.eq.ensures (c.in-Ok.is ∙ ap (λ (n : ℕ). Ok n) c.if-len-b.false) c.if-eq.true _ c.zero_between.ensures

pub returns-else-eq : goal.returns-else-eq
unfolding same_cell
returns-else-eq c =
    good-differs _ c.type_inv.b (search rules) _ _ _ c.read_cell-c.ensures c.decode-v.ensures c.check_decoded.ensures _ _
    c.stored_cell-d.ensures c.eq.ensures c.if-eq.false
