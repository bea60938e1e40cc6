-- `value::check::check_decoded` meets its contract: the bytes of a value with no fault lie in memory, so that 32 more is no overflow. Assumes nothing.
use mathlib.Core.Path.{◌≡◌, sym, ap, ◌∙◌}
use Prim.Native.Nat.{◌+◌, ◌≤◌}
use native.Mathlib.Omega.{arith}
use borrow.Author.Rules.{rules}
use lib.ListN.{length}
use Rattle.std.specs.Prelude.{Err}
use Rattle.value.specs.Forms.{checked_of}
use Rattle.value.proofs.FaultLaws.{content-end}
use Rattle.value.proofs.check.check_decoded.Goals as goal

pub returns-in_err-fault_of : goal.returns-in_err-fault_of
unfolding checked_of
returns-in_err-fault_of c =
    let r : c.from_residual.result ≡ Err c.in_err-fault_of.field-0.0 = search rules in
    r ∙ simp (← c.fault_of.ensures, c.in_err-fault_of.was)

pub overflow_add-result : goal.overflow_add-result
overflow_add-result c =
    let s = c.content_span-s.result in
    let e : s.ptr + s.len ≤ length c.args.m.now = rw c.content_span-s.ensures (content-end _ _ (sym c.fault_of.ensures ∙ c.in_ok-fault_of.was)) in
    omega (arith, e)

pub returns : goal.returns
unfolding checked_of
returns c = simp (← c.fault_of.ensures, c.in_ok-fault_of.was, c.content_span-s.ensures)
