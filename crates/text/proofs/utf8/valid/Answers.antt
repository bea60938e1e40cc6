-- The answers for `text::utf8::valid`.
use mathlib.Core.Path.{sym, ◌∙◌}
use native.Mathlib.Omega.{arith}
use Rattle.text.proofs.Utf8Laws.{ascii-passed, cut_short, not-followed, followed, utf8-end}
use Rattle.text.proofs.utf8.valid.Goals as goal

pub loop-i-smaller-then-b-lt128 : goal.loop-i-smaller-then-b-lt128
loop-i-smaller-then-b-lt128 c = omega (arith, c.past_ascii-i.ensures.0)

pub loop-i-preserved-then-b-lt128 : goal.loop-i-preserved-then-b-lt128
loop-i-preserved-then-b-lt128 c =
    let s = c.args.s.now in
    let l = c.loop-i in
    c.past_ascii-i.ensures.1 ∙ ascii-passed s l.i _ (omega arith) l.invariant (omega arith)

pub returns-then-s-i : goal.returns-then-s-i
returns-then-s-i c =
    let s = c.args.s.now in
    let l = c.loop-i in
    let d = c.first-d.result in
    cut_short s l.i _ (omega arith) l.invariant d.left d.lo d.hi c.first-d.ensures (omega arith)

pub loop-i-preserved : goal.loop-i-preserved
loop-i-preserved c =
    let s = c.args.s.now in
    let l = c.loop-i in
    let d = c.first-d.result in
    followed s l.i _ (omega arith) l.invariant d.left d.lo d.hi c.first-d.ensures (sym c.follows.ensures ∙ c.if-follows.true)

pub returns-else-follows : goal.returns-else-follows
returns-else-follows c =
    let s = c.args.s.now in
    let l = c.loop-i in
    let d = c.first-d.result in
    not-followed s l.i _ (omega arith) l.invariant d.left d.lo d.hi c.first-d.ensures (sym c.follows.ensures ∙ c.if-follows.false)

pub returns : goal.returns
returns c =
    let s = c.args.s.now in
    let l = c.loop-i in
    utf8-end s l.i _ (omega arith) l.invariant
