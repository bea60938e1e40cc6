-- `text::flags::good_flags` meets its contract, from the laws that tie masks and the count of ones to the four good numbers. Assumes nothing.
use mathlib.Core.Path.{sym}
use Rattle.text.proofs.FlagLaws.{flags-other, flags-count}
use Rattle.text.proofs.flags.good_flags.Goals as goal

pub returns-then-other-ne0 : goal.returns-then-other-ne0
returns-then-other-ne0 c = sym (flags-other _ c.if-other-ne0.true)

pub returns : goal.returns
returns c = flags-count _ c.ranges.f.fits c.if-other-ne0.false
