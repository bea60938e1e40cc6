-- `weave::Code::reason` meets its contract. Assumes nothing.
use mathlib.Core.Path.{sym, ap}
use mir.Syntax.{w64}
use mir.Val.{of_z}
use Rattle.weave.specs.Codes.{reason_of}
use Rattle.weave.proofs.CodeLaws.{bits_of, reason-other}
use Rattle.weave.proofs.Code.reason.Goals as goal

pub returns-in-0 : goal.returns-in-0
unfolding reason_of
returns-in-0 c = sym (ap reason_of (bits_of c.args.code c.ranges.code 0 c.in-0.in-0-own.keys1))

pub returns-in-1 : goal.returns-in-1
unfolding reason_of
returns-in-1 c = sym (ap reason_of (bits_of c.args.code c.ranges.code 1 c.in-1.in-1-own.keys2))

pub returns-in-minus1 : goal.returns-in-minus1
unfolding reason_of
returns-in-minus1 c = sym (ap reason_of (bits_of c.args.code c.ranges.code 18446744073709551615 c.in-minus1.in-minus1-own.keys3))

pub returns-in-minus2 : goal.returns-in-minus2
unfolding reason_of
returns-in-minus2 c = sym (ap reason_of (bits_of c.args.code c.ranges.code 18446744073709551614 c.in-minus2.in-minus2-own.keys4))

pub returns-in-minus3 : goal.returns-in-minus3
unfolding reason_of
returns-in-minus3 c = sym (ap reason_of (bits_of c.args.code c.ranges.code 18446744073709551613 c.in-minus3.in-minus3-own.keys5))

pub returns-in-minus4 : goal.returns-in-minus4
unfolding reason_of
returns-in-minus4 c = sym (ap reason_of (bits_of c.args.code c.ranges.code 18446744073709551612 c.in-minus4.in-minus4-own.keys6))

pub returns-in-minus5 : goal.returns-in-minus5
unfolding reason_of
returns-in-minus5 c = sym (ap reason_of (bits_of c.args.code c.ranges.code 18446744073709551611 c.in-minus5.in-minus5-own.keys7))

pub returns-in-minus6 : goal.returns-in-minus6
unfolding reason_of
returns-in-minus6 c = sym (ap reason_of (bits_of c.args.code c.ranges.code 18446744073709551610 c.in-minus6.in-minus6-own.keys8))

pub returns-in-minus7 : goal.returns-in-minus7
unfolding reason_of
returns-in-minus7 c = sym (ap reason_of (bits_of c.args.code c.ranges.code 18446744073709551609 c.in-minus7.in-minus7-own.keys9))

pub returns-in_default : goal.returns-in_default
returns-in_default c = reason-other c.args.code (λ e. c.in_default.in_default-own.rest.0.0.0.0.0.0.0.0.1 (ap (of_z w64) e)) (λ e. c.in_default.in_default-own.rest.0.0.0.0.0.0.0.1 (ap (of_z w64) e)) (λ e. c.in_default.in_default-own.rest.0.0.0.0.0.0.1 (ap (of_z w64) e)) (λ e. c.in_default.in_default-own.rest.0.0.0.0.0.1 (ap (of_z w64) e)) (λ e. c.in_default.in_default-own.rest.0.0.0.0.1 (ap (of_z w64) e)) (λ e. c.in_default.in_default-own.rest.0.0.0.1 (ap (of_z w64) e)) (λ e. c.in_default.in_default-own.rest.0.0.1 (ap (of_z w64) e)) (λ e. c.in_default.in_default-own.rest.0.1 (ap (of_z w64) e)) (λ e. c.in_default.in_default-own.rest.1 (ap (of_z w64) e))
