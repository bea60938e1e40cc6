-- `script::say::Printer::digits` meets its contract. Assumes nothing.
use Rattle.script.proofs.SayLaws.{digits-put, digits-most, put-long}
use mathlib.Core.Path.{refl}
use native.Mathlib.Omega.{arith}
use Rattle.script.proofs.say.Printer.digits.Goals as goal

pub overflow_add-self : goal.overflow_add-self
overflow_add-self c = omega (arith, digits-most c.args.n, c.digit_count.ensures)

pub returns : goal.returns
returns c =
    let put = digits-put _ _ _ _ _ (omega arith) c.digit_count.ensures c.put_number.ensures.bytes in
    record {
      put = record { same = refl; long = put-long _ _ _ _ _ put; put = put };
      upper_bound = omega (arith, digits-most c.args.n, c.digit_count.ensures);
    }
