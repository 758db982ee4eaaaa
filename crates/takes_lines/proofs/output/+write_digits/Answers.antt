-- `takes_lines::output::write_digits` meets its contract. Assumes nothing.
use Rattle.std.proofs.Common.{length, ap, arith}
use Rattle.takes_lines.proofs.WriteWays.{digit-written, digits-written, decimal_one, last-fits, digits-length}
use Rattle.takes_lines.proofs.output.+write_digits.Goals as goal

pub bounds-out-at : goal.bounds-out-at
bounds-out-at t c = omega (arith, ap length (decimal_one c.args.n (omega (arith, c.if-n-lt10.true))))

pub returns-then-n-lt10 : goal.returns-then-n-lt10
returns-then-n-lt10 t c = digit-written c.args.out.now c.args.at c.args.n (omega (arith, c.if-n-lt10.true)) (omega (arith, ap length (decimal_one c.args.n (omega (arith, c.if-n-lt10.true)))))

pub write_digits-last-requires : goal.write_digits-last-requires
write_digits-last-requires t c = (omega arith, omega (arith, last-fits c.args.out.now c.args.at c.args.n (omega (arith, c.if-n-lt10.false)) (omega arith) c.requires))

pub bounds-out-last : goal.bounds-out-last
bounds-out-last t c = digits-length c.args.out.now c.args.at c.args.n c.write_digits-last.result _ (omega (arith, c.if-n-lt10.false)) (omega arith) c.requires c.write_digits-last.ensures

pub overflow_add-result-2 : goal.overflow_add-result-2
overflow_add-result-2 t c = omega (arith, digits-length c.args.out.now c.args.at c.args.n c.write_digits-last.result _ (omega (arith, c.if-n-lt10.false)) (omega arith) c.requires c.write_digits-last.ensures)

pub returns : goal.returns
returns t c = digits-written c.args.out.now c.args.at c.args.n c.write_digits-last.result _ (omega (arith, c.if-n-lt10.false)) (omega arith) c.requires c.write_digits-last.ensures
