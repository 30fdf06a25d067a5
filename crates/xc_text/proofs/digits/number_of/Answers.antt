use Rattle.std.proofs.Math.Nat.{pow-le-pow_right}
use Rattle.std.proofs.Common.{arith}
use Rattle.xc_text.proofs.digits.number_of.Goals as goal

pub overflow_mul-n : goal.overflow_mul-n
overflow_mul-n c = grind (arith, pow-le-pow_right)

pub overflow_add-n : goal.overflow_add-n
overflow_add-n c = grind (arith, pow-le-pow_right)
