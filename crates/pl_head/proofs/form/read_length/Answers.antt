use Rattle.std.proofs.Common.{ℕ, ◌<◌, ◌≤◌, ◌^◌, arith}
use Rattle.std.proofs.Math.Nat.{pow-le-pow_right}
use Rattle.pl_head.proofs.form.read_length.Goals as goal

-- fewer than nineteen digits came before
small_power : (k : ℕ) → k < 19 → 10 ^ k ≤ 10 ^ 18
small_power k few = pow-le-pow_right {n = 10} (omega arith) {i = k} {j = 18} (omega arith)

pub overflow_mul-number : goal.overflow_mul-number
overflow_mul-number c = omega (arith, small_power c.loop-digit.digit-index (omega arith))

pub overflow_add-number : goal.overflow_add-number
overflow_add-number c = omega (arith, small_power c.loop-digit.digit-index (omega arith))
