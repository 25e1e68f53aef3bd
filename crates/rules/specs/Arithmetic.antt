-- The operations that the rules are written with, so that the same rules can be read over IEEE 754 doubles and over an exact arithmetic.
use Rattle.std.specs.Prelude.{ℕ, Bool, pos, Float}
use Rattle.std.specs.Float.Ieee as Ieee
use Rattle.std.specs.Float.{binary64}
use Rattle.square_root.specs.Root.{sqrt_of}
use Rattle.logarithm.specs.Ln.{ln_of}

pub record Arithmetic : Type 1 where
  pub Num : Type 0
  pub zero : Num
  pub one : Num
  pub two : Num
  -- 2π
  pub tau : Num
  -- a whole number
  pub whole : ℕ → Num
  pub plus : Num → Num → Num
  pub minus : Num → Num → Num
  pub times : Num → Num → Num
  pub over : Num → Num → Num
  pub root : Num → Num
  pub log : Num → Num
  -- at most 0: a pivot that is refused. NaN is not.
  pub refused : Num → Bool
  -- above 0. NaN is not.
  pub above : Num → Bool
  -- equal to 0, of either sign
  pub null : Num → Bool

-- IEEE 754 doubles, each operation rounded to nearest, none fused. 2π is the double 401921fb54442d18.
abbrev pub ieee : Arithmetic
ieee =
    record {
      Num = Float;
      zero = Ieee.of_bits binary64 0;
      one = Ieee.of_bits binary64 0x3ff0000000000000;
      two = Ieee.of_bits binary64 0x4000000000000000;
      tau = Ieee.of_bits binary64 0x401921fb54442d18;
      whole = λ n. Ieee.of_int binary64 (pos n);
      plus = Ieee.add binary64;
      minus = Ieee.sub binary64;
      times = Ieee.mul binary64;
      over = Ieee.div binary64;
      root = sqrt_of;
      log = ln_of;
      refused = λ x. Ieee.le x (Ieee.of_bits binary64 0);
      above = λ x. Ieee.lt (Ieee.of_bits binary64 0) x;
      null = λ x. Ieee.eq x (Ieee.of_bits binary64 0);
    }
