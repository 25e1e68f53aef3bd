-- `re_lower::cholesky::next_band`: there is none, the band stays, or the next one is gathered and solved.
use Prim.Native.Nat.{◌+◌}
use native.Mathlib.Omega.{arith}
use Rattle.storage.specs.Runs.{triangle}
use Rattle.storage.proofs.Starts.{start_le}
use Rattle.re_lower.proofs.Band.{band_ready}
use Rattle.re_lower.proofs.cholesky.next_band.Goals as goal

pub returns-then-x-n : goal.returns-then-x-n
returns-then-x-n c = record { within = omega arith; short = λ h. absurd (omega arith); room = omega arith; ready = λ w h q g i y m o z. absurd (omega arith) }

pub gather-requires : goal.gather-requires
gather-requires c = let a = c.args in let k = c.band_rows-rows in
    (omega arith, c.requires.3, omega arith, omega (arith, start_le triangle (a.r + k.result) a.n (omega arith)))

pub solve_four-requires : goal.solve_four-requires
solve_four-requires c = let a = c.args in
    (omega arith, omega (arith, start_le triangle a.r a.n (omega arith)))

pub returns : goal.returns
returns c = let a = c.args in
    record {
      within = omega arith;
      short = λ h. omega arith;
      room = omega arith;
      ready = λ w h q g. band_ready w a.n h a.t.now a.r (omega arith) q c.gather.new.x c.solve_four.new.x c.band_rows-rows.result c.band_rows-rows.ensures.2 c.gather.ensures c.solve_four.ensures;
    }
