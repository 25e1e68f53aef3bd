-- `load_numbers::sheet_words::last_runs`: three runs, counted as one.
use Prim.Native.Nat.{ℕ}
use mathlib.Core.Path.{sym, subst}
use native.Mathlib.Omega.{arith}
use Rattle.load_numbers.specs.declared.word_address.Run.TheVariants.{Xx, Xy}
use Rattle.load_numbers.specs.word_address.Spread.{line_of, EachLine, FiniteWord}
use Rattle.sheet_checks.proofs.levels.Counting.{product_of}
use Rattle.load_numbers.proofs.sheet_words.Loads.{few_p, xx_count, xx_lines, xy_count, xy_lines, yy_lines, last_made}
use Rattle.load_numbers.proofs.sheet_words.last_runs.Goals as goal

pub overflow_add-triangle : goal.overflow_add-triangle
overflow_add-triangle c = let a = c.args in let r = c.requires in
    omega (arith, few_p a.bytes.now a.starts a.map.now.layout r)

pub overflow_mul-triangle : goal.overflow_mul-triangle
overflow_mul-triangle c = let a = c.args in let r = c.requires in
    omega (arith, product_of a.map.now.layout.p (few_p a.bytes.now a.starts a.map.now.layout r))

pub scatter-requires : goal.scatter-requires
scatter-requires c = let a = c.args in let r = c.requires in (
  omega (arith, product_of a.map.now.layout.p (few_p a.bytes.now a.starts a.map.now.layout r)),
  subst (λ (n : ℕ). EachLine FiniteWord (line_of Xx a.bytes.now) n a.starts.xx) (sym (xx_count a.bytes.now a.starts a.map.now.layout r)) (xx_lines a.bytes.now a.starts a.map.now.layout r),
)

pub scatter-requires-2 : goal.scatter-requires-2
scatter-requires-2 c = let a = c.args in let r = c.requires in (
  omega (arith, few_p a.bytes.now a.starts a.map.now.layout r, product_of a.map.now.layout.p (few_p a.bytes.now a.starts a.map.now.layout r)),
  subst (λ (n : ℕ). EachLine FiniteWord (line_of Xy a.bytes.now) n a.starts.xy) (sym (xy_count a.bytes.now a.starts a.map.now.layout r)) (xy_lines a.bytes.now a.starts a.map.now.layout r),
)

pub overflow_add-triangle-2 : goal.overflow_add-triangle-2
overflow_add-triangle-2 c = let a = c.args in let r = c.requires in
    omega (arith, few_p a.bytes.now a.starts a.map.now.layout r, product_of a.map.now.layout.p (few_p a.bytes.now a.starts a.map.now.layout r))

pub scatter-requires-3 : goal.scatter-requires-3
scatter-requires-3 c = let a = c.args in let r = c.requires in (
  omega (arith, few_p a.bytes.now a.starts a.map.now.layout r, product_of a.map.now.layout.p (few_p a.bytes.now a.starts a.map.now.layout r)),
  yy_lines a.bytes.now a.starts a.map.now.layout r,
)

pub returns : goal.returns
returns c = let a = c.args in
    last_made a.bytes.now a.starts a.map.now.layout c.requires a.doubles.now _ _ _ c.scatter.ensures c.scatter-2.ensures c.scatter-3.ensures
