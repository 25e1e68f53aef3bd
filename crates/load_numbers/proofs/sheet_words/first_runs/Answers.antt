-- `load_numbers::sheet_words::first_runs`: three runs, one after the other.
use Prim.Native.Nat.{ℕ}
use mathlib.Core.Path.{sym, subst}
use native.Mathlib.Omega.{arith}
use Rattle.load_numbers.specs.declared.word_address.Run.TheVariants.{Zz, Zx, Zy}
use Rattle.load_numbers.specs.word_address.Spread.{line_of, EachLine, FiniteWord}
use Rattle.sheet_checks.proofs.levels.Counting.{grid_of}
use Rattle.load_numbers.proofs.sheet_words.Loads.{few_q, few_p, zz_few, zz_lines, zx_count, zx_lines, zy_count, zy_lines, first_made}
use Rattle.load_numbers.proofs.sheet_words.first_runs.Goals as goal

pub entries-requires : goal.entries-requires
entries-requires c = let r = c.requires in ((c.args.bytes).now, (r.0, r.1))

pub scatter-requires : goal.scatter-requires
scatter-requires c = let a = c.args in let r = c.requires in
    let count = c.entries.ensures.0 a.bytes.now r.0 r.1 in (
      omega (arith, zz_few a.bytes.now a.starts a.map.now.layout r, count),
      subst (λ (n : ℕ). EachLine FiniteWord (line_of Zz a.bytes.now) n a.starts.zz) (sym count) (zz_lines a.bytes.now a.starts a.map.now.layout r),
    )

pub overflow_mul-map : goal.overflow_mul-map
overflow_mul-map c = let a = c.args in
    let r = c.requires in omega (arith, grid_of a.map.now.layout.q a.map.now.layout.p (few_q a.bytes.now a.starts a.map.now.layout r) (few_p a.bytes.now a.starts a.map.now.layout r))

pub scatter-requires-2 : goal.scatter-requires-2
scatter-requires-2 c = let a = c.args in let r = c.requires in (
  omega (arith, grid_of a.map.now.layout.q a.map.now.layout.p (few_q a.bytes.now a.starts a.map.now.layout r) (few_p a.bytes.now a.starts a.map.now.layout r)),
  subst (λ (n : ℕ). EachLine FiniteWord (line_of Zx a.bytes.now) n a.starts.zx) (sym (zx_count a.bytes.now a.starts a.map.now.layout r)) (zx_lines a.bytes.now a.starts a.map.now.layout r),
)

pub scatter-requires-3 : goal.scatter-requires-3
scatter-requires-3 c = let a = c.args in let r = c.requires in (
  omega (arith, few_q a.bytes.now a.starts a.map.now.layout r),
  subst (λ (n : ℕ). EachLine FiniteWord (line_of Zy a.bytes.now) n a.starts.zy) (sym (zy_count a.bytes.now a.starts a.map.now.layout r)) (zy_lines a.bytes.now a.starts a.map.now.layout r),
)

pub returns : goal.returns
returns c = let a = c.args in
    first_made a.bytes.now a.starts a.map.now.layout c.requires a.doubles.now _ _ _ c.entries.result (c.entries.ensures.0 a.bytes.now c.requires.0 c.requires.1)
    c.scatter.ensures c.scatter-2.ensures c.scatter-3.ensures
