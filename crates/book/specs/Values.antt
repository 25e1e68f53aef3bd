-- The value of every block at a stage, at the rules of a loaded sheet (document 01, Record 4): what the order theorem of crate `step_order` speaks of.
use Rattle.std.specs.Prelude.{ℕ, List, Float}
use Rattle.std.proofs.Math.Option.{Option}
use Rattle.step_order.specs.Elimination.{Rules, value, final, total, refused_at}
use Rattle.sheet.specs.Sheet.{Sheet}
use Rattle.heading_format.specs.Heading.{layout_of, entry_row}
use Rattle.workspace.specs.Memory.{loaded_block, loaded_some}
use Rattle.update.specs.Working.{rules_of, scaled}
use Rattle.book.specs.Book.{fresh, last}

module _ (sheet : Sheet) (loaded theta : List Float) where
  abbrev pub rules_here : Rules
  rules_here =
      let v = fresh sheet loaded in
      rules_of (layout_of v.heading) (entry_row v.heading) (loaded_some v.heading v.doubles)

  -- what begin writes into block (i, j)
  abbrev pub start_here : ℕ → ℕ → List Float
  start_here i j =
      let v = fresh sheet loaded in
      scaled (layout_of v.heading) (entry_row v.heading) (loaded_some v.heading v.doubles) theta i j (loaded_block v.heading v.doubles i j)

  -- block (i, j) after n of its steps, and after all of them; the logarithms' sum after C(0), .., C(n - 1); the pivot that the Rust's order refuses
  abbrev pub value_at : ℕ → ℕ → ℕ → List Float
  value_at n i j = value rules_here start_here n i j

  abbrev pub final_value : ℕ → ℕ → List Float
  final_value i j = final rules_here start_here i j

  abbrev pub logs_after : ℕ → Float
  logs_after n = total rules_here start_here n

  abbrev pub refused_pivot : Option (ℕ × ℕ)
  refused_pivot = refused_at rules_here (last sheet) start_here
