-- What load knows when it writes (document 01, Record 3): bytes that are a sheet without a fault, its layout, and no pair that the gate refuses.
use Rattle.std.specs.Prelude.{ℕ, ◌≡◌, List}
use Rattle.std.specs.Prelude.{None}
use Rattle.sheet.specs.declared.Starts.{Starts}
use Rattle.sheet.specs.Sheet.{Sheet, accepted, read_sheet}
use Rattle.sheet.specs.Fault.{fault_number}
use Rattle.layout.specs.declared.Layout.{Layout}
use Rattle.layout.specs.Shapes.{pairs}
use Rattle.workspace.specs.Loaded.{layout_of_sheet, first_refused_pair}

abbrev pub Ready : List ℕ → Starts → Layout → Type 0
Ready s z y =
    (sheet : Sheet) × (read_sheet s ≡ accepted sheet z) × (fault_number sheet ≡ 0) × (y ≡ layout_of_sheet sheet)
    × (first_refused_pair sheet y (pairs y.k) ≡ None)
