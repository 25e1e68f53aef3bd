-- A layout by its counts, its sorted blocks and its storage: laws and examples name it so, and a field more is given here.
use Prim.Native.Nat.{ℕ}
use mathlib.Core.Bool.{Bool}
use mathlib.Core.List.{List}
use Rattle.layout.specs.declared.Layout.{Layout}

abbrev pub layout_with : (n p q k : ℕ) (m order : List ℕ) (sparse diagonal : Bool) → Layout
layout_with n p q k m order sparse diagonal =
    record { n = n; p = p; q = q; k = k; m = m; order = order; sparse = sparse; diagonal = diagonal }
