-- The gate (document 01, Record 2; `blocked_gate_failure`): which pairs of blocks may be held, and how.
use Rattle.std.specs.Prelude.{ℕ, ◌*◌, Bool, ◌&&◌, cond, ltb, leb, eqb, pos, Result, Ok, Err}
use Rattle.std.specs.Float.Ieee as Ieee
use Rattle.std.specs.Float.{binary64}
use Rattle.layout.specs.declared.Storage.{Storage}
use Rattle.layout.specs.declared.Storage.TheVariants.{Dense, Sparse}
use Rattle.layout.specs.declared.GateRefusal.{GateRefusal}
use Rattle.layout.specs.declared.GateRefusal.TheVariants.{MultiblockFill, CrossGate}

-- the number of a refusal in document 01's table
abbrev pub gate_number : GateRefusal → ℕ
gate_number MultiblockFill = 10
gate_number CrossGate = 11

-- how a pair is stored, or why it is refused
abbrev pub Verdict : Type 0
Verdict = Result Storage GateRefusal

-- the same, with the number of the refusal
abbrev pub numbered : Verdict → Result Storage ℕ
numbered (Ok s) = Ok s
numbered (Err e) = Err (gate_number e)

-- entries / cells in doubles is at most 0.35, the double 3fd6666666666666
abbrev pub thin : ℕ → ℕ → Bool
thin entries cells = Ieee.le (Ieee.div binary64 (Ieee.of_int binary64 (pos entries)) (Ieee.of_int binary64 (pos cells))) (Ieee.of_bits binary64 0x3fd6666666666666)

-- A pair of rows × cols cells among k blocks; one_each says that each column has exactly one entry, entries is how many entries the pair has.
-- Up to 100,000 cells it is dense. Above that it is refused with 10 where k > 2, and with 11 unless each column has one entry and the
-- pair is thin; it is then sparse.
unfoldable pub pair_of : ℕ → ℕ → ℕ → Bool → ℕ → Verdict
pair_of k rows cols one_each entries =
    cond (leb (rows * cols) 100000) (Ok Dense) (cond (ltb 2 k) (Err MultiblockFill) (cond (one_each && thin entries (rows * cols)) (Ok Sparse) (Err CrossGate)))

-- with k = 2 and one entry in each column, block 1 is diagonal
abbrev pub diagonal_of : ℕ → Bool → Bool
diagonal_of k one_each = eqb k 2 && one_each
