-- THE CLAIM: load accepts the texts of acceptable sheets, where there is room, and nothing else.
use Prim.Native.Nat.{ℕ, ◌≤◌, ◌<◌}
use mathlib.Core.Path.{◌≡◌, refl, sym, subst, ◌∙◌}
use mathlib.Core.Bool.{Bool, true, false, not, ◌||◌, true≢false}
use mathlib.Core.List.{List, [], ◌∷◌}
use native.Mathlib.Omega.{arith}
use borrow.Author.Tests.{eqb-true, eqb-false, eq-eqb}
use lib.Dec.{eqb}
use lib.ListN.{length}
use lib.Ieee.{Float}
use Rattle.sheet.specs.declared.Starts.{Starts}
use Rattle.sheet.specs.Run.{Block}
use Rattle.sheet.specs.Sheet.{Sheet, accepted, refused, sheet_of}
use Rattle.sheet.specs.Sheet as Sheets
use Rattle.sheet.specs.Fault.{any_of, has_slope, covered_rows, Faulty}
use Rattle.sheet.specs.Whole.{Each}
use Rattle.sheet.proofs.Whole.{read_whole, alone_read, not_accepted}
use Rattle.sheet_text.proofs.written.Read.{written_read}
use Rattle.sheet_text.proofs.written.OnlySheet.{read_written}
use Rattle.std.specs.Prelude.{Err, Ok}
use Rattle.layout.specs.declared.GateRefusal.{GateRefusal}
use Rattle.layout.specs.declared.GateRefusal.TheVariants.{MultiblockFill, CrossGate}
use Rattle.workspace.specs.Loaded.{pair_in, layout_of_sheet}
use Rattle.workspace.specs.Load.{has_room, load_of}
use Rattle.sheet_text.specs.Acceptable.{Acceptable}
use Rattle.sheet_text.specs.Listed.{
  Listed,
  too_long,
  at_line,
  not_intercept_only,
  empty_re,
  slopes,
  dim_mismatch,
  faulty,
  multiblock_fill,
  cross_gate,
  too_short,
}
use Rattle.sheet_text.proofs.Accepts.{bytes_listed, accepted_iff}

-- ---- an e that is not 1, or none
slope_in : (bs : List Block) → (any_of (λ (b : Block). not (eqb b.e 1)) bs ≡ true → ⊥) → Each (λ (b : Block). b.e ≡ 1) bs
unfolding any_of
slope_in [] h = tt
slope_in (b ∷ bs) h = go (eqb b.e 1) refl (slope_in bs) h
  where
    go : (t : Bool) → eqb b.e 1 ≡ t → ((any_of (λ (b : Block). not (eqb b.e 1)) bs ≡ true → ⊥) → Each (λ (b : Block). b.e ≡ 1) bs)
        → ((not t || any_of (λ (b : Block). not (eqb b.e 1)) bs) ≡ true → ⊥) → (b.e ≡ 1) × Each (λ (b : Block). b.e ≡ 1) bs
    go true e more h = (eqb-true b.e 1 e, more h)
    go false e more h = absurd (h refl)

no_slope : (bs : List Block) → Each (λ (b : Block). b.e ≡ 1) bs → any_of (λ (b : Block). not (eqb b.e 1)) bs ≡ false
unfolding any_of
no_slope [] h = refl
no_slope (b ∷ bs) h = rw (eq-eqb b.e 1 h.0) (no_slope bs h.1)

is_true : (t : Bool) → (t ≡ false → ⊥) → t ≡ true
is_true true h = refl
is_true false h = absurd (h refl)

are_equal : (a b : ℕ) → ((a ≡ b → ⊥) → ⊥) → a ≡ b
are_equal a b h = eqb-true a b (is_true (eqb a b) (λ e. h (eqb-false a b e)))

module _ (s h : List ℕ) (w : List Float) where
  -- what no row of the table refuses
  acceptable : ((n : ℕ) → Listed s h w n → ⊥) → (sheet : Sheet) × Acceptable s h w sheet
  acceptable free = go (sheet_of s) refl
    where
      denied : (sheet : Sheet) (starts : Starts) → sheet_of s ≡ accepted sheet starts → (i j : ℕ) (r : GateRefusal) → i < sheet.counts.k → j < i
          → pair_in sheet (layout_of_sheet sheet) i j ≡ Err r → ⊥
      denied sheet starts e i j MultiblockFill a b q = free 10 (multiblock_fill sheet starts e i j a b q)
      denied sheet starts e i j CrossGate a b q = free 11 (cross_gate sheet starts e i j a b q)

      go : (o : Sheets.Outcome) → sheet_of s ≡ o → (sheet : Sheet) × Acceptable s h w sheet
      go (refused number line) e = absurd (free number (bytes_listed s h w number line e))
      go (accepted sheet starts) e =
          let t = read_written s sheet starts e in
          let short : length s ≤ 16777216 = (read_whole s sheet starts (alone_read s sheet starts e).0).short in
          let f : sheet.counts.flag ≡ 0 → ⊥ = λ q. free 5 (not_intercept_only sheet starts e q) in
          let k : sheet.counts.k ≡ 0 → ⊥ = λ q. free 6 (empty_re sheet starts e q) in (
            sheet,
            record {
              short = short;
              text = t.0;
              passes =
                  record {
                    form = t.1;
                    flag = omega (arith, t.1.counts.flag);
                    some = omega arith;
                    intercepts = slope_in sheet.blocks (λ q. free 7 (slopes sheet starts e q));
                    covers = are_equal _ _ (λ q. free 8 (dim_mismatch sheet starts e q));
                    sound = λ x m f. free 9 (faulty sheet starts e x.line (x, m, refl, f));
                    gate = λ i j r a b q. denied sheet starts e i j r a b q;
                  };
              room = is_true _ (λ q. free 12 (too_short sheet starts e q));
            },
          )

  -- no row of the table refuses an acceptable sheet that is read
  module _ (sheet : Sheet) (a : Acceptable s h w sheet) (starts : Starts) (read : sheet_of s ≡ accepted sheet starts) where
    -- the sheet of these bytes is this one
    this : {other : Sheet} {more : Starts} → sheet_of s ≡ accepted other more → sheet ≡ other
    this {other} {more} e = let q : accepted sheet starts ≡ accepted other more = sym read ∙ e in cc

    refused_pair : (other : Sheet) → sheet ≡ other → (i j : ℕ) (r : GateRefusal) → i < other.counts.k → j < i → pair_in other (layout_of_sheet other) i j ≡ Err r → ⊥
    refused_pair other q = subst (λ (x : Sheet). (i j : ℕ) (r : GateRefusal) → i < x.counts.k → j < i → pair_in x (layout_of_sheet x) i j ≡ Err r → ⊥) q a.passes.gate

    unlisted : (n : ℕ) → Listed s h w n → ⊥
    unlisted n (too_long g) = omega (arith, a.short)
    unlisted n (at_line number line e g) = not_accepted number line sheet starts (sym e ∙ read)
    unlisted n (not_intercept_only other more e g) = omega (arith, subst (λ (x : Sheet). x.counts.flag ≡ 1) (this e) a.passes.flag)
    unlisted n (empty_re other more e g) = omega (arith, subst (λ (x : Sheet). 0 < x.counts.k) (this e) a.passes.some)
    unlisted n (slopes other more e g) = true≢false (sym g ∙ subst (λ (x : Sheet). has_slope x ≡ false) (this e) (no_slope sheet.blocks a.passes.intercepts))
    unlisted n (dim_mismatch other more e g) = g (subst (λ (x : Sheet). x.counts.q ≡ covered_rows x.blocks) (this e) a.passes.covers)
    unlisted n (faulty other more e line g) = let f = subst (λ (x : Sheet). Faulty x line) (sym (this e)) g in a.passes.sound f.0 f.1 f.3
    unlisted n (multiblock_fill other more e i j x y g) = refused_pair other (this e) i j MultiblockFill x y g
    unlisted n (cross_gate other more e i j x y g) = refused_pair other (this e) i j CrossGate x y g
    unlisted n (too_short other more e g) = true≢false (sym a.room ∙ subst (λ (x : Sheet). has_room (layout_of_sheet x) h w ≡ false) (sym (this e)) g)

  -- THE CLAIM, both ways
  pub accepted_exactly : ((load_of s h w).answer ≡ (Ok tt) → (sheet : Sheet) × Acceptable s h w sheet)
      × ((sheet : Sheet) → Acceptable s h w sheet → (load_of s h w).answer ≡ (Ok tt))
  accepted_exactly =
      let i = accepted_iff s h w in (
        λ e. acceptable (i.0 e),
        λ sheet a.
            let r = written_read sheet a.passes.form (subst (λ (x : List ℕ). length x ≤ 16777216) a.text a.short) in
            let e : sheet_of s ≡ accepted sheet r.0 = subst (λ (x : List ℕ). sheet_of x ≡ accepted sheet r.0) (sym a.text) r.1 in
            i.1 (unlisted sheet a r.0 e),
      )
