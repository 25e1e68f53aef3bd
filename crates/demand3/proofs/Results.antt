-- After any list of calls that ends finished, deviance and solution are those of begin and the Rust's order: both workspaces have the same layout, sparse rows,
-- loaded numbers and theta, and the same final factor and sum.
use Prim.Native.Nat.{ℕ, ◌<◌}
use mathlib.Core.Path.{◌≡◌, refl, sym, ap, subst, ◌∙◌}
use mathlib.Core.Logic.{◌↔◌}
use mathlib.Core.Bool.{Bool, true, false, ◌||◌, true≢false}
use mathlib.Core.List.{List, ◌++◌}
use mathlib.Core.Option.{Option, none, some}
use native.Mathlib.Omega.{arith}
use lib.Dec.{eqb}
use lib.ListN.{length, get_or, drop}
use lib.Seq.{get_or-take}
use lib.Ieee.{Float}
use Rattle.step_order.specs.Steps.{Step, rust_order}
use Rattle.step_order.specs.Progress.{join_all, steps_left}
use Rattle.step_order.proofs.Theorems.{rust_complete}
use Rattle.rules.specs.Arithmetic.{ieee}
use Rattle.rules.proofs.Doubles.{root_of_accepted, never_refused}
use Rattle.sheet.specs.Sheet.{Sheet}
use Rattle.layout.specs.declared.Layout.{Layout}
use Rattle.layout.specs.Shapes.{pick, levels, theta_at, sheet_index, response_row}
use Rattle.heading_format.specs.declared.Progress.{Progress}
use Rattle.heading_format.specs.declared.State.TheVariants.{UnderWay, Finished}
use Rattle.heading_format.specs.Heading.{layout_of, progress_of, valid_heading}
use Rattle.heading_format.proofs.Sorted.{order_below}
use Rattle.workspace.specs.Memory.{Workspace, theta_of, sorted_theta, zeros}
use Rattle.workspace.specs.Load.{heading_of, load_of}
use borrow.Author.Tests.{eq-eqb}
use Rattle.profile.specs.Finish.{result_length, refused_row, solution_of, result_list, on_pivot, solve_of}
use Rattle.profile.specs.declared.Deviance.TheVariants.{Value, NoScale}
use Rattle.profile.specs.Deviance.{freedom, last_block_pivot, deviance_value, deviance_from_factor}
use Rattle.profile.proofs.Same.{Same, same_deviance, same_solution}
use Rattle.book.specs.Calls.{left_by}
use Rattle.book.specs.Book.{Book, book, nothing, layout, last, rust, opened, book_after, book_state}
use Rattle.demand3.specs.Results.{SameResult, SupplierResult}
use Rattle.demand3.proofs.same_rules.Same.{Alike, loaded_same}
use Rattle.demand3.proofs.invariant.Invariant.{Site, Invariant}
use Rattle.demand3.proofs.invariant.Site.{layout_of_lem, progress_of_lem, valid_heading_of, loaded_many, alike}
use Rattle.demand3.proofs.invariant.Open.{open_site, open_invariant, fresh_site}
use Rattle.demand3.proofs.step_laws.Finished.{finished_factor, finished_sum, finished_none}
use Rattle.demand3.proofs.step_laws.Rust.{through}
use Rattle.demand3.proofs.Calls.{all_left}
use Rattle.demand3.proofs.Finished.{last_pivot, claim, no_step_left}
use Rattle.std.specs.Prelude.{Result, Ok}
use Rattle.refusal.specs.declared.Refusal.{Refusal}
use Rattle.profile.specs.declared.Deviance.{Deviance}

-- where r2 is not refused, d alone decides on "no scale"
scale_by : (a b : Bool) (x : Float) → a ≡ false → (◌≡◌ {A = Result Deviance Refusal} (Ok (pick (a || b) NoScale (Value x))) (Ok NoScale)) ↔ (b ≡ true)
scale_by true b x e = absurd (true≢false e)
scale_by false true x e = (λ q. refl, λ q. refl)
scale_by false false x e = (λ q. absurd (let z : ◌≡◌ {A = ℕ} 0 1 = cc in omega arith), λ q. absurd (true≢false (sym q)))

-- ---- two workspaces with no step left, on the same loaded numbers and with the same theta
module _ (sheet : Sheet) (loaded theta : List Float) where
  -- v, which load left out of h and w, has come to the end of its update
  record Ended (v : Workspace) : Type 0 where
    h : List ℕ
    w : List Float
    here : Site sheet h w
    d : Step → Bool
    stands : Invariant sheet h w (book loaded theta (some d)) v
    left : steps_left (last sheet) d ≡ 0

  module _ (v : Workspace) (e : Ended v) where
    -- the book's page
    abbrev page : Book
    page = book loaded theta (some e.d)

    layout_is : layout_of v.heading ≡ layout sheet
    layout_is = layout_of_lem sheet e.h e.w e.here page v e.stands

    valid_is : valid_heading v.heading (length v.doubles) ≡ true
    valid_is = valid_heading_of sheet e.h e.w e.here page v e.stands

    state_is : (progress_of v.heading).state ≡ Finished
    state_is =
        ap (λ (g : Progress). g.state) (progress_of_lem sheet e.h e.w e.here page v e.stands) ∙ e.stands.updating.0
        ∙ ap (λ (n : ℕ). pick (eqb n 0) Finished UnderWay) e.left

    alike_is : Alike sheet loaded v
    alike_is = alike sheet e.h e.w e.here page v e.stands

    -- begin kept theta, and the order names blocks of the sheet alone
    theta_is : (j : ℕ) → j < last sheet → theta_of v.heading v.doubles j ≡ sorted_theta (layout sheet) theta j
    theta_is j l =
        let at : ℕ = sheet_index (layout sheet) j in
        ap (λ (y : Layout). sorted_theta y (drop (theta_at y) v.doubles) j) layout_is
        ∙ sym (get_or-take (last sheet) (drop (theta_at (layout sheet)) v.doubles) at ieee.zero (order_below (layout sheet) e.here.layout_valid j l))
        ∙ ap (λ (t : List Float). get_or t at ieee.zero) e.stands.updating.1.theta_kept

    -- neither 20 nor 25
    answer_is : (reml : Bool) → deviance_from_factor v.heading v.doubles reml ≡ Ok (deviance_value v.heading v.doubles reml)
    unfolding deviance_from_factor
    answer_is reml = rw (valid_is, state_is) refl

    solve_is : (reml : Bool) (out : List Float) → length out ≡ result_length (layout sheet)
        → solve_of v.heading v.doubles reml out
        ≡ on_pivot (refused_row v.heading v.doubles) (length out) (record { answer = Ok (solution_of v.heading v.doubles reml); result = result_list v.heading v.doubles })
    unfolding solve_of
    solve_is reml out many =
        rw (valid_is, state_is, eq-eqb (length out) (result_length (layout_of v.heading)) (many ∙ sym (ap result_length layout_is))) refl

    -- "no scale" comes of d, since r2 is not refused (`FinishedClaim`)
    scale_is : (reml : Bool) → (deviance_from_factor v.heading v.doubles reml ≡ Ok NoScale) ↔ (ieee.refused (freedom (layout sheet) reml) ≡ true)
    unfolding deviance_from_factor
    scale_is reml =
        rw (valid_is, state_is)
        (subst (λ (y : Layout). (◌≡◌ {A = Result Deviance Refusal} (Ok (deviance_value v.heading v.doubles reml)) (Ok NoScale)) ↔ (ieee.refused (freedom y reml) ≡ true)) layout_is
        (scale_by _ _ _
        (ap (λ (y : Layout). let p = last_block_pivot v.heading v.doubles false (response_row y) in ieee.refused (ieee.times p p)) layout_is
        ∙ (claim sheet e.h e.w e.here loaded theta e.d v e.stands e.left).scale)))

    -- a pivot of block k is the root of a double that is not refused, so above 0 or NaN
    pivot_is : (r : ℕ) → r < (layout sheet).p → ieee.refused (last_block_pivot v.heading v.doubles true r) ≡ false
    pivot_is r l =
        let p = last_pivot sheet e.h e.w e.here loaded theta e.d v e.stands e.left r (omega arith) in
        ap ieee.refused p.is ∙ never_refused (ieee.root p.x) (root_of_accepted p.x p.double p.accepted)

    -- the Rust's order comes to its end too: what no step of v refused, it does not refuse
    ours_ended : Ended (rust sheet loaded theta).left
    ours_ended =
        let many = loaded_many sheet e.h e.w e.here page v e.stands in
        let g = e.stands.updating.1 in
        record {
          h = heading_of sheet (layout sheet);
          w = loaded ++ zeros (layout sheet);
          here = fresh_site sheet e.h e.w e.here loaded many;
          d = join_all nothing (rust_order (last sheet));
          stands =
              through sheet e.h e.w e.here loaded theta many g.theta_many g.theta_finite
              (finished_none sheet e.h e.w loaded theta e.d v e.stands e.left);
          left = (rust_complete (last sheet)).1;
        }

  -- two such workspaces agree in all that deviance and solution read
  same : (v u : Workspace) → Ended v → Ended u → Same v.heading v.doubles u.heading u.doubles
  same v u e f =
      let y : layout_of u.heading ≡ layout sheet = layout_is u f in
      let k : (layout_of u.heading).k ≡ last sheet = ap (λ (x : Layout). x.k) y in
      let a : Alike sheet loaded v = alike_is v e in
      let b : Alike sheet loaded u = alike_is u f in
      let sparse : (layout_of u.heading).sparse ≡ (layout sheet).sparse = ap (λ (x : Layout). x.sparse) y in
      record {
        valid = valid_is v e ∙ sym (valid_is u f);
        state = state_is v e ∙ sym (state_is u f);
        layout = layout_is v e ∙ sym y;
        two = λ q. k ∙ b.two (sym sparse ∙ q);
        rows =
            λ q c l. let q' = sym sparse ∙ q in
            let l' = subst (λ (x : Layout). c < levels x 0) y l in
            a.same_rows q' c l' ∙ sym (b.same_rows q' c l');
        loaded =
            λ i j l m. loaded_same sheet loaded theta v a e.stands.progress i j l (omega (arith, k))
            ∙ sym (loaded_same sheet loaded theta u b f.stands.progress i j l (omega (arith, k)));
        working =
            λ i j l m. finished_factor sheet e.h e.w loaded theta e.d v e.stands e.left i j l (omega (arith, k))
            ∙ sym (finished_factor sheet f.h f.w loaded theta f.d u f.stands f.left i j l (omega (arith, k)));
        theta = λ j l. theta_is v e j (omega (arith, k)) ∙ sym (theta_is u f j (omega (arith, k)));
        sum = finished_sum sheet e.h e.w loaded theta e.d v e.stands e.left ∙ sym (finished_sum sheet f.h f.w loaded theta f.d u f.stands f.left);
      }

  -- with the page as it is, whatever set it has
  result : (d : Option (Step → Bool)) (v : Workspace) → Ended v → SameResult sheet (book loaded theta d) v
  result d v e =
      let s = same v (rust sheet loaded theta).left e (ours_ended v e) in
      record { answered = answer_is v e; solved = solve_is v e; deviance = same_deviance s; solution = same_solution s; no_scale_exactly = scale_is v e; fixed_pivots = pivot_is v e }

-- a finished page has a set, and no step left
finished_result : (sheet : Sheet) (h : List ℕ) (w : List Float) → Site sheet h w → (loaded theta : List Float) (o : Option (Step → Bool)) (v : Workspace)
    → Invariant sheet h w (book loaded theta o) v → book_state sheet o ≡ Finished → SameResult sheet (book loaded theta o) v
finished_result sheet h w here loaded theta none v s f = absurd (let z : ◌≡◌ {A = ℕ} 0 1 = cc in omega arith)
finished_result sheet h w here loaded theta (some d) v s f =
    result sheet loaded theta (some d) v (record { h = h; w = w; here = here; d = d; stands = s; left = no_step_left sheet d f })

-- "and must come to our result"
pub supplier_result : SupplierResult
unfolding SupplierResult
supplier_result bytes sheet starts h w e a calls =
    let b : Book = book_after sheet calls (opened sheet) in
    let here : Site sheet h w = open_site bytes sheet starts h w e a in
    let v : Workspace = (load_of bytes h w).left in
    finished_result sheet h w here b.loaded b.theta b.done (left_by calls v) (all_left sheet h w here calls (opened sheet) v (open_invariant bytes sheet starts h w e a))
