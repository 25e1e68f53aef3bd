-- What the finish answers and leaves in a result list of n doubles (document 01, Record 7 and refusal 27).
use Rattle.std.specs.Prelude.{ℕ, Bool, List, Float, Ok}
use Rattle.profile.specs.Finish.{Solving, on_pivot, refused_row, solution_of, result_list}

abbrev pub finish_of : (h : List ℕ) (w : List Float) → Bool → ℕ → Solving
finish_of h w reml n = on_pivot (refused_row h w) n (record { answer = Ok (solution_of h w reml); result = result_list h w })
