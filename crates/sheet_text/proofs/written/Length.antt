-- How long a sheet's text is does not depend on its words: each is 16 digits.
use Prim.Native.Nat.{ℕ, zero, suc}
use mathlib.Core.Path.{◌≡◌, refl, sym, subst, ◌∙◌}
use mathlib.Core.List.{List, [], ◌∷◌, ◌++◌}
use native.Mathlib.Omega.{arith}
use lib.ListN.{length, length-append}
use Rattle.sheet.specs.declared.Counts.{Counts}
use Rattle.sheet.specs.Line.{tab, lf, size_tag, block_tag, zz_tag}
use Rattle.sheet.specs.Run.{Block, Entry, Kind, rows_from}
use Rattle.sheet.specs.Sheet.{Sheet, word_kinds, word_lists}
use Rattle.sheet.specs.Whole.{Both}
use Rattle.factor_output.specs.Print.{number, hexadecimal}
use Rattle.text_output.proofs.Numbers.{hexadecimal_length}
use Rattle.sheet_text.specs.written.Written.{number_text, word_text, size_text, block_text, kind_text, lines_text, entries_text, kinds_text, text_of, WordEach, InForm}

-- two texts of one length
record Alike (a b : List ℕ) : Type 0 where
  same : length a ≡ length b

-- behind the same bytes, behind the same number, and behind any two words
behind : (l : List ℕ) {a b : List ℕ} → Alike a b → Alike (l ++ a) (l ++ b)
behind l {a} {b} e = record { same = omega (arith, e.same, length-append l a, length-append l b) }

number_behind : (x end : ℕ) {a b : List ℕ} → Alike a b → Alike (number_text x end a) (number_text x end b)
number_behind x end e = behind (number x) (behind (end ∷ []) e)

word_behind : (v w : ℕ) {a b : List ℕ} → Alike a b → Alike (word_text v a) (word_text w b)
word_behind v w {a} {b} e =
    record {
      same = omega (
        arith,
        e.same,
        length-append (hexadecimal 16 v) (lf ∷ a),
        length-append (hexadecimal 16 w) (lf ∷ b),
        hexadecimal_length 16 v,
        hexadecimal_length 16 w,
      );
    }

-- a line of a kind, and as many of them
kind_behind : (numbers : ℕ) (t : List ℕ) (i : ℕ × ℕ) (v w : ℕ) {a b : List ℕ} → Alike a b → Alike (kind_text numbers t i v a) (kind_text numbers t i w b)
kind_behind zero t i v w e = behind t (word_behind v w e)
kind_behind (suc zero) t i v w e = behind t (number_behind i.0 tab (word_behind v w e))
kind_behind (suc (suc n)) t i v w e = behind t (number_behind i.0 tab (number_behind i.1 tab (word_behind v w e)))

words_behind : (numbers : ℕ) (t : List ℕ) (is : List (ℕ × ℕ)) (vs ws : List ℕ) {a b : List ℕ} → length vs ≡ length ws → Alike a b
    → Alike (lines_text (kind_text numbers t) is vs a) (lines_text (kind_text numbers t) is ws b)
unfolding lines_text
words_behind numbers t [] vs ws n e = e
words_behind numbers t (i ∷ is) [] [] n e = e
words_behind numbers t (i ∷ is) [] (w ∷ ws) n e = absurd (omega arith)
words_behind numbers t (i ∷ is) (v ∷ vs) [] n e = absurd (omega arith)
words_behind numbers t (i ∷ is) (v ∷ vs) (w ∷ ws) n e = kind_behind numbers t i v w (words_behind numbers t is vs ws (omega arith) e)

-- the lines of each kind, with a word for each
kinds_alike : (kinds : List Kind) (vs ws : List (List ℕ)) → Both WordEach kinds vs → Both WordEach kinds ws → Alike (kinds_text kinds vs []) (kinds_text kinds ws [])
kinds_alike [] vs ws f g = record { same = refl }
kinds_alike (kind ∷ kinds) [] ws f g = absurd f
kinds_alike (kind ∷ kinds) (v ∷ vs) [] f g = absurd g
kinds_alike (kind ∷ kinds) (v ∷ vs) (w ∷ ws) f g = words_behind kind.numbers kind.tag kind.indexes v w (f.0.0 ∙ sym g.0.0) (kinds_alike kinds vs ws f.1 g.1)

-- the lines before them
entries_behind : (es : List Entry) {a b : List ℕ} → Alike a b → Alike (entries_text es a) (entries_text es b)
unfolding entries_text
entries_behind [] e = e
entries_behind (x ∷ es) e = kind_behind 2 zz_tag (x.col, x.row) x.word x.word (entries_behind es e)

blocks_behind : (is : List (ℕ × ℕ)) (bs : List Block) {a b : List ℕ} → Alike a b → Alike (lines_text block_text is bs a) (lines_text block_text is bs b)
unfolding lines_text
blocks_behind [] bs e = e
blocks_behind (i ∷ is) [] e = e
blocks_behind (i ∷ is) (x ∷ bs) e = behind block_tag (number_behind x.m tab (number_behind x.e lf (blocks_behind is bs e)))

size_behind : (z : Counts) {a b : List ℕ} → Alike a b → Alike (size_text z a) (size_text z b)
size_behind z e = behind size_tag (number_behind z.n tab (number_behind z.p tab (number_behind z.q tab (number_behind z.k tab (number_behind z.flag lf e)))))

-- THE CLAIM: sheets in form with the same counts, blocks and entries have texts of one length.
pub same_length : (s t : Sheet) → s.counts ≡ t.counts → s.blocks ≡ t.blocks → s.zz ≡ t.zz → InForm s → InForm t → length (text_of s) ≡ length (text_of t)
same_length s t c b e f g =
    let words = kinds_alike (word_kinds t.counts) (word_lists s) (word_lists t) (subst (λ (z : Counts). Both WordEach (word_kinds z) (word_lists s)) c f.words) g.words in
    rw (c, b, e) (size_behind t.counts (blocks_behind (rows_from (λ r. 1) 0 t.counts.k) t.blocks (entries_behind t.zz words))).same
