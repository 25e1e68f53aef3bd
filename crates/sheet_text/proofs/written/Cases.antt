-- The text of document 01's worked sheet, and of one with two blocks and two fixed effects, by computation.
use mathlib.Core.Path.{◌≡◌, refl}
use mathlib.Core.List.{[], ◌∷◌}
use Rattle.sheet.specs.Run.{row_from, rows_from}
use Rattle.sheet.specs.Sheet.{Sheet}
use Rattle.sheet.specs.Text.{bytes_of, ended}
use Rattle.factor_output.specs.Print.{decimal, hexadecimal}
use Rattle.factor_output.specs.Worked.{sheet_lines}
use Rattle.sheet_text.specs.written.Written.{lines_text, entries_text, text_of}
use Rattle.sheet.proofs.Made.{counts_with}

abbrev one : Sheet
one =
    record {
      counts = counts_with 3 1 1 1 1;
      blocks = record { m = 1; e = 1 } ∷ [];
      zz = record { line = 3; col = 0; row = 0; word = 0x4008000000000000 } ∷ [];
      zx = 0x4000000000000000 ∷ [];
      zy = 0x4010000000000000 ∷ [];
      xx = 0x4014000000000000 ∷ [];
      xy = 0x4018000000000000 ∷ [];
      yy = 0x4022000000000000;
    }

worked_text : text_of one ≡ ended sheet_lines
unfolding ended bytes_of decimal hexadecimal lines_text entries_text rows_from row_from
worked_text = refl

abbrev two : Sheet
two =
    record {
      counts = counts_with 1000000000 2 3 2 0;
      blocks = record { m = 65535; e = 16 } ∷ record { m = 10; e = 1 } ∷ [];
      zz = record { line = 4; col = 0; row = 2; word = 0x8000000000000000 } ∷ record { line = 5; col = 2; row = 0; word = 1 } ∷ [];
      zx = 16 ∷ 17 ∷ 18 ∷ 19 ∷ 20 ∷ 21 ∷ [];
      zy = 22 ∷ 23 ∷ 24 ∷ [];
      xx = 10 ∷ 11 ∷ 12 ∷ [];
      xy = 0xabcdef0123456789 ∷ 0 ∷ [];
      yy = 0x7fefffffffffffff;
    }

two_text : text_of two
    ≡ ended
    ("size 1000000000 2 3 2 0"
    ∷ "block 65535 16"
    ∷ "block 10 1"
    ∷ "zz 0 2 8000000000000000"
    ∷ "zz 2 0 0000000000000001"
    ∷ "zx 0 0 0000000000000010"
    ∷ "zx 0 1 0000000000000011"
    ∷ "zx 1 0 0000000000000012"
    ∷ "zx 1 1 0000000000000013"
    ∷ "zx 2 0 0000000000000014"
    ∷ "zx 2 1 0000000000000015"
    ∷ "zy 0 0000000000000016"
    ∷ "zy 1 0000000000000017"
    ∷ "zy 2 0000000000000018"
    ∷ "xx 0 0 000000000000000a"
    ∷ "xx 1 0 000000000000000b"
    ∷ "xx 1 1 000000000000000c"
    ∷ "xy 0 abcdef0123456789"
    ∷ "xy 1 0000000000000000"
    ∷ "yy 7fefffffffffffff"
    ∷ [])
unfolding ended bytes_of decimal hexadecimal lines_text entries_text rows_from row_from
two_text = refl
