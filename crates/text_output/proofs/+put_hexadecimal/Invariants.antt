-- `text_output::put_hexadecimal`: the measure is the number of digits.
use Rattle.text_output.proofs.+put_hexadecimal.Given as goal

abbrev pub decreases-put_hexadecimal : goal.decreases-put_hexadecimal
decreases-put_hexadecimal l = l.n
