-- `load_numbers::store_words::double_of`: a finite word is no NaN's.
use Rattle.load_numbers.proofs.word_address.Places.{finite_no_nan}
use Rattle.load_numbers.proofs.store_words.double_of.Goals as goal

pub float_from_bits-result : goal.float_from_bits-result
float_from_bits-result c = finite_no_nan c.args.word c.requires
