-- Every row of the print program's table holds, computed by the definitions.
-- Assumes nothing.
use mathlib.Core.Path.{◌≡◌, refl}
use mathlib.Core.Bool.{true}
use Rattle.rules.specs.Trial.{same}
use Rattle.rules.specs.Print.{digits, decimal, signed_decimal, kind_word, ending_word, line, ending_line, refused_line, run_text, start_text, printed}
use Rattle.rules.specs.PrintRows.{rows, words, texts, all_print}
use Rattle.rules.proofs.Computed.{meaning}

pub printed_rows_hold : all_print rows ≡ true
unfolding meaning digits decimal signed_decimal kind_word ending_word line ending_line refused_line run_text start_text printed all_print
printed_rows_hold = refl

pub words_hold : same words texts ≡ true
unfolding meaning digits decimal signed_decimal kind_word ending_word line ending_line refused_line run_text start_text printed
words_hold = refl
