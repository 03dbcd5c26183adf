use Rattle.printing.proofs.numbers.+lay_hex_digits.Given as goal

abbrev pub decreases-lay_hex_digits : goal.decreases-lay_hex_digits
decreases-lay_hex_digits l = l.k
