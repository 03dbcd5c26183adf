use Rattle.printing.proofs.numbers.+lay_digits.Given as goal

abbrev pub decreases-lay_digits : goal.decreases-lay_digits
decreases-lay_digits l = l.k
