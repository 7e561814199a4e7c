-- The words of the worked tableaus, as the tests have them.
use Rattle.std.proofs.Common.{List, [], ◌∷◌, ℤ, pos, negsuc}

abbrev pub one_and_three : List ℤ
one_and_three = pos 1 ∷ pos 0 ∷ pos 2 ∷ pos 0 ∷ pos 1 ∷ negsuc 0 ∷ pos 1 ∷ negsuc 0 ∷ pos 0 ∷ negsuc 0 ∷ pos 1 ∷ pos 1 ∷ pos 0 ∷ pos 1 ∷ pos 0 ∷ pos 1 ∷ pos 1 ∷ pos 0 ∷ negsuc 0 ∷ negsuc 5 ∷ negsuc 3 ∷ negsuc 1 ∷ pos 0 ∷ pos 1 ∷ pos 0 ∷ pos 4 ∷ pos 2 ∷ pos 0 ∷ negsuc 0 ∷ pos 1 ∷ pos 0 ∷ pos 1 ∷ pos 0 ∷ pos 1 ∷ negsuc 0 ∷ []

abbrev pub one_and_two : List ℤ
one_and_two = pos 1 ∷ pos 0 ∷ pos 1 ∷ pos 1 ∷ pos 1 ∷ pos 0 ∷ pos 1 ∷ pos 0 ∷ pos 1 ∷ negsuc 0 ∷ pos 0 ∷ pos 1 ∷ pos 0 ∷ pos 1 ∷ pos 0 ∷ pos 1 ∷ pos 1 ∷ pos 0 ∷ negsuc 0 ∷ negsuc 6 ∷ negsuc 3 ∷ negsuc 2 ∷ pos 0 ∷ pos 0 ∷ negsuc 0 ∷ pos 4 ∷ pos 3 ∷ negsuc 0 ∷ negsuc 0 ∷ pos 0 ∷ pos 0 ∷ pos 0 ∷ negsuc 0 ∷ pos 1 ∷ pos 0 ∷ []

abbrev pub primes : List ℤ
primes = pos 9973 ∷ pos 0 ∷ pos 3 ∷ pos 1 ∷ pos 1 ∷ pos 0 ∷ pos 9973 ∷ pos 0 ∷ pos 9973 ∷ pos 0 ∷ pos 9973 ∷ pos 0 ∷ pos 99400891 ∷ negsuc 4999 ∷ negsuc 4999 ∷ pos 0 ∷ pos 0 ∷ pos 49865000 ∷ []

abbrev pub greater_constants : List ℤ
greater_constants = pos 9973 ∷ pos 0 ∷ pos 3 ∷ pos 1 ∷ pos 1 ∷ pos 0 ∷ pos 9973 ∷ pos 0 ∷ pos 9973 ∷ pos 0 ∷ pos 9973 ∷ pos 0 ∷ pos 99400891 ∷ negsuc 9999 ∷ negsuc 9999 ∷ pos 0 ∷ pos 0 ∷ pos 99730000 ∷ []

abbrev pub halves : List ℤ
halves = pos 2 ∷ pos 0 ∷ pos 1 ∷ pos 1 ∷ pos 1 ∷ pos 0 ∷ pos 2 ∷ pos 0 ∷ pos 1 ∷ pos 1 ∷ pos 0 ∷ pos 1 ∷ pos 0 ∷ pos 2 ∷ pos 1 ∷ negsuc 9 ∷ negsuc 3 ∷ negsuc 5 ∷ pos 0 ∷ pos 0 ∷ negsuc 1 ∷ []
