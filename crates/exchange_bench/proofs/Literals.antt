-- Made by tools/exchange_bench.py: the words of the two corners, as the code has them.
use Rattle.std.proofs.Common.{List, [], ◌∷◌, ℤ, pos, negsuc}

abbrev pub divisor_1 : List ℤ
divisor_1 = pos 1 ∷ pos 0 ∷ pos 4 ∷ pos 9 ∷ pos 12 ∷ pos 34 ∷ pos 7 ∷ negsuc 0 ∷ pos 2 ∷ negsuc 1 ∷ pos 1 ∷ pos 24 ∷ pos 15 ∷ pos 7 ∷ pos 0 ∷ pos 17 ∷ pos 6 ∷ pos 17 ∷ pos 8 ∷ pos 0 ∷ pos 1 ∷ negsuc 3 ∷ pos 0 ∷ pos 19 ∷ pos 29 ∷ pos 7 ∷ pos 43 ∷ pos 9 ∷ negsuc 0 ∷ pos 2 ∷ negsuc 2 ∷ pos 0 ∷ pos 31 ∷ pos 19 ∷ pos 8 ∷ pos 1 ∷ pos 23 ∷ pos 7 ∷ pos 23 ∷ pos 10 ∷ pos 0 ∷ pos 0 ∷ negsuc 4 ∷ pos 0 ∷ pos 22 ∷ pos 38 ∷ pos 6 ∷ pos 166 ∷ pos 36 ∷ negsuc 4 ∷ pos 9 ∷ negsuc 11 ∷ pos 0 ∷ pos 125 ∷ pos 79 ∷ pos 37 ∷ pos 0 ∷ pos 90 ∷ pos 33 ∷ pos 89 ∷ pos 42 ∷ pos 1 ∷ pos 0 ∷ negsuc 21 ∷ pos 0 ∷ pos 90 ∷ pos 152 ∷ pos 27 ∷ pos 96 ∷ pos 21 ∷ negsuc 2 ∷ pos 5 ∷ negsuc 6 ∷ pos 0 ∷ pos 73 ∷ pos 46 ∷ pos 21 ∷ pos 0 ∷ pos 52 ∷ pos 19 ∷ pos 52 ∷ pos 25 ∷ pos 0 ∷ pos 0 ∷ negsuc 11 ∷ pos 1 ∷ pos 52 ∷ pos 88 ∷ pos 15 ∷ negsuc 15222 ∷ negsuc 3296 ∷ pos 463 ∷ negsuc 809 ∷ pos 1085 ∷ pos 0 ∷ negsuc 11414 ∷ negsuc 7184 ∷ negsuc 3303 ∷ pos 0 ∷ negsuc 8094 ∷ negsuc 2897 ∷ negsuc 8079 ∷ negsuc 3799 ∷ pos 0 ∷ negsuc 18 ∷ pos 1958 ∷ pos 0 ∷ negsuc 8245 ∷ negsuc 13749 ∷ negsuc 2441 ∷ pos 565 ∷ pos 122 ∷ negsuc 16 ∷ pos 30 ∷ negsuc 39 ∷ pos 0 ∷ pos 427 ∷ pos 269 ∷ pos 122 ∷ pos 0 ∷ pos 299 ∷ pos 107 ∷ pos 301 ∷ pos 144 ∷ pos 0 ∷ negsuc 2 ∷ negsuc 68 ∷ pos 0 ∷ pos 309 ∷ pos 515 ∷ pos 90 ∷ pos 657 ∷ pos 144 ∷ negsuc 20 ∷ pos 36 ∷ negsuc 47 ∷ pos 0 ∷ pos 499 ∷ pos 320 ∷ pos 153 ∷ pos 0 ∷ pos 360 ∷ pos 139 ∷ pos 356 ∷ pos 171 ∷ pos 0 ∷ pos 4 ∷ negsuc 90 ∷ pos 0 ∷ pos 365 ∷ pos 605 ∷ pos 113 ∷ pos 991 ∷ pos 214 ∷ negsuc 29 ∷ pos 53 ∷ negsuc 69 ∷ pos 0 ∷ pos 740 ∷ pos 463 ∷ pos 217 ∷ pos 0 ∷ pos 531 ∷ pos 195 ∷ pos 525 ∷ pos 255 ∷ pos 0 ∷ pos 9 ∷ negsuc 128 ∷ pos 0 ∷ pos 539 ∷ pos 901 ∷ pos 167 ∷ []

abbrev pub common_divisor : List ℤ
common_divisor = pos 2566 ∷ pos 0 ∷ pos 3 ∷ pos 5 ∷ pos 6 ∷ pos 1594 ∷ pos 364 ∷ negsuc 97 ∷ pos 202 ∷ negsuc 93 ∷ pos 2566 ∷ pos 4088 ∷ pos 3508 ∷ pos 0 ∷ negsuc 919 ∷ pos 0 ∷ pos 0 ∷ pos 3202 ∷ negsuc 4855 ∷ pos 3092 ∷ negsuc 1957 ∷ pos 3538 ∷ pos 1666 ∷ pos 1454 ∷ negsuc 219 ∷ pos 4712 ∷ pos 1226 ∷ negsuc 437 ∷ pos 414 ∷ pos 194 ∷ pos 240 ∷ pos 0 ∷ negsuc 773 ∷ negsuc 6335 ∷ pos 2566 ∷ negsuc 3601 ∷ pos 0 ∷ pos 0 ∷ pos 560 ∷ pos 3390 ∷ negsuc 3635 ∷ negsuc 787 ∷ negsuc 6357 ∷ negsuc 4471 ∷ pos 2184 ∷ pos 1872 ∷ negsuc 2257 ∷ pos 936 ∷ negsuc 302 ∷ pos 427 ∷ negsuc 146 ∷ pos 43 ∷ pos 0 ∷ negsuc 2415 ∷ negsuc 4470 ∷ pos 0 ∷ negsuc 1489 ∷ pos 2566 ∷ pos 0 ∷ negsuc 754 ∷ pos 6862 ∷ negsuc 5590 ∷ pos 1933 ∷ negsuc 3501 ∷ pos 439 ∷ pos 1546 ∷ pos 3158 ∷ negsuc 3301 ∷ pos 2136 ∷ negsuc 197 ∷ pos 152 ∷ pos 158 ∷ pos 460 ∷ pos 0 ∷ negsuc 841 ∷ negsuc 4445 ∷ pos 0 ∷ negsuc 1557 ∷ pos 0 ∷ pos 2566 ∷ pos 218 ∷ negsuc 1841 ∷ negsuc 553 ∷ negsuc 1937 ∷ negsuc 4701 ∷ negsuc 5149 ∷ negsuc 945 ∷ negsuc 1543 ∷ negsuc 1547 ∷ negsuc 199007 ∷ negsuc 11767 ∷ negsuc 8279 ∷ negsuc 21841 ∷ negsuc 7365 ∷ pos 0 ∷ negsuc 117951 ∷ pos 98494 ∷ pos 0 ∷ pos 395356 ∷ pos 0 ∷ pos 0 ∷ negsuc 34293 ∷ pos 445400 ∷ pos 93248 ∷ pos 336510 ∷ pos 219536 ∷ pos 269060 ∷ pos 48696 ∷ negsuc 16911 ∷ negsuc 134459 ∷ pos 12094 ∷ negsuc 4169 ∷ pos 3590 ∷ negsuc 15 ∷ pos 3234 ∷ pos 0 ∷ negsuc 37949 ∷ negsuc 53045 ∷ pos 0 ∷ negsuc 5363 ∷ pos 0 ∷ pos 0 ∷ negsuc 7849 ∷ pos 34454 ∷ negsuc 39115 ∷ pos 7472 ∷ negsuc 60847 ∷ negsuc 48199 ∷ pos 1460 ∷ pos 6750 ∷ negsuc 47297 ∷ pos 1166 ∷ negsuc 2046 ∷ pos 107 ∷ pos 1141 ∷ pos 2721 ∷ pos 0 ∷ pos 302 ∷ negsuc 33600 ∷ pos 0 ∷ negsuc 8473 ∷ pos 0 ∷ pos 0 ∷ pos 1217 ∷ negsuc 17215 ∷ pos 12727 ∷ pos 881 ∷ negsuc 44787 ∷ negsuc 37742 ∷ negsuc 15909 ∷ negsuc 25733 ∷ negsuc 15303 ∷ pos 4124 ∷ negsuc 2140 ∷ pos 2797 ∷ pos 257 ∷ negsuc 144 ∷ pos 0 ∷ negsuc 1937 ∷ negsuc 30812 ∷ pos 0 ∷ negsuc 13593 ∷ pos 0 ∷ pos 0 ∷ pos 517 ∷ pos 51036 ∷ negsuc 32764 ∷ pos 18545 ∷ negsuc 24651 ∷ pos 6337 ∷ pos 14718 ∷ pos 18114 ∷ negsuc 9273 ∷ []
