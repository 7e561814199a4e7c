-- One row more is written.
use borrow.Rule.Slice.PartMut.{put_mid}
use Rattle.std.proofs.Common.{◌≡◌, ℕ, ◌+◌, ◌*◌, ◌≤◌, List, length, ℤ, ◌∙◌, ⊎_elim, arith}
use Rattle.std.proofs.lemmas.Bool.{cases_order}
use Rattle.rows.proofs.Grid.{within, elsewhere}
use Rattle.plant_table.specs.Places.{Holds, RowsHold}

pub row_written : (w r : ℕ) (f : ℕ → ℕ → ℤ) (xs ys : List ℤ) → r * w + w ≤ length xs → length ys ≡ w → Holds w (f r) ys → RowsHold w r w f xs → RowsHold w (r + 1) w f (put_mid (r * w) w xs ys)
row_written w r f xs ys in' long here old j i h l = ⊎_elim
    (λ e. rw e (within (r * w) w xs ys in' long i l ∙ here i l))
    (λ s. ⊎_elim
    (λ less. elsewhere r w xs ys in' long j i (λ e. omega arith) l ∙ old j i less l)
    (λ more. absurd (omega arith))
    s)
    (cases_order j r)
