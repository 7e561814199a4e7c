-- The products of the columns with the direction Y.
use Rattle.std.proofs.Common.{◌≡◌, ℕ, ◌+◌, ◌<◌, List, ℤ, pos, ◌*ℤ◌, ◌≤ℤ◌, ◌<ℤ◌, Some, None, sym, refl, ap, ◌∙◌, subst, arith}
use Rattle.exact.specs.Vectors.{dot}
use Rattle.exact.proofs.Sums.{sum_cong}
use Rattle.plant.specs.Commands.{column}
use Rattle.plant.specs.Meaning.{Meaning, shape_of}
use Rattle.tableau.specs.Artificial.{is_artificial}
use Rattle.tableau.specs.Plants.{commands, limits, all_columns, SearchCorner}
use Rattle.tableau.specs.Search.{direction}
use Rattle.tableau.proofs.Artificial.{extended_true}
use Rattle.tableau.proofs.Simplex.{dot_point}
use Rattle.words.specs.declared.counts.Shape.{Shape}
use Rattle.tableau_words.specs.Artificial.{ArtificialSum}
use Rattle.tableau_words.specs.Layout.{limit_column}
use Rattle.tableau_words.proofs.Across.{in_limit}
use Rattle.corner_words.specs.Corners.{Holding}
use Rattle.corner_runs.specs.Answers.{HoldsSearch, SomeSearch, AlongAnswer, StoppingAnswer}

pub searching : (c : Shape) (ws : List ℤ) → SomeSearch c ws → Holding c ws
searching c ws S = record { p = S.p; n = limits S.p + commands S.p; a = all_columns S.p; X = S.X; shape = S.shape; all = omega arith; few = omega arith; holds = S.holds }

-- The sum of T_rj over the rows of artificial limits is a_j · Y.
pub along_is : (c : Shape) (j : ℕ) (ws : List ℤ) (z : ℤ) → j < c.limits → ArtificialSum c (limit_column c j) ws z → AlongAnswer c j ws z
along_is c j ws z known A = λ p X s H.
    let known' : j < limits p = subst (λ (c : Shape). j < c.limits) s known in
    let A' : ArtificialSum (shape_of p) (limit_column (shape_of p) j) ws z = subst (λ (c : Shape). ArtificialSum c (limit_column c j) ws z) s A in
    A' p (all_columns p) X.β X.D X.U refl H.held
    ∙ sum_cong (commands p) _ _ (λ r l. ap (λ x. is_artificial (limits p) (X.β r) *ℤ x) (in_limit p (all_columns p) X.β X.D X.U r j))
    ∙ sym (dot_point (commands p) (all_columns p) X.β X.D X.U X.inverse (all_columns p j) (is_artificial (limits p)))
    ∙ ap (λ f. dot (commands p) f (direction p X)) (extended_true (limits p) _ (column p) j known')

-- The limits below k do not stop Y.
abbrev pub NoneBelow : Shape → List ℤ → ℕ → Type 0
NoneBelow c ws k = (i : ℕ) → i < k → (p : Meaning) (X : SearchCorner p) → c ≡ shape_of p → HoldsSearch p X ws → dot (commands p) (column p i) (direction p X) ≤ℤ pos 0

pub passed : (c : Shape) (ws : List ℤ) (j : ℕ) (z : ℤ) → AlongAnswer c j ws z → z ≤ℤ pos 0 → (p : Meaning) (X : SearchCorner p) → c ≡ shape_of p → HoldsSearch p X ws → dot (commands p) (column p j) (direction p X) ≤ℤ pos 0
passed c ws j z A h p X s H = subst (λ x. x ≤ℤ pos 0) (A p X s H) h

pub found : (c : Shape) (ws : List ℤ) (j : ℕ) (z : ℤ) → j < c.limits → AlongAnswer c j ws z → pos 0 <ℤ z → NoneBelow c ws j → StoppingAnswer c ws (Some j)
found c ws j z known A h none = λ p X s H. record { known = subst (λ (c : Shape). j < c.limits) s known; stops = subst (λ x. pos 0 <ℤ x) (A p X s H) h; least = λ i l. none i l p X s H }

pub ended : (c : Shape) (ws : List ℤ) → NoneBelow c ws c.limits → StoppingAnswer c ws None
ended c ws none = λ p X s H j l. none j (rw s l) p X s H

-- It is one of the plant's limits.
pub known : (c : Shape) (ws : List ℤ) (j : ℕ) → SomeSearch c ws → StoppingAnswer c ws (Some j) → j < c.limits
known c ws j S A = rw S.shape (A S.p S.X S.shape S.holds).known
