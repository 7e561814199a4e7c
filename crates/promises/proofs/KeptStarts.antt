-- A start says that there is no best exactly when there is none.
use Rattle.std.proofs.Common.{◌≡◌, ℕ, Err, refl}
use Rattle.plant.specs.Meaning.{Meaning}
use Rattle.tableau.specs.Search.{direction}
use Rattle.tableau.proofs.Corners.{no_better}
use Rattle.tableau.proofs.Searches.{better_direction}
use Rattle.words.specs.declared.refusal.Refusal.TheVariants.{NoBest}
use Rattle.trays.specs.Trays.{tray_size}
use Rattle.map_steps.specs.States.{View}
use Rattle.map_steps.specs.Steps.{Start, Step, start_begun, start_short, start_full, start_wide, start_no_best, started}
use Rattle.map_steps.specs.Replies.{Reply}
use Rattle.promises.specs.Promises.{BetterDirection, StartStopped, begun, short, full, width}

pub no_best_right : (v w : View) (k : ℕ) (p : Meaning) → Step v w (Start k p) (Err NoBest) → BetterDirection p
no_best_right v w k p (start_no_best made Y a b ended (r, l, left) e) = let (free, better) = better_direction p Y r l left ended in (direction p Y, free, better)

pub no_best_told : (v w : View) (k : ℕ) (p : Meaning) (r : Reply) → Step v w (Start k p) r → ¬ StartStopped r → BetterDirection p → r ≡ Err NoBest
no_best_told v w k p r (start_begun b e) stop d = absurd (stop begun)
no_best_told v w k p r (start_short n t e) stop d = absurd (stop (short tray_size))
no_best_told v w k p r (start_full n t f e) stop d = absurd (stop (full 0))
no_best_told v w k p r (start_wide {place = place} made j Y a b f q e) stop d = absurd (stop (width place))
no_best_told v w k p r (start_no_best made Y a b f g e) stop d = refl
no_best_told v w k p r (started Y X a b f g h i e) stop (y, free, better) = absurd (no_better p y X free better)
