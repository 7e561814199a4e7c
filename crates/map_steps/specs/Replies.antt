-- Replies to calls, and the numbers of the answers of a grow.
use Rattle.std.specs.Prelude.{ℕ, Result}
use Rattle.words.specs.declared.refusal.Refusal.{Refusal}
use Rattle.map_steps.specs.declared.reply.Done.{Done}
use Rattle.map_steps.specs.declared.reply.Grown.{Grown}
use Rattle.map_steps.specs.declared.reply.Grown.TheVariants.{Nothing, Listed, Finished}

-- The reply to any call: what it did, or why it was refused.
abbrev pub Reply : Type 0
Reply = Result Done Refusal

abbrev pub grown_number : Grown → ℕ
grown_number Nothing = 0
grown_number Listed = 1
grown_number Finished = 2
