-- Whether a card is left as it was.
use Rattle.std.specs.Prelude.{Bool, true, false}
use Rattle.rpg_fit_deck.specs.declared.here.Here.{Here}
use Rattle.rpg_fit_deck.specs.declared.here.Here.TheVariants.{Kept, Changed, Gone}

-- the card is unchanged
abbrev pub is_kept : Here → Bool
is_kept Kept = true
is_kept (Changed _) = false
is_kept Gone = false
