use Rattle.std.proofs.Common.{◌≡◌, ℕ, Bool, length, map}
use Rattle.std.specs.List.{range_with_len}
use Rattle.rpg_record_decks.specs.Kinds.{column_kind}
use Rattle.rpg_record_decks.proofs.kinds.kinds.Given as goal

abbrev pub invariant-loop-place : goal.invariant-loop-place
invariant-loop-place l =
    (f : ℕ → Bool) → l.are_codes ≡ map f (range_with_len 1 (length l.are_codes)) → l.all.items ≡ map (λ (k : ℕ). column_kind (f k) l.fields k) (range_with_len 1 l.place)
