-- The columns of a layout are those that are seen of it.
use Rattle.std.proofs.Common.{◌≡◌, ℕ, ◌+◌, max, List, [], ◌∷◌, refl, ap, ap₂, fold, sum_by, map}
use Rattle.rpg_records.specs.Seen.{NumberSeen, columns_seen, digits_seen, layout_seen, most_seen, number_seen, type_seen}
use Rattle.rpg_records.specs.Sizes.{longest_line, counted, field_digits, most_digits}
use Rattle.rpg_records.specs.declared.layout.Layout.{Layout}
use Rattle.rpg_records.specs.declared.layout.NumberField.{NumberField}
use Rattle.rpg_records.specs.declared.layout.RecordType.{RecordType}

same_sum : (n : ℕ) (fs : List NumberField) → fold (λ (a : ℕ) (f : NumberField). a + field_digits f) n fs ≡ fold (λ (a : ℕ) (f : NumberSeen). a + digits_seen f) n (map number_seen fs)
same_sum n [] = refl
same_sum n (f ∷ fs) = same_sum (n + field_digits f) fs

same_digits : (fs : List NumberField) → sum_by field_digits fs ≡ sum_by digits_seen (map number_seen fs)
same_digits fs = same_sum 0 fs

same_most : (ts : List RecordType) → most_digits ts ≡ most_seen (map type_seen ts)
same_most [] = refl
same_most (t ∷ ts) = ap₂ (λ (a b : ℕ). max (counted a) b) (same_digits t.numbers.items) (same_most ts)

pub columns_are_seen : (layout : Layout) → longest_line layout ≡ columns_seen (layout_seen layout)
columns_are_seen layout = ap (λ (n : ℕ). counted (n + layout.length)) (same_most layout.types.items)
