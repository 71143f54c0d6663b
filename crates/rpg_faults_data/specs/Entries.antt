-- Entries one by one, each after the one before it.
use Rattle.std.specs.Prelude.{◌≤◌, List, [], ◌∷◌, ℕ, Bool, false, ◌&&◌, ◌||◌, Option, None, Some, map}
use Rattle.std.specs.List.{range_with_len}
use Rattle.std.specs.Option.{option_map_or}
use Rattle.rpg_faults_data.specs.Data.{entry_on, is_bad, is_lower}
use Rattle.rpg_faults_data.specs.declared.layout.Layout.{Layout}
use Rattle.rpg_sheet_specs.specs.declared.extension.TableSpec.{TableSpec}

-- bad, or in an ascending table lower than the entry before it
abbrev pub is_wrong : TableSpec → Option (List ℕ) → List ℕ → Bool
is_wrong t before x = is_bad t.decimals x || (t.ascending && option_map_or (λ b. is_lower t.decimals x b) before false)

-- one of the entries is wrong, seen with the one before it
abbrev pub any_wrong : TableSpec → Option (List ℕ) → List (List ℕ) → Bool
any_wrong t before [] = false
any_wrong t before (x ∷ xs) = is_wrong t before x || any_wrong t (Some x) xs

-- the texts of this many entries on a data card, by their layout
abbrev pub texts_on_card : Layout → List ℕ → ℕ → List (List ℕ)
texts_on_card l card n = map (entry_on l.width l.from l.length card) (range_with_len 0 n)

-- what a number is read from
abbrev pub HasNumberSize : Option ℕ → ℕ → Type 0
HasNumberSize None len = Unit {0}
HasNumberSize (Some decimals) len = (1 ≤ len) × (len ≤ 15)
