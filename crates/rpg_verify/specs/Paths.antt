-- Forward paths inside a section, and the cost of a place: the greatest sum of weights along one.
use Rattle.std.specs.Prelude.{◌≡◌, ℕ, ◌+◌, ◌-◌, ◌<◌, ◌≤◌, ◌⊎◌, Bool, false, List, [], ◌∷◌, Option, None, Some, max, nat_le, nat_lt, slice_get, slice_index, if◌then◌else◌}
use Rattle.rpg_program.specs.declared.operation.Instruction.{Instruction}
use Rattle.rpg_program.specs.declared.operation.Instruction.TheVariants.{Act, Except, Branch, Call, Return}
use Rattle.rpg_program.specs.Control.{always_goes}

-- a section with its first place and its instructions
pub record SectionCode : Type 0 where
  pub first : ℕ
  pub code : List (Instruction ℕ)

-- the instruction at a place of the section
abbrev pub at_place : SectionCode → ℕ → Option (Instruction ℕ)
at_place s place = if nat_le s.first place then slice_get s.code (place - s.first) else None

-- Whether a place can come right after another one with this instruction, and is later. After a call comes the next place, and after a
-- return none. After a jump without conditions comes only its target.
abbrev pub Follows : ℕ → Instruction ℕ → ℕ → Type 0
Follows place (Act a) next = next ≡ place + 1
Follows place Except next = next ≡ place + 1
Follows place (Branch is_taken_where cs target) next = (place < next) × ((next ≡ target) ⊎ ((next ≡ place + 1) × (always_goes is_taken_where cs ≡ false)))
Follows place (Call s) next = next ≡ place + 1
Follows place (Return s) next = ⊥

-- there is an instruction at the place
abbrev pub IsPlace : SectionCode → ℕ → Type 0
IsPlace s place = (i : Instruction ℕ) × (at_place s place ≡ Some i)

-- control may go from one place to the other
abbrev pub Leads : SectionCode → ℕ → ℕ → Type 0
Leads s place next = (i : Instruction ℕ) × (at_place s place ≡ Some i) × Follows place i next

-- places of the section, each of which can come right after the previous one
abbrev pub IsPath : SectionCode → List ℕ → Type 0
IsPath s [] = Unit {0}
IsPath s (x ∷ []) = IsPlace s x
IsPath s (x ∷ y ∷ rest) = Leads s x y × IsPath s (y ∷ rest)

-- the path begins at the place, unless it is empty
abbrev pub IsFrom : ℕ → List ℕ → Type 0
IsFrom place [] = Unit {0}
IsFrom place (x ∷ xs) = x ≡ place

-- ---- how it is computed: one pass from the last place down

-- the cost of a later place, from the costs of the places after a place; 0 after the end
abbrev pub cost_ahead : ℕ → List ℕ → ℕ → ℕ
cost_ahead place costs next = if nat_lt place next then slice_index costs (next - (place + 1)) else 0

-- the cost of the next place, if control can fall through a branch
abbrev pub cost_passed : Bool → List ℕ → ℕ
cost_passed always costs = if always then 0 else slice_index costs 0

-- the greatest cost that may follow an instruction, without going back
abbrev pub cost_onward : ℕ → Instruction ℕ → List ℕ → ℕ
cost_onward place (Act a) costs = slice_index costs 0
cost_onward place Except costs = slice_index costs 0
cost_onward place (Branch is_taken_where cs target) costs = max (cost_ahead place costs target) (cost_passed (always_goes is_taken_where cs) costs)
cost_onward place (Call s) costs = slice_index costs 0
cost_onward place (Return s) costs = 0

module _ (weight : Instruction ℕ → ℕ) where
  -- the weight of the instruction at a place
  abbrev pub weight_in : Option (Instruction ℕ) → ℕ
  weight_in None = 0
  weight_in (Some i) = weight i

  -- the weight of a path
  abbrev pub weight_along : SectionCode → List ℕ → ℕ
  weight_along s [] = 0
  weight_along s (x ∷ xs) = weight_in (at_place s x) + weight_along s xs

  -- the greatest sum along a path from a place
  pub record IsCost (s : SectionCode) (place cost : ℕ) : Type 0 where
    pub above : (path : List ℕ) → IsPath s path → IsFrom place path → weight_along s path ≤ cost
    pub reached : (path : List ℕ) × IsPath s path × IsFrom place path × (weight_along s path ≡ cost)

  -- the costs of consecutive places
  abbrev pub with_cost : ℕ → Instruction ℕ → List ℕ → List ℕ
  with_cost place i costs = (weight i + cost_onward place i costs) ∷ costs

  -- the cost of each instruction of a section
  abbrev pub costs_from : ℕ → List (Instruction ℕ) → List ℕ
  costs_from place [] = []
  costs_from place (i ∷ is) = with_cost place i (costs_from (place + 1) is)

  -- the cost of each place of a section, in order; 0 at its end and after it
  abbrev pub AreCosts : SectionCode → List ℕ → Type 0
  AreCosts s costs = (x : ℕ) → s.first ≤ x → IsCost s x (slice_index costs (x - s.first))
