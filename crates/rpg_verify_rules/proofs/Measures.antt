-- Levels whose joined length is measured, one after the other.
use Rattle.std.proofs.Common.{◌≡◌, ℕ, ◌+◌, true, false, ◌&&◌, List, [], ◌∷◌, ap}
use Rattle.rpg_program.specs.declared.input.ControlField.{ControlField}
use Rattle.rpg_verify_rules.specs.TypeRules.{all_measured, is_measured, joined_width}

pub measured_on : (level m : ℕ) (ms : List ℕ) (cs : List ControlField) → is_measured m (joined_width level cs) ≡ true → all_measured level (m ∷ ms) cs ≡ all_measured (level + 1) ms cs
measured_on level m [] cs h = h
measured_on level m (n ∷ ms) cs h = ap (λ b. b && all_measured (level + 1) (n ∷ ms) cs) h

pub not_measured : (level m : ℕ) (ms : List ℕ) (cs : List ControlField) → is_measured m (joined_width level cs) ≡ false → all_measured level (m ∷ ms) cs ≡ false
not_measured level m [] cs h = h
not_measured level m (n ∷ ms) cs h = ap (λ b. b && all_measured (level + 1) (n ∷ ms) cs) h
