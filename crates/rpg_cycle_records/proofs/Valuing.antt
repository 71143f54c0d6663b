-- The bytes of match fields, from M9 down.
use Rattle.std.proofs.Common.{◌≡◌, ℕ, ◌+◌, ◌-◌, ◌<◌, suc, List, ◌++◌, sym, ap, ◌∙◌, arith}
use Rattle.std.proofs.lemmas.List.{append_assoc}
use Rattle.rpg_program.specs.declared.input.ControlField.{ControlField}
use Rattle.rpg_cycle_records.specs.Levels.{joined_bytes}
use Rattle.rpg_cycle_records.specs.Matching.{joined_down}

-- one level less
one_down : (fs : List ControlField) (text : List ℕ) (i : ℕ) → i < 9 → joined_down fs text (9 - i) ≡ joined_bytes fs text (9 - i) ++ joined_down fs text (9 - (i + 1))
one_down fs text i low =
    let e : 9 - i ≡ suc (9 - (i + 1)) = omega (arith, low) in
    let n : 9 - (i + 1) + 1 ≡ 9 - i = omega (arith, low) in
    ap (joined_down fs text) e ∙ ap (λ (k : ℕ). joined_bytes fs text k ++ joined_down fs text (9 - (i + 1))) n

pub joined_so_far : (fs : List ControlField) (text bytes more : List ℕ) (i : ℕ) → i < 9 → more ≡ bytes ++ joined_bytes fs text (9 - i) →
    more ++ joined_down fs text (9 - (i + 1)) ≡ bytes ++ joined_down fs text (9 - i)
joined_so_far fs text bytes more i low e =
    ap (λ (xs : List ℕ). xs ++ joined_down fs text (9 - (i + 1))) e
    ∙ append_assoc bytes (joined_bytes fs text (9 - i)) (joined_down fs text (9 - (i + 1)))
    ∙ ap (λ (xs : List ℕ). bytes ++ xs) (sym (one_down fs text i low))
