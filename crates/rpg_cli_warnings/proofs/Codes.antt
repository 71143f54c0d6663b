-- A set without codes neither allows nor denies a warning.
use Rattle.std.proofs.Common.{◌≡◌, ℕ, ◌<◌, Bool, true, false, not, cond, List, [], ◌∷◌, get_or, length, Option, None, Some, refl, ap, ◌∙◌, lit<}
use Rattle.std.proofs.lemmas.List.Folds.{list_all_at}
use Rattle.std.specs.List.{list_all}
use Rattle.std.specs.Prelude.{filter, find}
use Rattle.rpg_cli_values.specs.Codes.{has}
use Rattle.rpg_cli_values.specs.declared.code.WarningCode.{WarningCode}
use Rattle.rpg_cli_values.specs.declared.code.WarningCode.TheVariants.{W1, W2, W3, W4, W5, W6, W7, W8, W9, W10, W11, W12, W13, W14, W15}
use Rattle.rpg_cli_values.specs.declared.codes.WarningCodes.{WarningCodes}
use Rattle.rpg_cli_warnings.specs.Warned.{is_denied}
use Rattle.rpg_cli_warnings.specs.Warnings.{is_wanted}
use Rattle.rpg_cli_warnings.specs.declared.warnings.TheConstants.{CODES}
use Rattle.rpg_warnings_lines.specs.Kinds.{code}
use Rattle.rpg_warnings_lines.specs.declared.warning.Warning.{Warning}

module _ (codes : WarningCodes) (none : list_all (λ code. not (has codes code)) CODES ≡ true) where
  missing_at : (i : ℕ) (c : WarningCode) → i < length CODES → get_or CODES i W1 ≡ c → has codes c ≡ false
  missing_at i c within is = by (has codes c) refl
    where
      by : (b : Bool) → has codes c ≡ b → b ≡ false
      by true there = let some : list_all (λ code. not (has codes code)) CODES ≡ false = list_all_at (λ code. not (has codes code)) CODES i W1 within (ap (λ x. not (has codes x)) is ∙ ap not there) in absurd cc
      by false there = refl

  missing : (c : WarningCode) → has codes c ≡ false
  missing W1 = missing_at 0 W1 (lit< tt) refl
  missing W2 = missing_at 1 W2 (lit< tt) refl
  missing W3 = missing_at 2 W3 (lit< tt) refl
  missing W4 = missing_at 3 W4 (lit< tt) refl
  missing W5 = missing_at 4 W5 (lit< tt) refl
  missing W6 = missing_at 5 W6 (lit< tt) refl
  missing W7 = missing_at 6 W7 (lit< tt) refl
  missing W8 = missing_at 7 W8 (lit< tt) refl
  missing W9 = missing_at 8 W9 (lit< tt) refl
  missing W10 = missing_at 9 W10 (lit< tt) refl
  missing W11 = missing_at 10 W11 (lit< tt) refl
  missing W12 = missing_at 11 W12 (lit< tt) refl
  missing W13 = missing_at 12 W13 (lit< tt) refl
  missing W14 = missing_at 13 W14 (lit< tt) refl
  missing W15 = missing_at 14 W15 (lit< tt) refl

  pub all_wanted : (ws : List Warning) → filter (is_wanted codes) ws ≡ ws
  unfolding is_wanted
  all_wanted [] = refl
  all_wanted (w ∷ ws) =
      ap (λ b. cond (not b) (w ∷ filter (is_wanted codes) ws) (filter (is_wanted codes) ws)) (missing (code w.kind)) ∙ ap (λ (xs : List Warning). w ∷ xs) (all_wanted ws)

  pub none_denied : (ws : List Warning) → find (is_denied codes) ws ≡ None
  unfolding is_denied
  none_denied [] = refl
  none_denied (w ∷ ws) = ap (λ b. cond b (Some w) (find (is_denied codes) ws)) (missing (code w.kind)) ∙ none_denied ws
