-- An indicator that no card tests, or that none turns on for others to test.
use Rattle.std.proofs.Common.{◌≡◌, ℕ, Bool, true, false, not, ◌&&◌, cond, List, ◌++◌, Option, None, refl, sym, ap, ◌∙◌, append-nil, append_assoc}
use Rattle.std.specs.List.{list_any}
use Rattle.std.specs.Option.{option_map, option_to_list}
use Rattle.std.specs.Prelude.{find, is_some, nat_le}
use Rattle.rpg_cards.specs.declared.spec_card.SpecCard.{SpecCard}
use Rattle.rpg_cli_warnings.proofs.Marking.{none_found, one_found}
use Rattle.rpg_cli_warnings.specs.Indicators.{tests_indicator, card_has_level, indicator_warnings, is_level, is_of_cards, never_tested, never_tested_at, never_on, never_on_at, no_level, no_level_at, shows, turns_on}
use Rattle.rpg_warnings_lines.specs.declared.warning.Warning.{Warning}

nothing : (b : Bool) (f : SpecCard → Warning) (found : Option SpecCard) → found ≡ None → cond b (option_map f found) None ≡ None
nothing true f found is = ap (option_map f) is
nothing false f found is = refl

untested_on : (n : ℕ) (cards : List SpecCard) → list_any (tests_indicator n) cards ≡ false → never_on n cards ≡ None
untested_on n cards is = nothing (is_of_cards n && not (list_any (turns_on n) cards)) (never_on_at n) (find (tests_indicator n) cards) (none_found (tests_indicator n) cards is)

untested_level : (n : ℕ) (cards : List SpecCard) → list_any (tests_indicator n) cards ≡ false → no_level n cards ≡ None
untested_level n cards is = nothing (is_level n && not (list_any (turns_on n) cards) && not (list_any (card_has_level n) cards)) (no_level_at n) (find (tests_indicator n) cards) (none_found (tests_indicator n) cards is)

unshown : (n : ℕ) (cards : List SpecCard) → list_any (shows n) cards ≡ false → never_tested n cards ≡ None
unshown n cards is = nothing (nat_le n 99 && not (is_some (find (tests_indicator n) cards))) (never_tested_at n) (find (shows n) cards) (none_found (shows n) cards is)

tested : (n : ℕ) (cards : List SpecCard) → list_any (tests_indicator n) cards ≡ true → never_tested n cards ≡ None
tested n cards is = ap (λ b. cond (nat_le n 99 && not b) (option_map (never_tested_at n) (find (shows n) cards)) None) (one_found (tests_indicator n) cards is) ∙ by (nat_le n 99)
  where
    by : (b : Bool) → cond (b && false) (option_map (never_tested_at n) (find (shows n) cards)) None ≡ None
    by true = refl
    by false = refl

-- ---- what is put, as the warnings of the indicator

module _ (old : List Warning) (n : ℕ) (cards : List SpecCard) where
  abbrev three : Option Warning → Option Warning → Option Warning → List Warning
  three a b c = old ++ (option_to_list a ++ option_to_list b ++ option_to_list c)

  pub if_tested : (one two : List Warning) → list_any (tests_indicator n) cards ≡ true → one ≡ old ++ option_to_list (never_on n cards) → two ≡ one ++ option_to_list (no_level n cards) → two ≡ old ++ indicator_warnings n cards
  if_tested one two is first second =
      second ∙ ap (λ ws. ws ++ option_to_list (no_level n cards)) first ∙ append_assoc old (option_to_list (never_on n cards)) (option_to_list (no_level n cards))
      ∙ ap (λ ws. old ++ (ws ++ option_to_list (no_level n cards))) (sym (append-nil (option_to_list (never_on n cards))))
      ∙ ap (λ b. three (never_on n cards) b (no_level n cards)) (sym (tested n cards is))

  pub if_shown : (one : List Warning) → list_any (tests_indicator n) cards ≡ false → one ≡ old ++ option_to_list (never_tested n cards) → one ≡ old ++ indicator_warnings n cards
  if_shown one is put =
      put ∙ ap (λ ws. old ++ ws) (sym (append-nil (option_to_list (never_tested n cards))))
      ∙ ap (λ a. three a (never_tested n cards) None) (sym (untested_on n cards is))
      ∙ ap (λ c. three (never_on n cards) (never_tested n cards) c) (sym (untested_level n cards is))

  pub if_neither : list_any (tests_indicator n) cards ≡ false → list_any (shows n) cards ≡ false → old ≡ old ++ indicator_warnings n cards
  if_neither is isnt = if_shown old is (sym (append-nil old) ∙ ap (λ b. old ++ option_to_list b) (sym (unshown n cards isnt)))
