use Rattle.std.proofs.Common.{◌≡◌, ℕ, true, List, [], ◌∷◌, Some, refl, sym, ◌∙◌, ap}
use Rattle.std.specs.Prelude.{not}
use Rattle.std.specs.List.{list_all}
use Rattle.std.proofs.lemmas.Bool.{and_parts}
use Rattle.rpg_sheet_specs.specs.Values.{is_apostrophe, undoubled}
use Rattle.rpg_sheet_values.proofs.literals.text_within.Goals as goal

none_doubled : (t : List ℕ) → list_all (λ c. not (is_apostrophe c)) t ≡ true → Some t ≡ undoubled t
none_doubled [] all = refl
none_doubled (c ∷ []) all = rw (and_parts (not (is_apostrophe c)) true all).0 refl
none_doubled (c ∷ d ∷ cs) all =
    let both = and_parts (not (is_apostrophe c)) (list_all (λ c. not (is_apostrophe c)) (d ∷ cs)) all in
    rw (both.0, sym (none_doubled (d ∷ cs) both.1)) refl

pub returns-then-has_no_apostrophe : goal.returns-then-has_no_apostrophe
returns-then-has_no_apostrophe g c = ap (λ (t : List ℕ). Some t) c.new.ensures ∙ none_doubled c.args.text.now (sym c.has_no_apostrophe.ensures ∙ c.if-has_no_apostrophe.true)
