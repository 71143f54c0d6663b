-- A card has a cause exactly if it passes a limit.
use Rattle.std.proofs.Common.{◌≡◌, Bool, true, false, cond, ◌||◌, List, [], ◌∷◌, Option, None, Some, refl, ap, ◌∙◌}
use Rattle.std.specs.List.{list_any}
use Rattle.std.specs.Option.{is_some, option_and_then, option_map_or, option_or}
use Rattle.rpg_cards.specs.Cards.{extension_on}
use Rattle.rpg_cards.specs.Groups.{group_count, input_role, output_role}
use Rattle.rpg_cards.specs.declared.spec_card.SpecCard.{SpecCard}
use Rattle.rpg_faults_limits.specs.Causes.{measure_of, first_past, passes_with_card, limit_cause, of_count, of_entries, on_calculations, on_lines, on_storage, on_subroutines, on_types}
use Rattle.rpg_faults_limits.specs.declared.measures.Measure.{Measure}
use Rattle.rpg_faults_limits.specs.declared.measures.Limit.TheVariants as limit
use Rattle.rpg_faults_limits.specs.declared.measures.LimitCause.TheVariants.{Entries, Passed}
use Rattle.rpg_faults_limits.specs.Limits.{alternative_count, bad_entries, bad_entries_of, bytes_up_to, calculation_count, code_count, condition_count, field_count, fields_up_to, level_count, name_bytes, name_count, of_line, of_type, output_field_count, passes_limit, passes_on_calculations, passes_on_lines, passes_on_types, passes_storage, passes_subroutines}
use Rattle.rpg_sheet_specs.specs.declared.extension.ExtensionSpec.{ExtensionSpec}

pub if_some : {C : Type 0} (b : Bool) (x : C) → is_some (cond b (Some x) None) ≡ b
if_some true x = refl
if_some false x = refl

pub or_some : {C : Type 0} (a b : Option C) → is_some (option_or a b) ≡ (is_some a || is_some b)
or_some None b = refl
or_some (Some x) b = refl

past_some : (ks : List Measure) → is_some (first_past ks) ≡ list_any passes_with_card ks
past_some [] = refl
past_some (k ∷ ks) =
    or_some (of_count k) (first_past ks)
    ∙ ap (λ b. b || is_some (first_past ks)) (if_some (passes_with_card k) (Passed k.limit k.with))
    ∙ ap (λ b. passes_with_card k || b) (past_some ks)

four : (a b c d : Bool) → (a || (b || (c || (d || false)))) ≡ (a || b || c || d)
four true b c d = refl
four false true c d = refl
four false false true d = refl
four false false false true = refl
four false false false false = refl

five : (a b c d e : Bool) → (e || (a || (b || (c || d)))) ≡ (a || b || c || d || e)
five true b c d true = refl
five true b c d false = refl
five false true c d true = refl
five false true c d false = refl
five false false true d true = refl
five false false true d false = refl
five false false false true true = refl
five false false false true false = refl
five false false false false true = refl
five false false false false false = refl

pub entries_some : (o : Option ExtensionSpec) → is_some (option_and_then of_entries o) ≡ option_map_or bad_entries_of o false
entries_some None = refl
entries_some (Some e) = if_some (bad_entries_of e) (Entries e.entries)

some_of_five : {C : Type 0} (e t l c s : Option C) → is_some (option_or e (option_or t (option_or l (option_or c s)))) ≡ (is_some e || (is_some t || (is_some l || (is_some c || is_some s))))
some_of_five e t l c s =
    or_some e (option_or t (option_or l (option_or c s)))
    ∙ ap (λ x. is_some e || x) (or_some t (option_or l (option_or c s)) ∙ ap (λ x. is_some t || x) (or_some l (option_or c s) ∙ ap (λ x. is_some l || x) (or_some c s)))

all_five : {C : Type 0} (e t l c s : Option C) (has_e has_t has_l has_c has_s : Bool) → is_some e ≡ has_e → is_some t ≡ has_t → is_some l ≡ has_l → is_some c ≡ has_c → is_some s ≡ has_s
    → is_some (option_or e (option_or t (option_or l (option_or c s)))) ≡ (has_t || has_l || has_c || has_s || has_e)
all_five e t l c s has_e has_t has_l has_c has_s is_e is_t is_l is_c is_s =
    some_of_five e t l c s
    ∙ five (is_some t) (is_some l) (is_some c) (is_some s) (is_some e)
    ∙ ap (λ b. b || is_some l || is_some c || is_some s || is_some e) is_t
    ∙ ap (λ b. has_t || b || is_some c || is_some s || is_some e) is_l
    ∙ ap (λ b. has_t || has_l || b || is_some s || is_some e) is_c
    ∙ ap (λ b. has_t || has_l || has_c || b || is_some e) is_s
    ∙ ap (λ b. has_t || has_l || has_c || has_s || b) is_e

calculations_some : (before : List SpecCard) (c : SpecCard) (after : List SpecCard) → is_some (on_calculations before c after) ≡ passes_on_calculations before c after
calculations_some before c after =
    let cards = measure_of limit.Calculations calculation_count 1000 before c in
    or_some (of_count cards) (on_subroutines before c after)
    ∙ ap (λ b. b || is_some (on_subroutines before c after)) (if_some (passes_with_card cards) (Passed cards.limit cards.with))
    ∙ ap (λ b. passes_with_card cards || b) (if_some (passes_subroutines before c after) (Passed limit.Subroutines 101))

four_some : (a b c d : Measure) → is_some (first_past (a ∷ b ∷ c ∷ d ∷ [])) ≡ (passes_with_card a || passes_with_card b || passes_with_card c || passes_with_card d)
four_some a b c d = past_some (a ∷ b ∷ c ∷ d ∷ []) ∙ four (passes_with_card a) (passes_with_card b) (passes_with_card c) (passes_with_card d)

pub limit_rule : (cards before : List SpecCard) (c : SpecCard) (after : List SpecCard) → is_some (limit_cause cards before c after) ≡ passes_limit cards before c after
unfolding limit_cause
limit_rule cards before c after =
    let types = four_some (measure_of limit.RecordTypes (group_count input_role) 200 before c) (measure_of limit.Codes (of_type code_count) 100 before c)
    (measure_of limit.ControlFields (of_type level_count) 100 before c) (measure_of limit.InputFields (of_type field_count) 500 before c) in
    let lines = four_some (measure_of limit.Lines (group_count output_role) 1000 before c) (measure_of limit.Alternatives (of_line alternative_count) 50 before c)
    (measure_of limit.Conditions (of_line condition_count) 60 before c) (measure_of limit.OutputFields (of_line output_field_count) 200 before c) in
    let storage = four_some (measure_of limit.Names name_count 4000 before c) (measure_of limit.NameBytes name_bytes 65535 before c)
    (measure_of limit.Bytes (bytes_up_to cards) 65535 before c) (measure_of limit.Fields (fields_up_to cards) 4000 before c) in
    all_five (option_and_then of_entries (extension_on c.spec)) (on_types before c) (on_lines before c) (on_calculations before c after) (on_storage cards before c)
    (bad_entries c) (passes_on_types before c) (passes_on_lines before c) (passes_on_calculations before c after) (passes_storage cards before c)
    (entries_some (extension_on c.spec)) types lines (calculations_some before c after) storage
