-- A card of another sheet passes no limit of a sheet.
use Rattle.std.proofs.Common.{◌≡◌, ℕ, ◌+◌, Bool, true, false, cond, ◌&&◌, List, [], ◌∷◌, ◌++◌, length, Option, None, Some, refl, ap, ◌∙◌, arith, add-zero}
use Rattle.std.proofs.lemmas.Bool.{leb-true}
use Rattle.std.proofs.lemmas.Bool.Decides.{nat_tests}
use Rattle.std.specs.Option.{option_or}
use Rattle.std.specs.Prelude.{nat_le, nat_lt}
use Rattle.rpg_cards.proofs.GroupLemmas.{groups-push, one_if_heading, open_group-push}
use Rattle.rpg_cards.specs.Cards.{input_on, output_on}
use Rattle.rpg_cards.specs.Groups.{Apart, Role, group_count, groups, input_card_role, input_role, open_group, output_card_role, output_role, role_on, with_card}
use Rattle.rpg_cards.specs.declared.spec_card.SpecCard.{SpecCard}
use Rattle.rpg_faults_limits.specs.Causes.{measure_of, first_past, of_count, on_lines, on_types}
use Rattle.rpg_faults_limits.specs.Limits.{alternative_count, code_count, condition_count, field_count, in_open, level_count, of_line, of_type, output_field_count}
use Rattle.rpg_faults_limits.specs.declared.measures.Measure.{Measure}
use Rattle.rpg_faults_limits.specs.declared.measures.Limit.TheVariants as limit
use Rattle.rpg_faults_limits.specs.declared.measures.LimitCause.{LimitCause}
use Rattle.rpg_faults_limits.specs.declared.measures.LimitCause.TheVariants.{Passed}
use Rattle.rpg_sheet_specs.specs.declared.input.InputSpec.{InputSpec}
use Rattle.rpg_sheet_specs.specs.declared.input.RecordType.{RecordType}
use Rattle.rpg_sheet_specs.specs.declared.output.OutputRecord.{OutputRecord}
use Rattle.rpg_sheet_specs.specs.declared.output.OutputSpec.{OutputSpec}

-- a limit that is kept isn't passed by as many
pub not_past : (n most with : ℕ) → with ≡ n → (nat_le n most && nat_lt most with) ≡ false
not_past n most with same = by (nat_le n most) refl
  where
    by : (b : Bool) → nat_le n most ≡ b → (b && nat_lt most with) ≡ false
    by true e = let low = leb-true n most e in grind (arith, nat_tests)
    by false e = refl

-- what is as many with the card as before it
unchanged : (k : Measure) → k.with ≡ k.before → of_count k ≡ None
unchanged k same = ap (λ b. cond b (Some (Passed k.limit k.with)) None) (not_past k.before k.most k.with same)

pub none_of_four : (a b c d : Measure) → of_count a ≡ None → of_count b ≡ None → of_count c ≡ None → of_count d ≡ None → first_past (a ∷ b ∷ c ∷ d ∷ []) ≡ None
none_of_four a b c d no_a no_b no_c no_d =
    ap (λ (o : Option LimitCause). option_or o (first_past (b ∷ c ∷ d ∷ []))) no_a
    ∙ ap (λ (o : Option LimitCause). option_or o (first_past (c ∷ d ∷ []))) no_b
    ∙ ap (λ (o : Option LimitCause). option_or o (first_past (d ∷ []))) no_c
    ∙ ap (λ (o : Option LimitCause). option_or o (first_past [])) no_d

pub no_types : (before : List SpecCard) (c : SpecCard) → input_on c.spec ≡ None → on_types before c ≡ None
no_types before c none =
    let apart : input_role c.spec ≡ Apart = ap (role_on input_card_role) none in
    let group : open_group input_role (before ++ c ∷ []) ≡ open_group input_role before =
    open_group-push input_role before c ∙ ap (λ (r : Role RecordType InputSpec). with_card (open_group input_role before) r) apart in
    let number : group_count input_role (before ++ c ∷ []) ≡ group_count input_role before =
    groups-push input_role before c ∙ ap (λ (r : Role RecordType InputSpec). length (groups input_role before) + one_if_heading r) apart ∙ add-zero (length (groups input_role before)) in
    none_of_four (measure_of limit.RecordTypes (group_count input_role) 200 before c) (measure_of limit.Codes (of_type code_count) 100 before c) (measure_of limit.ControlFields (of_type level_count) 100 before c)
    (measure_of limit.InputFields (of_type field_count) 500 before c)
    (unchanged (measure_of limit.RecordTypes (group_count input_role) 200 before c) number)
    (unchanged (measure_of limit.Codes (of_type code_count) 100 before c) (ap (in_open code_count) group))
    (unchanged (measure_of limit.ControlFields (of_type level_count) 100 before c) (ap (in_open level_count) group))
    (unchanged (measure_of limit.InputFields (of_type field_count) 500 before c) (ap (in_open field_count) group))

pub no_lines : (before : List SpecCard) (c : SpecCard) → output_on c.spec ≡ None → on_lines before c ≡ None
no_lines before c none =
    let apart : output_role c.spec ≡ Apart = ap (role_on output_card_role) none in
    let group : open_group output_role (before ++ c ∷ []) ≡ open_group output_role before =
    open_group-push output_role before c ∙ ap (λ (r : Role OutputRecord OutputSpec). with_card (open_group output_role before) r) apart in
    let number : group_count output_role (before ++ c ∷ []) ≡ group_count output_role before =
    groups-push output_role before c ∙ ap (λ (r : Role OutputRecord OutputSpec). length (groups output_role before) + one_if_heading r) apart ∙ add-zero (length (groups output_role before)) in
    none_of_four (measure_of limit.Lines (group_count output_role) 1000 before c) (measure_of limit.Alternatives (of_line alternative_count) 50 before c)
    (measure_of limit.Conditions (of_line condition_count) 60 before c) (measure_of limit.OutputFields (of_line output_field_count) 200 before c)
    (unchanged (measure_of limit.Lines (group_count output_role) 1000 before c) number)
    (unchanged (measure_of limit.Alternatives (of_line alternative_count) 50 before c) (ap (in_open alternative_count) group))
    (unchanged (measure_of limit.Conditions (of_line condition_count) 60 before c) (ap (in_open condition_count) group))
    (unchanged (measure_of limit.OutputFields (of_line output_field_count) 200 before c) (ap (in_open output_field_count) group))
