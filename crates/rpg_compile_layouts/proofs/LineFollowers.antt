-- Lines by the card in front, and what follows their headings.
use Rattle.std.proofs.Common.{◌≡◌, ℕ, ◌+◌, ◌<◌, ◌≤◌, List, [], ◌∷◌, ◌++◌, length, get_or, drop, map, Option, None, Some, refl, sym, ap, ◌∙◌, subst, arith}
use Rattle.std.proofs.lemmas.List.{at_drop_more}
use Rattle.std.specs.Option.{option_and_then, option_or}
use Rattle.std.specs.Prelude.{All}
use Rattle.rpg_cards.specs.Calculations.{standing}
use Rattle.rpg_cards.specs.Cards.{output_on, output_record_in, output_record_on}
use Rattle.rpg_cards.specs.Files.{file_by}
use Rattle.rpg_cards.specs.Groups.{followers, followers_with, groups_from, opening, output_card_role, output_role, role_on}
use Rattle.rpg_cards.specs.declared.spec_card.SpecCard.{SpecCard}
use Rattle.rpg_program.specs.Object.{LineRow}
use Rattle.rpg_program.specs.declared.condition.Condition.{Condition}
use Rattle.rpg_program.specs.declared.line.File.{File}
use Rattle.rpg_program.specs.declared.line.LineField.{LineField}
use Rattle.rpg_program.specs.declared.line.Spacing.{Spacing}
use Rattle.rpg_program.specs.declared.line.Time.{Time}
use Rattle.rpg_compile_layouts.specs.Rows.{alternatives_after, field_row, output_rows_after, row_after, row_in_table, rows_from}
use Rattle.rpg_compile_layouts.specs.Within.{AreFew, IsLineWithin}
use Rattle.rpg_program.specs.Kept.{IsConditionRow, IsLineFieldRow, IsLineRow, IsSpacingRow}
use Rattle.rpg_program.specs.Naming.{renamed_field}
use Rattle.rpg_sheet_specs.specs.declared.indicator.ConditionSpec as card
use Rattle.rpg_sheet_specs.specs.declared.indicator.Three.{Three}
use Rattle.rpg_sheet_specs.specs.declared.output.OutputField.{OutputField}
use Rattle.rpg_sheet_specs.specs.declared.output.OutputRecord.{OutputRecord}
use Rattle.rpg_sheet_specs.specs.declared.output.OutputSpec.{OutputSpec}
use Rattle.rpg_sheet_specs.specs.declared.output.OutputSpec.TheVariants as output
use Rattle.rpg_cards.specs.Times.{time_of}
use Rattle.rpg_compile_program.specs.Lines.{card_line, line_alternatives, line_field_of, output_fields_in, output_file, spacing_of}
use Rattle.rpg_compile_program.specs.Table.{Table, key_number}

-- ---- the card in front

module _ (t : Table) (source : List SpecCard) where
  abbrev rows_at : Option (List ℕ) → List SpecCard → Option OutputSpec → List LineRow
  rows_at name following o = map (row_in_table t) (map (card_line source) (opening (role_on output_card_role o) name (followers output_role following) (λ own. groups_from output_role own following)))

  rows_heading : (name : Option (List ℕ)) (c : SpecCard) (following rest : List SpecCard) (r : OutputRecord) → rest ≡ c ∷ following → Some r ≡ output_record_on c.spec
      → rows_from t source name rest ≡ row_after t (output_file (file_by (option_or r.file name) source)) r following ∷ rows_from t source (option_or r.file name) following
  rows_heading name c following rest r split on = ap (rows_from t source name) split ∙ by_card (output_on c.spec) on
    where
      by_card : (o : Option OutputSpec) → Some r ≡ option_and_then output_record_in o
          → rows_at name following o ≡ row_after t (output_file (file_by (option_or r.file name) source)) r following ∷ rows_from t source (option_or r.file name) following
      by_card None e = absurd cc
      by_card (Some (output.Record s)) e =
          let same : r ≡ s = cc in
          ap (λ x. row_after t (output_file (file_by (option_or x.file name) source)) x following ∷ rows_from t source (option_or x.file name) following) (sym same)
      by_card (Some (output.And cs)) e = absurd cc
      by_card (Some (output.Or cs)) e = absurd cc
      by_card (Some (output.Field f)) e = absurd cc

  pub rows_first : (name own : Option (List ℕ)) (file : File) (c : SpecCard) (following rest : List SpecCard) (r : OutputRecord) → rest ≡ c ∷ following → Some r ≡ output_record_on c.spec → own ≡ option_or r.file name → file ≡ output_file (file_by own source)
      → rows_from t source name rest ≡ row_after t file r following ∷ rows_from t source own following
  rows_first name own file c following rest r split on named put =
      rows_heading name c following rest r split on
      ∙ ap (λ n. row_after t (output_file (file_by n source)) r following ∷ rows_from t source n following) (sym named)
      ∙ ap (λ f. row_after t f r following ∷ rows_from t source own following) (sym put)

  pub rows_other : (name : Option (List ℕ)) (c : SpecCard) (following rest : List SpecCard) → rest ≡ c ∷ following → None ≡ output_record_on c.spec → rows_from t source name rest ≡ rows_from t source name following
  rows_other name c following rest split none = ap (rows_from t source name) split ∙ by_card (output_on c.spec) none
    where
      by_card : (o : Option OutputSpec) → None ≡ option_and_then output_record_in o → rows_at name following o ≡ rows_from t source name following
      by_card None e = refl
      by_card (Some (output.Record s)) e = absurd cc
      by_card (Some (output.And cs)) e = refl
      by_card (Some (output.Or cs)) e = refl
      by_card (Some (output.Field f)) e = refl

-- ---- a card after a heading

pub next_output : (cards : List SpecCard) (i : ℕ) (c : SpecCard) (s : OutputSpec) → i < length cards → c ≡ get_or cards i c → Some s ≡ output_on c.spec
    → followers output_role (drop i cards) ≡ followers_with (output_card_role s) (followers output_role (drop (i + 1) cards))
next_output cards i c s lt is on =
    at_drop_more (followers output_role) cards i c lt
    ∙ ap (λ (d : SpecCard). followers_with (output_role d.spec) (followers output_role (drop (i + 1) cards))) (sym is)
    ∙ ap (λ o. followers_with (role_on output_card_role o) (followers output_role (drop (i + 1) cards))) (sym on)

pub next_field : (t : Table) (cards : List SpecCard) (i : ℕ) (c : SpecCard) (f : OutputField) → i < length cards → c ≡ get_or cards i c → Some (output.Field f) ≡ output_on c.spec
    → output_rows_after t (drop i cards) ≡ field_row t f ∷ output_rows_after t (drop (i + 1) cards)
next_field t cards i c f lt is on = ap (λ os. map (renamed_field (key_number t)) (map line_field_of (output_fields_in os))) (next_output cards i c (output.Field f) lt is on)

-- ---- alternatives, a card more

pub alternatives_and : (cards : List SpecCard) (i : ℕ) (c : SpecCard) (cs : Three (Option card.ConditionSpec)) (before now : List Condition) → i < length cards → c ≡ get_or cards i c → Some (output.And cs) ≡ output_on c.spec
    → now ≡ before ++ standing cs → alternatives_after before (drop i cards) ≡ alternatives_after now (drop (i + 1) cards)
alternatives_and cards i c cs before now lt is on put =
    ap (line_alternatives before) (next_output cards i c (output.And cs) lt is on) ∙ ap (λ cs. alternatives_after cs (drop (i + 1) cards)) (sym put)

pub alternatives_or : (cards : List SpecCard) (i : ℕ) (c : SpecCard) (cs : Three (Option card.ConditionSpec)) (before now : List Condition) → i < length cards → c ≡ get_or cards i c → Some (output.Or cs) ≡ output_on c.spec
    → now ≡ standing cs → alternatives_after before (drop i cards) ≡ before ∷ alternatives_after now (drop (i + 1) cards)
alternatives_or cards i c cs before now lt is on put =
    ap (line_alternatives before) (next_output cards i c (output.Or cs) lt is on) ∙ ap (λ cs. before ∷ alternatives_after cs (drop (i + 1) cards)) (sym put)

pub alternatives_none : (cards : List SpecCard) (i : ℕ) (c : SpecCard) (before : List Condition) → i < length cards → c ≡ get_or cards i c → None ≡ output_on c.spec
    → alternatives_after before (drop i cards) ≡ alternatives_after before (drop (i + 1) cards)
alternatives_none cards i c before lt is none =
    at_drop_more (alternatives_after before) cards i c lt
    ∙ ap (λ (d : SpecCard). line_alternatives before (followers_with (output_role d.spec) (followers output_role (drop (i + 1) cards)))) (sym is)
    ∙ ap (λ o. line_alternatives before (followers_with (role_on output_card_role o) (followers output_role (drop (i + 1) cards)))) (sym none)

-- ---- a whole line

some_alternatives : (so_far : List Condition) (os : List OutputSpec) → 1 ≤ length (line_alternatives so_far os)
some_alternatives so_far [] = omega arith
some_alternatives so_far (output.And cs ∷ os) = some_alternatives (so_far ++ standing cs) os
some_alternatives so_far (output.Or cs ∷ os) = omega arith
some_alternatives so_far (output.Record r ∷ os) = some_alternatives so_far os
some_alternatives so_far (output.Field f ∷ os) = some_alternatives so_far os

module _ (t : Table) (file : File) (r : OutputRecord) (following : List SpecCard) (time : Time) (spacing : Spacing) (found : List (List Condition)) (fields : List (LineField ℕ)) where
  abbrev made : LineRow
  made = record { file = file; time = time; spacing = spacing; alternatives = found; fields = fields }

  pub line_same : time ≡ time_of r.time → spacing ≡ spacing_of file r.movement → found ≡ alternatives_after (standing r.conditions) following → fields ≡ output_rows_after t following → made ≡ row_after t file r following
  line_same timed spaced asked shown =
      ap (λ x. record { file = file; time = x; spacing = spacing; alternatives = found; fields = fields }) timed
      ∙ ap (λ x. record { file = file; time = time_of r.time; spacing = x; alternatives = found; fields = fields }) spaced
      ∙ ap (λ x. record { file = file; time = time_of r.time; spacing = spacing_of file r.movement; alternatives = x; fields = fields }) asked
      ∙ ap (λ x. record { file = file; time = time_of r.time; spacing = spacing_of file r.movement; alternatives = alternatives_after (standing r.conditions) following; fields = x }) shown

  -- parts that are rows make a row, where the line keeps the limits
  pub line_kept : IsLineWithin (row_after t file r following) → IsSpacingRow spacing → found ≡ alternatives_after (standing r.conditions) following → All (λ a. All IsConditionRow a) found
      → fields ≡ output_rows_after t following → All IsLineFieldRow fields → IsLineRow made
  line_kept within spaced asked conditions shown kept =
      let few = subst (λ (alts : List (List Condition)). length alts ≤ 50) (sym asked) within.few_alternatives in
      let each = subst (λ (alts : List (List Condition)). All AreFew alts) (sym asked) within.alternatives in
      record {
        spacing = spaced;
        some_alternatives = subst (λ (alts : List (List Condition)). 1 ≤ length alts) (sym asked) (some_alternatives (standing r.conditions) (followers output_role following));
        few_alternatives = few;
        alternatives = λ k d lt. record { few = each k d lt; each = conditions k d lt };
        few_fields = subst (λ (fs : List (LineField ℕ)). length fs ≤ 200) (sym shown) within.few_fields;
        fields = kept;
      }
