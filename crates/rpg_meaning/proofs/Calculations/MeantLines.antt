-- The compiler takes from O cards the lines that the cards mean.
use Rattle.std.proofs.Common.{◌≡◌, ℕ, Bool, List, [], ◌∷◌, ◌++◌, map, Option, None, Some, refl, sym, ap, ◌∙◌}
use Rattle.std.specs.List.{filter_map}
use Rattle.std.specs.Option.{option_map, option_or, option_to_list}
use Rattle.rpg_cards.specs.Calculations.{standing}
use Rattle.rpg_cards.specs.Cards.{output_field_in, output_field_on, output_record_on}
use Rattle.rpg_cards.specs.Files.{file_by}
use Rattle.rpg_cards.specs.Groups.{followers, followers_with, groups_from, opening, output_role}
use Rattle.rpg_cards.specs.Keys.{Named, key_index}
use Rattle.rpg_cards.specs.Times.{time_of}
use Rattle.rpg_cards.specs.declared.spec_card.SpecCard.{SpecCard}
use Rattle.rpg_program.specs.declared.condition.Condition.{Condition}
use Rattle.rpg_program.specs.declared.line.File.{File}
use Rattle.rpg_program.specs.declared.line.File.TheVariants as files
use Rattle.rpg_edit_marks.specs.declared.code.EditCode.{EditCode}
use Rattle.rpg_sheet_specs.specs.declared.entry.Entry.{Entry}
use Rattle.rpg_sheet_specs.specs.declared.entry.EntryIndex.{EntryIndex}
use Rattle.rpg_sheet_specs.specs.declared.entry.EntryIndex.TheVariants as entry
use Rattle.rpg_sheet_specs.specs.declared.indicator.ConditionSpec as written
use Rattle.rpg_sheet_specs.specs.declared.indicator.Three.{Three}
use Rattle.rpg_sheet_specs.specs.declared.output.LineTime.{LineTime}
use Rattle.rpg_sheet_specs.specs.declared.output.LineTime.TheVariants as time
use Rattle.rpg_sheet_specs.specs.declared.output.OutputField.{OutputField}
use Rattle.rpg_sheet_specs.specs.declared.output.OutputRecord.{OutputRecord}
use Rattle.rpg_sheet_specs.specs.declared.output.OutputSpec.TheVariants as output
use Rattle.rpg_sheet_specs.specs.declared.spec.Spec.{Spec}
use Rattle.rpg_sheet_specs.specs.declared.spec.Spec.TheVariants as spec
use Rattle.rpg_compile_program.specs.Lines.{card_line, line_alternatives, line_field_of, lines_on, output_file, spacing_of}
use Rattle.rpg_meaning.specs.Sheets.Lines.{begins_line, meant_condition, meant_conditions, meant_field, meant_line_file, further, meant_index, length_on, line_with, lines_after, meant_lines, moves_by, meant_moves, others, meant_places, meant_time}
use Rattle.rpg_meaning.specs.Sheets.Cards.{cards_before}
use Rattle.rpg_meaning.proofs.Calculations.MeantFiles.{length_is_meant, put_on_is_meant}
use Rattle.rpg_meaning.proofs.Calculations.MeantLists.{filled_is_meant}

append_none : {X : Type 0} (xs : List X) → xs ++ [] ≡ xs
append_none [] = refl
append_none (x ∷ xs) = λ i. x ∷ append_none xs i

append_twice : {X : Type 0} (xs ys zs : List X) → (xs ++ ys) ++ zs ≡ xs ++ (ys ++ zs)
append_twice [] ys zs = refl
append_twice (x ∷ xs) ys zs = λ i. x ∷ append_twice xs ys zs i

times_same : (t : LineTime) → time_of t ≡ meant_time t
times_same time.Heading = refl
times_same time.Detail = refl
times_same time.Total = refl
times_same time.Exception = refl

moves_same : (file : File) (a b c d : Option ℕ) → spacing_of file (record { space_before = a; space_after = b; skip_before = c; skip_after = d }) ≡ moves_by file a b c d
moves_same files.Disk a b c d = refl
moves_same files.Printer None None None None = refl
moves_same files.Printer (Some a) b c d = refl
moves_same files.Printer None (Some b) c d = refl
moves_same files.Printer None None (Some c) d = refl
moves_same files.Printer None None None (Some d) = refl

standing_same : (t : Three (Option written.ConditionSpec)) → standing t ≡ meant_conditions t
standing_same t = ap (map meant_condition) (filled_is_meant t.first t.second t.third)

index_same : (o : Option EntryIndex) → key_index o ≡ meant_index o
index_same None = refl
index_same (Some (entry.Literal n)) = refl
index_same (Some (entry.Name x)) = refl

alternatives_same : (so_far : List Condition) (cs : List SpecCard) → line_alternatives so_far (followers output_role cs) ≡ (so_far ++ further (cards_before begins_line cs)) ∷ others (cards_before begins_line cs)
alternatives_same so_far [] = λ i. sym (append_none so_far) i ∷ []
alternatives_same so_far (c ∷ cs) = by c.spec (λ so_far. alternatives_same so_far cs)
  where
    own : List SpecCard
    own = cards_before begins_line cs

    by : (s : Spec) → ((so_far : List Condition) → line_alternatives so_far (followers output_role cs) ≡ (so_far ++ further (cards_before begins_line cs)) ∷ others (cards_before begins_line cs)) → line_alternatives so_far (followers_with (output_role s) (followers output_role cs))
        ≡ (so_far ++ further (cards_before begins_line (record { number = c.number; spec = s } ∷ cs))) ∷ others (cards_before begins_line (record { number = c.number; spec = s } ∷ cs))
    by (spec.Header x) rest = rest so_far
    by (spec.File x) rest = rest so_far
    by (spec.Extension x) rest = rest so_far
    by (spec.Form x) rest = rest so_far
    by (spec.Input x) rest = rest so_far
    by (spec.Calculation x) rest = rest so_far
    by (spec.Output (output.Record r)) rest = λ i. sym (append_none so_far) i ∷ []
    by (spec.Output (output.And t)) rest = rest (so_far ++ standing t) ∙ (λ i. (append_twice so_far (standing_same t i) (further own)) i ∷ others own)
    by (spec.Output (output.Or t)) rest = λ i. sym (append_none so_far) i ∷ (rest (standing t) ∙ (λ j. (standing_same t j ++ further own) ∷ others own)) i
    by (spec.Output (output.Field f)) rest = rest so_far
    by (spec.Data x) rest = rest so_far

fields_same : (cs : List SpecCard) → filter_map output_field_in (followers output_role cs) ≡ filter_map (λ c. output_field_on c.spec) (cards_before begins_line cs)
fields_same [] = refl
fields_same (c ∷ cs) = by c.spec (fields_same cs)
  where
    by : (s : Spec) → (filter_map output_field_in (followers output_role cs) ≡ filter_map (λ c. output_field_on c.spec) (cards_before begins_line cs)) → filter_map output_field_in (followers_with (output_role s) (followers output_role cs)) ≡ filter_map (λ c. output_field_on c.spec) (cards_before begins_line (record { number = c.number; spec = s } ∷ cs))
    by (spec.Header x) rest = rest
    by (spec.File x) rest = rest
    by (spec.Extension x) rest = rest
    by (spec.Form x) rest = rest
    by (spec.Input x) rest = rest
    by (spec.Calculation x) rest = rest
    by (spec.Output (output.Record r)) rest = refl
    by (spec.Output (output.And t)) rest = rest
    by (spec.Output (output.Or t)) rest = rest
    by (spec.Output (output.Field f)) rest = λ i. f ∷ rest i
    by (spec.Data x) rest = rest

field_by : (t : Three (Option written.ConditionSpec)) (o : Option Entry) (code : Option EditCode) (blanked : Bool) (end : ℕ) (text : Option (List ℕ))
    → line_field_of (record { conditions = t; operand = o; code = code; blank_after = blanked; end = end; text = text }) ≡ meant_field (record { conditions = t; operand = o; code = code; blank_after = blanked; end = end; text = text })
field_by t (Some e) (Some code) blanked end None = λ i. record (meant_field (record { conditions = t; operand = Some e; code = Some code; blank_after = blanked; end = end; text = None })) { operand = record { field = Named e.name; index = index_same e.index i }; conditions = meant_places (standing_same t i) }
field_by t (Some e) (Some code) blanked end (Some text) = λ i. record (meant_field (record { conditions = t; operand = Some e; code = Some code; blank_after = blanked; end = end; text = Some text })) { operand = record { field = Named e.name; index = index_same e.index i }; conditions = meant_places (standing_same t i) }
field_by t (Some e) None blanked end None = λ i. record (meant_field (record { conditions = t; operand = Some e; code = None; blank_after = blanked; end = end; text = None })) { operand = record { field = Named e.name; index = index_same e.index i }; conditions = meant_places (standing_same t i) }
field_by t (Some e) None blanked end (Some text) = λ i. record (meant_field (record { conditions = t; operand = Some e; code = None; blank_after = blanked; end = end; text = Some text })) { operand = record { field = Named e.name; index = index_same e.index i }; conditions = meant_places (standing_same t i) }
field_by t None (Some code) blanked end None = λ i. record (meant_field (record { conditions = t; operand = None; code = Some code; blank_after = blanked; end = end; text = None })) { conditions = meant_places (standing_same t i) }
field_by t None (Some code) blanked end (Some text) = λ i. record (meant_field (record { conditions = t; operand = None; code = Some code; blank_after = blanked; end = end; text = Some text })) { conditions = meant_places (standing_same t i) }
field_by t None None blanked end None = λ i. record (meant_field (record { conditions = t; operand = None; code = None; blank_after = blanked; end = end; text = None })) { conditions = meant_places (standing_same t i) }
field_by t None None blanked end (Some text) = λ i. record (meant_field (record { conditions = t; operand = None; code = None; blank_after = blanked; end = end; text = Some text })) { conditions = meant_places (standing_same t i) }

each_field : (fs : List OutputField) → map line_field_of fs ≡ map meant_field fs
each_field [] = refl
each_field (f ∷ fs) = λ i. field_by f.conditions f.operand f.code f.blank_after f.end f.text i ∷ each_field fs i

module _ (deck : List SpecCard) where
  line_same : (name : Option (List ℕ)) (r : OutputRecord) (cs : List SpecCard)
      → card_line deck (record { heading = r; followers = followers output_role cs; file = name }) ≡ line_with deck name (cards_before begins_line cs) r
  line_same name r cs = λ i. record {
    file = put_on_is_meant deck name i;
    time = times_same r.time i;
    len = (length_is_meant deck (output_file (file_by name deck)) ∙ ap (length_on deck) (put_on_is_meant deck name)) i;
    spacing = (moves_same (output_file (file_by name deck)) r.movement.space_before r.movement.space_after r.movement.skip_before r.movement.skip_after ∙ ap (λ file. meant_moves file r.movement) (put_on_is_meant deck name)) i;
    alternatives = (alternatives_same (standing r.conditions) cs ∙ (λ j. (standing_same r.conditions j ++ further (cards_before begins_line cs)) ∷ others (cards_before begins_line cs))) i;
    fields = (each_field (filter_map output_field_in (followers output_role cs)) ∙ ap (map meant_field) (fields_same cs)) i;
  }

  lines_same : (name : Option (List ℕ)) (cs : List SpecCard) → map (card_line deck) (groups_from output_role name cs) ≡ lines_after deck name cs
  lines_same name [] = refl
  lines_same name (c ∷ cs) = by c.spec (λ name. lines_same name cs)
    where
      by : (s : Spec) → ((name : Option (List ℕ)) → map (card_line deck) (groups_from output_role name cs) ≡ lines_after deck name cs) → map (card_line deck) (opening (output_role s) name (followers output_role cs) (λ own. groups_from output_role own cs))
          ≡ option_to_list (option_map (line_with deck (meant_line_file name (output_record_on s)) (cards_before begins_line cs)) (output_record_on s)) ++ lines_after deck (meant_line_file name (output_record_on s)) cs
      by (spec.Header x) rest = rest name
      by (spec.File x) rest = rest name
      by (spec.Extension x) rest = rest name
      by (spec.Form x) rest = rest name
      by (spec.Input x) rest = rest name
      by (spec.Calculation x) rest = rest name
      by (spec.Output (output.Record r)) rest = λ i. line_same (option_or r.file name) r cs i ∷ rest (option_or r.file name) i
      by (spec.Output (output.And t)) rest = rest name
      by (spec.Output (output.Or t)) rest = rest name
      by (spec.Output (output.Field f)) rest = rest name
      by (spec.Data x) rest = rest name

pub lines_are_meant : (cards : List SpecCard) → lines_on cards ≡ meant_lines cards
lines_are_meant cards = lines_same cards None cards
