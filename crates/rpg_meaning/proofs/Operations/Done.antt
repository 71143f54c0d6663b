-- Each operation by its equation.
use Rattle.std.proofs.Common.{◌≡◌, ℤ, Bool, true, false, ◌&&◌, ◌∷◌, Option, None, Some, refl, ap, ◌∙◌}
use Rattle.std.specs.Prelude.{is_some, if◌then◌else◌}
use Rattle.std.specs.List.{list_all}
use Rattle.std.specs.Option.{option_map, option_to_list}
use Rattle.rpg_cards.specs.Keys.{Key, Named, key_cmp}
use Rattle.rpg_decimal_words.specs.Fraction.{over}
use Rattle.rpg_decimal_words.specs.Move.{number_moved_left, number_moved_right, overlay_left, overlay_right}
use Rattle.rpg_program.specs.Act.{act, field_of_entry, found_shown, looked_up, moved, position_fault, remainder_after, store, stored_value, with_found, order_by}
use Rattle.rpg_program.specs.Ended.{Ended, Gives, if_right, on_data, or_halt}
use Rattle.rpg_program.specs.Ends.{Storage}
use Rattle.rpg_program.specs.Entries.{entry_of, position_of}
use Rattle.rpg_program.specs.Operate.{has_entries, names_entry, operate, resolved}
use Rattle.rpg_program.specs.Rows.{all_used, form_of, row_of, table_use}
use Rattle.rpg_program.specs.Showing.{set_to, shown, shown_if_any}
use Rattle.rpg_program.specs.World.{set_value}
use Rattle.rpg_program.specs.Values.{Number}
use Rattle.rpg_program.specs.declared.form.Kind.{Kind}
use Rattle.rpg_program.specs.declared.form.Kind.TheVariants as kinds
use Rattle.rpg_program.specs.declared.operation.Action.{Action}
use Rattle.rpg_program.specs.declared.operation.Entry.{Entry}
use Rattle.rpg_program.specs.declared.operation.Found.{Found}
use Rattle.rpg_program.specs.declared.operation.Operand.{Operand}
use Rattle.rpg_program.specs.declared.operation.Side.{Side}
use Rattle.rpg_program.specs.declared.operation.Side.TheVariants.{Left, Right}
use Rattle.rpg_machine.specs.Config.{no_output}
use Rattle.rpg_meaning.specs.Calculations.Meaning.{MeantOutcome, On, Source, State, Stops, affected, at_next, come_back}
use Rattle.rpg_meaning.specs.Operations as is
use Rattle.rpg_meaning.specs.Operations.{Compares, Computes, Divides, TransfersControl, LooksUp, Moves, Sets}
use Rattle.rpg_sheet_specs.specs.declared.calculation.CalculationSpec.{CalculationSpec}
use Rattle.rpg_sheet_specs.specs.declared.calculation.Operation.TheVariants as op
use Rattle.rpg_sheet_specs.specs.declared.entry.Entry as card
use Rattle.rpg_meaning.specs.Sheets.Calculations.{entry_named}

module _ (source : Source) (s : State) (k : CalculationSpec) where
  -- what comes of what is done to the data
  abbrev comes : Ended key_cmp → MeantOutcome
  comes e = affected s (on_data (λ d. e) s.world)

  -- an operation whose operands may name no entry
  acted : (b : Bool) (x : Action (Entry Key)) → comes (or_halt (if b then Some x else None) 2 s.world.data (λ e. act source.forms e s.world.data)) ≡ (if b then comes (act source.forms x s.world.data) else Stops 2 s no_output)
  acted true x = refl
  acted false x = refl

  abbrev names : Operand Key → Bool
  names o = is_some (position_of source.forms s.world.data.fields o)

  one : (a : Bool) → (true && (true && a)) ≡ (a && true)
  one true = refl
  one false = refl

  two_last : (a b : Bool) → (true && (a && b)) ≡ (a && (b && true))
  two_last true true = refl
  two_last true false = refl
  two_last false b = refl

  three : (a b c : Bool) → (a && (b && c)) ≡ (a && (b && (c && true)))
  three true true true = refl
  three true true false = refl
  three true false c = refl
  three false b c = refl

  if_any : (x y : MeantOutcome) (a b : Bool) → a ≡ b → (if a then x else y) ≡ (if b then x else y)
  if_any x y a b e = ap (λ c. if c then x else y) e

  both : (x y z : MeantOutcome) (a b : Bool) → a ≡ b → x ≡ y → (if a then x else z) ≡ (if b then y else z)
  both x y z a b e f = if_any x z a b e ∙ ap (λ o. if b then o else z) f

  pub computes : Computes source s k
  unfolding operate resolved has_entries row_of position_of entry_of act
  computes = record {
    add = acted _ _ ∙ if_any _ _ _ _ (three (names (is.factor_1_or_result source s k)) (names (is.factor_2 source s k)) (names (is.result source s k)));
    subtract = acted _ _ ∙ if_any _ _ _ _ (three (names (is.factor_1_or_result source s k)) (names (is.factor_2 source s k)) (names (is.result source s k)));
    multiply = acted _ _ ∙ if_any _ _ _ _ (three (names (is.factor_1_or_result source s k)) (names (is.factor_2 source s k)) (names (is.result source s k)));
    zero_add = acted _ _ ∙ if_any _ _ _ _ (two_last (names (is.factor_2 source s k)) (names (is.result source s k)));
    zero_subtract = acted _ _ ∙ if_any _ _ _ _ (two_last (names (is.factor_2 source s k)) (names (is.result source s k)));
    cross_foot = acted _ _ ∙ if_any _ _ _ _ (two_last (names (is.factor_2 source s k)) (names (is.result source s k)));
    move_remainder = acted _ _ ∙ if_any _ _ _ _ (one (names (is.result source s k)));
  }

  -- ---- DIV

  divided_by : Bool → Bool → MeantOutcome
  unfolding entry_of
  divided_by zero half =
      comes (or_halt (if zero then None else Some (over (is.operand_number source s k (is.factor_1_or_result source s k)) (is.operand_number source s k (is.factor_2 source s k)))) 1 s.world.data
      (λ n. Gives (store (record s.world.data { remainder = remainder_after source.forms half s.world.data (is.operand_entry source s k (is.factor_1_or_result source s k)) (is.operand_entry source s k (is.factor_2 source s k)) (is.operand_entry source s k (is.result source s k)) })
      (is.operand_entry source s k (is.result source s k)) (is.indicators source s k) (stored_value half (is.form source s k (is.result source s k)) n))))

  pub divides : Divides source s k
  unfolding operate resolved has_entries row_of position_of entry_of act divided_by
  divides = record {
    by_zero = λ z. acted _ _ ∙ both _ _ _ _ _ (three (names (is.factor_1_or_result source s k)) (names (is.factor_2 source s k)) (names (is.result source s k))) (ap (λ b. divided_by b k.half_adjust) z);
    exactly = λ z h. acted _ _ ∙ both _ _ _ _ _ (three (names (is.factor_1_or_result source s k)) (names (is.factor_2 source s k)) (names (is.result source s k))) (ap (λ b. divided_by b k.half_adjust) z ∙ ap (divided_by false) h);
    half_adjusted = λ z h. acted _ _ ∙ both _ _ _ _ _ (three (names (is.factor_1_or_result source s k)) (names (is.factor_2 source s k)) (names (is.result source s k))) (ap (λ b. divided_by b k.half_adjust) z ∙ ap (divided_by false) h);
  }

  -- ---- MOVE

  spelled : (o : Option ℤ) → comes (or_halt o 4 s.world.data (λ n. Gives (set_value s.world.data (is.result source s k).field (is.operand_entry source s k (is.result source s k)).position (Number n)))) ≡ is.takes_number source s k o
  unfolding entry_of
  spelled None = refl
  spelled (Some n) = refl

  move_by : Side → Kind → Kind → MeantOutcome
  move_by side from to = comes (moved source.forms from to side s.world.data (is.operand_entry source s k (is.factor_2 source s k)) (is.operand_entry source s k (is.result source s k)))

  pub moves : Moves source s k op.Move overlay_right number_moved_right
  unfolding operate resolved has_entries row_of position_of entry_of act moved move_by
  moves = record {
    number_to_number = λ a b. acted _ _ ∙ both _ _ _ _ _ (two_last (names (is.factor_2 source s k)) (names (is.result source s k))) (ap (λ f. move_by Right f (is.kind source s k (is.result source s k))) a ∙ ap (move_by Right kinds.Number) b);
    number_to_text = λ a b. acted _ _ ∙ both _ _ _ _ _ (two_last (names (is.factor_2 source s k)) (names (is.result source s k))) (ap (λ f. move_by Right f (is.kind source s k (is.result source s k))) a ∙ ap (move_by Right kinds.Number) b);
    text_to_text = λ a b. acted _ _ ∙ both _ _ _ _ _ (two_last (names (is.factor_2 source s k)) (names (is.result source s k))) (ap (λ f. move_by Right f (is.kind source s k (is.result source s k))) a ∙ ap (move_by Right kinds.Text) b);
    text_to_number = λ a b. acted _ _ ∙ both _ _ _ _ _ (two_last (names (is.factor_2 source s k)) (names (is.result source s k))) (ap (λ f. move_by Right f (is.kind source s k (is.result source s k))) a ∙ ap (move_by Right kinds.Text) b ∙ spelled _);
  }

  pub moves_left : Moves source s k op.MoveLeft overlay_left number_moved_left
  unfolding operate resolved has_entries row_of position_of entry_of act moved move_by
  moves_left = record {
    number_to_number = λ a b. acted _ _ ∙ both _ _ _ _ _ (two_last (names (is.factor_2 source s k)) (names (is.result source s k))) (ap (λ f. move_by Left f (is.kind source s k (is.result source s k))) a ∙ ap (move_by Left kinds.Number) b);
    number_to_text = λ a b. acted _ _ ∙ both _ _ _ _ _ (two_last (names (is.factor_2 source s k)) (names (is.result source s k))) (ap (λ f. move_by Left f (is.kind source s k (is.result source s k))) a ∙ ap (move_by Left kinds.Number) b);
    text_to_text = λ a b. acted _ _ ∙ both _ _ _ _ _ (two_last (names (is.factor_2 source s k)) (names (is.result source s k))) (ap (λ f. move_by Left f (is.kind source s k (is.result source s k))) a ∙ ap (move_by Left kinds.Text) b);
    text_to_number = λ a b. acted _ _ ∙ both _ _ _ _ _ (two_last (names (is.factor_2 source s k)) (names (is.result source s k))) (ap (λ f. move_by Left f (is.kind source s k (is.result source s k))) a ∙ ap (move_by Left kinds.Text) b ∙ spelled _);
  }

  -- ---- COMP

  two : (a b : Bool) → (a && (b && true)) ≡ (a && (b && true))
  two a b = refl

  compare_by : Kind → MeantOutcome
  compare_by f = is.goes_to_next source s k (is.turned source s k (shown (is.indicators source s k) (order_by source.forms f s.world.data (is.operand_entry source s k (is.factor_1 source s k)) (is.operand_entry source s k (is.factor_2 source s k)))) s.world.data)

  pub compares : Compares source s k
  unfolding operate resolved has_entries row_of position_of entry_of act compare_by
  compares = record {
    numbers = λ e. acted _ _ ∙ both _ _ _ _ _ (two (names (is.factor_1 source s k)) (names (is.factor_2 source s k))) (ap compare_by e);
    texts = λ e. acted _ _ ∙ both _ _ _ _ _ (two (names (is.factor_1 source s k)) (names (is.factor_2 source s k))) (ap compare_by e);
  }

  -- ---- SETON, SETOF

  pub sets : Sets source s k
  unfolding operate resolved has_entries row_of act set_to
  sets = record { on = refl; off = refl; except = refl }

  -- ---- LOKUP

  sought : (r : Option (Operand Key)) → (names (is.factor_1 source s k) && (names (is.factor_2 source s k) && all_used (names_entry source.forms s.world.data.fields) (table_use (form_of source.forms) r)))
      ≡ list_all names (is.factor_1 source s k ∷ is.factor_2 source s k ∷ option_to_list r)
  unfolding position_of
  sought None = refl
  sought (Some r) = three (names (is.factor_1 source s k)) (names (is.factor_2 source s k)) (names r)

  table_is : (r : Option card.Entry) → option_map field_of_entry (option_map (is.operand_entry source s k) (option_map entry_named r)) ≡ option_map (λ e. Named e.name) r
  unfolding entry_of
  table_is None = refl
  table_is (Some e) = refl

  look : Option Key → Option Found → MeantOutcome
  look table f = comes (looked_up source.forms s.world.data (is.operand_entry source s k (is.factor_2 source s k)) table (is.indicators source s k) f)

  look_with : Found → Bool → MeantOutcome
  look_with f fits = comes (if_right (if fits then None else Some Storage) s.world.data
      (Gives (found_shown source.forms (is.indicators source s k) (Some f) (with_found source.forms (is.operand_entry source s k (is.factor_2 source s k)) (is.table_field source s k) (Some f) s.world.data))))

  pub looks_up : LooksUp source s k
  unfolding operate resolved has_entries row_of entry_of position_of act looked_up position_fault with_found shown_if_any look look_with
  looks_up = record {
    nothing = λ e. acted _ _ ∙ both _ _ _ _ _ (sought (is.table_operand source s k)) (ap (λ t. look t (is.found source s k)) (table_is k.result_field) ∙ ap (look (is.table_field source s k)) e);
    something = λ f e h. acted _ _ ∙ both _ _ _ _ _ (sought (is.table_operand source s k)) (ap (λ t. look t (is.found source s k)) (table_is k.result_field) ∙ ap (look (is.table_field source s k)) e ∙ ap (look_with f) h);
  }

  -- ---- GOTO, EXSR, ENDSR

  gone : Bool → MeantOutcome
  gone earlier = if earlier then is.spends_one source s k (at_next s (is.target source s k)) else On (at_next s (is.target source s k)) no_output

  pub leads : TransfersControl source s k
  unfolding gone
  leads = record {
    go_to_later = ap gone;
    go_to_earlier = ap gone;
    call = refl;
    end_subroutine = λ part next others e. ap (come_back s) e;
    label = refl;
    begin_subroutine = refl;
  }
