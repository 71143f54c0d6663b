use Rattle.std.proofs.Common.{◌++◌, ◌∷◌, [], ◌∙◌, List, ap, append_assoc, map, subst, sym}
use Rattle.std.proofs.lemmas.List.{map-append}
use Rattle.std.proofs.lemmas.List.Elements.{All-append}
use Rattle.std.proofs.lemmas.Result.{on_ok_weaker}
use Rattle.rpg_cards.specs.Constants.{constant_form, constants_in, IsConstant}
use Rattle.rpg_cards.specs.declared.constants.Constant.{Constant}
use Rattle.rpg_compile_program.proofs.PlaceLemmas.{next_known, next_new}
use Rattle.rpg_compile_program.specs.Constants.{AddsConstants, different}
use Rattle.rpg_compile_program.specs.Held.{held_values}
use Rattle.rpg_compile_program.specs.declared.names.FieldRows.{FieldRows}
use Rattle.rpg_compile_program.specs.Data.{constant_values}
use Rattle.rpg_program.specs.Values.{Value}
use Rattle.rpg_program.specs.declared.form.FieldForm.{FieldForm}
use Rattle.rpg_compile_program.proofs.names.FieldRows.add_constant_if_first.Goals as goal

-- some constants, and then others
adds_both : (xs ys : List Constant) (first old new : FieldRows) → AddsConstants xs first old → AddsConstants ys old new → AddsConstants (xs ++ ys) first new
adds_both xs ys first old new was adds = record {
  forms = adds.forms ∙ ap (λ (l : List FieldForm). l ++ map constant_form ys) was.forms ∙ append_assoc first.forms.items (map constant_form xs) (map constant_form ys)
      ∙ ap (λ (l : List FieldForm). first.forms.items ++ l) (sym (map-append constant_form xs ys));
  values = adds.values ∙ ap (λ (l : List (List Value)). l ++ map constant_values ys) was.values ∙ append_assoc (held_values first.values.items) (map constant_values xs) (map constant_values ys)
      ∙ ap (λ (l : List (List Value)). held_values first.values.items ++ l) (sym (map-append constant_values xs ys));
  kept = All-append IsConstant xs ys was.kept adds.kept;
}

pub returns-then-is_first_constant : goal.returns-then-is_first_constant
returns-then-is_first_constant c =
    let all = constants_in c.args.source.now in
    let place = c.args.place in
    let x = c.args.constant.now in
    let longer = next_new all place x c.is_first_constant.result c.requires (c.is_first_constant.ensures x c.requires) c.if-is_first_constant.true in
    on_ok_weaker c.add_constant.result (λ adds first was. subst (λ cs. AddsConstants cs first c.add_constant.new.self) (sym longer) (adds_both (different all place) (x ∷ []) first c.args.self.now c.add_constant.new.self was adds)) c.add_constant.ensures

pub returns-else-is_first_constant : goal.returns-else-is_first_constant
returns-else-is_first_constant c first was =
    let all = constants_in c.args.source.now in
    let x = c.args.constant.now in
    let same = next_known all c.args.place x c.is_first_constant.result c.requires (c.is_first_constant.ensures x c.requires) c.if-is_first_constant.false in
    subst (λ cs. AddsConstants cs first c.args.self.now) (sym same) was
