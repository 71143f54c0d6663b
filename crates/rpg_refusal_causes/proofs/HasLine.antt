-- A line that breaks a rule has a cause.
use Rattle.std.proofs.Common.{◌≡◌, true, refl}
use Rattle.std.specs.List.{list_all}
use Rattle.std.specs.Option.{is_some}
use Rattle.rpg_program.specs.Object.{LineRow, Object, file_length}
use Rattle.rpg_refusal_causes.proofs.First.{some_any, some_if, some_not_all, some_unless}
use Rattle.rpg_refusal_causes.specs.LineCauses.{alternative_cause, line_field_cause, line_cause}
use Rattle.rpg_refusal_causes.specs.declared.cause.RefusalCause.TheVariants as causes
use Rattle.rpg_verify_rules.specs.Indicators.{is_testable}
use Rattle.rpg_verify_rules.specs.LineRules.{has_untestable_condition, blanks_wrongly, is_field_there, lacks_editing, lacks_room, lacks_word, line_breaks}
use Rattle.rpg_verify_rules.specs.declared.rule.LineRule.{LineRule}
use Rattle.rpg_verify_rules.specs.declared.rule.LineRule.TheVariants.{V2, V8, V9, V10, V11, V12, V13, V14, V15}

pub line_has : (r : LineRule) (p : Object) (l : LineRow) → line_breaks r p l ≡ true → is_some (line_cause r p l) ≡ true
unfolding line_breaks line_cause
line_has V2 p l h = refl
line_has V8 p l h = refl
line_has V9 p l h = some_not_all (alternative_cause p.version) (list_all (is_testable p.version)) (λ n cs e. some_unless (list_all (is_testable p.version) cs) (causes.Alternative n) e) 0 l.alternatives h
line_has V10 p l h = let len = file_length p l.file in some_not_all (line_field_cause V10 p len) (is_field_there p) (λ n f e. some_unless (is_field_there p f) (causes.Field n f) e) 0 l.fields h
line_has V11 p l h = let len = file_length p l.file in some_any (line_field_cause V11 p len) (lacks_editing p) (λ n f e. some_if (lacks_editing p f) (causes.Field n f) e) 0 l.fields h
line_has V12 p l h = let len = file_length p l.file in some_any (line_field_cause V12 p len) (lacks_word p) (λ n f e. some_if (lacks_word p f) (causes.Field n f) e) 0 l.fields h
line_has V13 p l h = let len = file_length p l.file in some_any (line_field_cause V13 p len) (lacks_room p len) (λ n f e. some_if (lacks_room p len f) (causes.Field n f) e) 0 l.fields h
line_has V14 p l h = let len = file_length p l.file in some_any (line_field_cause V14 p len) (blanks_wrongly p len) (λ n f e. some_if (blanks_wrongly p len f) (causes.Field n f) e) 0 l.fields h
line_has V15 p l h = let len = file_length p l.file in some_any (line_field_cause V15 p len) (has_untestable_condition p len) (λ n f e. some_if (has_untestable_condition p len f) (causes.Field n f) e) 0 l.fields h
