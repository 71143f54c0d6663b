use Rattle.std.proofs.Common.{◌≡◌, ◌≤◌, Some, None, cond, not, [], ◌∷◌, ◌||◌, length, ap, ap₂, sym, ◌∙◌, arith}
use Rattle.std.proofs.Math.Bool.{and-true}
use Rattle.std.proofs.lemmas.List.Folds.{list_all-append}
use Rattle.std.specs.Cmp.Lexicographic.{pointwise}
use Rattle.std.specs.List.{list_any}
use Rattle.std.specs.Map.{lookup}
use Rattle.std.specs.Option.{is_none, is_some, option_or}
use Rattle.std.specs.Prelude.{Option, nat_eq, ◌&&◌}
use Rattle.rpg_card_index.proofs.IndexLemmas.{new_of_two, none_some}
use Rattle.rpg_card_index.proofs.TotalLemmas.{one_more, running_more, same_name_equiv}
use Rattle.rpg_card_index.specs.Index.{has_some_form, placed_definition}
use Rattle.rpg_card_index.specs.Totals.{definition_bytes, name_totals}
use Rattle.rpg_card_index.specs.declared.name_index.FirstDefinition.{FirstDefinition}
use Rattle.rpg_cards.proofs.FieldLemmas.{known_fields}
use Rattle.rpg_cards.proofs.FirstLemmas.{any_first, noted_more}
use Rattle.rpg_cards.specs.Names.{given_names, is_of, same_name}
use Rattle.rpg_program.specs.declared.form.FieldForm.{FieldForm}
use Rattle.rpg_symbols.specs.Fields.{given}
use Rattle.rpg_symbols.specs.Totals.{with_item}
use Rattle.rpg_card_index.proofs.name_index.NameIndex.note.Goals as goal
use Rattle.rpg_card_index.proofs.name_index.NameIndex.note.Goals.{then-is_first, else-is_first}

pub returns : goal.returns
returns c items is =
    let d = c.args.definition in
    let old = c.args.self.now in
    let first = c.in_ok-is_first.is_first in
    let is_given = c.is_some-is_given.result in
    let place : c.count-place.result ≡ length items = c.count-place.ensures ∙ is.running.count in
    let known : first ≡ not (list_any (is_of d.name) items) =
    c.in_ok-is_first.ensures.first ∙ ap (λ (o : Option FirstDefinition). is_none o) (is.defined d.name) ∙ none_some _ ∙ ap not (sym (any_first (is_of d.name) placed_definition 0 items)) in
    let given_is : is_given ≡ list_any (is_of d.name) given_names =
    c.is_some-is_given.ensures ∙ ap (λ (o : Option FieldForm). is_some o) c.given_form.ensures ∙ sym (known_fields given d.name) in
    let both : c.if-is_first.is_new ≡ (first && not is_given) =
    elim c.if-is_first.branch [ then-is_first w ↦ w.is_new-is ∙ sym (ap (λ b. b && not is_given) w.if-is_first.true) | else-is_first w ↦ w.is_new-is ∙ w.if-is_first.false ∙ sym (ap (λ b. b && not is_given) w.if-is_first.false) ] in
    let fresh : c.if-is_first.is_new ≡ not (list_any (same_name d) given_names || list_any (same_name d) items) =
    both ∙ new_of_two first is_given (list_any (is_of d.name) items) known ∙ ap (λ b. not (b || list_any (is_of d.name) items)) given_is in
    let sized : c.bytes_of.result ≡ definition_bytes d = c.bytes_of.ensures in
    let small : c.bytes_of.result ≤ 4294967295 = omega (arith, c.bytes_of.type_inv) in
    record {
      defined = λ name.
          noted_more (is_of name) placed_definition (pointwise nat_eq name) old.first.entries c.note.new.map.entries items (d ∷ []) (is.defined name)
          (c.in_ok-is_first.ensures.map name ∙ ap (λ p. option_or (lookup (pointwise nat_eq name) old.first.entries) (cond (pointwise nat_eq name d.name) (Some (placed_definition p d)) None)) place);
      running =
          running_more name_totals items d old.totals c.push.new.self is.running c.in_ok-push.ensures.before
          (c.in_ok-push.ensures.all ∙ ap (λ t. with_item t c.if-is_first.is_new c.bytes_of.result) is.running.all
          ∙ one_more same_name same_name_equiv definition_bytes given_names items d c.if-is_first.is_new c.bytes_of.result fresh sized)
          c.if-is_first.is_new c.bytes_of.result c.in_ok-push.ensures.all small;
      formed = ap₂ (λ a b. a && b) is.formed (c.is_some.ensures ∙ sym (and-true (is_some d.form))) ∙ sym (list_all-append has_some_form items (d ∷ []));
    }
