use Rattle.indexmap.proofs.CallerLemmas.{insert_entry-new}
use Rattle.std.proofs.Common.{◌≡◌, ◌∙◌, ◌++◌, ◌∷◌, [], true, false, ap, sym}
use Rattle.std.specs.Cmp.Lexicographic.{pointwise}
use Rattle.std.specs.Prelude.{is_some, nat_eq}
use Rattle.rpg_compile_program.proofs.FormedLemmas.{form_adds}
use Rattle.rpg_compile_program.proofs.LoadedLemmas.{no_some}
use Rattle.rpg_symbols.specs.Fields.{NamedForms, defined_form}
use Rattle.rpg_compile_program.proofs.formed.FormedNames.add_name.Goals as goal

pub returns-in_ok-insert : goal.returns-in_ok-insert
returns-in_ok-insert c =
    let d = c.args.definition.now in
    let form = c.in-Some.form in
    let key = c.new-name.result in
    let named : key ≡ d.name = c.new-name.ensures ∙ c.as_slice.ensures.value in
    let unknown = sym c.contains_key.ensures ∙ c.if-not-contains_key.true in
    let new : is_some (defined_form c.args.self.now d.name) ≡ false =
    ap (λ (fs : NamedForms). is_some (defined_form fs d.name)) (sym c.self.view_is) ∙ ap (λ k. is_some (defined_form c.self.inside.forms.entries k)) (sym named) ∙ unknown in
    c.in_ok-insert.ensures.entries ∙ insert_entry-new (pointwise nat_eq) c.self.inside.forms key form (no_some _ unknown)
    ∙ ap (λ (fs : NamedForms). fs ++ (key, form) ∷ []) c.self.view_is ∙ ap (λ k. c.args.self.now ++ (k, form) ∷ []) named
    ∙ sym (form_adds c.args.self.now d form false c.in-Some.is new)

pub returns-else-not-contains_key : goal.returns-else-not-contains_key
returns-else-not-contains_key c =
    let d = c.args.definition.now in
    let named = c.new-name.ensures ∙ c.as_slice.ensures.value in
    let known : is_some (defined_form c.args.self.now d.name) ≡ true =
    ap (λ (fs : NamedForms). is_some (defined_form fs d.name)) (sym c.self.view_is) ∙ ap (λ k. is_some (defined_form c.self.inside.forms.entries k)) (sym named) ∙ sym c.contains_key.ensures
    ∙ c.if-not-contains_key.false in
    sym (form_adds c.args.self.now d c.in-Some.form true c.in-Some.is known)
