use Rattle.indexmap.proofs.CallerLemmas.{insert_entry-new}
use Rattle.std.proofs.Common.{◌≡◌, ◌∙◌, ◌++◌, ◌∷◌, [], List, subst, sym, ℕ}
use Rattle.std.specs.Cmp.Lexicographic.{pointwise}
use Rattle.std.specs.Prelude.{nat_eq}
use Rattle.rpg_compile_program.proofs.LoadedLemmas.{known_data, new_data, no_some, seen}
use Rattle.rpg_compile_program.specs.Loaded.{HasSameData}
use Rattle.rpg_compile_program.specs.Tables.{values_on}
use Rattle.rpg_compile_program.proofs.loaded.Loaded.add.Goals as goal

pub returns-in_ok-insert : goal.returns-in_ok-insert
returns-in_ok-insert c =
    let table = c.args.table in
    let key = c.new-name.result in
    let named : key ≡ table.table.now.name = c.new-name.ensures ∙ c.as_slice.ensures.value in
    subst (λ (k : List ℕ). HasSameData (seen c.insert.new.self.entries) (c.args.self.now ++ (k, values_on table) ∷ [])) named
    (new_data c.self.inside.tables.entries c.args.self.now c.self.view_is c.insert.new.self.entries key table
    (c.in_ok-insert.ensures.entries
    ∙ insert_entry-new (pointwise nat_eq) c.self.inside.tables key table (no_some _ (sym c.contains_key.ensures ∙ c.if-not-contains_key.true))))

pub returns-else-not-contains_key : goal.returns-else-not-contains_key
returns-else-not-contains_key c =
    let table = c.args.table in
    let key = c.new-name.result in
    let named : key ≡ table.table.now.name = c.new-name.ensures ∙ c.as_slice.ensures.value in
    subst (λ (k : List ℕ). HasSameData c.args.self.now (c.args.self.now ++ (k, values_on table) ∷ [])) named
    (known_data c.self.inside.tables.entries c.args.self.now c.self.view_is key (values_on table) (sym c.contains_key.ensures ∙ c.if-not-contains_key.false))
