-- What a table takes from a card, and from the cards after it.
use Rattle.std.proofs.Common.{◌≡◌, ℕ, ◌+◌, ◌-◌, List, [], ◌∷◌, ◌++◌, map, length, min, refl, sym, ap, ◌∙◌, arith}
use Rattle.std.proofs.lemmas.List.{append_assoc, map-append}
use Rattle.std.proofs.lemmas.List.FromFn.{map-range_with_len_more}
use Rattle.std.specs.List.{range_with_len}
use Rattle.rpg_program.specs.Values.{Value}
use Rattle.rpg_compile_program.specs.Tables.{values_on_card}
use Rattle.rpg_compile_program.specs.declared.tables.TableData.{TableData}
use Rattle.rpg_faults_data.proofs.EntryLemmas.{entries-card}
use Rattle.rpg_faults_data.specs.Data.{data_entries, entry_on}
use Rattle.rpg_compile_program.specs.Data.{entry_value}

map-map : {X Y Z : Type 0} (g : Y → Z) (f : X → Y) (xs : List X) → map g (map f xs) ≡ map (λ x. g (f x)) xs
map-map g f [] = refl
map-map g f (x ∷ xs) = ap (λ rest. g (f x) ∷ rest) (map-map g f xs)

-- ---- the texts of a deck

-- ---- the values of a table, card by card

module _ (d : TableData) where
  -- of so many entries, on these texts
  abbrev pub values_in : ℕ → List (List ℕ) → List Value
  values_in left texts = map (entry_value d.table.now) (data_entries left d.per_card d.width d.from d.table.now.length texts)

  values-card : (left : ℕ) (text : List ℕ) (texts : List (List ℕ))
      → values_in left (text ∷ texts) ≡ values_on_card d text (min left d.per_card) ++ values_in (left - min left d.per_card) texts
  values-card left text texts =
      let first = map (entry_on d.width d.from d.table.now.length text) (range_with_len 0 (min left d.per_card)) in
      let later = data_entries (left - min left d.per_card) d.per_card d.width d.from d.table.now.length texts in
      ap (map (entry_value d.table.now)) (entries-card d.width d.from d.table.now.length left d.per_card text texts)
      ∙ map-append (entry_value d.table.now) first later
      ∙ ap (λ vs. vs ++ map (entry_value d.table.now) later) (map-map (entry_value d.table.now) (entry_on d.width d.from d.table.now.length text) (range_with_len 0 (min left d.per_card)))

  pub at_card : (left number rest : ℕ) (text : List ℕ) (texts all : List (List ℕ)) (old new done : List Value) → number ≡ min left d.per_card → rest ≡ left - number → all ≡ text ∷ texts
      → new ≡ old ++ values_on_card d text number → old ++ values_in left all ≡ done → new ++ values_in rest texts ≡ done
  at_card left number rest text texts all old new done least fewer first put so_far =
      ap (λ vs. vs ++ values_in rest texts) put ∙ append_assoc old (values_on_card d text number) (values_in rest texts)
      ∙ ap (λ vs. old ++ vs) (ap (λ k. values_on_card d text number ++ values_in k texts) fewer
      ∙ ap (λ k. values_on_card d text k ++ values_in (left - k) texts) least ∙ sym (values-card left text texts) ∙ ap (values_in left) (sym first))
      ∙ so_far

  -- one entry more of a card
  pub values_on_card-more : (card : List ℕ) (i : ℕ) (v : Value) (old new all : List Value) → new ≡ old ++ v ∷ []
      → v ≡ entry_value d.table.now (entry_on d.width d.from d.table.now.length card i) → old ≡ all ++ values_on_card d card i → new ≡ all ++ values_on_card d card (i + 1)
  values_on_card-more card i v old new all pushed is so_far =
      let value = λ (k : ℕ). entry_value d.table.now (entry_on d.width d.from d.table.now.length card k) in
      pushed ∙ ap (λ vs. vs ++ v ∷ []) so_far ∙ append_assoc all (values_on_card d card i) (v ∷ [])
      ∙ ap (λ w. all ++ (values_on_card d card i ++ w ∷ [])) is
      ∙ ap (λ vs. all ++ vs) (sym (map-range_with_len_more value 0 i i (omega arith)))
