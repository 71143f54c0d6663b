-- Entries, each judged after the one before it.
use Rattle.std.proofs.Common.{◌≡◌, ℕ, ◌+◌, ◌-◌, ◌≤◌, Bool, true, false, ◌&&◌, ◌||◌, List, [], ◌∷◌, ◌++◌, map, length, take, min, Option, None, Some, refl, sym, ap, ◌∙◌, arith, append-nil, ◌⊎◌, inl, inr, ◌<◌, ◌≢◌}
use Rattle.std.proofs.Math.Seq.{take-append-add}
use Rattle.std.proofs.lemmas.Bool.{cases_lt}
use Rattle.std.proofs.lemmas.List.{take-append-le}
use Rattle.std.proofs.lemmas.List.FromFn.{length-map-range_with_len, map-range_with_len_more, take-map-range_with_len}
use Rattle.std.specs.List.{flat_map, last_or, list_any, range_with_len}
use Rattle.rpg_faults_data.specs.Data.{bad_table_data, data_entries, descends, entries_on, entry_on, is_bad, is_lower}
use Rattle.rpg_faults_data.specs.Entries.{any_wrong, is_wrong}
use Rattle.rpg_sheet_specs.specs.declared.extension.TableSpec.{TableSpec}

regroup : (p a l q d : Bool) → ((p || (a && l)) || (q || (a && d))) ≡ ((p || q) || (a && (l || d)))
regroup true a l q d = refl
regroup false false l q d = refl
regroup false true true false d = refl
regroup false true true true d = refl
regroup false true false q d = refl

or_and_false : (q a : Bool) → (q || (a && false)) ≡ q
or_and_false true a = refl
or_and_false false true = refl
or_and_false false false = refl

-- after an entry that was valid
after_one : (t : TableSpec) (b : List ℕ) (xs : List (List ℕ)) → any_wrong t (Some b) xs ≡ (list_any (is_bad t.decimals) xs || (t.ascending && descends (is_lower t.decimals) (b ∷ xs)))
after_one t b [] = sym (or_and_false false t.ascending)
after_one t b (x ∷ xs) =
    ap (λ r. is_wrong t (Some b) x || r) (after_one t x xs)
    ∙ regroup (is_bad t.decimals x) t.ascending (is_lower t.decimals x b) (list_any (is_bad t.decimals) xs) (descends (is_lower t.decimals) (x ∷ xs))

pub any_wrong-none : (t : TableSpec) (xs : List (List ℕ)) → bad_table_data t xs ≡ any_wrong t None xs
any_wrong-none t [] = or_and_false false t.ascending
any_wrong-none t (x ∷ xs) =
    sym (ap (λ r. is_wrong t None x || r) (after_one t x xs)
    ∙ regroup (is_bad t.decimals x) t.ascending false (list_any (is_bad t.decimals) xs) (descends (is_lower t.decimals) (x ∷ xs)))

-- those of a card, and those of the cards after it
module _ (width from len : ℕ) where
  entries-few : (n per_card : ℕ) (text : List ℕ) (texts : List (List ℕ)) → n ≤ per_card
      → data_entries n per_card width from len (text ∷ texts) ≡ map (entry_on width from len text) (range_with_len 0 n)
  entries-few n per_card text texts few =
      let all : n ≤ length (entries_on per_card width from len text) = omega (arith, length-map-range_with_len (entry_on width from len text) 0 per_card) in
      take-append-le n (entries_on per_card width from len text) (flat_map (entries_on per_card width from len) texts) all
      ∙ take-map-range_with_len (entry_on width from len text) 0 per_card n few

  entries-more : (m per_card : ℕ) (text : List ℕ) (texts : List (List ℕ))
      → data_entries (per_card + m) per_card width from len (text ∷ texts) ≡ entries_on per_card width from len text ++ data_entries m per_card width from len texts
  entries-more m per_card text texts =
      ap (λ k. take (k + m) (entries_on per_card width from len text ++ flat_map (entries_on per_card width from len) texts)) (sym (length-map-range_with_len (entry_on width from len text) 0 per_card))
      ∙ take-append-add (entries_on per_card width from len text) (flat_map (entries_on per_card width from len) texts) m

  entries-split : (n per_card k m : ℕ) (text : List ℕ) (texts : List (List ℕ)) → ((k ≡ n) × (n ≤ per_card) × (m ≡ 0)) ⊎ ((k ≡ per_card) × (n ≡ per_card + m))
      → data_entries n per_card width from len (text ∷ texts) ≡ map (entry_on width from len text) (range_with_len 0 k) ++ data_entries m per_card width from len texts
  entries-split n per_card k m text texts (inl (e, few, none)) =
      entries-few n per_card text texts few ∙ ap (λ j. map (entry_on width from len text) (range_with_len 0 j)) (sym e)
      ∙ sym (append-nil (map (entry_on width from len text) (range_with_len 0 k))) ∙ ap (λ j. map (entry_on width from len text) (range_with_len 0 k) ++ data_entries j per_card width from len texts) (sym none)
  entries-split n per_card k m text texts (inr (e, more)) =
      ap (λ j. data_entries j per_card width from len (text ∷ texts)) more ∙ entries-more m per_card text texts
      ∙ ap (λ j. map (entry_on width from len text) (range_with_len 0 j) ++ data_entries m per_card width from len texts) (sym e)

  pub entries-card : (n per_card : ℕ) (text : List ℕ) (texts : List (List ℕ))
      → data_entries n per_card width from len (text ∷ texts) ≡ map (entry_on width from len text) (range_with_len 0 (min n per_card)) ++ data_entries (n - min n per_card) per_card width from len texts
  entries-card n per_card text texts = entries-split n per_card (min n per_card) (n - min n per_card) text texts (by (cases_lt per_card n))
    where
      by : (per_card < n) ⊎ (n ≤ per_card) → ((min n per_card ≡ n) × (n ≤ per_card) × (n - min n per_card ≡ 0)) ⊎ ((min n per_card ≡ per_card) × (n ≡ per_card + (n - min n per_card)))
      by (inl less) = inr (omega arith, omega arith)
      by (inr few) = inl (omega arith, few, omega arith)

last_or-push : {X : Type 0} (o : Option X) (xs : List X) (x : X) → last_or o (xs ++ x ∷ []) ≡ Some x
last_or-push o [] x = refl
last_or-push o (y ∷ ys) x = last_or-push (Some y) ys x

pub last_or-entries : (o : Option (List ℕ)) (entry : ℕ → List ℕ) (n : ℕ) → n ≢ 0 → last_or o (map entry (range_with_len 0 n)) ≡ Some (entry (n - 1))
last_or-entries o entry n some =
    let split : n ≡ (n - 1) + 1 = omega arith in
    ap (λ k. last_or o (map entry (range_with_len 0 k))) split ∙ ap (last_or o) (map-range_with_len_more entry 0 (n - 1) (n - 1) (omega arith)) ∙ last_or-push o (map entry (range_with_len 0 (n - 1))) (entry (n - 1))
