-- What totals come to with one more item after the others.
use Rattle.std.proofs.Common.{◌≡◌, ℕ, ◌+◌, ◌<◌, ◌≤◌, Bool, true, false, not, cond, ◌||◌, List, [], ◌∷◌, ◌++◌, length, take, drop, get_or, Some, refl, sym, ap, ◌∙◌, subst, arith}
use Rattle.std.proofs.Math.ListN.{get_or-append}
use Rattle.std.proofs.Math.Seq.{get_or-append_seam, take-append_seam}
use Rattle.std.proofs.lemmas.Bool.{ltb-false, ltb-true}
use Rattle.std.proofs.lemmas.Cmp.{nat_list_eq_equiv, on_equiv}
use Rattle.std.proofs.lemmas.List.{length_push, take-append-drop, take-append-le, take_all}
use Rattle.std.proofs.lemmas.List.Sums.{fold-append, sum_by_push}
use Rattle.std.proofs.lemmas.Option.{slice_get-get_or, slice_get_past}
use Rattle.std.specs.Cmp.{IsEquivalence}
use Rattle.std.specs.List.{list_any}
use Rattle.std.specs.Prelude.{nat_lt, slice_get, sum_by, unwrap_or}
use Rattle.rpg_card_index.specs.Totals.{totals_of, AreRunning}
use Rattle.rpg_cards.proofs.InsertLemmas.{with_one}
use Rattle.rpg_cards.specs.Insertions.{insert_all, insert_key}
use Rattle.rpg_cards.specs.Names.{same_name}
use Rattle.rpg_cards.specs.declared.names.Definition.{Definition}
use Rattle.rpg_symbols.specs.Totals.{TotalsByItem, is_counted_at, first_totals, with_item}
use Rattle.rpg_symbols.specs.declared.totals.Totals.{Totals}

pub same_name_equiv : IsEquivalence same_name
same_name_equiv = on_equiv (λ (d : Definition). d.name) nat_list_eq_equiv

-- ---- one more item

abbrev totals_at : ℕ → ℕ → Totals
totals_at n b = record { number = n; bytes = b }

module _ {X : Type 0} (same : X → X → Bool) (laws : IsEquivalence same) (size : X → ℕ) (known : List X) where
  pub one_more : (items : List X) (x : X) (is_new : Bool) (n : ℕ) → is_new ≡ not (list_any (same x) known || list_any (same x) items) → n ≡ size x
      → with_item (totals_of same size known items) is_new n ≡ totals_of same size known (items ++ x ∷ [])
  one_more items x is_new n fresh sized = by_cases (list_any (same x) known || list_any (same x) items) is_new fresh (with_one same laws known items x)
    where
      by_cases : (b new : Bool) → new ≡ not b → insert_all same known (items ++ x ∷ []) ≡ cond b (insert_all same known items) (insert_all same known items ++ x ∷ [])
          → with_item (totals_of same size known items) new n ≡ totals_of same size known (items ++ x ∷ [])
      by_cases true true e more = absurd cc
      by_cases false false e more = absurd cc
      by_cases true false e more = ap (λ (l : List X). totals_at (length l) (sum_by size l)) (sym more)
      by_cases false true e more =
          let kept = insert_all same known items in
          ap (λ k. totals_at k (sum_by size kept + n)) (sym (length_push kept x))
          ∙ ap (totals_at (length (kept ++ x ∷ []))) (ap (λ k. sum_by size kept + k) sized ∙ sym (sum_by_push size kept x))
          ∙ ap (λ (l : List X). totals_at (length l) (sum_by size l)) (sym more)

-- ---- more items

module _ {X : Type 0} (same : X → X → Bool) (size : X → ℕ) where
  -- how many are kept and their bytes grow, and each item adds one at most
  pub kept_grow : (known items : List X)
      → (length known ≤ length (insert_all same known items)) × (sum_by size known ≤ sum_by size (insert_all same known items)) × (length (insert_all same known items) ≤ length known + length items)
  kept_grow known [] = (omega arith, omega arith, omega arith)
  kept_grow known (x ∷ xs) = by_test (list_any (same x) known) (kept_grow known xs) (kept_grow (known ++ x ∷ []) xs)
    where
      by_test : (b : Bool) → (length known ≤ length (insert_all same known xs)) × (sum_by size known ≤ sum_by size (insert_all same known xs)) × (length (insert_all same known xs) ≤ length known + length xs)
          → (length (known ++ x ∷ []) ≤ length (insert_all same (known ++ x ∷ []) xs)) × (sum_by size (known ++ x ∷ []) ≤ sum_by size (insert_all same (known ++ x ∷ []) xs)) × (length (insert_all same (known ++ x ∷ []) xs) ≤ length (known ++ x ∷ []) + length xs)
          → (length known ≤ length (insert_all same (cond b known (known ++ x ∷ [])) xs)) × (sum_by size known ≤ sum_by size (insert_all same (cond b known (known ++ x ∷ [])) xs))
          × (length (insert_all same (cond b known (known ++ x ∷ [])) xs) ≤ length known + length (x ∷ xs))
      by_test true rest more = (rest.0, rest.1, omega (arith, rest.2))
      by_test false less rest =
          let long = length_push known x in
          let sum = sum_by_push size known x in
          (omega (arith, rest.0), omega (arith, rest.1), omega (arith, rest.2))

  pub totals_grow : (known front back : List X) → ((totals_of same size known front).number ≤ (totals_of same size known (front ++ back)).number) × ((totals_of same size known front).bytes ≤ (totals_of same size known (front ++ back)).bytes)
  totals_grow known front back =
      let more = kept_grow (insert_all same known front) back in
      let both : insert_all same known (front ++ back) ≡ insert_all same (insert_all same known front) back = fold-append (insert_key same) known front back in
      let number = ap length both in
      let bytes = ap (sum_by size) both in
      (omega (arith, more.0), omega (arith, more.1))

  pub totals_within : (known items : List X) (n : ℕ) → ((totals_of same size known (take n items)).number ≤ (totals_of same size known items).number) × ((totals_of same size known (take n items)).bytes ≤ (totals_of same size known items).bytes)
  totals_within known items n =
      let more = totals_grow known (take n items) (drop n items) in
      let number = ap (λ (l : List X). length (insert_all same known l)) (take-append-drop n items) in
      let bytes = ap (λ (l : List X). sum_by size (insert_all same known l)) (take-append-drop n items) in
      (omega (arith, more.0), omega (arith, more.1))

-- an item adds one at most
item_more : (t : Totals) (b : Bool) (n : ℕ) → n ≤ 4294967295 → ((with_item t b n).number ≤ t.number + 1) × ((with_item t b n).bytes ≤ t.bytes + 4294967295)
item_more t true n small = (omega arith, omega arith)
item_more t false n small = (omega arith, omega arith)

module _ {X : Type 0} (totals : List X → Totals) (items : List X) (x : X) (old new : TotalsByItem) (was : AreRunning X totals items old) (before : new.before ≡ old.before ++ old.all ∷ [])
    (all : new.all ≡ totals (items ++ x ∷ [])) where
  longer : length new.before ≡ length items + 1
  longer = ap length before ∙ length_push old.before old.all ∙ ap (λ n. n + 1) was.count

  among_old : (n : ℕ) → n < length items → first_totals new n ≡ totals (take n (items ++ x ∷ []))
  among_old n lt =
      let longer_is = longer in
      let count = was.count in
      let here : slice_get new.before n ≡ Some (get_or new.before n old.all) = slice_get-get_or new.before n old.all (omega arith) in
      let there : slice_get old.before n ≡ Some (get_or old.before n old.all) = slice_get-get_or old.before n old.all (omega arith) in
      let same : get_or new.before n old.all ≡ get_or old.before n old.all = ap (λ (l : List Totals). get_or l n old.all) before ∙ get_or-append old.before (old.all ∷ []) old.all n (omega arith) in
      ap (λ o. unwrap_or o new.all) here ∙ same ∙ sym (ap (λ o. unwrap_or o old.all) there) ∙ was.each n ∙ ap totals (sym (take-append-le n items (x ∷ []) (omega arith)))

  at_end : first_totals new (length items) ≡ totals (take (length items) (items ++ x ∷ []))
  at_end =
      let longer_is = longer in
      let here : slice_get new.before (length items) ≡ Some (get_or new.before (length items) old.all) = slice_get-get_or new.before (length items) old.all (omega arith) in
      let seam : get_or new.before (length items) old.all ≡ old.all =
      ap (λ (l : List Totals). get_or l (length items) old.all) before ∙ ap (λ n. get_or (old.before ++ old.all ∷ []) n old.all) (sym was.count) ∙ get_or-append_seam old.before old.all [] old.all in
      ap (λ o. unwrap_or o new.all) here ∙ seam ∙ was.all ∙ ap totals (sym (take-append_seam items (x ∷ [])))

  past : (n : ℕ) → length items < n → first_totals new n ≡ totals (take n (items ++ x ∷ []))
  past n lt =
      let longer_is = longer in
      let long = length_push items x in
      let none = slice_get_past new.before n (omega arith) in
      let whole : take n (items ++ x ∷ []) ≡ items ++ x ∷ [] = take_all n (items ++ x ∷ []) (omega arith) in
      ap (λ o. unwrap_or o new.all) none ∙ all ∙ ap totals (sym whole)

  each_of : (n : ℕ) → first_totals new n ≡ totals (take n (items ++ x ∷ []))
  each_of n = below (nat_lt n (length items)) refl
    where
      above : (b : Bool) → nat_lt (length items) n ≡ b → length items ≤ n → first_totals new n ≡ totals (take n (items ++ x ∷ []))
      above true e low = past n (ltb-true (length items) n e)
      above false e low =
          let high = ltb-false (length items) n e in
          let same : length items ≡ n = omega arith in
          subst (λ k. first_totals new k ≡ totals (take k (items ++ x ∷ []))) same at_end

      below : (b : Bool) → nat_lt n (length items) ≡ b → first_totals new n ≡ totals (take n (items ++ x ∷ []))
      below true e = among_old n (ltb-true n (length items) e)
      below false e = above (nat_lt (length items) n) refl (ltb-false n (length items) e)

  pub running_more : (is_new : Bool) (n : ℕ) → new.all ≡ with_item old.all is_new n → n ≤ 4294967295 → AreRunning X totals (items ++ x ∷ []) new
  running_more is_new n item small =
      let few = was.few in
      let few_bytes = was.few_bytes in
      let long = length_push items x in
      let more = item_more old.all is_new n small in
      let number = ap (λ (t : Totals). t.number) item in
      let bytes = ap (λ (t : Totals). t.bytes) item in
      record { count = longer ∙ sym long; each = each_of; all = all; few = omega (arith, more.0); few_bytes = omega (arith, more.1) }

-- ---- whether an item counts

-- an item counts if the totals with it have more
pub counts_more : {X : Type 0} (totals : List X → Totals) (items : List X) (r : TotalsByItem) → AreRunning X totals items r → (n : ℕ)
    → is_counted_at r n ≡ nat_lt (totals (take n items)).number (totals (take (n + 1) items)).number
counts_more totals items r is n =
    ap (λ (t : Totals). nat_lt t.number (first_totals r (n + 1)).number) (is.each n) ∙ ap (λ (t : Totals). nat_lt (totals (take n items)).number t.number) (is.each (n + 1))
