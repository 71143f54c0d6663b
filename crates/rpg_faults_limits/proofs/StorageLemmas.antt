-- Names and constants of the first cards of a source, and of a source that is within the limits.
use Rattle.std.proofs.Common.{◌≡◌, ℕ, ◌≤◌, Bool, true, false, cond, ◌&&◌, List, [], ◌∷◌, ◌++◌, length, take, None, Some, refl, sym, ap, ◌∙◌, arith, append_assoc}
use Rattle.std.proofs.Math.Seq.{take-append_seam}
use Rattle.std.proofs.lemmas.Bool.Decides.{nat_tests}
use Rattle.std.specs.Prelude.{nat_le, nat_lt, sum_by}
use Rattle.rpg_card_index.proofs.TotalLemmas.{totals_grow}
use Rattle.rpg_card_index.specs.Totals.{constant_size, definition_bytes}
use Rattle.rpg_cards.proofs.ItemLemmas.{constants_in-append, definitions-append}
use Rattle.rpg_cards.specs.Constants.{constants, constants_in, is_same}
use Rattle.rpg_cards.specs.Insertions.{insert_all}
use Rattle.rpg_cards.specs.Names.{definitions, given_names, same_name}
use Rattle.rpg_cards.specs.declared.spec_card.SpecCard.{SpecCard}
use Rattle.rpg_faults_limits.proofs.ApartLemmas.{none_of_four}
use Rattle.rpg_faults_limits.specs.Causes.{measure_of, of_count, on_storage}
use Rattle.rpg_faults_limits.specs.Limits.{bytes_up_to, constant_bytes, fields_up_to, name_bytes, name_count}
use Rattle.rpg_faults_limits.specs.State.{BeginsWith, KeepsStorage}
use Rattle.rpg_faults_limits.specs.declared.measures.Limit.{Limit}
use Rattle.rpg_faults_limits.specs.declared.measures.Limit.TheVariants as limit
use Rattle.rpg_faults_limits.specs.declared.measures.LimitCause.TheVariants.{Passed}
use Rattle.rpg_faults_limits.specs.declared.measures.Measure.{Measure}

-- ---- the first cards

pub with_first : (cards before : List SpecCard) (c : SpecCard) (after front : List SpecCard) → cards ≡ before ++ c ∷ after → front ≡ before ++ c ∷ [] → BeginsWith cards front
with_first cards before c after front split is = (after, split ∙ sym (append_assoc before (c ∷ []) after) ∙ ap (λ (l : List SpecCard). l ++ after) (sym is))

module _ {X : Type 0} (items_of : List SpecCard → List X) (append : (cs ds : List SpecCard) → items_of (cs ++ ds) ≡ items_of cs ++ items_of ds) where
  pub items_in_front : (cards front : List SpecCard) (n : ℕ) → BeginsWith cards front → n ≡ length (items_of front) → take n (items_of cards) ≡ items_of front
  items_in_front cards front n h is =
      ap (λ k. take k (items_of cards)) is ∙ ap (take (length (items_of front))) (ap items_of h.1 ∙ append front h.0) ∙ take-append_seam (items_of front) (items_of h.0)

-- ---- within the limits

-- a count that is within its limit with the card has no cause
below : (k : Measure) → k.with ≤ k.most → of_count k ≡ None
below k low = ap (λ b. cond b (Some (Passed k.limit k.with)) None) (by (nat_le k.before k.most))
  where
    by : (b : Bool) → (b && nat_lt k.most k.with) ≡ false
    by true = grind (arith, nat_tests)
    by false = refl

module _ (cards before : List SpecCard) (c : SpecCard) (after : List SpecCard) (split : cards ≡ before ++ c ∷ after) (keeps : KeepsStorage cards) where
  whole : cards ≡ (before ++ c ∷ []) ++ after
  whole = split ∙ sym (append_assoc before (c ∷ []) after)

  names_below : (name_count (before ++ c ∷ []) ≤ name_count cards) × (name_bytes (before ++ c ∷ []) ≤ name_bytes cards)
  names_below =
      let low = totals_grow same_name definition_bytes given_names (definitions (before ++ c ∷ [])) (definitions after) in
      let same : definitions cards ≡ definitions (before ++ c ∷ []) ++ definitions after = ap definitions whole ∙ definitions-append (before ++ c ∷ []) after in
      let number = ap (λ ds. length (insert_all same_name given_names ds)) same in
      let bytes = ap (λ ds. sum_by definition_bytes (insert_all same_name given_names ds)) same in
      (omega (arith, low.0), omega (arith, low.1))

  constants_below : (length (constants (before ++ c ∷ [])) ≤ length (constants cards)) × (constant_bytes (before ++ c ∷ []) ≤ constant_bytes cards)
  constants_below =
      let low = totals_grow is_same constant_size [] (constants_in (before ++ c ∷ [])) (constants_in after) in
      let same : constants_in cards ≡ constants_in (before ++ c ∷ []) ++ constants_in after = ap constants_in whole ∙ constants_in-append (before ++ c ∷ []) after in
      let number = ap (λ xs. length (insert_all is_same [] xs)) same in
      let bytes = ap (λ xs. sum_by constant_size (insert_all is_same [] xs)) same in
      (omega (arith, low.0), omega (arith, low.1))

  pub kept_storage : on_storage cards before c ≡ None
  kept_storage =
      let names = names_below in
      let others = constants_below in
      let fields = keeps.fields in
      let bytes = keeps.bytes in
      none_of_four (measure_of limit.Names name_count 4000 before c) (measure_of limit.NameBytes name_bytes 65535 before c) (measure_of limit.Bytes (bytes_up_to cards) 65535 before c)
      (measure_of limit.Fields (fields_up_to cards) 4000 before c)
      (below (measure_of limit.Names name_count 4000 before c) (omega (arith, names.0)))
      (below (measure_of limit.NameBytes name_bytes 65535 before c) (omega (arith, names.1)))
      (below (measure_of limit.Bytes (bytes_up_to cards) 65535 before c) (omega (arith, others.1)))
      (below (measure_of limit.Fields (fields_up_to cards) 4000 before c) (omega (arith, others.0)))

-- ---- the measures

abbrev at : Limit → ℕ → ℕ → ℕ → Measure
at what most b w = record { limit = what; most = most; before = b; with = w }

pub measure_is : (what : Limit) (measure : List SpecCard → ℕ) (most : ℕ) (before : List SpecCard) (c : SpecCard) (b w : ℕ) (m : Measure) → m ≡ record { limit = what; most = most; before = b; with = w } → b ≡ measure before → w ≡ measure (before ++ c ∷ [])
    → m ≡ measure_of what measure most before c
measure_is what measure most before c b w m is is_before is_with = is ∙ ap (λ n. at what most n w) is_before ∙ ap (at what most (measure before)) is_with
