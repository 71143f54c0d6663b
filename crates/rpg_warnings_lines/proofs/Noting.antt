-- What is made of marks by values at places is what is made of them by the least values.
use Rattle.std.proofs.Common.{◌≡◌, ℕ, suc, ◌+◌, ◌<◌, ◌≤◌, Bool, true, false, cond, ◌&&◌, ◌==◌, List, [], ◌∷◌, ◌++◌, length, drop, get_or, drop-cons, add-one, Option, None, Some, ap, arith, refl, sym, ◌∙◌}
use Rattle.std.specs.Cmp.Lexicographic.{bytes_decides, pointwise}
use Rattle.std.specs.List.{cons_option, filter_map, list_all}
use Rattle.std.specs.Option.{is_some}
use Rattle.std.specs.Prelude.{nat_eq, not}
use Rattle.rpg_cards.specs.declared.spec_card.SpecCard.{SpecCard}
use Rattle.rpg_sheet_specs.specs.declared.calculation.CalculationSpec.{CalculationSpec}
use Rattle.rpg_sheet_specs.specs.declared.entry.Entry.{Entry}
use Rattle.rpg_sheet_specs.specs.declared.entry.EntryIndex.{EntryIndex}
use Rattle.rpg_sheet_specs.specs.declared.literal.Factor.{Factor}
use Rattle.rpg_sheet_specs.specs.declared.literal.Factor.TheVariants as factor
use Rattle.rpg_sheet_specs.specs.declared.spec.Spec.TheVariants as spec
use Rattle.rpg_warnings_lines.specs.Marks.{AreLeast, Lowers, least_at, least_with, lowered, marks_of}
use Rattle.rpg_warnings_lines.specs.Sums.{AreSums, unreset_by, unreset_with}
use Rattle.rpg_warnings_lines.specs.Unused.{AreFirst, first_read, first_set, is_noted, printed_from, read_from, unused_at, unused_by, unused_with}
use Rattle.rpg_warnings_lines.specs.Uses.{counts_as_read, entry_place, factor_index, factor_read, has_index, index_named, index_place, is_field, is_result, is_sum, place, read_by, read_on, reads_nothing, result_read, two_of_six}
use Rattle.rpg_warnings_lines.specs.declared.marks.Mark.{Mark}
use Rattle.rpg_warnings_lines.specs.declared.sums.NameSums.{NameSums}
use Rattle.rpg_warnings_lines.specs.declared.unused.FirstResults.{FirstResults}
use Rattle.rpg_warnings_lines.specs.declared.warning.Warning.{Warning}

pub known_sums : (cards : List SpecCard) (known : NameSums) (ms : List Mark) → AreSums cards known → filter_map (unreset_with known) ms ≡ filter_map (unreset_by cards) ms
known_sums cards known [] is = refl
known_sums cards known (m ∷ ms) is = rw (is.printed m.place, is.set m.place, is.added m.place, is.levels m.place, known_sums cards known ms is) refl

pub known_firsts : (cards : List SpecCard) (firsts : FirstResults) (ms : List Mark) → AreFirst cards firsts → filter_map (unused_with firsts) ms ≡ filter_map (unused_by cards) ms
known_firsts cards firsts [] is = refl
known_firsts cards firsts (m ∷ ms) is = rw (is.set m.place, is.read m.place, known_firsts cards firsts ms is) refl

pub lowers_more : (place least : ℕ) (ms more : List Mark) → least_with place least (ms ++ more) ≡ least_with place (least_with place least ms) more
lowers_more place least [] more = refl
lowers_more place least (m ∷ ms) more = lowers_more place (lowered place least m) ms more

pub read_more : (cards items : List SpecCard) (k : ℕ) (c : SpecCard) → k < length items → c ≡ get_or items k c
    → read_from cards (drop k items) ≡ marks_of c.number (read_on cards c.spec) ++ read_from cards (drop (k + 1) items)
read_more cards items k c less is =
    ap (read_from cards) (drop-cons items k c less) ∙ ap (λ (d : SpecCard). read_from cards (d ∷ drop (suc k) items)) (sym is)
    ∙ ap (λ n. read_from cards (c ∷ drop n items)) (sym (add-one k))

-- ---- what isn't looked up

pub same_place : (cards : List SpecCard) (name other : List ℕ) → pointwise nat_eq name other ≡ true → place cards other ≡ place cards name
same_place cards name other e = ap (place cards) (sym ((bytes_decides name other).0 e))

none_of : (a b c d : Bool) → (not a && not b && not c && not d) ≡ true → (a ≡ false) × (b ≡ false) × (c ≡ false) × (d ≡ false)
none_of true b c d e = absurd cc
none_of false true c d e = absurd cc
none_of false false true d e = absurd cc
none_of false false false true e = absurd cc
none_of false false false false e = (refl, refl, refl, refl)

either : (b : Bool) (n : Option ℕ) → cond b n n ≡ n
either true n = refl
either false n = refl

module _ (cards : List SpecCard) where
  no_index : (f : Option Factor) → is_field f ≡ false → factor_index cards f ≡ None
  no_index None e = refl
  no_index (Some (factor.Entry x)) e = absurd cc
  no_index (Some (factor.Literal l)) e = refl

  no_factor : (k : CalculationSpec) (f : Option Factor) → is_field f ≡ false → factor_read cards k f ≡ None
  no_factor k None e = either (is_sum k.operation && is_result None k.result_field) None
  no_factor k (Some (factor.Entry x)) e = absurd cc
  no_factor k (Some (factor.Literal l)) e = either (is_sum k.operation && is_result (Some (factor.Literal l)) k.result_field) None

  no_name : (i : Option EntryIndex) → is_some i ≡ false → index_named cards i ≡ None
  no_name None e = refl
  no_name (Some i) e = absurd cc

  unindexed : (r : Option Entry) → has_index r ≡ false → index_place cards r ≡ None
  unindexed None e = refl
  unindexed (Some r) e = no_name r.index e

  pub nothing_lowered : (k : CalculationSpec) (n : ℕ) (read : List ℕ) → reads_nothing k ≡ true → Lowers (marks_of n (read_on cards (spec.Calculation k))) read read
  nothing_lowered k n read e = λ i.
      let is = none_of (is_field k.factor_1) (is_field k.factor_2) (has_index k.result_field) (counts_as_read k) e in
      let one = no_index k.factor_1 is.0 in
      let two = no_index k.factor_2 is.1 in
      let three = unindexed k.result_field is.2 in
      let four = no_factor k k.factor_1 is.0 in
      let five = no_factor k k.factor_2 is.1 in
      let six : result_read cards k ≡ None = ap (λ b. cond b (entry_place cards k.result_field) None) is.3 in
      let none : read_by cards k ≡ two_of_six None None = cc in
      ap (λ ps. least_with i (least_at i read) (marks_of n ps)) (sym none)

-- ---- where output fields print all results, none is unused

lowered_below : (place least : ℕ) (m : Mark) → lowered place least m ≤ least
lowered_below place least m = grind arith

below : (place least : ℕ) (ms : List Mark) → least_with place least ms ≤ least
below place least [] = omega arith
below place least (m ∷ ms) =
    let here = lowered_below place least m in
    let rest = below place (lowered place least m) ms in
    omega arith

module _ (cards : List SpecCard) (read : List ℕ) (is : AreLeast read (printed_from cards cards)) where
  is_read : (m : Mark) → is_noted read m ≡ true → (first_read cards m.place == 65535) ≡ false
  is_read m noted =
      let printed = is m.place in
      let low = below m.place 65535 (printed_from cards cards) in
      let more = lowers_more m.place 65535 (printed_from cards cards) (read_from cards cards) in
      let lower = below m.place (least_with m.place 65535 (printed_from cards cards)) (read_from cards cards) in
      grind arith

  no_warning : (a b : Bool) (n : ℕ) → b ≡ false → cond (a && b) (Some (unused_at n)) None ≡ None
  no_warning true b n e = ap (λ x. cond x (Some (unused_at n)) None) e
  no_warning false b n e = refl

  both : (a b : Bool) → (a && b) ≡ true → (a ≡ true) × (b ≡ true)
  both true b e = (refl, e)
  both false b e = absurd cc

  pub none_unused : (ms : List Mark) → list_all (is_noted read) ms ≡ true → filter_map (unused_by cards) ms ≡ []
  none_unused [] all = refl
  none_unused (m ∷ ms) all =
      let parts = both (is_noted read m) (list_all (is_noted read) ms) all in
      ap (λ (o : Option Warning). cons_option o (filter_map (unused_by cards) ms)) (no_warning (first_set cards m.place == m.value) (first_read cards m.place == 65535) m.value (is_read m parts.0))
      ∙ none_unused ms parts.1
