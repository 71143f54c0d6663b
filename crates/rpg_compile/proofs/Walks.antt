-- No card of a source without a fault passes a limit, so what its cards come to stays within the limits.
use Rattle.std.proofs.Common.{◌≡◌, ℕ, ◌+◌, ◌≤◌, Bool, false, List, [], ◌∷◌, length, map, Option, None, Some, cond, refl, subst}
use Rattle.std.proofs.lemmas.List.Elements.{All-cons, All-nil}
use Rattle.std.proofs.lemmas.List.Sums.{sum_by-cons}
use Rattle.std.specs.Prelude.{All, count_by}
use Rattle.std.specs.List.{filter_map}
use Rattle.std.specs.Option.{option_len}
use Rattle.rpg_cards.specs.Plain.{Each}
use Rattle.rpg_cards.specs.Groups.{Group, group_count, input_role, output_role}
use Rattle.rpg_cards.specs.declared.spec_card.SpecCard.{SpecCard}
use Rattle.rpg_faults_limits.specs.Limits.{alternative_count, bad_entries, bytes_up_to, code_count, condition_count, crosses, field_count, fields_up_to, in_open, level_count, name_bytes, name_count, of_line, of_type, output_field_count, passes_on_calculations, passes_on_lines, passes_on_types, passes_storage}
use Rattle.rpg_compile_program.proofs.Lists.{Seen, or_first, or_second}
use Rattle.rpg_compile_program.specs.Rules.{KeepsCardRules}

-- ---- what holds of each element

pub all_of : {X : Type 0} (P : X → Type 0) (xs : List X) → Each P xs → All P xs
all_of P [] h = All-nil P
all_of P (x ∷ xs) h = All-cons P x xs h.0 (all_of P xs h.1)

-- ---- counts

pub one_more : {X : Type 0} (test : X → Bool) (x : X) (xs : List X) → count_by test (x ∷ xs) ≡ cond (test x) 1 0 + count_by test xs
one_more test x xs = sum_by-cons (λ y. cond (test y) 1 0) x xs

-- as many stand in a list as stand in three places
pub three_count : {X Y : Type 0} (f : X → Y) (a b c : Option X) → length (map f (filter_map (λ o. o) (a ∷ b ∷ c ∷ []))) ≡ option_len a + option_len b + option_len c
three_count f None None None = refl
three_count f None None (Some z) = refl
three_count f None (Some y) None = refl
three_count f None (Some y) (Some z) = refl
three_count f (Some x) None None = refl
three_count f (Some x) None (Some z) = refl
three_count f (Some x) (Some y) None = refl
three_count f (Some x) (Some y) (Some z) = refl

-- ---- the open group

pub at_open : {H F : Type 0} (measure : Group H F → ℕ) (limit : ℕ) (o : Option (Group H F)) (g : Group H F) → in_open measure o ≤ limit → o ≡ Some g → measure g ≤ limit
at_open {H = H} {F = F} measure limit o g h is = subst (λ (p : Option (Group H F)). in_open measure p ≤ limit) is h

-- ---- limits that no card passes

pub record Unpassed (cards before : List SpecCard) (c : SpecCard) : Type 0 where
  pub types : crosses (group_count input_role) 200 before c ≡ false
  pub codes : crosses (of_type code_count) 100 before c ≡ false
  pub levels : crosses (of_type level_count) 100 before c ≡ false
  pub inputs : crosses (of_type field_count) 500 before c ≡ false
  pub lines : crosses (group_count output_role) 1000 before c ≡ false
  pub alternatives : crosses (of_line alternative_count) 50 before c ≡ false
  pub conditions : crosses (of_line condition_count) 60 before c ≡ false
  pub line_fields : crosses (of_line output_field_count) 200 before c ≡ false
  pub names : crosses name_count 4000 before c ≡ false
  pub name_bytes : crosses name_bytes 65535 before c ≡ false
  pub all_bytes : crosses (bytes_up_to cards) 65535 before c ≡ false
  pub all_fields : crosses (fields_up_to cards) 4000 before c ≡ false

module _ (cards : List SpecCard) (rules : KeepsCardRules cards) where
  pub unpassed : Seen cards (λ before c after. Unpassed cards before c)
  unpassed before c after split =
      let limits = or_first _ (bad_entries c) (rules.f6 before c after split) in
      let on_cards = or_first _ (passes_storage cards before c) limits in
      let on_groups = or_first _ (passes_on_calculations before c after) on_cards in
      let on_types = or_first (passes_on_types before c) (passes_on_lines before c) on_groups in
      let on_lines = or_second (passes_on_types before c) (passes_on_lines before c) on_groups in
      let storage = or_second _ (passes_storage cards before c) limits in
      let three_of_types = or_first _ (crosses (of_type field_count) 500 before c) on_types in
      let two_of_types = or_first _ (crosses (of_type level_count) 100 before c) three_of_types in
      let three_of_lines = or_first _ (crosses (of_line output_field_count) 200 before c) on_lines in
      let two_of_lines = or_first _ (crosses (of_line condition_count) 60 before c) three_of_lines in
      let three_of_storage = or_first _ (crosses (fields_up_to cards) 4000 before c) storage in
      let two_of_storage = or_first _ (crosses (bytes_up_to cards) 65535 before c) three_of_storage in
      record {
        types = or_first (crosses (group_count input_role) 200 before c) (crosses (of_type code_count) 100 before c) two_of_types;
        codes = or_second (crosses (group_count input_role) 200 before c) (crosses (of_type code_count) 100 before c) two_of_types;
        levels = or_second _ (crosses (of_type level_count) 100 before c) three_of_types;
        inputs = or_second _ (crosses (of_type field_count) 500 before c) on_types;
        lines = or_first (crosses (group_count output_role) 1000 before c) (crosses (of_line alternative_count) 50 before c) two_of_lines;
        alternatives = or_second (crosses (group_count output_role) 1000 before c) (crosses (of_line alternative_count) 50 before c) two_of_lines;
        conditions = or_second _ (crosses (of_line condition_count) 60 before c) three_of_lines;
        line_fields = or_second _ (crosses (of_line output_field_count) 200 before c) on_lines;
        names = or_first (crosses name_count 4000 before c) (crosses name_bytes 65535 before c) two_of_storage;
        name_bytes = or_second (crosses name_count 4000 before c) (crosses name_bytes 65535 before c) two_of_storage;
        all_bytes = or_second _ (crosses (bytes_up_to cards) 65535 before c) three_of_storage;
        all_fields = or_second _ (crosses (fields_up_to cards) 4000 before c) storage;
      }
