-- The first file with its card is the first file.
use Rattle.std.proofs.Common.{◌≡◌, ℕ, ◌+◌, Bool, true, false, cond, List, [], ◌∷◌, ◌++◌, length, Option, None, Some, refl, sym, ap, ◌∙◌, append_assoc, length-append}
use Rattle.std.specs.List.{cons_option, find, slice_get}
use Rattle.std.specs.Option.{is_some, option_and_then, option_map, option_map_or, option_or}
use Rattle.std.specs.Prelude.{nat_eq}
use Rattle.std.specs.Cmp.Lexicographic.{pointwise}
use Rattle.rpg_cards.specs.Cards.{file_on}
use Rattle.rpg_card_index.specs.Index.{first_file, has_such_file, is_file_named, is_for, place_of_card}
use Rattle.rpg_cards.specs.First.{first_at}
use Rattle.rpg_cards.specs.Files.{file_by, file_named, file_use, files, same_use}
use Rattle.rpg_cards.specs.declared.files.FileUse.{FileUse}
use Rattle.rpg_cards.specs.declared.spec_card.SpecCard.{SpecCard}
use Rattle.rpg_faults_limits.specs.FileCauses.{file_of_name, file_with, first_file_with_card, placed_file, serves}
use Rattle.rpg_faults_limits.specs.Sheets.{place_named}
use Rattle.rpg_faults_limits.specs.declared.files.FileOnCard.{FileOnCard}
use Rattle.rpg_sheet_specs.specs.declared.file.FileSpec.{FileSpec}

module _ {X : Type 0} (on_card : FileOnCard → X) (declared : FileSpec → X) (same : (c : SpecCard) (f : FileSpec) → on_card (file_with c f) ≡ declared f) (test : FileSpec → Bool) where
  -- what both have in common
  found : (cards : List SpecCard) → option_map on_card (first_file_with_card test cards) ≡ option_map declared (find test (files cards))
  found [] = refl
  found (c ∷ cs) = by (file_on c.spec) (found cs)
    where
      by_test : (f : FileSpec) (b : Bool) → option_map on_card (first_file_with_card test cs) ≡ option_map declared (find test (files cs))
          → option_map on_card (option_or (cond b (Some (file_with c f)) None) (first_file_with_card test cs)) ≡ option_map declared (cond b (Some f) (find test (files cs)))
      by_test f true rest = ap Some (same c f)
      by_test f false rest = rest

      by : (o : Option FileSpec) → option_map on_card (first_file_with_card test cs) ≡ option_map declared (find test (files cs))
          → option_map on_card (option_or (option_and_then (λ f. cond (test f) (Some (file_with c f)) None) o) (first_file_with_card test cs))
          ≡ option_map declared (find test (cons_option o (files cs)))
      by None rest = rest
      by (Some f) rest = by_test f (test f) rest

-- its use
pub use_found : (test : FileSpec → Bool) (cards : List SpecCard) → option_map (λ (f : FileOnCard). f.serves_as) (first_file_with_card test cards) ≡ option_map file_use (find test (files cards))
use_found test cards = found (λ (f : FileOnCard). f.serves_as) file_use (λ c f. refl) test cards

-- its record length
pub length_found : (name : Option (List ℕ)) (cards : List SpecCard) → option_map (λ (f : FileOnCard). f.record_length) (option_and_then (λ n. file_of_name n cards) name) ≡ option_map (λ (f : FileSpec). f.record_length) (file_by name cards)
length_found None cards = refl
length_found (Some name) cards = found (λ (f : FileOnCard). f.record_length) (λ f. f.record_length) (λ c f. refl) (λ f. pointwise nat_eq name f.name) cards

-- there is none if there is no such file
pub none_found : (test : FileSpec → Bool) (cards : List SpecCard) → is_some (find test (files cards)) ≡ false → first_file_with_card test cards ≡ None
none_found test cards none = by (first_file_with_card test cards) (find test (files cards)) (use_found test cards) none
  where
    by : (f : Option FileOnCard) (g : Option FileSpec) → option_map (λ (x : FileOnCard). x.serves_as) f ≡ option_map file_use g → is_some g ≡ false → f ≡ None
    by None g e h = refl
    by (Some f) None e h = absurd cc
    by (Some f) (Some g) e h = absurd cc

-- whether it has a use
pub serves_found : (u : FileUse) (name : Option (List ℕ)) (cards : List SpecCard) → option_map_or (serves u) (option_and_then (λ n. file_of_name n cards) name) false ≡ option_map_or (is_for u) (file_by name cards) false
serves_found u None cards = refl
serves_found u (Some name) cards = by (file_of_name name cards) (file_named name cards) (use_found (λ f. pointwise nat_eq name f.name) cards)
  where
    by : (f : Option FileOnCard) (g : Option FileSpec) → option_map (λ (x : FileOnCard). x.serves_as) f ≡ option_map file_use g → option_map_or (serves u) f false ≡ option_map_or (is_for u) g false
    by None None e = refl
    by None (Some g) e = absurd cc
    by (Some f) None e = absurd cc
    by (Some f) (Some g) e = ap (λ (o : Option FileUse). option_map_or (same_use u) o false) e

-- ---- the file on the F card at a place

at_end : (front : List SpecCard) (c : SpecCard) (cs : List SpecCard) → slice_get (front ++ c ∷ cs) (length front) ≡ Some c
at_end [] c cs = refl
at_end (d ∷ ds) c cs = at_end ds c cs

module _ (test : FileSpec → Bool) where
  placed_in : (front cs : List SpecCard) → placed_file (front ++ cs) (first_at (has_such_file test) place_of_card (length front) cs) ≡ first_file_with_card test cs
  placed_in front [] = refl
  placed_in front (c ∷ cs) = by_file (file_on c.spec) refl
      (ap (λ n. placed_file (front ++ c ∷ cs) (first_at (has_such_file test) place_of_card n cs)) (sym (length-append front (c ∷ [])))
      ∙ ap (λ (ds : List SpecCard). placed_file ds (first_at (has_such_file test) place_of_card (length (front ++ c ∷ [])) cs)) (sym (append_assoc front (c ∷ []) cs))
      ∙ placed_in (front ++ c ∷ []) cs)
    where
      all : List SpecCard
      all = front ++ c ∷ cs

      next : Option ℕ
      next = first_at (has_such_file test) place_of_card (length front + 1) cs

      here : placed_file all (Some (length front)) ≡ option_map (file_with c) (file_on c.spec)
      here = ap (option_and_then (λ (d : SpecCard). option_map (file_with d) (file_on d.spec))) (at_end front c cs)

      by_test : (f : FileSpec) (b : Bool) → file_on c.spec ≡ Some f → placed_file all next ≡ first_file_with_card test cs
          → placed_file all (cond b (Some (length front)) next) ≡ option_or (cond b (Some (file_with c f)) None) (first_file_with_card test cs)
      by_test f true is more = here ∙ ap (option_map (file_with c)) is
      by_test f false is more = more

      by_file : (o : Option FileSpec) → file_on c.spec ≡ o → placed_file all next ≡ first_file_with_card test cs
          → placed_file all (cond (option_map_or test o false) (Some (length front)) next)
          ≡ option_or (option_and_then (λ f. cond (test f) (Some (file_with c f)) None) o) (first_file_with_card test cs)
      by_file None is more = more
      by_file (Some f) is more = by_test f (test f) is more

pub placed : (name : List ℕ) (cards : List SpecCard) → placed_file cards (first_file (is_file_named name) cards) ≡ file_of_name name cards
placed name cards = placed_in (is_file_named name) [] cards

pub placed_by : (name : Option (List ℕ)) (cards : List SpecCard) (place : Option ℕ) → place ≡ place_named cards name → placed_file cards place ≡ option_and_then (λ n. file_of_name n cards) name
placed_by None cards place e = ap (placed_file cards) e
placed_by (Some name) cards place e = ap (placed_file cards) e ∙ placed name cards
