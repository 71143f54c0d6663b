-- The file of the first F card that passes a test, among some cards. The first F cards with one card more.
use Rattle.std.proofs.Common.{◌≡◌, ℕ, zero, suc, ◌+◌, ◌<◌, Bool, true, false, cond, List, [], ◌∷◌, ◌++◌, length, take, drop, get_or, Option, None, Some, refl, sym, ap, ◌∙◌, subst, arith}
use Rattle.std.proofs.lemmas.List.{length-take-le, take-append-drop}
use Rattle.std.specs.Cmp.Lexicographic.{pointwise}
use Rattle.std.specs.List.{cons_option, slice_get}
use Rattle.std.specs.Map.{lookup}
use Rattle.std.specs.Option.{option_and_then, option_map_or, option_or}
use Rattle.std.specs.Prelude.{nat_eq, find}
use Rattle.rpg_cards.proofs.FirstLemmas.{first_before, first_more, only_before}
use Rattle.rpg_cards.proofs.ItemLemmas.{take_one}
use Rattle.rpg_cards.specs.Cards.{file_on}
use Rattle.rpg_cards.specs.Files.{files}
use Rattle.rpg_cards.specs.First.{first_at}
use Rattle.rpg_card_index.specs.Index.{file_of_card_at, first_file, first_with, has_such_file, is_for, is_file_named, place_before, place_of_card, AreFirstFiles, NotesFile}
use Rattle.rpg_card_index.specs.declared.first_files.FirstFiles.{FirstFiles}
use Rattle.rpg_cards.specs.declared.spec_card.SpecCard.{SpecCard}
use Rattle.rpg_sheet_specs.specs.declared.file.FileSpec.{FileSpec}

-- ---- the card at a place

at_front : {X : Type 0} (i : ℕ) (xs : List X) (y : X) (ys : List X) → drop i xs ≡ y ∷ ys → slice_get xs i ≡ Some y
at_front zero [] y ys e = absurd cc
at_front zero (x ∷ xs) y ys e = cc
at_front (suc i) [] y ys e = absurd cc
at_front (suc i) (x ∷ xs) y ys e = at_front i xs y ys e

after_front : {X : Type 0} (i : ℕ) (xs : List X) (y : X) (ys : List X) → drop i xs ≡ y ∷ ys → drop (suc i) xs ≡ ys
after_front zero [] y ys e = absurd cc
after_front zero (x ∷ xs) y ys e = cc
after_front (suc i) [] y ys e = absurd cc
after_front (suc i) (x ∷ xs) y ys e = after_front i xs y ys e

module _ (test : FileSpec → Bool) where
  found_in : (all : List SpecCard) (i : ℕ) (cs rest : List SpecCard) → drop i all ≡ cs ++ rest → file_of_card_at all (first_at (has_such_file test) place_of_card i cs) ≡ find test (files cs)
  found_in all i [] rest e = refl
  found_in all i (c ∷ cs) rest e = by_file (file_on c.spec) refl (found_in all (i + 1) cs rest (ap (λ k. drop k all) next ∙ after_front i all c (cs ++ rest) e))
    where
      next : i + 1 ≡ suc i
      next = omega arith

      here : file_of_card_at all (Some i) ≡ file_on c.spec
      here = ap (option_and_then (λ (d : SpecCard). file_on d.spec)) (at_front i all c (cs ++ rest) e)

      by_test : (f : FileSpec) (b : Bool) → file_on c.spec ≡ Some f → file_of_card_at all (first_at (has_such_file test) place_of_card (i + 1) cs) ≡ find test (files cs)
          → file_of_card_at all (cond b (Some i) (first_at (has_such_file test) place_of_card (i + 1) cs)) ≡ cond b (Some f) (find test (files cs))
      by_test f true is more = here ∙ is
      by_test f false is more = more

      by_file : (o : Option FileSpec) → file_on c.spec ≡ o → file_of_card_at all (first_at (has_such_file test) place_of_card (i + 1) cs) ≡ find test (files cs)
          → file_of_card_at all (cond (option_map_or test o false) (Some i) (first_at (has_such_file test) place_of_card (i + 1) cs)) ≡ find test (cons_option o (files cs))
      by_file None is more = more
      by_file (Some f) is more = by_test f (test f) is more

  before_place : (n : ℕ) (o : Option ℕ) → place_before n o ≡ only_before (λ (p : ℕ). p) n o
  before_place n None = refl
  before_place n (Some i) = refl

  -- what is found among the first n cards
  pub found_before : (cards : List SpecCard) (n : ℕ) (place : Option ℕ) → place ≡ first_file test cards → file_of_card_at cards (place_before n place) ≡ find test (files (take n cards))
  found_before cards n place first =
      ap (λ o. file_of_card_at cards (place_before n o)) first ∙ ap (file_of_card_at cards) (before_place n (first_file test cards))
      ∙ ap (file_of_card_at cards) (sym (first_before (has_such_file test) place_of_card (λ (p : ℕ). p) (λ i c. refl) n cards))
      ∙ found_in cards 0 (take n cards) (drop n cards) (sym (take-append-drop n cards))

-- ---- one more card

-- the first files of the cards up to one, and with it
pub files_more : (cards : List SpecCard) (i place : ℕ) (c : SpecCard) (old new : FirstFiles) → i < length cards → c ≡ get_or cards i c → place ≡ i → AreFirstFiles old (take i cards) → NotesFile place c old new
    → AreFirstFiles new (take (i + 1) cards)
files_more cards i place c old new lt is at are notes =
    let front = take i cards in
    let here : place ≡ length front = let long = length-take-le i cards (omega arith) in omega arith in
    subst (AreFirstFiles new) (sym (take_one cards i c lt is)) (record {
      named = λ name.
          first_more (has_such_file (is_file_named name)) place_of_card _ _ front (c ∷ []) (are.named name)
          (notes.named name ∙ ap (λ k. option_or (lookup (pointwise nat_eq name) old.names.entries) (cond (has_such_file (is_file_named name) c) (Some k) None)) here);
      used = λ u.
          first_more (has_such_file (is_for u)) place_of_card _ _ front (c ∷ []) (are.used u) (notes.used u ∙ ap (λ k. option_or (first_with old.uses u) (cond (has_such_file (is_for u) c) (Some k) None)) here);
    })
