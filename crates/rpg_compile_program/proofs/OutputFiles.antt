-- The files of a faultless source: one of each use, each with a length.
use Rattle.std.proofs.Common.{◌≡◌, ℕ, ◌≤◌, Bool, true, false, not, cond, List, [], ◌∷◌, ◌++◌, Option, None, Some, refl, sym, ap, ◌∙◌, subst, append_assoc}
use Rattle.std.proofs.lemmas.Bool.{and_parts, leb-true, not-false, or_parts}
use Rattle.std.proofs.lemmas.List.Elements.{filter_map-append}
use Rattle.std.proofs.lemmas.List.Folds.{find-append}
use Rattle.std.specs.Cmp.Lexicographic.{pointwise}
use Rattle.std.specs.List.{cons_option}
use Rattle.std.specs.Option.{option_map_or, option_or}
use Rattle.std.specs.Prelude.{find, is_some, nat_eq}
use Rattle.rpg_cards.specs.Cards.{file_on}
use Rattle.rpg_cards.specs.Files.{file_by, file_for, file_named, file_use, files, same_use}
use Rattle.rpg_cards.specs.declared.files.FileUse.{FileUse}
use Rattle.rpg_cards.specs.declared.files.FileUse.TheVariants.{Primary, Secondary, Printer, Disk}
use Rattle.rpg_cards.specs.declared.spec_card.SpecCard.{SpecCard}
use Rattle.rpg_faults_limits.specs.Files.{bad_file, lacks_file, longest_in_file}
use Rattle.rpg_sheet_specs.specs.declared.file.FileSpec.{FileSpec}

same_use-self : (u : FileUse) → same_use u u ≡ true
same_use-self Primary = refl
same_use-self Secondary = refl
same_use-self Printer = refl
same_use-self Disk = refl

none_if : (o : Option FileSpec) → is_some o ≡ false → o ≡ None
none_if None e = refl
none_if (Some f) e = cc

files-append : (xs ys : List SpecCard) → files (xs ++ ys) ≡ files xs ++ files ys
files-append xs ys = filter_map-append (λ (c : SpecCard). file_on c.spec) xs ys

module _ (cards : List SpecCard)
    (fit : (before : List SpecCard) (c : SpecCard) (after : List SpecCard) → cards ≡ before ++ c ∷ after → option_map_or (bad_file before) (file_on c.spec) false ≡ false) where
  -- a file that is the one of its use, and has a length
  pub record IsOwn (f : FileSpec) : Type 0 where
    pub only : file_for (file_use f) cards ≡ Some f
    pub lowest : 1 ≤ f.record_length
    pub highest : f.record_length ≤ longest_in_file (file_use f)

  first_is : (before : List SpecCard) (c : SpecCard) (after : List SpecCard) (f : FileSpec) → cards ≡ before ++ c ∷ after → file_on c.spec ≡ Some f → IsOwn f
  first_is before c after f split is =
      let valid : bad_file before f ≡ false = subst (λ (o : Option FileSpec). option_map_or (bad_file before) o false ≡ false) is (fit before c after split) in
      let two = or_parts _ _ valid in
      let one = or_parts _ _ two.0 in
      let alone = none_if (file_for (file_use f) before) one.1 in
      let test = λ (g : FileSpec). same_use (file_use f) (file_use g) in
      let here : find test (files (c ∷ after)) ≡ Some f =
      ap (λ (o : Option FileSpec). find test (cons_option o (files after))) is ∙ ap (λ b. cond b (Some f) (find test (files after))) (same_use-self (file_use f)) in
      let within = and_parts _ _ (not-false _ two.1) in
      record {
        only = ap (file_for (file_use f)) split ∙ ap (find test) (files-append before (c ∷ after)) ∙ find-append test (files before) (files (c ∷ after))
            ∙ ap (λ (o : Option FileSpec). option_or o (find test (files (c ∷ after)))) alone ∙ here;
        lowest = leb-true _ _ within.0;
        highest = leb-true _ _ within.1;
      }

  -- each file of the source is such a one
  pub found_from : (test : FileSpec → Bool) (f : FileSpec) (before after : List SpecCard) → cards ≡ before ++ after → find test (files after) ≡ Some f → IsOwn f
  found_from test f before [] split e = cc
  found_from test f before (c ∷ cs) split e = by_file (λ h. found_from test f (before ++ c ∷ []) cs (split ∙ sym (append_assoc before (c ∷ []) cs)) h) (file_on c.spec) refl e
    where
      by_file : (find test (files cs) ≡ Some f → IsOwn f) → (o : Option FileSpec) → file_on c.spec ≡ o → find test (cons_option o (files cs)) ≡ Some f → IsOwn f
      by_file later None is h = later h
      by_file later (Some g) is h = by_test later g is (test g) h
        where
          by_test : (find test (files cs) ≡ Some f → IsOwn f) → (g : FileSpec) → file_on c.spec ≡ Some g → (b : Bool) → cond b (Some g) (find test (files cs)) ≡ Some f → IsOwn f
          by_test later g is true h = let same : g ≡ f = cc in first_is before c cs f split (is ∙ ap Some same)
          by_test later g is false h = later h

  pub named_is : (name : List ℕ) (f : FileSpec) → file_named name cards ≡ Some f → IsOwn f
  named_is name f e = found_from (λ g. pointwise nat_eq name g.name) f [] cards refl e

  -- the file with a name, of a use that passes a test
  abbrev pub HasFile : (FileUse → Bool) → Option (List ℕ) → Type 0
  HasFile test name = (f : FileSpec) × (file_by name cards ≡ Some f) × (test (file_use f) ≡ true) × IsOwn f

  named_fit : (test : FileUse → Bool) (name : List ℕ) (o : Option FileSpec) → file_named name cards ≡ o → option_map_or (λ (f : FileSpec). not (test (file_use f))) o true ≡ false → HasFile test (Some name)
  named_fit test name None e h = cc
  named_fit test name (Some f) e h = (f, e, not-false (test (file_use f)) h, named_is name f e)

  -- a heading names a file of that use, or comes after another
  pub named_or_before : (test : FileUse → Bool) (is_following : Bool) (name last : Option (List ℕ)) → lacks_file cards test is_following name ≡ false → (is_following ≡ true → HasFile test last) →
      HasFile test (option_or name last)
  named_or_before test is_following None last h known = known (not-false is_following h)
  named_or_before test is_following (Some name) last h known = named_fit test name (file_named name cards) refl h
